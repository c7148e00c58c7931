use Rattle.std.proofs.Common.{◌≡◌, ◌∙◌, ◌<◌, ◌++◌, ℕ, List, length, get_or, slice_get, ap, sym, subst, inl, inr, arith}
use Rattle.std.proofs.lemmas.Option.{get_or_from_slice_get}
use Rattle.graph_edit.specs.Editing.{change_each, put_each, is_assignment}
use Rattle.graph_edit.specs.EditingLaws.{change_each_length}
use Rattle.motion_rewrite.specs.EditingOrder.{edited_in_order}
use Rattle.flow_graph.specs.Graphs.{GraphShape, AllWithin}
use Rattle.graph_edit.specs.Insertions.{CanRewrite, ChangeBelow, InsertionsBelow}
use Rattle.path_laws.specs.Paths.{AreRows}
use Rattle.motion_rewrite.specs.Flatten.{by_placement, inserted, insertions_of, reading}
use Rattle.fresh_names.specs.FreshNames.{AreTemporaryNames}
use Rattle.motion_rewrite.specs.Temporaries.{temporaries_before, temporary}
use Rattle.motion_rewrite.proofs.Fitting.{placement_fits}
use Rattle.motion_rewrite.proofs.Insertions.{head_or_none}
use Rattle.motion_rewrite.specs.UseLaws.{uses_assign}
use Rattle.motion_rewrite.proofs.Rewritable.{IsRewritable, first_bit, replaced_use, rewritable, rewriting_by, start_free}
use Rattle.motion_rewrite.proofs.Rewriting.{insertions_alike, reading_alike, flattened_alike}
use Rattle.motion_rewrite.proofs.RowNumbers.{inserted_within}
use Rattle.motion_rewrite.proofs.flattening.rewritten.Goals as goal
use Rattle.motion_rewrite.proofs.flattening.rewritten.Goals.{In_ok-room}

rewritable_here : (c : In_ok-room) → IsRewritable c.args.graph.now c.args.table.now c.args.placement.now
rewritable_here c = rewritable _ _ _ _ c.nodes-nodes.ensures.value c.nodes-nodes.ensures.graph (omega (arith, c.shared-shared.ensures.value, c.shared-shared.ensures.shares.count)) c.requires.over c.requires.insert c.requires.replace c.requires.placed

-- the list of the temporaries gives their numbers
numbered : (c : In_ok-room) → (i : ℕ) → i < length c.args.table.now → get_or c.as_slice-temps.result.now i 0 ≡ temporary (length c.args.graph.now.vars) c.args.placement.now.insert i
numbered c = λ i i_in.
    get_or_from_slice_get c.as_slice-temps.result.now i (temporary (length c.vars.result.now) c.args.placement.now.insert i) 0
    (ap (λ (l : List ℕ). slice_get l i) c.as_slice-temps.ensures.value ∙ c.in_ok-temporaries.ensures.numbers i (subst (λ k. i < k) (sym c.len.ensures.len) i_in))
    ∙ ap (λ k. temporary k c.args.placement.now.insert i) (ap length c.vars.ensures)

names_are : (c : In_ok-room) → AreTemporaryNames c.args.graph.now.vars (temporaries_before c.args.placement.now.insert (length c.args.table.now)) c.in_ok-names.names.items
names_are c =
    let count = c.in_ok-temporaries.ensures.count ∙ ap (temporaries_before c.args.placement.now.insert) c.len.ensures.len in
    subst (λ k. AreTemporaryNames c.args.graph.now.vars k c.in_ok-names.names.items) count
    (subst (λ (vars : List (List ℕ)). AreTemporaryNames vars c.in_ok-temporaries.temporaries.count c.in_ok-names.names.items) c.vars-2.ensures c.in_ok-names.ensures)

fits : (c : In_ok-room) → CanRewrite (rewriting_by c.args.graph.now c.args.table.now c.args.placement.now) c.in_ok-names.names.items c.args.graph.now
fits c = placement_fits (rewritable_here c) c.in_ok-names.names.items (names_are c)

pub open-requires : goal.open-requires
open-requires c = (fits (goal.at.open-requires c).In_ok-room).names

-- ---- the uses

pub read_temporaries-requires-clause-uses : goal.read_temporaries-requires-clause-uses
read_temporaries-requires-clause-uses c = λ n lt.
    let p = c.args.placement.now in
    let r = rewritable_here (goal.at.read_temporaries-requires-clause-uses c).In_ok-room in
    elim (head_or_none (inserted p.replace n)) [
      | inl none ↦ inl (ap (reading (λ i. get_or c.as_slice-temps.result.now i 0)) none)
      | inr first ↦
          let set = first_bit r n first.0 first.1 first.2 in
          let u = replaced_use r n first.0 set in
          let found = uses_assign c.args.graph.now u.0 n u.2 in
          inr (ap (λ (g : GraphShape). is_assignment (slice_get g.nodes n)) c.in_ok-editor.ensures.graph ∙ ap is_assignment found.2)
    ]

pub read_temporaries-requires-clause-vars : goal.read_temporaries-requires-clause-vars
read_temporaries-requires-clause-vars c = λ n lt.
    let p = c.args.placement.now in
    let known = (goal.at.read_temporaries-requires-clause-vars c).In_ok-room in
    let same = reading_alike (λ i. get_or c.as_slice-temps.result.now i 0) (temporary (length c.args.graph.now.vars) p.insert) c.args.table.now (numbered known) (inserted p.replace n) (inserted_within (length c.args.graph.now.nodes) (length c.args.table.now) p.replace c.requires.replace n) in
    let vars = ap (λ (g : GraphShape). length g.vars) c.in_ok-editor.ensures.graph in
    subst (λ k. ChangeBelow k (reading (λ i. get_or c.as_slice-temps.result.now i 0) (inserted p.replace n))) (sym vars)
    (subst (ChangeBelow (length (c.args.graph.now.vars ++ c.in_ok-names.names.items))) (sym same) ((fits known).change n (omega (arith, lt, c.requires.replace.len))))

-- ---- the evaluations

pub put_evaluations-requires-clause-rows : goal.put_evaluations-requires-clause-rows
put_evaluations-requires-clause-rows c =
    let p = c.args.placement.now in
    let changes = λ (n : ℕ). reading (λ i. get_or c.as_slice-temps.result.now i 0) (inserted p.replace n) in
    let long = ap (λ (g : GraphShape). length g.nodes) c.read_temporaries.ensures.graph ∙ change_each_length changes (length p.replace) 0 c.in_ok-editor.editor.graph.nodes ∙ ap (λ (g : GraphShape). length g.nodes) c.in_ok-editor.ensures.graph in
    subst (λ k. AreRows k (length c.args.table.now) p.insert) (sym long) c.requires.insert

pub put_evaluations-requires-clause-start : goal.put_evaluations-requires-clause-start
put_evaluations-requires-clause-start c = start_free (rewritable_here (goal.at.put_evaluations-requires-clause-start c).In_ok-room)

pub put_evaluations-requires-clause-vars : goal.put_evaluations-requires-clause-vars
put_evaluations-requires-clause-vars c = λ n lt.
    let p = c.args.placement.now in
    let known = (goal.at.put_evaluations-requires-clause-vars c).In_ok-room in
    let same = insertions_alike (λ i. get_or c.as_slice-temps.result.now i 0) (temporary (length c.args.graph.now.vars) p.insert) c.args.table.now (numbered known) (inserted p.insert n) (inserted_within (length c.args.graph.now.nodes) (length c.args.table.now) p.insert c.requires.insert n) in
    let vars = ap (λ (g : GraphShape). length g.vars) c.read_temporaries.ensures.graph ∙ ap (λ (g : GraphShape). length g.vars) c.in_ok-editor.ensures.graph in
    subst (λ k. InsertionsBelow k (insertions_of (λ i. get_or c.as_slice-temps.result.now i 0) c.args.table.now (inserted p.insert n))) (sym vars)
    (subst (InsertionsBelow (length (c.args.graph.now.vars ++ c.in_ok-names.names.items))) (sym same) ((fits known).put n (omega (arith, lt, c.requires.insert.len))))

-- ---- the whole

pub returns-clause-flattened : goal.returns-clause-flattened
returns-clause-flattened c =
    let p = c.args.placement.now in
    let graph = c.args.graph.now in
    let known = (goal.at.returns-clause-flattened c).In_ok-room in
    let temp : ℕ → ℕ = λ i. get_or c.as_slice-temps.result.now i 0 in
    let puts = λ (n : ℕ). insertions_of temp c.args.table.now (inserted p.insert n) in
    let changes = λ (n : ℕ). reading temp (inserted p.replace n) in
    let within : AllWithin graph.nodes = λ m slot s edge. ((rewritable_here known).is_graph.can.succs m slot s edge).1 in
    let put = c.in_ok-flat.ensures ∙ c.put_evaluations.ensures in
    let read = c.read_temporaries.ensures.graph in
    let opened = c.in_ok-editor.ensures.graph in
    record {
      names = c.in_ok-names.names.items;
      are_names = names_are known;
      name_is = ap (λ (g : GraphShape). g.name) put ∙ ap (λ (g : GraphShape). g.name) read ∙ ap (λ (g : GraphShape). g.name) opened;
      shared_is = ap (λ (g : GraphShape). g.shared) put ∙ ap (λ (g : GraphShape). g.shared) read ∙ ap (λ (g : GraphShape). g.shared) opened;
      vars_are = ap (λ (g : GraphShape). g.vars) put ∙ ap (λ (g : GraphShape). g.vars) read ∙ ap (λ (g : GraphShape). g.vars) opened;
      received_are = ap (λ (g : GraphShape). g.received) put ∙ ap (λ (g : GraphShape). g.received) read ∙ ap (λ (g : GraphShape). g.received) opened;
      nodes_are = ap (λ (g : GraphShape). g.nodes) put
          ∙ ap (λ (g : GraphShape). put_each puts (length p.insert) 0 g.nodes) read
          ∙ ap (λ (g : GraphShape). put_each puts (length p.insert) 0 (change_each changes (length p.replace) 0 g.nodes)) opened
          ∙ ap (λ k. put_each puts k 0 (change_each changes (length p.replace) 0 graph.nodes)) c.requires.insert.len
          ∙ ap (λ k. put_each puts (length graph.nodes) 0 (change_each changes k 0 graph.nodes)) c.requires.replace.len
          ∙ edited_in_order (by_placement temp c.args.table.now p) graph.nodes within
          ∙ flattened_alike temp (temporary (length graph.vars) p.insert) c.args.table.now (numbered known) p graph.nodes within c.requires.insert c.requires.replace;
    }
