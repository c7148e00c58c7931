-- The nodes of a block, from its last to its first: what is live after each, and which of them are flagged as dead; and
-- what the block reads and assigns as a whole.
use Rattle.std.proofs.Common.{◌≡◌, ◌≢◌, ℕ, suc, ◌+◌, ◌-◌, ◌<◌, ◌≤◌, ◌↔◌, ◌||◌, ◌&&◌, not, if◌then◌else◌, Bool, true, false, List, [], drop, length, replicate, reverse, slice_get, slice_index_or, slice_set, Some, refl, sym, ap, inl, inr, ◌∙◌, subst, arith, true≢false}
use Rattle.std.specs.List.{list_any}
use Rattle.std.proofs.Math.Seq.{drop-length}
use Rattle.std.proofs.lemmas.Bool.{and_from, and_parts, cases_Bool, cases_eq, eq-eqb, ne_eqb, not-true, not_from_false}
use Rattle.std.proofs.lemmas.List.{length-set}
use Rattle.std.proofs.lemmas.Option.{slice_get-get_or, slice_get_within}
use Rattle.mir_base.specs.declared.instructions.Rhs.{Rhs}
use Rattle.mir_base.specs.Expressions.{divides}
use Rattle.mir_base.specs.Shapes.{AllBelow}
use Rattle.flow_graph.specs.declared.nodes.Node.{Node}
use Rattle.flow_graph.specs.declared.nodes.Node.TheVariants.{Start, Skip, Assign, Print, Guard, Call, Test, Return}
use Rattle.flow_graph.specs.BlockLaws.{chain_ends, chain_inner, chain_within}
use Rattle.flow_graph.specs.Blocks.{IsBlocks, StandsIn}
use Rattle.flow_graph.specs.BoundLaws.{edge_within}
use Rattle.flow_graph.specs.Graphs.{GraphShape, IsGraph, node_reads, node_vars}
use Rattle.flow_graph.specs.ListLaws.{drop_next, set_elsewhere, set_here}
use Rattle.flow_graph.specs.Numbering.{is_in}
use Rattle.flow_graph.specs.PathLaws.{end_stands}
use Rattle.flow_graph.specs.Paths.{Ends}
use Rattle.path_laws.specs.Blockwise.{passed, passed_all}
use Rattle.path_laws.specs.BlockwiseLaws.{passed_apart}
use Rattle.path_laws.specs.Paths.{AreRows, has_bit}
use Rattle.graph_edit.specs.Accesses.{assigns_at, assigns_var, reads_at, reads_var, assigned_vars}
use Rattle.dead_code.specs.Dead.{AreAccessesTo, AreFlaggedTo, AreLiveAfterFrom, PassesBack, TellDead, is_dead_by, live_past}
use Rattle.dead_code.specs.LiveRows.{IsMarkedAt}
use Rattle.dead_code.specs.Liveness.{IsLiveAfter, IsLiveBefore}
use Rattle.dead_code.specs.Pruned.{IsDeadAt}
use Rattle.graph_edit.specs.VarLaws.{assigned_is_in}
use Rattle.dead_code.proofs.LiveBlocks.{any_reverse, live_back, live_glued, past_first}
use Rattle.dead_code.proofs.PrunedMarks.{false_rows, marked_or, no_bits, still_rows}

-- ---- one node

-- a bit of a row that is passed back over a node is passed by what the node reads and assigns
pub passed_bit : (graph : GraphShape) (node : Node) (n row x : ℕ) (old new : List (List Bool)) → slice_get graph.nodes n ≡ Some node → PassesBack graph node row old new
    → has_bit new x row ≡ passed (reads_at graph x) (assigns_at graph x) n (has_bit old x row)
passed_bit graph node n row x old new at passes =
    passes.bits row x
    ∙ ap (λ b. if b then is_in x (node_reads graph node) || (has_bit old x row && not (is_in x (assigned_vars graph node))) else has_bit old x row) (eq-eqb row row refl)
    ∙ ap (λ b. is_in x (node_reads graph node) || (has_bit old x row && not b)) (assigned_is_in graph node x)
    ∙ sym (ap (λ o. reads_var graph x o || (has_bit old x row && not (assigns_var graph x o))) at)

-- the bits of other rows stay
pub passed_other : (graph : GraphShape) (node : Node) (row other x : ℕ) (old new : List (List Bool)) → row ≢ other → PassesBack graph node row old new → has_bit new x other ≡ has_bit old x other
passed_other graph node row other x old new apart passes =
    passes.bits other x ∙ ap (λ b. if b then is_in x (node_reads graph node) || (has_bit old x other && not (is_in x (assigned_vars graph node))) else has_bit old x other) (ne_eqb row other apart)

-- ---- dead assignments

module _ (graph : GraphShape) (is_graph : IsGraph graph.vars graph.received graph.nodes) (live : List (List Bool)) (row n : ℕ) (tells : (x : ℕ) → x < length graph.vars → (has_bit live x row ≡ true) ↔ IsLiveAfter graph x n) where
  assigned_dead : (x next : ℕ) (rhs : Rhs) → slice_get graph.nodes n ≡ Some (Assign x rhs next) → (not (divides rhs) && not (has_bit live x row)) ≡ true → IsDeadAt graph n
  assigned_dead x next rhs is h =
      let parts = and_parts (not (divides rhs)) (not (has_bit live x row)) h in
      record {
        var = x;
        rhs = rhs;
        next = next;
        is = is;
        sinkable = not-true (divides rhs) parts.0;
        unread = λ after. true≢false (sym ((tells x (is_graph.can.below n (Assign x rhs next) is).0).1 after) ∙ not-true (has_bit live x row) parts.1);
      }

  dead_from : (node : Node) → slice_get graph.nodes n ≡ Some node → is_dead_by live row node ≡ true → IsDeadAt graph n
  dead_from (Start next) is h = cc
  dead_from (Skip next) is h = cc
  dead_from (Assign x rhs next) is h = assigned_dead x next rhs is h
  dead_from (Print a next) is h = cc
  dead_from (Guard test number next) is h = cc
  dead_from (Call into unit operands next) is h = cc
  dead_from (Test test taken other) is h = cc
  dead_from (Return a) is h = cc

  dead_back : (node : Node) → slice_get graph.nodes n ≡ Some node → IsDeadAt graph n → is_dead_by live row node ≡ true
  dead_back node is d =
      let both : Some node ≡ Some (Assign d.var d.rhs d.next) = sym is ∙ d.is in
      let same : node ≡ Assign d.var d.rhs d.next = cc in
      let unset : has_bit live d.var row ≡ false = elim (cases_Bool (has_bit live d.var row)) [
        | inl set ↦ absurd (d.unread ((tells d.var (is_graph.can.below n (Assign d.var d.rhs d.next) d.is).0).0 set))
        | inr unset ↦ unset
      ] in
      ap (is_dead_by live row) same ∙ and_from (not (divides d.rhs)) (not (has_bit live d.var row)) (not_from_false (divides d.rhs) d.sinkable) (not_from_false (has_bit live d.var row) unset)

  -- the row of what is live after a node tells whether the node is dead
  pub dead_told : (node : Node) → slice_get graph.nodes n ≡ Some node → (is_dead_by live row node ≡ true) ↔ IsDeadAt graph n
  dead_told node is = (dead_from node is, dead_back node is)

-- ---- the nodes of a block, as far as a loop has come

module _ (graph : GraphShape) (lists : List (List ℕ)) (block : ℕ) (list : List ℕ) where
  -- the row of the block is passed back over the last nodes of the list, so many of them: it tells what is live after the
  -- one before these
  pub record AreLiveBack (back : ℕ) (live : List (List Bool)) : Type 0 where
    pub shape : AreRows (length lists) (length graph.vars) live
    pub later : (b x last : ℕ) (other : List ℕ) → block < b → x < length graph.vars → slice_get lists b ≡ Some other → Ends last other → (has_bit live x b ≡ true) ↔ IsLiveAfter graph x last
    pub here : (place n x : ℕ) → place + back + 1 ≡ length list → slice_get list place ≡ Some n → x < length graph.vars → (has_bit live x block ≡ true) ↔ IsLiveAfter graph x n

  -- and these nodes are flagged
  pub record AreFlaggedBack (back : ℕ) (live : List (List Bool)) (dead : List Bool) : Type 0 where
    pub shape : AreRows (length lists) (length graph.vars) live
    pub later : (b x last : ℕ) (other : List ℕ) → block < b → x < length graph.vars → slice_get lists b ≡ Some other → Ends last other → (has_bit live x b ≡ true) ↔ IsLiveAfter graph x last
    pub here : (place n x : ℕ) → place + back + 1 ≡ length list → slice_get list place ≡ Some n → x < length graph.vars → (has_bit live x block ≡ true) ↔ IsLiveAfter graph x n
    pub long : length dead ≡ length graph.nodes
    pub early : (b n : ℕ) (flag : Bool) → b < block → StandsIn lists b n → slice_get dead n ≡ Some flag → (flag ≡ true) ↔ IsDeadAt graph n
    pub these : (place n : ℕ) (flag : Bool) → length list ≤ place + back → slice_get list place ≡ Some n → slice_get dead n ≡ Some flag → (flag ≡ true) ↔ IsDeadAt graph n

  -- the rows say what the last nodes of the list read and assign, so many of them, and what the blocks before this one
  -- do
  pub record AreAccessedBack (back : ℕ) (reads assigns : List (List Bool)) : Type 0 where
    pub reads_shape : AreRows (length lists) (length graph.vars) reads
    pub assigns_shape : AreRows (length lists) (length graph.vars) assigns
    pub read : (b x : ℕ) (other : List ℕ) → b < block → slice_get lists b ≡ Some other → has_bit reads x b ≡ live_past graph x false other
    pub assigned : (b x : ℕ) (other : List ℕ) → b < block → slice_get lists b ≡ Some other → has_bit assigns x b ≡ list_any (assigns_at graph x) other
    pub later : (b x : ℕ) → block < b → (has_bit reads x b ≡ false) × (has_bit assigns x b ≡ false)
    pub here : (place x : ℕ) → place + back ≡ length list → has_bit reads x block ≡ live_past graph x false (drop place list)
    pub here_assigned : (place x : ℕ) → place + back ≡ length list → has_bit assigns x block ≡ list_any (assigns_at graph x) (drop place list)

  module _ (is_graph : IsGraph graph.vars graph.received graph.nodes) (are : IsBlocks graph.nodes lists) (is_block : slice_get lists block ≡ Some list) where
    -- a node of the list is one of the graph
    pub node_within : (place n : ℕ) → slice_get list place ≡ Some n → n < length graph.nodes
    node_within place n at = chain_within graph.nodes list place n (λ m k edge. edge_within graph.nodes m k edge) (are.blocks block list is_block).chain at

    -- what is not yet passed back over any node tells what is live after the last
    pub live_none : (live : List (List Bool)) → AreLiveAfterFrom graph lists block live → AreLiveBack 0 live
    live_none live after = record {
      shape = after.shape;
      later = λ b x last other lt x_in at ends. after.are b x last other (omega (arith, lt)) x_in at ends;
      here = λ place n x whole at x_in.
          let ends = chain_ends graph.nodes list (are.blocks block list is_block).chain in
          let last : slice_get list (length list - 1) ≡ Some ends.0 = end_stands list ends.0 ends.1 in
          let same_place : place ≡ length list - 1 = omega (arith, whole) in
          let both : Some n ≡ Some ends.0 = sym at ∙ ap (slice_get list) same_place ∙ last in
          let same : ends.0 ≡ n = cc in
          subst (λ k. (has_bit live x block ≡ true) ↔ IsLiveAfter graph x k) same (after.are block x ends.0 list (omega arith) x_in is_block ends.1);
    }

    module _ (back place n : ℕ) (node : Node) (live new : List (List Bool)) (before : AreLiveBack back live) (whole : place + back + 1 ≡ length list) (at : slice_get list place ≡ Some n) (node_is : slice_get graph.nodes n ≡ Some node) (passes : PassesBack graph node block live new) where
      -- passed back over one node more it tells what is live before this one
      pub live_told : (x : ℕ) → x < length graph.vars → (has_bit new x block ≡ true) ↔ IsLiveBefore graph x n
      live_told x x_in =
          let before_it = live_back graph x n (has_bit live x block) (node_within place n at) (before.here place n x whole at x_in) in
          let bit = passed_bit graph node n block x live new node_is passes in
          (λ h. before_it.0 (sym bit ∙ h), λ lives. bit ∙ before_it.1 lives)

      -- and so what is live after the one before it
      pub live_more : AreLiveBack (back + 1) new
      live_more = record {
        shape = record { len = passes.len ∙ before.shape.len; each = λ m m_in. passes.each m ∙ before.shape.each m m_in };
        later = λ b x last other lt x_in listed ends. subst (λ h. (h ≡ true) ↔ IsLiveAfter graph x last) (sym (passed_other graph node block b x live new (λ e. absurd (omega (arith, lt, e))) passes)) (before.later b x last other lt x_in listed ends);
        here = λ earlier m x whole' m_at x_in.
            let next : suc earlier ≡ place = omega (arith, whole, whole') in
            let inner = chain_inner graph.nodes list earlier n (are.blocks block list is_block).chain (ap (slice_get list) next ∙ at) in
            let both : Some inner.0 ≡ Some m = sym inner.1 ∙ m_at in
            let same : inner.0 ≡ m = cc in
            let told = live_told x x_in in
            let on = live_glued graph x inner.0 n inner.2 in
            subst (λ k. (has_bit new x block ≡ true) ↔ IsLiveAfter graph x k) same (λ h. on.0 (told.0 h), λ lives. told.1 (on.1 lives));
      }

    -- once it is passed back over all the block is done
    pub live_done : (back : ℕ) (live : List (List Bool)) → AreLiveBack back live → AreLiveAfterFrom graph lists (block + 1) live
    live_done back live all = record { shape = all.shape; are = λ b x last other le x_in listed ends. all.later b x last other (omega (arith, le)) x_in listed ends }

    -- no node is flagged yet
    pub flagged_none : (live : List (List Bool)) (dead : List Bool) → AreLiveAfterFrom graph lists block live → AreFlaggedTo graph lists block dead → AreFlaggedBack 0 live dead
    flagged_none live dead after before =
        let none = live_none live after in
        record {
          shape = none.shape;
          later = none.later;
          here = none.here;
          long = before.long;
          early = before.are;
          these = λ place n flag far at is. absurd (omega (arith, far, slice_get_within list place n at));
        }

    -- one node more is flagged
    pub flagged_more : (back place n : ℕ) (node : Node) (live new : List (List Bool)) (dead more : List Bool) → AreFlaggedBack back live dead → place + back + 1 ≡ length list → slice_get list place ≡ Some n → slice_get graph.nodes n ≡ Some node
        → more ≡ slice_set dead n (is_dead_by live block node) → PassesBack graph node block live new → AreFlaggedBack (back + 1) new more
    flagged_more back place n node live new dead more before whole at node_is more_is passes = record {
      shape = on.shape;
      later = on.later;
      here = on.here;
      long = ap length more_is ∙ length-set dead n (is_dead_by live block node) ∙ before.long;
      early = λ b m flag lt stands is. flag_told m flag is (λ old. before.early b m flag lt stands old);
      these = λ p m flag far m_at is. elim (cases_eq p place) as (λ _. (flag ≡ true) ↔ IsDeadAt graph m) [
        | inl same ↦ (let both : Some n ≡ Some m = sym at ∙ ap (slice_get list) (sym same) ∙ m_at in let is_n : n ≡ m = cc in flag_here m flag is_n is)
        | inr apart ↦ flag_told m flag is (λ old. before.these p m flag (omega (arith, far, whole, apart)) m_at old)
      ];
    }
      where
        on : AreLiveBack (back + 1) new
        on = live_more back place n node live new (record { shape = before.shape; later = before.later; here = before.here }) whole at node_is passes

        told : (is_dead_by live block node ≡ true) ↔ IsDeadAt graph n
        told = dead_told graph is_graph live block n (λ x x_in. before.here place n x whole at x_in) node node_is

        flag_here : (m : ℕ) (flag : Bool) → n ≡ m → slice_get more m ≡ Some flag → (flag ≡ true) ↔ IsDeadAt graph m
        flag_here m flag same is =
            let long = before.long in
            let set : slice_get (slice_set dead n (is_dead_by live block node)) n ≡ Some (is_dead_by live block node) = set_here dead n (is_dead_by live block node) (omega (arith, long, node_within place n at)) in
            let both : Some (is_dead_by live block node) ≡ Some flag = sym set ∙ ap (λ l. slice_get l n) (sym more_is) ∙ ap (slice_get more) same ∙ is in
            let value : is_dead_by live block node ≡ flag = cc in
            subst (λ f. (f ≡ true) ↔ IsDeadAt graph m) value (subst (λ k. (is_dead_by live block node ≡ true) ↔ IsDeadAt graph k) same told)

        flag_told : (m : ℕ) (flag : Bool) → slice_get more m ≡ Some flag → (slice_get dead m ≡ Some flag → (flag ≡ true) ↔ IsDeadAt graph m) → (flag ≡ true) ↔ IsDeadAt graph m
        flag_told m flag is old = elim (cases_eq m n) as (λ _. (flag ≡ true) ↔ IsDeadAt graph m) [
          | inl same ↦ flag_here m flag (sym same) is
          | inr apart ↦ old (sym (set_elsewhere dead n m (is_dead_by live block node) apart) ∙ ap (λ l. slice_get l m) (sym more_is) ∙ is)
        ]

    -- once all are flagged the block is done
    pub flagged_live : (back : ℕ) (live : List (List Bool)) (dead : List Bool) → AreFlaggedBack back live dead → AreLiveAfterFrom graph lists (block + 1) live
    flagged_live back live dead all = live_done back live (record { shape = all.shape; later = all.later; here = all.here })

    pub flagged_dead : (back : ℕ) (live : List (List Bool)) (dead : List Bool) → length list ≤ back → AreFlaggedBack back live dead → AreFlaggedTo graph lists (block + 1) dead
    flagged_dead back live dead late all = record {
      long = all.long;
      are = λ b n flag lt stands is. elim (cases_eq b block) as (λ _. (flag ≡ true) ↔ IsDeadAt graph n) [
        | inl same ↦
            let both : Some stands.list ≡ Some list = sym stands.listed ∙ ap (slice_get lists) same ∙ is_block in
            let same_list : stands.list ≡ list = cc in
            all.these stands.place n flag (omega (arith, late)) (subst (λ l. slice_get l stands.place ≡ Some n) same_list stands.is) is
        | inr apart ↦ all.early b n flag (omega (arith, lt, apart)) stands is
      ];
    }

    -- ---- reads and assignments

    -- no node of the block is passed yet
    pub accessed_none : (reads assigns : List (List Bool)) → AreAccessesTo graph lists block reads assigns → AreAccessedBack 0 reads assigns
    accessed_none reads assigns before = record {
      reads_shape = before.reads_shape;
      assigns_shape = before.assigns_shape;
      read = before.read;
      assigned = before.assigned;
      later = λ b x lt. before.later b x (omega (arith, lt));
      here = λ place x whole. (before.later block x (omega arith)).0 ∙ sym (ap (live_past graph x false) (nothing place whole));
      here_assigned = λ place x whole. (before.later block x (omega arith)).1 ∙ sym (ap (list_any (assigns_at graph x)) (nothing place whole));
    }
      where
        nothing : (place : ℕ) → place + 0 ≡ length list → drop place list ≡ []
        nothing place whole = let at_end : place ≡ length list = omega (arith, whole) in ap (λ k. drop k list) at_end ∙ drop-length list

    -- one node more is passed
    pub accessed_more : (back place n : ℕ) (node : Node) (reads assigns new marked : List (List Bool)) → AreAccessedBack back reads assigns → place + back + 1 ≡ length list → slice_get list place ≡ Some n → slice_get graph.nodes n ≡ Some node
        → IsMarkedAt true block (assigned_vars graph node) assigns marked → PassesBack graph node block reads new → AreAccessedBack (back + 1) new marked
    accessed_more back place n node reads assigns new marked before whole at node_is marks passes = record {
      reads_shape = record { len = passes.len ∙ before.reads_shape.len; each = λ m m_in. passes.each m ∙ before.reads_shape.each m m_in };
      assigns_shape = still_rows true (length lists) (length graph.vars) block (assigned_vars graph node) assigns marked before.assigns_shape marks;
      read = λ b x other lt listed. passes_early b x lt ∙ before.read b x other lt listed;
      assigned = λ b x other lt listed. marked_apart b x (λ e. absurd (omega (arith, lt, e))) ∙ before.assigned b x other lt listed;
      later = λ b x lt. (passed_other graph node block b x reads new (λ e. absurd (omega (arith, lt, e))) passes ∙ (before.later b x lt).0, marked_apart b x (λ e. absurd (omega (arith, lt, e))) ∙ (before.later b x lt).1);
      here = λ p x whole'.
          let same : p ≡ place = omega (arith, whole, whole') in
          passed_bit graph node n block x reads new node_is passes
          ∙ ap (passed (reads_at graph x) (assigns_at graph x) n) (before.here (suc place) x (omega (arith, whole)))
          ∙ sym (past_first graph x n (drop (suc place) list) false)
          ∙ ap (live_past graph x false) (sym (drop_next list place n at) ∙ ap (λ k. drop k list) (sym same));
      here_assigned = λ p x whole'.
          let same : p ≡ place = omega (arith, whole, whole') in
          marked_or block (assigned_vars graph node) assigns marked marks block x
          ∙ ap (λ b. has_bit assigns x block || (b && is_in x (assigned_vars graph node))) (eq-eqb block block refl)
          ∙ ap (λ b. has_bit assigns x block || b) (assigned_is_in graph node x ∙ sym (ap (assigns_var graph x) node_is))
          ∙ ap (λ b. b || assigns_at graph x n) (before.here_assigned (suc place) x (omega (arith, whole)))
          ∙ turn (list_any (assigns_at graph x) (drop (suc place) list)) (assigns_at graph x n)
          ∙ ap (list_any (assigns_at graph x)) (sym (drop_next list place n at) ∙ ap (λ k. drop k list) (sym same));
    }
      where
        turn : (a b : Bool) → (a || b) ≡ (b || a)
        turn true true = refl
        turn true false = refl
        turn false true = refl
        turn false false = refl

        marked_apart : (b x : ℕ) → (b ≡ block → ⊥) → has_bit marked x b ≡ has_bit assigns x b
        marked_apart b x apart = marks.bits b x ∙ ap (λ e. if e && is_in x (assigned_vars graph node) then true else has_bit assigns x b) (ne_eqb block b (λ e. apart (sym e)))

        passes_early : (b x : ℕ) → b < block → has_bit new x b ≡ has_bit reads x b
        passes_early b x lt = passed_other graph node block b x reads new (λ e. absurd (omega (arith, lt, e))) passes

    -- once all are passed the block is done
    pub accessed_all : (back : ℕ) (reads assigns : List (List Bool)) → back ≡ length list → AreAccessedBack back reads assigns → AreAccessesTo graph lists (block + 1) reads assigns
    accessed_all back reads assigns whole all = record {
      reads_shape = all.reads_shape;
      assigns_shape = all.assigns_shape;
      read = λ b x other lt listed. elim (cases_eq b block) as (λ _. has_bit reads x b ≡ live_past graph x false other) [
        | inl same ↦ ap (has_bit reads x) same ∙ all.here 0 x (omega (arith, whole)) ∙ ap (live_past graph x false) (same_list b other same listed)
        | inr apart ↦ all.read b x other (omega (arith, lt, apart)) listed
      ];
      assigned = λ b x other lt listed. elim (cases_eq b block) as (λ _. has_bit assigns x b ≡ list_any (assigns_at graph x) other) [
        | inl same ↦ ap (has_bit assigns x) same ∙ all.here_assigned 0 x (omega (arith, whole)) ∙ ap (list_any (assigns_at graph x)) (same_list b other same listed)
        | inr apart ↦ all.assigned b x other (omega (arith, lt, apart)) listed
      ];
      later = λ b x le. all.later b x (omega (arith, le));
    }
      where
        same_list : (b : ℕ) (other : List ℕ) → b ≡ block → slice_get lists b ≡ Some other → drop 0 list ≡ other
        same_list b other same listed = let both : Some list ≡ Some other = sym is_block ∙ ap (slice_get lists) (sym same) ∙ listed in let is : list ≡ other = cc in is

-- ---- one turn of a loop from the last node of a block to its first

module _ (graph : GraphShape) (nodes : List Node) (nodes_are : nodes ≡ graph.nodes) (is_graph : IsGraph graph.vars graph.received nodes) (lists : List (List ℕ)) (are : IsBlocks graph.nodes lists) (block : ℕ) (list : List ℕ) (is_block : slice_get lists block ≡ Some list) where
  -- what is said of the nodes holds of the graph
  pub turn_graph : IsGraph graph.vars graph.received graph.nodes
  turn_graph = subst (λ (l : List Node). IsGraph graph.vars graph.received l) nodes_are is_graph

  module _ (back : ℕ) (early : back < length list) where
    -- the node to which the turn comes stands so many places before the last
    pub turn_at : slice_get list (length list - 1 - back) ≡ Some (slice_index_or list (length list - 1 - back) 0)
    turn_at = slice_get-get_or list (length list - 1 - back) 0 (omega (arith, early))

    -- it is one of the graph
    pub turn_within : slice_index_or list (length list - 1 - back) 0 < length nodes
    turn_within =
        let many : length nodes ≡ length graph.nodes = ap length nodes_are in
        let inside = chain_within graph.nodes list (length list - 1 - back) (slice_index_or list (length list - 1 - back) 0) (λ m k edge. edge_within graph.nodes m k edge) (are.blocks block list is_block).chain turn_at in
        omega (arith, many, inside)

    pub turn_node : (node : Node) → node ≡ slice_index_or nodes (slice_index_or list (length list - 1 - back) 0) node → slice_get graph.nodes (slice_index_or list (length list - 1 - back) 0) ≡ Some node
    turn_node node is = ap (λ (l : List Node). slice_get l (slice_index_or list (length list - 1 - back) 0)) (sym nodes_are) ∙ slice_get-get_or nodes (slice_index_or list (length list - 1 - back) 0) node turn_within ∙ ap Some (sym is)

    -- and its variables are below the number of those of the graph
    pub turn_below : (bits : ℕ) (node : Node) → bits ≡ length graph.vars → node ≡ slice_index_or nodes (slice_index_or list (length list - 1 - back) 0) node → AllBelow bits (node_vars node)
    turn_below bits node many is = subst (λ k. AllBelow k (node_vars node)) (sym many) (turn_graph.can.below (slice_index_or list (length list - 1 - back) 0) node (turn_node node is))

-- ---- all blocks

-- rows of false bits say of no block what it reads and assigns
pub accessed_no_block : (graph : GraphShape) (lists : List (List ℕ)) (reads assigns : List (List Bool)) → reads ≡ replicate (length lists) (replicate (length graph.vars) false) → assigns ≡ replicate (length lists) (replicate (length graph.vars) false)
    → AreAccessesTo graph lists 0 reads assigns
accessed_no_block graph lists reads assigns reads_are assigns_are = rw (reads_are, assigns_are) (record {
  reads_shape = false_rows (length lists) (length graph.vars);
  assigns_shape = false_rows (length lists) (length graph.vars);
  read = λ b x list lt listed. absurd (omega (arith, lt));
  assigned = λ b x list lt listed. absurd (omega (arith, lt));
  later = λ b x le. (no_bits (length lists) (length graph.vars) b x, no_bits (length lists) (length graph.vars) b x);
})

-- flags of which none is set tell nothing of any block
pub flagged_no_block : (graph : GraphShape) (lists : List (List ℕ)) (dead : List Bool) → length dead ≡ length graph.nodes → AreFlaggedTo graph lists 0 dead
flagged_no_block graph lists dead long = record { long = long; are = λ b n flag lt stands is. absurd (omega (arith, lt)) }

-- and those of all blocks tell of each node whether it is dead
pub flagged_blocks : (graph : GraphShape) (lists : List (List ℕ)) (count : ℕ) (dead : List Bool) → IsBlocks graph.nodes lists → length lists ≤ count → AreFlaggedTo graph lists count dead → TellDead graph dead
flagged_blocks graph lists count dead are late all = record {
  long = all.long;
  are = λ n flag is.
      let long = all.long in
      let stands = are.every n (omega (arith, long, slice_get_within dead n flag is)) in
      all.are stands.0 n flag (omega (arith, late, slice_get_within lists stands.0 stands.1.list stands.1.listed)) stands.1 is;
}

-- what the rows of all blocks say is what the nodes of each do, one after the other from its last
pub accesses_passed : (graph : GraphShape) (lists : List (List ℕ)) (reads assigns : List (List Bool)) → AreAccessesTo graph lists (length lists) reads assigns → (c x : ℕ) (list : List ℕ) (y : Bool) → slice_get lists c ≡ Some list
    → passed_all (reads_at graph x) (assigns_at graph x) y (reverse list) ≡ (has_bit reads x c || (y && not (has_bit assigns x c)))
accesses_passed graph lists reads assigns are c x list y listed =
    let within = slice_get_within lists c list listed in
    passed_apart (reads_at graph x) (assigns_at graph x) (reverse list) y
    ∙ ap (λ r. r || (y && not (list_any (assigns_at graph x) (reverse list)))) (sym (are.read c x list within listed))
    ∙ ap (λ a. has_bit reads x c || (y && not a)) (any_reverse (assigns_at graph x) list ∙ sym (are.assigned c x list within listed))
