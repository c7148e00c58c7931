-- Each division of a graph is an instruction of its layout: every node that is reached has a place in a whole plan, and
-- two that emit an instruction have different ones.
use Rattle.std.proofs.Common.{◌≡◌, ℕ, zero, suc, ◌<◌, ◌≤◌, Bool, true, false, cond, eqb, ◌||◌, List, [], ◌∷◌, drop, flat_map, length, map, slice_get, slice_index_or, Some, None, option_map, inl, inr, eqb-true, refl, sym, ap, ◌∙◌, subst, arith}
use Rattle.std.proofs.lemmas.Bool.Decides.{eqb_tells}
use Rattle.std.proofs.lemmas.Option.{slice_get-get_or, slice_get-map, slice_get_within}
use Rattle.mir_base.specs.declared.instructions.Inst.{Inst}
use Rattle.mir_base.specs.declared.instructions.Inst.TheVariants as insts
use Rattle.mir_base.specs.declared.instructions.Operand.{Operand}
use Rattle.mir_base.specs.declared.instructions.Operand.TheVariants.{Var, Const}
use Rattle.mir_base.specs.declared.instructions.Rhs.TheVariants.{Binary}
use Rattle.mir_base.specs.declared.operators.Op.{Op}
use Rattle.mir_base.specs.Expressions.{divides}
use Rattle.mir_base.specs.ItemLaws.{one_item}
use Rattle.mir_base.specs.Shapes.{UnitShape, AllBelow, inst_vars}
use Rattle.flow_graph.specs.declared.plan.Item.{Item}
use Rattle.flow_graph.specs.declared.plan.Item.TheVariants.{Placed, Jump}
use Rattle.flow_graph.specs.declared.nodes.Node.{Node}
use Rattle.flow_graph.specs.declared.nodes.Node.TheVariants.{Start, Skip, Assign, Print, Guard, Call, Test, Return}
use Rattle.flow_graph.specs.BoundLaws.{slot_within}
use Rattle.flow_graph.specs.Dividing.{DividesOf}
use Rattle.flow_graph.specs.DividingUnits.{DividesAs, DivisionsLaid, KeepNames}
use Rattle.flow_graph.specs.Graphs.{GraphShape, IsEdge, IsGraph, Reached, at_start, along, following, succs_of}
use Rattle.flow_graph.specs.Layouts.{IsLayout, emitted_by, item_size, place_in, plain_body, size}
use Rattle.flow_graph.specs.ListLaws.{some_at}
use Rattle.flow_graph.specs.Numbering.{first_index, renamed, renamed_operand, seen_in}
use Rattle.flow_graph.specs.Plans.{IsPlan, after_node, is_placed, next_item, start_succ}
use Rattle.mir_base.specs.Frames.{shared_vars}
use Rattle.flow_graph.specs.PlanLaws.{Next, at_placed, bottom, is_placed_drop, item_inst_at, last, next_of, place_at, placed_at, taken_placed, then_}
use Rattle.flow_graph.specs.RenamingLaws.{AllIn, all_seen, inst_in, position_holds}

-- ---- every node has a place

module _ (nodes : List Node) (first : ℕ) (plan : List Item) (is_plan : IsPlan nodes first plan) (done : next_item nodes first plan ≡ None) where
  -- so has the node that follows one with a place: it is next, or a jump to it is
  follows_placed : (z n s : ℕ) (older : List Item) → drop z plan ≡ Placed n ∷ older → following (slice_get nodes n) ≡ Some s → is_placed s plan ≡ true
  follows_placed z n s older here follows = by (is_placed s (Placed n ∷ older)) refl (ap (after_node nodes (Placed n ∷ older)) follows) z (next_of nodes first z plan (Placed n) older is_plan done here)
    where
      by : (b : Bool) → is_placed s (Placed n ∷ older) ≡ b → next_item nodes first (Placed n ∷ older) ≡ Some (cond b (Jump s) (Placed s)) → (k : ℕ) → Next nodes first plan (Placed n ∷ older) k → is_placed s plan ≡ true
      by b is next k (last none) = cc
      by true is next k (then_ j item e next') = is_placed_drop nodes first z s plan (subst (λ l. is_placed s l ≡ true) (sym here) is)
      by false is next k (then_ j item e next') =
          let same : item ≡ Placed s = cc in
          at_placed nodes first j s plan (Placed n ∷ older) (e ∙ ap (λ i. i ∷ Placed n ∷ older) same)

module _ (vars : List (List ℕ)) (received : List ℕ) (nodes : List Node) (graph : IsGraph vars received nodes) (plan : List Item) (is_plan : IsPlan nodes (start_succ (slice_get nodes 0)) plan) (done : next_item nodes (start_succ (slice_get nodes 0)) plan ≡ None) where
  abbrev first : ℕ
  first = start_succ (slice_get nodes 0)

  -- the successors of a node with a place have one too
  succ_placed : (m slot s z : ℕ) (older : List Item) → drop z plan ≡ Placed m ∷ older → (node : Node) → slice_get nodes m ≡ Some node → 1 ≤ m → IsEdge nodes m slot s → is_placed s plan ≡ true
  succ_placed m slot s z older here (Start next) is inner edge = absurd (let none : m ≡ 0 = graph.can.only m next is in omega (arith, none, inner))
  succ_placed m slot s z older here (Skip next) is inner edge = follows_placed nodes first plan is_plan done z m s older here (ap following is ∙ ap Some (one_item next s slot (ap (λ o. slice_get (succs_of o) slot) (sym is) ∙ edge)))
  succ_placed m slot s z older here (Assign x rhs next) is inner edge = follows_placed nodes first plan is_plan done z m s older here (ap following is ∙ ap Some (one_item next s slot (ap (λ o. slice_get (succs_of o) slot) (sym is) ∙ edge)))
  succ_placed m slot s z older here (Print a next) is inner edge = follows_placed nodes first plan is_plan done z m s older here (ap following is ∙ ap Some (one_item next s slot (ap (λ o. slice_get (succs_of o) slot) (sym is) ∙ edge)))
  succ_placed m slot s z older here (Guard test number next) is inner edge = follows_placed nodes first plan is_plan done z m s older here (ap following is ∙ ap Some (one_item next s slot (ap (λ o. slice_get (succs_of o) slot) (sym is) ∙ edge)))
  succ_placed m slot s z older here (Call into unit operands next) is inner edge = follows_placed nodes first plan is_plan done z m s older here (ap following is ∙ ap Some (one_item next s slot (ap (λ o. slice_get (succs_of o) slot) (sym is) ∙ edge)))
  succ_placed m zero s z older here (Test test taken other) is inner edge =
      let to : Some taken ≡ Some s = ap (λ o. slice_get (succs_of o) 0) (sym is) ∙ edge in
      let same : taken ≡ s = cc in
      subst (λ t. is_placed t plan ≡ true) same (taken_placed nodes first plan z m older test taken other done here is)
  succ_placed m (suc slot) s z older here (Test test taken other) is inner edge =
      follows_placed nodes first plan is_plan done z m s older here (ap following is ∙ ap Some (one_item other s slot (ap (λ o. slice_get (succs_of o) (suc slot)) (sym is) ∙ edge)))
  succ_placed m slot s z older here (Return a) is inner edge = let none : None ≡ Some s = ap (λ o. slice_get (succs_of o) slot) (sym is) ∙ edge in cc

  -- so each node that is reached has one, but Start
  reached_placed : (n : ℕ) → Reached nodes n → 1 ≤ n → is_placed n plan ≡ true
  reached_placed zero at_start inner = absurd (omega (arith, inner))
  reached_placed n (along zero slot s reached edge) inner =
      let b = bottom nodes first plan is_plan done in
      let start = graph.can.start in
      let same : start.0 ≡ n = one_item start.0 n slot (ap (λ o. slice_get (succs_of o) slot) (sym start.1) ∙ edge) in
      let goes : start_succ (slice_get nodes 0) ≡ n = ap start_succ start.1 ∙ same in
      subst (λ m. is_placed m plan ≡ true) goes (at_placed nodes first b.0 first plan [] b.1)
  reached_placed n (along (suc m) slot s reached edge) inner =
      let there = placed_at nodes first (suc m) plan (reached_placed (suc m) reached (omega arith)) in
      let node = some_at nodes (suc m) (slot_within nodes (suc m) slot n edge) in
      succ_placed (suc m) slot n there.0 there.1 there.2 node.0 node.1 (omega arith) edge

-- ---- no two have one place

module _ (nodes : List Node) (receives : ℕ) where
  -- a node that emits an instruction stands before the end
  place_below : (plan : List Item) (n : ℕ) → is_placed n plan ≡ true → item_size nodes (Placed n) ≡ 1 → place_in nodes receives plan n < size nodes receives plan
  place_below [] n placed one = cc
  place_below (Jump m ∷ older) n placed one = let less = place_below older n placed one in omega (arith, less)
  place_below (Placed m ∷ older) n placed one = elim (eqb_tells m n) [
    | inl same ↦
        let here : place_in nodes receives (Placed m ∷ older) n ≡ size nodes receives older = ap (λ b. cond b (size nodes receives older) (place_in nodes receives older n)) same.0 in
        let large : item_size nodes (Placed m) ≡ 1 = ap (λ k. item_size nodes (Placed k)) same.1 ∙ one in
        omega (arith, here, large)
    | inr differ ↦
        let there : place_in nodes receives (Placed m ∷ older) n ≡ place_in nodes receives older n = ap (λ b. cond b (size nodes receives older) (place_in nodes receives older n)) differ.0 in
        let less = place_below older n (sym (ap (λ b. b || is_placed n older) differ.0) ∙ placed) one in
        omega (arith, there, less)
  ]

  places_differ : (plan : List Item) (n m : ℕ) → is_placed n plan ≡ true → is_placed m plan ≡ true → item_size nodes (Placed n) ≡ 1 → item_size nodes (Placed m) ≡ 1 → place_in nodes receives plan n ≡ place_in nodes receives plan m → n ≡ m
  places_differ [] n m placed placed' one one' same = cc
  places_differ (Jump k ∷ older) n m placed placed' one one' same = places_differ older n m placed placed' one one' same
  places_differ (Placed k ∷ older) n m placed placed' one one' same = by (eqb k n) (eqb k m) refl refl (λ p q e. places_differ older n m p q one one' e)
    where
      is_n : (b : Bool) → eqb k n ≡ b → place_in nodes receives (Placed k ∷ older) n ≡ cond b (size nodes receives older) (place_in nodes receives older n)
      is_n b e = ap (λ c. cond c (size nodes receives older) (place_in nodes receives older n)) e

      is_m : (b : Bool) → eqb k m ≡ b → place_in nodes receives (Placed k ∷ older) m ≡ cond b (size nodes receives older) (place_in nodes receives older m)
      is_m b e = ap (λ c. cond c (size nodes receives older) (place_in nodes receives older m)) e

      old_n : eqb k n ≡ false → is_placed n older ≡ true
      old_n e = sym (ap (λ b. b || is_placed n older) e) ∙ placed

      old_m : eqb k m ≡ false → is_placed m older ≡ true
      old_m e = sym (ap (λ b. b || is_placed m older) e) ∙ placed'

      by : (b c : Bool) → eqb k n ≡ b → eqb k m ≡ c → (is_placed n older ≡ true → is_placed m older ≡ true → place_in nodes receives older n ≡ place_in nodes receives older m → n ≡ m) → n ≡ m
      by true true e e' later = sym (eqb-true k n e) ∙ eqb-true k m e'
      by true false e e' later = absurd (let less = place_below older m (old_m e') one' in omega (arith, is_n true e, is_m false e', same, less))
      by false true e e' later = absurd (let less = place_below older n (old_n e) one in omega (arith, is_n false e, is_m true e', same, less))
      by false false e e' later = later (old_n e) (old_m e') (sym (is_n false e) ∙ same ∙ is_m false e')

-- ---- the divisions

-- whether it divides does not depend on the numbers of variables
renamed_divides : (to : ℕ → ℕ) (op : Op) (left right : Operand) → divides (Binary op (renamed_operand to left) (renamed_operand to right)) ≡ divides (Binary op left right)
renamed_divides to op left (Var x) = refl
renamed_divides to op left (Const c) = refl

-- variables in the list of those seen have the names that they had
names_kept : (vars : List (List ℕ)) (seen xs : List ℕ) → AllIn seen xs → AllBelow (length vars) xs → KeepNames (first_index seen) vars (map (λ x. slice_index_or vars x []) seen) xs
names_kept vars seen [] all within = tt
names_kept vars seen (x ∷ xs) all within = (
  slice_get-map (λ y. slice_index_or vars y []) seen (first_index seen x) ∙ ap (λ o. option_map (λ y. slice_index_or vars y []) o) (position_holds seen x all.0) ∙ sym (slice_get-get_or vars x [] within.0),
  names_kept vars seen xs all.1 within.1,
)

module _ (graph : GraphShape) (unit : UnitShape) (is_graph : IsGraph graph.vars graph.received graph.nodes) (layout : IsLayout graph unit) where
  abbrev plan : List Item
  plan = layout.laid.plan

  abbrev plain : List Inst
  plain = plain_body graph.received graph.nodes plan

  abbrev seen : List ℕ
  seen = seen_in graph.shared plain

  abbrev place : ℕ → ℕ
  place = place_in graph.nodes (length graph.received) plan

  -- a division has a place
  division_placed : (n x : ℕ) (op : Op) (left right : Operand) → DividesOf graph.nodes n x op left right → is_placed n plan ≡ true
  division_placed n x op left right division =
      reached_placed graph.vars graph.received graph.nodes is_graph plan layout.laid.is_plan.is_plan layout.laid.is_plan.complete n (is_graph.reached n (slice_get_within graph.nodes n _ division.is)) (inner n division.is)
    where
      inner : (n : ℕ) → slice_get graph.nodes n ≡ Some (Assign x (Binary op left right) division.next) → 1 ≤ n
      inner zero is = let both : Some (Start is_graph.can.start.0) ≡ Some (Assign x (Binary op left right) division.next) = sym is_graph.can.start.1 ∙ is in cc
      inner (suc n) is = omega arith

  -- and emits an instruction
  division_emits : (n x : ℕ) (op : Op) (left right : Operand) → DividesOf graph.nodes n x op left right → item_size graph.nodes (Placed n) ≡ 1
  division_emits n x op left right division = ap (λ o. length (emitted_by (λ m. m) o)) division.is

  plain_at : (n x : ℕ) (op : Op) (left right : Operand) → DividesOf graph.nodes n x op left right → slice_get plain (place n) ≡ Some (insts.Assign x (Binary op left right))
  plain_at n x op left right division =
      let first = start_succ (slice_get graph.nodes 0) in
      let there = placed_at graph.nodes first n plan (division_placed n x op left right division) in
      let at_size = place_at graph.nodes first (length graph.received) there.0 n plan there.1 layout.laid.is_plan.is_plan there.2 in
      ap (slice_get plain) at_size ∙ item_inst_at graph.nodes first graph.received place plan there.0 (Placed n) there.1 (insts.Assign x (Binary op left right)) there.2 (ap (emitted_by place) division.is)

  stands_as : (n x : ℕ) (op : Op) (left right : Operand) → DividesOf graph.nodes n x op left right → DividesAs (first_index seen) graph.vars unit (place n) x op left right
  stands_as n x op left right division =
      let inst = insts.Assign x (Binary op left right) in
      let all : AllIn seen (inst_vars inst) = inst_in seen plain (place n) inst (all_seen (shared_vars graph.shared) (flat_map inst_vars plain)) (plain_at n x op left right division) in
      record {
        is = record {
          is = ap (λ l. slice_get l (place n)) layout.laid.body_is ∙ slice_get-map (renamed (first_index seen)) plain (place n) ∙ ap (option_map (renamed (first_index seen))) (plain_at n x op left right division);
          may_trap = renamed_divides (first_index seen) op left right ∙ division.may_trap;
        };
        names = subst (λ l. KeepNames (first_index seen) graph.vars l (inst_vars inst)) (sym layout.laid.names_are) (names_kept graph.vars seen (inst_vars inst) all (is_graph.can.below n _ division.is));
      }

  pub divisions_laid : DivisionsLaid graph unit
  divisions_laid = record {
    place = place;
    to = first_index seen;
    stays = stands_as;
    apart = λ n m x y op other at at' same. places_differ graph.nodes (length graph.received) plan n m
        (division_placed n x op at.left at.right at.of) (division_placed m y other at'.left at'.right at'.of) (division_emits n x op at.left at.right at.of) (division_emits m y other at'.left at'.right at'.of) same;
  }
