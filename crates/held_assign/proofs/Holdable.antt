-- The assignments of a table are picked, can hold, and have variables of the graph; and a node is one of them where it
-- occurs there.
use Rattle.std.proofs.Common.{◌≡◌, ◌↔◌, inl, inr, ℕ, suc, ◌∷◌, Bool, true, false, if◌then◌else◌, ◌&&◌, not, List, [], slice_get, Option, None, Some, refl, sym, ap, ◌∙◌, subst}
use Rattle.std.proofs.lemmas.Bool.{and_from, and_parts, not-true}
use Rattle.std.proofs.lemmas.Option.{same_Some}
use Rattle.key_table.specs.Keys.{IsWithSome}
use Rattle.key_table.specs.KeyLaws.{put_only}
use Rattle.key_rows.specs.Gathered.{TakesKeys}
use Rattle.key_rows.specs.KeyRows.{HasKey, key_in}
use Rattle.mir_base.specs.declared.instructions.Rhs.{Rhs}
use Rattle.mir_base.specs.Expressions.{divides}
use Rattle.mir_base.specs.Shapes.{AllBelow, rhs_vars}
use Rattle.flow_graph.specs.declared.nodes.Node.{Node}
use Rattle.flow_graph.specs.declared.nodes.Node.TheVariants.{Start, Skip, Assign, Print, Guard, Call, Test, Return}
use Rattle.flow_graph.specs.Graphs.{HaveVarsBelow, node_vars}
use Rattle.flow_graph.specs.Numbering.{is_in}
use Rattle.graph_edit.specs.Accesses.{is_occurrence}
use Rattle.graph_edit.specs.OccurrenceLaws.{is_occurrence_of, occurrence_is}
use Rattle.held_assign.specs.declared.table.Assignment.{Assignment}
use Rattle.held_assign.specs.Assignments.{AreHoldable, IsHoldable, picked_of}
use Rattle.held_assign.specs.Holding.{can_hold}

module _ (picked : ℕ → Rhs → Bool) where
  -- ---- one node

  -- a node that is a picked assignment
  record IsPickedNode (node : Node) (a : Assignment) : Type 0 where
    next : ℕ
    is : node ≡ Assign a.target a.rhs next
    is_picked : picked a.target a.rhs ≡ true
    can : can_hold a.target a.rhs ≡ true

  -- an assignment, by whether it is picked and can hold
  by_test : (x : ℕ) (rhs : Rhs) (next : ℕ) (a : Assignment) (b : Bool) → (picked x rhs && can_hold x rhs) ≡ b → (if b then Some (record { target = x; rhs = rhs }) else None) ≡ Some a → IsPickedNode (Assign x rhs next) a
  by_test x rhs next a false is e = cc
  by_test x rhs next a true is e =
      let same : record { target = x; rhs = rhs } ≡ a = same_Some (record { target = x; rhs = rhs }) a e in
      let parts = and_parts (picked x rhs) (can_hold x rhs) is in
      subst (IsPickedNode (Assign x rhs next)) same (record { next = next; is = refl; is_picked = parts.0; can = parts.1 })

  -- of any node
  picked_node : (node : Node) (a : Assignment) → picked_of picked node ≡ Some a → IsPickedNode node a
  picked_node (Start next) a e = cc
  picked_node (Skip next) a e = cc
  picked_node (Assign x rhs next) a e = by_test x rhs next a (picked x rhs && can_hold x rhs) refl e
  picked_node (Print b next) a e = cc
  picked_node (Guard test number next) a e = cc
  picked_node (Call into unit operands next) a e = cc
  picked_node (Test test taken other) a e = cc
  picked_node (Return b) a e = cc

  -- a picked assignment that can hold is the key of its node
  pub key_of_assign : (x : ℕ) (rhs : Rhs) (next : ℕ) → picked x rhs ≡ true → can_hold x rhs ≡ true → picked_of picked (Assign x rhs next) ≡ Some (record { target = x; rhs = rhs })
  key_of_assign x rhs next chosen can = let both : (picked x rhs && can_hold x rhs) ≡ true = and_from (picked x rhs) (can_hold x rhs) chosen can in rw both refl

  -- it occurs at its node
  picked_occurs : (node : Node) (a : Assignment) → picked_of picked node ≡ Some a → is_occurrence a.target a.rhs (Some node) ≡ true
  picked_occurs node a e =
      let is = picked_node node a e in
      let undivided = not-true (divides a.rhs) (and_parts (not (divides a.rhs)) (not (is_in a.target (rhs_vars a.rhs))) is.can).0 in
      ap (λ n. is_occurrence a.target a.rhs (Some n)) is.is
      ∙ is_occurrence_of a.target a.rhs is.next undivided

  -- and a node where it occurs is it
  occurs_picked : (node : Node) (a : Assignment) → picked a.target a.rhs ≡ true → can_hold a.target a.rhs ≡ true → is_occurrence a.target a.rhs (Some node) ≡ true → picked_of picked node ≡ Some a
  occurs_picked node a chosen can at =
      let is = occurrence_is a.target a.rhs (Some node) at in
      let same : node ≡ Assign a.target a.rhs is.0 = same_Some node (Assign a.target a.rhs is.0) is.1 in
      ap (picked_of picked) same ∙ key_of_assign a.target a.rhs is.0 chosen can

  -- a node of a graph is the assignment
  pub born_assignment : (nodes : List Node) (n : ℕ) (a : Assignment) → picked a.target a.rhs ≡ true → can_hold a.target a.rhs ≡ true → (is_occurrence a.target a.rhs (slice_get nodes n) ≡ true) ↔ HasKey (picked_of picked) nodes a n
  born_assignment nodes n a chosen can = by (slice_get nodes n)
    where
      by : (o : Option Node) → (is_occurrence a.target a.rhs o ≡ true) ↔ (key_in (picked_of picked) o ≡ Some a)
      by None = (λ on. cc, λ has. cc)
      by (Some node) = (occurs_picked node a chosen can, picked_occurs node a)

  -- ---- the table

  module _ (vars : ℕ) where
    -- one node more adds an assignment that is picked, can hold, and has variables below the number
    one_more : (node : Node) (found : Option Assignment) (old new : List Assignment) → AllBelow vars (node_vars node) → found ≡ picked_of picked node → IsWithSome old found new → AreHoldable picked vars old → AreHoldable picked vars new
    one_more node None old new below is same are = subst (AreHoldable picked vars) (sym same) are
    one_more node (Some k) old new below is with_key are =
        let at = picked_node node k (sym is) in
        let low : AllBelow vars (node_vars (Assign k.target k.rhs at.next)) = subst (λ n. AllBelow vars (node_vars n)) at.is below in
        let this : IsHoldable picked vars k = record { is_picked = at.is_picked; can = at.can; below = low } in
        λ j a e. elim (put_only old k new with_key j a e) [ inl before ↦ are j a before | inr same ↦ subst (IsHoldable picked vars) (sym same) this ]

    -- so do all nodes
    taken_on : (nodes : List Node) (old new : List Assignment) → HaveVarsBelow vars nodes → TakesKeys (picked_of picked) nodes old new → AreHoldable picked vars old → AreHoldable picked vars new
    taken_on [] old new below same are = subst (AreHoldable picked vars) (sym same) are
    taken_on (node ∷ nodes) old new below taken are =
        taken_on nodes taken.0 new (λ n m at. below (suc n) m at) taken.2 (one_more node (picked_of picked node) old taken.0 (below 0 node refl) refl taken.1 are)

    -- from the empty table on
    pub taken_holdable : (nodes : List Node) (new : List Assignment) → HaveVarsBelow vars nodes → TakesKeys (picked_of picked) nodes [] new → AreHoldable picked vars new
    taken_holdable nodes new below taken = taken_on nodes [] new below taken (λ i a here. cc)
