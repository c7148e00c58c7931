-- The shifts that are found are those that hold, and they hold wherever they are told.
use Rattle.std.proofs.Common.{◌≡◌, ◌≢◌, ℕ, ℤ, ◌<◌, ◌⊎◌, inl, inr, Bool, true, false, if◌then◌else◌, nat_eq, ◌||◌, eq-eqb, List, [], ◌∷◌, length, slice_get, Option, Some, None, refl, sym, ap, ◌∙◌, subst, true≢false}
use Rattle.std.proofs.lemmas.Bool.{not-true, or_parts}
use Rattle.std.proofs.lemmas.Option.{same_Some, slice_get_within}
use Rattle.std.specs.Option.{is_some}
use Rattle.mir_base.specs.declared.operators.Op.{Op}
use Rattle.mir_base.specs.declared.operators.Op.TheVariants.{Shl}
use Rattle.mir_base.specs.declared.instructions.Operand.{Operand}
use Rattle.mir_base.specs.declared.instructions.Operand.TheVariants.{Var, Const}
use Rattle.mir_base.specs.declared.instructions.Rhs.{Rhs}
use Rattle.mir_base.specs.declared.instructions.Rhs.TheVariants.{Plain, Unary, Binary}
use Rattle.mir_base.specs.Numbers.{distance, wrapped}
use Rattle.flow_graph.specs.declared.nodes.Node.{Node}
use Rattle.flow_graph.specs.declared.nodes.Node.TheVariants.{Start, Assign}
use Rattle.flow_graph.specs.Graphs.{GraphShape, IsEdge, IsGraph, Reached, assigns}
use Rattle.flow_graph.specs.PathLaws.{reached_trace}
use Rattle.flow_graph.specs.Paths.{Trace, from_start, goes_on}
use Rattle.flow_graph.specs.BoundLaws.{slot_within}
use Rattle.graph_edit.specs.Accesses.{occurs_at}
use Rattle.graph_edit.specs.OccurrenceLaws.{occurrence_is}
use Rattle.path_laws.specs.Paths.{Since}
use Rattle.held_assign.specs.HeldLaws.{held_is_one}
use Rattle.held_assign.specs.Holding.{IsHeld, IsHeldRhs, assigns_one, can_hold, ends_at}
use Rattle.wanted_bits.specs.declared.picking.Shift.{Shift}
use Rattle.wanted_bits.specs.Shifts.{IsShiftedAt, is_written, shift_held, shift_of, shift_with, shifts_left}
use Rattle.wanted_bits.specs.Wanted.{AreShifts, IsShift}

-- ---- right sides that are shifts

-- the right side shifts the source by a constant, which is as far
record IsShiftBy (shift : Shift) (rhs : Rhs) : Type 0 where
  by : ℤ
  is : rhs ≡ Binary Shl (Var shift.source) (Const by)
  far : shift.distance ≡ distance (wrapped by)

-- of a variable and a constant, by whether this is written as a distance
shift_far : (shift : Shift) (y : ℕ) (c : ℤ) (b : Bool) → (if b then Some (record { source = y; distance = distance (wrapped c) }) else None) ≡ Some shift → IsShiftBy shift (Binary Shl (Var y) (Const c))
shift_far shift y c true e =
    let one : Shift = record { source = y; distance = distance (wrapped c) } in
    let same : one ≡ shift = same_Some one shift e in
    record { by = c; is = ap (λ (s : Shift). Binary Shl (Var s.source) (Const c)) same; far = ap (λ (s : Shift). s.distance) (sym same) }
shift_far shift y c false e = absurd (cc)

-- by the operator
shift_operator : (shift : Shift) (op : Op) (a b : Operand) → shift_with op a b ≡ Some shift → IsShiftBy shift (Binary op a b)
shift_operator shift Shl (Const c) b e = absurd (cc)
shift_operator shift Shl (Var y) (Var z) e = absurd (cc)
shift_operator shift Shl (Var y) (Const c) e = shift_far shift y c (is_written c) e
shift_operator shift _ a b e = absurd (cc)

-- of any right side
shift_is : (shift : Shift) (rhs : Rhs) → shift_of rhs ≡ Some shift → IsShiftBy shift rhs
shift_is shift (Plain a) e = absurd (cc)
shift_is shift (Unary op a) e = absurd (cc)
shift_is shift (Binary op a b) e = shift_operator shift op a b e

-- where it can hold for t, its source is another variable
shift_apart : (t y : ℕ) (by : ℤ) → can_hold t (Binary Shl (Var y) (Const by)) ≡ true → y ≢ t
shift_apart t y by can = λ same.
    let off : (nat_eq y t || false) ≡ false = not-true (nat_eq y t || false) can in
    true≢false (sym (ap (λ b. b || false) (eq-eqb y t same)) ∙ off)

-- ---- what is found

module _ (graph : GraphShape) (held : ℕ → ℕ → Option Rhs) (tells : (n v : ℕ) → n < length graph.nodes → IsHeldRhs (λ x rhs. shifts_left rhs) graph n v (held n v)) where
  -- the shift that is found for t is one at the node
  pub shifts_found : (n t : ℕ) (shift : Shift) → n < length graph.nodes → shift_held (held n t) ≡ Some shift → IsShiftedAt graph t shift n
  shifts_found n t shift lt e = by (held n t) e (tells n t lt)
    where
      by : (o : Option Rhs) → shift_held o ≡ Some shift → IsHeldRhs (λ x rhs. shifts_left rhs) graph n t o → IsShiftedAt graph t shift n
      by None e none = absurd (cc)
      by (Some rhs) e is = record { rhs = rhs; is = e; holds = is.1 }

  -- and each one is found
  pub shifts_told : (n t : ℕ) (shift : Shift) → n < length graph.nodes → IsShiftedAt graph t shift n → shift_held (held n t) ≡ Some shift
  shifts_told n t shift lt at = by (held n t) (tells n t lt)
    where
      by : (o : Option Rhs) → IsHeldRhs (λ x rhs. shifts_left rhs) graph n t o → shift_held o ≡ Some shift
      by None none = absurd (none at.rhs (ap is_some at.is) at.holds)
      by (Some rhs) is = ap shift_of (held_is_one graph t n rhs at.rhs is.1 at.holds) ∙ at.is

  -- ---- so they hold wherever they are told

  -- before a node behind m what holds is assigned at m, or holds before m and is not ended there
  held_back : (t : ℕ) (rhs : Rhs) (m n slot : ℕ) → IsGraph graph.vars graph.received graph.nodes → IsEdge graph.nodes m slot n → IsHeld graph t rhs n
      → (occurs_at t rhs graph m ≡ true) ⊎ ((ends_at graph t rhs m ≡ false) × IsHeld graph t rhs m)
  held_back t rhs m n slot is edge at = by (occurs_at t rhs graph m) refl
    where
      reached : Reached graph.nodes m
      reached = is.reached m (slot_within graph.nodes m slot n edge)

      -- on each path to m it holds, unless m assigns it
      back : occurs_at t rhs graph m ≡ false → (before : List ℕ) → Trace graph.nodes m before → (ends_at graph t rhs m ≡ false) × Since (occurs_at t rhs graph) (ends_at graph t rhs) before
      back off before trace = go (at.paths (m ∷ before) (goes_on m n before trace (slot, edge)))
        where
          go : Since (occurs_at t rhs graph) (ends_at graph t rhs) (m ∷ before) → (ends_at graph t rhs m ≡ false) × Since (occurs_at t rhs graph) (ends_at graph t rhs) before
          go (inl born) = absurd (true≢false (sym born ∙ off))
          go (inr later) = later

      by : (b : Bool) → occurs_at t rhs graph m ≡ b → (occurs_at t rhs graph m ≡ true) ⊎ ((ends_at graph t rhs m ≡ false) × IsHeld graph t rhs m)
      by true on = inl on
      by false off =
          let path = reached_trace graph.nodes m reached in
          inr ((back off path.0 path.1).0, record { can = at.can; reached = reached; paths = λ before trace. (back off before trace).1 })

  pub are_shifts : IsGraph graph.vars graph.received graph.nodes → AreShifts graph (λ n t. shift_held (held n t))
  are_shifts is = record { start = start; arise = arise }
    where
      at_zero : (t : ℕ) (o : Option Shift) → shift_held (held 0 t) ≡ o → o ≡ None
      at_zero t None e = refl
      at_zero t (Some shift) e =
          let at = shifts_found 0 t shift (slice_get_within graph.nodes 0 (Start is.can.start.0) is.can.start.1) e in
          absurd (at.holds.paths [] from_start)

      start : (t : ℕ) → shift_held (held 0 t) ≡ None
      start t = at_zero t (shift_held (held 0 t)) refl

      arise : (m slot n t : ℕ) (shift : Shift) (node : Node) → IsEdge graph.nodes m slot n → slice_get graph.nodes m ≡ Some node → shift_held (held n t) ≡ Some shift
          → IsShift t shift node ⊎ ((shift_held (held m t) ≡ Some shift) × (assigns graph t node ≡ false) × (assigns graph shift.source node ≡ false))
      arise m slot n t shift node edge here e = elim (held_back t at.rhs m n slot is edge at.holds) [
        | inl born ↦ inl (born_here born)
        | inr later ↦ inr (shifts_told m t shift (slot_within graph.nodes m slot n edge) (record { rhs = at.rhs; is = at.is; holds = later.1 }), (free later.0).0, (free later.0).1)
      ]
        where
          at : IsShiftedAt graph t shift n
          at = shifts_found n t shift (is.can.succs m slot n edge).1 e

          of : IsShiftBy shift at.rhs
          of = shift_is shift at.rhs at.is

          born_here : occurs_at t at.rhs graph m ≡ true → IsShift t shift node
          born_here born =
              let node_is = occurrence_is t at.rhs (slice_get graph.nodes m) born in
              let same : node ≡ Assign t at.rhs node_is.0 = same_Some node (Assign t at.rhs node_is.0) (sym here ∙ node_is.1) in
              record {
                by = of.by;
                next = node_is.0;
                is = same ∙ ap (λ r. Assign t r node_is.0) of.is;
                far = of.far;
                apart = shift_apart t shift.source of.by (subst (λ r. can_hold t r ≡ true) of.is at.holds.can);
              }

          -- neither variable is assigned by a node that does not end it
          free : ends_at graph t at.rhs m ≡ false → (assigns graph t node ≡ false) × (assigns graph shift.source node ≡ false)
          free off =
              let there : assigns_one graph (t ∷ shift.source ∷ []) (Some node) ≡ false =
              ap (assigns_one graph (t ∷ shift.source ∷ [])) (sym here) ∙ subst (λ r. ends_at graph t r m ≡ false) of.is off in
              let parts = or_parts (assigns graph t node) (assigns graph shift.source node || false) there in
              (parts.0, (or_parts (assigns graph shift.source node) false parts.1).0)
