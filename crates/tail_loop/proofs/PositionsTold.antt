-- How a call stands, as the code tells it.
use Rattle.std.proofs.Common.{◌≡◌, ℕ, ◌<◌, Bool, true, false, if◌then◌else◌, nat_eq, nat_lt, List, length, slice_get, slice_index_or, Some, None, refl, sym, ap, ◌∙◌, true≢false}
use Rattle.std.proofs.lemmas.Bool.{eq-eqb, eqb-true, ltb-false, ltb-true}
use Rattle.mir_base.specs.declared.instructions.Operand.{Operand}
use Rattle.mir_base.specs.declared.instructions.Operand.TheVariants.{Var}
use Rattle.flow_graph.specs.declared.nodes.Node.{Node}
use Rattle.flow_graph.specs.declared.nodes.Node.TheVariants.{Start, Skip, Assign, Print, Guard, Call, Test, Return}
use Rattle.flow_graph.specs.Graphs.{AllWithin, succs_of}
use Rattle.jump_clean.specs.Chains.{AreEnds}
use Rattle.tail_loop.specs.declared.positions.Position.{Position}
use Rattle.tail_loop.specs.declared.positions.Position.TheVariants.{Loop, Tail, Dropped, Global, Then}
use Rattle.tail_loop.specs.Positions.{HasPosition, called_unit, other_position, tail_position}
use Rattle.tail_loop.specs.Tails.{HasTailCall}

-- ---- one call

-- in tail position
pub tail_told : (shared : ℕ) (nodes : List Node) (unit n called : ℕ) → HasTailCall shared nodes called n → HasPosition shared nodes unit n called (tail_position unit called)
tail_told shared nodes unit n called has = go (nat_eq called unit) refl
  where
    go : (own : Bool) → nat_eq called unit ≡ own → HasPosition shared nodes unit n called (if own then Loop else Tail)
    go true is = (eqb-true called unit is, has)
    go false is = (λ same. true≢false (sym (eq-eqb called unit same) ∙ is), has)

-- and where it is not
pub other_told : (shared : ℕ) (nodes : List Node) (unit n called : ℕ) (ends : List ℕ) (node : Node) → AllWithin nodes → AreEnds nodes ends → slice_get nodes n ≡ Some node → called_unit node ≡ Some called → (HasTailCall shared nodes called n → ⊥)
    → HasPosition shared nodes unit n called (other_position shared ends node)
other_told shared nodes unit n called ends (Start next) within are here calls none = cc
other_told shared nodes unit n called ends (Skip next) within are here calls none = cc
other_told shared nodes unit n called ends (Assign x rhs next) within are here calls none = cc
other_told shared nodes unit n called ends (Print a next) within are here calls none = cc
other_told shared nodes unit n called ends (Guard test number next) within are here calls none = cc
other_told shared nodes unit n called ends (Test test taken other) within are here calls none = cc
other_told shared nodes unit n called ends (Return a) within are here calls none = cc
other_told shared nodes unit n called ends (Call None u operands next) within are here calls none =
    let same : u ≡ called = cc in
    (record { operands = operands; next = next; is = here ∙ ap (λ (k : ℕ). Some (Call None k operands next)) same }, none)
other_told shared nodes unit n called ends (Call (Some x) u operands next) within are here calls none = go (nat_lt x shared) refl
  where
    same : u ≡ called
    same = cc

    is : slice_get nodes n ≡ Some (Call (Some x) called operands next)
    is = here ∙ ap (λ (k : ℕ). Some (Call (Some x) k operands next)) same

    low : next < length nodes
    low = within n 0 next (ap (λ o. slice_get (succs_of o) 0) here)

    go : (global : Bool) → nat_lt x shared ≡ global → HasPosition shared nodes unit n called (if global then Global else Then (slice_index_or ends next 0))
    go true e = (record { into = x; operands = operands; next = next; is = is; global = ltb-true x shared e }, none)
    go false e = (
      record {
        into = x;
        operands = operands;
        next = next;
        is = is;
        own = ltb-false x shared e;
        end = are.are next low;
        other = λ returns. none (operands, record { into = x; next = next; is = is; own = ltb-false x shared e; returned = record { there = slice_index_or ends next 0; skips = (are.are next low).leads; returns = returns } });
      },
      none,
    )
