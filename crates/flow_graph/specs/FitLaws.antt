-- Laws of the units of a program: a call of a body that fits, and the names of the units by number. For proofs only, here
-- and above.
use Rattle.std.proofs.Common.{◌≡◌, ℕ, zero, suc, ◌<◌, List, [], ◌∷◌, length, slice_get, Some, option_map, refl, sym, ap, ◌∙◌, subst}
use Rattle.mir_base.specs.declared.instructions.Inst.{Inst}
use Rattle.mir_base.specs.declared.instructions.Inst.TheVariants.{Receive, Assign, Goto, If, TrapIf, Call, Print, Return}
use Rattle.mir_base.specs.Shapes.{BodyFits, InstFits, UnitShape, body_at, names_of, receives_in}
use Rattle.flow_graph.specs.Calls.{BodyCalls, inst_call}

-- a call of a body that fits
pub called_fits : (units : List UnitShape) (body : List Inst) (called count : ℕ) → BodyFits units body
    → BodyCalls body called count → (called < length units) × (count ≡ receives_in (body_at units called))
called_fits units body called count fits c = go c.inst (fits.insts c.place c.inst c.here) c.calls
  where
    go : (inst : Inst) → InstFits units body c.place inst → inst_call inst ≡ Some (called, count)
        → (called < length units) × (count ≡ receives_in (body_at units called))
    go (Receive x) f is = cc
    go (Assign x rhs) f is = cc
    go (Goto to) f is = cc
    go (If test to) f is = cc
    go (TrapIf test number) f is = cc
    go (Call into unit operands) f is =
        let both : ◌≡◌ {A = ℕ × ℕ} (unit, length operands) (called, count) = cc in
        let one : unit ≡ called = ap (λ (p : ℕ × ℕ). p.0) both in
        let other : length operands ≡ count = ap (λ (p : ℕ × ℕ). p.1) both in
        (subst (λ u. u < length units) one f.0, sym other ∙ f.1 ∙ ap (λ u. receives_in (body_at units u)) one)
    go (Print a) f is = cc
    go (Return a) f is = cc

-- the names of the units, by their numbers
pub names_at : (units : List UnitShape) (n : ℕ) → slice_get (names_of units) n ≡ option_map (λ (u : UnitShape). u.name) (slice_get units n)
names_at [] n = refl
names_at (unit ∷ units) zero = refl
names_at (unit ∷ units) (suc n) = names_at units n

-- each unit has one name
pub names_long : (units : List UnitShape) → length (names_of units) ≡ length units
names_long [] = refl
names_long (unit ∷ units) = ap suc (names_long units)
