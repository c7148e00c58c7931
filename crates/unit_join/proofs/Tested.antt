-- A unit is a leaf exactly where it is short and the search for its first call finds none.
use Rattle.std.proofs.Common.{◌≡◌, ◌↔◌, ℕ, ◌≤◌, Bool, true, false, not, if◌then◌else◌, List, [], ◌∷◌, length, Option, Some, None, refl, sym, ap, ◌∙◌, true≢false}
use Rattle.std.proofs.Math.Nat.{lt_of_not-le, not-le_of_lt}
use Rattle.mir_base.specs.declared.instructions.Inst.{Inst}
use Rattle.mir_base.specs.declared.instructions.Inst.TheVariants as insts
use Rattle.mir_base.specs.Shapes.{UnitShape}
use Rattle.unit_join.specs.declared.leaf_tests.LeafTest.{LeafTest}
use Rattle.unit_join.specs.JoinPrograms.{calls_none, is_call}
use Rattle.unit_join.specs.LeafTests.{IsLeafTest, called_by, first_called, or_else}
use Rattle.unit_join.proofs.Pushed.{no_call_none, none_call}

-- an instruction that calls no unit is no call
one_none : (inst : Inst) → called_by inst ≡ None → is_call inst ≡ false
one_none (insts.Receive x) e = refl
one_none (insts.Assign x rhs) e = refl
one_none (insts.Goto place) e = refl
one_none (insts.If test place) e = refl
one_none (insts.TrapIf test number) e = refl
one_none (insts.Call into unit operands) e = cc
one_none (insts.Print a) e = refl
one_none (insts.Return a) e = refl

-- and the other way round
none_one : (inst : Inst) → is_call inst ≡ false → called_by inst ≡ None
none_one (insts.Receive x) e = refl
none_one (insts.Assign x rhs) e = refl
none_one (insts.Goto place) e = refl
none_one (insts.If test place) e = refl
none_one (insts.TrapIf test number) e = refl
none_one (insts.Call into unit operands) e = cc
none_one (insts.Print a) e = refl
none_one (insts.Return a) e = refl

-- where no unit is called first, none is called
first_none : (body : List Inst) → first_called body ≡ None → calls_none body ≡ true
first_none [] e = refl
first_none (inst ∷ rest) e = go (called_by inst) refl e (first_none rest)
  where
    go : (o : Option ℕ) → called_by inst ≡ o → or_else o (first_called rest) ≡ None → (first_called rest ≡ None → calls_none rest ≡ true) → calls_none (inst ∷ rest) ≡ true
    go None is e later = ap (λ b. if b then false else calls_none rest) (one_none inst is) ∙ later e
    go (Some unit) is e later = cc

-- and the other way round
none_first : (body : List Inst) → calls_none body ≡ true → first_called body ≡ None
none_first [] e = refl
none_first (inst ∷ rest) e = go (is_call inst) refl e (none_first rest)
  where
    go : (b : Bool) → is_call inst ≡ b → (if b then false else calls_none rest) ≡ true → (calls_none rest ≡ true → first_called rest ≡ None) → first_called (inst ∷ rest) ≡ None
    go true is e later = cc
    go false is e later = ap (λ o. or_else o (first_called rest)) (none_one inst is) ∙ later e

-- what is told decides it
pub leaf_told : (unit : UnitShape) (test : LeafTest) (short : Bool) → (short ≡ true) ↔ (length unit.body ≤ 32) → test.insts ≡ length unit.body → test.long ≡ not short → test.calls ≡ first_called unit.body → IsLeafTest unit test
leaf_told unit test true short_is insts long calls =
    let le : length unit.body ≤ 32 = short_is.0 refl in
    record {
      insts = insts;
      long = (λ is. absurd (true≢false (sym is ∙ long)), λ lt. absurd (not-le_of_lt lt le));
      calls = calls;
      leaf = (
        λ is. (long, calls ∙ none_first unit.body (no_call_none unit.body is.no_calls)),
        λ told. record { short = le; no_calls = none_call unit.body (first_none unit.body (sym calls ∙ told.1)) },
      );
    }
leaf_told unit test false short_is insts long calls =
    let no : ¬ (length unit.body ≤ 32) = λ le. true≢false (sym (short_is.1 le)) in
    record {
      insts = insts;
      long = (λ is. lt_of_not-le no, λ lt. long);
      calls = calls;
      leaf = (λ is. absurd (no is.short), λ told. absurd (true≢false (sym long ∙ told.0)));
    }
