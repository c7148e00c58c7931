-- What turns make comes to rest, unless as many were made as may be.
use Rattle.std.proofs.Common.{ℕ, zero, suc, inl, inr, sym, subst, arith}
use Rattle.mir_base.specs.Shapes.{ProgramShape}
use Rattle.pass_chain.specs.Passes.{IsChained}
use Rattle.program_pass.specs.PassPrograms.{IsOnly, KeepsRuns}
use Rattle.program_turns.specs.Turns.{IsThorough, TurnsMake, turn}
use Rattle.mir_top.specs.Outputs.{ComesToRest, TurnsThrough}

-- what turns make comes to rest: by induction on how many may be made
comes_to_rest : (most : ℕ) (source target : ProgramShape) → TurnsMake most source target → ComesToRest most source target
comes_to_rest zero source target made = record { count = 0; turns = made; few = omega arith; rests = λ fewer. absurd (omega (arith, fewer)) }
comes_to_rest (suc more) source target made = elim made.1.1 [
  | inl stays ↦ record {
    count = 0;
    turns = stays.1;
    few = omega arith;
    rests = λ fewer. subst (λ p. IsChained turn p p) (sym stays.1) (subst (IsChained turn source) stays.0 made.1.0);
  }
  | inr goes ↦
      let rest = comes_to_rest more made.0 target goes.1 in record {
        count = suc rest.count;
        turns = (made.0, made.1.0, goes.0, rest.turns);
        few = omega (arith, rest.few);
        rests = λ fewer. rest.rests (omega (arith, fewer));
      }
]

-- so what is thorough has gone through turns
pub turns_through : (source target : ProgramShape) → IsThorough source target → IsOnly (IsThorough source) target → KeepsRuns source target → TurnsThrough source target
turns_through source target thorough only keeps = record {
  rewrites = record { exact = thorough; only = only; keeps = keeps };
  at_rest = comes_to_rest 16 source target thorough;
}
