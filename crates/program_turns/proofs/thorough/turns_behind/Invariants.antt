use Rattle.std.proofs.Common.{◌-◌}
use Rattle.pass_chain.specs.ChainLaws.{HasCome}
use Rattle.pass_chain.specs.Passes.{IsChained}
use Rattle.program_pass.specs.PassPrograms.{Rewrites}
use Rattle.program_turns.specs.Turns.{TurnsMake, second_half}
use Rattle.program_turns.proofs.thorough.turns_behind.Given as goal

abbrev pub invariant-loop-made : goal.invariant-loop-made
invariant-loop-made l = HasCome (TurnsMake 15 l.fn.first.whole) l.fn.first.whole l.last.whole (TurnsMake (16 - l.made) l.last.whole) × Rewrites (IsChained second_half) l.last.half l.last.whole
