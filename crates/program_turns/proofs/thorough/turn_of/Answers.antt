use Rattle.program_turns.proofs.TurnLaws.{halves_turn}
use Rattle.program_turns.proofs.thorough.turn_of.Goals as goal

pub returns : goal.returns
returns c =
    let half = c.in_ok-half.half in
    let made = c.in_ok-made.made in
    halves_turn c.args.program.now half made.half made.whole (record { exact = c.in_ok-half.ensures.chained; only = c.in_ok-half.ensures.only; keeps = c.in_ok-half.ensures.keeps }) c.in_ok-made.ensures.begun c.in_ok-made.ensures.ended
