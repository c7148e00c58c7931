use Rattle.mir_top.proofs.TurnLaws.{turns_through}
use Rattle.mir_top.proofs.making.after_turns.Goals as goal

pub returns : goal.returns
returns c =
    let target = c.in_ok-target.target in
    let is = c.in_ok-target.ensures in turns_through c.args.program.now target is.thorough is.only is.keeps
