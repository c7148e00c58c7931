use Rattle.mir_top.specs.Commands.{word_bytes}
use Rattle.mir_top.specs.Streams.{stream_of}
use Rattle.mir_top.proofs.Subjects.{drawn_needs, drawn_prevents, units_of_trial}
use Rattle.mir_top.proofs.work.subject.Goals as goal

pub trial_program-requires-clause-some : goal.trial_program-requires-clause-some
trial_program-requires-clause-some g c = (units_of_trial (word_bytes c.args.words.now) c.args.command c.in-Some.number c.in-Some.units c.requires c.in-Some.ensures.trial).0

pub trial_program-requires-clause-few : goal.trial_program-requires-clause-few
trial_program-requires-clause-few g c = (units_of_trial (word_bytes c.args.words.now) c.args.command c.in-Some.number c.in-Some.units c.requires c.in-Some.ensures.trial).1

pub returns-in-Ok-clause-needs : goal.returns-in-Ok-clause-needs
returns-in-Ok-clause-needs g c =
    let drawn = c.in-Ok.ensures in
    drawn_needs (word_bytes c.args.words.now) c.args.command c.in-Some.number c.in-Some.units c.in-Ok.program c.requires c.in-Some.ensures.trial drawn.inputs drawn.higher drawn.units

pub returns-in-Some-clause-prevented : goal.returns-in-Some-clause-prevented
returns-in-Some-clause-prevented g c =
    drawn_prevents (word_bytes c.args.words.now) (stream_of g.S.Source.left g.S.Source.faults c.args.source.now c.args.source.now) c.args.command c.in-Some.number c.in-Some.units c.in-Err.refusal c.requires c.in-Some.ensures.trial
