use Rattle.mir_top.specs.declared.command.Command.TheVariants.{Optimise, Stages, Move, Ranges, Divisions, Tails, Join, Thorough, Passes, Trial}
use Rattle.mir_top.specs.Commands.{word_bytes}
use Rattle.mir_top.proofs.MadeLaws.{made_through, stopped_by_memory}
use Rattle.mir_top.proofs.making.make.Goals as goal

pub returns-in-Optimise-clause-made : goal.returns-in-Optimise-clause-made
returns-in-Optimise-clause-made c = made_through (word_bytes c.args.words.now) c.args.program.now c.args.command Optimise c.optimised.result c.or_stopped.result c.in-Optimise.is c.or_stopped.ensures.made c.optimised.ensures

pub returns-in-Optimise-clause-stopped : goal.returns-in-Optimise-clause-stopped
returns-in-Optimise-clause-stopped c = stopped_by_memory (word_bytes c.args.words.now) c.args.program.now c.args.command c.or_stopped.result c.or_stopped.ensures.stopped

pub returns-in-Stages-clause-made : goal.returns-in-Stages-clause-made
returns-in-Stages-clause-made c = made_through (word_bytes c.args.words.now) c.args.program.now c.args.command Stages c.shown.result c.or_stopped-in-Stages.result c.in-Stages.is c.or_stopped-in-Stages.ensures.made c.shown.ensures

pub returns-in-Stages-clause-stopped : goal.returns-in-Stages-clause-stopped
returns-in-Stages-clause-stopped c = stopped_by_memory (word_bytes c.args.words.now) c.args.program.now c.args.command c.or_stopped-in-Stages.result c.or_stopped-in-Stages.ensures.stopped

pub returns-in-Move-clause-made : goal.returns-in-Move-clause-made
returns-in-Move-clause-made c = made_through (word_bytes c.args.words.now) c.args.program.now c.args.command Move c.moved.result c.or_stopped-in-Move.result c.in-Move.is c.or_stopped-in-Move.ensures.made c.moved.ensures

pub returns-in-Move-clause-stopped : goal.returns-in-Move-clause-stopped
returns-in-Move-clause-stopped c = stopped_by_memory (word_bytes c.args.words.now) c.args.program.now c.args.command c.or_stopped-in-Move.result c.or_stopped-in-Move.ensures.stopped

pub returns-in-Ranges-clause-made : goal.returns-in-Ranges-clause-made
returns-in-Ranges-clause-made c = made_through (word_bytes c.args.words.now) c.args.program.now c.args.command Ranges c.ranged.result c.or_stopped-in-Ranges.result c.in-Ranges.is c.or_stopped-in-Ranges.ensures.made c.ranged.ensures

pub returns-in-Ranges-clause-stopped : goal.returns-in-Ranges-clause-stopped
returns-in-Ranges-clause-stopped c = stopped_by_memory (word_bytes c.args.words.now) c.args.program.now c.args.command c.or_stopped-in-Ranges.result c.or_stopped-in-Ranges.ensures.stopped

pub returns-in-Divisions-clause-made : goal.returns-in-Divisions-clause-made
returns-in-Divisions-clause-made c = made_through (word_bytes c.args.words.now) c.args.program.now c.args.command Divisions c.divided.result c.or_stopped-in-Divisions.result c.in-Divisions.is c.or_stopped-in-Divisions.ensures.made c.divided.ensures

pub returns-in-Divisions-clause-stopped : goal.returns-in-Divisions-clause-stopped
returns-in-Divisions-clause-stopped c = stopped_by_memory (word_bytes c.args.words.now) c.args.program.now c.args.command c.or_stopped-in-Divisions.result c.or_stopped-in-Divisions.ensures.stopped

pub returns-in-Tails-clause-made : goal.returns-in-Tails-clause-made
returns-in-Tails-clause-made c = made_through (word_bytes c.args.words.now) c.args.program.now c.args.command Tails c.tailed.result c.or_stopped-in-Tails.result c.in-Tails.is c.or_stopped-in-Tails.ensures.made c.tailed.ensures

pub returns-in-Tails-clause-stopped : goal.returns-in-Tails-clause-stopped
returns-in-Tails-clause-stopped c = stopped_by_memory (word_bytes c.args.words.now) c.args.program.now c.args.command c.or_stopped-in-Tails.result c.or_stopped-in-Tails.ensures.stopped

pub returns-in-Join-clause-made : goal.returns-in-Join-clause-made
returns-in-Join-clause-made c = made_through (word_bytes c.args.words.now) c.args.program.now c.args.command Join c.joined.result c.or_stopped-in-Join.result c.in-Join.is c.or_stopped-in-Join.ensures.made c.joined.ensures

pub returns-in-Join-clause-stopped : goal.returns-in-Join-clause-stopped
returns-in-Join-clause-stopped c = stopped_by_memory (word_bytes c.args.words.now) c.args.program.now c.args.command c.or_stopped-in-Join.result c.or_stopped-in-Join.ensures.stopped

pub returns-in-Thorough-clause-made : goal.returns-in-Thorough-clause-made
returns-in-Thorough-clause-made c = made_through (word_bytes c.args.words.now) c.args.program.now c.args.command Thorough c.turned.result c.or_stopped-in-Thorough.result c.in-Thorough.is c.or_stopped-in-Thorough.ensures.made c.turned.ensures

pub returns-in-Thorough-clause-stopped : goal.returns-in-Thorough-clause-stopped
returns-in-Thorough-clause-stopped c = stopped_by_memory (word_bytes c.args.words.now) c.args.program.now c.args.command c.or_stopped-in-Thorough.result c.or_stopped-in-Thorough.ensures.stopped

pub returns-in-Passes-clause-made : goal.returns-in-Passes-clause-made
returns-in-Passes-clause-made c = made_through (word_bytes c.args.words.now) c.args.program.now c.args.command Passes c.chained.result c.or_stopped-in-Passes.result c.in-Passes.is c.or_stopped-in-Passes.ensures.made c.chained.ensures

pub returns-in-Passes-clause-stopped : goal.returns-in-Passes-clause-stopped
returns-in-Passes-clause-stopped c = stopped_by_memory (word_bytes c.args.words.now) c.args.program.now c.args.command c.or_stopped-in-Passes.result c.or_stopped-in-Passes.ensures.stopped

pub returns-in-Trial-clause-made : goal.returns-in-Trial-clause-made
returns-in-Trial-clause-made c = made_through (word_bytes c.args.words.now) c.args.program.now c.args.command (Trial c.in-Trial.field-0 c.in-Trial.field-1) c.tried.result c.or_stopped-in-Trial.result c.in-Trial.is c.or_stopped-in-Trial.ensures.made c.tried.ensures

pub returns-in-Trial-clause-stopped : goal.returns-in-Trial-clause-stopped
returns-in-Trial-clause-stopped c = stopped_by_memory (word_bytes c.args.words.now) c.args.program.now c.args.command c.or_stopped-in-Trial.result c.or_stopped-in-Trial.ensures.stopped
