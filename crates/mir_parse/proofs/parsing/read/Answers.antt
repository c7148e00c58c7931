use Rattle.std.proofs.Common.{◌∙◌}
use Rattle.mir_lex.specs.Terminals.{terminals}
use Rattle.mir_parse.proofs.Early.{stopped_early, read_more}
use Rattle.mir_parse.proofs.parsing.read.Goals as goal

pub returns-in-Stopped : goal.returns-in-Stopped
returns-in-Stopped c = c.in-Stopped.is ∙ stopped_early (terminals c.args.tokens.now.text c.args.tokens.now.items) c.loop-number.number c.loop-number.state c.in-Stopped.field-0 c.loop-number.invariant c.in-Stopped.is

pub loop-number-preserved : goal.loop-number-preserved
loop-number-preserved c =
    let stepped = c.in_default-step_at.ensures in
    read_more (terminals c.args.tokens.now.text c.args.tokens.now.items) c.loop-number.number c.loop-number.state c.step_at.new.state stepped.0 c.loop-number.invariant stepped.1 stepped.2
