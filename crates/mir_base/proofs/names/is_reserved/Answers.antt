use Rattle.std.proofs.Common.{ap, ◌∙◌}
use Rattle.std.specs.Option.{is_some}
use Rattle.mir_base.proofs.Reserved.{found_reserved}
use Rattle.mir_base.proofs.names.is_reserved.Goals as goal

pub returns : goal.returns
returns c = c.is_some.ensures ∙ ap is_some c.reserved_word.ensures ∙ found_reserved c.args.bytes.now
