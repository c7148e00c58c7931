use Rattle.std.proofs.Common.{◌≡◌, take}
use Rattle.mir_lex.specs.Terminals.{terminals}
use Rattle.mir_parse.specs.Reader.{reads}
use Rattle.mir_parse.proofs.parsing.read.Given as goal

abbrev pub invariant-loop-number : goal.invariant-loop-number
invariant-loop-number l = l.state ≡ reads (take l.number (terminals l.tokens.text l.tokens.items))
