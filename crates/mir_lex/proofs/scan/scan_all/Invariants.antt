use Rattle.std.proofs.Common.{◌≡◌, ◌+◌, take}
use Rattle.mir_lex.specs.declared.scan.Scanned.TheVariants.{Going}
use Rattle.mir_lex.specs.Scanner.{scan, HasPlace}
use Rattle.mir_lex.proofs.scan.scan_all.Given as goal

abbrev pub invariant-loop-i : goal.invariant-loop-i
invariant-loop-i l = (Going l.scan ≡ scan l.text (take l.i l.text)) × HasPlace l.i (l.i + 1) (Going l.scan)
