use Rattle.std.proofs.Common.{◌≡◌, ◌++◌, map, flat_map, take}
use Rattle.mir_base.specs.Text.{unit_text, global_text}
use Rattle.mir_print.proofs.printing.print.Given as goal

abbrev pub invariant-loop-number : goal.invariant-loop-number
invariant-loop-number l = l.text.items ≡ flat_map global_text l.program.globals ++ flat_map (unit_text (map (λ u. u.name) l.units)) (take l.number l.units)
