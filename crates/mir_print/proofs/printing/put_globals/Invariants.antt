use Rattle.std.proofs.Common.{◌≡◌, ◌++◌, flat_map, take}
use Rattle.mir_base.specs.Text.{global_text}
use Rattle.mir_print.proofs.printing.put_globals.Given as goal

abbrev pub invariant-loop-name : goal.invariant-loop-name
invariant-loop-name l = l.text.items ≡ l.fn.text.items ++ flat_map global_text (take l.name-index l.globals)
