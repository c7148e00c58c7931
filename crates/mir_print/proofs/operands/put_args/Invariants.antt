use Rattle.std.proofs.Common.{◌≡◌, ◌++◌, map, take, codes}
use Rattle.std.specs.List.{join_with_byte}
use Rattle.mir_base.specs.Text.{operand_text}
use Rattle.mir_print.specs.Scopes.{naming_of}
use Rattle.mir_print.proofs.operands.put_args.Given as goal

abbrev pub invariant-loop-number : goal.invariant-loop-number
invariant-loop-number l =
    l.text.items ≡ l.fn.text.items ++ codes "(" ++ join_with_byte 59 (map (λ a. operand_text (naming_of l.scope) a ++ codes ",int") (take l.number l.operands))
