use Rattle.std.proofs.Common.{◌≡◌, ◌++◌, drop}
use Rattle.mir_base.specs.Text.{lines_text}
use Rattle.mir_print.specs.Scopes.{naming_of}
use Rattle.mir_print.proofs.printing.put_lines.Given as goal

abbrev pub invariant-loop-place : goal.invariant-loop-place
invariant-loop-place l =
    l.text.items ++ lines_text (naming_of l.scope) l.place (drop l.place l.scope.body.now)
    ≡ l.fn.text.items ++ lines_text (naming_of l.scope) 0 l.scope.body.now
