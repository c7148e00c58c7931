use Rattle.std.proofs.Common.{◌≡◌, List, ℕ, is_some, take}
use Rattle.mir_valid.specs.Names.{has_name, number_in}
use Rattle.mir_valid.specs.Rules.{global_names, same_global_lines}
use Rattle.mir_valid.specs.Refusals.{least}
use Rattle.mir_valid.proofs.globals.same_global.Given as goal

abbrev pub invariant-loop-global : goal.invariant-loop-global
invariant-loop-global l = record {
  seen : (x : List ℕ) → is_some (number_in l.seen x) ≡ has_name (global_names (take l.global-index l.globals)) x;
  least : l.best ≡ least (same_global_lines (take l.global-index l.globals));
}
