use Rattle.std.proofs.Common.{◌≡◌, ℕ, false, get_or, length, take}
use Rattle.motion_rewrite.specs.Temporaries.{has_insertion}
use Rattle.motion_rewrite.proofs.temporaries.inserted_somewhere.Given as goal

abbrev pub invariant-loop-node : goal.invariant-loop-node
invariant-loop-node l = record {
  long : length l.inserted ≡ l.exprs;
  bits : (i : ℕ) → get_or l.inserted i false ≡ has_insertion (take l.node l.insert) i;
}
