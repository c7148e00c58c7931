use Rattle.std.proofs.Common.{◌≡◌, ℕ, ◌<◌, ◌∷◌, [], length, map}
use Rattle.jump_clean.specs.Classes.{class, members_of}
use Rattle.jump_clean.proofs.classes.Classes.apart.Given as goal

abbrev pub invariant-loop-n : goal.invariant-loop-n
invariant-loop-n l = record {
  long : length l.of.items ≡ l.n;
  members_long : length (map (λ v. v.items) l.members.items) ≡ l.n;
  own : (k : ℕ) → k < l.n → class l.of.items k ≡ k;
  single : (k : ℕ) → k < l.n → members_of (map (λ v. v.items) l.members.items) k ≡ k ∷ [];
}
