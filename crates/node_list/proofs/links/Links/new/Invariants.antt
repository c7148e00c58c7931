use Rattle.std.proofs.Common.{◌≡◌, ℕ, ◌<◌, length, get_or}
use Rattle.node_list.proofs.links.Links.new.Given as goal

abbrev pub invariant-loop-number : goal.invariant-loop-number
invariant-loop-number l = record {
  len : length l.next.items ≡ l.number;
  itself : (k : ℕ) → k < l.number → get_or l.next.items k 0 ≡ k;
}
