use Rattle.std.proofs.Common.{◌≡◌, ℕ, ◌+◌, ◌<◌, ◌≤◌, length, get_or}
use Rattle.node_list.proofs.links.own_links.Given as goal

abbrev pub invariant-loop-node : goal.invariant-loop-node
invariant-loop-node l = record {
  len : length l.links.items ≡ l.nodes + l.lists;
  loose : (k : ℕ) → l.lists ≤ k → k < l.node → get_or l.links.items k 0 ≡ k;
}

abbrev pub invariant-loop-list : goal.invariant-loop-list
invariant-loop-list l = record {
  len : length l.links.items ≡ l.nodes + l.lists;
  loose : (k : ℕ) → l.lists ≤ k → k < l.nodes → get_or l.links.items k 0 ≡ k;
  rings : (k : ℕ) → k < l.list → get_or l.links.items k 0 ≡ l.nodes + k;
  lists : (k : ℕ) → k < l.list → get_or l.links.items (l.nodes + k) 0 ≡ k;
}
