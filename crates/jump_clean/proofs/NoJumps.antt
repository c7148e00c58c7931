-- Nodes of which none is a jump: no Test makes no difference.
use Rattle.std.proofs.Common.{◌≡◌, ℕ, zero, suc, ◌+◌, ◌<◌, true, false, nat_eq, eq-eqb, List, [], ◌∷◌, length, map, slice_get, Some, inl, inr, refl, sym, ap, subst, ◌∙◌, arith}
use Rattle.std.proofs.lemmas.Bool.{cases_lt}
use Rattle.std.proofs.lemmas.List.FromFn.{get_or-range_with_len, length-range_with_len}
use Rattle.std.proofs.lemmas.Option.{same_Some}
use Rattle.std.specs.List.{range_with_len}
use Rattle.std.specs.Prelude.{slice_index_or}
use Rattle.flow_graph.specs.declared.nodes.Node.{Node}
use Rattle.flow_graph.specs.declared.nodes.Node.TheVariants.{Skip, Test}
use Rattle.flow_graph.specs.Graphs.{AllWithin, node_succs, succs_of}
use Rattle.flow_graph.specs.NodeLaws.{redirected_none}
use Rattle.flow_graph.specs.Retained.{redirected}
use Rattle.jump_clean.specs.Chains.{IsEnd, Skips}
use Rattle.jump_clean.specs.Cleaned.{AreCleaned}
use Rattle.jump_clean.specs.Reductions.{HaveNoJumps, NoEqualSuccessors, is_jump}

-- so no node up to this one is a jump
pub no_jump_further : (nodes : List Node) (n : ℕ) (here : Node) → slice_get nodes n ≡ Some here → is_jump here ≡ false → ((k : ℕ) (node : Node) → k < n → slice_get nodes k ≡ Some node → is_jump node ≡ false) → (k : ℕ) (node : Node) → k < n + 1 → slice_get nodes k ≡ Some node → is_jump node ≡ false
no_jump_further nodes n here is apart all k node lt e = elim (cases_lt k n) [
  | inl low ↦ all k node low e
  | inr high ↦
      let same : k ≡ n = omega (arith, high, lt) in
      let one : node ≡ here = same_Some node here (sym e ∙ ap (slice_get nodes) same ∙ is) in
      ap is_jump one ∙ apart
]

-- a chain has one node
no_chain : (nodes : List Node) → HaveNoJumps nodes → (count n m : ℕ) → Skips nodes count n m → n ≡ m
no_chain nodes none zero n m s = s
no_chain nodes none (suc count) n m s = let jump : true ≡ false = none n (Skip s.0) s.1 in cc

-- so no Test has successors with the same end of chain
pub no_equal : (nodes : List Node) → HaveNoJumps nodes → NoEqualSuccessors nodes
no_equal nodes none n taken d =
    let first : taken ≡ d.end = no_chain nodes none d.taken_end.leads.count taken d.end d.taken_end.leads.skips in
    let second : d.other ≡ d.end = no_chain nodes none d.other_end.leads.count d.other d.end d.other_end.leads.skips in
    let apart : nat_eq taken d.other ≡ false = none n (Test d.test taken d.other) d.is in
    let equal : nat_eq taken d.other ≡ true = eq-eqb taken d.other (first ∙ sym second) in
    cc

-- it ends at each node
all_end : (nodes : List Node) → HaveNoJumps nodes → (n : ℕ) → IsEnd nodes n n
all_end nodes none n = record {
  leads = record { count = 0; skips = refl };
  ends = record {
    back = λ m to. record { count = 0; skips = sym (no_chain nodes none to.count n m to.skips) };
    least = λ m to. let same : n ≡ m = no_chain nodes none to.count n m to.skips in omega (arith, same);
  };
}

-- the numbers from 0 on, each in its own place
own_place : (size n : ℕ) → n < size → slice_index_or (range_with_len 0 size) n 0 ≡ n
own_place size n below = let there = get_or-range_with_len 0 size n 0 below in omega (arith, there)

-- and no node changes
pub none_changed : (nodes : List Node) → AllWithin nodes → HaveNoJumps nodes → AreCleaned nodes nodes
none_changed nodes within none =
    let long = length nodes in
    let numbers = range_with_len 0 long in
    record {
      reduced = nodes;
      are_reduced = record { order = []; reductions = refl; differ = no_equal nodes none };
      ends = numbers;
      are_ends = record {
        long = length-range_with_len 0 long;
        are = λ n below. subst (IsEnd nodes n) (sym (own_place long n below)) (all_end nodes none n);
      };
      are = sym (all_stay nodes (λ n node here slot s edge. own_place long s (within n slot s (ap (λ o. slice_get (succs_of o) slot) here ∙ edge))));
    }
  where
    all_stay : (l : List Node) → ((n : ℕ) (node : Node) → slice_get l n ≡ Some node → (slot s : ℕ) → slice_get (node_succs node) slot ≡ Some s → slice_index_or (range_with_len 0 (length nodes)) s 0 ≡ s) → map (redirected (λ n. slice_index_or (range_with_len 0 (length nodes)) n 0)) l ≡ l
    all_stay [] stay = refl
    all_stay (node ∷ l) stay =
        ap (λ m. redirected (λ n. slice_index_or (range_with_len 0 (length nodes)) n 0) node ∷ m) (all_stay l (λ n. stay (suc n)))
        ∙ ap (λ m. m ∷ l) (redirected_none (λ n. slice_index_or (range_with_len 0 (length nodes)) n 0) node (stay 0 node refl))
