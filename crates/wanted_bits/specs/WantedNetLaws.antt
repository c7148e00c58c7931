-- The flow of wanted bits keeps the laws of flows, and its least solution has the least wanted bits. For proofs, and the
-- ghost members of `WantedFlow`.
use Rattle.std.proofs.Common.{◌≡◌, ℕ, zero, suc, ◌<◌, ◌≤◌, min, true, inl, inr, List, [], ◌∷◌, length, slice_get, Option, Some, refl, sym, ap, ◌∙◌, arith}
use Rattle.std.proofs.lemmas.Bool.{cases_eq}
use Rattle.std.proofs.lemmas.List.{length-map, length-replicate}
use Rattle.std.proofs.lemmas.Option.{slice_get-get_or}
use Rattle.fix_solve.specs.Net.{NetLaws}
use Rattle.fix_solve.specs.Pointwise.{pointwise_length}
use Rattle.node_list.specs.Lists.{list_at}
use Rattle.flow_graph.specs.declared.edges.Edge.{Edge}
use Rattle.flow_graph.specs.FlowEdges.{edge_at}
use Rattle.flow_graph.specs.Graphs.{GraphShape}
use Rattle.path_laws.specs.Between.{AreBetween}
use Rattle.wanted_bits.specs.declared.picking.Shift.{Shift}
use Rattle.wanted_bits.specs.BitsOrder.{BelowLists, BelowNumber, HasFew, lists_rank, rank_most}
use Rattle.wanted_bits.specs.Wanted.{Asked}
use Rattle.wanted_bits.specs.Walking.{before_list, bits_at}
use Rattle.wanted_bits.specs.WalkLaws.{FewerEach, list_long, list_more}
use Rattle.wanted_bits.specs.WantedNet.{capped, wanted_net}

-- ---- lists by variables

-- fewer bits are below more, of which there are at most 64
few_below : (a b : ℕ) → a ≤ b → b ≤ 64 → BelowNumber a b
few_below a b le most = elim (cases_eq a b) [ inl e ↦ inl e | inr ne ↦ inr (omega (arith, le, ne), most) ]

-- and then they are fewer
below_few : (a b : ℕ) → BelowNumber a b → a ≤ b
below_few a b (inl e) = omega (arith, e)
below_few a b (inr l) = omega (arith, l.0)

-- of lists too
pub below_fewer : (xs ys : List ℕ) → BelowLists xs ys → FewerEach xs ys
below_fewer [] [] p x = omega arith
below_fewer [] (y ∷ ys) p x = absurd p
below_fewer (z ∷ xs) [] p x = absurd p
below_fewer (z ∷ xs) (y ∷ ys) p zero = below_few z y p.0
below_fewer (z ∷ xs) (y ∷ ys) p (suc x) = below_fewer xs ys p.1 x

-- and the other way round
pub fewer_below : (xs ys : List ℕ) → length xs ≡ length ys → FewerEach xs ys → HasFew ys → BelowLists xs ys
fewer_below [] [] long le few = tt
fewer_below [] (y ∷ ys) long le few = absurd (omega (arith, long))
fewer_below (x ∷ xs) [] long le few = absurd (omega (arith, long))
fewer_below (x ∷ xs) (y ∷ ys) long le few = (few_below x y (le 0) (few 0), fewer_below xs ys (let e : suc (length xs) ≡ suc (length ys) = long in omega arith) (λ k. le (suc k)) (λ k. few (suc k)))

-- ---- at most 64 of each

-- variable by variable
pub capped_at : (xs : List ℕ) (x : ℕ) → bits_at (capped xs) x ≡ min 64 (bits_at xs x)
capped_at [] x = refl
capped_at (y ∷ xs) zero = refl
capped_at (y ∷ xs) (suc x) = capped_at xs x

-- few numbers stay
pub capped_same : (xs : List ℕ) → HasFew xs → capped xs ≡ xs
capped_same [] few = refl
capped_same (x ∷ xs) few =
    let first = few 0 in
    let is : min 64 x ≡ x = omega (arith, first) in
    ap (λ n. n ∷ capped xs) is ∙ ap (λ l. x ∷ l) (capped_same xs (λ k. few (suc k)))

-- and they are few
pub capped_few : (xs : List ℕ) → HasFew (capped xs)
capped_few xs x = omega (arith, capped_at xs x)

module _ (graph : GraphShape) (asked : Asked) (back : ℕ → Option Shift) (lists : List (List ℕ)) (edges : List Edge) (firsts : List ℕ) where
  -- ---- the laws of the flow

  edge_there : (e : ℕ) → e < length edges → slice_get edges e ≡ Some (edge_at edges e)
  edge_there e lt = slice_get-get_or edges e _ lt

  pub wanted_laws : AreBetween true graph.nodes lists (length lists) edges firsts → NetLaws BelowLists length lists_rank (wanted_net graph asked back lists edges firsts)
  wanted_laws between = record {
    sources = λ e lt. between.source e (edge_at edges e) (edge_there e lt);
    targets = λ e lt. (between.sound e (edge_at edges e) (edge_there e lt)).within;
    starts = λ n lt. between.under n;
    stops = λ n lt. between.under (suc n);
    within = λ n e lt low high. let under = between.under (suc n) in between.only e n (edge_at edges e) (edge_there e (omega (arith, high, under))) low high;
    from_start = λ e lt. (between.stands e (edge_at edges e) (edge_there e lt)).0;
    to_stop = λ e lt. (between.stands e (edge_at edges e) (edge_there e lt)).1;
    first_size = λ n lt. length-replicate (length graph.vars) 0;
    transfer_size = λ e bits lt is. length-map (before_list graph asked back (list_at lists (edge_at edges e).source) bits) (min 64) ∙ list_long graph asked back (list_at lists (edge_at edges e).source) bits ∙ is;
    monotone = λ e xs ys lt is p.
        let list = list_at lists (edge_at edges e).source in
        let more = list_more graph asked back list xs ys (pointwise_length BelowNumber xs ys p) (below_fewer xs ys p) in
        fewer_below (capped (before_list graph asked back list xs)) (capped (before_list graph asked back list ys))
        (length-map (before_list graph asked back list xs) (min 64) ∙ list_long graph asked back list xs ∙ pointwise_length BelowNumber xs ys p ∙ sym (list_long graph asked back list ys) ∙ sym (length-map (before_list graph asked back list ys) (min 64)))
        (λ x. omega (arith, capped_at (before_list graph asked back list xs) x, capped_at (before_list graph asked back list ys) x, more x)) (capped_few (before_list graph asked back list ys));
    ranks = λ xs is. omega (arith, rank_most xs, is);
  }
