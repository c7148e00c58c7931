-- The order in which tests that make no difference become Skips does not matter: once none is left, the nodes are the
-- same. For proofs only.
use Rattle.std.proofs.Common.{◌≡◌, ◌≢◌, ℕ, zero, suc, ◌<◌, List, [], ◌∷◌, length, slice_get, Option, Some, ◌⊎◌, inl, inr, refl, sym, ap, ◌∙◌, subst, arith}
use Rattle.std.proofs.lemmas.List.{length-set}
use Rattle.flow_graph.specs.ListLaws.{set_here, set_elsewhere}
use Rattle.std.proofs.lemmas.Bool.{cases_eq}
use Rattle.std.proofs.lemmas.Option.{slice_get_within}
use Rattle.mir_base.specs.declared.instructions.Test as tests
use Rattle.flow_graph.specs.declared.nodes.Node.{Node}
use Rattle.flow_graph.specs.declared.nodes.Node.TheVariants.{Skip, Test}
use Rattle.flow_graph.specs.Graphs.{AllWithin, succs_of}
use Rattle.flow_graph.specs.OneLaws.{same_places}
use Rattle.jump_clean.specs.Chains.{Skips, SkipsTo, IsEnd}
use Rattle.jump_clean.specs.Reductions.{IsReduction, AreReductions, NoEqualSuccessors, AreReduced}
use Rattle.jump_clean.specs.ChainLaws.{SkipsWithin, has_end, end_from}

-- ---- edges stay within

-- Skips lead to nodes
pub skips_within : (nodes : List Node) → AllWithin nodes → SkipsWithin nodes
skips_within nodes within n next is = within n 0 next (ap (λ o. slice_get (succs_of o) 0) is)

-- and so do Skips one after the other
pub leads_within : (nodes : List Node) → SkipsWithin nodes → (n m : ℕ) → SkipsTo nodes n m → n < length nodes → m < length nodes
leads_within nodes within n m s lt = by_count s.count n s.skips lt
  where
    by_count : (k n : ℕ) → Skips nodes k n m → n < length nodes → m < length nodes
    by_count zero n t lt = subst (λ i. i < length nodes) t lt
    by_count (suc k) n t lt = by_count k t.0 t.2 (within n t.0 t.1)

module _ (nodes : List Node) (n : ℕ) (reduced : List Node) (reduction : IsReduction nodes n reduced) where
  there : n < length nodes
  there = slice_get_within nodes n _ reduction.same.is

  pub reduced_here : slice_get reduced n ≡ Some (Skip reduction.taken)
  reduced_here = ap (λ l. slice_get l n) reduction.is ∙ set_here nodes n (Skip reduction.taken) there

  pub reduced_elsewhere : (m : ℕ) → m ≢ n → slice_get reduced m ≡ slice_get nodes m
  reduced_elsewhere m other = ap (λ l. slice_get l m) reduction.is ∙ set_elsewhere nodes n m (Skip reduction.taken) other

  pub reduced_long : length reduced ≡ length nodes
  reduced_long = ap length reduction.is ∙ length-set nodes n (Skip reduction.taken)

  pub reduced_within : AllWithin nodes → AllWithin reduced
  reduced_within within m slot s edge = elim (cases_eq m n) [
    | inl e ↦ at_node slot (sym (ap (λ o. slice_get (succs_of o) slot) (ap (slice_get reduced) e ∙ reduced_here)) ∙ edge)
    | inr other ↦ let lt = within m slot s (sym (ap (λ o. slice_get (succs_of o) slot) (reduced_elsewhere m other)) ∙ edge) in omega (arith, lt, reduced_long)
  ]
    where
      at_node : (slot : ℕ) → slice_get (reduction.taken ∷ []) slot ≡ Some s → s < length reduced
      at_node zero e =
          let same : reduction.taken ≡ s = cc in
          let lt = within n 0 reduction.taken (ap (λ o. slice_get (succs_of o) 0) reduction.same.is) in
          omega (arith, lt, same, reduced_long)
      at_node (suc slot) e = cc

-- all of them keep every edge within
pub reductions_within : (nodes : List Node) (order : List ℕ) (reduced : List Node) → AreReductions nodes order reduced → AllWithin nodes → AllWithin reduced
reductions_within nodes [] reduced reductions within = subst AllWithin (sym reductions) within
reductions_within nodes (n ∷ order) reduced reductions within = reduced_within reductions.0 n reduced reductions.2 (reductions_within nodes order reductions.0 reductions.1 within)

-- reductions keep the number of nodes
pub all_long : (nodes : List Node) (order : List ℕ) (reduced : List Node) → AreReductions nodes order reduced → length reduced ≡ length nodes
all_long nodes [] reduced reductions = ap length reductions
all_long nodes (n ∷ order) reduced reductions = reduced_long reductions.0 n reduced reductions.2 ∙ all_long nodes order reductions.0 reductions.1

-- ---- what has become of a node

-- the node is as it was, or was a Test and is a Skip to its `taken`
abbrev pub BecomesAt : Option Node → Option Node → Type 0
BecomesAt before after = (before ≡ after)
    ⊎ ((test : tests.Test) × (taken : ℕ) × (other : ℕ) × (before ≡ Some (Test test taken other))
    × (after ≡ Some (Skip taken)))

-- each node is as it was, or was a Test and is a Skip to its `taken`
pub record Becomes (before after : List Node) : Type 0 where
  pub at_node : (n : ℕ) → BecomesAt (slice_get before n) (slice_get after n)

-- no change
pub becomes_itself : (nodes : List Node) → Becomes nodes nodes
becomes_itself nodes = record { at_node = λ n. inl refl }

-- one change after another
pub becomes_trans : (a b c : List Node) → Becomes a b → Becomes b c → Becomes a c
becomes_trans a b c p q = record { at_node = λ n. chained (slice_get a n) (slice_get b n) (slice_get c n) (p.at_node n) (q.at_node n) }
  where
    chained : (x y z : Option Node) → BecomesAt x y → BecomesAt y z → BecomesAt x z
    chained x y z (inl e) (inl e') = inl (e ∙ e')
    chained x y z (inl e) (inr r) = inr (r.0, r.1, r.2, e ∙ r.3, r.4)
    chained x y z (inr r) (inl e) = inr (r.0, r.1, r.2, r.3, sym e ∙ r.4)
    chained x y z (inr r) (inr r') = let both : Some (Skip r.1) ≡ Some (Test r'.0 r'.1 r'.2) = sym r.4 ∙ r'.3 in cc

-- one Test has become a Skip
pub one_becomes : (nodes : List Node) (n : ℕ) (reduced : List Node) → IsReduction nodes n reduced → Becomes nodes reduced
one_becomes nodes n reduced reduction = record {
  at_node = λ m. elim (cases_eq m n) [
    | inl e ↦ inr (reduction.same.test, reduction.taken, reduction.same.other, ap (slice_get nodes) e ∙ reduction.same.is, ap (slice_get reduced) e ∙ reduced_here nodes n reduced reduction)
    | inr other ↦ inl (sym (reduced_elsewhere nodes n reduced reduction m other))
  ];
}

-- and so have all
pub all_become : (nodes : List Node) (order : List ℕ) (reduced : List Node) → AreReductions nodes order reduced → Becomes nodes reduced
all_become nodes [] reduced reductions = subst (Becomes nodes) (sym reductions) (becomes_itself nodes)
all_become nodes (n ∷ order) reduced reductions = becomes_trans nodes reductions.0 reduced (all_become nodes order reductions.0 reductions.1) (one_becomes reductions.0 n reduced reductions.2)

-- Skips stay
pub skip_stays : (before after : List Node) → Becomes before after → (n next : ℕ) → slice_get before n ≡ Some (Skip next) → slice_get after n ≡ Some (Skip next)
skip_stays before after p n next is = by_case (p.at_node n)
  where
    by_case : BecomesAt (slice_get before n) (slice_get after n) → slice_get after n ≡ Some (Skip next)
    by_case (inl e) = sym e ∙ is
    by_case (inr r) = let both : Some (Skip next) ≡ Some (Test r.0 r.1 r.2) = sym is ∙ r.3 in cc

-- so Skips lead where they led
pub leads_still : (before after : List Node) → Becomes before after → (n m : ℕ) → SkipsTo before n m → SkipsTo after n m
leads_still before after p n m s = record { count = s.count; skips = by_count s.count n s.skips }
  where
    by_count : (k n : ℕ) → Skips before k n m → Skips after k n m
    by_count zero n t = t
    by_count (suc k) n t = (t.0, skip_stays before after p n t.0 t.1, by_count k t.0 t.2)

-- ---- the order does not matter

-- where chains come together they have one end
pub meet_in_end : (nodes : List Node) → AllWithin nodes → (a b c : ℕ) → a < length nodes → SkipsTo nodes a c
    → SkipsTo nodes b c → (e : ℕ) × IsEnd nodes a e × IsEnd nodes b e
meet_in_end nodes within a b c lt s t =
    let skips = skips_within nodes within in
    let e = has_end nodes skips c (leads_within nodes skips a c s lt) in
    (e.0, end_from nodes a c e.0 s e.1, end_from nodes b c e.0 t e.1)

module _ (last : List Node) (within : AllWithin last) (differ : NoEqualSuccessors last) where
  -- a Test that becomes a Skip on the way to other nodes is one in these too, since none is left in them
  next_becomes : (middle : List Node) (n : ℕ) (after : List Node) → Becomes middle last → IsReduction middle n after → Becomes after last
  next_becomes middle n after p reduction = record {
    at_node = λ m. elim (cases_eq m n) [
      | inl e ↦ subst (λ k. BecomesAt (slice_get after k) (slice_get last k)) (sym e) (inl (here (p.at_node n)))
      | inr other ↦ subst (λ o. BecomesAt o (slice_get last m)) (sym (reduced_elsewhere middle n after reduction m other)) (p.at_node m)
    ];
  }
    where
      here : BecomesAt (slice_get middle n) (slice_get last n) → slice_get after n ≡ slice_get last n
      here (inl e) =
          let is : slice_get last n ≡ Some (Test reduction.same.test reduction.taken reduction.same.other) = sym e ∙ reduction.same.is in
          let lt = within n 0 reduction.taken (ap (λ o. slice_get (succs_of o) 0) is) in
          let meet = meet_in_end last within reduction.taken reduction.same.other reduction.same.end lt (leads_still middle last p reduction.taken reduction.same.end reduction.same.taken_end.leads) (leads_still middle last p reduction.same.other reduction.same.end reduction.same.other_end.leads) in
          absurd (differ n reduction.taken (record { test = reduction.same.test; other = reduction.same.other; end = meet.0; is = is; taken_end = meet.1; other_end = meet.2 }))
      here (inr r) =
          let both : Some (Test reduction.same.test reduction.taken reduction.same.other) ≡ Some (Test r.0 r.1 r.2) = sym reduction.same.is ∙ r.3 in
          let same : reduction.taken ≡ r.1 = cc in
          reduced_here middle n after reduction ∙ ap (λ s. Some (Skip s)) same ∙ sym r.4

  become_last : (nodes : List Node) (order : List ℕ) (reduced : List Node) → Becomes nodes last → AreReductions nodes order reduced → Becomes reduced last
  become_last nodes [] reduced p reductions = subst (λ l. Becomes l last) (sym reductions) p
  become_last nodes (n ∷ order) reduced p reductions = next_becomes reductions.0 n reduced (become_last nodes order reductions.0 p reductions.1) reductions.2

-- a Test becomes a Skip and no Skip a Test, so nodes that become each other are equal
both_ways : (x y : Option Node) → BecomesAt x y → BecomesAt y x → x ≡ y
both_ways x y (inl e) q = e
both_ways x y (inr r) (inl e) = sym e
both_ways x y (inr r) (inr r') = let both : Some (Skip r.1) ≡ Some (Test r'.0 r'.1 r'.2) = sym r.4 ∙ r'.3 in cc

-- in whatever order the tests become Skips, the nodes in the end are the same
pub reduced_are_one : (nodes a b : List Node) → AllWithin nodes → AreReduced nodes a → AreReduced nodes b → a ≡ b
reduced_are_one nodes a b within p q =
    let a_within = reductions_within nodes p.order a p.reductions within in
    let b_within = reductions_within nodes q.order b q.reductions within in
    let forth = become_last b b_within q.differ nodes p.order a (all_become nodes q.order b q.reductions) p.reductions in
    let back = become_last a a_within p.differ nodes q.order b (all_become nodes p.order a p.reductions) q.reductions in
    same_places a b (λ n. both_ways (slice_get a n) (slice_get b n) (forth.at_node n) (back.at_node n))
