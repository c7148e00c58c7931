-- The laws of chains: each node has exactly one end of chain. For proofs only; definitions cite `IsSkipChain`.
use Rattle.std.proofs.Common.{◌≡◌, ℕ, zero, suc, ◌+◌, ◌-◌, ◌<◌, ◌≤◌, Bool, true, false, List, [], ◌∷◌, ◌++◌, length, slice_get, slice_set, replicate, Option, Some, None, ◌⊎◌, inl, inr, refl, sym, ap, ◌∙◌, subst, arith, zero-add, suc-add}
use Rattle.std.proofs.lemmas.Bool.{cases_lt}
use Rattle.std.proofs.lemmas.List.{length-replicate, length-set}
use Rattle.std.proofs.lemmas.Option.{get_or_from_slice_get, slice_get_within}
use Rattle.flow_graph.specs.declared.nodes.Node.{Node}
use Rattle.flow_graph.specs.declared.nodes.Node.TheVariants.{Start, Skip, Assign, Print, Guard, Call, Test, Return}
use Rattle.flow_graph.specs.MarkLaws.{marked_before, unmarked_set}
use Rattle.flow_graph.specs.ReachWalks.{unmarked}
use Rattle.jump_clean.specs.Chains.{Skips, SkipsTo, EndsChains, IsEnd}
use Rattle.flow_graph.specs.Numbering.{IsIn}

-- ---- Skips one after the other

-- chains of Skips join end to end, and their lengths add up
skips_trans : (nodes : List Node) (j k a b c : ℕ) → Skips nodes j a b → Skips nodes k b c → Skips nodes (j + k) a c
skips_trans nodes zero k a b c s t = rw (zero-add k) (subst (λ m. Skips nodes k m c) (sym s) t)
skips_trans nodes (suc j) k a b c s t = rw (suc-add j k) (s.0, s.1, skips_trans nodes j k s.0 b c s.2 t)

-- a node has one successor at most, so the longer of two ways goes over the end of the shorter one
skips_rest : (nodes : List Node) (k j a b c : ℕ) → k ≤ j → Skips nodes k a b → Skips nodes j a c → Skips nodes (j - k) b c
skips_rest nodes zero j a b c le s t =
    let none : j - 0 ≡ j = omega arith in
    subst (λ i. Skips nodes i b c) (sym none) (subst (λ m. Skips nodes j m c) s t)
skips_rest nodes (suc k) zero a b c le s t = absurd (omega (arith, le))
skips_rest nodes (suc k) (suc j) a b c le s t =
    let both : Some (Skip s.0) ≡ Some (Skip t.0) = sym s.1 ∙ t.1 in
    let same : s.0 ≡ t.0 = cc in
    let rest : suc j - suc k ≡ j - k = omega arith in
    subst (λ i. Skips nodes i b c) (sym rest) (skips_rest nodes k j s.0 b c (omega (arith, le)) s.2 (subst (λ m. Skips nodes j m c) (sym same) t.2))

module _ (nodes : List Node) where
  pub to_itself : (n : ℕ) → SkipsTo nodes n n
  to_itself n = record { count = 0; skips = refl }

  pub to_next : (n next : ℕ) → slice_get nodes n ≡ Some (Skip next) → SkipsTo nodes n next
  to_next n next is = record { count = 1; skips = (next, is, refl) }

  pub to_trans : (a b c : ℕ) → SkipsTo nodes a b → SkipsTo nodes b c → SkipsTo nodes a c
  to_trans a b c s t = record { count = s.count + t.count; skips = skips_trans nodes s.count t.count a b c s.skips t.skips }

  pub one_leads_on : (a b c : ℕ) → SkipsTo nodes a b → SkipsTo nodes a c → SkipsTo nodes b c ⊎ SkipsTo nodes c b
  one_leads_on a b c s t = elim (cases_lt s.count t.count) [
    | inl lt ↦ inl (record { count = t.count - s.count; skips = skips_rest nodes s.count t.count a b c (omega (arith, lt)) s.skips t.skips })
    | inr ge ↦ inr (record { count = s.count - t.count; skips = skips_rest nodes t.count s.count a c b (omega (arith, ge)) t.skips s.skips })
  ]

  -- ---- ends

  pub end_is_one : (n e e' : ℕ) → IsEnd nodes n e → IsEnd nodes n e' → e ≡ e'
  end_is_one n e e' is is' = elim (one_leads_on n e e' is.leads is'.leads) [
    | inl s ↦ let a = is.ends.least e' s in let b = is'.ends.least e (is.ends.back e' s) in omega (arith, a, b)
    | inr s ↦ let a = is'.ends.least e s in let b = is.ends.least e' (is'.ends.back e s) in omega (arith, a, b)
  ]

  -- the end of chain is that of each node of the chain
  pub end_from : (n m e : ℕ) → SkipsTo nodes n m → IsEnd nodes m e → IsEnd nodes n e
  end_from n m e s is = record { leads = to_trans n m e s is.leads; ends = is.ends }

  pub end_later : (n m e : ℕ) → SkipsTo nodes n m → IsEnd nodes n e → IsEnd nodes m e
  end_later n m e s is = elim (one_leads_on n m e s is.leads) [
    | inl t ↦ record { leads = t; ends = is.ends }
    | inr t ↦ record { leads = is.ends.back m t; ends = is.ends }
  ]

  -- a node that is no Skip ends chains
  pub ends_at_other : (n : ℕ) → ((next : ℕ) → slice_get nodes n ≡ Some (Skip next) → ⊥) → EndsChains nodes n
  ends_at_other n other = record { back = λ m s. subst (λ k. SkipsTo nodes k n) (stays m s) (to_itself n); least = λ m s. omega (arith, stays m s) }
    where
      stays : (m : ℕ) → SkipsTo nodes n m → n ≡ m
      stays m s = by_count s.count s.skips
        where
          by_count : (k : ℕ) → Skips nodes k n m → n ≡ m
          by_count zero t = t
          by_count (suc k) t = absurd (other t.0 t.1)

-- a node is a Skip, or it is none
pub skip_or_other : (node : Option Node) → ((next : ℕ) × (node ≡ Some (Skip next))) ⊎ ((next : ℕ) → node ≡ Some (Skip next) → ⊥)
skip_or_other None = inr (λ next e. cc)
skip_or_other (Some (Start s)) = inr (λ next e. cc)
skip_or_other (Some (Skip s)) = inl (s, refl)
skip_or_other (Some (Assign x rhs s)) = inr (λ next e. cc)
skip_or_other (Some (Print a s)) = inr (λ next e. cc)
skip_or_other (Some (Guard x g s)) = inr (λ next e. cc)
skip_or_other (Some (Call into unit operands s)) = inr (λ next e. cc)
skip_or_other (Some (Test test taken other)) = inr (λ next e. cc)
skip_or_other (Some (Return a)) = inr (λ next e. cc)

-- ---- the Skips of a chain

-- these Skips lead from node n to node m, each but the first the successor of the one before
abbrev pub IsSkipChain : List Node → List ℕ → ℕ → ℕ → Type 0
IsSkipChain nodes [] n m = n ≡ m
IsSkipChain nodes (k ∷ chain) n m = (k ≡ n) × (next : ℕ) × (slice_get nodes k ≡ Some (Skip next))
    × IsSkipChain nodes chain next m

module _ (nodes : List Node) where
  pub chain_leads : (chain : List ℕ) (n m : ℕ) → IsSkipChain nodes chain n m → SkipsTo nodes n m
  chain_leads [] n m w = subst (SkipsTo nodes n) w (to_itself nodes n)
  chain_leads (k ∷ chain) n m w = subst (λ i. SkipsTo nodes i m) w.0 (to_trans nodes k w.1 m (to_next nodes k w.1 w.2) (chain_leads chain w.1 m w.3))

  -- each Skip of the chain is led to, and leads on
  pub led_to : (chain : List ℕ) (n m x : ℕ) → IsSkipChain nodes chain n m → IsIn x chain → SkipsTo nodes n x
  led_to [] n m x w h = absurd h
  led_to (k ∷ chain) n m x w (inl e) = subst (SkipsTo nodes n) (sym w.0 ∙ e) (to_itself nodes n)
  led_to (k ∷ chain) n m x w (inr h) = subst (λ i. SkipsTo nodes i x) w.0 (to_trans nodes k w.1 x (to_next nodes k w.1 w.2) (led_to chain w.1 m x w.3 h))

  pub leads_on : (chain : List ℕ) (n m x : ℕ) → IsSkipChain nodes chain n m → IsIn x chain → SkipsTo nodes x m
  leads_on [] n m x w h = absurd h
  leads_on (k ∷ chain) n m x w (inl e) = subst (λ i. SkipsTo nodes i m) (sym w.0 ∙ e) (chain_leads (k ∷ chain) n m w)
  leads_on (k ∷ chain) n m x w (inr h) = leads_on chain w.1 m x w.3 h

  pub chain_push : (chain : List ℕ) (n m next : ℕ) → IsSkipChain nodes chain n m
      → slice_get nodes m ≡ Some (Skip next) → IsSkipChain nodes (chain ++ m ∷ []) n next
  chain_push [] n m next w is = (sym w, next, is, refl)
  chain_push (k ∷ chain) n m next w is = (w.0, w.1, w.2, chain_push chain w.1 m next w.3 is)

  pub chain_rest : (front chain : List ℕ) (c n m : ℕ) → IsSkipChain nodes (front ++ c ∷ chain) n m → SkipsTo nodes n c × IsSkipChain nodes (c ∷ chain) c m
  chain_rest [] chain c n m w = (subst (SkipsTo nodes n) (sym w.0) (to_itself nodes n), (refl, w.1, w.2, w.3))
  chain_rest (k ∷ front) chain c n m w =
      let r = chain_rest front chain c w.1 m w.3 in
      (subst (λ i. SkipsTo nodes i c) w.0 (to_trans nodes k w.1 c (to_next nodes k w.1 w.2) r.0), r.1)

  -- the successor of a Skip of the chain is in it too, or is where it leads
  next_on : (chain : List ℕ) (n m x next : ℕ) → IsSkipChain nodes chain n m → IsIn x chain → slice_get nodes x ≡ Some (Skip next) → IsIn next chain ⊎ (next ≡ m)
  next_on [] n m x next w h is = absurd h
  next_on (k ∷ chain) n m x next w (inl e) is =
      let both : Some (Skip w.1) ≡ Some (Skip next) = sym w.2 ∙ ap (slice_get nodes) e ∙ is in
      let same : w.1 ≡ next = cc in
      first chain w.3 same
    where
      first : (rest : List ℕ) → IsSkipChain nodes rest w.1 m → w.1 ≡ next → IsIn next (k ∷ rest) ⊎ (next ≡ m)
      first [] r same = inr (sym same ∙ r)
      first (i ∷ rest) r same = inl (inr (inl (r.0 ∙ same)))
  next_on (k ∷ chain) n m x next w (inr h) is = elim (next_on chain w.1 m x next w.3 h is) [ inl p ↦ inl (inr p) | inr p ↦ inr p ]

  -- the Skips from node c back to it: Skips lead from each of them only to others of them
  circle_closed : (chain : List ℕ) (c x y : ℕ) → IsSkipChain nodes (c ∷ chain) c c → IsIn x (c ∷ chain) → SkipsTo nodes x y → IsIn y (c ∷ chain)
  circle_closed chain c x y w h s = by_count s.count x h s.skips
    where
      by_count : (k x : ℕ) → IsIn x (c ∷ chain) → Skips nodes k x y → IsIn y (c ∷ chain)
      by_count zero x h t = subst (λ i. IsIn i (c ∷ chain)) t h
      by_count (suc k) x h t = by_count k t.0 (elim (next_on (c ∷ chain) c c x t.0 w h t.1) [ inl p ↦ p | inr p ↦ inl (sym p) ]) t.2

  -- the least of them ends chains
  pub circle_ends : (chain : List ℕ) (c e : ℕ) → IsSkipChain nodes (c ∷ chain) c c → IsIn e (c ∷ chain)
      → ((x : ℕ) → IsIn x (c ∷ chain) → e ≤ x) → EndsChains nodes e
  circle_ends chain c e w h least = record {
    back = λ m s. to_trans nodes m c e (leads_on (c ∷ chain) c c m w (circle_closed chain c e m w h s)) (led_to (c ∷ chain) c c e w h);
    least = λ m s. least m (circle_closed chain c e m w h s);
  }

-- ---- each node has an end of chain

-- the least of some numbers
least_of : (x : ℕ) (xs : List ℕ) → (e : ℕ) × IsIn e (x ∷ xs) × ((y : ℕ) → IsIn y (x ∷ xs) → e ≤ y)
least_of x [] = (x, inl refl, λ y h. elim h [ inl p ↦ omega (arith, p) | inr p ↦ absurd p ])
least_of x (z ∷ xs) =
    let r = least_of z xs in
    elim (cases_lt r.0 x) [
      | inl lt ↦ (r.0, inr r.1, λ y h. elim h [ inl p ↦ omega (arith, lt, p) | inr p ↦ r.2 y p ])
      | inr ge ↦ (x, inl refl, λ y h. elim h [ inl p ↦ omega (arith, p) | inr p ↦ omega (arith, ge, r.2 y p) ])
    ]

-- a list divided at one of its elements
split_at : (x : ℕ) (xs : List ℕ) → IsIn x xs → (front : List ℕ) × (rest : List ℕ) × (xs ≡ front ++ x ∷ rest)
split_at x [] h = absurd h
split_at x (y ∷ ys) (inl e) = ([], ys, ap (λ z. z ∷ ys) e)
split_at x (y ∷ ys) (inr h) = let r = split_at x ys h in (y ∷ r.0, r.1, ap (λ l. y ∷ l) r.2)

-- each place is either marked or unmarked
marked_or_not : (marks : List Bool) (n : ℕ) → n < length marks → (slice_get marks n ≡ Some true) ⊎ (slice_get marks n ≡ Some false)
marked_or_not [] n lt = absurd (omega (arith, lt))
marked_or_not (true ∷ marks) zero lt = inl refl
marked_or_not (false ∷ marks) zero lt = inr refl
marked_or_not (b ∷ marks) (suc n) lt = marked_or_not marks n (omega (arith, lt))

-- what is in a list is in a longer one
pub in_push : (x y : ℕ) (xs : List ℕ) → IsIn x xs → IsIn x (xs ++ y ∷ [])
in_push x y [] h = absurd h
in_push x y (z ∷ xs) (inl e) = inl e
in_push x y (z ∷ xs) (inr h) = inr (in_push x y xs h)

-- and so is the last
pub in_last : (x : ℕ) (xs : List ℕ) → IsIn x (xs ++ x ∷ [])
in_last x [] = inl refl
in_last x (z ∷ xs) = inr (in_last x xs)

-- each Skip leads to a node
abbrev pub SkipsWithin : List Node → Type 0
SkipsWithin nodes = (n next : ℕ) → slice_get nodes n ≡ Some (Skip next) → next < length nodes

module _ (nodes : List Node) (within : SkipsWithin nodes) where
  -- some Skips lead from the start to node n, and each marked node is one of them
  record Following (marks : List Bool) (chain : List ℕ) (start n : ℕ) : Type 0 where
    long : length marks ≡ length nodes
    in_chain : (m : ℕ) → slice_get marks m ≡ Some true → IsIn m chain
    is_chain : IsSkipChain nodes chain start n
    here : n < length nodes

  -- a node that comes for the second time is on a circle
  comes_again : (marks : List Bool) (chain : List ℕ) (start n : ℕ) → Following marks chain start n
      → slice_get marks n ≡ Some true → (e : ℕ) × IsEnd nodes start e
  comes_again marks chain start n f again =
      let s = split_at n chain (f.in_chain n again) in
      let r = chain_rest nodes s.0 s.1 n start n (subst (λ l. IsSkipChain nodes l start n) s.2 f.is_chain) in
      let least = least_of n s.1 in
      (least.0, record { leads = to_trans nodes start n least.0 r.0 (led_to nodes (n ∷ s.1) n n least.0 r.1 least.1); ends = circle_ends nodes s.1 n least.0 r.1 least.1 least.2 })

  goes_on : (marks : List Bool) (chain : List ℕ) (start n next : ℕ) → Following marks chain start n
      → slice_get nodes n ≡ Some (Skip next) → Following (slice_set marks n true) (chain ++ n ∷ []) start next
  goes_on marks chain start n next f skip = record {
    long = length-set marks n true ∙ f.long;
    in_chain = λ m e. elim (marked_before marks n m e) [ inl p ↦ subst (λ i. IsIn i (chain ++ n ∷ [])) (sym p) (in_last n chain) | inr p ↦ in_push m n chain (f.in_chain m p) ];
    is_chain = chain_push nodes chain start n next f.is_chain skip;
    here = within n next skip;
  }

  at_node : (marks : List Bool) (chain : List ℕ) (start n : ℕ) → Following marks chain start n
      → ((next : ℕ) → slice_get nodes n ≡ Some (Skip next) → slice_get marks n ≡ Some false → (e : ℕ) × IsEnd nodes start e)
      → (e : ℕ) × IsEnd nodes start e
  at_node marks chain start n f onward = elim (skip_or_other (slice_get nodes n)) [
    | inr other ↦ (n, record { leads = chain_leads nodes chain start n f.is_chain; ends = ends_at_other nodes n other })
    | inl skip ↦ elim (marked_or_not marks n (omega (arith, f.here, f.long))) [ inl again ↦ comes_again marks chain start n f again | inr new ↦ onward skip.0 skip.1 new ]
  ]

  -- marking an unmarked node leaves one unmarked node fewer, so marking ends
  mark_less : (marks : List Bool) (n : ℕ) → slice_get marks n ≡ Some false → unmarked (slice_set marks n true) + 1 ≡ unmarked marks
  mark_less marks n new = unmarked_set marks n (slice_get_within marks n false new) (get_or_from_slice_get marks n false false new)

  -- the chain is followed until a node that is no Skip, or one that comes for the second time
  follow_chain : (left : ℕ) (marks : List Bool) (chain : List ℕ) (start n : ℕ) → unmarked marks ≡ left
      → Following marks chain start n → (e : ℕ) × IsEnd nodes start e
  follow_chain zero marks chain start n is f = at_node marks chain start n f (λ next skip new. absurd (omega (arith, mark_less marks n new, is)))
  follow_chain (suc left) marks chain start n is f = at_node marks chain start n f (λ next skip new. follow_chain left (slice_set marks n true) (chain ++ n ∷ []) start next (omega (arith, mark_less marks n new, is)) (goes_on marks chain start n next f skip))

  pub has_end : (n : ℕ) → n < length nodes → (e : ℕ) × IsEnd nodes n e
  has_end n lt = follow_chain (unmarked (replicate (length nodes) false)) (replicate (length nodes) false) [] n n refl (record { long = length-replicate {A = Bool} (length nodes) false; in_chain = λ m e. absurd (none (length nodes) m e); is_chain = refl; here = lt })
    where
      none : (k m : ℕ) → slice_get (replicate k false) m ≡ Some true → ⊥
      none zero m e = cc
      none (suc k) zero e = cc
      none (suc k) (suc m) e = none k m e
