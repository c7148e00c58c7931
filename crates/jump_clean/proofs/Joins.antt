-- How Tests become Skips, step by step.
use Rattle.std.proofs.Common.{◌≡◌, ℕ, zero, suc, ◌+◌, ◌<◌, ◌≤◌, Bool, true, false, cond, eqb, eqb-true, eq-eqb, List, [], ◌∷◌, ◌++◌, length, drop, slice_get, slice_set, slice_index_or, Option, Some, None, inl, inr, refl, sym, ap, ◌∙◌, subst, arith, le_refl}
use Rattle.mir_base.specs.BelowLaws.{all_below_push, all_below_left}
use Rattle.std.proofs.lemmas.List.{length-set, length_push}
use Rattle.flow_graph.specs.ListLaws.{set_here, set_elsewhere, drop_at, some_at}
use Rattle.std.proofs.lemmas.Bool.{cases_lt, cases_eq}
use Rattle.std.proofs.lemmas.Option.{same_Some, slice_get_within, slice_get-get_or}
use Rattle.mir_base.specs.declared.instructions.Test as tests
use Rattle.mir_base.specs.Shapes.{AllBelow}
use Rattle.flow_graph.specs.declared.nodes.Node.{Node}
use Rattle.flow_graph.specs.declared.nodes.Node.TheVariants.{Start, Skip, Assign, Print, Guard, Call, Test, Return}
use Rattle.flow_graph.specs.Graphs.{AllWithin, succs_of}
use Rattle.jump_clean.specs.Chains.{Skips}
use Rattle.jump_clean.specs.Reductions.{IsReduction, AreReduced}
use Rattle.jump_clean.specs.ChainLaws.{in_push, in_last, to_itself, to_next, to_trans, one_leads_on}
use Rattle.jump_clean.specs.ReductionLaws.{skips_within, reduced_here, reduced_elsewhere, reduced_long, reduced_within, one_becomes, all_become, Becomes, BecomesAt, leads_still, meet_in_end}
use Rattle.jump_clean.specs.Classes.{class, AreJoined}
use Rattle.jump_clean.specs.Following.{skip_succ}
use Rattle.jump_clean.specs.Joining.{ChainsMeet, IsJoining, useless_of, useless_in, nodes_after, worklist_after, tests_in}
use Rattle.jump_clean.proofs.Moves.{in_either}
use Rattle.flow_graph.specs.Numbering.{IsIn}

-- ---- chains that come together

-- meeting is reflexive
meet_itself : (nodes : List Node) (a : ℕ) → ChainsMeet nodes a a
meet_itself nodes a = record { meet = a; first = to_itself nodes a; second = to_itself nodes a }

-- meeting is symmetric: the two chains change places
meet_sym : (nodes : List Node) (a b : ℕ) → ChainsMeet nodes a b → ChainsMeet nodes b a
meet_sym nodes a b m = record { meet = m.meet; first = m.second; second = m.first }

-- meeting is transitive: of two chains from the middle node, the longer one passes the end of the shorter
meet_trans : (nodes : List Node) (a b c : ℕ) → ChainsMeet nodes a b → ChainsMeet nodes b c → ChainsMeet nodes a c
meet_trans nodes a b c m k = elim (one_leads_on nodes b m.meet k.meet m.second k.first) [
  | inl s ↦ record { meet = k.meet; first = to_trans nodes a m.meet k.meet m.first s; second = k.second }
  | inr s ↦ record { meet = m.meet; first = m.first; second = to_trans nodes c k.meet m.meet k.second s }
]

-- ---- useless tests

-- only a Test whose two successors are of one class counts as useless
useless_is : (of : List ℕ) (node : Node) (taken : ℕ) → useless_of of node ≡ Some taken → (test : tests.Test) × (other : ℕ) × (node ≡ Test test taken other) × (class of taken ≡ class of other)
useless_is of (Start s) taken e = cc
useless_is of (Skip s) taken e = cc
useless_is of (Assign x rhs s) taken e = cc
useless_is of (Print a s) taken e = cc
useless_is of (Guard x g s) taken e = cc
useless_is of (Call into unit operands s) taken e = cc
useless_is of (Return a) taken e = cc
useless_is of (Test test s other) taken e = by_test (eqb (class of s) (class of other)) refl e
  where
    by_test : (b : Bool) → eqb (class of s) (class of other) ≡ b → cond b (Some s) None ≡ Some taken → (test' : tests.Test) × (other' : ℕ) × (Test test s other ≡ Test test' taken other') × (class of taken ≡ class of other')
    by_test true is e' =
        let same : s ≡ taken = cc in
        (test, other, ap (λ t. Test test t other) same, subst (λ t. class of t ≡ class of other) same (eqb-true (class of s) (class of other) is))
    by_test false is e' = cc

-- and each such Test does
not_useless : (of : List ℕ) (test : tests.Test) (taken other : ℕ) → useless_of of (Test test taken other) ≡ None → class of taken ≡ class of other → ⊥
not_useless of test taken other e same = let is : eqb (class of taken) (class of other) ≡ true = eq-eqb (class of taken) (class of other) same in let e' : Some taken ≡ None = sym (ap (λ b. cond b (Some taken) None) is) ∙ e in cc

-- a Test that becomes a Skip leaves one Test fewer, which bounds how often this happens
fewer_tests : (nodes : List Node) (n : ℕ) (test : tests.Test) (taken other : ℕ) → slice_get nodes n ≡ Some (Test test taken other) → suc (tests_in (slice_set nodes n (Skip taken))) ≡ tests_in nodes
fewer_tests [] n test taken other e = cc
fewer_tests (Start s ∷ nodes) zero test taken other e = cc
fewer_tests (Skip s ∷ nodes) zero test taken other e = cc
fewer_tests (Assign x rhs s ∷ nodes) zero test taken other e = cc
fewer_tests (Print a s ∷ nodes) zero test taken other e = cc
fewer_tests (Guard x g s ∷ nodes) zero test taken other e = cc
fewer_tests (Call into unit operands s ∷ nodes) zero test taken other e = cc
fewer_tests (Test t a b ∷ nodes) zero test taken other e = refl
fewer_tests (Return a ∷ nodes) zero test taken other e = cc
fewer_tests (Start s ∷ nodes) (suc n) test taken other e = fewer_tests nodes n test taken other e
fewer_tests (Skip s ∷ nodes) (suc n) test taken other e = fewer_tests nodes n test taken other e
fewer_tests (Assign x rhs s ∷ nodes) (suc n) test taken other e = fewer_tests nodes n test taken other e
fewer_tests (Print a s ∷ nodes) (suc n) test taken other e = fewer_tests nodes n test taken other e
fewer_tests (Guard x g s ∷ nodes) (suc n) test taken other e = fewer_tests nodes n test taken other e
fewer_tests (Call into unit operands s ∷ nodes) (suc n) test taken other e = fewer_tests nodes n test taken other e
fewer_tests (Test t a b ∷ nodes) (suc n) test taken other e = ap suc (fewer_tests nodes n test taken other e)
fewer_tests (Return a ∷ nodes) (suc n) test taken other e = fewer_tests nodes n test taken other e

-- ---- the beginning

-- at first each node is alone, all Skips are pending, and all nodes are to be looked at
pub joining_begins : (nodes : List Node) (of worklist all : List ℕ) → AllWithin nodes → length of ≡ length nodes → ((n : ℕ) → n < length nodes → class of n ≡ n) → ((n next : ℕ) → slice_get nodes n ≡ Some (Skip next) → IsIn n worklist) → ((n : ℕ) → n < length nodes → IsIn n all) → AllBelow (length nodes) worklist → AllBelow (length nodes) all → IsJoining nodes nodes of worklist all
joining_begins nodes of worklist all within long own skips every below below' = record {
  order = [];
  reductions = refl;
  within = within;
  long = long;
  sound = λ a b lt lt' e. let same : a ≡ b = sym (own a lt) ∙ e ∙ own b lt' in subst (ChainsMeet nodes a) same (meet_itself nodes a);
  skips = λ n next e. inl (skips n next e);
  suspected = λ n test taken other e e'. every n (slice_get_within nodes n _ e);
  worklist_below = below;
  suspects_below = below';
}

-- ---- one node is looked at

module _ (raw nodes : List Node) (of worklist rest : List ℕ) (n : ℕ) (j : IsJoining raw nodes of worklist (n ∷ rest)) where
  pub test_reduces : (test : tests.Test) (taken other : ℕ) → slice_get nodes n ≡ Some (Test test taken other) → class of taken ≡ class of other → IsJoining raw (slice_set nodes n (Skip taken)) of (worklist ++ n ∷ []) rest
  test_reduces test taken other is same = record {
    order = n ∷ j.order;
    reductions = (nodes, j.reductions, reduction);
    within = reduced_within nodes n (slice_set nodes n (Skip taken)) reduction j.within;
    long = j.long ∙ sym (reduced_long nodes n (slice_set nodes n (Skip taken)) reduction);
    sound = λ a b lt lt' e.
        let m = j.sound a b (omega (arith, lt, reduced_long nodes n (slice_set nodes n (Skip taken)) reduction)) (omega (arith, lt', reduced_long nodes n (slice_set nodes n (Skip taken)) reduction)) e in
        record { meet = m.meet; first = leads_still nodes (slice_set nodes n (Skip taken)) becomes a m.meet m.first; second = leads_still nodes (slice_set nodes n (Skip taken)) becomes b m.meet m.second };
    skips = λ m next e. elim (cases_eq m n) [
      | inl here ↦ inl (subst (λ k. IsIn k (worklist ++ n ∷ [])) (sym here) (in_last n worklist))
      | inr elsewhere ↦ elim (j.skips m next (sym (reduced_elsewhere nodes n (slice_set nodes n (Skip taken)) reduction m elsewhere) ∙ e)) [ inl h ↦ inl (in_push m n worklist h) | inr h ↦ inr h ]
    ];
    suspected = λ m t a b e e'. elim (cases_eq m n) [
      | inl here ↦ let both : Some (Skip taken) ≡ Some (Test t a b) = sym (reduced_here nodes n (slice_set nodes n (Skip taken)) reduction) ∙ ap (slice_get (slice_set nodes n (Skip taken))) (sym here) ∙ e in cc
      | inr elsewhere ↦ elim (j.suspected m t a b (sym (reduced_elsewhere nodes n (slice_set nodes n (Skip taken)) reduction m elsewhere) ∙ e) e') [ inl here ↦ absurd (elsewhere (sym here)) | inr later ↦ later ]
    ];
    worklist_below = subst (λ k. AllBelow k (worklist ++ n ∷ [])) (sym (reduced_long nodes n (slice_set nodes n (Skip taken)) reduction)) (all_below_push (length nodes) n worklist j.worklist_below j.suspects_below.0);
    suspects_below = subst (λ k. AllBelow k rest) (sym (reduced_long nodes n (slice_set nodes n (Skip taken)) reduction)) j.suspects_below.1;
  }
    where
      reduction : IsReduction nodes n (slice_set nodes n (Skip taken))
      reduction =
          let lt = j.within n 0 taken (ap (λ o. slice_get (succs_of o) 0) is) in
          let lt' = j.within n 1 other (ap (λ o. slice_get (succs_of o) 1) is) in
          let m = j.sound taken other lt lt' same in
          let e = meet_in_end nodes j.within taken other m.meet lt m.first m.second in
          record { taken = taken; same = record { test = test; other = other; end = e.0; is = is; taken_end = e.1; other_end = e.2 }; is = refl }

      becomes : Becomes nodes (slice_set nodes n (Skip taken))
      becomes = one_becomes nodes n (slice_set nodes n (Skip taken)) reduction

  pub test_stays : (node : Node) → slice_get nodes n ≡ Some node → useless_of of node ≡ None → IsJoining raw nodes of worklist rest
  test_stays node is none = record { order = j.order; reductions = j.reductions; within = j.within; long = j.long; sound = j.sound; skips = j.skips; suspected = still; worklist_below = j.worklist_below; suspects_below = j.suspects_below.1 }
    where
      still : (m : ℕ) (t : tests.Test) (a b : ℕ) → slice_get nodes m ≡ Some (Test t a b) → class of a ≡ class of b → IsIn m rest
      still m t a b e e' = elim (j.suspected m t a b e e') [
        | inl here ↦
            let both : Some node ≡ Some (Test t a b) = sym is ∙ ap (slice_get nodes) here ∙ e in
            let same : node ≡ Test t a b = same_Some node (Test t a b) both in
            absurd (not_useless of t a b (ap (useless_of of) (sym same) ∙ none) e')
        | inr later ↦ later
      ]

-- ---- the classes of a Skip and its successor are joined

module _ (raw nodes : List Node) (of worklist : List ℕ) (n : ℕ) (j : IsJoining raw nodes of (worklist ++ n ∷ []) []) where
  pub last_joined : (next : ℕ) (of' moved checks : List ℕ) → slice_get nodes n ≡ Some (Skip next) → AreJoined of of' n next moved → ((m s slot : ℕ) → IsIn s moved → slice_get (succs_of (slice_get raw m)) slot ≡ Some s → IsIn m checks) → AllBelow (length nodes) checks → IsJoining raw nodes of' worklist checks
  last_joined next of' moved checks is joined all below = record {
    order = j.order;
    reductions = j.reductions;
    within = j.within;
    long = joined.long ∙ j.long;
    sound = λ a b lt lt' e. elim (joined.only a b (low a lt) (low b lt') e) [
      | inl old ↦ j.sound a b lt lt' old
      | inr new ↦ elim new [
        | inl p ↦ meet_trans nodes a n b (j.sound a n lt here p.0) (meet_trans nodes n next b step (meet_sym nodes b next (j.sound b next lt' there p.1)))
        | inr p ↦ meet_trans nodes a next b (j.sound a next lt there p.0) (meet_trans nodes next n b (meet_sym nodes n next step) (meet_sym nodes b n (j.sound b n lt' here p.1)))
      ]
    ];
    skips = λ m s e. elim (j.skips m s e) [
      | inl h ↦ elim (in_either m worklist (n ∷ []) h) [
        | inl p ↦ inl p
        | inr p ↦ inr (only_n m s e p)
      ]
      | inr same ↦ inr (joined.still m s (low m (slice_get_within nodes m _ e)) (low s (skips_within nodes j.within m s e)) same)
    ];
    suspected = λ m t a b e e'.
        let a_low = j.within m 0 a (ap (λ o. slice_get (succs_of o) 0) e) in
        let b_low = j.within m 1 b (ap (λ o. slice_get (succs_of o) 1) e) in
        let raw_is : slice_get raw m ≡ Some (Test t a b) = stays_test m t a b e ((all_become raw j.order nodes j.reductions).at_node m) in
        elim (joined.by_move a b (low a a_low) (low b b_low) e') [
          | inl old ↦ absurd (j.suspected m t a b e old)
          | inr new ↦ elim new [
            | inl p ↦ all m a 0 p (ap (λ o. slice_get (succs_of o) 0) raw_is)
            | inr p ↦ all m b 1 p (ap (λ o. slice_get (succs_of o) 1) raw_is)
          ]
        ];
    worklist_below = all_below_left (length nodes) worklist (n ∷ []) j.worklist_below;
    suspects_below = below;
  }
    where
      here : n < length nodes
      here = slice_get_within nodes n _ is

      there : next < length nodes
      there = skips_within nodes j.within n next is

      low : (m : ℕ) → m < length nodes → m < length of
      low m lt = omega (arith, lt, j.long)

      step : ChainsMeet nodes n next
      step = record { meet = next; first = to_next nodes n next is; second = to_itself nodes next }

      only_n : (m s : ℕ) → slice_get nodes m ≡ Some (Skip s) → IsIn m (n ∷ []) → class of' m ≡ class of' s
      only_n m s e (inl same) =
          let both : Some (Skip next) ≡ Some (Skip s) = sym is ∙ ap (slice_get nodes) same ∙ e in
          let same' : next ≡ s = cc in
          ap (class of') (sym same) ∙ joined.together ∙ ap (class of') same'
      only_n m s e (inr p) = absurd p

      stays_test : (m : ℕ) (t : tests.Test) (a b : ℕ) → slice_get nodes m ≡ Some (Test t a b) → BecomesAt (slice_get raw m) (slice_get nodes m) → slice_get raw m ≡ Some (Test t a b)
      stays_test m t a b e (inl same) = same ∙ e
      stays_test m t a b e (inr r) = let both : Some (Skip r.1) ≡ Some (Test t a b) = sym r.4 ∙ e in cc

  -- a node that is no Skip need not be pending
  pub no_skip_last : ((next : ℕ) → slice_get nodes n ≡ Some (Skip next) → ⊥) → IsJoining raw nodes of worklist []
  no_skip_last other = record {
    order = j.order;
    reductions = j.reductions;
    within = j.within;
    long = j.long;
    sound = j.sound;
    skips = λ m s e. elim (j.skips m s e) [
      | inl h ↦ elim (in_either m worklist (n ∷ []) h) [
        | inl p ↦ inl p
        | inr p ↦ absurd (elim p [ inl same ↦ other s (ap (slice_get nodes) same ∙ e) | inr q ↦ absurd q ])
      ]
      | inr same ↦ inr same
    ];
    suspected = j.suspected;
    worklist_below = all_below_left (length nodes) worklist (n ∷ []) j.worklist_below;
    suspects_below = tt;
  }

-- ---- the end

-- at the end no Test is left whose successors have one end of chain
pub joining_ends : (raw nodes : List Node) (of : List ℕ) → IsJoining raw nodes of [] [] → AreReduced raw nodes
joining_ends raw nodes of j = record {
  order = j.order;
  reductions = j.reductions;
  differ = λ n taken d. j.suspected n d.test taken d.other d.is (one_class taken d.end d.taken_end.leads.count d.taken_end.leads.skips ∙ sym (one_class d.other d.end d.other_end.leads.count d.other_end.leads.skips));
}
  where
    one_class : (a b k : ℕ) → Skips nodes k a b → class of a ≡ class of b
    one_class a b zero s = ap (class of) s
    one_class a b (suc k) s = elim (j.skips a s.0 s.1) [ inl h ↦ absurd h | inr same ↦ same ∙ one_class s.0 b k s.2 ]

-- ---- one suspect after the other

module _ (of checks : List ℕ) (i : ℕ) (lt : i < length checks) where
  abbrev pub suspect : ℕ
  suspect = slice_index_or checks i 0

  abbrev rest_is : drop i checks ≡ suspect ∷ drop (i + 1) checks
  rest_is = drop_at checks i suspect (slice_get-get_or checks i 0 lt)

  joining_by : (raw nodes : List Node) (worklist : List ℕ) (node : Node) (u : Option ℕ) → slice_get nodes suspect ≡ Some node → useless_of of node ≡ u → IsJoining raw nodes of worklist (drop i checks) → IsJoining raw (nodes_after u nodes suspect) of (worklist_after u worklist suspect) (drop (i + 1) checks)
  joining_by raw nodes worklist node None is useless j = test_stays raw nodes of worklist (drop (i + 1) checks) suspect (subst (IsJoining raw nodes of worklist) rest_is j) node is useless
  joining_by raw nodes worklist node (Some taken) is useless j =
      let t = useless_is of node taken useless in
      test_reduces raw nodes of worklist (drop (i + 1) checks) suspect (subst (IsJoining raw nodes of worklist) rest_is j) t.0 taken t.1 (is ∙ ap Some t.2) t.3

  set_within : (nodes : List Node) (n taken other : ℕ) (test : tests.Test) → AllWithin nodes → slice_get nodes n ≡ Some (Test test taken other) → AllWithin (slice_set nodes n (Skip taken))
  set_within nodes n taken other test within is m slot s edge = elim (cases_eq m n) [
    | inl here ↦ at_node slot (sym (ap (λ o. slice_get (succs_of o) slot) (ap (slice_get (slice_set nodes n (Skip taken))) here ∙ set_here nodes n (Skip taken) (slice_get_within nodes n _ is))) ∙ edge)
    | inr elsewhere ↦ let low = within m slot s (sym (ap (λ o. slice_get (succs_of o) slot) (set_elsewhere nodes n m (Skip taken) elsewhere)) ∙ edge) in omega (arith, low, length-set nodes n (Skip taken))
  ]
    where
      at_node : (slot : ℕ) → slice_get (taken ∷ []) slot ≡ Some s → s < length (slice_set nodes n (Skip taken))
      at_node zero e =
          let same : taken ≡ s = cc in
          let low = within n 0 taken (ap (λ o. slice_get (succs_of o) 0) is) in
          omega (arith, low, same, length-set nodes n (Skip taken))
      at_node (suc slot) e = cc

  within_by : (nodes : List Node) (node : Node) (u : Option ℕ) → slice_get nodes suspect ≡ Some node → useless_of of node ≡ u → AllWithin nodes → AllWithin (nodes_after u nodes suspect)
  within_by nodes node None is useless within = within
  within_by nodes node (Some taken) is useless within = let t = useless_is of node taken useless in set_within nodes suspect taken t.1 t.0 within (is ∙ ap Some t.2)

  long_by : (nodes : List Node) (u : Option ℕ) → length (nodes_after u nodes suspect) ≡ length nodes
  long_by nodes None = refl
  long_by nodes (Some taken) = length-set nodes suspect (Skip taken)

  less_by : (nodes : List Node) (worklist : List ℕ) (node : Node) (u : Option ℕ) → slice_get nodes suspect ≡ Some node → useless_of of node ≡ u → length (worklist_after u worklist suspect) + tests_in (nodes_after u nodes suspect) ≤ length worklist + tests_in nodes
  less_by nodes worklist node None is useless = le_refl _
  less_by nodes worklist node (Some taken) is useless =
      let t = useless_is of node taken useless in
      omega (arith, fewer_tests nodes suspect t.0 taken t.1 (is ∙ ap Some t.2), length_push worklist suspect)

  -- what one more suspect leaves
  pub record Looked (nodes nodes' : List Node) (worklist worklist' : List ℕ) : Type 0 where
    pub joining : (raw : List Node) → IsJoining raw nodes of worklist (drop i checks) → IsJoining raw nodes' of worklist' (drop (i + 1) checks)
    pub within : AllWithin nodes'
    pub long : length of ≡ length nodes'
    pub below : AllBelow (length nodes') (drop (i + 1) checks)
    pub less : length worklist' + tests_in nodes' ≤ length worklist + tests_in nodes

  pub suspect_looked : (nodes nodes' : List Node) (worklist worklist' : List ℕ) → AllWithin nodes → length of ≡ length nodes → AllBelow (length nodes) (drop i checks) → nodes' ≡ nodes_after (useless_in of (slice_get nodes suspect)) nodes suspect → worklist' ≡ worklist_after (useless_in of (slice_get nodes suspect)) worklist suspect → Looked nodes nodes' worklist worklist'
  suspect_looked nodes nodes' worklist worklist' within long below is is' = by_node (slice_get nodes suspect) refl is is'
    where
      below' : AllBelow (length nodes) (suspect ∷ drop (i + 1) checks)
      below' = subst (AllBelow (length nodes)) rest_is below

      by_node : (o : Option Node) → slice_get nodes suspect ≡ o → nodes' ≡ nodes_after (useless_in of o) nodes suspect → worklist' ≡ worklist_after (useless_in of o) worklist suspect → Looked nodes nodes' worklist worklist'
      by_node None at_n e e' = let some = some_at nodes suspect below'.0 in absurd (none_some (sym at_n ∙ some.1))
        where
          none_some : {x : Node} → None ≡ Some x → ⊥
          none_some e = cc
      by_node (Some node) at_n e e' =
          let u = useless_of of node in
          let long' : length nodes' ≡ length nodes = ap length e ∙ long_by nodes u in
          record {
            joining = λ raw j. subst (λ l. IsJoining raw l of worklist' (drop (i + 1) checks)) (sym e) (subst (λ l. IsJoining raw (nodes_after u nodes suspect) of l (drop (i + 1) checks)) (sym e') (joining_by raw nodes worklist node u at_n refl j));
            within = subst AllWithin (sym e) (within_by nodes node u at_n refl within);
            long = long ∙ sym long';
            below = subst (λ k. AllBelow k (drop (i + 1) checks)) (sym long') below'.1;
            less = subst (λ l. length worklist' + tests_in l ≤ length worklist + tests_in nodes) (sym e) (subst (λ l. length l + tests_in (nodes_after u nodes suspect) ≤ length worklist + tests_in nodes) (sym e') (less_by nodes worklist node u at_n refl));
          }

-- the numbers up to one more
pub in_one_longer : (xs : List ℕ) (n k : ℕ) → k < n + 1 → (k < n → IsIn k xs) → IsIn k (xs ++ n ∷ [])
in_one_longer xs n k lt old = elim (cases_lt k n) [
  | inl low ↦ in_push k n xs (old low)
  | inr high ↦ let same : k ≡ n = omega (arith, high, lt) in subst (λ m. IsIn m (xs ++ n ∷ [])) (sym same) (in_last n xs)
]

-- ---- the Skips

-- a node with a Skip successor is a Skip to it
pub skip_succ_is : (node : Node) (next : ℕ) → skip_succ node ≡ Some next → node ≡ Skip next
skip_succ_is (Start s) next e = cc
skip_succ_is (Skip s) next e = let same : s ≡ next = cc in ap Skip same
skip_succ_is (Assign x rhs s) next e = cc
skip_succ_is (Print a s) next e = cc
skip_succ_is (Guard x g s) next e = cc
skip_succ_is (Call into unit operands s) next e = cc
skip_succ_is (Test test taken other) next e = cc
skip_succ_is (Return a) next e = cc

-- and one without is none
pub no_skip : (nodes : List Node) (n : ℕ) (node : Node) → slice_get nodes n ≡ Some node → skip_succ node ≡ None → (next : ℕ) → slice_get nodes n ≡ Some (Skip next) → ⊥
no_skip nodes n node is none next e =
    let both : Some node ≡ Some (Skip next) = sym is ∙ e in
    let same : node ≡ Skip next = same_Some node (Skip next) both in
    let both' : Some next ≡ None = ap skip_succ (sym same) ∙ none in
    cc

-- the Skips up to one more node
pub skip_pushed : (nodes : List Node) (skips skips' : List ℕ) (n : ℕ) (node : Node) → slice_get nodes n ≡ Some node → skips' ≡ worklist_after (skip_succ node) skips n → ((k next : ℕ) → k < n → slice_get nodes k ≡ Some (Skip next) → IsIn k skips) → (k next : ℕ) → k < n + 1 → slice_get nodes k ≡ Some (Skip next) → IsIn k skips'
skip_pushed nodes skips skips' n node is pushed all k next lt e = by_succ (skip_succ node) refl pushed
  where
    by_succ : (o : Option ℕ) → skip_succ node ≡ o → skips' ≡ worklist_after o skips n → IsIn k skips'
    by_succ None none p = elim (cases_lt k n) [
      | inl low ↦ subst (IsIn k) (sym p) (all k next low e)
      | inr high ↦ let same : k ≡ n = omega (arith, high, lt) in absurd (no_skip nodes n node is none next (ap (slice_get nodes) (sym same) ∙ e))
    ]
    by_succ (Some s) some p = subst (IsIn k) (sym p) (in_one_longer skips n k lt (λ low. all k next low e))

-- and they are nodes
pub skip_below : (nodes : List Node) (skips skips' : List ℕ) (n : ℕ) (o : Option ℕ) → n < length nodes → skips' ≡ worklist_after o skips n → AllBelow (length nodes) skips → AllBelow (length nodes) skips'
skip_below nodes skips skips' n None lt e below = subst (AllBelow (length nodes)) (sym e) below
skip_below nodes skips skips' n (Some s) lt e below = subst (AllBelow (length nodes)) (sym e) (all_below_push (length nodes) n skips below lt)

-- the same of equal lists
pub joining_as : (raw nodes nodes' : List Node) (of of' worklist worklist' suspects suspects' : List ℕ) → nodes ≡ nodes' → of ≡ of' → worklist ≡ worklist' → suspects ≡ suspects' → IsJoining raw nodes of worklist suspects → IsJoining raw nodes' of' worklist' suspects'
joining_as raw nodes nodes' of of' worklist worklist' suspects suspects' a b c d j =
    subst (IsJoining raw nodes' of' worklist') d (subst (λ l. IsJoining raw nodes' of' l suspects) c (subst (λ l. IsJoining raw nodes' l worklist suspects) b (subst (λ l. IsJoining raw l of worklist suspects) a j)))

-- a pending node is taken and its class joined, over the nodes as a slice
pub slice_joined : (raw nodes slice : List Node) (of of' worklist rest checks : List ℕ) (n : ℕ) → slice ≡ nodes → worklist ≡ rest ++ n ∷ [] → IsJoining raw nodes of worklist [] → (IsJoining raw slice of (rest ++ n ∷ []) [] → IsJoining raw slice of' rest checks) → IsJoining raw nodes of' rest checks
slice_joined raw nodes slice of of' worklist rest checks n is taken j joins =
    joining_as raw slice nodes of' of' rest rest checks checks is refl refl refl (joins (joining_as raw nodes slice of of worklist (rest ++ n ∷ []) [] [] (sym is) refl taken refl j))
