-- Successors that go through new Skips.
use Rattle.std.proofs.Common.{◌≡◌, ℕ, zero, suc, ◌+◌, ◌<◌, ◌≤◌, Bool, true, false, cond, eqb, List, [], ◌∷◌, ◌++◌, length, map, slice_get, Some, ◌⊎◌, inl, inr, refl, sym, ap, ◌∙◌, arith, append_assoc, if◌then◌else◌, nat_eq}
use Rattle.std.specs.Prelude.{filter}
use Rattle.std.proofs.lemmas.Bool.{cases_Bool, eqb-true, ne_eqb}
use Rattle.std.proofs.lemmas.List.{map-append}
use Rattle.std.proofs.lemmas.List.Elements.{filter-append}
use Rattle.flow_graph.specs.declared.nodes.Node.{Node}
use Rattle.flow_graph.specs.declared.nodes.Node.TheVariants.{Start, Skip, Assign, Print, Guard, Call, Test, Return}
use Rattle.flow_graph.specs.Calls.{node_call}
use Rattle.flow_graph.specs.Graphs.{node_succs, node_vars}
use Rattle.node_list.specs.Lists.{times_in}
use Rattle.edge_split.specs.Split.{through_skips, with_succs, rerouted}
use Rattle.edge_split.proofs.Targets.{targets}

-- ---- a node with other successors

-- other successors change neither the variables of a node nor the call that it makes
with_parts : (node : Node) (us : List ℕ) → (node_vars (with_succs node us) ≡ node_vars node) × (node_call (with_succs node us) ≡ node_call node)
with_parts (Start t) [] = (refl, refl)
with_parts (Start t) (a ∷ us) = (refl, refl)
with_parts (Skip t) [] = (refl, refl)
with_parts (Skip t) (a ∷ us) = (refl, refl)
with_parts (Assign x rhs t) [] = (refl, refl)
with_parts (Assign x rhs t) (a ∷ us) = (refl, refl)
with_parts (Print b t) [] = (refl, refl)
with_parts (Guard q m t) [] = (refl, refl)
with_parts (Print b t) (a ∷ us) = (refl, refl)
with_parts (Guard q m t) (a ∷ us) = (refl, refl)
with_parts (Call into unit operands t) [] = (refl, refl)
with_parts (Call into unit operands t) (a ∷ us) = (refl, refl)
with_parts (Test test t o) [] = (refl, refl)
with_parts (Test test t o) (a ∷ []) = (refl, refl)
with_parts (Test test t o) (a ∷ b ∷ us) = (refl, refl)
with_parts (Return b) us = (refl, refl)

-- so a node has the variables of the old one
pub with_vars : (node : Node) (us : List ℕ) → node_vars (with_succs node us) ≡ node_vars node
with_vars node us = (with_parts node us).0

-- and its call
pub with_call : (node : Node) (us : List ℕ) → node_call (with_succs node us) ≡ node_call node
with_call node us = (with_parts node us).1

-- a Start, and no other node, stays a Start
pub with_start : (t : ℕ) (us : List ℕ) → (s : ℕ) × (with_succs (Start t) us ≡ Start s)
with_start t [] = (t, refl)
with_start t (a ∷ us) = (a, refl)

-- and what is a Start now was one
pub was_start : (node : Node) (us : List ℕ) (s : ℕ) → with_succs node us ≡ Start s → (t : ℕ) × (node ≡ Start t)
was_start (Start t) us s e = (t, refl)
was_start (Skip t) [] s e = cc
was_start (Skip t) (a ∷ us) s e = cc
was_start (Assign x rhs t) [] s e = cc
was_start (Assign x rhs t) (a ∷ us) s e = cc
was_start (Print b t) [] s e = cc
was_start (Guard q m t) [] s e = cc
was_start (Print b t) (a ∷ us) s e = cc
was_start (Guard q m t) (a ∷ us) s e = cc
was_start (Call into unit operands t) [] s e = cc
was_start (Call into unit operands t) (a ∷ us) s e = cc
was_start (Test test t o) [] s e = cc
was_start (Test test t o) (a ∷ []) s e = cc
was_start (Test test t o) (a ∷ b ∷ us) s e = cc
was_start (Return b) us s e = cc

-- each of these is below k
abbrev pub AllUnder : ℕ → List ℕ → Type 0
AllUnder k ts = (i t : ℕ) → slice_get ts i ≡ Some t → t < k

module _ (join : ℕ → Bool) where
  -- the successors of a node whose edges into joins go through new Skips
  pub with_through : (k : ℕ) (node : Node) → node_succs (with_succs node (through_skips join k (node_succs node))) ≡ through_skips join k (node_succs node)
  with_through k (Start t) = elim (join t) as (λ b. node_succs (with_succs (Start t) (cond b (k ∷ []) (t ∷ []))) ≡ cond b (k ∷ []) (t ∷ [])) [ true ↦ refl | false ↦ refl ]
  with_through k (Skip t) = elim (join t) as (λ b. node_succs (with_succs (Skip t) (cond b (k ∷ []) (t ∷ []))) ≡ cond b (k ∷ []) (t ∷ [])) [ true ↦ refl | false ↦ refl ]
  with_through k (Assign x rhs t) = elim (join t) as (λ b. node_succs (with_succs (Assign x rhs t) (cond b (k ∷ []) (t ∷ []))) ≡ cond b (k ∷ []) (t ∷ [])) [ true ↦ refl | false ↦ refl ]
  with_through k (Print a t) = elim (join t) as (λ b. node_succs (with_succs (Print a t) (cond b (k ∷ []) (t ∷ []))) ≡ cond b (k ∷ []) (t ∷ [])) [ true ↦ refl | false ↦ refl ]
  with_through k (Guard q m t) = elim (join t) as (λ b. node_succs (with_succs (Guard q m t) (cond b (k ∷ []) (t ∷ []))) ≡ cond b (k ∷ []) (t ∷ [])) [ true ↦ refl | false ↦ refl ]
  with_through k (Call into unit operands t) = elim (join t) as (λ b. node_succs (with_succs (Call into unit operands t) (cond b (k ∷ []) (t ∷ []))) ≡ cond b (k ∷ []) (t ∷ [])) [ true ↦ refl | false ↦ refl ]
  with_through k (Test test a b) = elim (join a) as (λ c. node_succs (with_succs (Test test a b) (cond c (k ∷ cond (join b) (suc k ∷ []) (b ∷ [])) (a ∷ cond (join b) (k ∷ []) (b ∷ [])))) ≡ cond c (k ∷ cond (join b) (suc k ∷ []) (b ∷ [])) (a ∷ cond (join b) (k ∷ []) (b ∷ []))) [
    | true ↦ elim (join b) as (λ d. node_succs (with_succs (Test test a b) (k ∷ cond d (suc k ∷ []) (b ∷ []))) ≡ k ∷ cond d (suc k ∷ []) (b ∷ [])) [ true ↦ refl | false ↦ refl ]
    | false ↦ elim (join b) as (λ d. node_succs (with_succs (Test test a b) (a ∷ cond d (k ∷ []) (b ∷ []))) ≡ a ∷ cond d (k ∷ []) (b ∷ [])) [ true ↦ refl | false ↦ refl ]
  ]
  with_through k (Return a) = refl

  -- ---- all targets

  through_append : (xs ys : List ℕ) (k : ℕ) → through_skips join k (xs ++ ys) ≡ through_skips join k xs ++ through_skips join (k + length (filter join xs)) ys
  through_append [] ys k = let sum : k ≡ k + 0 = omega arith in ap (λ i. through_skips join i ys) sum
  through_append (t ∷ xs) ys k =
      let sum : suc k + length (filter join xs) ≡ k + suc (length (filter join xs)) = omega arith in
      elim (join t) as (λ b. cond b (k ∷ through_skips join (suc k) (xs ++ ys)) (t ∷ through_skips join k (xs ++ ys)) ≡ cond b (k ∷ through_skips join (suc k) xs) (t ∷ through_skips join k xs) ++ through_skips join (k + length (cond b (t ∷ filter join xs) (filter join xs))) ys) [
        | true ↦ ap (λ l. k ∷ l) (through_append xs ys (suc k) ∙ ap (λ i. through_skips join (suc k) xs ++ through_skips join i ys) sum)
        | false ↦ ap (λ l. t ∷ l) (through_append xs ys k)
      ]

  pub rerouted_targets : (nodes : List Node) (k : ℕ) → targets (rerouted join k nodes) ≡ through_skips join k (targets nodes)
  rerouted_targets [] k = refl
  rerouted_targets (node ∷ nodes) k =
      ap (λ l. l ++ targets (rerouted join (k + length (filter join (node_succs node))) nodes)) (with_through k node)
      ∙ ap (λ l. through_skips join k (node_succs node) ++ l) (rerouted_targets nodes (k + length (filter join (node_succs node))))
      ∙ sym (through_append (node_succs node) (targets nodes) k)

  pub rerouted_long : (k : ℕ) (nodes : List Node) → length (rerouted join k nodes) ≡ length nodes
  rerouted_long k [] = refl
  rerouted_long k (node ∷ nodes) = ap suc (rerouted_long (k + length (filter join (node_succs node))) nodes)

  -- what is led to is a new Skip, or a target that is no join
  pub in_through : (ts : List ℕ) (k i u : ℕ) → slice_get (through_skips join k ts) i ≡ Some u → ((k ≤ u) × (u < k + length (filter join ts))) ⊎ ((join u ≡ false) × (slice_get ts i ≡ Some u))
  in_through [] k i u e = cc
  in_through (t ∷ ts) k i u e = chosen (join t) refl i e (λ j. in_through ts (suc k) j u) (λ j. in_through ts k j u)
    where
      chosen : (b : Bool) → join t ≡ b → (i : ℕ) → slice_get (cond b (k ∷ through_skips join (suc k) ts) (t ∷ through_skips join k ts)) i ≡ Some u → ((j : ℕ) → slice_get (through_skips join (suc k) ts) j ≡ Some u → ((suc k ≤ u) × (u < suc k + length (filter join ts))) ⊎ ((join u ≡ false) × (slice_get ts j ≡ Some u))) → ((j : ℕ) → slice_get (through_skips join k ts) j ≡ Some u → ((k ≤ u) × (u < k + length (filter join ts))) ⊎ ((join u ≡ false) × (slice_get ts j ≡ Some u))) → ((k ≤ u) × (u < k + length (cond b (t ∷ filter join ts) (filter join ts)))) ⊎ ((join u ≡ false) × (slice_get (t ∷ ts) i ≡ Some u))
      chosen true is zero e later here = let same : k ≡ u = cc in inl (omega (arith, same), omega (arith, same))
      chosen true is (suc i) e later here = elim (later i e) [ inl l ↦ inl (omega (arith, l.0), omega (arith, l.1)) | inr r ↦ inr r ]
      chosen false is zero e later here = let same : t ≡ u = cc in inr (ap join (sym same) ∙ is, e)
      chosen false is (suc i) e later here = here i e

  -- each new Skip is led to
  pub through_new : (ts : List ℕ) (k j : ℕ) → j < length (filter join ts) → (i : ℕ) × (slice_get (through_skips join k ts) i ≡ Some (k + j))
  through_new [] k j lt = absurd (omega (arith, lt))
  through_new (t ∷ ts) k j lt = chosen (join t) j lt (through_new ts (suc k)) (through_new ts k)
    where
      chosen : (b : Bool) (j : ℕ) → j < length (cond b (t ∷ filter join ts) (filter join ts)) → ((j : ℕ) → j < length (filter join ts) → (i : ℕ) × (slice_get (through_skips join (suc k) ts) i ≡ Some (suc k + j))) → ((j : ℕ) → j < length (filter join ts) → (i : ℕ) × (slice_get (through_skips join k ts) i ≡ Some (k + j))) → (i : ℕ) × (slice_get (cond b (k ∷ through_skips join (suc k) ts) (t ∷ through_skips join k ts)) i ≡ Some (k + j))
      chosen true zero lt later here = let sum : k ≡ k + 0 = omega arith in (0, ap Some sum)
      chosen true (suc j) lt later here =
          let r = later j (omega (arith, lt)) in
          let sum : suc k + j ≡ k + suc j = omega arith in
          (suc r.0, r.1 ∙ ap Some sum)
      chosen false j lt later here = let r = here j lt in (suc r.0, r.1)

  -- ---- how often a number is led to

  apart_count : (t n : ℕ) → (t ≡ n → ⊥) → ◌≡◌ {A = ℕ} (if nat_eq t n then 1 else 0) 0
  apart_count t n apart = ap {B = ℕ} (λ b. cond b 1 0) (ne_eqb t n apart)

  -- an old node is entered as often as before, by kept edges and new Skips together
  pub old_times : (n : ℕ) (ts : List ℕ) (k : ℕ) → n < k → times_in n (through_skips join k ts) + times_in n (filter join ts) ≡ times_in n ts
  old_times n [] k lt = refl
  old_times n (t ∷ ts) k lt =
      let apart = apart_count k n (λ e. omega (arith, e, lt)) in
      let later = old_times n ts (suc k) (omega (arith, lt)) in
      let here = old_times n ts k lt in
      elim (join t) as (λ b. times_in n (cond b (k ∷ through_skips join (suc k) ts) (t ∷ through_skips join k ts)) + times_in n (cond b (t ∷ filter join ts) (filter join ts)) ≡ (if nat_eq t n then 1 else 0) + times_in n ts) [
        | true ↦ omega (arith, apart, later)
        | false ↦ omega (arith, here)
      ]

  -- a new Skip: once at most
  new_none : (n : ℕ) (ts : List ℕ) (old k : ℕ) → AllUnder old ts → old ≤ n → n < k → times_in n (through_skips join k ts) ≡ 0
  new_none n [] old k all le lt = refl
  new_none n (t ∷ ts) old k all le lt =
      let apart = apart_count k n (λ e. omega (arith, e, lt)) in
      let apart' = apart_count t n (λ e. omega (arith, e, le, all 0 t refl)) in
      let later = new_none n ts old (suc k) (λ i. all (suc i)) le (omega (arith, lt)) in
      let here = new_none n ts old k (λ i. all (suc i)) le lt in
      elim (join t) as (λ b. times_in n (cond b (k ∷ through_skips join (suc k) ts) (t ∷ through_skips join k ts)) ≡ 0) [
        | true ↦ omega (arith, apart, later)
        | false ↦ omega (arith, apart', here)
      ]

  pub new_once : (n : ℕ) (ts : List ℕ) (old k : ℕ) → AllUnder old ts → old ≤ n → times_in n (through_skips join k ts) ≤ 1
  new_once n [] old k all le = omega arith
  new_once n (t ∷ ts) old k all le =
      let apart = apart_count t n (λ e. omega (arith, e, le, all 0 t refl)) in
      let here = new_once n ts old k (λ i. all (suc i)) le in
      let at_k : (if nat_eq k n then 1 else 0) + times_in n (through_skips join (suc k) ts) ≤ 1 = elim (cases_Bool (eqb k n)) [
        | inl is ↦ omega (arith, ap {B = ℕ} (λ b. cond b 1 0) is, new_none n ts old (suc k) (λ i. all (suc i)) le (omega (arith, eqb-true k n is)))
        | inr is ↦ omega (arith, ap {B = ℕ} (λ b. cond b 1 0) is, new_once n ts old (suc k) (λ i. all (suc i)) le)
      ] in
      elim (join t) as (λ b. times_in n (cond b (k ∷ through_skips join (suc k) ts) (t ∷ through_skips join k ts)) ≤ 1) [
        | true ↦ at_k
        | false ↦ omega (arith, apart, here)
      ]

  pub joins_none : (n : ℕ) (ts : List ℕ) (old : ℕ) → AllUnder old ts → old ≤ n → times_in n (filter join ts) ≡ 0
  joins_none n [] old all le = refl
  joins_none n (t ∷ ts) old all le =
      let apart = apart_count t n (λ e. omega (arith, e, le, all 0 t refl)) in
      let later = joins_none n ts old (λ i. all (suc i)) le in
      elim (join t) as (λ b. times_in n (cond b (t ∷ filter join ts) (filter join ts)) ≡ 0) [ true ↦ omega (arith, apart, later) | false ↦ later ]

  -- ---- one more node is rerouted

  pub one_rerouted : (left left' : List Node) (node node' : Node) (k k' : ℕ) (done done' all : List Node) → left ≡ node ∷ left' → done' ≡ done ++ node' ∷ [] → node' ≡ with_succs node (through_skips join k (node_succs node)) → k' ≡ k + length (filter join (node_succs node)) → done ++ rerouted join k left ≡ all → done' ++ rerouted join k' left' ≡ all
  one_rerouted left left' node node' k k' done done' all taken pushed is sum so_far =
      let one = with_succs node (through_skips join k (node_succs node)) in
      ap (λ l. l ++ rerouted join k' left') (pushed ∙ ap (λ n. done ++ n ∷ []) is)
      ∙ append_assoc done (one ∷ []) (rerouted join k' left')
      ∙ ap (λ j. done ++ one ∷ rerouted join j left') sum
      ∙ ap (λ l. done ++ rerouted join k l) (sym taken)
      ∙ so_far

  pub one_made : (left left' : List Node) (node : Node) (made made' all : List Node) → left ≡ node ∷ left' → made' ≡ made ++ map Skip (filter join (node_succs node)) → made ++ map Skip (filter join (targets left)) ≡ all → made' ++ map Skip (filter join (targets left')) ≡ all
  one_made left left' node made made' all taken pushed so_far =
      let joins = filter join (node_succs node) in
      let rest = filter join (targets left') in
      ap (λ l. l ++ map Skip rest) pushed
      ∙ append_assoc made (map Skip joins) (map Skip rest)
      ∙ ap (λ l. made ++ l) (sym (map-append Skip joins rest) ∙ ap (map Skip) (sym (filter-append join (node_succs node) (targets left'))))
      ∙ ap (λ l. made ++ map Skip (filter join (targets l))) (sym taken)
      ∙ so_far
