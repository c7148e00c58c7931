-- Insertions in order are the insertions of the nodes, one after the other.
use Rattle.std.proofs.Common.{◌≡◌, ◌⊎◌, ℕ, zero, suc, ◌+◌, ◌<◌, ◌≤◌, Bool, true, false, nat_eq, if◌then◌else◌, List, [], ◌∷◌, ◌++◌, refl, sym, ap, inl, inr, ◌∙◌, subst, arith}
use Rattle.std.proofs.lemmas.Bool.{cases_eq, cases_lt, eq-eqb, ne_eqb}
use Rattle.graph_edit.specs.Insertions.{Insertion}
use Rattle.flow_graph.specs.ListLaws.{cons_same}
use Rattle.sink_code.specs.declared.inserting.PutBefore.{PutBefore}
use Rattle.sink_code.specs.FoundPuts.{PutsAscend}
use Rattle.sink_code.specs.Puts.{all_puts, puts_at}
use Rattle.sink_code.specs.SunkGraphs.{RisesFrom}

-- the insertion of a put, without its node
abbrev pub insertion_of : PutBefore → Insertion
insertion_of put = record { var = put.var; rhs = put.rhs }

-- those of a list before node n
abbrev pub puts_before : ℕ → List PutBefore → List Insertion
puts_before n [] = []
puts_before n (put ∷ puts) = if nat_eq put.node n then insertion_of put ∷ puts_before n puts else puts_before n puts

-- the first is not before this node and, at it, not of an earlier variable; and each comes before the next
abbrev pub AscendFrom : ℕ → ℕ → List PutBefore → Type 0
AscendFrom node var [] = Unit {0}
AscendFrom node var (put ∷ puts) = ((node < put.node) ⊎ ((node ≡ put.node) × (var ≤ put.var))) × AscendFrom put.node (suc put.var) puts

-- what ascends does so from the first
ascend_on : (put : PutBefore) (puts : List PutBefore) → PutsAscend (put ∷ puts) → AscendFrom put.node (suc put.var) puts
ascend_on put [] up = tt
ascend_on put (next ∷ puts) up = (elim up.0 [ inl lt ↦ inl lt | inr same ↦ inr (same.0, omega (arith, same.1)) ], ascend_on next puts up.1)

-- and from node 0 on
pub ascend_from : (puts : List PutBefore) → PutsAscend puts → AscendFrom 0 0 puts
ascend_from [] up = tt
ascend_from (put ∷ puts) up = (elim (cases_lt 0 put.node) [ inl lt ↦ inl lt | inr ge ↦ inr ((let same : 0 ≡ put.node = omega (arith, ge) in same), omega arith) ], ascend_on put puts up)

-- before an earlier node nothing is put
none_before : (n node var : ℕ) (puts : List PutBefore) → n < node → AscendFrom node var puts → puts_before n puts ≡ []
none_before n node var [] lt up = refl
none_before n node var (put ∷ puts) lt up =
    let late : n < put.node = elim up.0 [ inl gt ↦ omega (arith, lt, gt) | inr same ↦ (let at = same.0 in omega (arith, lt, at)) ] in
    ap (λ b. if b then insertion_of put ∷ puts_before n puts else puts_before n puts) (ne_eqb put.node n (λ e. omega (arith, e, late)))
    ∙ none_before n put.node (suc put.var) puts late up.1

-- the variables of those before one node rise
pub rises_before : (node var : ℕ) (puts : List PutBefore) → AscendFrom node var puts → RisesFrom var (puts_before node puts)
rises_before node var [] up = tt
rises_before node var (put ∷ puts) up = elim up.0 [
  | inl gt ↦ subst_rises (ap (λ b. if b then insertion_of put ∷ puts_before node puts else puts_before node puts) (ne_eqb put.node node (λ e. omega (arith, e, gt))) ∙ none_before node put.node (suc put.var) puts gt up.1)
  | inr same ↦ subst_same (rises_before put.node (suc put.var) puts up.1) same.0 same.1
]
  where
    subst_rises : puts_before node (put ∷ puts) ≡ [] → RisesFrom var (puts_before node (put ∷ puts))
    subst_rises e = subst (RisesFrom var) (sym e) tt

    subst_same : RisesFrom (suc put.var) (puts_before put.node puts) → node ≡ put.node → var ≤ put.var → RisesFrom var (puts_before node (put ∷ puts))
    subst_same rest at le =
        let is : puts_before node (put ∷ puts) ≡ insertion_of put ∷ puts_before node puts = ap (λ b. if b then insertion_of put ∷ puts_before node puts else puts_before node puts) (eq-eqb put.node node (sym at)) in
        let here : RisesFrom (suc put.var) (puts_before node puts) = subst (λ k. RisesFrom (suc put.var) (puts_before k puts)) (sym at) rest in
        let both : RisesFrom var (insertion_of put ∷ puts_before node puts) = (le, here) in
        subst (RisesFrom var) (sym is) both

-- ---- one list

-- all insertions of the list are before nodes below this number
abbrev pub AllBefore : ℕ → List PutBefore → Type 0
AllBefore end [] = Unit {0}
AllBefore end (put ∷ puts) = (put.node < end) × AllBefore end puts

-- lists for the same nodes make the same puts
all_same : (f g : ℕ → List Insertion) (count n : ℕ) → ((k : ℕ) → n ≤ k → f k ≡ g k) → all_puts f count n ≡ all_puts g count n
all_same f g zero n same = refl
all_same f g (suc count) n same =
    ap (λ l. puts_at n l ++ all_puts f count (suc n)) (same n (omega arith))
    ∙ ap (λ l. puts_at n (g n) ++ l) (all_same f g count (suc n) (λ k le. same k (omega (arith, le))))

-- the list without the insertions at its front that are before this node
abbrev pub later : ℕ → List PutBefore → List PutBefore
later n [] = []
later n (put ∷ puts) = if nat_eq put.node n then later n puts else put ∷ puts

module _ (n : ℕ) where
  -- the first is before this node, or all are before later ones
  cases_first : (var : ℕ) (put : PutBefore) (puts : List PutBefore) → AscendFrom n var (put ∷ puts) → ((n ≡ put.node) × AscendFrom n (suc put.var) puts) ⊎ (n < put.node)
  cases_first var put puts up = elim up.0 [ inl gt ↦ inr gt | inr same ↦ inl (same.0, rw same.0 up.1) ]

  -- those before the node, where the first is
  here_is : (put : PutBefore) (puts : List PutBefore) → n ≡ put.node → puts_before n (put ∷ puts) ≡ insertion_of put ∷ puts_before n puts
  here_is put puts at = ap (λ b. if b then insertion_of put ∷ puts_before n puts else puts_before n puts) (eq-eqb put.node n (sym at))

  -- and what comes after them
  later_here : (put : PutBefore) (puts : List PutBefore) → n ≡ put.node → later n (put ∷ puts) ≡ later n puts
  later_here put puts at = ap (λ b. if b then later n puts else put ∷ puts) (eq-eqb put.node n (sym at))

  -- where the first is before a later node, none is before this one
  none_here : (put : PutBefore) (puts : List PutBefore) → AscendFrom put.node (suc put.var) puts → n < put.node → puts_before n (put ∷ puts) ≡ []
  none_here put puts up gt = ap (λ b. if b then insertion_of put ∷ puts_before n puts else puts_before n puts) (ne_eqb put.node n (λ e. omega (arith, e, gt))) ∙ none_before n put.node (suc put.var) puts gt up

  later_all : (put : PutBefore) (puts : List PutBefore) → n < put.node → later n (put ∷ puts) ≡ put ∷ puts
  later_all put puts gt = ap (λ b. if b then later n puts else put ∷ puts) (ne_eqb put.node n (λ e. omega (arith, e, gt)))

  -- a list is those before the node, and what comes after them
  split_at : (var : ℕ) (puts : List PutBefore) → AscendFrom n var puts → puts ≡ puts_at n (puts_before n puts) ++ later n puts
  split_at var [] up = refl
  split_at var (put ∷ puts) up = elim (cases_first var put puts up) [
    | inl same ↦
        let first : put ≡ record { node = n; var = put.var; rhs = put.rhs } = ap (λ k. record put { node = k }) (sym same.0) in
        cons_same first (split_at (suc put.var) puts same.1)
        ∙ ap (λ l. puts_at n l ++ later n puts) (sym (here_is put puts same.0))
        ∙ ap (λ l. puts_at n (puts_before n (put ∷ puts)) ++ l) (sym (later_here put puts same.0))
    | inr gt ↦
        sym (later_all put puts gt)
        ∙ ap (λ l. puts_at n l ++ later n (put ∷ puts)) (sym (none_here put puts up.1 gt))
  ]

  -- which ascends from the next node on
  later_up : (var : ℕ) (puts : List PutBefore) → AscendFrom n var puts → AscendFrom (suc n) 0 (later n puts)
  later_up var [] up = tt
  later_up var (put ∷ puts) up = elim (cases_first var put puts up) [
    | inl same ↦ rw (later_here put puts same.0) (later_up (suc put.var) puts same.1)
    | inr gt ↦ rw (later_all put puts gt) (elim (cases_eq (suc n) put.node) [ inl e ↦ inr (e, omega arith) | inr d ↦ inl (omega (arith, gt, d)) ], up.1)
  ]

  -- has the same before later nodes
  later_same : (k : ℕ) (puts : List PutBefore) → suc n ≤ k → puts_before k (later n puts) ≡ puts_before k puts
  later_same k [] le = refl
  later_same k (put ∷ puts) le = elim (cases_eq put.node n) [
    | inl same ↦
        ap (puts_before k) (later_here put puts (sym same)) ∙ later_same k puts le
        ∙ sym (ap (λ b. if b then insertion_of put ∷ puts_before k puts else puts_before k puts) (ne_eqb put.node k (λ e. omega (arith, e, same, le))))
    | inr differ ↦ ap (λ b. puts_before k (if b then later n puts else put ∷ puts)) (ne_eqb put.node n differ)
  ]

  -- and is before no node past those of the list
  later_below : (end : ℕ) (puts : List PutBefore) → AllBefore end puts → AllBefore end (later n puts)
  later_below end [] below = tt
  later_below end (put ∷ puts) below = by (nat_eq put.node n) (later_below end puts below.1)
    where
      by : (b : Bool) → AllBefore end (later n puts) → AllBefore end (if b then later n puts else put ∷ puts)
      by true rest = rest
      by false rest = below

-- puts that begin at node n or later, and stand before nodes below n alone, are none
none_left : (n var : ℕ) (puts : List PutBefore) → AscendFrom n var puts → AllBefore (n + 0) puts → puts ≡ []
none_left n var [] up below = refl
none_left n var (put ∷ puts) up below = absurd (elim up.0 [ inl gt ↦ (let lt = below.0 in omega (arith, gt, lt)) | inr same ↦ (let at = same.0 in let lt = below.0 in omega (arith, at, lt)) ])

-- a list that ascends from a node on has, node by node, those before each
pub in_parts : (count n var : ℕ) (puts : List PutBefore) → AscendFrom n var puts → AllBefore (n + count) puts → puts ≡ all_puts (λ k. puts_before k puts) count n
in_parts zero n var puts up below = none_left n var puts up below
in_parts (suc count) n var puts up below =
    let rest = later n puts in
    let end : n + suc count ≡ suc n + count = omega arith in
    let more = in_parts count (suc n) 0 rest (later_up n var puts up) (later_below n (suc n + count) puts (rw (← end) below)) in
    split_at n var puts up
    ∙ ap (λ l. puts_at n (puts_before n puts) ++ l) (more ∙ all_same (λ k. puts_before k rest) (λ k. puts_before k puts) count (suc n) (λ k le. later_same n k puts le))
