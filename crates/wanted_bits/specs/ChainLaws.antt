-- Law: the least numbers of wanted bits are those that chains show. For proofs only, of the crates above too.
use Rattle.std.proofs.Common.{◌≡◌, ◌↔◌, ℕ, zero, suc, ◌+◌, ◌<◌, ◌≤◌, min, max, Bool, true, false, if◌then◌else◌, nat_lt, inl, inr, List, [], ◌∷◌, length, slice_get, Option, Some, None, refl, sym, ap, ◌∙◌, subst, arith, le_refl}
use Rattle.std.proofs.lemmas.Bool.{cases_lt, le-ltb, lt-ltb}
use Rattle.std.proofs.lemmas.Option.{slice_get_within}
use Rattle.mir_base.specs.declared.instructions.Rhs.{Rhs}
use Rattle.flow_graph.specs.declared.nodes.Node.{Node}
use Rattle.flow_graph.specs.declared.nodes.Node.TheVariants.{Start, Skip, Assign, Print, Guard, Call, Test, Return}
use Rattle.flow_graph.specs.Graphs.{CanMake, GraphShape, IsEdge, assigns, node_succs, succs_of}
use Rattle.flow_graph.specs.ListLaws.{some_at}
use Rattle.wanted_bits.specs.declared.picking.Shift.{Shift}
use Rattle.wanted_bits.specs.Chains.{IsCarried, needed, none_wanted, passed_on, through}
use Rattle.wanted_bits.specs.MoreWanted.{more_rhs, most_rhs}
use Rattle.wanted_bits.specs.Wanted.{AreLeastWantedBy, AreWantedBy, Asked, wanted_at, wanted_rhs}

-- ---- sums over variables, and over nodes

-- of the first so many numbers
abbrev sum_row : (ℕ → ℕ) → ℕ → ℕ
sum_row f zero = 0
sum_row f (suc m) = f m + sum_row f m

-- of the first so many rows
abbrev sum_all : ℕ → (ℕ → ℕ → ℕ) → ℕ → ℕ
sum_all vars w zero = 0
sum_all vars w (suc n) = sum_row (w n) vars + sum_all vars w n

-- they are at most those of greater numbers
row_less : (f g : ℕ → ℕ) (m : ℕ) → ((x : ℕ) → f x ≤ g x) → sum_row f m ≤ sum_row g m
row_less f g zero le = le_refl 0
row_less f g (suc m) le = omega (arith, le m, row_less f g m le)

-- so are sums over nodes
all_less : (vars : ℕ) (f g : ℕ → ℕ → ℕ) (n : ℕ) → ((k x : ℕ) → f k x ≤ g k x) → sum_all vars f n ≤ sum_all vars g n
all_less vars f g zero le = le_refl 0
all_less vars f g (suc n) le = omega (arith, row_less (f n) (g n) vars (le n), all_less vars f g n le)

-- and where they are no less, no number is
row_back : (f g : ℕ → ℕ) (m : ℕ) → ((x : ℕ) → f x ≤ g x) → sum_row g m ≤ sum_row f m → (x : ℕ) → x < m → g x ≤ f x
row_back f g zero le back x lt = absurd (omega (arith, lt))
row_back f g (suc m) le back x lt = elim (cases_lt x m) [
  | inl low ↦ row_back f g m le (omega (arith, back, le m)) x low
  | inr ge ↦
      let same : x ≡ m = omega (arith, lt, ge) in
      let last : g m ≤ f m = omega (arith, back, row_less f g m le) in
      subst (λ y. g y ≤ f y) (sym same) last
]

-- nor is any of any row
all_back : (vars : ℕ) (f g : ℕ → ℕ → ℕ) (n : ℕ) → ((k x : ℕ) → f k x ≤ g k x) → sum_all vars g n ≤ sum_all vars f n → (k x : ℕ) → k < n → x < vars → g k x ≤ f k x
all_back vars f g zero le back k x lt low = absurd (omega (arith, lt))
all_back vars f g (suc n) le back k x lt low = elim (cases_lt k n) [
  | inl earlier ↦ all_back vars f g n le (omega (arith, back, row_less (f n) (g n) vars (le n))) k x earlier low
  | inr ge ↦
      let same : k ≡ n = omega (arith, lt, ge) in
      let rows : sum_row (g n) vars ≤ sum_row (f n) vars = omega (arith, back, all_less vars f g n le) in
      subst (λ m. g m x ≤ f m x) (sym same) (row_back (f n) (g n) vars (le n) rows x low)
]

-- ---- what is wanted before the successors

-- the most before any of these nodes
abbrev over : (ℕ → ℕ → ℕ) → ℕ → List ℕ → ℕ
over w x [] = 0
over w x (s ∷ succs) = max (w s x) (over w x succs)

-- more where more is before each
over_more : (w v : ℕ → ℕ → ℕ) (x : ℕ) (succs : List ℕ) → ((n y : ℕ) → w n y ≤ v n y) → over w x succs ≤ over v x succs
over_more w v x [] le = le_refl 0
over_more w v x (s ∷ succs) le = omega (arith, le s x, over_more w v x succs le)

-- it is at least that before each
over_each : (w : ℕ → ℕ → ℕ) (x : ℕ) (succs : List ℕ) (slot s : ℕ) → slice_get succs slot ≡ Some s → w s x ≤ over w x succs
over_each w x [] slot s at = cc
over_each w x (t ∷ succs) zero s at = let same : t ≡ s = cc in omega (arith, ap (λ n. w n x) same)
over_each w x (t ∷ succs) (suc slot) s at = omega (arith, over_each w x succs slot s at)

-- a successor before which so many are wanted
record Before (w : ℕ → ℕ → ℕ) (x k : ℕ) (succs : List ℕ) : Type 0 where
  slot : ℕ
  to : ℕ
  at : slice_get succs slot ≡ Some to
  enough : k ≤ w to x

-- there is one, where some are wanted before one of them
over_one : (w : ℕ → ℕ → ℕ) (x k : ℕ) (succs : List ℕ) → 0 < k → k ≤ over w x succs → Before w x k succs
over_one w x k [] some le = absurd (omega (arith, some, le))
over_one w x k (s ∷ succs) some le = elim (cases_lt (w s x) k) [
  | inl less ↦
      let later = over_one w x k succs some (omega (arith, less, le)) in
      record { slot = suc later.slot; to = later.to; at = later.at; enough = later.enough }
  | inr ge ↦ record { slot = 0; to = s; at = refl; enough = ge }
]

module _ (asked : Asked) (graph : GraphShape) (shifts : ℕ → ℕ → Option Shift) where
  -- more is wanted before a node where more is behind it
  at_more : (n : ℕ) (w v : ℕ → ℕ → ℕ) (node : Node) (x : ℕ) → ((m y : ℕ) → w m y ≤ v m y) → wanted_at graph asked (shifts n) w node x ≤ wanted_at graph asked (shifts n) v node x
  at_more n w v (Start next) x le = le_refl _
  at_more n w v (Skip next) x le = le_refl _
  at_more n w v (Assign y rhs next) x le = more_rhs (shifts n) rhs (w next y) (v next y) x (le next y)
  at_more n w v (Print a next) x le = le_refl _
  at_more n w v (Guard test number next) x le = le_refl _
  at_more n w v (Call into unit operands next) x le = le_refl _
  at_more n w v (Test test taken other) x le = le_refl _
  at_more n w v (Return a) x le = le_refl _

  -- ---- what a chain shows is wanted

  pub carried_wanted : (wanted : ℕ → ℕ → ℕ) → AreWantedBy asked graph shifts wanted → (n x k : ℕ) → IsCarried asked graph shifts n x k → k ≤ wanted n x
  carried_wanted wanted are n x k (needed m y j node here le) = omega (arith, le, at_more n none_wanted wanted node x (λ m y. omega arith), are.here n x node here)
  carried_wanted wanted are n x k (through p z j y m next rhs here le chain) = omega (arith, le, more_rhs (shifts n) rhs m (wanted next y) x (carried_wanted wanted are next y m chain), are.here n x (Assign y rhs next) here)
  carried_wanted wanted are n x k (passed_on p slot s z j node here edge off chain) = omega (arith, carried_wanted wanted are s x k chain, are.behind n slot s x node here edge off)

  -- ---- what chains of at most so many links show

  -- what a node shows, by what is shown behind it
  abbrev node_step : (ℕ → ℕ → ℕ) → ℕ → ℕ → Option Node → ℕ
  node_step w n x None = 0
  node_step w n x (Some node) = max (wanted_at graph asked (shifts n) w node x) (if assigns graph x node then 0 else over w x (node_succs node))

  -- what they show
  abbrev shown : ℕ → ℕ → ℕ → ℕ
  shown zero n x = 0
  shown (suc i) n x = min 64 (node_step (shown i) n x (slice_get graph.nodes n))

  -- at most 64 bits
  shown_most : (i n x : ℕ) → shown i n x ≤ 64
  shown_most zero n x = omega arith
  shown_most (suc i) n x = omega arith

  -- more behind it shows more
  step_more : (w v : ℕ → ℕ → ℕ) (n x : ℕ) (o : Option Node) → ((m y : ℕ) → w m y ≤ v m y) → node_step w n x o ≤ node_step v n x o
  step_more w v n x None le = le_refl 0
  step_more w v n x (Some node) le = omega (arith, at_more n w v node x le, behind_more (assigns graph x node))
    where
      behind_more : (b : Bool) → (if b then 0 else over w x (node_succs node)) ≤ (if b then 0 else over v x (node_succs node))
      behind_more true = le_refl 0
      behind_more false = over_more w v x (node_succs node) le

  -- more links show no less
  shown_more : (i n x : ℕ) → shown i n x ≤ shown (suc i) n x
  shown_more zero n x = omega arith
  shown_more (suc i) n x = omega (arith, step_more (shown i) (shown (suc i)) n x (slice_get graph.nodes n) (λ m y. shown_more i m y))

  module _ (can : CanMake graph.vars graph.received graph.nodes) where
    -- the node behind an assignment is one of the graph
    next_in : (n y next : ℕ) (rhs : Rhs) → slice_get graph.nodes n ≡ Some (Assign y rhs next) → next < length graph.nodes
    next_in n y next rhs here = (can.succs n 0 next (ap (λ o. slice_get (succs_of o) 0) here)).1

    -- what a node wants by what chains show
    by_node : (i n x k : ℕ) → ((m y j : ℕ) → m < length graph.nodes → j ≤ shown i m y → IsCarried asked graph shifts m y j) → (node : Node) → slice_get graph.nodes n ≡ Some node → k ≤ wanted_at graph asked (shifts n) (shown i) node x → IsCarried asked graph shifts n x k
    by_node i n x k so_far (Start next) at enough = needed n x k (Start next) at enough
    by_node i n x k so_far (Skip next) at enough = needed n x k (Skip next) at enough
    by_node i n x k so_far (Assign y rhs next) at enough = through n x k y (shown i next y) next rhs at enough (so_far next y (shown i next y) (next_in n y next rhs at) (le_refl _))
    by_node i n x k so_far (Print a next) at enough = needed n x k (Print a next) at enough
    by_node i n x k so_far (Guard test number next) at enough = needed n x k (Guard test number next) at enough
    by_node i n x k so_far (Call into unit operands next) at enough = needed n x k (Call into unit operands next) at enough
    by_node i n x k so_far (Test test taken other) at enough = needed n x k (Test test taken other) at enough
    by_node i n x k so_far (Return a) at enough = needed n x k (Return a) at enough

    -- what is wanted behind it
    by_succs : (i n x k : ℕ) → ((m y j : ℕ) → m < length graph.nodes → j ≤ shown i m y → IsCarried asked graph shifts m y j) → (node : Node) → slice_get graph.nodes n ≡ Some node → (b : Bool) → assigns graph x node ≡ b → 0 < k → k ≤ (if b then 0 else over (shown i) x (node_succs node)) → IsCarried asked graph shifts n x k
    by_succs i n x k so_far node here true is some enough = absurd (omega (arith, some, enough))
    by_succs i n x k so_far node here false is some enough =
        let s = over_one (shown i) x k (node_succs node) some enough in
        let edge : IsEdge graph.nodes n s.slot s.to = ap (λ o. slice_get (succs_of o) s.slot) here ∙ s.at in
        passed_on n s.slot s.to x k node here edge is (so_far s.to x k (can.succs n s.slot s.to edge).1 s.enough)

    -- chains show it
    shown_carried : (i n x k : ℕ) → n < length graph.nodes → k ≤ shown i n x → IsCarried asked graph shifts n x k
    shown_carried zero n x k lt le = let s = some_at graph.nodes n lt in needed n x k s.0 s.1 (omega (arith, le))
    shown_carried (suc i) n x k lt le =
        let s = some_at graph.nodes n lt in
        let step : node_step (shown i) n x (slice_get graph.nodes n) ≡ max (wanted_at graph asked (shifts n) (shown i) s.0 x) (if assigns graph x s.0 then 0 else over (shown i) x (node_succs s.0)) = ap (node_step (shown i) n x) s.1 in
        elim (cases_lt 0 k) as (λ _. IsCarried asked graph shifts n x k) [
          | inl some ↦ elim (cases_lt (wanted_at graph asked (shifts n) (shown i) s.0 x) k) as (λ _. IsCarried asked graph shifts n x k) [
            | inl less ↦ by_succs i n x k (shown_carried i) s.0 s.1 (assigns graph x s.0) refl some (omega (arith, le, step, less))
            | inr ge ↦ by_node i n x k (shown_carried i) s.0 s.1 ge
          ]
          | inr none ↦ needed n x k s.0 s.1 (omega (arith, none))
        ]

    -- ---- from some number of links on they show no more

    -- the bits that chains of at most i links show, added up over nodes and variables
    abbrev total : ℕ → ℕ
    total i = sum_all (length graph.vars) (shown i) (length graph.nodes)

    -- 64 bits of each variable before each node, added up
    abbrev top : ℕ
    top = sum_all (length graph.vars) (λ n x. 64) (length graph.nodes)

    -- chains show no more than this
    total_most : (i : ℕ) → total i ≤ top
    total_most i = all_less (length graph.vars) (shown i) (λ n x. 64) (length graph.nodes) (shown_most i)

    -- so at some number of links one link more shows no more bits
    rests : (fuel i : ℕ) → top ≤ total i + fuel → (j : ℕ) × (total (suc j) ≤ total j)
    rests zero i le = (i, omega (arith, le, total_most (suc i)))
    rests (suc fuel) i le = elim (cases_lt (total i) (total (suc i))) as (λ _. (j : ℕ) × (total (suc j) ≤ total j)) [
      | inl more ↦ rests fuel (suc i) (omega (arith, le, more))
      | inr ge ↦ (i, ge)
    ]

    module _ (wanted : ℕ → ℕ → ℕ) (least : AreLeastWantedBy asked graph shifts wanted) where
      -- so many links
      abbrev last : ℕ
      last = (rests top 0 (omega arith)).0

      -- one link more shows no more
      at_rest : (n x : ℕ) → n < length graph.nodes → x < length graph.vars → shown (suc last) n x ≤ shown last n x
      at_rest = all_back (length graph.vars) (shown last) (shown (suc last)) (length graph.nodes) (shown_more last) (rests top 0 (omega arith)).1

      -- these numbers, and 64 where there is no variable, are wanted
      abbrev whole : ℕ → ℕ → ℕ
      whole n x = if nat_lt x (length graph.vars) then shown last n x else 64

      -- of a variable what is shown
      whole_in : (n x : ℕ) → x < length graph.vars → whole n x ≡ shown last n x
      whole_in n x lt = ap (λ b. if b then shown last n x else 64) (lt-ltb x (length graph.vars) lt)

      -- else 64
      whole_out : (n x : ℕ) → length graph.vars ≤ x → whole n x ≡ 64
      whole_out n x ge = ap (λ b. if b then shown last n x else 64) (le-ltb x (length graph.vars) ge)

      -- at most 64
      whole_most : (n x : ℕ) → whole n x ≤ 64
      whole_most n x = elim (cases_lt x (length graph.vars)) [
        | inl lt ↦ omega (arith, whole_in n x lt, shown_most last n x)
        | inr ge ↦ omega (arith, whole_out n x ge)
      ]

      -- a node wants by them what it does by what is shown
      at_whole : (n x : ℕ) (node : Node) → slice_get graph.nodes n ≡ Some node → wanted_at graph asked (shifts n) whole node x ≡ wanted_at graph asked (shifts n) (shown last) node x
      at_whole n x (Start next) here = refl
      at_whole n x (Skip next) here = refl
      at_whole n x (Assign y rhs next) here = ap (λ k. wanted_rhs (shifts n) rhs k x) (whole_in next y (can.below n (Assign y rhs next) here).0)
      at_whole n x (Print a next) here = refl
      at_whole n x (Guard test number next) here = refl
      at_whole n x (Call into unit operands next) here = refl
      at_whole n x (Test test taken other) here = refl
      at_whole n x (Return a) here = refl

      -- at most 64 bits
      at_most : (n x : ℕ) (node : Node) → slice_get graph.nodes n ≡ Some node → wanted_at graph asked (shifts n) (shown last) node x ≤ 64
      at_most n x (Start next) here = omega (arith, least.are.here n x (Start next) here, least.are.most n x)
      at_most n x (Skip next) here = omega (arith, least.are.here n x (Skip next) here, least.are.most n x)
      at_most n x (Assign y rhs next) here = most_rhs (shifts n) rhs (shown last next y) x (shown_most last next y)
      at_most n x (Print a next) here = omega (arith, least.are.here n x (Print a next) here, least.are.most n x)
      at_most n x (Guard test number next) here = omega (arith, least.are.here n x (Guard test number next) here, least.are.most n x)
      at_most n x (Call into unit operands next) here = omega (arith, least.are.here n x (Call into unit operands next) here, least.are.most n x)
      at_most n x (Test test taken other) here = omega (arith, least.are.here n x (Test test taken other) here, least.are.most n x)
      at_most n x (Return a) here = omega (arith, least.are.here n x (Return a) here, least.are.most n x)

      -- what one link more shows
      step_at : (n x : ℕ) (node : Node) → slice_get graph.nodes n ≡ Some node → shown (suc last) n x ≡ min 64 (max (wanted_at graph asked (shifts n) (shown last) node x) (if assigns graph x node then 0 else over (shown last) x (node_succs node)))
      step_at n x node here = ap (λ o. min 64 (node_step (shown last) n x o)) here

      -- a node wants no more than these
      whole_here : (n x : ℕ) (node : Node) → slice_get graph.nodes n ≡ Some node → wanted_at graph asked (shifts n) whole node x ≤ whole n x
      whole_here n x node here = elim (cases_lt x (length graph.vars)) [
        | inl lt ↦ omega (arith, at_whole n x node here, at_most n x node here, step_at n x node here, at_rest n x (slice_get_within graph.nodes n node here) lt, whole_in n x lt)
        | inr ge ↦ omega (arith, at_whole n x node here, at_most n x node here, whole_out n x ge)
      ]

      -- nor do its successors
      whole_behind : (n slot s x : ℕ) (node : Node) → slice_get graph.nodes n ≡ Some node → IsEdge graph.nodes n slot s → assigns graph x node ≡ false → whole s x ≤ whole n x
      whole_behind n slot s x node here edge off = elim (cases_lt x (length graph.vars)) [
        | inl lt ↦
            let at : slice_get (node_succs node) slot ≡ Some s = sym (ap (λ o. slice_get (succs_of o) slot) here) ∙ edge in
            let is : shown (suc last) n x ≡ min 64 (max (wanted_at graph asked (shifts n) (shown last) node x) (over (shown last) x (node_succs node))) =
            step_at n x node here ∙ ap (λ b. min 64 (max (wanted_at graph asked (shifts n) (shown last) node x) (if b then 0 else over (shown last) x (node_succs node)))) off in
            omega (arith, whole_in s x lt, over_each (shown last) x (node_succs node) slot s at, shown_most last s x, is, at_rest n x (slice_get_within graph.nodes n node here) lt, whole_in n x lt)
        | inr ge ↦ omega (arith, whole_out s x ge, whole_out n x ge)
      ]

      -- so the least numbers are those that chains show
      pub wanted_carried : (n x k : ℕ) → n < length graph.nodes → x < length graph.vars → (k ≤ wanted n x) ↔ IsCarried asked graph shifts n x k
      wanted_carried n x k n_in x_in = (
        λ le. shown_carried last n x k n_in
            (omega (arith, le, least.least whole (record { most = whole_most; here = whole_here; behind = whole_behind }) n x n_in x_in, whole_in n x x_in)),
        carried_wanted wanted least.are n x k,
      )
