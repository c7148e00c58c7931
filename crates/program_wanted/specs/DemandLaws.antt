-- Laws: least numbers of wanted bits are at most those by which demands serve a unit; a program has one least demands; and
-- what is made by demands that serve all units keeps the program. For proofs only.
use Rattle.std.proofs.Common.{◌≡◌, ℕ, zero, suc, ◌+◌, ◌-◌, ◌<◌, ◌≤◌, Bool, true, false, if◌then◌else◌, nat_eq, nat_lt, inl, inr, List, [], ◌∷◌, ◌++◌, length, map, slice_get, Option, Some, None, refl, sym, ap, ◌∙◌, subst, arith, le_refl}
use Rattle.std.proofs.lemmas.Bool.{cases_eq, cases_lt}
use Rattle.std.proofs.lemmas.Grind.{get_or_default_zero}
use Rattle.std.proofs.lemmas.List.{ext_get_or, get_or_append_left, get_or-append_right, get_or_past, length_push}
use Rattle.std.proofs.lemmas.List.FromFn.{get_or-map-range_with_len, length-map-range_with_len}
use Rattle.std.proofs.lemmas.Option.{slice_get_within, slice_get-get_or}
use Rattle.mir_base.specs.declared.instructions.Operand.{Operand}
use Rattle.mir_base.specs.declared.instructions.Operand.TheVariants.{Var, Const}
use Rattle.mir_base.specs.Frames.{shared_vars}
use Rattle.mir_base.specs.Shapes.{AllBelow}
use Rattle.flow_graph.specs.declared.nodes.Node.{Node}
use Rattle.flow_graph.specs.declared.nodes.Node.TheVariants.{Start, Skip, Assign, Print, Guard, Call, Test, Return}
use Rattle.flow_graph.specs.Graphs.{CanMake, GraphShape, SharesVars, succs_of}
use Rattle.node_list.specs.Lists.{list_at}
use Rattle.wanted_bits.specs.Asking.{width_at}
use Rattle.wanted_bits.specs.Asks.{back_list, into_bits, kept_bits}
use Rattle.wanted_bits.specs.BitsOrder.{HasFew}
use Rattle.wanted_bits.specs.declared.picking.Shift.{Shift}
use Rattle.wanted_bits.specs.Found.{AreFoundNodes}
use Rattle.wanted_bits.specs.MostRemoved.{KeepsTaken, TellShifts}
use Rattle.wanted_bits.specs.NarrowedLaws.{same_option, wanted_on}
use Rattle.wanted_bits.specs.Walking.{bits_at, is_into}
use Rattle.wanted_bits.specs.WalkLaws.{FewerEach}
use Rattle.wanted_bits.specs.Wanted.{AreLeastWantedBy, AreWantedBy, Asked, wanted_among, wanted_at, wanted_global, wanted_of}
use Rattle.program_wanted.specs.Demands.{AreLeastDemands, AreNumberRows, AskNoMore, Demands, FewerRows, FitGraphs, IsServed, asked_at}
use Rattle.program_wanted.specs.DemandStacks.{LeastSides}

-- at most 64 bits that a list has, as it asks for them
pub enough : (l : List ℕ) (x k : ℕ) → k ≤ 64 → k ≤ bits_at l x → k ≤ width_at l x
enough l x k most le = elim (cases_lt x (length l)) [
  | inl lt ↦ omega (arith, most, le, get_or_default_zero l x 64 lt)
  | inr ge ↦ omega (arith, most, get_or_past l x 64 ge)
]

-- lists that are equally long ask for more where they have more
pub asks_more : (xs ys : List ℕ) → length xs ≡ length ys → FewerEach xs ys → (x : ℕ) → width_at xs x ≤ width_at ys x
asks_more xs ys long le x = elim (cases_lt x (length xs)) [
  | inl lt ↦ omega (arith, le x, get_or_default_zero xs x 64 lt, get_or_default_zero ys x 64 (omega (arith, lt, long)))
  | inr ge ↦ omega (arith, get_or_past xs x 64 ge, get_or_past ys x 64 (omega (arith, ge, long)))
]

-- ---- what a call is asked for

-- a global
pub back_global : (shared : ℕ) (into : Option ℕ) (behind : ℕ → ℕ) (x : ℕ) → x < shared → is_into x into ≡ false → bits_at (back_list shared into behind) x ≡ behind x
back_global shared into behind x low off =
    get_or_append_left (map (kept_bits into behind) (shared_vars shared)) (into_bits into behind ∷ []) 0 x (omega (arith, low, length-map-range_with_len (kept_bits into behind) 0 shared))
    ∙ get_or-map-range_with_len (kept_bits into behind) 0 shared x x 0 low (omega arith)
    ∙ ap (λ b. if b then 0 else behind x) off

-- the result
pub back_result : (shared y : ℕ) (behind : ℕ → ℕ) → bits_at (back_list shared (Some y) behind) shared ≡ behind y
back_result shared y behind =
    let long = length-map-range_with_len (kept_bits (Some y) behind) 0 shared in
    ap (bits_at (back_list shared (Some y) behind)) (sym long) ∙ last (map (kept_bits (Some y) behind) (shared_vars shared)) (behind y)
  where
    last : (xs : List ℕ) (k : ℕ) → bits_at (xs ++ k ∷ []) (length xs) ≡ k
    last [] k = refl
    last (z ∷ xs) k = last xs k

-- at most 64 bits of each
pub back_most : (shared : ℕ) (into : Option ℕ) (behind : ℕ → ℕ) → ((x : ℕ) → behind x ≤ 64) → HasFew (back_list shared into behind)
back_most shared into behind most = go (shared_vars shared)
  where
    kept : (x : ℕ) (b : Bool) → (if b then 0 else behind x) ≤ 64
    kept x true = omega arith
    kept x false = most x

    result : (o : Option ℕ) → into_bits o behind ≤ 64
    result None = omega arith
    result (Some y) = most y

    go : (xs : List ℕ) → HasFew (map (kept_bits into behind) xs ++ into_bits into behind ∷ [])
    go [] zero = result into
    go [] (suc x) = omega arith
    go (y ∷ xs) zero = kept y (is_into y into)
    go (y ∷ xs) (suc x) = go xs x

-- fewer of each where fewer are wanted
pub fewer_back : (shared vars : ℕ) (into : Option ℕ) (f g : ℕ → ℕ) → shared ≤ vars → ((y : ℕ) → into ≡ Some y → y < vars) → ((x : ℕ) → x < vars → f x ≤ g x) → FewerEach (back_list shared into f) (back_list shared into g)
fewer_back shared vars into f g least own less x = elim (cases_lt x shared) [
  | inl low ↦ omega (arith, at f x low, at g x low, kept (is_into x into) (less x (omega (arith, low, least))))
  | inr ge ↦ elim (cases_eq x shared) [
    | inl e ↦ omega (arith, last f x e, last g x e, result into own)
    | inr ne ↦ omega (arith, get_or_past (back_list shared into f) x 0 (omega (arith, ge, ne, long f)))
  ]
]
  where
    long : (h : ℕ → ℕ) → length (back_list shared into h) ≡ shared + 1
    long h = length_push (map (kept_bits into h) (shared_vars shared)) (into_bits into h) ∙ ap (λ n. n + 1) (length-map-range_with_len (kept_bits into h) 0 shared)

    at : (h : ℕ → ℕ) (y : ℕ) → y < shared → bits_at (back_list shared into h) y ≡ kept_bits into h y
    at h y low =
        get_or_append_left (map (kept_bits into h) (shared_vars shared)) (into_bits into h ∷ []) 0 y (omega (arith, low, length-map-range_with_len (kept_bits into h) 0 shared))
        ∙ get_or-map-range_with_len (kept_bits into h) 0 shared y y 0 low (omega arith)

    kept : (b : Bool) → f x ≤ g x → (if b then 0 else f x) ≤ (if b then 0 else g x)
    kept true le = le_refl 0
    kept false le = le

    last : (h : ℕ → ℕ) (y : ℕ) → y ≡ shared → bits_at (back_list shared into h) y ≡ into_bits into h
    last h y e =
        get_or-append_right (map (kept_bits into h) (shared_vars shared)) (into_bits into h ∷ []) shared y 0 (length-map-range_with_len (kept_bits into h) 0 shared) (omega (arith, e))
        ∙ ap (bits_at (into_bits into h ∷ [])) (let none : y - shared ≡ 0 = omega (arith, e) in none)

    result : (o : Option ℕ) → ((y : ℕ) → o ≡ Some y → y < vars) → into_bits o f ≤ into_bits o g
    result None inside = le_refl 0
    result (Some y) inside = less y (inside y refl)

-- ---- two sets of numbers

module _ (asked : Asked) (graph : GraphShape) (can : CanMake graph.vars graph.received graph.nodes) (shifts others : ℕ → ℕ → Option Shift) (wanted more : ℕ → ℕ → ℕ) (tell : TellShifts graph shifts) (tell' : TellShifts graph others) (least : AreLeastWantedBy asked graph shifts wanted) where
  -- the least are at most the others, which go by the shifts that hold too
  pub least_fewer : AreWantedBy asked graph others more → (n x : ℕ) → n < length graph.nodes → x < length graph.vars → wanted n x ≤ more n x
  least_fewer are = least.least more (wanted_on asked graph can others shifts more (λ n t lt. same_option (others n t) (shifts n t) (λ s e. (tell n t s lt).1 ((tell' n t s lt).0 e)) (λ s e. (tell' n t s lt).1 ((tell n t s lt).0 e))) are)

-- ---- asked for more

-- more is asked for
pub record AsksMore (asked more : Asked) : Type 0 where
  pub globals : (v x : ℕ) → asked.globals v x ≤ more.globals v x
  pub arguments : (v i : ℕ) → asked.arguments v i ≤ more.arguments v i
  pub left : (x : ℕ) → asked.left x ≤ more.left x
  pub result : asked.result ≤ more.result

module _ (asked more : Asked) (than : AsksMore asked more) where
  global_more : (shared : ℕ) (f g : ℕ → ℕ) (x : ℕ) → f x ≤ g x → wanted_global shared f x ≤ wanted_global shared g x
  global_more shared f g x le = by (nat_lt x shared)
    where
      by : (b : Bool) → (if b then f x else 0) ≤ (if b then g x else 0)
      by true = le
      by false = le_refl 0

  operand_more : (a : Operand) (k m x : ℕ) → k ≤ m → wanted_of a k x ≤ wanted_of a m x
  operand_more (Var y) k m x le = by (nat_eq x y)
    where
      by : (b : Bool) → (if b then k else 0) ≤ (if b then m else 0)
      by true = le
      by false = le_refl 0
  operand_more (Const c) k m x le = le_refl 0

  among_more : (f g : ℕ → ℕ) (i : ℕ) (operands : List Operand) (x : ℕ) → ((j : ℕ) → f j ≤ g j) → wanted_among f i operands x ≤ wanted_among g i operands x
  among_more f g i [] x le = le_refl 0
  among_more f g i (a ∷ operands) x le = omega (arith, operand_more a (f i) (g i) x (le i), among_more f g (suc i) operands x le)

  at_more : (graph : GraphShape) (s : ℕ → Option Shift) (wanted : ℕ → ℕ → ℕ) (node : Node) (x : ℕ) → wanted_at graph asked s wanted node x ≤ wanted_at graph more s wanted node x
  at_more graph s wanted (Start next) x = le_refl _
  at_more graph s wanted (Skip next) x = le_refl _
  at_more graph s wanted (Assign y rhs next) x = le_refl _
  at_more graph s wanted (Print a next) x = le_refl _
  at_more graph s wanted (Guard test number next) x = le_refl _
  at_more graph s wanted (Call into v operands next) x = omega (arith, global_more graph.shared (asked.globals v) (more.globals v) x (than.globals v x), among_more (asked.arguments v) (more.arguments v) 0 operands x (than.arguments v))
  at_more graph s wanted (Test test taken other) x = le_refl _
  at_more graph s wanted (Return a) x = omega (arith, global_more graph.shared asked.left more.left x (than.left x), operand_more a asked.result more.result x than.result)

  -- what serves where more is asked for serves where less is
  pub wanted_less : (graph : GraphShape) (shifts : ℕ → ℕ → Option Shift) (wanted : ℕ → ℕ → ℕ) → AreWantedBy more graph shifts wanted → AreWantedBy asked graph shifts wanted
  wanted_less graph shifts wanted are = record {
    most = are.most;
    here = λ n x node here. omega (arith, at_more graph (shifts n) wanted node x, are.here n x node here);
    behind = are.behind;
  }

  -- and so does what a removal keeps
  pub keeps_less : (graph : GraphShape) (shifts : ℕ → ℕ → Option Shift) (removed : ℕ → Bool) (taken : ℕ → ℕ → ℕ) → KeepsTaken more graph shifts removed taken → KeepsTaken asked graph shifts removed taken
  keeps_less graph shifts removed taken keeps = record {
    most = keeps.most;
    stays = λ n x node here off. omega (arith, at_more graph (shifts n) taken node x, keeps.stays n x node here off);
    behind = keeps.behind;
    gone = keeps.gone;
  }

-- ---- rows

-- rows of one shape are equally long
pub rows_long : (graphs : List GraphShape) (count : GraphShape → ℕ) (rows others : List (List ℕ)) → AreNumberRows graphs count rows → AreNumberRows graphs count others → (u : ℕ) → length (list_at rows u) ≡ length (list_at others u)
rows_long graphs count rows others p q u = elim (cases_lt u (length graphs)) [
  | inl lt ↦ (let at = slice_get-get_or graphs u (record { name = []; shared = 0; vars = []; received = []; nodes = [] }) lt in (p.each u _ at).0 ∙ sym (q.each u _ at).0)
  | inr ge ↦ ap (λ (l : List ℕ). length l) (get_or_past rows u [] (omega (arith, ge, p.long)) ∙ sym (get_or_past others u [] (omega (arith, ge, q.long))))
]

-- so demands that ask for no more ask for less of each
pub demands_more : (graphs : List GraphShape) (demands others : Demands) → FitGraphs graphs demands → FitGraphs graphs others → AskNoMore demands others → (shared u : ℕ) → AsksMore (asked_at demands shared u) (asked_at others shared u)
demands_more graphs demands others p q le shared u = record {
  globals = λ v x. asks_more (list_at demands.globals v) (list_at others.globals v) (rows_long graphs (λ graph. graph.shared) demands.globals others.globals p.globals q.globals v) (le.globals v) x;
  arguments = λ v i. asks_more (list_at demands.arguments v) (list_at others.arguments v) (rows_long graphs (λ graph. length graph.received) demands.arguments others.arguments p.arguments q.arguments v) (le.arguments v) i;
  left = λ x. asks_more (list_at demands.backs u) (list_at others.backs u) (rows_long graphs (λ graph. suc graph.shared) demands.backs others.backs p.backs q.backs u) (le.backs u) x;
  result = asks_more (list_at demands.backs u) (list_at others.backs u) (rows_long graphs (λ graph. suc graph.shared) demands.backs others.backs p.backs q.backs u) (le.backs u) shared;
}

-- rows that are at most one another are equal
rows_same : (graphs : List GraphShape) (count : GraphShape → ℕ) (rows others : List (List ℕ)) → AreNumberRows graphs count rows → AreNumberRows graphs count others → FewerRows rows others → FewerRows others rows → rows ≡ others
rows_same graphs count rows others p q up down =
    ext_get_or [] rows others (p.long ∙ sym q.long) (λ u lt. ext_get_or 0 (list_at rows u) (list_at others u) (rows_long graphs count rows others p q u) (λ x lt'. omega (arith, up u x, down u x)))

-- so a program has one least demands
pub demands_one : (graphs : List GraphShape) (a b : Demands) → AreLeastDemands graphs a → AreLeastDemands graphs b → a ≡ b
demands_one graphs a b p q =
    let up = p.least b q.served in
    let down = q.least a p.served in
    let globals = rows_same graphs (λ graph. graph.shared) a.globals b.globals p.served.fit.globals q.served.fit.globals up.globals down.globals in
    let arguments = rows_same graphs (λ graph. length graph.received) a.arguments b.arguments p.served.fit.arguments q.served.fit.arguments up.arguments down.arguments in
    let backs = rows_same graphs (λ graph. suc graph.shared) a.backs b.backs p.served.fit.backs q.served.fit.backs up.backs down.backs in
    ap (λ (l : List (List ℕ)). record { globals = l; arguments = a.arguments; backs = a.backs }) globals
    ∙ ap (λ (l : List (List ℕ)). record { globals = b.globals; arguments = l; backs = a.backs }) arguments
    ∙ ap (λ (l : List (List ℕ)). record { globals = b.globals; arguments = b.arguments; backs = l }) backs

-- ---- what is made

-- an item of a list whose items are below a number
below_at : (m : ℕ) (xs : List ℕ) (i x : ℕ) → AllBelow m xs → slice_get xs i ≡ Some x → x < m
below_at m [] i x below at = cc
below_at m (y ∷ xs) zero x below at = let same : y ≡ x = cc in subst (λ z. z < m) same below.0
below_at m (y ∷ xs) (suc i) x below at = below_at m xs i x below.1 at

-- so is a received variable
pub received_low : (graph : GraphShape) → CanMake graph.vars graph.received graph.nodes → (i x : ℕ) → slice_get graph.received i ≡ Some x → x < length graph.vars
received_low graph can i x at = below_at (length graph.vars) graph.received i x can.received_below at

-- what is made of a graph by demands that serve its unit goes with the graph
pub made_sides : (demands : Demands) (u : ℕ) (graph narrowed : GraphShape) → CanMake graph.vars graph.received graph.nodes → SharesVars graph.shared graph.vars graph.received → AreFoundNodes (asked_at demands graph.shared u) graph narrowed.nodes → narrowed.shared ≡ graph.shared → narrowed.received ≡ graph.received → IsServed demands graph u → LeastSides demands u graph narrowed
made_sides demands u graph narrowed can shares found shared received served = record {
  sides = record {
    are = record { shifts = found.shifts; wanted = found.wanted; shifts_hold = found.shifts_hold; are_wanted = found.least.are; nodes_are = found.nodes_are };
    shared = shared;
    received = received;
    globals = λ x low. enough (list_at demands.globals u) x (found.wanted 0 x) (found.least.are.most 0 x) (omega (arith, fewer 0 x first (omega (arith, low, shares.count)), served.globals x low));
    arguments = λ i x at. enough (list_at demands.arguments u) i (found.wanted 0 x) (found.least.are.most 0 x) (omega (arith, fewer 0 x first (received_low graph can i x at), served.arguments i x at));
    calls = record {
      on_globals = λ n into v operands next here x low off.
          enough (list_at demands.backs v) x (found.wanted next x) (found.least.are.most next x)
          (omega (arith, fewer next x (next_in n into v operands next here) (omega (arith, low, shares.count)), back_global graph.shared into (served.wanted next) x low off, served.calls n into v operands next here x));
      on_result = λ n y v operands next here.
          enough (list_at demands.backs v) graph.shared (found.wanted next y) (found.least.are.most next y)
          (omega (arith, fewer next y (next_in n (Some y) v operands next here) ((can.below n (Call (Some y) v operands next) here).0), back_result graph.shared y (served.wanted next), served.calls n (Some y) v operands next here graph.shared));
    };
  };
  tell = found.shifts_are;
  least = found.least;
}
  where
    fewer : (n x : ℕ) → n < length graph.nodes → x < length graph.vars → found.wanted n x ≤ served.wanted n x
    fewer = least_fewer (asked_at demands graph.shared u) graph can found.shifts served.shifts found.wanted served.wanted found.shifts_are served.tell found.least served.are

    first : 0 < length graph.nodes
    first = slice_get_within graph.nodes 0 (Start can.start.0) can.start.1

    next_in : (n : ℕ) (into : Option ℕ) (v : ℕ) (operands : List Operand) (next : ℕ) → slice_get graph.nodes n ≡ Some (Call into v operands next) → next < length graph.nodes
    next_in n into v operands next here = (can.succs n 0 next (ap (λ o. slice_get (succs_of o) 0) here)).1
