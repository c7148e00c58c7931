-- The numbers through the nodes of a block, variable by variable. For proofs, and the ghost members of the flow.
use Rattle.std.proofs.Common.{◌≡◌, ◌≢◌, ◌⊎◌, ℕ, suc, ◌-◌, ◌<◌, ◌≤◌, min, max, Bool, true, false, ◌||◌, if◌then◌else◌, nat_eq, nat_lt, eq-eqb, true≢false, inl, inr, List, [], ◌∷◌, length, slice_get, slice_set, Option, Some, None, refl, sym, ap, ◌∙◌, subst, arith, le_refl}
use Rattle.std.proofs.lemmas.Bool.{cases_eq, cases_lt, ne_eqb}
use Rattle.std.proofs.lemmas.List.{get_or-set_other, get_or-set_same, get_or_past, length-set}
use Rattle.mir_base.specs.declared.operators.UnOp.TheVariants.{Neg, Not}
use Rattle.mir_base.specs.declared.instructions.Operand.{Operand}
use Rattle.mir_base.specs.declared.instructions.Operand.TheVariants.{Var, Const}
use Rattle.mir_base.specs.declared.instructions.Rhs.{Rhs}
use Rattle.mir_base.specs.declared.instructions.Rhs.TheVariants.{Plain, Unary, Binary}
use Rattle.mir_base.specs.Frames.{shared_vars}
use Rattle.flow_graph.specs.declared.nodes.Node.{Node}
use Rattle.flow_graph.specs.declared.nodes.Node.TheVariants.{Start, Skip, Assign, Print, Guard, Call, Test, Return}
use Rattle.flow_graph.specs.Graphs.{GraphShape, assigns, node_reads}
use Rattle.flow_graph.specs.Numbering.{is_in}
use Rattle.wanted_bits.specs.declared.picking.Shift.{Shift}
use Rattle.wanted_bits.specs.declared.around.Around.{Around}
use Rattle.wanted_bits.specs.Asking.{asked_by}
use Rattle.wanted_bits.specs.GlobalNumbers.{shared_is_in}
use Rattle.wanted_bits.specs.Wanted.{Asked, if_any, is_undone, wanted_among, wanted_by, wanted_global, wanted_left, wanted_of, wanted_past, wanted_right}
use Rattle.wanted_bits.specs.MoreWanted.{more_past, most_past}
use Rattle.wanted_bits.specs.BitsOrder.{HasFew}
use Rattle.wanted_bits.specs.Walking.{all_raised, all_set, among_raised, assigned_bits, before_list, bits_at, bits_past, bits_through, raised_at, raised_by, raised_own, raised_past, is_into, whole_width, with_none}

-- ---- one number

-- a number that is set
set_at : (bits : List ℕ) (x y k : ℕ) → x < length bits → bits_at (slice_set bits y k) x ≡ (if nat_eq x y then k else bits_at bits x)
set_at bits x y k lt = elim (cases_eq x y) as (λ _. bits_at (slice_set bits y k) x ≡ (if nat_eq x y then k else bits_at bits x)) [
  | inl e ↦ subst (λ z. z < length bits → bits_at (slice_set bits y k) z ≡ (if nat_eq z y then k else bits_at bits z)) (sym e)
      (λ y_in. get_or-set_same bits y k 0 y_in ∙ sym (ap (λ b. if b then k else bits_at bits y) (eq-eqb y y refl))) lt
  | inr ne ↦ get_or-set_other bits y x k 0 ne ∙ sym (ap (λ b. if b then k else bits_at bits x) (ne_eqb x y ne))
]

-- a number that is raised
raised_at_is : (bits : List ℕ) (x y k : ℕ) → x < length bits → bits_at (raised_at bits y k) x ≡ max (bits_at bits x) (if nat_eq x y then k else 0)
raised_at_is bits x y k lt = set_at bits x y (max (bits_at bits y) k) lt ∙ by (nat_eq x y) (cases_eq x y) refl
  where
    by : (b : Bool) → (x ≡ y) ⊎ (x ≢ y) → nat_eq x y ≡ b → (if b then max (bits_at bits y) k else bits_at bits x) ≡ max (bits_at bits x) (if b then k else 0)
    by true (inl e) is = ap (λ z. max (bits_at bits z) k) (sym e)
    by true (inr ne) is = absurd (true≢false (sym is ∙ ne_eqb x y ne))
    by false c is = omega arith

-- by an operand
raised_by_is : (bits : List ℕ) (a : Operand) (k x : ℕ) → x < length bits → bits_at (raised_by bits a k) x ≡ max (bits_at bits x) (wanted_of a k x)
raised_by_is bits (Var y) k x lt = raised_at_is bits x y k lt
raised_by_is bits (Const c) k x lt = omega arith

-- the lists stay as long
long_by : (bits : List ℕ) (a : Operand) (k : ℕ) → length (raised_by bits a k) ≡ length bits
long_by bits (Var y) k = length-set bits y (max (bits_at bits y) k)
long_by bits (Const c) k = refl

-- ---- right sides

-- by a right side
raised_own_is : (bits : List ℕ) (rhs : Rhs) (k x : ℕ) → x < length bits → bits_at (raised_own bits rhs k) x ≡ max (bits_at bits x) (wanted_by rhs k x)
raised_own_is bits (Plain a) k x lt = raised_by_is bits a k x lt
raised_own_is bits (Unary Neg a) k x lt = raised_by_is bits a k x lt
raised_own_is bits (Unary Not a) k x lt = raised_by_is bits a (if_any k 64) x lt
raised_own_is bits (Binary op a b) k x lt =
    let left = raised_by_is bits a (wanted_left op b k) x lt in
    let right = raised_by_is (raised_by bits a (wanted_left op b k)) b (wanted_right op a k) x (omega (arith, lt, long_by bits a (wanted_left op b k))) in
    omega (arith, left, right)

-- it stays as long
long_own : (bits : List ℕ) (rhs : Rhs) (k : ℕ) → length (raised_own bits rhs k) ≡ length bits
long_own bits (Plain a) k = long_by bits a k
long_own bits (Unary Neg a) k = long_by bits a k
long_own bits (Unary Not a) k = long_by bits a (if_any k 64)
long_own bits (Binary op a b) k = long_by (raised_by bits a (wanted_left op b k)) b (wanted_right op a k) ∙ long_by bits a (wanted_left op b k)

-- also where it shifts back
raised_past_is : (bits : List ℕ) (back : Option Shift) (rhs : Rhs) (k x : ℕ) → x < length bits → bits_at (raised_past bits back rhs k) x ≡ max (bits_at bits x) (wanted_past back rhs k x)
raised_past_is bits None rhs k x lt = raised_own_is bits rhs k x lt
raised_past_is bits (Some shift) rhs k x lt = by (is_undone shift k)
  where
    raised : List ℕ
    raised = raised_at bits shift.source (min k (64 - shift.distance))

    by : (b : Bool) → bits_at (if b then raised_at bits shift.source (min k (64 - shift.distance)) else raised_own (raised_at bits shift.source (min k (64 - shift.distance))) rhs k) x
        ≡ max (bits_at bits x) (max (wanted_of (Var shift.source) (min k (64 - shift.distance)) x) (if b then 0 else wanted_by rhs k x))
    by true = omega (arith, raised_at_is bits x shift.source (min k (64 - shift.distance)) lt)
    by false =
        let source = raised_at_is bits x shift.source (min k (64 - shift.distance)) lt in
        let own = raised_own_is raised rhs k x (omega (arith, lt, length-set bits shift.source (max (bits_at bits shift.source) (min k (64 - shift.distance))))) in
        omega (arith, source, own)

-- and it stays as long
long_past : (bits : List ℕ) (back : Option Shift) (rhs : Rhs) (k : ℕ) → length (raised_past bits back rhs k) ≡ length bits
long_past bits None rhs k = long_own bits rhs k
long_past bits (Some shift) rhs k = by (is_undone shift k)
  where
    by : (b : Bool) → length (if b then raised_at bits shift.source (min k (64 - shift.distance)) else raised_own (raised_at bits shift.source (min k (64 - shift.distance))) rhs k) ≡ length bits
    by true = length-set bits shift.source (max (bits_at bits shift.source) (min k (64 - shift.distance)))
    by false = long_own (raised_at bits shift.source (min k (64 - shift.distance))) rhs k ∙ length-set bits shift.source (max (bits_at bits shift.source) (min k (64 - shift.distance)))

-- ---- what is read

-- a variable among those of which so many bits each are wanted
abbrev pub among : (ℕ → ℕ) → ℕ → List ℕ → ℕ
among widths x xs = if is_in x xs then widths x else 0

-- the first of them, and the others
either_of : (widths : ℕ → ℕ) (x y k : ℕ) (c : Bool) → max (max k (if nat_eq x y then widths y else 0)) (if c then widths x else 0) ≡ max k (if (nat_eq y x || c) then widths x else 0)
either_of widths x y k c = elim (cases_eq x y) as (λ _. max (max k (if nat_eq x y then widths y else 0)) (if c then widths x else 0) ≡ max k (if (nat_eq y x || c) then widths x else 0)) [
  | inl e ↦ subst (λ z. max (max k (if nat_eq x z then widths z else 0)) (if c then widths x else 0) ≡ max k (if (nat_eq z x || c) then widths x else 0)) e
      (rw (eq-eqb x x refl) (by c))
  | inr ne ↦ rw (ne_eqb x y ne, ne_eqb y x (λ e. ne (sym e))) (omega arith)
]
  where
    by : (c : Bool) → max (max k (widths x)) (if c then widths x else 0) ≡ max k (widths x)
    by true = omega arith
    by false = omega arith

-- so many bits of these variables
all_raised_is : (widths : ℕ → ℕ) (xs bits : List ℕ) (x : ℕ) → x < length bits → bits_at (all_raised widths xs bits) x ≡ max (bits_at bits x) (among widths x xs)
all_raised_is widths [] bits x lt = omega arith
all_raised_is widths (y ∷ xs) bits x lt =
    all_raised_is widths xs (raised_at bits y (widths y)) x (omega (arith, lt, length-set bits y (max (bits_at bits y) (widths y))))
    ∙ ap (λ n. max n (among widths x xs)) (raised_at_is bits x y (widths y) lt) ∙ either_of widths x y (bits_at bits x) (is_in x xs)

-- they stay as long
long_all : (widths : ℕ → ℕ) (xs bits : List ℕ) → length (all_raised widths xs bits) ≡ length bits
long_all widths [] bits = refl
long_all widths (y ∷ xs) bits = long_all widths xs (raised_at bits y (widths y)) ∙ length-set bits y (max (bits_at bits y) (widths y))

-- the arguments of a call
among_raised_is : (widths : ℕ → ℕ) (i : ℕ) (operands : List Operand) (bits : List ℕ) (x : ℕ) → x < length bits → bits_at (among_raised widths i operands bits) x ≡ max (bits_at bits x) (wanted_among widths i operands x)
among_raised_is widths i [] bits x lt = omega arith
among_raised_is widths i (a ∷ operands) bits x lt =
    let rest = among_raised_is widths (suc i) operands (raised_by bits a (widths i)) x (omega (arith, lt, long_by bits a (widths i))) in
    let first = raised_by_is bits a (widths i) x lt in
    omega (arith, rest, first)

-- they stay as long
long_among : (widths : ℕ → ℕ) (i : ℕ) (operands : List Operand) (bits : List ℕ) → length (among_raised widths i operands bits) ≡ length bits
long_among widths i [] bits = refl
long_among widths i (a ∷ operands) bits = long_among widths (suc i) operands (raised_by bits a (widths i)) ∙ long_by bits a (widths i)

-- numbers that are set
all_set_is : (widths : ℕ → ℕ) (xs bits : List ℕ) (x : ℕ) → x < length bits → bits_at (all_set widths xs bits) x ≡ (if is_in x xs then widths x else bits_at bits x)
all_set_is widths [] bits x lt = refl
all_set_is widths (y ∷ xs) bits x lt =
    all_set_is widths xs (slice_set bits y (widths y)) x (omega (arith, lt, length-set bits y (widths y)))
    ∙ ap (λ n. if is_in x xs then widths x else n) (set_at bits x y (widths y) lt) ∙ either (is_in x xs)
  where
    either : (c : Bool) → (if c then widths x else (if nat_eq x y then widths y else bits_at bits x)) ≡ (if (nat_eq y x || c) then widths x else bits_at bits x)
    either c = elim (cases_eq x y) as (λ _. (if c then widths x else (if nat_eq x y then widths y else bits_at bits x)) ≡ (if (nat_eq y x || c) then widths x else bits_at bits x)) [
      | inl e ↦ subst (λ z. (if c then widths x else (if nat_eq x z then widths z else bits_at bits x)) ≡ (if (nat_eq z x || c) then widths x else bits_at bits x)) e
          (rw (eq-eqb x x refl) (by c))
      | inr ne ↦ rw (ne_eqb x y ne, ne_eqb y x (λ e. ne (sym e))) refl
    ]
      where
        by : (c : Bool) → (if c then widths x else widths x) ≡ widths x
        by true = refl
        by false = refl

-- they stay as long
long_set : (widths : ℕ → ℕ) (xs bits : List ℕ) → length (all_set widths xs bits) ≡ length bits
long_set widths [] bits = refl
long_set widths (y ∷ xs) bits = long_set widths xs (slice_set bits y (widths y)) ∙ length-set bits y (widths y)

-- a variable whose number is taken away
with_none_is : (into : Option ℕ) (bits : List ℕ) (x : ℕ) → x < length bits → bits_at (with_none into bits) x ≡ (if is_into x into then 0 else bits_at bits x)
with_none_is None bits x lt = refl
with_none_is (Some y) bits x lt = set_at bits x y 0 lt

-- they stay as long
long_none : (into : Option ℕ) (bits : List ℕ) → length (with_none into bits) ≡ length bits
long_none None bits = refl
long_none (Some y) bits = length-set bits y 0

-- ---- nodes

-- what a node wants that assigns no right side
abbrev pub read_bits : GraphShape → Asked → Node → ℕ → ℕ
read_bits graph asked (Assign y rhs next) x = 0
read_bits graph asked (Call into unit operands next) x = max
    (wanted_global graph.shared (asked.globals unit) x)
    (wanted_among (asked.arguments unit) 0 operands x)
read_bits graph asked (Return a) x =
    max (wanted_global graph.shared asked.left x) (wanted_of a asked.result x)
read_bits graph asked node x = among whole_width x (node_reads graph node)

-- what its right side wants, of which so many bits are
abbrev pub own_bits : Option Shift → Node → ℕ → ℕ → ℕ
own_bits back (Assign y rhs next) k x = wanted_past back rhs k x
own_bits back node k x = 0

-- what is asked of globals
among_globals : (shared : ℕ) (widths : ℕ → ℕ) (x : ℕ) → among widths x (shared_vars shared) ≡ wanted_global shared widths x
among_globals shared widths x = ap (λ b. if b then widths x else 0) (shared_is_in shared x)

-- a call assigns the globals and its variable
call_assigns : (graph : GraphShape) (into : Option ℕ) (unit : ℕ) (operands : List Operand) (next x : ℕ) → assigns graph x (Call into unit operands next) ≡ (nat_lt x graph.shared || is_into x into)
call_assigns graph None unit operands next x = by (nat_lt x graph.shared)
  where
    by : (b : Bool) → b ≡ (b || false)
    by true = refl
    by false = refl
call_assigns graph (Some y) unit operands next x = refl

-- through a node, variable by variable
pub through_is : (graph : GraphShape) (asked : Asked) (back : Option Shift) (node : Node) (bits : List ℕ) (x : ℕ) → x < length bits
    → bits_at (bits_through graph asked back node bits) x ≡ max (read_bits graph asked node x) (max (if assigns graph x node then 0 else bits_at bits x) (own_bits back node (assigned_bits node bits) x))
through_is graph asked back (Assign y rhs next) bits x lt =
    raised_past_is (slice_set bits y 0) back rhs (bits_at bits y) x (omega (arith, lt, length-set bits y 0))
    ∙ ap (λ n. max n (wanted_past back rhs (bits_at bits y) x)) (set_at bits x y 0 lt) ∙ omega arith
through_is graph asked back (Start next) bits x lt = all_raised_is whole_width [] bits x lt ∙ omega arith
through_is graph asked back (Skip next) bits x lt = all_raised_is whole_width [] bits x lt ∙ omega arith
through_is graph asked back (Print a next) bits x lt = all_raised_is whole_width (node_reads graph (Print a next)) bits x lt ∙ omega arith
through_is graph asked back (Guard test number next) bits x lt = all_raised_is whole_width (node_reads graph (Guard test number next)) bits x lt ∙ omega arith
through_is graph asked back (Call into unit operands next) bits x lt =
    let globals = asked.globals unit in
    let cleared = with_none into bits in
    let set = all_set globals (shared_vars graph.shared) cleared in
    let cleared_long = long_none into bits in
    let set_long = long_set globals (shared_vars graph.shared) cleared in
    among_raised_is (asked.arguments unit) 0 operands set x (omega (arith, lt, set_long, cleared_long))
    ∙ ap (λ n. max n (wanted_among (asked.arguments unit) 0 operands x))
    (all_set_is globals (shared_vars graph.shared) cleared x (omega (arith, lt, cleared_long))
    ∙ ap (λ b. if b then globals x else bits_at cleared x) (shared_is_in graph.shared x)
    ∙ ap (λ n. if nat_lt x graph.shared then globals x else n) (with_none_is into bits x lt))
    ∙ by (wanted_among (asked.arguments unit) 0 operands x) (nat_lt x graph.shared) (is_into x into)
    ∙ sym (ap (λ b. max (read_bits graph asked (Call into unit operands next) x) (max (if b then 0 else bits_at bits x) 0)) (call_assigns graph into unit operands next x))
  where
    by : (k : ℕ) (a b : Bool) → max (if a then asked.globals unit x else (if b then 0 else bits_at bits x)) k ≡ max (max (if a then asked.globals unit x else 0) k) (max (if (a || b) then 0 else bits_at bits x) 0)
    by k true b = omega arith
    by k false true = omega arith
    by k false false = omega arith
through_is graph asked back (Test test taken other) bits x lt = all_raised_is whole_width (node_reads graph (Test test taken other)) bits x lt ∙ omega arith
through_is graph asked back (Return a) bits x lt =
    let raised = all_raised asked.left (shared_vars graph.shared) bits in
    let first = all_raised_is asked.left (shared_vars graph.shared) bits x lt in
    let second = raised_by_is raised a asked.result x (omega (arith, lt, long_all asked.left (shared_vars graph.shared) bits)) in
    let globals = among_globals graph.shared asked.left x in
    omega (arith, first, second, globals)

-- the numbers are as many
pub through_long : (graph : GraphShape) (asked : Asked) (back : Option Shift) (node : Node) (bits : List ℕ) → length (bits_through graph asked back node bits) ≡ length bits
through_long graph asked back (Assign y rhs next) bits = long_past (slice_set bits y 0) back rhs (bits_at bits y) ∙ length-set bits y 0
through_long graph asked back (Start next) bits = refl
through_long graph asked back (Skip next) bits = refl
through_long graph asked back (Print a next) bits = long_all whole_width (node_reads graph (Print a next)) bits
through_long graph asked back (Guard test number next) bits = long_all whole_width (node_reads graph (Guard test number next)) bits
through_long graph asked back (Call into unit operands next) bits =
    long_among (asked.arguments unit) 0 operands (all_set (asked.globals unit) (shared_vars graph.shared) (with_none into bits))
    ∙ long_set (asked.globals unit) (shared_vars graph.shared) (with_none into bits) ∙ long_none into bits
through_long graph asked back (Test test taken other) bits = long_all whole_width (node_reads graph (Test test taken other)) bits
through_long graph asked back (Return a) bits = long_by (all_raised asked.left (shared_vars graph.shared) bits) a asked.result ∙ long_all asked.left (shared_vars graph.shared) bits

-- all bits are 64
either_most : (b : Bool) (k : ℕ) → k ≤ 64 → (if b then k else 0) ≤ 64
either_most true k le = le
either_most false k le = omega arith

-- at most 64 bits are asked for
pub record AsksFew (asked : Asked) : Type 0 where
  pub globals : (unit x : ℕ) → asked.globals unit x ≤ 64
  pub arguments : (unit i : ℕ) → asked.arguments unit i ≤ 64
  pub left : (x : ℕ) → asked.left x ≤ 64
  pub result : asked.result ≤ 64

-- as lists have it
pub asks_few : (shared : ℕ) (around : Around) → AsksFew (asked_by shared around)
asks_few shared around = record { globals = λ unit x. omega arith; arguments = λ unit i. omega arith; left = λ x. omega arith; result = omega arith }

-- so at most as many of an operand
of_most : (a : Operand) (k x : ℕ) → k ≤ 64 → wanted_of a k x ≤ 64
of_most (Var y) k x le = either_most (nat_eq x y) k le
of_most (Const c) k x le = omega arith

-- of arguments
among_most : (widths : ℕ → ℕ) (i : ℕ) (operands : List Operand) (x : ℕ) → ((j : ℕ) → widths j ≤ 64) → wanted_among widths i operands x ≤ 64
among_most widths i [] x most = omega arith
among_most widths i (a ∷ operands) x most = omega (arith, of_most a (widths i) x (most i), among_most widths (suc i) operands x most)

-- and of what is read
pub read_most : (graph : GraphShape) (asked : Asked) (node : Node) (x : ℕ) → AsksFew asked → read_bits graph asked node x ≤ 64
read_most graph asked (Assign y rhs next) x few = omega arith
read_most graph asked (Start next) x few = omega arith
read_most graph asked (Skip next) x few = omega arith
read_most graph asked (Print a next) x few = either_most (is_in x (node_reads graph (Print a next))) 64 (le_refl 64)
read_most graph asked (Guard test number next) x few = either_most (is_in x (node_reads graph (Guard test number next))) 64 (le_refl 64)
read_most graph asked (Call into unit operands next) x few = omega (arith, either_most (nat_lt x graph.shared) (asked.globals unit x) (few.globals unit x), among_most (asked.arguments unit) 0 operands x (few.arguments unit))
read_most graph asked (Test test taken other) x few = either_most (is_in x (node_reads graph (Test test taken other))) 64 (le_refl 64)
read_most graph asked (Return a) x few = omega (arith, either_most (nat_lt x graph.shared) (asked.left x) (few.left x), of_most a asked.result x few.result)

-- of at most 64 bits at most 64 are wanted
own_most : (back : Option Shift) (node : Node) (k x : ℕ) → k ≤ 64 → own_bits back node k x ≤ 64
own_most back (Assign y rhs next) k x le = most_past back rhs k x le
own_most back (Start next) k x le = omega arith
own_most back (Skip next) k x le = omega arith
own_most back (Print a next) k x le = omega arith
own_most back (Guard test number next) k x le = omega arith
own_most back (Call into unit operands next) k x le = omega arith
own_most back (Test test taken other) k x le = omega arith
own_most back (Return a) k x le = omega arith

-- and of more bits more
own_more : (back : Option Shift) (node : Node) (k m x : ℕ) → k ≤ m → own_bits back node k x ≤ own_bits back node m x
own_more back (Assign y rhs next) k m x le = more_past back rhs k m x le
own_more back (Start next) k m x le = omega arith
own_more back (Skip next) k m x le = omega arith
own_more back (Print a next) k m x le = omega arith
own_more back (Guard test number next) k m x le = omega arith
own_more back (Call into unit operands next) k m x le = omega arith
own_more back (Test test taken other) k m x le = omega arith
own_more back (Return a) k m x le = omega arith

-- a number that is kept or taken away
kept_more : (b : Bool) (m n : ℕ) → m ≤ n → (if b then 0 else m) ≤ (if b then 0 else n)
kept_more true m n le = le_refl 0
kept_more false m n le = le

-- the assigned variable's number, by those of all
assigned_more : (node : Node) (xs ys : List ℕ) → ((x : ℕ) → bits_at xs x ≤ bits_at ys x) → assigned_bits node xs ≤ assigned_bits node ys
assigned_more (Assign y rhs next) xs ys le = le y
assigned_more (Start next) xs ys le = omega arith
assigned_more (Skip next) xs ys le = omega arith
assigned_more (Print a next) xs ys le = omega arith
assigned_more (Guard test number next) xs ys le = omega arith
assigned_more (Call into unit operands next) xs ys le = omega arith
assigned_more (Test test taken other) xs ys le = omega arith
assigned_more (Return a) xs ys le = omega arith

-- each number of one list is at most that of the other
abbrev pub FewerEach : List ℕ → List ℕ → Type 0
FewerEach xs ys = (x : ℕ) → bits_at xs x ≤ bits_at ys x

-- of lists that are equally long, by the variables that they have
fewer_by : (xs ys : List ℕ) → ((x : ℕ) → x < length xs → bits_at xs x ≤ bits_at ys x) → FewerEach xs ys
fewer_by xs ys le x = elim (cases_lt x (length xs)) [
  | inl lt ↦ le x lt
  | inr ge ↦ omega (arith, get_or_past xs x 0 (omega (arith, ge)))
]

-- more behind a node, more before it
pub through_more : (graph : GraphShape) (asked : Asked) (back : Option Shift) (node : Node) (xs ys : List ℕ) → length xs ≡ length ys → FewerEach xs ys → FewerEach (bits_through graph asked back node xs) (bits_through graph asked back node ys)
through_more graph asked back node xs ys long le = fewer_by (bits_through graph asked back node xs) (bits_through graph asked back node ys) (λ x lt.
    let x_in : x < length xs = omega (arith, lt, through_long graph asked back node xs) in
    let first = through_is graph asked back node xs x x_in in
    let second = through_is graph asked back node ys x (omega (arith, x_in, long)) in
    let kept = kept_more (assigns graph x node) (bits_at xs x) (bits_at ys x) (le x) in
    let own = own_more back node (assigned_bits node xs) (assigned_bits node ys) x (assigned_more node xs ys le) in
    omega (arith, first, second, kept, own))

-- few numbers stay few
pub through_few : (graph : GraphShape) (asked : Asked) (back : Option Shift) (node : Node) (bits : List ℕ) → AsksFew asked → HasFew bits → HasFew (bits_through graph asked back node bits)
through_few graph asked back node bits asks few x = elim (cases_lt x (length bits)) [
  | inl lt ↦ omega (arith, through_is graph asked back node bits x lt, read_most graph asked node x asks, kept_most (assigns graph x node) (bits_at bits x) (few x), own_most back node (assigned_bits node bits) x (assigned_most node))
  | inr ge ↦ omega (arith, get_or_past (bits_through graph asked back node bits) x 0 (omega (arith, ge, through_long graph asked back node bits)))
]
  where
    kept_most : (b : Bool) (m : ℕ) → m ≤ 64 → (if b then 0 else m) ≤ 64
    kept_most true m le = omega arith
    kept_most false m le = le

    assigned_most : (node : Node) → assigned_bits node bits ≤ 64
    assigned_most (Assign y rhs next) = few y
    assigned_most (Start next) = omega arith
    assigned_most (Skip next) = omega arith
    assigned_most (Print a next) = omega arith
    assigned_most (Guard test number next) = omega arith
    assigned_most (Call into unit operands next) = omega arith
    assigned_most (Test test taken other) = omega arith
    assigned_most (Return a) = omega arith

-- ---- lists of nodes

-- where there may be no node
past_long : (graph : GraphShape) (asked : Asked) (back : Option Shift) (o : Option Node) (bits : List ℕ) → length (bits_past graph asked back o bits) ≡ length bits
past_long graph asked back None bits = refl
past_long graph asked back (Some node) bits = through_long graph asked back node bits

-- more behind it, more before it
past_more : (graph : GraphShape) (asked : Asked) (back : Option Shift) (o : Option Node) (xs ys : List ℕ) → length xs ≡ length ys → FewerEach xs ys → FewerEach (bits_past graph asked back o xs) (bits_past graph asked back o ys)
past_more graph asked back None xs ys long le = le
past_more graph asked back (Some node) xs ys long le = through_more graph asked back node xs ys long le

-- and few numbers stay few
past_few : (graph : GraphShape) (asked : Asked) (back : Option Shift) (o : Option Node) (bits : List ℕ) → AsksFew asked → HasFew bits → HasFew (bits_past graph asked back o bits)
past_few graph asked back None bits asks few = few
past_few graph asked back (Some node) bits asks few = through_few graph asked back node bits asks few

-- before a list the numbers are as many
pub list_long : (graph : GraphShape) (asked : Asked) (back : ℕ → Option Shift) (list bits : List ℕ) → length (before_list graph asked back list bits) ≡ length bits
list_long graph asked back [] bits = refl
list_long graph asked back (n ∷ list) bits = past_long graph asked (back n) (slice_get graph.nodes n) (before_list graph asked back list bits) ∙ list_long graph asked back list bits

-- more behind a list, more before it
pub list_more : (graph : GraphShape) (asked : Asked) (back : ℕ → Option Shift) (list xs ys : List ℕ) → length xs ≡ length ys → FewerEach xs ys → FewerEach (before_list graph asked back list xs) (before_list graph asked back list ys)
list_more graph asked back [] xs ys long le = le
list_more graph asked back (n ∷ list) xs ys long le =
    past_more graph asked (back n) (slice_get graph.nodes n) (before_list graph asked back list xs) (before_list graph asked back list ys)
    (list_long graph asked back list xs ∙ long ∙ sym (list_long graph asked back list ys)) (list_more graph asked back list xs ys long le)

-- few numbers stay few
pub list_few : (graph : GraphShape) (asked : Asked) (back : ℕ → Option Shift) (list bits : List ℕ) → AsksFew asked → HasFew bits → HasFew (before_list graph asked back list bits)
list_few graph asked back [] bits asks few = few
list_few graph asked back (n ∷ list) bits asks few = past_few graph asked (back n) (slice_get graph.nodes n) (before_list graph asked back list bits) asks (list_few graph asked back list bits asks few)
