-- What the nodes of a block do not touch passes through it as it is, and nothing else depends on it. For proofs, and the
-- ghost members of `WantedFlow`.
use Rattle.std.proofs.Common.{◌≡◌, inl, inr, ℕ, suc, ◌-◌, min, max, Bool, true, false, ◌||◌, if◌then◌else◌, nat_eq, eq-eqb, true≢false, List, [], ◌∷◌, ◌++◌, flat_map, length, slice_get, slice_set, Option, Some, None, refl, sym, ap, ◌∙◌, arith}
use Rattle.std.proofs.lemmas.Bool.{cases_lt, or_parts}
use Rattle.std.proofs.lemmas.List.{get_or-set_other, get_or_past}
use Rattle.mir_base.specs.declared.operators.UnOp.TheVariants.{Neg, Not}
use Rattle.mir_base.specs.declared.instructions.Operand.{Operand}
use Rattle.mir_base.specs.declared.instructions.Operand.TheVariants.{Var, Const}
use Rattle.mir_base.specs.declared.instructions.Rhs.{Rhs}
use Rattle.mir_base.specs.declared.instructions.Rhs.TheVariants.{Plain, Unary, Binary}
use Rattle.mir_base.specs.Frames.{shared_vars}
use Rattle.mir_base.specs.Shapes.{into_vars, operand_vars, rhs_vars, test_vars}
use Rattle.flow_graph.specs.declared.nodes.Node.{Node}
use Rattle.flow_graph.specs.declared.nodes.Node.TheVariants.{Start, Skip, Assign, Print, Guard, Call, Test, Return}
use Rattle.flow_graph.specs.Graphs.{GraphShape, assigns}
use Rattle.flow_graph.specs.Numbering.{is_in}
use Rattle.wanted_bits.specs.declared.picking.Shift.{Shift}
use Rattle.wanted_bits.specs.GlobalNumbers.{is_in_append}
use Rattle.wanted_bits.specs.Touching.{source_vars, touched_at, touched_in, touched_past, touched_vars}
use Rattle.wanted_bits.specs.Wanted.{Asked, if_any, is_undone, wanted_left, wanted_right}
use Rattle.wanted_bits.specs.Walking.{all_raised, all_set, among_raised, assigned_bits, before_list, bits_at, bits_past, bits_through, raised_at, raised_by, raised_own, raised_past, whole_width, with_none}
use Rattle.wanted_bits.specs.WalkLaws.{list_long, own_bits, read_bits, through_is, through_long}

-- ---- joined lists

-- what stands in neither
pub append_out : (k : ℕ) (xs ys : List ℕ) → is_in k (xs ++ ys) ≡ false → (is_in k xs ≡ false) × (is_in k ys ≡ false)
append_out k xs ys out = or_parts (is_in k xs) (is_in k ys) (sym (is_in_append k xs ys) ∙ out)

-- what stands in the first
pub append_left : (k : ℕ) (xs ys : List ℕ) → is_in k xs ≡ true → is_in k (xs ++ ys) ≡ true
append_left k xs ys on = is_in_append k xs ys ∙ ap (λ b. b || is_in k ys) on

-- and in the second
pub append_right : (k : ℕ) (xs ys : List ℕ) → is_in k ys ≡ true → is_in k (xs ++ ys) ≡ true
append_right k xs ys on = is_in_append k xs ys ∙ ap (λ b. is_in k xs || b) on ∙ or_true (is_in k xs)
  where
    or_true : (b : Bool) → (b || true) ≡ true
    or_true true = refl
    or_true false = refl

-- ---- what is not touched stays

-- where another number is set
pub set_apart : (bits : List ℕ) (y v k : ℕ) → nat_eq y k ≡ false → bits_at (slice_set bits y v) k ≡ bits_at bits k
set_apart bits y v k off = get_or-set_other bits y k v 0 (λ e. true≢false (sym (eq-eqb y k (sym e)) ∙ off))

-- where an operand is raised
by_apart : (bits : List ℕ) (a : Operand) (m k : ℕ) → is_in k (operand_vars a) ≡ false → bits_at (raised_by bits a m) k ≡ bits_at bits k
by_apart bits (Var y) m k out = set_apart bits y (max (bits_at bits y) m) k (or_parts (nat_eq y k) false out).0
by_apart bits (Const c) m k out = refl

-- those of a right side
own_apart : (bits : List ℕ) (rhs : Rhs) (m k : ℕ) → is_in k (rhs_vars rhs) ≡ false → bits_at (raised_own bits rhs m) k ≡ bits_at bits k
own_apart bits (Plain a) m k out = by_apart bits a m k out
own_apart bits (Unary Neg a) m k out = by_apart bits a m k out
own_apart bits (Unary Not a) m k out = by_apart bits a (if_any m 64) k out
own_apart bits (Binary op a b) m k out =
    let parts = append_out k (operand_vars a) (operand_vars b) out in
    by_apart (raised_by bits a (wanted_left op b m)) b (wanted_right op a m) k parts.1 ∙ by_apart bits a (wanted_left op b m) k parts.0

-- also where it shifts back
past_apart : (bits : List ℕ) (back : Option Shift) (rhs : Rhs) (m k : ℕ) → is_in k (rhs_vars rhs ++ source_vars back) ≡ false → bits_at (raised_past bits back rhs m) k ≡ bits_at bits k
past_apart bits None rhs m k out = own_apart bits rhs m k (append_out k (rhs_vars rhs) [] out).0
past_apart bits (Some shift) rhs m k out = by (is_undone shift m)
  where
    raised : List ℕ
    raised = raised_at bits shift.source (min m (64 - shift.distance))

    source : bits_at raised k ≡ bits_at bits k
    source = set_apart bits shift.source (max (bits_at bits shift.source) (min m (64 - shift.distance))) k (or_parts (nat_eq shift.source k) false (append_out k (rhs_vars rhs) (shift.source ∷ []) out).1).0

    by : (b : Bool) → bits_at (if b then raised else raised_own raised rhs m) k ≡ bits_at bits k
    by true = source
    by false = own_apart raised rhs m k (append_out k (rhs_vars rhs) (shift.source ∷ []) out).0 ∙ source

-- where several are raised
raised_apart : (widths : ℕ → ℕ) (xs bits : List ℕ) (k : ℕ) → is_in k xs ≡ false → bits_at (all_raised widths xs bits) k ≡ bits_at bits k
raised_apart widths [] bits k out = refl
raised_apart widths (x ∷ xs) bits k out =
    let parts = or_parts (nat_eq x k) (is_in k xs) out in
    raised_apart widths xs (raised_at bits x (widths x)) k parts.1 ∙ set_apart bits x (max (bits_at bits x) (widths x)) k parts.0

-- or set
all_apart : (widths : ℕ → ℕ) (xs bits : List ℕ) (k : ℕ) → is_in k xs ≡ false → bits_at (all_set widths xs bits) k ≡ bits_at bits k
all_apart widths [] bits k out = refl
all_apart widths (x ∷ xs) bits k out =
    let parts = or_parts (nat_eq x k) (is_in k xs) out in
    all_apart widths xs (slice_set bits x (widths x)) k parts.1 ∙ set_apart bits x (widths x) k parts.0

-- or arguments are raised
among_apart : (widths : ℕ → ℕ) (i : ℕ) (operands : List Operand) (bits : List ℕ) (k : ℕ) → is_in k (flat_map operand_vars operands) ≡ false → bits_at (among_raised widths i operands bits) k ≡ bits_at bits k
among_apart widths i [] bits k out = refl
among_apart widths i (a ∷ operands) bits k out =
    let parts = append_out k (operand_vars a) (flat_map operand_vars operands) out in
    among_apart widths (suc i) operands (raised_by bits a (widths i)) k parts.1 ∙ by_apart bits a (widths i) k parts.0

-- or the answer's variable is cleared
none_apart : (into : Option ℕ) (bits : List ℕ) (k : ℕ) → is_in k (into_vars into) ≡ false → bits_at (with_none into bits) k ≡ bits_at bits k
none_apart None bits k out = refl
none_apart (Some x) bits k out = set_apart bits x 0 k (or_parts (nat_eq x k) false out).0

-- through a node
through_apart : (graph : GraphShape) (asked : Asked) (back : Option Shift) (node : Node) (bits : List ℕ) (k : ℕ) → is_in k (touched_vars graph.shared back node) ≡ false
    → bits_at (bits_through graph asked back node bits) k ≡ bits_at bits k
through_apart graph asked back (Start next) bits k out = refl
through_apart graph asked back (Skip next) bits k out = refl
through_apart graph asked back (Assign y rhs next) bits k out =
    let parts = or_parts (nat_eq y k) (is_in k (rhs_vars rhs ++ source_vars back)) out in
    past_apart (slice_set bits y 0) back rhs (bits_at bits y) k parts.1 ∙ set_apart bits y 0 k parts.0
through_apart graph asked back (Print a next) bits k out = raised_apart whole_width (operand_vars a) bits k out
through_apart graph asked back (Guard test number next) bits k out = raised_apart whole_width (test_vars test) bits k out
through_apart graph asked back (Call into unit operands next) bits k out =
    let globals = append_out k (shared_vars graph.shared) (into_vars into ++ flat_map operand_vars operands) out in
    let rest = append_out k (into_vars into) (flat_map operand_vars operands) globals.1 in
    among_apart (asked.arguments unit) 0 operands (all_set (asked.globals unit) (shared_vars graph.shared) (with_none into bits)) k rest.1
    ∙ all_apart (asked.globals unit) (shared_vars graph.shared) (with_none into bits) k globals.0 ∙ none_apart into bits k rest.0
through_apart graph asked back (Test test taken other) bits k out = raised_apart whole_width (test_vars test) bits k out
through_apart graph asked back (Return a) bits k out =
    let parts = append_out k (shared_vars graph.shared) (operand_vars a) out in
    by_apart (all_raised asked.left (shared_vars graph.shared) bits) a asked.result k parts.1 ∙ raised_apart asked.left (shared_vars graph.shared) bits k parts.0

-- where there is one
at_apart : (graph : GraphShape) (asked : Asked) (back : Option Shift) (o : Option Node) (bits : List ℕ) (k : ℕ) → is_in k (touched_past graph.shared back o) ≡ false
    → bits_at (bits_past graph asked back o bits) k ≡ bits_at bits k
at_apart graph asked back None bits k out = refl
at_apart graph asked back (Some node) bits k out = through_apart graph asked back node bits k out

-- and through several
pub list_apart : (graph : GraphShape) (asked : Asked) (back : ℕ → Option Shift) (list bits : List ℕ) (k : ℕ) → is_in k (touched_in graph back list) ≡ false
    → bits_at (before_list graph asked back list bits) k ≡ bits_at bits k
list_apart graph asked back [] bits k out = refl
list_apart graph asked back (n ∷ list) bits k out =
    let parts = append_out k (touched_at graph back n) (touched_in graph back list) out in
    at_apart graph asked (back n) (slice_get graph.nodes n) (before_list graph asked back list bits) k parts.0 ∙ list_apart graph asked back list bits k parts.1

-- ---- what is alike behind is alike before

-- the number of what a node assigns, where those that it touches are alike
assigned_alike : (shared : ℕ) (back : Option Shift) (node : Node) (xs ys : List ℕ) → ((k : ℕ) → is_in k (touched_vars shared back node) ≡ true → bits_at xs k ≡ bits_at ys k)
    → assigned_bits node xs ≡ assigned_bits node ys
assigned_alike shared back (Assign y rhs next) xs ys each = each y (ap (λ b. b || is_in y (rhs_vars rhs ++ source_vars back)) (eq-eqb y y refl))
assigned_alike shared back (Start next) xs ys each = refl
assigned_alike shared back (Skip next) xs ys each = refl
assigned_alike shared back (Print a next) xs ys each = refl
assigned_alike shared back (Guard test number next) xs ys each = refl
assigned_alike shared back (Call into unit operands next) xs ys each = refl
assigned_alike shared back (Test test taken other) xs ys each = refl
assigned_alike shared back (Return a) xs ys each = refl

-- through a node
through_alike : (graph : GraphShape) (asked : Asked) (back : Option Shift) (node : Node) (xs ys : List ℕ) → length xs ≡ length ys
    → ((k : ℕ) → is_in k (touched_vars graph.shared back node) ≡ true → bits_at xs k ≡ bits_at ys k)
    → (k : ℕ) → bits_at xs k ≡ bits_at ys k → bits_at (bits_through graph asked back node xs) k ≡ bits_at (bits_through graph asked back node ys) k
through_alike graph asked back node xs ys long each k same = elim (cases_lt k (length xs)) [
  | inl lt ↦
      through_is graph asked back node xs k lt
      ∙ ap (λ (m : ℕ). max (read_bits graph asked node k) (max (if assigns graph k node then 0 else m) (own_bits back node (assigned_bits node xs) k))) same
      ∙ ap (λ (m : ℕ). max (read_bits graph asked node k) (max (if assigns graph k node then 0 else bits_at ys k) (own_bits back node m k))) (assigned_alike graph.shared back node xs ys each)
      ∙ sym (through_is graph asked back node ys k (omega (arith, lt, long)))
  | inr ge ↦
      get_or_past (bits_through graph asked back node xs) k 0 (omega (arith, ge, through_long graph asked back node xs))
      ∙ sym (get_or_past (bits_through graph asked back node ys) k 0 (omega (arith, ge, long, through_long graph asked back node ys)))
]

-- where there is one
at_alike : (graph : GraphShape) (asked : Asked) (back : Option Shift) (o : Option Node) (xs ys : List ℕ) → length xs ≡ length ys
    → ((k : ℕ) → is_in k (touched_past graph.shared back o) ≡ true → bits_at xs k ≡ bits_at ys k)
    → (k : ℕ) → bits_at xs k ≡ bits_at ys k → bits_at (bits_past graph asked back o xs) k ≡ bits_at (bits_past graph asked back o ys) k
at_alike graph asked back None xs ys long each k same = same
at_alike graph asked back (Some node) xs ys long each k same = through_alike graph asked back node xs ys long each k same

-- and through several
pub list_alike : (graph : GraphShape) (asked : Asked) (back : ℕ → Option Shift) (list xs ys : List ℕ) → length xs ≡ length ys
    → ((k : ℕ) → is_in k (touched_in graph back list) ≡ true → bits_at xs k ≡ bits_at ys k)
    → (k : ℕ) → bits_at xs k ≡ bits_at ys k → bits_at (before_list graph asked back list xs) k ≡ bits_at (before_list graph asked back list ys) k
list_alike graph asked back [] xs ys long each k same = same
list_alike graph asked back (n ∷ list) xs ys long each k same =
    let here = touched_at graph back n in
    let rest = list_alike graph asked back list xs ys long (λ j on. each j (append_right j here (touched_in graph back list) on)) in
    at_alike graph asked (back n) (slice_get graph.nodes n) (before_list graph asked back list xs) (before_list graph asked back list ys)
    (list_long graph asked back list xs ∙ long ∙ sym (list_long graph asked back list ys))
    (λ j on. rest j (each j (append_left j here (touched_in graph back list) on))) k (rest k same)
