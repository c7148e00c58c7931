-- The narrowed graph goes step by step with the graph: at one place, with values that agree on the bits that are wanted
-- there, where what it is handed and answered agrees on the bits that are asked for. For proofs only, of the crates above
-- too.
use Rattle.std.proofs.Common.{◌≡◌, ℕ, zero, suc, ◌+◌, ◌^◌, ◌<◌, ◌≤◌, Bool, true, false, if◌then◌else◌, ◌&&◌, ◌||◌, not, nat_eq, nat_lt, inl, inr, List, [], ◌∷◌, length, map, slice_get, ℤ, pos, ◌*ℤ◌, Option, Some, None, option_map, refl, sym, ap, ◌∙◌, subst, arith, true≢false, le_refl, eqb-true, eq-eqb, slice_index_or}
use Rattle.std.proofs.lemmas.Bool.{and_parts, cases_eq, cases_lt, lt-ltb, ltb-false, ltb-true, ne_eqb, not-true, or_parts, or_right}
use Rattle.std.proofs.lemmas.List.{length-map}
use Rattle.std.proofs.lemmas.List.FromFn.{get_or-map-range_with_len}
use Rattle.std.proofs.lemmas.Option.{slice_get-get_or, slice_get_within}
use Rattle.mir_base.specs.declared.instructions.Operand.{Operand}
use Rattle.mir_base.specs.declared.instructions.Operand.TheVariants.{Var, Const}
use Rattle.mir_base.specs.declared.instructions.Rhs.{Rhs}
use Rattle.mir_base.specs.declared.instructions.Rhs.TheVariants.{Plain, Unary, Binary}
use Rattle.mir_base.specs.declared.instructions.Test as tests
use Rattle.mir_base.specs.declared.operators.Op.TheVariants.{Shl}
use Rattle.mir_base.specs.declared.operators.Trap.TheVariants.{ZeroDivisor, Raised}
use Rattle.mir_base.specs.Frames.{Answer, CallEntry, Transition, Prints, Calls, Returns, first_frame, Values, shared_values, with_first, with_result, all_zero, with_value, Frame, resumed, Continues, Traps}
use Rattle.mir_base.specs.Units.{test_holds, at, assigned, guard_transition, operand_value}
use Rattle.mir_base.specs.Numbers.{wrapped}
use Rattle.mir_base.specs.Expressions.{divides, rhs_traps, rhs_value, rhs_count}
use Rattle.mir_base.specs.ExpressionLaws.{assign_is, never_traps_where_undivided}
use Rattle.mir_base.specs.EqualValues.{EqualOn, operand_equal, test_equal, with_other, with_same}
use Rattle.mir_base.specs.FrameLaws.{FrameFits, ValuesFit, argument_fits, operand_fits, operands_fit, with_first_fits, at_fits, first_fits, resumed_fits, rhs_fits, shared_values_fit, with_value_fits}
use Rattle.mir_base.specs.NumberLaws.{zero_fits}
use Rattle.mir_base.specs.Runs.{AreNumbers}
use Rattle.mir_base.specs.SharedLaws.{shared_long, with_first_other, with_first_same}
use Rattle.mir_base.specs.UnitRuns.{AreGlobals, IsCallAnswer, IsEntry}
use Rattle.flow_graph.specs.declared.nodes.Node.{Node}
use Rattle.flow_graph.specs.declared.nodes.Node.TheVariants.{Start, Skip, Assign, Print, Guard, Call, Test, Return}
use Rattle.flow_graph.specs.Graphs.{CanMake, GraphShape, assigns, node_reads, node_succs, succs_of}
use Rattle.flow_graph.specs.Machines.{received_from, node_transition, graph_code, machine_of}
use Rattle.flow_graph.specs.Numbering.{is_in}
use Rattle.wanted_bits.specs.Agreement.{AgreeBelow, low_bits}
use Rattle.wanted_bits.specs.AgreementLaws.{agree_equal, agree_lower}
use Rattle.wanted_bits.specs.declared.picking.Shift.{Shift}
use Rattle.wanted_bits.specs.Walking.{is_into}
use Rattle.wanted_bits.specs.Wanted.{AreShifts, AreWantedBy, Asked, IsShift, wanted_among, wanted_at, wanted_global, wanted_of, wanted_rhs}
use Rattle.wanted_bits.specs.Narrowed.{AreNarrowed, all_handed, goes, handed, is_itself, narrowed_assign, narrowed_node, narrowed_rhs}
use Rattle.wanted_bits.specs.NarrowedValues.{ShiftsHold, agree_none, narrowed_agrees, narrowed_count}

-- variables that are equal one by one
equal_on : (xs : List ℕ) (v w : Values) → ((x : ℕ) → is_in x xs ≡ true → v x ≡ w x) → EqualOn xs v w
equal_on [] v w each = tt
equal_on (x ∷ xs) v w each = (each x (ap (λ b. b || is_in x xs) (eq-eqb x x refl)), equal_on xs v w (λ y later. each y (or_right _ (is_in y xs) later)))

-- all values 0 are signed 64-bit numbers
zeros_fit : ValuesFit all_zero
zeros_fit = record { fit = λ x. zero_fits }

-- and so are those after Start
fits_received : (received : List ℕ) (arguments : List ℤ) (i : ℕ) (values : Values) → AreNumbers arguments → ValuesFit values → ValuesFit (received_from i received arguments values)
fits_received [] arguments i values numbers fits = fits
fits_received (x ∷ xs) arguments i values numbers fits =
    fits_received xs arguments (suc i) (with_value x (slice_index_or arguments i (pos 0)) values) numbers (with_value_fits x (slice_index_or arguments i (pos 0)) values (argument_fits arguments i numbers) fits)

-- for all arguments
fits_start : (received : List ℕ) (globals arguments : List ℤ) → AreNumbers globals → AreNumbers arguments → ValuesFit (received_from 0 received arguments (with_first globals all_zero))
fits_start received globals arguments are numbers = fits_received received arguments 0 (with_first globals all_zero) numbers (with_first_fits globals all_zero are zeros_fit)

-- a right side that is the variable
itself_is : (x : ℕ) (rhs : Rhs) → is_itself x rhs ≡ true → rhs ≡ Plain (Var x)
itself_is x (Plain (Var y)) is = ap (λ z. Plain (Var z)) (eqb-true y x is)
itself_is x (Plain (Const c)) is = absurd (true≢false (sym is))
itself_is x (Unary op a) is = absurd (true≢false (sym is))
itself_is x (Binary op a b) is = absurd (true≢false (sym is))

-- what a call hands over agrees on so many bits of each of the globals and of each argument
pub record EntriesAgree (shared : ℕ) (globals arguments : ℕ → ℕ) (e e' : CallEntry) : Type 0 where
  pub long : length e'.arguments ≡ length e.arguments
  pub numbers : AreNumbers e.arguments
  pub numbers' : AreNumbers e'.arguments
  pub globals_are : AreGlobals shared e.globals
  pub globals_are' : AreGlobals shared e'.globals
  pub on_globals : (x : ℕ) → x < shared
      → AgreeBelow (globals x) (slice_index_or e.globals x (pos 0))
      (slice_index_or e'.globals x (pos 0))
  pub on_arguments : (i : ℕ)
      → AgreeBelow (arguments i) (slice_index_or e.arguments i (pos 0))
      (slice_index_or e'.arguments i (pos 0))

-- and what a return hands back
pub record AnswersAgree (shared : ℕ) (left : ℕ → ℕ) (result : ℕ) (a a' : Answer) : Type 0 where
  pub is : IsCallAnswer shared a
  pub is' : IsCallAnswer shared a'
  pub on_result : AgreeBelow result a.value a'.value
  pub on_globals : (x : ℕ) → x < shared
      → AgreeBelow (left x) (slice_index_or a.globals x (pos 0))
      (slice_index_or a'.globals x (pos 0))

-- as far as a call takes it, whose answer goes to this variable, and behind which so many bits are wanted
pub record AnswersServe (shared : ℕ) (into : Option ℕ) (behind : ℕ → ℕ)
    (a a' : Answer) : Type 0 where
  pub on_result : (y : ℕ) → into ≡ Some y → AgreeBelow (behind y) a.value a'.value
  pub on_globals : (x : ℕ) → x < shared → is_into x into ≡ false
      → AgreeBelow (behind x) (slice_index_or a.globals x (pos 0))
      (slice_index_or a'.globals x (pos 0))

-- two transitions that show the same as far as it is asked for, the second evaluating no more operators, to frames that
-- are related by S
abbrev pub AlikeBy : Asked → ℕ → (ℕ → ℕ → ℕ) → (Frame → Frame → Type 0) → Transition → Transition
    → Type 0
AlikeBy asked shared wanted S (Continues n f) (Continues m g) = (m ≤ n) × S f g
AlikeBy asked shared wanted S (Prints v f) (Prints w g) = (v ≡ w) × S f g
AlikeBy asked shared wanted S (Calls unit entry into f) (Calls unit' entry' into' g) =
    (unit ≡ unit') × (into ≡ into')
    × EntriesAgree shared (asked.globals unit) (asked.arguments unit) entry entry'
    × ((a a' : Answer) → IsCallAnswer shared a → IsCallAnswer shared a'
    → AnswersServe shared into (wanted f.place) a a'
    → S (resumed into a f) (resumed into' a' g))
AlikeBy asked shared wanted S (Returns answer) (Returns answer') =
    AnswersAgree shared asked.left asked.result answer answer'
AlikeBy asked shared wanted S (Traps kind n) (Traps kind' m) = (kind ≡ kind') × (m ≤ n)
AlikeBy asked shared wanted S _ _ = ⊥

-- Both stand at one place, where the values agree on what is wanted, and the shifts hold; and before Start what is
-- received agrees on what is wanted of it
pub record Beside (nodes : List Node) (received : List ℕ) (shifts : ℕ → ℕ → Option Shift)
    (wanted : ℕ → ℕ → ℕ) (f g : Frame) : Type 0 where
  pub there : f.place < length nodes
  pub same : g.place ≡ f.place
  pub agree : (x : ℕ) → AgreeBelow (wanted f.place x) (f.values x) (g.values x)
  pub hold : ShiftsHold (shifts f.place) f.values
  pub first : f.place ≡ 0 → (i x : ℕ) → slice_get received i ≡ Some x
      → AgreeBelow (wanted 0 x) (slice_index_or f.arguments i (pos 0))
      (slice_index_or g.arguments i (pos 0))
  pub fits : FrameFits f
  pub fits' : FrameFits g

-- so does an operand of which so many bits are asked for
one_agrees : (v w : Values) (k : ℕ) (a : Operand) → ((x : ℕ) → AgreeBelow (wanted_of a k x) (v x) (w x)) → AgreeBelow k (operand_value v a) (operand_value w (handed k a))
one_agrees v w k a agree = by (nat_eq k 0) refl
  where
    itself : (a : Operand) → ((x : ℕ) → AgreeBelow (wanted_of a k x) (v x) (w x)) → AgreeBelow k (operand_value v a) (operand_value w a)
    itself (Const c) agree = refl
    itself (Var y) agree = subst (λ b. AgreeBelow (if b then k else 0) (v y) (w y)) (eq-eqb y y refl) (agree y)

    by : (b : Bool) → nat_eq k 0 ≡ b → AgreeBelow k (operand_value v a) (operand_value w (if b then Const (pos 0) else a))
    by true is = subst (λ n. AgreeBelow n (operand_value v a) (operand_value w (Const (pos 0)))) (sym (eqb-true k 0 is)) (agree_none (operand_value v a) (operand_value w (Const (pos 0))))
    by false is = itself a agree

-- as many arguments are handed over
pub handed_long : (widths : ℕ → ℕ) (i : ℕ) (operands : List Operand) → length (all_handed widths i operands) ≡ length operands
handed_long widths i [] = refl
handed_long widths i (a ∷ operands) = ap suc (handed_long widths (suc i) operands)

-- arguments that are handed over agree on what is asked for
handed_agree : (v w : Values) (widths : ℕ → ℕ) (i : ℕ) (operands : List Operand) → ((x : ℕ) → AgreeBelow (wanted_among widths i operands x) (v x) (w x)) → (j : ℕ)
    → AgreeBelow (widths (i + j)) (slice_index_or (map (operand_value v) operands) j (pos 0)) (slice_index_or (map (operand_value w) (all_handed widths i operands)) j (pos 0))
handed_agree v w widths i [] agree j = refl
handed_agree v w widths i (a ∷ operands) agree zero =
    let here : i ≡ i + 0 = omega arith in
    subst (λ k. AgreeBelow (widths k) (operand_value v a) (operand_value w (handed (widths i) a))) here
    (one_agrees v w (widths i) a (λ x. agree_lower (wanted_of a (widths i) x) (wanted_among widths i (a ∷ operands) x) (v x) (w x) (omega arith) (agree x)))
handed_agree v w widths i (a ∷ operands) agree (suc j) =
    let next : suc i + j ≡ i + suc j = omega arith in
    subst (λ k. AgreeBelow (widths k) (slice_index_or (map (operand_value v) operands) j (pos 0)) (slice_index_or (map (operand_value w) (all_handed widths (suc i) operands)) j (pos 0))) next
    (handed_agree v w widths (suc i) operands (λ x. agree_lower (wanted_among widths (suc i) operands x) (wanted_among widths i (a ∷ operands) x) (v x) (w x) (omega arith) (agree x)) j)

-- what received variables get agrees where the arguments do
received_agree : (widths : ℕ → ℕ) (received : List ℕ) (i : ℕ) (args args' : List ℤ) (v w : Values) → ((j x : ℕ) → slice_get received j ≡ Some x → AgreeBelow (widths x) (slice_index_or args (i + j) (pos 0)) (slice_index_or args' (i + j) (pos 0)))
    → ((x : ℕ) → AgreeBelow (widths x) (v x) (w x)) → (x : ℕ) → AgreeBelow (widths x) (received_from i received args v x) (received_from i received args' w x)
received_agree widths [] i args args' v w each agree x = agree x
received_agree widths (y ∷ received) i args args' v w each agree x =
    received_agree widths received (suc i) args args' (with_value y (slice_index_or args i (pos 0)) v) (with_value y (slice_index_or args' i (pos 0)) w)
    (λ j z at. let next : i + suc j ≡ suc i + j = omega arith in subst (λ k. AgreeBelow (widths z) (slice_index_or args k (pos 0)) (slice_index_or args' k (pos 0))) next (each (suc j) z at))
    (λ z. by z (nat_eq z y) refl) x
  where
    by : (z : ℕ) (b : Bool) → nat_eq z y ≡ b → AgreeBelow (widths z) (if b then slice_index_or args i (pos 0) else v z) (if b then slice_index_or args' i (pos 0) else w z)
    by z true is =
        let here : i + 0 ≡ i = omega arith in
        subst (λ t. AgreeBelow (widths t) (slice_index_or args i (pos 0)) (slice_index_or args' i (pos 0))) (sym (eqb-true z y is))
        (subst (λ k. AgreeBelow (widths y) (slice_index_or args k (pos 0)) (slice_index_or args' k (pos 0))) here (each 0 y refl))
    by z false is = agree z

module _ (asked : Asked) (graph : GraphShape) (can : CanMake graph.vars graph.received graph.nodes) (shifts : ℕ → ℕ → Option Shift) (wanted : ℕ → ℕ → ℕ) (are_shifts : AreShifts graph shifts) (are_wanted : AreWantedBy asked graph shifts wanted) where
  abbrev pub S : Frame → Frame → Type 0
  S = Beside graph.nodes graph.received shifts wanted

  module _ (f : Frame) (there : f.place < length graph.nodes) (w : Values) (args' : List ℤ) (agree : (x : ℕ) → AgreeBelow (wanted f.place x) (f.values x) (w x)) (hold : ShiftsHold (shifts f.place) f.values)
      (first : f.place ≡ 0 → (i x : ℕ) → slice_get graph.received i ≡ Some x → AgreeBelow (wanted 0 x) (slice_index_or f.arguments i (pos 0)) (slice_index_or args' i (pos 0)))
      (fits : FrameFits f) (fits' : ValuesFit w) (args_fit : AreNumbers args') where
    abbrev g : Frame
    g = record { place = f.place; arguments = args'; values = w }

    -- the next frames, one edge further
    onward : (node : Node) (slot s : ℕ) → slice_get graph.nodes f.place ≡ Some node → slice_get (node_succs node) slot ≡ Some s → (v' w' : Values)
        → ((x : ℕ) → AgreeBelow (wanted s x) (v' x) (w' x)) → ShiftsHold (shifts s) v' → ValuesFit v' → ValuesFit w'
        → S (record { place = s; arguments = f.arguments; values = v' }) (record { place = s; arguments = args'; values = w' })
    onward node slot s here leads v' w' agrees holds fits_v fits_w = record {
      there = (can.succs f.place slot s (ap (λ o. slice_get (succs_of o) slot) here ∙ leads)).1;
      same = refl;
      agree = agrees;
      hold = holds;
      first = λ zero. let low = (can.succs f.place slot s (ap (λ o. slice_get (succs_of o) slot) here ∙ leads)).0 in absurd (omega (arith, low, zero));
      fits = record { values = fits_v; arguments = fits.arguments };
      fits' = record { values = fits_w; arguments = args_fit };
    }

    -- the shifts hold behind a node that keeps what it does not assign
    holds_on : (node : Node) (slot s : ℕ) → slice_get graph.nodes f.place ≡ Some node → slice_get (node_succs node) slot ≡ Some s → (v' : Values)
        → ((x : ℕ) → assigns graph x node ≡ false → v' x ≡ f.values x) → ((t : ℕ) (shift : Shift) → IsShift t shift node → v' t ≡ wrapped (v' shift.source *ℤ pos (2 ^ shift.distance)))
        → ShiftsHold (shifts s) v'
    holds_on node slot s here leads v' keeps new t shift e = elim (are_shifts.arise f.place slot s t shift node (ap (λ o. slice_get (succs_of o) slot) here ∙ leads) here e) [
      | inl is ↦ new t shift is
      | inr old ↦ keeps t old.1 ∙ hold t shift old.0 ∙ ap (λ z. wrapped (z *ℤ pos (2 ^ shift.distance))) (sym (keeps shift.source old.2))
    ]

    -- where all values stay
    moves_on : (node : Node) (slot s : ℕ) → slice_get graph.nodes f.place ≡ Some node → slice_get (node_succs node) slot ≡ Some s
        → ((x : ℕ) → assigns graph x node ≡ false) → S (at s f) (at s g)
    moves_on node slot s here leads none =
        let edge = ap (λ o. slice_get (succs_of o) slot) here ∙ leads in
        onward node slot s here leads f.values w (λ x. agree_lower (wanted s x) (wanted f.place x) (f.values x) (w x) (are_wanted.behind f.place slot s x node here edge (none x)) (agree x))
        (holds_on node slot s here leads f.values (λ x off. refl) (λ t shift is. absurd (true≢false (sym (ap (assigns graph t) is.is ∙ eq-eqb t t refl) ∙ none t))))
        fits.values fits'

    -- what a node reads, but an assignment, has equal values
    reads_equal : (node : Node) → slice_get graph.nodes f.place ≡ Some node → ((x : ℕ) → wanted_at graph asked (shifts f.place) wanted node x ≡ (if is_in x (node_reads graph node) then 64 else 0))
        → EqualOn (node_reads graph node) f.values w
    reads_equal node here is = equal_on (node_reads graph node) f.values w (λ x within.
        let all : 64 ≡ wanted_at graph asked (shifts f.place) wanted node x = sym (is x ∙ ap (λ b. if b then 64 else 0) within) in
        let most = are_wanted.here f.place x node here in
        agree_equal (f.values x) (w x) (fits.values.fit x) (fits'.fit x) (agree_lower 64 (wanted f.place x) (f.values x) (w x) (omega (arith, all, most)) (agree x)))

    -- ---- assignments

    -- one that gives the variable values that agree
    sets_on : (x : ℕ) (rhs : Rhs) (next : ℕ) → slice_get graph.nodes f.place ≡ Some (Assign x rhs next) → (y : ℤ) (w' : Values)
        → AgreeBelow (wanted next x) (rhs_value f.values rhs) (w' x) → ((z : ℕ) → (z ≡ x → ⊥) → w' z ≡ w z) → ValuesFit w'
        → S (assigned x (rhs_value f.values rhs) next f) (record { place = next; arguments = args'; values = w' })
    sets_on x rhs next here y w' agrees others fit = onward (Assign x rhs next) 0 next here refl (with_value x (rhs_value f.values rhs) f.values) w' each holds
        (with_value_fits x (rhs_value f.values rhs) f.values (rhs_fits f.values rhs fits.values) fits.values) fit
      where
        new : Values
        new = with_value x (rhs_value f.values rhs) f.values

        each : (z : ℕ) → AgreeBelow (wanted next z) (with_value x (rhs_value f.values rhs) f.values z) (w' z)
        each z = elim (cases_eq z x) [
          | inl same ↦
              subst (λ u. AgreeBelow (wanted next u) (with_value x (rhs_value f.values rhs) f.values u) (w' u)) (sym same)
              (ap (low_bits (wanted next x)) (with_same x (rhs_value f.values rhs) f.values) ∙ agrees)
          | inr differ ↦
              ap (low_bits (wanted next z)) (with_other x z (rhs_value f.values rhs) f.values differ)
              ∙ agree_lower (wanted next z) (wanted f.place z) (f.values z) (w z)
              (are_wanted.behind f.place 0 next z (Assign x rhs next) here (ap (λ o. slice_get (succs_of o) 0) here) (ne_eqb z x differ)) (agree z)
              ∙ ap (low_bits (wanted next z)) (sym (others z differ))
        ]

        keeps : (z : ℕ) → nat_eq z x ≡ false → with_value x (rhs_value f.values rhs) f.values z ≡ f.values z
        keeps z off = ap (λ b. if b then rhs_value f.values rhs else f.values z) off

        shifted : (t : ℕ) (shift : Shift) → IsShift t shift (Assign x rhs next)
            → with_value x (rhs_value f.values rhs) f.values t ≡ wrapped (with_value x (rhs_value f.values rhs) f.values shift.source *ℤ pos (2 ^ shift.distance))
        shifted t shift is =
            let x_is : x ≡ t = cc (is.is) in
            let rhs_is : rhs ≡ Binary Shl (Var shift.source) (Const is.by) = cc (is.is) in
            ap (λ u. with_value x (rhs_value f.values rhs) f.values u) (sym x_is) ∙ with_same x (rhs_value f.values rhs) f.values
            ∙ ap (rhs_value f.values) rhs_is ∙ ap (λ d. wrapped (f.values shift.source *ℤ pos (2 ^ d))) (sym is.far)
            ∙ ap (λ z. wrapped (z *ℤ pos (2 ^ shift.distance))) (sym (with_other x shift.source (rhs_value f.values rhs) f.values (λ e. is.apart (e ∙ x_is))))

        holds : ShiftsHold (shifts next) (with_value x (rhs_value f.values rhs) f.values)
        holds = holds_on (Assign x rhs next) 0 next here refl (with_value x (rhs_value f.values rhs) f.values) keeps shifted

    -- what it reads agrees on what is wanted of it
    rhs_reads : (x : ℕ) (rhs : Rhs) (next : ℕ) → slice_get graph.nodes f.place ≡ Some (Assign x rhs next) → (z : ℕ) → AgreeBelow (wanted_rhs (shifts f.place) rhs (wanted next x) z) (f.values z) (w z)
    rhs_reads x rhs next here z = agree_lower (wanted_rhs (shifts f.place) rhs (wanted next x) z) (wanted f.place z) (f.values z) (w z) (are_wanted.here f.place z (Assign x rhs next) here) (agree z)

    assigned_alike : (x : ℕ) (rhs narrowed : Rhs) (next : ℕ) → slice_get graph.nodes f.place ≡ Some (Assign x rhs next) → (t t' : Bool) → t' ≡ t → rhs_count narrowed ≤ rhs_count rhs → AgreeBelow (wanted next x) (rhs_value f.values rhs) (rhs_value w narrowed)
        → AlikeBy asked graph.shared wanted S (if t then Traps ZeroDivisor 1 else Continues (rhs_count rhs) (assigned x (rhs_value f.values rhs) next f)) (if t' then Traps ZeroDivisor 1 else Continues (rhs_count narrowed) (assigned x (rhs_value w narrowed) next g))
    assigned_alike x rhs narrowed next here true true trap few value = (refl, le_refl 1)
    assigned_alike x rhs narrowed next here true false trap few value = absurd (true≢false (sym trap))
    assigned_alike x rhs narrowed next here false true trap few value = absurd (true≢false trap)
    assigned_alike x rhs narrowed next here false false trap few value = (
      few,
      sets_on x rhs next here (rhs_value w narrowed) (with_value x (rhs_value w narrowed) w) (value ∙ ap (low_bits (wanted next x)) (sym (with_same x (rhs_value w narrowed) w)))
          (λ z differ. with_other x z (rhs_value w narrowed) w differ) (with_value_fits x (rhs_value w narrowed) w (rhs_fits w narrowed fits') fits'),
    )

    -- one that goes, where its variable agrees without it
    removed_alike : (x : ℕ) (rhs : Rhs) (next : ℕ) → slice_get graph.nodes f.place ≡ Some (Assign x rhs next) → AgreeBelow (wanted next x) (rhs_value f.values rhs) (w x) → (t : Bool) → t ≡ false
        → AlikeBy asked graph.shared wanted S (if t then Traps ZeroDivisor 1 else Continues (rhs_count rhs) (assigned x (rhs_value f.values rhs) next f)) (Continues 0 (at next g))
    removed_alike x rhs next here value true trap = absurd (true≢false trap)
    removed_alike x rhs next here value false trap = (
      omega arith,
      sets_on x rhs next here (w x) w value (λ z differ. refl) fits',
    )

    -- since nothing of it is wanted, or since it becomes one of the variable itself
    gone_alike : (x : ℕ) (rhs : Rhs) (next : ℕ) → slice_get graph.nodes f.place ≡ Some (Assign x rhs next) → (b : Bool) → (nat_eq (wanted next x) 0 && not (divides rhs)) ≡ b → (b || is_itself x (narrowed_rhs (shifts f.place) rhs (wanted next x))) ≡ true
        → AlikeBy asked graph.shared wanted S (if rhs_traps f.values rhs then Traps ZeroDivisor 1 else Continues (rhs_count rhs) (assigned x (rhs_value f.values rhs) next f)) (Continues 0 (at next g))
    gone_alike x rhs next here true is gone =
        let parts = and_parts (nat_eq (wanted next x) 0) (not (divides rhs)) is in
        let none = eqb-true (wanted next x) 0 parts.0 in
        removed_alike x rhs next here (subst (λ k. AgreeBelow k (rhs_value f.values rhs) (w x)) (sym none) (agree_none (rhs_value f.values rhs) (w x))) (rhs_traps f.values rhs) (never_traps_where_undivided f.values rhs (not-true (divides rhs) parts.1))
    gone_alike x rhs next here false is gone =
        let narrowed = narrowed_rhs (shifts f.place) rhs (wanted next x) in
        let agrees = narrowed_agrees f.values w fits.values fits' (wanted next x) (are_wanted.most next x) (shifts f.place) rhs hold (rhs_reads x rhs next here) in
        let itself = itself_is x narrowed gone in
        removed_alike x rhs next here (agrees.0 ∙ ap (λ r. low_bits (wanted next x) (rhs_value w r)) itself) (rhs_traps f.values rhs) (sym agrees.1 ∙ ap (rhs_traps w) itself)

    assign_alike : (x : ℕ) (rhs : Rhs) (next : ℕ) → slice_get graph.nodes f.place ≡ Some (Assign x rhs next) → (b : Bool) → goes x rhs (narrowed_rhs (shifts f.place) rhs (wanted next x)) (wanted next x) ≡ b
        → AlikeBy asked graph.shared wanted S (if rhs_traps f.values rhs then Traps ZeroDivisor 1 else Continues (rhs_count rhs) (assigned x (rhs_value f.values rhs) next f))
        (node_transition graph.shared graph.received (Some (if b then Skip next else Assign x (narrowed_rhs (shifts f.place) rhs (wanted next x)) next)) g)
    assign_alike x rhs next here true is = gone_alike x rhs next here (nat_eq (wanted next x) 0 && not (divides rhs)) refl is
    assign_alike x rhs next here false is =
        let narrowed = narrowed_rhs (shifts f.place) rhs (wanted next x) in
        let agrees = narrowed_agrees f.values w fits.values fits' (wanted next x) (are_wanted.most next x) (shifts f.place) rhs hold (rhs_reads x rhs next here) in
        subst (AlikeBy asked graph.shared wanted S (if rhs_traps f.values rhs then Traps ZeroDivisor 1 else Continues (rhs_count rhs) (assigned x (rhs_value f.values rhs) next f))) (sym (assign_is x narrowed next g))
        (assigned_alike x rhs narrowed next here (rhs_traps f.values rhs) (rhs_traps w narrowed) agrees.1 (narrowed_count (shifts f.place) rhs (wanted next x)) agrees.0)

    -- ---- calls

    -- what a call does not assign stays
    call_keeps : (into : Option ℕ) (unit : ℕ) (operands : List Operand) (next : ℕ) (a : Answer) (v : Values) (x : ℕ) → length a.globals ≡ graph.shared → assigns graph x (Call into unit operands next) ≡ false
        → with_result into a.value (with_first a.globals v) x ≡ v x
    call_keeps None unit operands next a v x long off = let past = ltb-false x graph.shared off in with_first_other a.globals v x (omega (arith, past, long))
    call_keeps (Some y) unit operands next a v x long off =
        let parts = or_parts (nat_lt x graph.shared) (nat_eq x y) off in
        let past = ltb-false x graph.shared parts.0 in
        ap (λ b. if b then a.value else with_first a.globals v x) parts.1 ∙ with_first_other a.globals v x (omega (arith, past, long))

    -- a global is what is handed back
    global_is : (a : Answer) (v : Values) (x : ℕ) → length a.globals ≡ graph.shared → x < graph.shared → with_first a.globals v x ≡ slice_index_or a.globals x (pos 0)
    global_is a v x long low = with_first_same a.globals v all_zero x (omega (arith, low, long))

    -- and what it assigns agrees where the answers do
    call_sets : (into : Option ℕ) (unit : ℕ) (operands : List Operand) (next : ℕ) (a a' : Answer) (x : ℕ) → length a.globals ≡ graph.shared → length a'.globals ≡ graph.shared → AnswersServe graph.shared into (wanted next) a a' → assigns graph x (Call into unit operands next) ≡ true
        → AgreeBelow (wanted next x) (with_result into a.value (with_first a.globals f.values) x) (with_result into a'.value (with_first a'.globals w) x)
    call_sets None unit operands next a a' x long long' serve on =
        let low = ltb-true x graph.shared on in
        ap (low_bits (wanted next x)) (global_is a f.values x long low) ∙ serve.on_globals x low refl ∙ ap (low_bits (wanted next x)) (sym (global_is a' w x long' low))
    call_sets (Some y) unit operands next a a' x long long' serve on = by (nat_eq x y) (nat_lt x graph.shared) refl refl on
      where
        by : (b c : Bool) → nat_eq x y ≡ b → nat_lt x graph.shared ≡ c → (c || b) ≡ true → AgreeBelow (wanted next x) (if b then a.value else with_first a.globals f.values x) (if b then a'.value else with_first a'.globals w x)
        by true c here is on = serve.on_result x (ap Some (sym (eqb-true x y here)))
        by false true here is on =
            let low = ltb-true x graph.shared is in
            ap (low_bits (wanted next x)) (global_is a f.values x long low) ∙ serve.on_globals x low here ∙ ap (low_bits (wanted next x)) (sym (global_is a' w x long' low))
        by false false here is on = absurd (true≢false (sym on))

    resumes_on : (into : Option ℕ) (unit : ℕ) (operands : List Operand) (next : ℕ) (a a' : Answer) → IsCallAnswer graph.shared a → IsCallAnswer graph.shared a' → AnswersServe graph.shared into (wanted next) a a' → slice_get graph.nodes f.place ≡ Some (Call into unit operands next)
        → S (resumed into a (at next f)) (resumed into a' (at next g))
    resumes_on into unit operands next a a' is is' serve here =
        onward (Call into unit operands next) 0 next here refl (with_result into a.value (with_first a.globals f.values)) (with_result into a'.value (with_first a'.globals w)) each
        (holds_on (Call into unit operands next) 0 next here refl (with_result into a.value (with_first a.globals f.values)) (λ x off. call_keeps into unit operands next a f.values x is.globals.long off) (λ t shift no. absurd (let e = no.is in cc)))
        (resumed_fits graph.shared into a (at next f) is (at_fits next f fits)).values
        (resumed_fits graph.shared into a' (at next g) is' (at_fits next g (record { values = fits'; arguments = args_fit }))).values
      where
        each : (x : ℕ) → AgreeBelow (wanted next x) (with_result into a.value (with_first a.globals f.values) x) (with_result into a'.value (with_first a'.globals w) x)
        each x = by (assigns graph x (Call into unit operands next)) refl
          where
            by : (b : Bool) → assigns graph x (Call into unit operands next) ≡ b → AgreeBelow (wanted next x) (with_result into a.value (with_first a.globals f.values) x) (with_result into a'.value (with_first a'.globals w) x)
            by true on = call_sets into unit operands next a a' x is.globals.long is'.globals.long serve on
            by false off =
                ap (low_bits (wanted next x)) (call_keeps into unit operands next a f.values x is.globals.long off)
                ∙ agree_lower (wanted next x) (wanted f.place x) (f.values x) (w x) (are_wanted.behind f.place 0 next x (Call into unit operands next) here (ap (λ o. slice_get (succs_of o) 0) here) off) (agree x)
                ∙ ap (low_bits (wanted next x)) (sym (call_keeps into unit operands next a' w x is'.globals.long off))

    -- the globals that are handed over
    shared_at : (v : Values) (x : ℕ) → x < graph.shared → slice_index_or (shared_values graph.shared v) x (pos 0) ≡ v x
    shared_at v x low = get_or-map-range_with_len v 0 graph.shared x x (pos 0) low (omega arith)

    -- agree where their values do
    globals_agree : (widths : ℕ → ℕ) → ((x : ℕ) → x < graph.shared → AgreeBelow (widths x) (f.values x) (w x)) → (x : ℕ) → x < graph.shared → AgreeBelow (widths x) (slice_index_or (shared_values graph.shared f.values) x (pos 0)) (slice_index_or (shared_values graph.shared w) x (pos 0))
    globals_agree widths each x low = ap (low_bits (widths x)) (shared_at f.values x low) ∙ each x low ∙ ap (low_bits (widths x)) (sym (shared_at w x low))

    -- of a global as many bits are wanted as are asked for
    global_width : (widths : ℕ → ℕ) (x : ℕ) → x < graph.shared → wanted_global graph.shared widths x ≡ widths x
    global_width widths x low = ap (λ b. if b then widths x else 0) (lt-ltb x graph.shared low)

    -- ---- the other nodes

    -- a trap is raised on both sides
    guard_alike : (number next : ℕ) → S (at next f) (at next g) → (b : Bool) → AlikeBy asked graph.shared wanted S (if b then Traps (Raised number) 0 else Continues 0 (at next f)) (if b then Traps (Raised number) 0 else Continues 0 (at next g))
    guard_alike number next on true = (refl, le_refl 0)
    guard_alike number next on false = (le_refl 0, on)

    -- a test takes the same way
    test_alike : (test : tests.Test) (taken other : ℕ) → slice_get graph.nodes f.place ≡ Some (Test test taken other) → (b : Bool) → S (at (if b then taken else other) f) (at (if b then taken else other) g)
    test_alike test taken other here true = moves_on (Test test taken other) 0 taken here refl (λ x. refl)
    test_alike test taken other here false = moves_on (Test test taken other) 1 other here refl (λ x. refl)

    -- what Start gives the variables
    start_alike : (next : ℕ) → slice_get graph.nodes f.place ≡ Some (Start next) → (v' w' : Values) → ((x : ℕ) → AgreeBelow (wanted next x) (v' x) (w' x)) → ValuesFit v' → ValuesFit w' → S (record { place = next; arguments = f.arguments; values = v' }) (record { place = next; arguments = args'; values = w' })
    start_alike next here v' w' agrees fit fit' = onward (Start next) 0 next here refl v' w' agrees none fit fit'
      where
        none : ShiftsHold (shifts next) v'
        none t shift e = elim (are_shifts.arise f.place 0 next t shift (Start next) (ap (λ o. slice_get (succs_of o) 0) here) here e) [
          | inl is ↦ absurd (let e = is.is in cc)
          | inr old ↦
              let at_zero : f.place ≡ 0 = can.only f.place next here in
              let nothing : None ≡ Some shift = sym (are_shifts.start t) ∙ ap (λ n. shifts n t) (sym at_zero) ∙ old.0 in
              absurd (cc)
        ]

    -- the globals and zeros agree before what is received
    zeros_agree : (next : ℕ) → slice_get graph.nodes f.place ≡ Some (Start next) → (x : ℕ) → AgreeBelow (wanted f.place x) (with_first (shared_values graph.shared f.values) all_zero x) (with_first (shared_values graph.shared w) all_zero x)
    zeros_agree next here x = elim (cases_lt x graph.shared) [
      | inl low ↦
          (let first_f : with_first (shared_values graph.shared f.values) all_zero x ≡ f.values x = shared_at f.values x low in
          let first_w : with_first (shared_values graph.shared w) all_zero x ≡ w x = shared_at w x low in
          ap (low_bits (wanted f.place x)) first_f ∙ agree x ∙ ap (low_bits (wanted f.place x)) (sym first_w))
      | inr past ↦
          ap (low_bits (wanted f.place x)) (with_first_other (shared_values graph.shared f.values) all_zero x (omega (arith, past, shared_long graph.shared f.values)) ∙ sym (with_first_other (shared_values graph.shared w) all_zero x (omega (arith, past, shared_long graph.shared w))))
    ]

    -- and so do the values that Start gives
    started_agree : (next : ℕ) → slice_get graph.nodes f.place ≡ Some (Start next) → (x : ℕ)
        → AgreeBelow (wanted next x) (received_from 0 graph.received f.arguments (with_first (shared_values graph.shared f.values) all_zero) x) (received_from 0 graph.received args' (with_first (shared_values graph.shared w) all_zero) x)
    started_agree next here x =
        let at_zero = can.only f.place next here in
        agree_lower (wanted next x) (wanted f.place x) _ _ (are_wanted.behind f.place 0 next x (Start next) here (ap (λ o. slice_get (succs_of o) 0) here) refl)
        (received_agree (wanted f.place) graph.received 0 f.arguments args' (with_first (shared_values graph.shared f.values) all_zero) (with_first (shared_values graph.shared w) all_zero)
        (λ j y at. let none : j ≡ 0 + j = omega arith in subst (λ k. AgreeBelow (wanted f.place y) (slice_index_or f.arguments k (pos 0)) (slice_index_or args' k (pos 0))) none (subst (λ n. AgreeBelow (wanted n y) (slice_index_or f.arguments j (pos 0)) (slice_index_or args' j (pos 0))) (sym at_zero) (first at_zero j y at)))
        (zeros_agree next here) x)

    at_node : (node : Node) → slice_get graph.nodes f.place ≡ Some node → AlikeBy asked graph.shared wanted S (node_transition graph.shared graph.received (Some node) f) (node_transition graph.shared graph.received (Some (narrowed_node asked (shifts f.place) wanted node)) g)
    at_node (Start next) here = (
      le_refl 0,
      start_alike next here (received_from 0 graph.received f.arguments (with_first (shared_values graph.shared f.values) all_zero)) (received_from 0 graph.received args' (with_first (shared_values graph.shared w) all_zero)) (started_agree next here)
          (fits_start graph.received (shared_values graph.shared f.values) f.arguments (shared_values_fit graph.shared f.values fits.values).numbers fits.arguments)
          (fits_start graph.received (shared_values graph.shared w) args' (shared_values_fit graph.shared w fits').numbers args_fit),
    )
    at_node (Skip next) here = (le_refl 0, moves_on (Skip next) 0 next here refl (λ x. refl))
    at_node (Assign x rhs next) here =
        subst (λ t. AlikeBy asked graph.shared wanted S t (node_transition graph.shared graph.received (Some (narrowed_assign (shifts f.place) x rhs next (wanted next x))) g)) (sym (assign_is x rhs next f))
        (assign_alike x rhs next here (goes x rhs (narrowed_rhs (shifts f.place) rhs (wanted next x)) (wanted next x)) refl)
    at_node (Print a next) here = (operand_equal f.values w a (reads_equal (Print a next) here (λ x. refl)), moves_on (Print a next) 0 next here refl (λ x. refl))
    at_node (Guard test number next) here =
        subst (λ b. AlikeBy asked graph.shared wanted S (guard_transition test number next f) (if b then Traps (Raised number) 0 else Continues 0 (at next g))) (test_equal f.values w test (reads_equal (Guard test number next) here (λ x. refl)))
        (guard_alike number next (moves_on (Guard test number next) 0 next here refl (λ x. refl)) (test_holds f.values test))
    at_node (Call into unit operands next) here =
        let most = λ (x : ℕ). are_wanted.here f.place x (Call into unit operands next) here in (
          refl,
          refl,
          record {
            long = length-map (all_handed (asked.arguments unit) 0 operands) (operand_value w) ∙ handed_long (asked.arguments unit) 0 operands ∙ sym (length-map operands (operand_value f.values));
            numbers = operands_fit f.values operands fits.values;
            numbers' = operands_fit w (all_handed (asked.arguments unit) 0 operands) fits';
            globals_are = shared_values_fit graph.shared f.values fits.values;
            globals_are' = shared_values_fit graph.shared w fits';
            on_globals = globals_agree (asked.globals unit) (λ x low. agree_lower (asked.globals unit x) (wanted f.place x) (f.values x) (w x) (omega (arith, most x, global_width (asked.globals unit) x low)) (agree x));
            on_arguments = λ i.
                let none : 0 + i ≡ i = omega arith in
                subst (λ k. AgreeBelow (asked.arguments unit k) (slice_index_or (map (operand_value f.values) operands) i (pos 0)) (slice_index_or (map (operand_value w) (all_handed (asked.arguments unit) 0 operands)) i (pos 0))) none
                (handed_agree f.values w (asked.arguments unit) 0 operands (λ x. agree_lower (wanted_among (asked.arguments unit) 0 operands x) (wanted f.place x) (f.values x) (w x) (omega (arith, most x)) (agree x)) i);
          },
          λ a a' is is' serve. resumes_on into unit operands next a a' is is' serve here,
        )
    at_node (Test test taken other) here = (
      le_refl 0,
      subst (λ b. S (at (if test_holds f.values test then taken else other) f) (at (if b then taken else other) g)) (test_equal f.values w test (reads_equal (Test test taken other) here (λ x. refl))) (test_alike test taken other here (test_holds f.values test)),
    )
    at_node (Return a) here =
        let most = λ (x : ℕ). are_wanted.here f.place x (Return a) here in
        record {
          is = record { number = operand_fits f.values a fits.values; globals = shared_values_fit graph.shared f.values fits.values };
          is' = record { number = operand_fits w (handed asked.result a) fits'; globals = shared_values_fit graph.shared w fits' };
          on_result = one_agrees f.values w asked.result a (λ x. agree_lower (wanted_of a asked.result x) (wanted f.place x) (f.values x) (w x) (omega (arith, most x)) (agree x));
          on_globals = globals_agree asked.left (λ x low. agree_lower (asked.left x) (wanted f.place x) (f.values x) (w x) (omega (arith, most x, global_width asked.left x low)) (agree x));
        }

    at_place : (o : Option Node) → slice_get graph.nodes f.place ≡ o → AlikeBy asked graph.shared wanted S (node_transition graph.shared graph.received o f) (node_transition graph.shared graph.received (option_map (narrowed_node asked (shifts f.place) wanted) o) g)
    at_place None here = let is = slice_get-get_or graph.nodes f.place (Skip 0) there in absurd (cc)
    at_place (Some node) here = at_node node here

-- ---- the two machines

-- from frames that stand beside one another the two do alike
pub narrowed_steps : (asked : Asked) (graph : GraphShape) → CanMake graph.vars graph.received graph.nodes → (nodes : List Node) (are : AreNarrowed asked graph nodes) (f g : Frame) → Beside graph.nodes graph.received are.shifts are.wanted f g
    → AlikeBy asked graph.shared are.wanted (Beside graph.nodes graph.received are.shifts are.wanted) (graph_code graph.shared graph.received graph.nodes f) (graph_code graph.shared graph.received nodes g)
narrowed_steps asked graph can nodes are f g r =
    let T : Frame → Frame → Type 0 = Beside graph.nodes graph.received are.shifts are.wanted in
    let g' : Frame = record { place = f.place; arguments = g.arguments; values = g.values } in
    let alike = at_place asked graph can are.shifts are.wanted are.shifts_hold are.are_wanted f r.there g.values g.arguments r.agree r.hold r.first r.fits r.fits'.values r.fits'.arguments (slice_get graph.nodes f.place) refl in
    let there = subst (λ o. AlikeBy asked graph.shared are.wanted T (graph_code graph.shared graph.received graph.nodes f) (node_transition graph.shared graph.received o g')) (sym (are.nodes_are f.place)) alike in
    subst (λ p. AlikeBy asked graph.shared are.wanted T (graph_code graph.shared graph.received graph.nodes f) (graph_code graph.shared graph.received nodes (record { place = p; arguments = g.arguments; values = g.values }))) (sym r.same) there

-- frames that are entered so stand beside one another, where as many bits are handed over as are wanted at the start
pub entered_beside : (graph : GraphShape) → CanMake graph.vars graph.received graph.nodes → (shifts : ℕ → ℕ → Option Shift) (wanted : ℕ → ℕ → ℕ) → AreShifts graph shifts → (globals arguments : ℕ → ℕ) → ((x : ℕ) → x < graph.shared → wanted 0 x ≤ globals x)
    → ((i x : ℕ) → slice_get graph.received i ≡ Some x → wanted 0 x ≤ arguments i) → (e e' : CallEntry) → IsEntry (machine_of graph) e → IsEntry (machine_of graph) e' → EntriesAgree graph.shared globals arguments e e' → Beside graph.nodes graph.received shifts wanted (first_frame e) (first_frame e')
entered_beside graph can shifts wanted are_shifts globals arguments enough enough' e e' is is' agree = record {
  there = slice_get_within graph.nodes 0 (Start can.start.0) can.start.1;
  same = refl;
  agree = λ x. elim (cases_lt x graph.shared) [
    | inl low ↦
        ap (low_bits (wanted 0 x)) (with_first_same e.globals all_zero all_zero x (omega (arith, low, is.globals.long)))
        ∙ agree_lower (wanted 0 x) (globals x) (slice_index_or e.globals x (pos 0)) (slice_index_or e'.globals x (pos 0)) (enough x low) (agree.on_globals x low)
    | inr past ↦ ap (low_bits (wanted 0 x)) (with_first_other e.globals all_zero x (omega (arith, past, is.globals.long)) ∙ sym (with_first_other e'.globals all_zero x (omega (arith, past, is'.globals.long))))
  ];
  hold = λ t shift e. absurd (let none = are_shifts.start t in cc);
  first = λ zero i x at. agree_lower (wanted 0 x) (arguments i) (slice_index_or e.arguments i (pos 0)) (slice_index_or e'.arguments i (pos 0)) (enough' i x at) (agree.on_arguments i);
  fits = first_fits e is.numbers is.globals.numbers;
  fits' = first_fits e' is'.numbers is'.globals.numbers;
}
