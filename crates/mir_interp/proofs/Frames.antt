-- What writes, pushes and cuts of the list of values do to the frames that it holds.
use Rattle.std.proofs.Common.{◌≡◌, ℕ, ◌+◌, ◌-◌, ◌<◌, ◌≤◌, inl, inr, List, [], ◌∷◌, ◌++◌, length, take, drop, reverse, get_or, set, ℤ, pos, Option, None, Some, length-take, refl, sym, ap, ◌∙◌, arith, subst, append_assoc, zero, suc, length-drop, length-set}
use Rattle.std.specs.Prelude.{replicate}
use Rattle.std.proofs.Math.Path.{fun_ext}
use Rattle.std.proofs.lemmas.Grind.{common_steps}
use Rattle.std.proofs.lemmas.List.{take-set-le, drop-set-add, reverse-append, length-reverse, get_or-drop, get_or-take, get_or_append_left, get_or_past, ext_get_or, length-take-le, take-take}
use Rattle.std.proofs.Math.Seq.{take-append_seam, drop-append_seam}
use Rattle.mir_base.specs.Frames.{Values, Answer, Frame as FrameState, first_frame, all_zero, with_value, with_first, shared_values, resumed}
use Rattle.mir_base.specs.SharedLaws.{shared_equal, shared_long, with_first_other}
use Rattle.std.proofs.lemmas.Bool.{cases_lt}
use Rattle.std.proofs.lemmas.List.FromFn.{get_or-map-range_with_len, map-range_with_len_more}
use Rattle.mir_base.specs.Units.{assigned}
use Rattle.mir_base.specs.Runs.{Caller as CallerState, Running, first_entry, returned}
use Rattle.mir_interp.specs.declared.stack.Frame.{Frame}
use Rattle.mir_interp.specs.declared.stack.Caller.{Caller}
use Rattle.mir_interp.specs.declared.stack.Stack.{Stack}
use Rattle.mir_interp.specs.RunsSoFar.{values_of, frame_of, callers_of, waiting, vars_at, running_vars, IsFrame, IsStack, AreCallers, AreCopiedWithin}
use Rattle.mir_base.specs.Shapes.{ProgramShape, AllBelow, into_vars}

-- the frame of these
abbrev frame_state : ℕ → List ℤ → Values → FrameState
frame_state place arguments values = record { place = place; arguments = arguments; values = values }

-- a run stands the same with equal frames
pub running_same : (unit : ℕ) (f g : FrameState) (cs ds : List CallerState) → f ≡ g → cs ≡ ds → Running unit f cs ≡ Running unit g ds
running_same unit f g cs ds same_frame same_callers = cc

-- frames at one place with equal variables are equal
frame_same : (place : ℕ) (xs ys : List ℤ) (f g : Values) → xs ≡ ys → f ≡ g → frame_state place xs f ≡ frame_state place ys g
frame_same place xs ys f g same_arguments same_values = cc

-- ---- writes

-- a variable read after a write: the written one, or as before
set_value : (values : List ℤ) (x : ℕ) (v : ℤ) (y : ℕ) → x < length values → values_of (set values x v) y ≡ with_value x v (values_of values) y
set_value values x v y low = grind (arith, common_steps)

-- the same for all variables at once
set_values : (values : List ℤ) (x : ℕ) (v : ℤ) → x < length values → values_of (set values x v) ≡ with_value x v (values_of values)
set_values values x v low = fun_ext (λ y. set_value values x v y low)

-- a write to a variable of the last frame
pub assigned_is : (values : List ℤ) (frame : Frame) (x place : ℕ) (v : ℤ) → frame.variables + x < length values → frame_of (set values (frame.variables + x) v) (record frame { place = place }) ≡ assigned x v place (frame_of values frame)
assigned_is values frame x place v low =
    let written : take frame.variables (set values (frame.variables + x) v) ≡ take frame.variables values = take-set-le frame.variables values (frame.variables + x) v (omega arith) in
    let there : x < length (drop frame.variables values) = omega (arith, length-drop frame.variables values) in
    frame_same place _ _ _ _ (ap (drop frame.arguments) written) (ap values_of (drop-set-add frame.variables values x v) ∙ set_values (drop frame.variables values) x v there)

-- ---- pushes

-- the arguments lie between the variables of the caller and the zeros
arguments_of : (values arguments zeros : List ℤ) → drop (length values) (take (length (values ++ arguments)) ((values ++ arguments) ++ zeros)) ≡ arguments
arguments_of values arguments zeros = ap (drop (length values)) (take-append_seam (values ++ arguments) zeros) ∙ drop-append_seam values arguments

-- no item of a list of zeros is anything else, nor is what lies past it
zero_at : (n x : ℕ) → get_or (replicate n (pos 0)) x (pos 0) ≡ pos 0
zero_at zero x = refl
zero_at (suc n) zero = refl
zero_at (suc n) (suc x) = zero_at n x

-- so a list of zeros is the variables of a new frame
zeros_are : (n : ℕ) → values_of (replicate n (pos 0)) ≡ all_zero
zeros_are n = fun_ext (λ x. zero_at n x)

-- globals that are 0 are no other values than 0
pub started : (n shared : ℕ) → values_of (replicate n (pos 0)) ≡ with_first (replicate shared (pos 0)) all_zero
started n shared = fun_ext (λ x. zero_at n x ∙ sym (zero_at shared x))

-- the values of a new frame begin with the globals
front_at : (globals : List ℤ) (n x : ℕ) → get_or (globals ++ replicate n (pos 0)) x (pos 0) ≡ get_or globals x (pos 0)
front_at [] n x = zero_at n x
front_at (z ∷ globals) n zero = refl
front_at (z ∷ globals) n (suc x) = front_at globals n x

-- which stand after those of the caller
fresh_values : (values globals : List ℤ) (n : ℕ) → values_of (drop (length values) (values ++ (globals ++ replicate n (pos 0)))) ≡ with_first globals all_zero
fresh_values values globals n = ap values_of (drop-append_seam values (globals ++ replicate n (pos 0))) ∙ fun_ext (λ x. front_at globals n x)

-- the frame that a run begins with
pub started_frame : (inputs read pushed : List ℤ) (n shared first : ℕ) (callers : List Caller) → read ≡ inputs → pushed ≡ read ++ replicate n (pos 0) → first ≡ length inputs → callers ≡ []
    → Running 0 (frame_of pushed (record { unit = 0; place = 0; arguments = 0; variables = first })) (callers_of (take 0 pushed) (reverse callers)) ≡ Running 0 (first_frame (first_entry shared inputs)) []
started_frame inputs read pushed n shared first callers is_read is_pushed is_first is_callers =
    let own : take first pushed ≡ inputs = rw (is_pushed, is_first, is_read) (take-append_seam inputs (replicate n (pos 0))) in
    let fresh : values_of (drop first pushed) ≡ values_of (replicate n (pos 0)) = rw (is_pushed, is_first, is_read) (ap values_of (drop-append_seam inputs (replicate n (pos 0)))) in
    running_same 0 _ _ _ _ (frame_same 0 _ _ _ _ own (fresh ∙ started n shared)) (ap (λ cs. callers_of (take 0 pushed) (reverse cs)) is_callers)

-- one more global is pushed
pub pushed_global : (initial old new : List ℤ) (from x shared : ℕ) (v : ℤ) → from + shared ≤ length initial → x < shared → old ≡ initial ++ shared_values x (values_of (drop from initial)) → v ≡ get_or old (from + x) (pos 0)
    → new ≡ old ++ v ∷ [] → new ≡ initial ++ shared_values (x + 1) (values_of (drop from initial))
pushed_global initial old new from x shared v enough low is_old is_v is_new =
    let here : v ≡ values_of (drop from initial) x =
    is_v ∙ ap (λ vs. get_or vs (from + x) (pos 0)) is_old ∙ get_or_append_left initial (shared_values x (values_of (drop from initial))) (pos 0) (from + x) (omega (arith, enough, low)) ∙ sym (get_or-drop from initial x (pos 0)) in
    is_new ∙ ap (λ vs. vs ++ v ∷ []) is_old ∙ append_assoc initial (shared_values x (values_of (drop from initial))) (v ∷ [])
    ∙ ap (λ vs. initial ++ vs) (ap (λ u. shared_values x (values_of (drop from initial)) ++ u ∷ []) here ∙ sym (map-range_with_len_more (values_of (drop from initial)) 0 x x (omega arith)))

-- what is pushed behind the variables leaves the globals
globals_kept : (values more : List ℤ) (from shared : ℕ) → from + shared ≤ length values → shared_values shared (values_of (drop from (values ++ more))) ≡ shared_values shared (values_of (drop from values))
globals_kept values more from shared le =
    shared_equal shared shared (values_of (drop from (values ++ more))) (values_of (drop from values)) (omega arith)
    (λ x low. get_or-drop from (values ++ more) x (pos 0) ∙ get_or_append_left values more (pos 0) (from + x) (omega (arith, low, le)) ∙ sym (get_or-drop from values x (pos 0)))

-- ---- the frames that wait

-- the caller that is pushed last comes first in the stack
callers_push : (values : List ℤ) (callers : List Caller) (caller : Caller) → callers_of values (reverse (callers ++ caller ∷ [])) ≡ callers_of values (caller ∷ reverse callers)
callers_push values callers caller = ap (callers_of values) (reverse-append callers (caller ∷ []))

-- each caller has one frame
length_callers_of : (values : List ℤ) (callers : List Caller) → length (callers_of values callers) ≡ length callers
length_callers_of values [] = refl
length_callers_of values (caller ∷ callers) = omega (arith, length_callers_of (take caller.frame.arguments values) callers)

-- as many frames wait as the stack has callers
pub length_waiting : (stack : Stack) → length (waiting stack) ≡ length stack.callers.items
length_waiting stack = length_callers_of _ (reverse stack.callers.items) ∙ length-reverse stack.callers.items

-- ---- calls and returns

-- a frame begins behind the values, where the caller joins the frames that wait
pub callee_entered : (values arguments read shared pushed : List ℤ) (from many n base first called : ℕ) (callers more : List Caller) (caller : Caller) → from + many ≤ length values → read ≡ values ++ arguments → shared ≡ read ++ shared_values many (values_of (drop from read)) → pushed ≡ shared ++ replicate n (pos 0) → base ≡ length values → first ≡ length read → more ≡ callers ++ caller ∷ [] → Running called (frame_of pushed (record { unit = called; place = 0; arguments = base; variables = first })) (callers_of (take base pushed) (reverse more)) ≡ Running called (first_frame (record { arguments = arguments; globals = shared_values many (values_of (drop from values)) })) (callers_of values (caller ∷ reverse callers))
callee_entered values arguments read shared pushed from many n base first called callers more caller enough is_read is_shared is_pushed' is_base is_first is_more =
    let globals : List ℤ = shared_values many (values_of (drop from values)) in
    let zeros : List ℤ = globals ++ replicate n (pos 0) in
    let is_pushed : pushed ≡ read ++ zeros =
    is_pushed' ∙ ap (λ vs. vs ++ replicate n (pos 0)) (is_shared ∙ ap (λ vs. read ++ vs) (ap (λ vs. shared_values many (values_of (drop from vs))) is_read ∙ globals_kept values arguments from many enough)) ∙ append_assoc read globals (replicate n (pos 0)) in
    let own : drop base (take first pushed) ≡ arguments = rw (is_pushed, is_base, is_first, is_read) (arguments_of values arguments zeros) in
    let fresh : values_of (drop first pushed) ≡ with_first globals all_zero = rw (is_pushed, is_first, is_read) (fresh_values (values ++ arguments) globals n) in
    let cut : take base pushed ≡ values = rw (is_pushed, is_base, is_read, append_assoc) (take-append_seam values (arguments ++ zeros)) in
    running_same called _ _ _ _ (frame_same 0 _ _ _ _ own fresh) (ap (λ vs. callers_of vs (reverse more)) cut ∙ ap (λ cs. callers_of values (reverse cs)) is_more ∙ callers_push values callers caller)

-- an item of a prefix, where the whole has it too
prefix_at : (values others : List ℤ) (start k : ℕ) → length values ≡ length others → get_or values k (pos 0) ≡ get_or others k (pos 0) → get_or (take start values) k (pos 0) ≡ get_or (take start others) k (pos 0)
prefix_at values others start k long same = elim (cases_lt k start) [
  | inl low ↦ get_or-take start values k (pos 0) low ∙ same ∙ sym (get_or-take start others k (pos 0) low)
  | inr high ↦
      get_or_past (take start values) k (pos 0) (omega (arith, high, length-take start values)) ∙ sym (get_or_past (take start others) k (pos 0) (omega (arith, high, length-take start others)))
]

module _ (values after : List ℤ) (from to shared start : ℕ) (copied : AreCopiedWithin values after from to shared) (long : length after ≡ length values) (behind : to + shared ≤ start) (within : start ≤ length values) where
  -- the globals of the frame that is done
  abbrev globals : List ℤ
  globals = shared_values shared (values_of (drop from values))

  -- what is copied is the front of the caller's variables
  copied_at : (x : ℕ) → values_of (drop to (take start after)) x ≡ with_first globals (values_of (drop to (take start values))) x
  copied_at x = elim (cases_lt x shared) [
    | inl low ↦
        let there : to + x < start = omega (arith, low, behind) in
        let place : from + (to + x - to) ≡ from + x = omega arith in
        get_or-drop to (take start after) x (pos 0) ∙ get_or-take start after (to + x) (pos 0) there ∙ copied.copied (to + x) (pos 0) (omega arith) (omega (arith, low)) ∙ ap (λ k. get_or values k (pos 0)) place
        ∙ sym (get_or-drop from values x (pos 0))
        ∙ sym (get_or-map-range_with_len (values_of (drop from values)) 0 shared x x (values_of (drop to (take start values)) x) low (omega arith))
    | inr high ↦
        get_or-drop to (take start after) x (pos 0)
        ∙ prefix_at after values start (to + x) long (copied.rest (to + x) (pos 0) (omega (arith, high)))
        ∙ sym (get_or-drop to (take start values) x (pos 0))
        ∙ sym (with_first_other globals (values_of (drop to (take start values))) x (omega (arith, high, shared_long shared (values_of (drop from values)))))
  ]

  -- what stands before them stays
  front_stays : (k : ℕ) → k ≤ to → take k (take start after) ≡ take k (take start values)
  front_stays k low =
      let size : length (take k after) ≡ k = length-take-le k after (omega (arith, low, behind, within, long)) in
      let size' : length (take k values) ≡ k = length-take-le k values (omega (arith, low, behind, within)) in
      let whole : take k after ≡ take k values =
      ext_get_or (pos 0) (take k after) (take k values) (size ∙ sym size')
      (λ i lt. get_or-take k after i (pos 0) (omega (arith, lt, size)) ∙ copied.below i (pos 0) (omega (arith, lt, size, low)) ∙ sym (get_or-take k values i (pos 0) (omega (arith, lt, size)))) in
      take-take k start after (omega (arith, low, behind)) ∙ whole ∙ sym (take-take k start values (omega (arith, low, behind)))

  -- so the caller's frame has the globals
  shared_frame : (frame : Frame) → frame.variables ≡ to → frame.arguments ≤ frame.variables
      → frame_of (take start after) frame ≡ frame_state frame.place (drop frame.arguments (take frame.variables (take start values))) (with_first globals (values_of (drop frame.variables (take start values))))
  shared_frame frame is ordered =
      frame_same frame.place _ _ _ _ (ap (drop frame.arguments) (front_stays frame.variables (omega (arith, is))))
      (ap (λ k. values_of (drop k (take start after))) is ∙ fun_ext copied_at ∙ ap (λ k. with_first globals (values_of (drop k (take start values)))) (sym is))

-- the frames that wait, once the running one waits too
pub waits_too : (program : ProgramShape) (stack : Stack) (into : Option ℕ) (place base : ℕ) (pushed : List ℤ) (more : List Caller) → IsStack program stack → take base pushed ≡ stack.values.items
    → more ≡ stack.callers.items ++ record { into = into; frame = record stack.running { place = place } } ∷ [] → AllBelow (running_vars program stack) (into_vars into) → AreCallers program (take base pushed) (reverse more)
waits_too program stack into place base pushed more is cut is_more below =
    let caller : Caller = record { into = into; frame = record stack.running { place = place } } in
    let turned : reverse more ≡ caller ∷ reverse stack.callers.items = ap reverse is_more ∙ reverse-append stack.callers.items (caller ∷ []) in
    let here : IsFrame program stack.values.items caller.frame = record { there = is.running.there; shares = is.running.shares; received = is.running.received; long = is.running.long } in
    subst (λ vs. AreCallers program vs (reverse more)) (sym cut) (subst (AreCallers program stack.values.items) (sym turned) (here, below, is.callers))

-- the frames that are left, once the running one is done
left_frames : (program : ProgramShape) (left cut : List ℤ) (callers rest : List Caller) (caller : Caller) → callers ≡ rest ++ caller ∷ [] → AreCallers program left (reverse callers) → length cut ≡ length left
    → take caller.frame.arguments cut ≡ take caller.frame.arguments left → IsFrame program cut caller.frame × AreCallers program (take caller.frame.arguments cut) (reverse rest)
left_frames program left cut callers rest caller is_callers fit long front =
    let latest : reverse callers ≡ caller ∷ reverse rest = ap reverse is_callers ∙ reverse-append rest (caller ∷ []) in
    let fits = subst (AreCallers program left) latest fit in (
      record { there = fits.0.there; shares = fits.0.shares; received = fits.0.received; long = omega (arith, fits.0.long, long) },
      subst (λ vs. AreCallers program vs (reverse rest)) (sym front) fits.2,
    )

-- the latest caller goes on, with the globals and the answer in its variable
module _ (program : ProgramShape) (values after cut : List ℤ) (start from shared : ℕ) (callers rest : List Caller) (caller : Caller) (answer : ℤ)
    (is_callers : callers ≡ rest ++ caller ∷ []) (copied : AreCopiedWithin values after from caller.frame.variables shared) (long : length after ≡ length values) (is_cut : cut ≡ take start after)
    (few : shared ≡ length program.globals) (within : start ≤ length values) (fit : AreCallers program (take start values) (reverse callers)) where
  abbrev left : List ℤ
  left = take start values

  abbrev given : Answer
  given = record { value = answer; globals = shared_values shared (values_of (drop from values)) }

  latest : reverse callers ≡ caller ∷ reverse rest
  latest = ap reverse is_callers ∙ reverse-append rest (caller ∷ [])

  fits : AreCallers program left (caller ∷ reverse rest)
  fits = subst (AreCallers program left) latest fit

  room : length left ≡ start
  room = length-take-le start values within

  behind : caller.frame.variables + shared ≤ start
  behind = omega (arith, fits.0.long, fits.0.shares, few, room)

  ordered : caller.frame.arguments ≤ caller.frame.variables
  ordered = omega (arith, fits.0.received)

  cut_frame : frame_of cut caller.frame ≡ record (frame_of left caller.frame) { values = with_first given.globals (frame_of left caller.frame).values }
  cut_frame =
      ap (λ vs. frame_of vs caller.frame) is_cut
      ∙ shared_frame values after from caller.frame.variables shared start copied long behind within caller.frame refl ordered

  cut_front : take caller.frame.arguments cut ≡ take caller.frame.arguments left
  cut_front = ap (take caller.frame.arguments) is_cut ∙ front_stays values after from caller.frame.variables shared start copied long behind within caller.frame.arguments ordered

  gives_back : returned given (callers_of left (reverse callers)) ≡ Running caller.frame.unit (resumed caller.into given (frame_of left caller.frame)) (callers_of (take caller.frame.arguments left) (reverse rest))
  gives_back = ap (λ cs. returned given (callers_of left cs)) latest

  -- where the call has no variable
  pub resumes_none : caller.into ≡ None → Running caller.frame.unit (frame_of cut caller.frame) (callers_of (take caller.frame.arguments cut) (reverse rest)) ≡ returned given (callers_of left (reverse callers))
  resumes_none is_into =
      running_same caller.frame.unit _ _ _ _ (cut_frame ∙ ap (λ into. resumed into given (frame_of left caller.frame)) (sym is_into)) (ap (λ vs. callers_of vs (reverse rest)) cut_front) ∙ sym gives_back

  -- and where it has one
  pub resumes_some : (x : ℕ) (v : ℤ) → caller.into ≡ Some x → v ≡ answer
      → Running caller.frame.unit (frame_of (set cut (caller.frame.variables + x) v) caller.frame) (callers_of (take caller.frame.arguments (set cut (caller.frame.variables + x) v)) (reverse rest))
      ≡ returned given (callers_of left (reverse callers))
  resumes_some x v is_into is_v =
      let below = subst (λ into. AllBelow (length (vars_at program.units caller.frame.unit)) (into_vars into)) is_into fits.1 in
      let size : length cut ≡ length left = ap length is_cut ∙ length-take-le start after (omega (arith, long, within)) ∙ sym room in
      let low : caller.frame.variables + x < length cut = omega (arith, fits.0.long, below.0, size) in
      let frame : frame_of (set cut (caller.frame.variables + x) v) caller.frame ≡ resumed caller.into given (frame_of left caller.frame) =
      assigned_is cut caller.frame x caller.frame.place v low ∙ ap (λ u. assigned x u caller.frame.place (frame_of cut caller.frame)) is_v ∙ ap (assigned x answer caller.frame.place) cut_frame
      ∙ ap (λ into. resumed into given (frame_of left caller.frame)) (sym is_into) in
      let others = ap (λ vs. callers_of vs (reverse rest)) (take-set-le caller.frame.arguments cut (caller.frame.variables + x) v (omega (arith, ordered)) ∙ cut_front) in
      running_same caller.frame.unit _ _ _ _ frame others ∙ sym gives_back

  -- the frames that are left are those of the same programs
  cut_long : length cut ≡ length left
  cut_long = ap length is_cut ∙ length-take-le start after (omega (arith, long, within)) ∙ sym room

  pub left_none : (other : ProgramShape) → AreCallers other left (reverse callers) → IsFrame other cut caller.frame × AreCallers other (take caller.frame.arguments cut) (reverse rest)
  left_none other is = left_frames other left cut callers rest caller is_callers is cut_long cut_front

  pub left_some : (other : ProgramShape) (x : ℕ) (v : ℤ) → AreCallers other left (reverse callers)
      → IsFrame other (set cut (caller.frame.variables + x) v) caller.frame × AreCallers other (take caller.frame.arguments (set cut (caller.frame.variables + x) v)) (reverse rest)
  left_some other x v is =
      left_frames other left (set cut (caller.frame.variables + x) v) callers rest caller is_callers is (length-set cut (caller.frame.variables + x) v ∙ cut_long)
      (take-set-le caller.frame.arguments cut (caller.frame.variables + x) v (omega (arith, ordered)) ∙ cut_front)
