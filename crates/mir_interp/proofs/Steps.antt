-- Runs, step by step.
use Rattle.std.proofs.Common.{◌≡◌, ℕ, zero, suc, ◌+◌, ◌-◌, ◌<◌, ◌≤◌, List, refl, sym, ap, ◌∙◌, arith, le_refl}
use Rattle.mir_base.specs.Frames.{Transition, Continues, Prints, Calls, Returns, Traps, Code}
use Rattle.mir_base.specs.RunLaws.{steps_add}
use Rattle.mir_base.specs.Runs.{Caller, Control, Running, Ended, Stopped, State, state_after, step_at, step, steps}

-- the last step may be taken apart as well as the first
one_more_step : (codes : ℕ → Code) (k : ℕ) (s : State) → steps codes (k + 1) s ≡ step codes (steps codes k s)
one_more_step codes k s = steps_add codes k 1 s

-- a run that is over stays as it is
over_stays : (codes : ℕ → Code) (k : ℕ) (s : State) → step codes s ≡ s → steps codes k s ≡ s
over_stays codes zero s over = refl
over_stays codes (suc k) s over = ap (steps codes k) over ∙ over_stays codes k s over

-- the greatest depth of a run never falls: by a transition
after_deeper : (u : ℕ) (callers : List Caller) (transition : Transition) (s : State) → s.depth ≤ (state_after u callers transition s).depth
after_deeper u callers (Continues n next) s = le_refl _
after_deeper u callers (Prints v next) s = le_refl _
after_deeper u callers (Calls called entry into next) s = omega arith
after_deeper u callers (Returns answer) s = le_refl _
after_deeper u callers (Traps k n) s = le_refl _

-- by a step
step_deeper : (codes : ℕ → Code) (c : Control) (s : State) → s.depth ≤ (step_at codes c s).depth
step_deeper codes (Running u f callers) s = after_deeper u callers (codes u f) s
step_deeper codes (Ended v) s = le_refl _
step_deeper codes (Stopped k) s = le_refl _

-- the depth never falls
deeper : (codes : ℕ → Code) (k : ℕ) (s : State) → s.depth ≤ (steps codes k s).depth
deeper codes zero s = le_refl _
deeper codes (suc k) s = omega (arith, step_deeper codes s.control s, deeper codes k (step codes s))

-- one more step
pub next_state : (codes : ℕ → Code) (i : ℕ) (s t u : State) → steps codes i s ≡ t → u ≡ step codes t → steps codes (i + 1) s ≡ u
next_state codes i s t u so_far is = one_more_step codes i s ∙ ap (step codes) so_far ∙ sym is

-- a run of n steps passes through each earlier step
split_at : (codes : ℕ → Code) (i n : ℕ) (s : State) → i < n → steps codes n s ≡ steps codes (n - (i + 1)) (steps codes (i + 1) s)
split_at codes i n s within =
    let sum : n ≡ (i + 1) + (n - (i + 1)) = omega arith in
    ap (λ k. steps codes k s) sum ∙ steps_add codes (i + 1) (n - (i + 1)) s

-- a run that is over after i + 1 steps is so after n
pub over_within : (codes : ℕ → Code) (i n : ℕ) (s t u : State) → i < n → steps codes i s ≡ t → u ≡ step codes t → step codes u ≡ u → steps codes n s ≡ u
over_within codes i n s t u within so_far is over =
    split_at codes i n s within ∙ ap (steps codes (n - (i + 1))) (next_state codes i s t u so_far is) ∙ over_stays codes (n - (i + 1)) u over

-- a run that passes a depth within i + 1 steps does so within n
pub deep_within : (codes : ℕ → Code) (i n limit : ℕ) (s t : State) → i < n → steps codes i s ≡ t → limit < (step codes t).depth → limit < (steps codes n s).depth
deep_within codes i n limit s t within so_far deep =
    let e : steps codes n s ≡ steps codes (n - (i + 1)) (step codes t) = split_at codes i n s within ∙ ap (steps codes (n - (i + 1))) (next_state codes i s t (step codes t) so_far refl) in
    let d : (steps codes n s).depth ≡ (steps codes (n - (i + 1)) (step codes t)).depth = ap (λ x. x.depth) e in
    omega (arith, deeper codes (n - (i + 1)) (step codes t), d)
