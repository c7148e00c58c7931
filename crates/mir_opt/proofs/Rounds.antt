-- The graph after so many rounds.
use Rattle.std.proofs.Common.{◌≡◌, ℕ, zero, suc, ◌-◌, ◌<◌, ◌≤◌, List, [], ◌∷◌, length, map, get_or, slice_get, Some, None, refl, sym, subst, ◌∙◌, arith}
use Rattle.flow_graph.specs.ListLaws.{some_at}
use Rattle.flow_graph.specs.Graphs.{GraphShape}
use Rattle.flow_graph.specs.Keeps.{AsGraph, Form, KeepInTurn, Keeps}
use Rattle.flow_graph.specs.KeepsLaws.{keeps_trans}
use Rattle.sink_rounds.specs.RoundGraphs.{last_round}
use Rattle.mir_opt.specs.Stages.{after_rounds}

-- after the last round it stays
pub after_past : (graph : GraphShape) (rounds : List GraphShape) (count : ℕ) → length rounds ≤ count → after_rounds graph rounds count ≡ last_round graph rounds
after_past graph [] count le = refl
after_past graph (round ∷ rounds) zero le = absurd (omega (arith, le))
after_past graph (round ∷ rounds) (suc count) le = after_past round rounds count (omega (arith, le))

-- after none it is the graph
pub after_none : (graph : GraphShape) (rounds : List GraphShape) → after_rounds graph rounds 0 ≡ graph
after_none graph [] = refl
after_none graph (round ∷ rounds) = refl

-- after some it is the last of them
pub after_some : (graph : GraphShape) (rounds : List GraphShape) (count : ℕ) (other : GraphShape) → count < length rounds → get_or rounds count other ≡ after_rounds graph rounds (suc count)
after_some graph [] count other lt = absurd (omega (arith, lt))
after_some graph (round ∷ rounds) zero other lt = sym (after_none round rounds)
after_some graph (round ∷ rounds) (suc count) other lt = after_some round rounds count other (omega (arith, lt))

-- rounds one after the other keep what each of them keeps
pub rounds_keep : (first : Form) (graph : GraphShape) (rounds : List GraphShape) → Keeps first (AsGraph graph) → KeepInTurn (AsGraph graph) (map AsGraph rounds) → (count : ℕ) → Keeps first (AsGraph (after_rounds graph rounds count))
rounds_keep first graph [] kept chain count = kept
rounds_keep first graph (round ∷ rounds) kept chain zero = kept
rounds_keep first graph (round ∷ rounds) kept chain (suc count) = rounds_keep first round rounds (keeps_trans first (AsGraph graph) (AsGraph round) kept chain.0) chain.1 count

-- ---- the last round, as a slice has it

-- where there is one
pub last_some : (graph : GraphShape) (rounds : List GraphShape) (last : GraphShape) → slice_get rounds (length rounds - 1) ≡ Some last → last ≡ last_round graph rounds
last_some graph [] last here = cc
last_some graph (round ∷ []) last here = cc
last_some graph (round ∷ next ∷ rounds) last here =
    let all : length (round ∷ next ∷ rounds) - 1 ≡ suc (length rounds) = omega arith in
    let others : length (next ∷ rounds) - 1 ≡ length rounds = omega arith in
    let after : slice_get (round ∷ next ∷ rounds) (suc (length rounds)) ≡ Some last = subst (λ i. slice_get (round ∷ next ∷ rounds) i ≡ Some last) all here in
    last_some round (next ∷ rounds) last (subst (λ i. slice_get (next ∷ rounds) i ≡ Some last) (sym others) after)

-- where there is none
pub last_none : (graph : GraphShape) (rounds : List GraphShape) → slice_get rounds (length rounds - 1) ≡ None → graph ≡ last_round graph rounds
last_none graph [] none = refl
last_none graph (round ∷ rounds) none = absurd (let there = some_at (round ∷ rounds) (length (round ∷ rounds) - 1) (omega arith) in let bad : None ≡ Some there.0 = sym none ∙ there.1 in cc)
