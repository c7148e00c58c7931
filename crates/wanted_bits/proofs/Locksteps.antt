-- Where all bits are asked for around its unit, the narrowed graph goes in lockstep with the graph.
use Rattle.std.proofs.Common.{◌≡◌, ℕ, zero, suc, ◌<◌, List, [], ◌∷◌, length, slice_index_or, ℤ, pos, refl, sym, ap, ◌∙◌, subst, arith}
use Rattle.std.proofs.lemmas.List.{ext_get_or}
use Rattle.std.proofs.lemmas.List.Elements.{All-head, All-tail}
use Rattle.mir_base.specs.Frames.{Answer, CallEntry, Frame, Transition, Continues, Prints, Calls, Returns, Traps, resumed, first_frame}
use Rattle.mir_base.specs.Locksteps.{Alike, Lockstep}
use Rattle.mir_base.specs.LockstepLaws.{lockstep_same, lockstep_cheaper}
use Rattle.mir_base.specs.FrameLaws.{argument_fits}
use Rattle.mir_base.specs.Runs.{AreNumbers}
use Rattle.mir_base.specs.UnitRuns.{AreAnswers, IsCallAnswer, IsEntry, UnitSame, UnitCheaper}
use Rattle.flow_graph.specs.declared.nodes.Node.{Node}
use Rattle.flow_graph.specs.Graphs.{CanMake, GraphShape}
use Rattle.flow_graph.specs.MachineLaws.{graph_hands}
use Rattle.flow_graph.specs.Machines.{graph_code, graph_machine, machine_of}
use Rattle.wanted_bits.specs.Agreement.{AgreeBelow}
use Rattle.wanted_bits.specs.AgreementLaws.{agree_equal}
use Rattle.wanted_bits.specs.Narrowed.{AreNarrowed}
use Rattle.wanted_bits.specs.NarrowedSteps.{AlikeBy, AnswersAgree, Beside, EntriesAgree, entered_beside, narrowed_steps}
use Rattle.wanted_bits.specs.RunsAgree.{AgreeThere, frame_after, frame_past}
use Rattle.wanted_bits.specs.Wanted.{all_asked}

-- lists of numbers that agree on all bits are equal
numbers_equal : (xs ys : List ℤ) → length ys ≡ length xs → AreNumbers xs → AreNumbers ys → ((i : ℕ) → i < length xs → AgreeBelow 64 (slice_index_or xs i (pos 0)) (slice_index_or ys i (pos 0))) → xs ≡ ys
numbers_equal xs ys long are are' agree = ext_get_or (pos 0) xs ys (sym long) (λ i lt. agree_equal (slice_index_or xs i (pos 0)) (slice_index_or ys i (pos 0)) (argument_fits xs i are) (argument_fits ys i are') (agree i lt))

-- so what is handed over and back is equal
entries_equal : (shared : ℕ) (e e' : CallEntry) → EntriesAgree shared (λ x. 64) (λ i. 64) e e' → e ≡ e'
entries_equal shared e e' agree =
    let arguments = numbers_equal e.arguments e'.arguments agree.long agree.numbers agree.numbers' (λ i lt. agree.on_arguments i) in
    let globals = numbers_equal e.globals e'.globals (agree.globals_are'.long ∙ sym agree.globals_are.long) agree.globals_are.numbers agree.globals_are'.numbers (λ x lt. agree.on_globals x (omega (arith, lt, agree.globals_are.long))) in
    ap (λ (l : List ℤ). record { arguments = l; globals = e.globals }) arguments ∙ ap (λ (l : List ℤ). record { arguments = e'.arguments; globals = l }) globals

-- answers that agree in all bits are equal
answers_equal : (shared : ℕ) (a a' : Answer) → AnswersAgree shared (λ x. 64) 64 a a' → a ≡ a'
answers_equal shared a a' agree =
    let value = agree_equal a.value a'.value agree.is.number agree.is'.number agree.on_result in
    let globals = numbers_equal a.globals a'.globals (agree.is'.globals.long ∙ sym agree.is.globals.long) agree.is.globals.numbers agree.is'.globals.numbers (λ x lt. agree.on_globals x (omega (arith, lt, agree.is.globals.long))) in
    ap (λ (z : ℤ). record { value = z; globals = a.globals }) value ∙ ap (λ (l : List ℤ). record { value = a'.value; globals = l }) globals

-- and the two do alike
alike_whole : (shared : ℕ) (wanted : ℕ → ℕ → ℕ) (S : Frame → Frame → Type 0) (t t' : Transition) → AlikeBy all_asked shared wanted S t t' → Alike S t t'
alike_whole shared wanted S (Continues n f) (Continues m g) alike = alike
alike_whole shared wanted S (Prints v f) (Prints w g) alike = alike
alike_whole shared wanted S (Calls unit entry into f) (Calls unit' entry' into' g) alike = (
  alike.0,
  entries_equal shared entry entry' alike.2,
  λ answer is.
      let is_answer : IsCallAnswer shared answer = subst (λ n. IsCallAnswer n answer) alike.2.globals_are.long is in
      alike.3 answer answer is_answer is_answer (record { on_result = λ y e. refl; on_globals = λ x low off. refl }),
)
alike_whole shared wanted S (Returns answer) (Returns answer') alike = answers_equal shared answer answer' alike
alike_whole shared wanted S (Traps kind n) (Traps kind' m) alike = alike.0
alike_whole shared wanted S _ _ alike = absurd alike

module _ (graph : GraphShape) (can : CanMake graph.vars graph.received graph.nodes) (nodes : List Node) (are : AreNarrowed all_asked graph nodes) where
  abbrev S : Frame → Frame → Type 0
  S = Beside graph.nodes graph.received are.shifts are.wanted

  in_lockstep : Lockstep (machine_of graph) (graph_machine graph.shared graph.received nodes) S
  in_lockstep = record {
    receives = refl;
    shared = refl;
    hands = graph_hands graph.shared graph.received graph.nodes;
    starts = λ entry is. entered_beside graph can are.shifts are.wanted are.shifts_hold (λ x. 64) (λ i. 64) (λ x low. are.are_wanted.most 0 x) (λ i x at. are.are_wanted.most 0 x) entry entry is is
        (record { long = refl; numbers = is.numbers; numbers' = is.numbers; globals_are = is.globals; globals_are' = is.globals; on_globals = λ x low. refl; on_arguments = λ i. refl });
    steps = λ f g r. alike_whole graph.shared are.wanted S (graph_code graph.shared graph.received graph.nodes f) (graph_code graph.shared graph.received nodes g) (narrowed_steps all_asked graph can nodes are f g r);
  }

  -- so the two do the same
  pub narrowed_same : UnitSame (machine_of graph) (graph_machine graph.shared graph.received nodes)
  narrowed_same = lockstep_same (machine_of graph) (graph_machine graph.shared graph.received nodes) S in_lockstep

  -- and the second evaluates no more operators
  pub narrowed_cheaper : UnitCheaper (machine_of graph) (graph_machine graph.shared graph.received nodes)
  narrowed_cheaper = lockstep_cheaper (machine_of graph) (graph_machine graph.shared graph.received nodes) S in_lockstep

  -- both sides, where a run goes on so
  abbrev Agrees : ℕ → Type 0
  Agrees n = (f g : Frame) (answers : List Answer) → S f g → AreAnswers graph.shared answers
      → AgreeThere are.wanted (frame_after (graph_code graph.shared graph.received graph.nodes) n f answers) (frame_after (graph_code graph.shared graph.received nodes) n g answers)

  -- one step before
  agree_past : (n : ℕ) → Agrees n → (t t' : Transition) (answers : List Answer) → AlikeBy all_asked graph.shared are.wanted S t t' → AreAnswers graph.shared answers
      → AgreeThere are.wanted (frame_past (frame_after (graph_code graph.shared graph.received graph.nodes) n) t answers) (frame_past (frame_after (graph_code graph.shared graph.received nodes) n) t' answers)
  agree_past n go (Continues m next) (Continues m' next') answers alike all = go next next' answers alike.1 all
  agree_past n go (Prints v next) (Prints v' next') answers alike all = go next next' answers alike.1 all
  agree_past n go (Calls unit entry into next) (Calls unit' entry' into' next') [] alike all = tt
  agree_past n go (Calls unit entry into next) (Calls unit' entry' into' next') (a ∷ answers) alike all =
      let is = All-head (IsCallAnswer graph.shared) a answers all in
      go (resumed into a next) (resumed into' a next') answers (alike.3 a a is is (record { on_result = λ y e. refl; on_globals = λ x low off. refl })) (All-tail (IsCallAnswer graph.shared) a answers all)
  agree_past n go (Returns a) (Returns a') answers alike all = tt
  agree_past n go (Traps kind m) (Traps kind' m') answers alike all = tt
  agree_past n go _ _ answers alike all = absurd alike

  -- whatever number of steps both take, they stand beside one another
  agree_on : (n : ℕ) → Agrees n
  agree_on zero f g answers r all = (r.same, r.agree)
  agree_on (suc n) f g answers r all =
      agree_past n (agree_on n) (graph_code graph.shared graph.received graph.nodes f) (graph_code graph.shared graph.received nodes g) answers (narrowed_steps all_asked graph can nodes are f g r) all

  pub runs_agree : (entry : CallEntry) (answers : List Answer) (n : ℕ) → IsEntry (machine_of graph) entry → AreAnswers graph.shared answers
      → AgreeThere are.wanted (frame_after (machine_of graph).code n (first_frame entry) answers) (frame_after (graph_code graph.shared graph.received nodes) n (first_frame entry) answers)
  runs_agree entry answers n is all = agree_on n (first_frame entry) (first_frame entry) answers (in_lockstep.starts entry is) all
