-- What units hand over and back: what is known of it, and when it holds. Cited by contracts, and by proofs of the crates
-- above.
use Rattle.std.specs.Prelude.{◌≡◌, ◌≤◌, ◌<◌, ◌+◌, ℕ, ℤ, pos, List, [], ◌∷◌, ◌++◌, length, map, slice_get, slice_index_or, Option, Some, None, Vec}
use Rattle.std.specs.Option.{option_map}
use Rattle.mir_base.specs.declared.instructions.Operand.{Operand}
use Rattle.mir_base.specs.declared.instructions.Rhs.TheVariants.{Plain}
use Rattle.mir_base.specs.Frames.{Answer, CallEntry, Frame, Transition, Continues, Prints, Calls, Returns, Traps, Values, resumed, shared_vars}
use Rattle.mir_base.specs.FrameLaws.{FrameFits}
use Rattle.mir_base.specs.Runs.{AreNumbers}
use Rattle.mir_base.specs.UnitRuns.{AreGlobals, IsCallAnswer}
use Rattle.flow_graph.specs.declared.nodes.Node.{Node}
use Rattle.flow_graph.specs.declared.nodes.Node.TheVariants.{Start, Skip, Assign, Print, Guard, Call, Test, Return}
use Rattle.flow_graph.specs.Graphs.{AllWithin, GraphShape}
use Rattle.cond_flow.specs.Holding.{HoldsAt}
use Rattle.cond_flow.specs.Passing.{back_at}
use Rattle.cond_flow.specs.Rules.{AreHeld, Rules, known_at}
use Rattle.cond_flow.specs.Solutions.{HasLeastStates}
use Rattle.cond_flow.specs.States.{NodeState, Unreached, Knows}

-- ---- what is known

-- of the globals and of operands
abbrev pub handed : {K : Type 0} → Rules K → ℕ → List Operand → List K → List K
handed rules shared operands known =
    map (known_at rules known) (shared_vars shared)
    ++ map (λ a. rules.of_rhs known (Plain a)) operands

-- of what a node hands over that calls, or back that returns, where this is known before it
abbrev pub handed_by : {K : Type 0} → Rules K → ℕ → Node → List K → Option (List K)
handed_by rules shared (Start next) known = None
handed_by rules shared (Skip next) known = None
handed_by rules shared (Assign x rhs next) known = None
handed_by rules shared (Print a next) known = None
handed_by rules shared (Guard test number next) known = None
handed_by rules shared (Call into unit operands next) known =
    Some (handed rules shared operands known)
handed_by rules shared (Test test taken other) known = None
handed_by rules shared (Return a) known = Some (handed rules shared (a ∷ []) known)

-- nothing where no run comes to the node
abbrev pub handed_at : {K : Type 0} → Rules K → ℕ → Node → NodeState K → Option (List K)
handed_at rules shared node (Unreached size) = None
handed_at rules shared node (Knows known) = handed_by rules shared node known

-- this is known of what each node of a graph hands over or back, by the least states
pub record AreHanded {K : Type 0} {A : Type 0} (below : K → K → Type 0) (rules : Rules K)
    (graph : GraphShape) (all : List (Option (Vec K A))) : Type 0 where
  pub states : ℕ → NodeState K
  pub least : HasLeastStates below rules graph states
  pub long : length all ≡ length graph.nodes
  pub each : (n : ℕ) (node : Node) → slice_get graph.nodes n ≡ Some node
      → (told : Option (Vec K A)) → slice_get all n ≡ Some told
      → option_map (λ list. list.items) told ≡ handed_at rules graph.shared node (states n)

-- ---- when it holds

-- these values, by number
abbrev pub values_in : List ℤ → Values
values_in zs x = slice_index_or zs x (pos 0)

-- what a call hands over: the globals, and the arguments
abbrev pub entry_values : CallEntry → List ℤ
entry_values entry = entry.globals ++ entry.arguments

-- what a return hands back: the globals, and the result
abbrev pub answer_values : Answer → List ℤ
answer_values answer = answer.globals ++ answer.value ∷ []

-- what is known where the unit is entered holds of what is handed over
abbrev pub EntryHolds : {K : Type 0} → (K → ℤ → Type 0) → Rules K → CallEntry → Type 0
EntryHolds holds rules entry = AreHeld holds rules rules.outside.entry (values_in (entry_values entry))

-- what is known of what a unit hands back holds of an answer
abbrev pub AnswerHolds : {K : Type 0} → (K → ℤ → Type 0) → Rules K → ℕ → Answer → Type 0
AnswerHolds holds rules unit answer =
    AreHeld holds rules (back_at rules unit) (values_in (answer_values answer))

-- a frame at this place calls a unit, and what is known before the node holds of what it hands over
pub record IsHandedOver {K : Type 0} (holds : K → ℤ → Type 0) (rules : Rules K) (shared : ℕ)
    (nodes : List Node) (states : ℕ → NodeState K) (place unit : ℕ)
    (entry : CallEntry) : Type 0 where
  pub into : Option ℕ
  pub operands : List Operand
  pub next : ℕ
  pub known : List K
  pub here : slice_get nodes place ≡ Some (Call into unit operands next)
  pub state : states place ≡ Knows known
  pub holds_of : AreHeld holds rules (handed rules shared operands known)
      (values_in (entry_values entry))
  pub long : length entry.arguments ≡ length operands
  pub numbers : AreNumbers entry.arguments
  pub globals : AreGlobals shared entry.globals

-- a frame at this place returns, and what is known before the node holds of its answer
pub record IsHandedBack {K : Type 0} (holds : K → ℤ → Type 0) (rules : Rules K) (shared : ℕ)
    (nodes : List Node) (states : ℕ → NodeState K) (place : ℕ) (answer : Answer) : Type 0 where
  pub operand : Operand
  pub known : List K
  pub here : slice_get nodes place ≡ Some (Return operand)
  pub state : states place ≡ Knows known
  pub holds_of : AreHeld holds rules (handed rules shared (operand ∷ []) known)
      (values_in (answer_values answer))
  pub is_answer : IsCallAnswer shared answer

-- what is known of the arguments, behind so many globals, where the unit is entered holds of these
abbrev pub ArgumentsHold : {K : Type 0} → (K → ℤ → Type 0) → Rules K → ℕ → List ℤ → Type 0
ArgumentsHold holds rules shared arguments =
    (i : ℕ) → holds (known_at rules rules.outside.entry (shared + i)) (slice_index_or arguments i (pos 0))

-- there is a node, and each edge leads to one
pub record IsClosed (nodes : List Node) : Type 0 where
  pub some : 0 < length nodes
  pub within : AllWithin nodes

-- two frames are equal, what is known where they stand holds of their values, and so does what is known where the unit is
-- entered of their arguments
pub record Together {K : Type 0} (holds : K → ℤ → Type 0) (rules : Rules K) (shared : ℕ)
    (nodes : List Node) (states : ℕ → NodeState K) (f g : Frame) : Type 0 where
  pub same : g ≡ f
  pub known : HoldsAt holds rules (states f.place) f.values
  pub fits : FrameFits f
  pub arguments : ArgumentsHold holds rules shared f.arguments
  pub there : IsClosed nodes → f.place < length nodes

-- Two transitions show the same, the second evaluates no more operators, and they lead to frames that S relates, behind a
-- call where the answer is given; what they call and answer is as told
abbrev pub AlikeWhere : (ℕ → CallEntry → Type 0) → (Answer → Type 0) → (ℕ → Answer → Type 0)
    → (Frame → Frame → Type 0) → Transition → Transition → Type 0
AlikeWhere Over Back Given S (Continues n f) (Continues m g) = (m ≤ n) × S f g
AlikeWhere Over Back Given S (Prints v f) (Prints w g) = (v ≡ w) × S f g
AlikeWhere Over Back Given S (Calls unit entry into f) (Calls unit' entry' into' g) =
    (unit ≡ unit') × (entry ≡ entry') × Over unit entry
    × ((answer : Answer) → IsCallAnswer (length entry.globals) answer → Given unit answer
    → S (resumed into answer f) (resumed into' answer g))
AlikeWhere Over Back Given S (Returns answer) (Returns answer') =
    (answer ≡ answer') × Back answer
AlikeWhere Over Back Given S (Traps kind n) (Traps kind' m) = (kind ≡ kind') × (m ≤ n)
AlikeWhere Over Back Given S _ _ = ⊥
