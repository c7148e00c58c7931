-- What is known after a node, and along which of its edges it passes. Cited by contracts.
use Rattle.std.specs.Prelude.{ℕ, suc, ◌+◌, ◌-◌, Bool, true, false, if◌then◌else◌, nat_eq, List, [], ◌∷◌, length, replicate, slice_index_or, slice_set, Option, Some, None}
use Rattle.std.specs.List.{range_with_len}
use Rattle.mir_base.specs.Frames.{shared_vars}
use Rattle.flow_graph.specs.declared.nodes.Node.{Node}
use Rattle.flow_graph.specs.declared.nodes.Node.TheVariants.{Start, Skip, Assign, Print, Guard, Call, Test, Return}
use Rattle.cond_flow.specs.Rules.{Rules, known_at}
use Rattle.cond_flow.specs.States.{NodeState, Unreached, Knows}

-- of these variables is known what `of` has from number i on
abbrev pub all_set : {K : Type 0} → (ℕ → K) → ℕ → List ℕ → List K → List K
all_set of i [] known = known
all_set of i (x ∷ xs) known = all_set of (suc i) xs (slice_set known x (of i))

-- before Start: of the globals is known what is known outside, and the others are 0
abbrev pub first_known : {K : Type 0} → Rules K → ℕ → ℕ → List K
first_known rules shared size =
    all_set (known_at rules rules.outside.entry) 0 (shared_vars shared) (replicate size rules.zero)

-- after Start: of received variables is known what is known outside, where there are so many globals; the globals stay,
-- and the others are 0
abbrev pub start_known : {K : Type 0} → Rules K → ℕ → List ℕ → List K → List K
start_known rules shared received known =
    all_set (λ i. known_at rules rules.outside.entry (shared + i)) 0 received
    (all_set (λ i. rules.zero) shared (range_with_len shared (length known - shared)) known)

-- what is known of what a unit hands back
abbrev pub back_at : {K : Type 0} → Rules K → ℕ → List K
back_at rules unit = slice_index_or rules.outside.backs unit []

-- after a call of a unit: of the globals and its variable is known what is known of what that hands back
abbrev pub after_call : {K : Type 0} → Rules K → ℕ → Option ℕ → ℕ → List K → List K
after_call rules shared None unit known =
    all_set (known_at rules (back_at rules unit)) 0 (shared_vars shared) known
after_call rules shared (Some x) unit known =
    slice_set (all_set (known_at rules (back_at rules unit)) 0 (shared_vars shared) known) x
    (known_at rules (back_at rules unit) shared)

-- what is known after a node, along the edge at this slot
abbrev pub known_after : {K : Type 0} → Rules K → ℕ → List ℕ → Node → ℕ → List K → List K
known_after rules shared received (Start next) slot known =
    start_known rules shared received known
known_after rules shared received (Skip next) slot known = known
known_after rules shared received (Assign x rhs next) slot known =
    slice_set known x (rules.of_rhs known rhs)
known_after rules shared received (Print a next) slot known = known
known_after rules shared received (Guard test number next) slot known = known
known_after rules shared received (Call into unit operands next) slot known =
    after_call rules shared into unit known
known_after rules shared received (Test test taken other) slot known =
    rules.along test (nat_eq slot 0) known
known_after rules shared received (Return a) slot known = known

-- along the edge at this slot of a test, which it takes where it holds or where it does not
abbrev pub passes_by : ℕ → Bool → Bool → Bool
passes_by slot taken other = if nat_eq slot 0 then taken else if nat_eq slot 1 then other else false

-- whether a node passes its state along the edge at this slot
abbrev pub passes : {K : Type 0} → Rules K → Node → ℕ → List K → Bool
passes rules (Start next) slot known = nat_eq slot 0
passes rules (Skip next) slot known = nat_eq slot 0
passes rules (Assign x rhs next) slot known = nat_eq slot 0
passes rules (Print a next) slot known = nat_eq slot 0
passes rules (Guard test number next) slot known = nat_eq slot 0
passes rules (Call into unit operands next) slot known = nat_eq slot 0
passes rules (Test test taken other) slot known =
    passes_by slot (rules.goes test true known) (rules.goes test false known)
passes rules (Return a) slot known = false

-- what passes along the edge at this slot of a node
abbrev pub passed_along : {K : Type 0} → Rules K → ℕ → List ℕ → Node → ℕ → NodeState K → NodeState K
passed_along rules shared received node slot (Unreached size) = Unreached size
passed_along rules shared received node slot (Knows known) =
    if passes rules node slot known then Knows (known_after rules shared received node slot known)
    else Unreached (length known)
