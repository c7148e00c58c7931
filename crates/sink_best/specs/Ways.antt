-- The ways that a path takes at its firm nodes. For proofs only.
use Rattle.std.proofs.Common.{◌≡◌, ℕ, false, if◌then◌else◌, List, ◌∷◌, slice_get, Option, Some, None, refl, ap}
use Rattle.std.proofs.lemmas.Bool.{true≢false}
use Rattle.mir_base.specs.Expressions.{divides}
use Rattle.flow_graph.specs.declared.nodes.Node.{Node}
use Rattle.flow_graph.specs.declared.nodes.Node.TheVariants.{Start, Skip, Assign, Print, Guard, Call, Test, Return}
use Rattle.flow_graph.specs.Paths.{Trace, from_start, goes_on}
use Rattle.flow_graph.specs.Retained.{redirected}
use Rattle.sink_best.specs.GraphWalks.{is_firm}

-- the way that is taken at a node, before these: none at Start, a Skip or an assignment that may be moved
abbrev pub with_way : Option Node → ℕ → List ℕ → List ℕ
with_way None slot ways = ways
with_way (Some (Start next)) slot ways = ways
with_way (Some (Skip next)) slot ways = ways
with_way (Some (Assign x rhs next)) slot ways = if divides rhs then slot ∷ ways else ways
with_way (Some (Print a next)) slot ways = slot ∷ ways
with_way (Some (Guard test number next)) slot ways = slot ∷ ways
with_way (Some (Call into unit operands next)) slot ways = slot ∷ ways
with_way (Some (Test test taken other)) slot ways = slot ∷ ways
with_way (Some (Return a)) slot ways = slot ∷ ways

-- those of a path, before these
abbrev pub ways_on : (nodes : List Node) (n : ℕ) (before : List ℕ) → Trace nodes n before → List ℕ
    → List ℕ
ways_on nodes n before from_start ways = ways
ways_on nodes n before (goes_on m k earlier trace edge) ways =
    ways_on nodes m earlier trace (with_way (slice_get nodes m) edge.0 ways)

-- at a node that is not firm no way is taken
pub loose_way : (o : Option Node) (slot : ℕ) (ways : List ℕ) → is_firm o ≡ false → with_way o slot ways ≡ ways
loose_way None slot ways e = refl
loose_way (Some (Start next)) slot ways e = refl
loose_way (Some (Skip next)) slot ways e = refl
loose_way (Some (Assign x rhs next)) slot ways e = ap (λ b. (if b then slot ∷ ways else ways)) e
loose_way (Some (Print a next)) slot ways e = absurd (true≢false e)
loose_way (Some (Guard test number next)) slot ways e = absurd (true≢false e)
loose_way (Some (Call into unit operands next)) slot ways e = absurd (true≢false e)
loose_way (Some (Test test taken other)) slot ways e = absurd (true≢false e)
loose_way (Some (Return a)) slot ways e = absurd (true≢false e)

-- the way is the same where the node leads elsewhere
pub redirected_way : (go : ℕ → ℕ) (node : Node) (slot : ℕ) (ways : List ℕ) → with_way (Some (redirected go node)) slot ways ≡ with_way (Some node) slot ways
redirected_way go (Start next) slot ways = refl
redirected_way go (Skip next) slot ways = refl
redirected_way go (Assign x rhs next) slot ways = refl
redirected_way go (Print a next) slot ways = refl
redirected_way go (Guard test number next) slot ways = refl
redirected_way go (Call into unit operands next) slot ways = refl
redirected_way go (Test test taken other) slot ways = refl
redirected_way go (Return a) slot ways = refl
