-- Law: a graph has one extended graph. For proofs only, of pass_chain too.
use Rattle.std.proofs.Common.{◌≡◌, ℕ, ◌<◌, List, length, slice_get, Option, Some, None, option_map, refl, sym, ap, ◌∙◌, subst}
use Rattle.std.proofs.Math.Path.{fun_ext}
use Rattle.std.proofs.lemmas.Option.{slice_get_within}
use Rattle.mir_base.specs.declared.instructions.Rhs.{Rhs}
use Rattle.flow_graph.specs.declared.nodes.Node.{Node}
use Rattle.flow_graph.specs.declared.nodes.Node.TheVariants.{Start, Skip, Assign, Print, Guard, Call, Test, Return}
use Rattle.flow_graph.specs.Graphs.{GraphShape}
use Rattle.flow_graph.specs.OneLaws.{same_places}
use Rattle.held_assign.specs.HeldLaws.{held_rhs_is_one}
use Rattle.held_assign.specs.InPlaceLaws.{has_nodes_one}
use Rattle.bounds.specs.declared.facts.Fact.{Fact}
use Rattle.bounds.specs.BoundRuleLaws.{bound_laws}
use Rattle.cond_flow.specs.BecomingLaws.{known_is_one}
use Rattle.extend_flow.specs.declared.shifts.Extension.{Extension}
use Rattle.extend_flow.specs.Extended.{AreExtended, IsExtended, IsExtendedAt, extended_node, extended_where}
use Rattle.extend_flow.specs.Extensions.{extension_of, shifts_variable}

-- where a node assigns no extension, what is known does not count; else the same is known
node_is_one : (held : ℕ → Option Rhs) (a b : Option (List Fact)) (node : Node)
    → ((x : ℕ) (rhs : Rhs) (next : ℕ) (e : Extension) → node ≡ Assign x rhs next → extension_of held rhs ≡ Some e → a ≡ b)
    → extended_node held a node ≡ extended_node held b node
node_is_one held a b (Start next) same = refl
node_is_one held a b (Skip next) same = refl
node_is_one held a b (Assign x rhs next) same = ap (λ r. Assign x r next) (by (extension_of held rhs) (λ e is. same x rhs next e refl is))
  where
    by : (o : Option Extension) → ((e : Extension) → o ≡ Some e → a ≡ b) → extended_where a rhs o ≡ extended_where b rhs o
    by None known = refl
    by (Some e) known = ap (λ k. extended_where k rhs (Some e)) (known e refl)
node_is_one held a b (Print v next) same = refl
node_is_one held a b (Guard test number next) same = refl
node_is_one held a b (Call into unit operands next) same = refl
node_is_one held a b (Test test taken other) same = refl
node_is_one held a b (Return v) same = refl

-- so a place becomes one
place_is_one : (graph : GraphShape) (held : ℕ → Option Rhs) (n : ℕ) (made other : Option Node)
    → IsExtendedAt graph held n made → IsExtendedAt graph held n other → made ≡ other
place_is_one graph held n made other p q = p.is ∙ by (slice_get graph.nodes n) refl ∙ sym q.is
  where
    by : (o : Option Node) → slice_get graph.nodes n ≡ o
        → option_map (extended_node held p.known) o ≡ option_map (extended_node held q.known) o
    by None here = refl
    by (Some node) here =
        let lt : n < length graph.nodes = slice_get_within graph.nodes n node here in
        ap (λ x. Some x) (node_is_one held p.known q.known node (λ x rhs next e assigns is. known_is_one bound_laws.order graph n p.known q.known lt (p.is_known x rhs next e (here ∙ ap (λ m. Some m) assigns) is) (q.is_known x rhs next e (here ∙ ap (λ m. Some m) assigns) is)))

-- the nodes become one list
nodes_are_one : (graph : GraphShape) (nodes other : List Node) → AreExtended graph nodes → AreExtended graph other
    → nodes ≡ other
nodes_are_one graph nodes other p q = same_places nodes other (λ n. by n (slice_get graph.nodes n) refl)
  where
    by : (n : ℕ) (o : Option Node) → slice_get graph.nodes n ≡ o → slice_get nodes n ≡ slice_get other n
    by n None here =
        (p.nodes_are n).is ∙ ap (option_map (extended_node (p.held n) (p.nodes_are n).known)) here
        ∙ sym ((q.nodes_are n).is ∙ ap (option_map (extended_node (q.held n) (q.nodes_are n).known)) here)
    by n (Some node) here =
        let lt : n < length graph.nodes = slice_get_within graph.nodes n node here in
        let same : p.held n ≡ q.held n =
        fun_ext (λ v. held_rhs_is_one (λ x t. shifts_variable t) graph n v (p.held n v) (q.held n v) (p.is_held n v lt) (q.is_held n v lt)) in
        place_is_one graph (q.held n) n (slice_get nodes n) (slice_get other n) (subst (λ h. IsExtendedAt graph h n (slice_get nodes n)) same (p.nodes_are n)) (q.nodes_are n)

-- a graph has one extended graph
pub extended_is_one : (graph a b : GraphShape) → IsExtended graph a → IsExtended graph b → a ≡ b
extended_is_one graph = has_nodes_one (AreExtended graph) (nodes_are_one graph) graph
