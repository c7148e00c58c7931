use Rattle.std.proofs.Common.{◌≡◌, ℕ, ◌<◌, true, List, length, take, set, slice_get, Option, Some, None, ap, sym, inl, inr, ◌∙◌, subst, arith}
use Rattle.std.proofs.lemmas.Bool.{cases_lt, false≢true}
use Rattle.std.proofs.lemmas.Option.{slice_get_past, get_or_from_slice_get}
use Rattle.graph_edit.proofs.Edits.{used_length, edited_change, held_change}
use Rattle.graph_edit.specs.Editing.{EditorShape, change_at, change_to, is_assignment, rhs_below}
use Rattle.graph_edit.specs.Edited.{HoldsEdits, edited_from}
use Rattle.flow_graph.specs.ListLaws.{some_at}
use Rattle.graph_edit.specs.Insertions.{ChangeBelow, changed}
use Rattle.flow_graph.specs.declared.nodes.Node.{Node}
use Rattle.mir_base.specs.declared.instructions.Rhs.{Rhs}
use Rattle.graph_edit.proofs.editor.Editor.change.Goals as goal
use Rattle.graph_edit.proofs.editor.Editor.change.Goals.{After-self, After-changed}

nodes_are : (c : After-self) → edited_from c.self.inside.links.lists 0 (take c.self.inside.used c.self.inside.nodes.items) ≡ c.args.self.now.graph.nodes
nodes_are c = ap (λ (e : EditorShape). e.graph.nodes) c.self.view_is

there : (nodes : List Node) (n : ℕ) → is_assignment (slice_get nodes n) ≡ true → n < length nodes
there nodes n is = elim (cases_lt n (length nodes)) [ inl lt ↦ lt | inr past ↦ absurd (false≢true (sym (ap is_assignment (slice_get_past nodes n past)) ∙ is)) ]

within : (c : After-self) → c.args.node < c.self.inside.used
within c =
    let long = used_length c.self.inside.vars c.self.inside.received c.self.inside.nodes.items c.self.inside.olds c.self.inside.used c.self.inside.links c.self.invariant.0 in
    omega (arith, long, ap length (nodes_are c), there c.args.self.now.graph.nodes c.args.node c.requires.node)

inside : (c : After-self) → c.args.node < length c.self.inside.nodes.items
inside c = let lt = within c in omega (arith, lt, c.self.invariant.0.room)

fits : (vars : ℕ) (rhs : Option Rhs) → rhs_below vars rhs → ChangeBelow vars (change_to rhs)
fits vars None below = tt
fits vars (Some rhs) below = below

pub index_mut-requires : goal.index_mut-requires
index_mut-requires c = rw c.self.inside.nodes.ok.0 (inside (goal.at.index_mut-requires c).After-self)

pub index_mut-requires-2 : goal.index_mut-requires-2
index_mut-requires-2 c = rw c.self.inside.nodes.ok.0 (inside (goal.at.index_mut-requires-2 c).After-self)

change_is : (c : After-changed) (old : Node) → slice_get c.self.inside.nodes.items c.args.node ≡ Some old → c.changed.result ≡ changed (change_to c.args.rhs) old
change_is c old at = c.changed.ensures ∙ ap (changed (change_to c.args.rhs)) (c.replace-old.ensures.value ∙ c.index_mut.ensures.value ∙ get_or_from_slice_get c.self.inside.nodes.items c.args.node old _ at)

pub invariant_of-self : goal.invariant_of-self
invariant_of-self c =
    let known = (goal.at.invariant_of-self c).After-self in
    let vars = ap (λ (e : EditorShape). length e.graph.vars) c.self.view_is in
    let old = some_at c.self.inside.nodes.items c.args.node (inside known) in
    let below : rhs_below (length c.self.inside.vars) c.args.rhs = rw vars c.requires.rhs in
    let held = held_change c.self.inside.vars c.self.inside.received c.self.inside.nodes.items c.self.inside.olds c.self.inside.used c.self.inside.links c.self.invariant.0 c.args.node (change_to c.args.rhs) old.0 c.replace-old.new.dest old.1 (within known) (fits (length c.self.inside.vars) c.args.rhs below) in
    (subst (λ n. HoldsEdits c.self.inside.vars c.self.inside.received (set (set c.self.inside.nodes.items c.args.node c.replace-old.new.dest) c.args.node n) c.self.inside.olds c.self.inside.used c.self.inside.links) (sym (change_is (goal.at.invariant_of-self c).After-changed old.0 old.1)) held, c.self.invariant.1)

pub returns-clause-graph : goal.returns-clause-graph
returns-clause-graph c =
    let known = (goal.at.returns-clause-graph c).After-self in
    let old = some_at c.self.inside.nodes.items c.args.node (inside known) in
    let made = edited_change c.self.inside.vars c.self.inside.received c.self.inside.nodes.items c.self.inside.olds c.self.inside.used c.self.inside.links c.self.invariant.0 c.args.node (change_to c.args.rhs) old.0 c.replace-old.new.dest old.1 (within known) in
    let nodes = ap (λ n. edited_from c.self.inside.links.lists 0 (take c.self.inside.used (set (set c.self.inside.nodes.items c.args.node c.replace-old.new.dest) c.args.node n))) (change_is (goal.at.returns-clause-graph c).After-changed old.0 old.1) ∙ made in
    ap (λ l. (record { name = c.self.inside.name; shared = c.self.inside.shared; vars = c.self.inside.vars; received = c.self.inside.received; nodes = l })) nodes
    ∙ ap (λ (e : EditorShape). (record e.graph { nodes = change_at c.args.node (change_to c.args.rhs) e.graph.nodes })) c.self.view_is
