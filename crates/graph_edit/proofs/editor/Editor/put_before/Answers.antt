use Rattle.std.proofs.Common.{◌≡◌, ◌+◌, ◌<◌, suc, length, take, set, ap, ◌∙◌, subst, arith}
use Rattle.graph_edit.proofs.Edits.{used_length, listed_below, edited_put, held_put}
use Rattle.graph_edit.specs.Editing.{EditorShape, put_before}
use Rattle.graph_edit.specs.Edited.{HoldsEdits, edited_from}
use Rattle.flow_graph.specs.declared.nodes.Node.TheVariants.{Assign}
use Rattle.graph_edit.proofs.editor.Editor.put_before.Goals as goal
use Rattle.graph_edit.proofs.editor.Editor.put_before.Goals.{After-self}

nodes_are : (c : After-self) → edited_from c.self.inside.links.lists 0 (take c.self.inside.used c.self.inside.nodes.items) ≡ c.args.self.now.graph.nodes
nodes_are c = ap (λ (e : EditorShape). e.graph.nodes) c.self.view_is

within : (c : After-self) → c.args.node < c.self.inside.used
within c =
    let long = used_length c.self.inside.vars c.self.inside.received c.self.inside.nodes.items c.self.inside.olds c.self.inside.used c.self.inside.links c.self.invariant.0 in
    omega (arith, long, ap length (nodes_are c), c.requires.node)

room : (c : After-self) → c.self.inside.used < length c.self.inside.nodes.items
room c = let spare = ap (λ (e : EditorShape). e.spare) c.self.view_is in omega (arith, spare, c.requires.spare)

pub insert_before-requires-clause-node : goal.insert_before-requires-clause-node
insert_before-requires-clause-node c =
    listed_below c.self.inside.vars c.self.inside.received c.self.inside.nodes.items c.self.inside.olds c.self.inside.used c.self.inside.links c.self.invariant.0 c.args.node (within (goal.at.insert_before-requires-clause-node c).After-self)

pub invariant_of-self : goal.invariant_of-self
invariant_of-self c =
    let known = (goal.at.invariant_of-self c).After-self in
    let vars = ap (λ (e : EditorShape). length e.graph.vars) c.self.view_is in
    let next : suc c.self.inside.used ≡ c.self.inside.used + 1 = omega arith in
    let held = held_put c.self.inside.vars c.self.inside.received c.self.inside.nodes.items c.self.inside.olds c.self.inside.used c.self.inside.links c.self.invariant.0 c.args.node c.args.x c.args.rhs (room known) c.requires.some (within known)
    c.insert_before.new.self c.insert_before.ensures.nodes c.insert_before.ensures.inserted c.insert_before.ensures.listed (omega (arith, vars, c.requires.x)) (rw vars c.requires.rhs) in
    (subst (λ n. HoldsEdits c.self.inside.vars c.self.inside.received (set c.self.inside.nodes.items c.self.inside.used (Assign c.args.x c.args.rhs c.args.node)) c.self.inside.olds n c.insert_before.new.self) next held, c.self.invariant.1)

pub returns-clause-graph : goal.returns-clause-graph
returns-clause-graph c =
    let known = (goal.at.returns-clause-graph c).After-self in
    let next : c.self.inside.used + 1 ≡ suc c.self.inside.used = omega arith in
    let items = set c.self.inside.nodes.items c.self.inside.used (Assign c.args.x c.args.rhs c.args.node) in
    let made = edited_put c.self.inside.vars c.self.inside.received c.self.inside.nodes.items c.self.inside.olds c.self.inside.used c.self.inside.links c.self.invariant.0 c.args.node c.args.x c.args.rhs (room known) c.requires.some (within known) in
    let nodes = ap (λ n. edited_from c.insert_before.new.self.lists 0 (take n items)) next ∙ ap (λ l. edited_from l 0 (take (suc c.self.inside.used) items)) c.insert_before.ensures.inserted ∙ made in
    ap (λ l. (record { name = c.self.inside.name; shared = c.self.inside.shared; vars = c.self.inside.vars; received = c.self.inside.received; nodes = l })) nodes
    ∙ ap (λ (e : EditorShape). (record e.graph { nodes = put_before c.args.node c.args.x c.args.rhs e.graph.nodes })) c.self.view_is
