-- Laws of what passes keep: one pass, none, passes one after the other, and a pass that writes nodes. For proofs only;
-- the passes of the crates above cite them.
use Rattle.std.proofs.Common.{◌≡◌, ℕ, List, [], ◌∷◌, refl, ap, ◌∙◌}
use Rattle.std.specs.Prelude.{All, get_or, take}
use Rattle.std.proofs.lemmas.List.Elements.{All-cons, All-nil}
use Rattle.mir_base.specs.LockstepLaws.{cheaper_refl}
use Rattle.mir_base.specs.UnitLaws.{same_refl, same_trans, cheaper_trans}
use Rattle.mir_base.specs.UnitRuns.{UnitCheaper, UnitSame}
use Rattle.flow_graph.specs.declared.nodes.Node.{Node}
use Rattle.flow_graph.specs.Calls.{NodesCall}
use Rattle.flow_graph.specs.Graphs.{GraphShape}
use Rattle.flow_graph.specs.Keeps.{Form, AsGraph, Keeps, KeepInTurn, form_machine}
use Rattle.flow_graph.specs.MachineLaws.{form_hands}
use Rattle.flow_graph.specs.Machines.{graph_machine, machine_of}

-- ---- no pass, two passes

-- no pass keeps all
pub keeps_refl : (a : Form) → Keeps a a
keeps_refl a = record { name = refl; globals = refl; same = same_refl (form_machine a); cheaper = cheaper_refl (form_machine a) (form_hands a); calls = λ called count c. c }

-- of two passes
pub keeps_trans : (a b c : Form) → Keeps a b → Keeps b c → Keeps a c
keeps_trans a b c k l = record {
  name = l.name ∙ k.name;
  globals = l.globals ∙ k.globals;
  same = same_trans (form_machine a) (form_machine b) (form_machine c) k.same l.same;
  cheaper = cheaper_trans (form_machine a) (form_machine b) (form_machine c) k.same k.cheaper l.cheaper;
  calls = λ called count made. k.calls called count (l.calls called count made);
}

-- ---- a pass that writes nodes, of which a graph is made

-- a graph with the variables of another, as many of them globals, has its globals
pub same_globals : (graph made : GraphShape) → made.shared ≡ graph.shared → made.vars ≡ graph.vars → take made.shared made.vars ≡ take graph.shared graph.vars
same_globals graph made shared vars = ap (λ k. take k made.vars) shared ∙ ap (take graph.shared) vars

-- where the nodes do the same as the graph, and the graph that is made of them has its globals and does the same as
-- they, it keeps the graph
pub made_keeps : (graph made : GraphShape) (nodes : List Node) → made.name ≡ graph.name → take made.shared made.vars ≡ take graph.shared graph.vars
    → UnitSame (machine_of graph) (graph_machine graph.shared graph.received nodes) → UnitCheaper (machine_of graph) (graph_machine graph.shared graph.received nodes) → ((called count : ℕ) → NodesCall nodes called count → NodesCall graph.nodes called count)
    → UnitSame (graph_machine graph.shared graph.received nodes) (machine_of made) → UnitCheaper (graph_machine graph.shared graph.received nodes) (machine_of made) → ((called count : ℕ) → NodesCall made.nodes called count → NodesCall nodes called count)
    → Keeps (AsGraph graph) (AsGraph made)
made_keeps graph made nodes name globals same cheaper calls same' cheaper' calls' = record {
  name = name;
  globals = globals;
  same = same_trans (machine_of graph) (graph_machine graph.shared graph.received nodes) (machine_of made) same same';
  cheaper = cheaper_trans (machine_of graph) (graph_machine graph.shared graph.received nodes) (machine_of made) same cheaper cheaper';
  calls = λ called count c. calls called count (calls' called count c);
}

-- ---- a chain of passes

-- what keeps a form that keeps the first keeps the first
all_keep_first : (first next : Form) → Keeps first next → (forms : List Form) → All (Keeps next) forms → All (Keeps first) forms
all_keep_first first next k forms all = λ n other lt. keeps_trans first next (get_or forms n other) k (all n other lt)

-- each of the forms that passes make one after the other keeps the first
pub chain_keeps : (first : Form) (forms : List Form) → KeepInTurn first forms → All (Keeps first) forms
chain_keeps first [] chain = All-nil (Keeps first)
chain_keeps first (next ∷ forms) chain = All-cons (Keeps first) next forms chain.0 (all_keep_first first next chain.0 forms (chain_keeps next forms chain.1))
