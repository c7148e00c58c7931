-- The lines of a graph. Cited by contracts, those of the crates above too.
use Rattle.std.specs.Prelude.{ℕ, suc, List, [], ◌∷◌, ◌++◌, codes, decimal, flat_map}
use Rattle.mir_base.specs.declared.instructions.Test.{Test}
use Rattle.mir_base.specs.Text.{call_text, operand_text, test_text}
use Rattle.mir_print.specs.Sides.{naming_among, naming_with}
use Rattle.flow_graph.specs.declared.nodes.Node.{Node}
use Rattle.flow_graph.specs.declared.nodes.Node.TheVariants as nodes
use Rattle.flow_graph.specs.Graphs.{GraphShape}
use Rattle.table_text.specs.Lines.{assigned_text, field, name_field}

-- ---- nodes

-- `test` with its two successors, the one that is taken first
abbrev pub ways_text : ℕ → ℕ → List ℕ
ways_text taken other = codes " test" ++ field (decimal taken) ++ codes "," ++ decimal other

-- `if a < b trap 3`, behind a blank
abbrev pub guard_text : List (List ℕ) → Test → ℕ → List ℕ
guard_text vars test number =
    codes " if " ++ test_text (naming_with vars) test ++ codes " trap" ++ field (decimal number)

-- what a node is, where it leads, and its instruction without label and jump, over variables and units of these names
abbrev pub node_text : List (List ℕ) → List (List ℕ) → Node → List ℕ
node_text units vars (nodes.Start next) = codes " start" ++ field (decimal next)
node_text units vars (nodes.Skip next) = codes " skip" ++ field (decimal next)
node_text units vars (nodes.Assign x rhs next) =
    codes " assign" ++ field (decimal next) ++ codes " " ++ assigned_text vars x rhs
node_text units vars (nodes.Print a next) =
    codes " print" ++ field (decimal next) ++ codes " print " ++ operand_text (naming_with vars) a
node_text units vars (nodes.Guard test number next) =
    codes " guard" ++ field (decimal next) ++ guard_text vars test number
node_text units vars (nodes.Call into unit operands next) =
    codes " call" ++ field (decimal next) ++ codes " "
    ++ call_text (naming_among units vars) into unit operands
node_text units vars (nodes.Test test taken other) =
    ways_text taken other ++ codes " if " ++ test_text (naming_with vars) test
node_text units vars (nodes.Return a) =
    codes " return -" ++ codes " return " ++ operand_text (naming_with vars) a

-- the line of a node of this number
abbrev pub node_line : List (List ℕ) → List (List ℕ) → ℕ → Node → List ℕ
node_line units vars number node =
    codes "node" ++ field (decimal number) ++ node_text units vars node ++ codes "\n"

-- the lines of nodes, of which the first has this number
abbrev pub node_lines : List (List ℕ) → List (List ℕ) → ℕ → List Node → List ℕ
node_lines units vars number [] = []
node_lines units vars number (node ∷ nodes) =
    node_line units vars number node ++ node_lines units vars (suc number) nodes

-- ---- graphs

-- how many of the variables are globals
abbrev pub globals_text : ℕ → List ℕ
globals_text shared = codes "globals" ++ field (decimal shared) ++ codes "\n"

-- the names of all variables, and of those that are received
abbrev pub variables_text : List (List ℕ) → List ℕ → List ℕ
variables_text vars received =
    codes "vars" ++ flat_map field vars
    ++ codes "\nreceived" ++ flat_map (name_field vars) received ++ codes "\n"

-- the lines of a graph, among units of these names
abbrev pub graph_text : List (List ℕ) → GraphShape → List ℕ
graph_text units graph =
    globals_text graph.shared ++ variables_text graph.vars graph.received
    ++ node_lines units graph.vars 0 graph.nodes

-- the same behind the name of its stage
abbrev pub stage_text : List (List ℕ) → List ℕ → GraphShape → List ℕ
stage_text units name graph = codes "stage " ++ name ++ codes "\n" ++ graph_text units graph
