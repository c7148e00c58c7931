-- The graph in which self tail calls have become loops. Cited by contracts.
use Rattle.std.specs.Prelude.{◌≡◌, ℕ, zero, suc, ◌-◌, ◌<◌, ◌≤◌, if◌then◌else◌, List, [], ◌∷◌, ◌++◌, length, slice_get, pos, Some}
use Rattle.mir_base.specs.declared.instructions.Operand.{Operand}
use Rattle.mir_base.specs.declared.instructions.Operand.TheVariants.{Var, Const}
use Rattle.mir_base.specs.declared.instructions.Rhs.TheVariants.{Plain}
use Rattle.flow_graph.specs.declared.nodes.Node.{Node}
use Rattle.flow_graph.specs.declared.nodes.Node.TheVariants.{Call, Return}
use Rattle.flow_graph.specs.Calls.{NodesCall}
use Rattle.flow_graph.specs.Graphs.{GraphShape}
use Rattle.graph_edit.specs.Insertions.{Insertion}
use Rattle.flow_graph.specs.Retained.{IsMade}
use Rattle.flow_graph.specs.Numbering.{IsIn, is_in}
use Rattle.flow_graph.specs.Plans.{start_succ}
use Rattle.jump_clean.specs.Chains.{SkipsTo}
use Rattle.program_pass.specs.Chains.{stood}
use Rattle.program_pass.specs.PassPrograms.{PassRelation}
use Rattle.fresh_names.specs.FreshNames.{AreTemporaryNames}

-- ---- which calls are self tail calls

-- from node n Skips, none at all included, lead to a Return of the variable x
pub record ReturnsNext (nodes : List Node) (n x : ℕ) : Type 0 where
  pub there : ℕ
  pub skips : SkipsTo nodes n there
  pub returns : slice_get nodes there ≡ Some (Return (Var x))

-- Node n calls the unit with these arguments, and then returns what it answers. Of the variables the first `shared` are
-- globals, and the answer goes to none of them
pub record IsTailCall (shared : ℕ) (nodes : List Node) (unit n : ℕ)
    (operands : List Operand) : Type 0 where
  pub into : ℕ
  pub next : ℕ
  pub is : slice_get nodes n ≡ Some (Call (Some into) unit operands next)
  pub own : shared ≤ into
  pub returned : ReturnsNext nodes next into

-- node n is a self tail call
abbrev pub HasTailCall : ℕ → List Node → ℕ → ℕ → Type 0
HasTailCall shared nodes unit n = (operands : List Operand)
    × IsTailCall shared nodes unit n operands

-- these are the nodes that are such calls, in order of number
pub record AreTailCalls (shared : ℕ) (nodes : List Node) (unit : ℕ) (calls : List ℕ) : Type 0 where
  pub ordered : (i j m n : ℕ) → i < j → slice_get calls i ≡ Some m → slice_get calls j ≡ Some n
      → m < n
  pub are : (n : ℕ) → IsIn n calls → HasTailCall shared nodes unit n
  pub all : (n : ℕ) → HasTailCall shared nodes unit n → IsIn n calls

-- each call of the unit hands over so many arguments
abbrev pub SelfCallsFit : List Node → ℕ → ℕ → Type 0
SelfCallsFit nodes unit receives = (count : ℕ) → NodesCall nodes unit count → count ≡ receives

-- ---- what they become

-- the variables from number `first` on are set to the arguments
abbrev pub saved : ℕ → List Operand → List Insertion
saved first [] = []
saved first (a ∷ operands) = record { var = first; rhs = Plain a } ∷ saved (suc first) operands

-- the received variables are set to the variables from number `first` on
abbrev pub moved : ℕ → List ℕ → List Insertion
moved first [] = []
moved first (x ∷ received) = record { var = x; rhs = Plain (Var first) }
    ∷ moved (suc first) received

-- of so many variables from number x on, those that are not received are set to 0
abbrev pub cleared : List ℕ → ℕ → ℕ → List Insertion
cleared received x zero = []
cleared received x (suc count) =
    if is_in x received then cleared received (suc x) count
    else record { var = x; rhs = Plain (Const (pos 0)) } ∷ cleared received (suc x) count

-- The assignments of a self tail call in a graph with so many variables, of which the first `shared` are globals, and
-- whose temporaries have the next numbers: the temporaries get the arguments, the received variables get the
-- temporaries, and all other variables that are no globals become 0
abbrev pub loop_assignments : ℕ → ℕ → List ℕ → List Operand → List Insertion
loop_assignments shared vars received operands =
    saved vars operands ++ (moved vars received ++ cleared received shared (vars - shared))

-- One after the other, each of these calls of the graph gives way to its assignments, of which the last leads to where
-- Start leads
abbrev pub AreLooped : GraphShape → ℕ → List ℕ → List Node → List Node → Type 0
AreLooped graph unit [] nodes looped = looped ≡ nodes
AreLooped graph unit (n ∷ calls) nodes looped =
    (operands : List Operand) × IsTailCall graph.shared graph.nodes unit n operands
    × AreLooped graph unit calls
    (stood nodes n (loop_assignments graph.shared (length graph.vars) graph.received operands)
    (start_succ (slice_get graph.nodes 0)))
    looped

-- how many temporaries there are: one for each received variable, where there is a self tail call
abbrev pub temporaries : GraphShape → List ℕ → ℕ
temporaries graph [] = 0
temporaries graph (n ∷ calls) = length graph.received

-- The graph of the unit of this number with its self tail calls as loops, of whose nodes those that are reached are
-- kept
pub record IsTailed (graph : GraphShape) (unit : ℕ) (tailed : GraphShape) : Type 0 where
  pub calls : List ℕ
  pub are_calls : AreTailCalls graph.shared graph.nodes unit calls
  pub names : List (List ℕ)
  pub are_names : AreTemporaryNames graph.vars (temporaries graph calls) names
  pub nodes : List Node
  pub are_looped : AreLooped graph unit calls graph.nodes nodes
  pub made : IsMade graph.name graph.shared (graph.vars ++ names) graph.received nodes tailed

-- ---- what is kept

-- the second graph is the first with its self tail calls as loops, of whose nodes some may not be reached
pub record Loops (graph : GraphShape) (unit : ℕ) (looped : GraphShape) : Type 0 where
  pub calls : List ℕ
  pub are_calls : AreTailCalls graph.shared graph.nodes unit calls
  pub are_looped : AreLooped graph unit calls graph.nodes looped.nodes
  pub shared : looped.shared ≡ graph.shared
  pub received : looped.received ≡ graph.received

-- the exact result of `tail`, as the relation of a pass
abbrev pub Tailed : PassRelation
Tailed unit graph tailed = IsTailed graph unit tailed

-- the nodes with loops lie between
abbrev pub Looped : PassRelation
Looped unit graph looped = Loops graph unit looped
