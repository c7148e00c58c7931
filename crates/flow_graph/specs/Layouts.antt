-- The unit of a graph: what its plan emits, with the variables numbered by their first occurrence. Cited by contracts
-- of `layout`.
use Rattle.std.specs.Prelude.{◌≡◌, ℕ, ◌+◌, if◌then◌else◌, nat_eq, List, [], ◌∷◌, ◌++◌, map, length, slice_get, slice_index_or, Option, Some, None}
use Rattle.mir_base.specs.declared.instructions.Inst.{Inst}
use Rattle.mir_base.specs.declared.instructions.Inst.TheVariants as insts
use Rattle.mir_base.specs.Shapes.{UnitShape}
use Rattle.flow_graph.specs.declared.plan.Item.{Item}
use Rattle.flow_graph.specs.declared.plan.Item.TheVariants.{Placed, Jump}
use Rattle.flow_graph.specs.declared.nodes.Node.{Node}
use Rattle.flow_graph.specs.declared.nodes.Node.TheVariants.{Start, Skip, Assign, Print, Guard, Call, Test, Return}
use Rattle.flow_graph.specs.Graphs.{GraphShape}
use Rattle.flow_graph.specs.Numbering.{renumbered, seen_in}
use Rattle.flow_graph.specs.Plans.{IsWholePlan}

-- ---- what a plan emits

-- Start's work is done by the receives, and a Skip emits nothing
abbrev pub emitted_by : (ℕ → ℕ) → Option Node → List Inst
emitted_by place None = []
emitted_by place (Some (Start next)) = []
emitted_by place (Some (Skip next)) = []
emitted_by place (Some (Assign x rhs next)) = insts.Assign x rhs ∷ []
emitted_by place (Some (Print a next)) = insts.Print a ∷ []
emitted_by place (Some (Guard test number next)) = insts.TrapIf test number ∷ []
emitted_by place (Some (Call into unit operands next)) = insts.Call into unit operands ∷ []
emitted_by place (Some (Test test taken other)) = insts.If test (place taken) ∷ []
emitted_by place (Some (Return a)) = insts.Return a ∷ []

-- the instructions of an item: those of its node, or a Goto
abbrev pub item_insts : List Node → (ℕ → ℕ) → Item → List Inst
item_insts nodes place (Placed n) = emitted_by place (slice_get nodes n)
item_insts nodes place (Jump n) = insts.Goto (place n) ∷ []

-- those of the items, the newest item last
abbrev pub emitted : List Node → (ℕ → ℕ) → List Item → List Inst
emitted nodes place [] = []
emitted nodes place (item ∷ older) = emitted nodes place older ++ item_insts nodes place item

-- how many instructions an item emits, whatever the places are
abbrev pub item_size : List Node → Item → ℕ
item_size nodes item = length (item_insts nodes (λ n. n) item)

-- how many instructions there are after the items of a plan, the receives included
abbrev pub size : List Node → ℕ → List Item → ℕ
size nodes receives [] = receives
size nodes receives (item ∷ older) = size nodes receives older + item_size nodes item

-- the place of a node: how many instructions there are before it
abbrev pub place_in : List Node → ℕ → List Item → ℕ → ℕ
place_in nodes receives [] n = 0
place_in nodes receives (Placed m ∷ older) n =
    if nat_eq m n then size nodes receives older else place_in nodes receives older n
place_in nodes receives (Jump m ∷ older) n = place_in nodes receives older n

-- the body before its variables are renumbered
abbrev pub plain_body : List ℕ → List Node → List Item → List Inst
plain_body received nodes plan =
    map insts.Receive received ++ emitted nodes (place_in nodes (length received) plan) plan

-- ---- the layout

-- the variables and the body of the unit
pub record IsLaid (shared : ℕ) (vars : List (List ℕ)) (received : List ℕ) (nodes : List Node)
    (names : List (List ℕ))
    (body : List Inst) : Type 0 where
  pub plan : List Item
  pub is_plan : IsWholePlan nodes plan
  pub names_are : names
      ≡ map (λ x. slice_index_or vars x []) (seen_in shared (plain_body received nodes plan))
  pub body_is : body ≡ renumbered shared (plain_body received nodes plan)

-- the unit of the graph
pub record IsLayout (graph : GraphShape) (unit : UnitShape) : Type 0 where
  pub name : unit.name ≡ graph.name
  pub shared : unit.shared ≡ graph.shared
  pub laid : IsLaid graph.shared graph.vars graph.received graph.nodes unit.vars unit.body
