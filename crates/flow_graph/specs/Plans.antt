-- The order in which the nodes of a graph are laid out, in stretches: each later stretch begins at the `taken` of a
-- Test, where that has no place yet, and ends in a Return or a jump. Cited by contracts of `layout`.
use Rattle.std.specs.Prelude.{◌≡◌, ℕ, Bool, false, if◌then◌else◌, nat_eq, ◌||◌, List, [], ◌∷◌, slice_get, Option, Some, None, option_map}
use Rattle.std.specs.Option.{option_or}
use Rattle.flow_graph.specs.declared.plan.Item.{Item}
use Rattle.flow_graph.specs.declared.plan.Item.TheVariants.{Placed, Jump}
use Rattle.flow_graph.specs.declared.nodes.Node.{Node}
use Rattle.flow_graph.specs.declared.nodes.Node.TheVariants.{Start, Test}
use Rattle.flow_graph.specs.Graphs.{following}

-- A plan is a list of items, the latest first. Node n has a place in it where it was placed
abbrev pub is_placed : ℕ → List Item → Bool
is_placed n [] = false
is_placed n (Placed m ∷ older) = nat_eq m n || is_placed n older
is_placed n (Jump m ∷ older) = is_placed n older

-- the `taken` successor of a Test, where the plan has not placed it
abbrev pub open_at : List Item → Option Node → Option ℕ
open_at plan (Some (Test test taken other)) = if is_placed taken plan then None else Some taken
open_at plan _ = None

-- of the Tests among these items, in the order of placing, the first whose `taken` successor the plan has not placed:
-- that successor
abbrev pub first_open : List Node → List Item → List Item → Option ℕ
first_open nodes plan [] = None
first_open nodes plan (Placed n ∷ older) =
    option_or (first_open nodes plan older) (open_at plan (slice_get nodes n))
first_open nodes plan (Jump n ∷ older) = first_open nodes plan older

-- a new stretch begins there
abbrev pub new_stretch : List Node → List Item → Option Item
new_stretch nodes plan = option_map Placed (first_open nodes plan plan)

-- A stretch goes on with the node that follows, or ends with a jump to it where it has a place; where none follows, a
-- new stretch begins
abbrev pub after_node : List Node → List Item → Option ℕ → Option Item
after_node nodes plan (Some s) = Some (if is_placed s plan then Jump s else Placed s)
after_node nodes plan None = new_stretch nodes plan

-- What comes after the items of a plan, if anything; the first item is Start's successor
abbrev pub next_item : List Node → ℕ → List Item → Option Item
next_item nodes first [] = Some (Placed first)
next_item nodes first (Placed n ∷ older) =
    after_node nodes (Placed n ∷ older) (following (slice_get nodes n))
next_item nodes first (Jump n ∷ older) = new_stretch nodes (Jump n ∷ older)

-- each item is what comes after those before it
abbrev pub IsPlan : List Node → ℕ → List Item → Type 0
IsPlan nodes first [] = Unit {0}
IsPlan nodes first (item ∷ older) = (next_item nodes first older ≡ Some item)
    × IsPlan nodes first older

-- where Start leads
abbrev pub start_succ : Option Node → ℕ
start_succ (Some (Start next)) = next
start_succ _ = 0

-- the plan of the nodes of a graph: it begins at Start's successor, and nothing comes after it
pub record IsWholePlan (nodes : List Node) (plan : List Item) : Type 0 where
  pub is_plan : IsPlan nodes (start_succ (slice_get nodes 0)) plan
  pub complete : next_item nodes (start_succ (slice_get nodes 0)) plan ≡ None
