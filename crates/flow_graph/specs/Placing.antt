-- What the laying out of a graph keeps: marks of the placed nodes, the table of their places, and the table of the
-- variables seen. Cited by contracts of src/plan.rt, src/emit.rt and src/seen.rt alone.
use Rattle.std.specs.Prelude.{◌≡◌, ℕ, ◌+◌, ◌<◌, ◌≤◌, Bool, true, false, if◌then◌else◌, List, [], ◌∷◌, reverse, take, length, slice_get, slice_set, slice_index_or, Option, Some, None}
use Rattle.flow_graph.specs.declared.plan.Item.{Item}
use Rattle.flow_graph.specs.declared.plan.Item.TheVariants.{Placed, Jump}
use Rattle.flow_graph.specs.declared.nodes.Node.{Node}
use Rattle.flow_graph.specs.declared.nodes.Node.TheVariants.{Test}
use Rattle.flow_graph.specs.Graphs.{following}
use Rattle.flow_graph.specs.Layouts.{place_in}
use Rattle.flow_graph.specs.Numbering.{is_in, first_index}
use Rattle.flow_graph.specs.Plans.{first_open, is_placed, open_at}
use Rattle.flow_graph.specs.ReachWalks.{unmarked}

-- ---- plans

-- the marks of the nodes that a plan has placed
pub record ArePlaced (nodes : List Node) (placed : List Bool) (plan : List Item) : Type 0 where
  pub long : length placed ≡ length nodes
  pub are : (n : ℕ) → n < length nodes → slice_index_or placed n false ≡ is_placed n plan

-- the node of each item is in range
abbrev pub ItemsWithin : ℕ → List Item → Type 0
ItemsWithin n [] = Unit {0}
ItemsWithin n (Placed m ∷ items) = (m < n) × ItemsWithin n items
ItemsWithin n (Jump m ∷ items) = (m < n) × ItemsWithin n items

-- the `taken` of a Test
abbrev pub taken_of : Option Node → Option ℕ
taken_of (Some (Test test taken other)) = Some taken
taken_of _ = None

-- the number where it is not marked
abbrev pub open_by : List Bool → Option ℕ → Option ℕ
open_by placed None = None
open_by placed (Some n) = if slice_index_or placed n false then None else Some n

-- the `taken` of an item that is a placed Test, where it is not marked
abbrev pub open_by_item : List Node → List Bool → Item → Option ℕ
open_by_item nodes placed (Placed n) = open_by placed (taken_of (slice_get nodes n))
open_by_item nodes placed (Jump n) = None

-- the open successor of one item
abbrev pub open_item : List Node → List Item → Item → Option ℕ
open_item nodes plan (Placed n) = open_at plan (slice_get nodes n)
open_item nodes plan (Jump n) = None

-- the open successor of an item, where there is an item
abbrev pub open_if : List Node → List Item → Option Item → Option ℕ
open_if nodes plan None = None
open_if nodes plan (Some item) = open_item nodes plan item

-- none of the first items, in the order of placing, is a Test with an open successor
pub record AreClosed (nodes : List Node) (items : List Item) (first : ℕ) : Type 0 where
  pub few : first ≤ length items
  pub none : first_open nodes (reverse items) (reverse (take first items)) ≡ None

-- the item of this number, if there is one, has the first open successor
abbrev pub FirstOpenIsAt : List Node → List Item → ℕ → Type 0
FirstOpenIsAt nodes items number = first_open nodes (reverse items) (reverse items)
    ≡ open_if nodes (reverse items) (slice_get items number)

-- the node that follows an item in its stretch
abbrev pub follower_of : List Node → Item → Option ℕ
follower_of nodes (Placed n) = following (slice_get nodes n)
follower_of nodes (Jump n) = None

-- the marks after an item
abbrev pub placed_after : List Bool → Item → List Bool
placed_after placed (Placed n) = slice_set placed n true
placed_after placed (Jump n) = placed

-- 1 where the plan ends in a node
abbrev pub open_end : List Item → ℕ
open_end (Placed n ∷ older) = 1
open_end _ = 0

-- what each item makes less
abbrev pub plan_weight : List Bool → List Item → ℕ
plan_weight placed plan = unmarked placed + unmarked placed + open_end plan

-- ---- places

-- the table has the places of the nodes
pub record ArePlaces (nodes : List Node) (receives : ℕ) (plan : List Item)
    (places : List ℕ) : Type 0 where
  pub long : length places ≡ length nodes
  pub are : (n : ℕ) → n < length nodes → slice_index_or places n 0 ≡ place_in nodes receives plan n

-- the table of places after an item
abbrev pub places_after : List ℕ → Item → ℕ → List ℕ
places_after places (Placed n) place = slice_set places n place
places_after places (Jump n) place = places

-- ---- variables

-- the variables seen so far, of so many
pub record Seen : Type 0 where
  pub vars : ℕ
  pub seen : List ℕ

-- the place of a variable that was seen
abbrev pub place_of : List ℕ → ℕ → Option ℕ
place_of seen x = if is_in x seen then Some (first_index seen x) else None

-- the table has the places of the variables seen
pub record ArePositions (seen : List ℕ) (table : List (Option ℕ)) : Type 0 where
  pub are : (x : ℕ) → x < length table → slice_get table x ≡ Some (place_of seen x)
