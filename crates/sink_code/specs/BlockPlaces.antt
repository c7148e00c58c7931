-- The nearest nodes of a block, from a place on, that read or assign each variable, and the nearest that blocks a
-- pattern. Cited by contracts of private functions.
use Rattle.std.specs.Prelude.{◌≡◌, ℕ, suc, ◌<◌, ◌≤◌, ◌||◌, ◌++◌, Bool, true, false, nat_eq, if◌then◌else◌, min, List, [], ◌∷◌, drop, length, slice_get, slice_set, Option, Some, None}
use Rattle.std.specs.List.{list_any}
use Rattle.mir_base.specs.declared.instructions.Rhs.{Rhs}
use Rattle.mir_base.specs.Shapes.{rhs_vars}
use Rattle.flow_graph.specs.declared.nodes.Node.{Node}
use Rattle.flow_graph.specs.declared.nodes.Node.TheVariants.{Start, Skip, Assign, Print, Guard, Call, Test, Return}
use Rattle.flow_graph.specs.Graphs.{GraphShape, node_reads}
use Rattle.sink_code.specs.declared.patterns.Pattern.{Pattern}
use Rattle.sink_code.specs.declared.places.BlockPlace.{BlockPlace}
use Rattle.sink_code.specs.declared.places.BlockPlaces.{BlockPlaces}
use Rattle.graph_edit.specs.Accesses.{assigns_at, reads_at, assigned_vars}

-- ---- what is noted

-- the places with this one for each of these variables
abbrev pub noted : BlockPlace → List ℕ → List BlockPlace → List BlockPlace
noted place [] places = places
noted place (x ∷ xs) places = noted place xs (slice_set places x place)

-- the index of a place, where there is one and it is in this block, and else this number
abbrev pub index_or : ℕ → ℕ → Option BlockPlace → ℕ
index_or block len None = len
index_or block len (Some place) = if nat_eq place.block block then place.index else len

-- what is noted for a variable in this block of so many nodes
abbrev pub index_in : List BlockPlace → ℕ → ℕ → ℕ → ℕ
index_in places x block len = index_or block len (slice_get places x)

-- the nearest of an index and of those noted for these variables
abbrev pub nearest : List BlockPlace → ℕ → ℕ → ℕ → List ℕ → ℕ
nearest places block len index [] = index
nearest places block len index (y ∷ ys) =
    nearest places block len (min (index_in places y block len) index) ys

-- of what is noted for the variable of a pattern, read or assigned, and for those of its right side, assigned
abbrev pub stop_by : BlockPlaces → ℕ → ℕ → Pattern → ℕ
stop_by places block len p = nearest places.assign.items block len
    (index_in places.access.items p.var block len) (rhs_vars p.rhs)

-- what is noted once the node at this place is taken in
pub record TakesInNode (graph : GraphShape) (node : Node) (place : BlockPlace)
    (old new : BlockPlaces) : Type 0 where
  pub access : new.access.items
      ≡ noted place (node_reads graph node ++ assigned_vars graph node) old.access.items
  pub assign : new.assign.items ≡ noted place (assigned_vars graph node) old.assign.items

-- ---- what it means

-- the index of the first node of which the test holds, where the first of the list has this index; where it holds of
-- none, the index after the last
abbrev pub first_where : (ℕ → Bool) → ℕ → List ℕ → ℕ
first_where test index [] = index
first_where test index (n ∷ list) = if test n then index else first_where test (suc index) list

-- node n reads or assigns x
abbrev pub accesses_at : GraphShape → ℕ → ℕ → Bool
accesses_at graph x n = reads_at graph x n || assigns_at graph x n

-- node n reads or assigns x, or assigns a variable of t: it blocks the pattern x <- t, where it is not Start
abbrev pub stops_at : GraphShape → ℕ → Rhs → ℕ → Bool
stops_at graph x t n = accesses_at graph x n || list_any (λ y. assigns_at graph y n) (rhs_vars t)

-- the places are of this block and of later ones
abbrev pub AreFrom : ℕ → List BlockPlace → Type 0
AreFrom block places = (x : ℕ) (place : BlockPlace) → slice_get places x ≡ Some place
    → block ≤ place.block

-- for each variable they tell the first node of the block, from this index on, of which the test holds
abbrev pub TellFirst : ℕ → (ℕ → ℕ → Bool) → ℕ → ℕ → List ℕ → List BlockPlace → Type 0
TellFirst vars test block index list places = (x : ℕ) → x < vars
    → index_in places x block (length list) ≡ first_where (test x) index (drop index list)

-- so it is of what nodes read and assign, once those of this block from this index on, and the later blocks, are taken
-- in
pub record AreTakenIn (graph : GraphShape) (block index : ℕ) (list : List ℕ)
    (places : BlockPlaces) : Type 0 where
  pub access_long : length places.access.items ≡ length graph.vars
  pub assign_long : length places.assign.items ≡ length graph.vars
  pub access_from : AreFrom block places.access.items
  pub assign_from : AreFrom block places.assign.items
  pub access : TellFirst (length graph.vars) (accesses_at graph) block index
      list places.access.items
  pub assign : TellFirst (length graph.vars) (assigns_at graph) block index list places.assign.items

-- the places of a graph, of this block and of later ones
pub record AreBlockPlaces (graph : GraphShape) (block : ℕ) (places : BlockPlaces) : Type 0 where
  pub access_long : length places.access.items ≡ length graph.vars
  pub assign_long : length places.assign.items ≡ length graph.vars
  pub access_from : AreFrom block places.access.items
  pub assign_from : AreFrom block places.assign.items
