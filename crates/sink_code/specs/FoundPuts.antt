-- Insertions that are found block by block: those of patterns that come into blocks, those at ends of blocks, all of
-- them, and all in order. Cited by contracts of private functions.
use Rattle.std.specs.Prelude.{◌≡◌, ◌⊎◌, ◌↔◌, ◌&&◌, ℕ, ◌<◌, ◌-◌, Bool, true, false, nat_eq, not, if◌then◌else◌, Contains, List, [], ◌∷◌, ◌++◌, length, slice_get, Option, Some, None}
use Rattle.std.specs.List.{list_any}
use Rattle.mir_base.specs.declared.instructions.Rhs.{Rhs}
use Rattle.flow_graph.specs.declared.nodes.Node.TheVariants.{Skip}
use Rattle.flow_graph.specs.Blocks.{StandsIn}
use Rattle.flow_graph.specs.Graphs.{GraphShape}
use Rattle.flow_graph.specs.Paths.{Ends}
use Rattle.path_laws.specs.Paths.{AreRows, has_bit}
use Rattle.sink_code.specs.declared.inserting.PutBefore.{PutBefore}
use Rattle.sink_code.specs.declared.patterns.Pattern.{Pattern}
use Rattle.sink_code.specs.Delaying.{IsDelayedTo, IsInsertedAt}
use Rattle.sink_code.specs.Inside.{stop_from}
use Rattle.sink_code.specs.BlockPlaces.{stops_at}
use Rattle.sink_code.specs.Puts.{put_at}

-- the list holds what it held, and more
abbrev pub Grows : List PutBefore → List PutBefore → Type 0
Grows old new = (put : PutBefore) → Contains old put → Contains new put

-- ---- from the heads of blocks

-- by the rows the pattern of this number comes into the block, whose nodes these are
pub record ComesInto (lists : List (List ℕ)) (table : List Pattern) (into : List (List Bool))
    (b k : ℕ) (list : List ℕ) (p : Pattern) : Type 0 where
  pub is_block : slice_get lists b ≡ Some list
  pub numbered : slice_get table k ≡ Some p
  pub comes : has_bit into k b ≡ true

-- an insertion of a pattern that comes into a block, before the first node of the block that stops it
pub record IsFromHead (graph : GraphShape) (lists : List (List ℕ)) (table : List Pattern)
    (into : List (List Bool)) (put : PutBefore) : Type 0 where
  pub block : ℕ
  pub number : ℕ
  pub list : List ℕ
  pub p : Pattern
  pub into_block : ComesInto lists table into block number list p
  pub stops : slice_get list (stop_from graph list 0 p) ≡ Some put.node
  pub is : put ≡ put_at put.node p

-- a pattern that comes into a block and passes all its nodes
abbrev pub passes_whole : GraphShape → List ℕ → Pattern → Bool
passes_whole graph list p = not (list_any (stops_at graph p.var p.rhs) list)

-- of the patterns that come into blocks, those of these blocks and numbers are each put before the first node that
-- stops it, or its bit is set among those that leave the block; all else is as it was
pub record AreFromHeads (graph : GraphShape) (lists : List (List ℕ)) (table : List Pattern)
    (into leaves : List (List Bool)) (puts : List PutBefore) (done : ℕ → ℕ → Type 0)
    (rows : List (List Bool)) (now : List PutBefore) : Type 0 where
  pub shape : AreRows (length lists) (length table) rows
  pub grows : Grows puts now
  pub only : (i : ℕ) (put : PutBefore) → slice_get now i ≡ Some put
      → Contains puts put ⊎ IsFromHead graph lists table into put
  pub all : (b k n : ℕ) (list : List ℕ) (p : Pattern) → done b k
      → ComesInto lists table into b k list p → slice_get list (stop_from graph list 0 p) ≡ Some n
      → Contains now (put_at n p)
  pub sound : (b k : ℕ) (list : List ℕ) (p : Pattern) → slice_get lists b ≡ Some list
      → slice_get table k ≡ Some p → has_bit rows k b ≡ true
      → (has_bit leaves k b ≡ true)
      ⊎ ((has_bit into k b ≡ true) × (passes_whole graph list p ≡ true))
  pub kept : (b k : ℕ) → has_bit leaves k b ≡ true → has_bit rows k b ≡ true
  pub passed : (b k : ℕ) (list : List ℕ) (p : Pattern) → done b k
      → ComesInto lists table into b k list p → passes_whole graph list p ≡ true
      → has_bit rows k b ≡ true

-- ---- at the ends of blocks

-- by the rows a pattern leaves a block that ends with a Skip, and does not come into the next
pub record LeavesAtEnd (graph : GraphShape) (lists : List (List ℕ)) (table : List Pattern)
    (into leaves : List (List Bool)) (b n : ℕ) (p : Pattern) : Type 0 where
  pub list : List ℕ
  pub number : ℕ
  pub next : ℕ
  pub after : ℕ
  pub is_block : slice_get lists b ≡ Some list
  pub ends : Ends n list
  pub skips : slice_get graph.nodes n ≡ Some (Skip next)
  pub enters : StandsIn lists after next
  pub numbered : slice_get table number ≡ Some p
  pub leaves_it : has_bit leaves number b ≡ true
  pub lost : has_bit into number after ≡ false

-- at the ends of the blocks below this number these are put, before the last node of each
pub record ArePutAtEnds (graph : GraphShape) (lists : List (List ℕ)) (table : List Pattern)
    (into leaves : List (List Bool)) (below : ℕ) (puts now : List PutBefore) : Type 0 where
  pub grows : Grows puts now
  pub only : (i : ℕ) (put : PutBefore) → slice_get now i ≡ Some put
      → Contains puts put
      ⊎ ((b : ℕ) × (p : Pattern) × LeavesAtEnd graph lists table into leaves b put.node p
      × (put ≡ put_at put.node p))
  pub all : (b n : ℕ) (p : Pattern) → b < below → LeavesAtEnd graph lists table into leaves b n p
      → Contains now (put_at n p)

-- ---- all

-- the list has exactly the insertions of a graph, in any order and as often as it may be; and `delayed n x` is the
-- right side of the one pattern of x that is delayed at node n, where one is
pub record AreFoundPuts (graph : GraphShape) (puts : List PutBefore) : Type 0 where
  pub delayed : ℕ → ℕ → Option Rhs
  pub delayed_are : (n x : ℕ) (t : Rhs) → n < length graph.nodes
      → (delayed n x ≡ Some t) ↔ IsDelayedTo graph x t n
  pub sound : (i : ℕ) (put : PutBefore) → slice_get puts i ≡ Some put
      → (put.node < length graph.nodes) × IsInsertedAt graph put.var put.rhs put.node
  pub complete : (n x : ℕ) (t : Rhs) → n < length graph.nodes → IsInsertedAt graph x t n
      → Contains puts (record { node = n; var = x; rhs = t })

-- ---- in order

-- an insertion comes before another: before an earlier node, or before the same node and of an earlier variable
abbrev pub ComesBefore : PutBefore → PutBefore → Type 0
ComesBefore a b = (a.node < b.node) ⊎ ((a.node ≡ b.node) × (a.var < b.var))

-- the two have one node and one variable
abbrev pub have_one_site : PutBefore → PutBefore → Bool
have_one_site a b = nat_eq a.node b.node && nat_eq a.var b.var

-- whether the first is there and has the node and the variable of the second
abbrev pub is_at_site : Option PutBefore → PutBefore → Bool
is_at_site None put = false
is_at_site (Some last) put = have_one_site last put

-- whether the list ends with an insertion before the same node and of the same variable as this one
abbrev pub ends_at_site : List PutBefore → PutBefore → Bool
ends_at_site puts put = is_at_site (slice_get puts (length puts - 1)) put

-- the list with this one at its end; as it is, where its last one has the same node and variable
abbrev pub with_new : List PutBefore → PutBefore → List PutBefore
with_new puts put = if ends_at_site puts put then puts else puts ++ put ∷ []

-- each comes before the next
abbrev pub PutsAscend : List PutBefore → Type 0
PutsAscend [] = Unit {0}
PutsAscend (a ∷ []) = Unit {0}
PutsAscend (a ∷ b ∷ puts) = ComesBefore a b × PutsAscend (b ∷ puts)

-- none comes after a later one of the list
abbrev pub AreSorted : List PutBefore → Type 0
AreSorted puts = (i j : ℕ) (a b : PutBefore) → i < j → slice_get puts i ≡ Some a
    → slice_get puts j ≡ Some b → ComesBefore b a → ⊥

-- of a list its insertions in order, for each node and variable one
pub record AreOnce (puts once : List PutBefore) : Type 0 where
  pub ascend : PutsAscend once
  pub among : (i : ℕ) (put : PutBefore) → slice_get once i ≡ Some put → Contains puts put
  pub all : (i : ℕ) (put : PutBefore) → slice_get puts i ≡ Some put
      → (j : ℕ) × (other : PutBefore) × (slice_get once j ≡ Some other) × (other.node ≡ put.node)
      × (other.var ≡ put.var)
