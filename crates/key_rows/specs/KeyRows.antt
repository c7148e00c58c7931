-- Rows with a bit for each key of a table, by nodes and by variables, and the rows of what nodes assign. Cited by
-- contracts, here and above.
use Rattle.std.specs.Prelude.{◌≡◌, ◌↔◌, ◌<◌, ◌&&◌, ◌||◌, ℕ, zero, suc, Bool, true, false, nat_eq, List, length, replicate, slice_get, Option, Some, None}
use Rattle.bit_rows.specs.Bits.{or_bits, row_of}
use Rattle.flow_graph.specs.declared.nodes.Node.{Node}
use Rattle.flow_graph.specs.declared.nodes.Node.TheVariants.{Start, Skip, Assign, Print, Guard, Call, Test, Return}
use Rattle.flow_graph.specs.Numbering.{is_in}
use Rattle.path_laws.specs.Paths.{AreRows, has_bit}

-- so many rows, with a bit for each key: whether the test holds of the key and the number of the row
pub record AreKeyRows {K : Type 0} (count : ℕ) (keys : List K) (holds : K → ℕ → Bool)
    (rows : List (List Bool)) : Type 0 where
  pub shape : AreRows count (length keys) rows
  pub bits : (n i : ℕ) (k : K) → n < count → slice_get keys i ≡ Some k
      → has_bit rows i n ≡ holds k n

-- the same of a statement in place of a test
pub record AreKeyRowsWhere {K : Type 0} (count : ℕ) (keys : List K) (Holds : K → ℕ → Type 0)
    (rows : List (List Bool)) : Type 0 where
  pub shape : AreRows count (length keys) rows
  pub bits : (n i : ℕ) (k : K) → n < count → slice_get keys i ≡ Some k
      → (has_bit rows i n ≡ true) ↔ Holds k n

-- ---- keys of nodes

-- the key of a node that may be absent
abbrev pub key_in : {K : Type 0} → (Node → Option K) → Option Node → Option K
key_in key_of None = None
key_in key_of (Some node) = key_of node

-- the node of this number has the key
abbrev pub HasKey : {K : Type 0} → (Node → Option K) → List Node → K → ℕ → Type 0
HasKey key_of nodes k n = key_in key_of (slice_get nodes n) ≡ Some k

-- ---- variables

-- the rows with one bit set in the rows of these variables, and all else as it was
pub record SetsBitAt (number : ℕ) (vars : List ℕ) (old new : List (List Bool)) : Type 0 where
  pub len : length new ≡ length old
  pub each : (x : ℕ) → length (row_of new x) ≡ length (row_of old x)
  pub bits : (x i : ℕ) → x < length old
      → has_bit new i x ≡ (has_bit old i x || (nat_eq number i && is_in x vars))

-- ---- what nodes assign

-- of what is said of each variable, what is said of the one that a node assigns; of Start this, of other nodes `other`,
-- and of a call what is said of the globals, joined with what is said of its variable, where it has one
abbrev pub of_assigned : {A : Type 0} → A → A → A → (A → A → A) → (ℕ → A) → Option Node → A
of_assigned at_start other globals join of_var None = other
of_assigned at_start other globals join of_var (Some (Start next)) = at_start
of_assigned at_start other globals join of_var (Some (Skip next)) = other
of_assigned at_start other globals join of_var (Some (Assign x rhs next)) = of_var x
of_assigned at_start other globals join of_var (Some (Print a next)) = other
of_assigned at_start other globals join of_var (Some (Guard test number next)) = other
of_assigned at_start other globals join of_var (Some (Call None unit arguments next)) = globals
of_assigned at_start other globals join of_var (Some (Call (Some x) unit arguments next)) =
    join globals (of_var x)
of_assigned at_start other globals join of_var (Some (Test test taken after)) = other
of_assigned at_start other globals join of_var (Some (Return a)) = other

-- the rows of the first so many variables, joined
abbrev pub joined_rows : List (List Bool) → ℕ → ℕ → List Bool
joined_rows by_var bits zero = replicate bits false
joined_rows by_var bits (suc n) = or_bits (joined_rows by_var bits n) (row_of by_var n)

-- and with them that of the variable of a call, where it has one
abbrev pub called_row : List (List Bool) → ℕ → ℕ → Option ℕ → List Bool
called_row by_var bits shared None = joined_rows by_var bits shared
called_row by_var bits shared (Some x) = or_bits (joined_rows by_var bits shared) (row_of by_var x)

-- whether the test holds of one of the numbers below this one
abbrev pub any_below : (ℕ → Bool) → ℕ → Bool
any_below holds zero = false
any_below holds (suc n) = any_below holds n || holds n

-- the same of the variables that a node assigns, where so many are globals
abbrev pub any_assigned : Bool → ℕ → (ℕ → Bool) → Option Node → Bool
any_assigned at_start shared of_var node =
    of_assigned at_start false (any_below of_var shared) (λ a b. a || b) of_var node

-- the rows of the variables that a node assigns, joined, where so many are globals; at Start each of so many bits is
-- `at_start`, and at other nodes none is set
abbrev pub assigned_row : Bool → ℕ → List (List Bool) → ℕ → Option Node → List Bool
assigned_row at_start shared by_var bits node = of_assigned (replicate bits at_start)
    (replicate bits false) (joined_rows by_var bits shared) or_bits (row_of by_var) node

-- each row is that of its node
abbrev pub AreAssignedRows : Bool → ℕ → List (List Bool) → ℕ → List Node → List (List Bool) → Type 0
AreAssignedRows at_start shared by_var bits nodes rows = (n : ℕ) → n < length nodes
    → row_of rows n ≡ assigned_row at_start shared by_var bits (slice_get nodes n)
