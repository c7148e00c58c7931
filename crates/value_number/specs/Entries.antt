-- What the entries of a table of terms name, and that each of them is needed. Cited by contracts.
use Rattle.std.specs.Prelude.{◌≡◌, ◌⊎◌, ℕ, ◌<◌, List, length, slice_get, Option, Some}
use Rattle.flow_graph.specs.declared.nodes.Node.{Node}
use Rattle.flow_graph.specs.Graphs.{GraphShape}
use Rattle.value_number.specs.declared.terms.TermKey.{TermKey}
use Rattle.value_number.specs.declared.terms.TermKey.TheVariants as keys
use Rattle.value_number.specs.Roots.{FromRoot, terms_before}
use Rattle.value_number.specs.Table.{Represent, Stands}
use Rattle.value_number.specs.Terms.{Terms, node_terms}

-- entry k names variables and nodes of so many, and operands that stand before it
abbrev pub IsEntryWithin : (vars nodes k : ℕ) → TermKey → Type 0
IsEntryWithin vars nodes k (keys.Initial x root) = (x < vars) × (root < nodes)
IsEntryWithin vars nodes k (keys.Opaque n x) = (n < nodes) × (x < vars)
IsEntryWithin vars nodes k (keys.Number c) = Unit {0}
IsEntryWithin vars nodes k (keys.Unary op a) = a < k
IsEntryWithin vars nodes k (keys.Binary op a b) = (a < k) × (b < k)

-- the entry has this operand
abbrev pub HasOperand : TermKey → ℕ → Type 0
HasOperand (keys.Initial x root) a = ⊥
HasOperand (keys.Opaque n x) a = ⊥
HasOperand (keys.Number c) a = ⊥
HasOperand (keys.Unary op b) a = a ≡ b
HasOperand (keys.Binary op b c) a = (a ≡ b) ⊎ (a ≡ c)

-- number k is an operand of some entry
abbrev pub IsOperandIn : List TermKey → ℕ → Type 0
IsOperandIn table k = (i : ℕ) × (key : TermKey) × (slice_get table i ≡ Some key) × HasOperand key k

-- number k stands for one of these terms, that of one of so many variables
abbrev pub IsTermOf : List TermKey → ℕ → Terms → ℕ → Type 0
IsTermOf table vars terms k = (x : ℕ) × (x < vars) × Stands table k (terms x)

-- number k stands for the term that some variable has after some node
pub record IsTermAfter (graph : GraphShape) (table : List TermKey) (k : ℕ) : Type 0 where
  pub n : ℕ
  pub node : Node
  pub root : ℕ
  pub before : List ℕ
  pub here : slice_get graph.nodes n ≡ Some node
  pub path : FromRoot graph.nodes root n before
  pub term : IsTermOf table (length graph.vars)
      (node_terms graph.shared n node (terms_before graph.shared graph.nodes root before)) k

-- each entry names variables and nodes of the graph and earlier entries, and is an operand of another entry, or the
-- term of some variable after some node
pub record AreEntries (graph : GraphShape) (table : List TermKey) : Type 0 where
  pub within : (k : ℕ) (key : TermKey) → slice_get table k ≡ Some key
      → IsEntryWithin (length graph.vars) (length graph.nodes) k key
  pub needed : (k : ℕ) (key : TermKey) → slice_get table k ≡ Some key
      → IsOperandIn table k ⊎ IsTermAfter graph table k

-- ---- entries that are put in. Cited by contracts of private functions

-- each new entry names variables and nodes of so many and earlier entries, and is an operand of another entry, or is
-- needed in this way
abbrev pub GainsEntries : (vars nodes : ℕ) → (ℕ → Type 0) → (old new : List TermKey) → Type 0
GainsEntries vars nodes Needed old new = (k : ℕ) (key : TermKey) → slice_get new k ≡ Some key
    → (slice_get old k ≡ Some key)
    ⊎ (IsEntryWithin vars nodes k key × (IsOperandIn new k ⊎ Needed k))

-- no entry has number k but the one of this number
abbrev pub IsSame : ℕ → ℕ → Type 0
IsSame n k = k ≡ n

-- where these numbers stand for some terms, the new entries are needed for the one of this number
abbrev pub GainsEntriesFor : List (Option ℕ) → (root n : ℕ) → (old new : List TermKey) → Type 0
GainsEntriesFor numbers root n old new = (nodes : ℕ) (terms : Terms) → root < nodes
    → Represent old numbers root terms
    → GainsEntries (length numbers) nodes (IsSame n) old new
