-- The terms of the variables before one node, by their numbers in a table. Cited by contracts.
use Rattle.std.specs.Prelude.{◌≡◌, ℕ, List, length, Option}
use Rattle.flow_graph.specs.declared.nodes.Node.{Node}
use Rattle.flow_graph.specs.Graphs.{GraphShape}
use Rattle.value_number.specs.declared.terms.TermKey.{TermKey}
use Rattle.value_number.specs.Roots.{FromRoot, terms_before}
use Rattle.value_number.specs.Table.{AllStand, Represent, Stands}
use Rattle.value_number.specs.Terms.{Term}

-- node n has this root, and for each variable the number is that of the term that it has before the node; where there
-- is no number, that is the variable's leaf of the root. Each number of the table stands for a term
pub record AreTermsBefore (graph : GraphShape) (n root : ℕ) (table : List TermKey)
    (numbers : List (Option ℕ)) : Type 0 where
  pub long : length numbers ≡ length graph.vars
  pub before : List ℕ
  pub path : FromRoot graph.nodes root n before
  pub represent : Represent table numbers root (terms_before graph.shared graph.nodes root before)
  pub stand : AllStand table

-- node n has no other root
abbrev pub IsOnlyRoot : List Node → ℕ → ℕ → Type 0
IsOnlyRoot nodes n root = (other : ℕ) (before : List ℕ) → FromRoot nodes other n before
    → other ≡ root

-- a number of the table stands for at most one term, and a term has at most one number
pub record StandOneToOne (table : List TermKey) : Type 0 where
  pub term : (n : ℕ) (t u : Term) → Stands table n t → Stands table n u → t ≡ u
  pub number : (t : Term) (n m : ℕ) → Stands table n t → Stands table m t → n ≡ m
