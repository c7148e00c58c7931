-- A graph can be made of each leaf: one entry after the other.
use Rattle.std.proofs.Common.{◌≡◌, ℕ, ◌+◌, ◌<◌, ◌≤◌, inl, inr, List, length, slice_get, Option, Some, None, refl, sym, ap, ◌∙◌, subst, arith}
use Rattle.std.proofs.lemmas.Bool.{cases_eq}
use Rattle.std.proofs.lemmas.Option.{slice_get_within}
use Rattle.flow_graph.specs.Graphs.{CanMake, GraphShape, SharesVars}
use Rattle.unit_join.specs.Joins.{LeavesCan, leaf_at, or_none}

-- a graph can be made of the leaf, and its globals are variables of it
abbrev pub CanBe : GraphShape → Type 0
CanBe leaf = CanMake leaf.vars leaf.received leaf.nodes × SharesVars leaf.shared leaf.vars leaf.received

-- a graph can be made of the leaf of an entry, where it has one
abbrev pub EntryCan : Option GraphShape → Type 0
EntryCan entry = (leaf : GraphShape) → entry ≡ Some leaf → CanBe leaf

-- and of the leaves of the first i entries
abbrev pub FirstCan : List (Option GraphShape) → ℕ → Type 0
FirstCan leaves i = (u : ℕ) (leaf : GraphShape) → u < i → leaf_at leaves u ≡ Some leaf → CanBe leaf

-- an entry with a leaf
pub some_can : (graph : GraphShape) → CanBe graph → EntryCan (Some graph)
some_can graph can leaf is = let same : graph ≡ leaf = cc in subst CanBe same can

-- an entry with none
pub none_can : EntryCan None
none_can leaf is = cc

-- one more entry
pub first_more : (leaves : List (Option GraphShape)) (i : ℕ) (entry : Option GraphShape) → slice_get leaves i ≡ Some entry → EntryCan entry → FirstCan leaves i → FirstCan leaves (i + 1)
first_more leaves i entry here can first u leaf lt is = elim (cases_eq u i) [
  | inl same ↦ can leaf (sym (ap or_none (ap (slice_get leaves) same ∙ here)) ∙ is)
  | inr apart ↦ first u leaf (grind (arith, lt, apart)) is
]

-- all entries
pub all_can : (leaves : List (Option GraphShape)) (i : ℕ) → length leaves ≤ i → FirstCan leaves i → LeavesCan leaves
all_can leaves i late first u leaf is = first u leaf (go (slice_get leaves u) refl is) is
  where
    go : (o : Option (Option GraphShape)) → slice_get leaves u ≡ o → or_none o ≡ Some leaf → u < i
    go None e f = cc
    go (Some entry) e f = let within = slice_get_within leaves u entry e in omega (arith, within, late)
