-- Law: where no assignment stands more often on one path than on another, the assignments of the one weigh no more
-- together, whatever each weighs: so there are no more of them, and they evaluate no more operators.
use Rattle.std.proofs.Common.{◌≡◌, ◌+◌, ◌≤◌, ℕ, Bool, true, false, nat_eq, not, ◌&&◌, if◌then◌else◌, count_by, List, [], ◌∷◌, slice_get, Option, Some, None, inl, inr, refl, sym, ap, ◌∙◌, arith}
use Rattle.std.proofs.lemmas.Bool.{and_from, and_parts, cases_Bool, eq-eqb, eqb-true, true≢false}
use Rattle.std.proofs.Math.Bool.{and-true}
use Rattle.mir_base.specs.Expressions.{divides}
use Rattle.mir_base.specs.declared.instructions.Rhs.{Rhs}
use Rattle.flow_graph.specs.declared.nodes.Node.{Node}
use Rattle.flow_graph.specs.declared.nodes.Node.TheVariants.{Start, Skip, Assign, Print, Guard, Call, Test, Return}
use Rattle.flow_graph.specs.Graphs.{GraphShape}
use Rattle.flow_graph.specs.Sums.{count_sums, one_if, sum_on}
use Rattle.graph_edit.specs.Insertions.{Insertion}
use Rattle.graph_edit.specs.Over.{weigh, weigh_all, weight_at}
use Rattle.graph_edit.specs.Accesses.{is_occurrence, occurs_at, same_rhs}
use Rattle.graph_edit.specs.SameRhs.{same_rhs_is, same_rhs_itself}

-- ---- lists of assignments

-- the plain or movable assignment of a node, before these
abbrev with_node : Option Node → List Insertion → List Insertion
with_node None l = l
with_node (Some (Start next)) l = l
with_node (Some (Skip next)) l = l
with_node (Some (Assign x rhs next)) l =
    if divides rhs then l else record { var = x; rhs = rhs } ∷ l
with_node (Some (Print a next)) l = l
with_node (Some (Guard test number next)) l = l
with_node (Some (Call into unit operands next)) l = l
with_node (Some (Test test taken other)) l = l
with_node (Some (Return a)) l = l

-- those on a path
abbrev assigned_on : List Node → List ℕ → List Insertion
assigned_on nodes [] = []
assigned_on nodes (n ∷ path) = with_node (slice_get nodes n) (assigned_on nodes path)

-- it is this one
abbrev is_one : ℕ → Rhs → Insertion → Bool
is_one x t p = nat_eq x p.var && same_rhs t p.rhs

-- how often it is among them
abbrev copies : ℕ → Rhs → List Insertion → ℕ
copies x t [] = 0
copies x t (p ∷ ps) = one_if (is_one x t p) + copies x t ps

-- none divides
abbrev AllUndivided : List Insertion → Type 0
AllUndivided [] = Unit {0}
AllUndivided (p ∷ ps) = (divides p.rhs ≡ false) × AllUndivided ps

-- ---- one taken out

-- insertions are this one and a rest, by how many there are of each and by weight
record TakenOut (a : Insertion) (ps : List Insertion) : Type 0 where
  rest : List Insertion
  copied : (x : ℕ) (t : Rhs) → copies x t ps ≡ one_if (is_one x t a) + copies x t rest
  weighs : (weight : ℕ → Rhs → ℕ) → weigh_all weight ps ≡ weight a.var a.rhs + weigh_all weight rest

-- one that is among them can be taken out
take_out : (a : Insertion) (ps : List Insertion) → 1 ≤ copies a.var a.rhs ps → TakenOut a ps
take_out a [] some = absurd (omega (arith, some))
take_out a (p ∷ ps) some = elim (cases_Bool (is_one a.var a.rhs p)) [
  | inl is ↦
      let both = and_parts (nat_eq a.var p.var) (same_rhs a.rhs p.rhs) is in
      let var : a.var ≡ p.var = eqb-true a.var p.var both.0 in
      let rhs : a.rhs ≡ p.rhs = same_rhs_is a.rhs p.rhs both.1 in
      record {
        rest = ps;
        copied = λ x t. ap (λ y. one_if (nat_eq x y && same_rhs t p.rhs) + copies x t ps) (sym var) ∙ ap (λ u. one_if (nat_eq x a.var && same_rhs t u) + copies x t ps) (sym rhs);
        weighs = λ weight. ap (λ y. weight y p.rhs + weigh_all weight ps) (sym var) ∙ ap (λ u. weight a.var u + weigh_all weight ps) (sym rhs);
      }
  | inr other ↦
      let none = ap {B = ℕ} one_if other in
      let out = take_out a ps (omega (arith, some, none)) in
      record {
        rest = p ∷ out.rest;
        copied = λ x t. (let now = out.copied x t in omega (arith, now));
        weighs = λ weight. (let now = out.weighs weight in omega (arith, now));
      }
]

-- where each is among the others as often, they weigh no more
lighter : (weight : ℕ → Rhs → ℕ) (ps qs : List Insertion) → AllUndivided ps → ((x : ℕ) (t : Rhs) → divides t ≡ false → copies x t ps ≤ copies x t qs) → weigh_all weight ps ≤ weigh_all weight qs
lighter weight [] qs all fewer = omega arith
lighter weight (p ∷ ps) qs all fewer =
    let itself = ap {B = ℕ} one_if (and_from (nat_eq p.var p.var) (same_rhs p.rhs p.rhs) (eq-eqb p.var p.var refl) (same_rhs_itself p.rhs)) in
    let here = fewer p.var p.rhs all.0 in
    let out = take_out p qs (omega (arith, here, itself)) in
    let rest = lighter weight ps out.rest all.1 (λ x t sinkable. (let one = fewer x t sinkable in let now = out.copied x t in omega (arith, one, now))) in
    let now = out.weighs weight in
    omega (arith, rest, now)

-- ---- those on a path

-- with a node's own assignment none divides, where it does not
undivided : (o : Option Node) (l : List Insertion) → AllUndivided l → AllUndivided (with_node o l)
undivided None l all = all
undivided (Some (Start next)) l all = all
undivided (Some (Skip next)) l all = all
undivided (Some (Assign x rhs next)) l all = by (divides rhs) refl
  where
    by : (b : Bool) → divides rhs ≡ b → AllUndivided (if b then l else record { var = x; rhs = rhs } ∷ l)
    by true e = all
    by false e = (e, all)
undivided (Some (Print a next)) l all = all
undivided (Some (Guard test number next)) l all = all
undivided (Some (Call into unit operands next)) l all = all
undivided (Some (Test test taken other)) l all = all
undivided (Some (Return a)) l all = all

-- none on a path divides
all_undivided : (nodes : List Node) (path : List ℕ) → AllUndivided (assigned_on nodes path)
all_undivided nodes [] = tt
all_undivided nodes (n ∷ path) = undivided (slice_get nodes n) (assigned_on nodes path) (all_undivided nodes path)

module _ (x : ℕ) (t : Rhs) (sinkable : divides t ≡ false) where
  -- a node adds one copy where it is this assignment
  one_more : (o : Option Node) (l : List Insertion) → copies x t (with_node o l) ≡ one_if (is_occurrence x t o) + copies x t l
  one_more None l = omega arith
  one_more (Some (Start next)) l = omega arith
  one_more (Some (Skip next)) l = omega arith
  one_more (Some (Assign y u next)) l = by (divides u) refl
    where
      whole : is_occurrence x t (Some (Assign y u next)) ≡ (nat_eq x y && same_rhs t u)
      whole = ap (λ b. nat_eq x y && same_rhs t u && not b) sinkable ∙ and-true (nat_eq x y && same_rhs t u)

      other : divides u ≡ true → (nat_eq x y && same_rhs t u) ≡ false
      other e = elim (cases_Bool (nat_eq x y && same_rhs t u)) [
        | inl is ↦ absurd (true≢false (sym e ∙ ap divides (sym (same_rhs_is t u (and_parts (nat_eq x y) (same_rhs t u) is).1)) ∙ sinkable))
        | inr out ↦ out
      ]

      by : (b : Bool) → divides u ≡ b → copies x t (if b then l else record { var = y; rhs = u } ∷ l) ≡ one_if (is_occurrence x t (Some (Assign y u next))) + copies x t l
      by true e = (let none = ap {B = ℕ} one_if (whole ∙ other e) in omega (arith, none))
      by false e = (let same = ap {B = ℕ} one_if whole in omega (arith, same))
  one_more (Some (Print a next)) l = omega arith
  one_more (Some (Guard test number next)) l = omega arith
  one_more (Some (Call into unit operands next)) l = omega arith
  one_more (Some (Test test taken other)) l = omega arith
  one_more (Some (Return a)) l = omega arith

  -- so there are as many copies as occurrences on the path
  copies_are : (graph : GraphShape) (path : List ℕ) → copies x t (assigned_on graph.nodes path) ≡ sum_on (λ n. one_if (occurs_at x t graph n)) path
  copies_are graph [] = refl
  copies_are graph (n ∷ path) = (let one = one_more (slice_get graph.nodes n) (assigned_on graph.nodes path) in omega (arith, one, copies_are graph path))

module _ (weight : ℕ → Rhs → ℕ) (free : (x : ℕ) (t : Rhs) → divides t ≡ true → weight x t ≡ 0) where
  -- a node adds its weight
  weight_more : (o : Option Node) (l : List Insertion) → weigh_all weight (with_node o l) ≡ weigh weight o + weigh_all weight l
  weight_more None l = omega arith
  weight_more (Some (Start next)) l = omega arith
  weight_more (Some (Skip next)) l = omega arith
  weight_more (Some (Assign y u next)) l = by (divides u) refl
    where
      by : (b : Bool) → divides u ≡ b → weigh_all weight (if b then l else record { var = y; rhs = u } ∷ l) ≡ weight y u + weigh_all weight l
      by true e = (let none = free y u e in omega (arith, none))
      by false e = omega arith
  weight_more (Some (Print a next)) l = omega arith
  weight_more (Some (Guard test number next)) l = omega arith
  weight_more (Some (Call into unit operands next)) l = omega arith
  weight_more (Some (Test test taken other)) l = omega arith
  weight_more (Some (Return a)) l = omega arith

  -- so they weigh what the path weighs
  weights_are : (nodes : List Node) (path : List ℕ) → weigh_all weight (assigned_on nodes path) ≡ sum_on (weight_at weight nodes) path
  weights_are nodes [] = refl
  weights_are nodes (n ∷ path) = (let one = weight_more (slice_get nodes n) (assigned_on nodes path) in omega (arith, one, weights_are nodes path))

  -- where no assignment stands more often on the one path, they weigh no more on it
  pub weighs_less : (a b : GraphShape) (path path' : List ℕ) → ((x : ℕ) (t : Rhs) → divides t ≡ false → count_by (occurs_at x t a) path ≤ count_by (occurs_at x t b) path')
      → sum_on (weight_at weight a.nodes) path ≤ sum_on (weight_at weight b.nodes) path'
  weighs_less a b path path' fewer =
      let less = lighter weight (assigned_on a.nodes path) (assigned_on b.nodes path') (all_undivided a.nodes path) (λ x t sinkable. (
      let one = fewer x t sinkable in
      omega (arith, one, copies_are x t sinkable a path, copies_are x t sinkable b path', count_sums (occurs_at x t a) path, count_sums (occurs_at x t b) path'))) in
      omega (arith, less, weights_are a.nodes path, weights_are b.nodes path')
