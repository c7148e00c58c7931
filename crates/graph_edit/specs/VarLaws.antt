-- Laws of the variables that the nodes of a graph read and assign. For proofs only; the crates above cite them.
use Rattle.std.proofs.Common.{◌≡◌, ℕ, zero, suc, ◌+◌, ◌<◌, ◌≤◌, Bool, true, false, nat_eq, nat_lt, ◌||◌, List, [], ◌∷◌, ◌++◌, flat_map, map, None, Some, inl, inr, refl, sym, ap, ◌∙◌, arith, zero-add}
use Rattle.std.specs.List.{list_any, range_with_len}
use Rattle.std.proofs.Math.Bool.{or-false, or_assoc}
use Rattle.std.proofs.Math.Path.{fun_ext}
use Rattle.std.proofs.lemmas.Bool.{cases_lt, le-ltb, lt-ltb, eq-eqb, ne_eqb, or_parts}
use Rattle.std.proofs.lemmas.Cmp.{nat_eq_equiv}
use Rattle.std.proofs.lemmas.List.FromFn.{map-range_with_len_more}
use Rattle.mir_base.specs.BelowLaws.{all_below_append, all_below_right}
use Rattle.mir_base.specs.Frames.{shared_vars}
use Rattle.mir_base.specs.SharedLaws.{shared_below}
use Rattle.mir_base.specs.Shapes.{AllBelow, into_vars, operand_vars}
use Rattle.flow_graph.specs.declared.nodes.Node.{Node}
use Rattle.flow_graph.specs.declared.nodes.Node.TheVariants.{Start, Skip, Assign, Print, Guard, Call, Test, Return}
use Rattle.flow_graph.specs.Graphs.{GraphShape, assigns, node_reads, node_vars}
use Rattle.flow_graph.specs.Numbering.{is_in}
use Rattle.flow_graph.specs.NumberingLaws.{in_any}
use Rattle.graph_edit.specs.Accesses.{assigned_vars}

-- ---- the variables of a node

-- the variables that a node reads are among its variables and the globals
pub reads_below : (graph : GraphShape) (m : ℕ) → graph.shared ≤ m → (node : Node)
    → AllBelow m (node_vars node) → AllBelow m (node_reads graph node)
reads_below graph m least (Start next) below = below
reads_below graph m least (Skip next) below = below
reads_below graph m least (Assign x rhs next) below = below.1
reads_below graph m least (Print a next) below = below
reads_below graph m least (Guard test number next) below = below
reads_below graph m least (Call into unit operands next) below =
    all_below_append m (shared_vars graph.shared) (flat_map operand_vars operands) (shared_below m graph.shared least) (all_below_right m (into_vars into) (flat_map operand_vars operands) below)
reads_below graph m least (Test test taken other) below = below
reads_below graph m least (Return a) below = all_below_append m (shared_vars graph.shared) (operand_vars a) (shared_below m graph.shared least) below

-- a variable that is none of the graph's is not assigned by a node
pub new_unassigned : (graph : GraphShape) (m x : ℕ) → graph.shared ≤ m → (node : Node)
    → AllBelow m (node_vars node) → m ≤ x → assigns graph x node ≡ false
new_unassigned graph m x least (Start next) below le = refl
new_unassigned graph m x least (Skip next) below le = refl
new_unassigned graph m x least (Assign y rhs next) below le = ne_eqb x y (λ e. omega (arith, e, below.0, le))
new_unassigned graph m x least (Print a next) below le = refl
new_unassigned graph m x least (Guard test number next) below le = refl
new_unassigned graph m x least (Call None unit operands next) below le = le-ltb x graph.shared (omega (arith, least, le))
new_unassigned graph m x least (Call (Some y) unit operands next) below le =
    ap (λ b. b || nat_eq x y) (le-ltb x graph.shared (omega (arith, least, le)))
    ∙ ne_eqb x y (λ e. omega (arith, e, below.0, le))
new_unassigned graph m x least (Test test taken other) below le = refl
new_unassigned graph m x least (Return a) below le = refl

-- none of these is assigned by what assigns nothing
pub assigns_none : (xs : List ℕ) → list_any (λ x. false) xs ≡ false
assigns_none [] = refl
assigns_none (x ∷ xs) = assigns_none xs

-- a node assigns none of these variables
abbrev pub NoneAssigned : GraphShape → Node → List ℕ → Type 0
NoneAssigned graph node [] = Unit {0}
NoneAssigned graph node (x ∷ xs) = (assigns graph x node ≡ false) × NoneAssigned graph node xs

-- so it is where a test of each says so
pub none_assigned : (graph : GraphShape) (node : Node) (xs : List ℕ)
    → list_any (λ x. assigns graph x node) xs ≡ false → NoneAssigned graph node xs
none_assigned graph node [] free = tt
none_assigned graph node (x ∷ xs) free = let parts = or_parts (assigns graph x node) (list_any (λ y. assigns graph y node) xs) free in (parts.0, none_assigned graph node xs parts.1)

-- ---- lists

-- a number stands in two joined lists exactly where it stands in one of them
pub is_in_append : (x : ℕ) (xs ys : List ℕ) → is_in x (xs ++ ys) ≡ (is_in x xs || is_in x ys)
is_in_append x [] ys = refl
is_in_append x (y ∷ xs) ys = ap (λ b. nat_eq y x || b) (is_in_append x xs ys) ∙ sym (or_assoc (nat_eq y x) (is_in x xs) (is_in x ys))

-- one of two tests, in another order
or_swapped : (a b c d : Bool) → ((a || b) || (c || d)) ≡ ((a || c) || (b || d))
or_swapped true b c d = refl
or_swapped false true true d = refl
or_swapped false true false d = refl
or_swapped false false c d = refl

-- an item of which one of two tests holds
pub any_either : (f g : ℕ → Bool) (xs : List ℕ) → list_any (λ x. f x || g x) xs ≡ (list_any f xs || list_any g xs)
any_either f g [] = refl
any_either f g (x ∷ xs) = ap (λ b. (f x || g x) || b) (any_either f g xs) ∙ or_swapped (f x) (g x) (list_any f xs) (list_any g xs)

-- two lists have an item in common, looked at from either
pub any_common : (xs ys : List ℕ) → list_any (λ x. is_in x ys) xs ≡ list_any (λ y. is_in y xs) ys
any_common [] ys = sym (assigns_none ys)
any_common (x ∷ xs) ys =
    ap (λ b. is_in x ys || b) (any_common xs ys)
    ∙ ap (λ b. b || list_any (λ y. is_in y xs) ys) (in_any x ys ∙ ap (λ f. list_any f ys) (fun_ext (λ y. nat_eq_equiv.symm y x)))
    ∙ sym (any_either (λ y. nat_eq x y) (λ y. is_in y xs) ys)

-- ---- globals

-- the number a + i is one of the n numbers from a on where i < n
in_range : (n a i : ℕ) → i < n → is_in (a + i) (range_with_len a n) ≡ true
in_range zero a i lt = absurd (omega (arith, lt))
in_range (suc n) a zero lt = ap (λ b. b || is_in (a + 0) (range_with_len (a + 1) n)) (eq-eqb a (a + 0) (let same : a ≡ a + 0 = omega arith in same))
in_range (suc n) a (suc i) lt =
    let later = ap (λ k. is_in k (range_with_len (a + 1) n)) (let same : a + suc i ≡ a + 1 + i = omega arith in same) ∙ in_range n (a + 1) i (omega (arith, lt)) in
    ap (λ b. b || is_in (a + suc i) (range_with_len (a + 1) n)) (ne_eqb a (a + suc i) (λ e. omega (arith, e))) ∙ later

-- and not where it comes after them
past_range : (n a x : ℕ) → a + n ≤ x → is_in x (range_with_len a n) ≡ false
past_range zero a x le = refl
past_range (suc n) a x le =
    ap (λ b. b || is_in x (range_with_len (a + 1) n)) (ne_eqb a x (λ e. omega (arith, e, le)))
    ∙ past_range n (a + 1) x (omega (arith, le))

-- the globals are the numbers below theirs
pub shared_is_in : (shared x : ℕ) → is_in x (shared_vars shared) ≡ nat_lt x shared
shared_is_in shared x = elim (cases_lt x shared) [
  | inl lt ↦ ap (λ k. is_in k (shared_vars shared)) (sym (zero-add x)) ∙ in_range shared 0 x lt ∙ sym (lt-ltb x shared lt)
  | inr ge ↦ past_range shared 0 x (omega (arith, ge)) ∙ sym (le-ltb x shared ge)
]

-- one global more
pub shared_more : (n : ℕ) → shared_vars (n + 1) ≡ shared_vars n ++ n ∷ []
shared_more n = sym (itself (shared_vars (n + 1))) ∙ map-range_with_len_more (λ y. y) 0 n n (zero-add n) ∙ ap (λ l. l ++ n ∷ []) (itself (shared_vars n))
  where
    itself : (l : List ℕ) → map (λ y. y) l ≡ l
    itself [] = refl
    itself (y ∷ l) = ap (λ z. y ∷ z) (itself l)

-- ---- the variables that a node assigns

-- a node assigns the variables that it is said to assign
pub assigned_is_in : (graph : GraphShape) (node : Node) (x : ℕ)
    → is_in x (assigned_vars graph node) ≡ assigns graph x node
assigned_is_in graph (Start next) x = refl
assigned_is_in graph (Skip next) x = refl
assigned_is_in graph (Assign y rhs next) x = or-false (nat_eq y x) ∙ nat_eq_equiv.symm y x
assigned_is_in graph (Print a next) x = refl
assigned_is_in graph (Guard test number next) x = refl
assigned_is_in graph (Call None unit operands next) x =
    is_in_append x (shared_vars graph.shared) [] ∙ or-false (is_in x (shared_vars graph.shared))
    ∙ shared_is_in graph.shared x
assigned_is_in graph (Call (Some y) unit operands next) x =
    is_in_append x (shared_vars graph.shared) (y ∷ [])
    ∙ ap (λ b. b || (nat_eq y x || false)) (shared_is_in graph.shared x)
    ∙ ap (λ b. nat_lt x graph.shared || b) (or-false (nat_eq y x) ∙ nat_eq_equiv.symm y x)
assigned_is_in graph (Test test taken other) x = refl
assigned_is_in graph (Return a) x = refl
