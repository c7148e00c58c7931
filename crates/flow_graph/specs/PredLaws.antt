-- Laws of the sources of the edges that enter a node: those of lists one after the other, and that a Skip is one of
-- them at most once. For proofs only, of edge_split too.
use Rattle.std.proofs.Common.{◌≡◌, ℕ, zero, suc, ◌+◌, ◌<◌, ◌≤◌, Bool, true, false, if◌then◌else◌, nat_eq, List, [], ◌∷◌, ◌++◌, length, slice_get, Some, refl, sym, ap, ◌∙◌, subst, arith}
use Rattle.flow_graph.specs.declared.edges.Edge.{Edge}
use Rattle.flow_graph.specs.declared.nodes.Node.{Node}
use Rattle.flow_graph.specs.declared.nodes.Node.TheVariants.{Skip}
use Rattle.flow_graph.specs.Graphs.{node_succs}
use Rattle.flow_graph.specs.Edges.{leaving, edges_from, preds_among}

-- the sources among joined lists of edges are joined
pub preds_append : (s : ℕ) (xs ys : List Edge) → preds_among s (xs ++ ys) ≡ preds_among s xs ++ preds_among s ys
preds_append s [] ys = refl
preds_append s (e ∷ xs) ys = chosen (nat_eq e.target s) (preds_append s xs ys)
  where
    chosen : (b : Bool) → preds_among s (xs ++ ys) ≡ preds_among s xs ++ preds_among s ys
        → (if b then e.source ∷ preds_among s (xs ++ ys) else preds_among s (xs ++ ys)) ≡ (if b then e.source ∷ preds_among s xs else preds_among s xs) ++ preds_among s ys
    chosen true p = ap (λ l. e.source ∷ l) p
    chosen false p = p

-- each number of the list is at least k
abbrev AllFrom : ℕ → List ℕ → Type 0
AllFrom k [] = Unit {0}
AllFrom k (x ∷ xs) = (k ≤ x) × AllFrom k xs

-- each number of the list is k
abbrev pub AllAre : ℕ → List ℕ → Type 0
AllAre k [] = Unit {0}
AllAre k (x ∷ xs) = (x ≡ k) × AllAre k xs

-- numbers equal to k before numbers above k are all at least k
from_append : (k : ℕ) (xs ys : List ℕ) → AllAre k xs → AllFrom (suc k) ys → AllFrom k (xs ++ ys)
from_append k [] [] h h' = tt
from_append k [] (y ∷ ys) h h' = (omega (arith, h'.0), from_append k [] ys tt h'.1)
from_append k (x ∷ xs) ys h h' = (omega (arith, h.0), from_append k xs ys h.1 h')

-- the edges that leave node k have it for their source
pub leaving_are : (k s : ℕ) (succs : List ℕ) → AllAre k (preds_among s (leaving k succs))
leaving_are k s [] = tt
leaving_are k s (t ∷ succs) = chosen (nat_eq t s) (leaving_are k s succs)
  where
    chosen : (b : Bool) → AllAre k (preds_among s (leaving k succs))
        → AllAre k (if b then k ∷ preds_among s (leaving k succs) else preds_among s (leaving k succs))
    chosen true h = (refl, h)
    chosen false h = h

-- the predecessors among the nodes from k on are at least k
from_low : (k s : ℕ) (nodes : List Node) → AllFrom k (preds_among s (edges_from k nodes))
from_low k s [] = tt
from_low k s (node ∷ nodes) = subst (AllFrom k) (sym (preds_append s (leaving k (node_succs node)) (edges_from (suc k) nodes))) (from_append k _ _ (leaving_are k s (node_succs node)) (from_low (suc k) s nodes))

-- each item of a list of numbers from k on is at least k
low_at : (k : ℕ) (xs : List ℕ) (i v : ℕ) → AllFrom k xs → slice_get xs i ≡ Some v → k ≤ v
low_at k [] i v h e = cc
low_at k (x ∷ xs) zero v h e = let same : x ≡ v = cc in omega (arith, h.0)
low_at k (x ∷ xs) (suc i) v h e = low_at k xs i v h.1 e

-- a number above k stands after the items that are equal to k
past_first : (k : ℕ) (xs ys : List ℕ) (i v : ℕ) → AllAre k xs → k < v → slice_get (xs ++ ys) i ≡ Some v
    → (j : ℕ) × (i ≡ length xs + j) × (slice_get ys j ≡ Some v)
past_first k [] ys i v h lt e = (i, omega arith, e)
past_first k (x ∷ xs) ys zero v h lt e = let same : x ≡ v = cc in absurd (omega (arith, h.0, lt))
past_first k (x ∷ xs) ys (suc i) v h lt e = let r = past_first k xs ys i v h.1 lt e in (r.0, omega (arith, r.1), r.2)

-- k, put at most once before larger numbers, has at most one place
one_skip : (k s : ℕ) (rest : List ℕ) (b : Bool) (i j : ℕ) → AllFrom (suc k) rest
    → slice_get ((if b then k ∷ [] else []) ++ rest) i ≡ Some k
    → slice_get ((if b then k ∷ [] else []) ++ rest) j ≡ Some k → i ≡ j
one_skip k s rest true zero zero h e e' = refl
one_skip k s rest true zero (suc j) h e e' = absurd (omega (arith, low_at (suc k) rest j k h e'))
one_skip k s rest true (suc i) j h e e' = absurd (omega (arith, low_at (suc k) rest i k h e))
one_skip k s rest false i j h e e' = absurd (omega (arith, low_at (suc k) rest i k h e))

-- a Skip's number stands once among the sources of a node
pub skip_once : (k s : ℕ) (nodes : List Node) (m t i j : ℕ) → slice_get nodes m ≡ Some (Skip t)
    → slice_get (preds_among s (edges_from k nodes)) i ≡ Some (k + m)
    → slice_get (preds_among s (edges_from k nodes)) j ≡ Some (k + m) → i ≡ j
skip_once k s [] m t i j is e e' = cc
skip_once k s (node ∷ nodes) zero t i j is e e' =
    let same : node ≡ Skip t = cc in
    let whole : preds_among s (edges_from k (node ∷ nodes)) ≡ (if nat_eq t s then k ∷ [] else []) ++ preds_among s (edges_from (suc k) nodes) = preds_append s (leaving k (node_succs node)) (edges_from (suc k) nodes) ∙ ap (λ n. preds_among s (leaving k (node_succs n)) ++ preds_among s (edges_from (suc k) nodes)) same in
    let number : k + 0 ≡ k = omega arith in
    one_skip k s (preds_among s (edges_from (suc k) nodes)) (nat_eq t s) i j (from_low (suc k) s nodes) (sym (ap (λ l. slice_get l i) whole) ∙ e ∙ ap Some number) (sym (ap (λ l. slice_get l j) whole) ∙ e' ∙ ap Some number)
skip_once k s (node ∷ nodes) (suc m) t i j is e e' =
    let front = preds_among s (leaving k (node_succs node)) in
    let whole = preds_append s (leaving k (node_succs node)) (edges_from (suc k) nodes) in
    let number : k + suc m ≡ suc k + m = omega arith in
    let a = past_first k front (preds_among s (edges_from (suc k) nodes)) i (k + suc m) (leaving_are k s (node_succs node)) (omega arith) (sym (ap (λ l. slice_get l i) whole) ∙ e) in
    let b = past_first k front (preds_among s (edges_from (suc k) nodes)) j (k + suc m) (leaving_are k s (node_succs node)) (omega arith) (sym (ap (λ l. slice_get l j) whole) ∙ e') in
    let same = skip_once (suc k) s nodes m t a.0 b.0 is (a.2 ∙ ap Some number) (b.2 ∙ ap Some number) in
    omega (arith, same, a.1, b.1)
