-- The numbers that the marked nodes get, and the nodes that are retained.
use Rattle.std.proofs.Common.{◌≡◌, ℕ, zero, suc, ◌+◌, ◌<◌, Bool, true, false, cond, List, [], ◌∷◌, ◌++◌, length, slice_get, slice_index_or, Some, inl, inr, refl, sym, ap, ◌∙◌, arith, map, drop, append_assoc}
use Rattle.std.proofs.lemmas.Bool.{cases_lt}
use Rattle.std.proofs.lemmas.Option.{slice_get-get_or, get_or_from_slice_get}
use Rattle.flow_graph.specs.declared.nodes.Node.{Node}
use Rattle.flow_graph.specs.declared.nodes.Node.TheVariants.{Start, Skip, Assign, Print, Guard, Call, Test, Return}
use Rattle.flow_graph.specs.Graphs.{SuccsBelow}
use Rattle.flow_graph.specs.Retained.{marked_below, marked, redirected, AreRanks}
use Rattle.flow_graph.specs.ListLaws.{get_seam, get_left, drop_at}

-- the rank after a marked node is one more
pub rank_more : (marks : List Bool) (i : ℕ) → slice_get marks i ≡ Some true → marked_below marks (suc i) ≡ suc (marked_below marks i)
rank_more [] i e = cc
rank_more (true ∷ marks) zero e = refl
rank_more (false ∷ marks) zero e = cc
rank_more (true ∷ marks) (suc i) e = ap suc (rank_more marks i e)
rank_more (false ∷ marks) (suc i) e = rank_more marks i e

-- after any other it is the same
pub rank_same : (marks : List Bool) (i : ℕ) → slice_get marks i ≡ Some false → marked_below marks (suc i) ≡ marked_below marks i
rank_same [] i e = cc
rank_same (true ∷ marks) zero e = cc
rank_same (false ∷ marks) zero e = refl
rank_same (true ∷ marks) (suc i) e = ap suc (rank_same marks i e)
rank_same (false ∷ marks) (suc i) e = rank_same marks i e

-- the table of ranks with one rank more
pub ranked : (marks : List Bool) (ranks ranks' : List ℕ) (i : ℕ) → length ranks ≡ i → ((k : ℕ) → k < i → slice_get ranks k ≡ Some (marked_below marks k)) → ranks' ≡ ranks ++ marked_below marks i ∷ [] → (k : ℕ) → k < i + 1 → slice_get ranks' k ≡ Some (marked_below marks k)
ranked marks ranks ranks' i long are e k lt =
    elim (cases_lt k i) [
      | inl below ↦ ap (λ l. slice_get l k) e ∙ get_left ranks (marked_below marks i ∷ []) k (omega (arith, below, long)) ∙ are k below
      | inr above ↦
          let at_ : k ≡ length ranks = omega (arith, above, lt, long) in
          let here : k ≡ i = omega (arith, above, lt) in
          ap (λ l. slice_get l k) e ∙ ap (slice_get (ranks ++ marked_below marks i ∷ [])) at_ ∙ get_seam ranks [] (marked_below marks i) ∙ ap (λ n. Some (marked_below marks n)) (sym here)
    ]

-- a mark by index
pub marks_index : (marks : List Bool) (i : ℕ) (b : Bool) → i < length marks → slice_index_or marks i false ≡ b → slice_get marks i ≡ Some b
marks_index marks i b lt e = slice_get-get_or marks i false lt ∙ ap Some e

-- the table of ranks gives the ranks
pub redirects_same : (marks : List Bool) (ranks : List ℕ) (node : Node) → AreRanks marks ranks → SuccsBelow (length marks) node → redirected (λ n. slice_index_or ranks n 0) node ≡ redirected (marked_below marks) node
redirects_same marks ranks node are below = by_cases node below
  where
    one : (s : ℕ) → s < length marks → slice_index_or ranks s 0 ≡ marked_below marks s
    one s lt = get_or_from_slice_get ranks s (marked_below marks s) 0 (are.are s lt)

    by_cases : (node : Node) → SuccsBelow (length marks) node → redirected (λ n. slice_index_or ranks n 0) node ≡ redirected (marked_below marks) node
    by_cases (Start next) h = ap Start (one next h)
    by_cases (Skip next) h = ap Skip (one next h)
    by_cases (Assign x rhs next) h = ap (Assign x rhs) (one next h)
    by_cases (Print a next) h = ap (Print a) (one next h)
    by_cases (Guard test number next) h = ap (Guard test number) (one next h)
    by_cases (Call into unit operands next) h = ap (Call into unit operands) (one next h)
    by_cases (Test test taken other) h = ap (λ n. Test test n (slice_index_or ranks other 0)) (one taken h.0) ∙ ap (Test test (marked_below marks taken)) (one other h.1)
    by_cases (Return a) h = refl

-- one node is retained or dropped
pub retain_one : (f : Node → Node) (marks : List Bool) (retained retained' rest rest' : List Node) (i : ℕ) (b : Bool) (node node' : Node) (all : List Node) → slice_get marks i ≡ Some b → rest ≡ node ∷ rest' → node' ≡ f node → retained' ≡ cond b (retained ++ node' ∷ []) retained → retained ++ map f (marked (drop i marks) rest) ≡ all → retained' ++ map f (marked (drop (i + 1) marks) rest') ≡ all
retain_one f marks retained retained' rest rest' i true node node' all is e e' e'' h =
    let step : map f (marked (drop i marks) rest) ≡ f node ∷ map f (marked (drop (i + 1) marks) rest') = ap (λ l. map f (marked l rest)) (drop_at marks i true is) ∙ ap (λ l. map f (marked (true ∷ drop (i + 1) marks) l)) e in
    ap (λ l. l ++ map f (marked (drop (i + 1) marks) rest')) (e'' ∙ ap (λ n. retained ++ n ∷ []) e') ∙ append_assoc retained (f node ∷ []) (map f (marked (drop (i + 1) marks) rest')) ∙ ap (λ l. retained ++ l) (sym step) ∙ h
retain_one f marks retained retained' rest rest' i false node node' all is e e' e'' h =
    let step : map f (marked (drop i marks) rest) ≡ map f (marked (drop (i + 1) marks) rest') = ap (λ l. map f (marked l rest)) (drop_at marks i false is) ∙ ap (λ l. map f (marked (false ∷ drop (i + 1) marks) l)) e in
    ap (λ l. l ++ map f (marked (drop (i + 1) marks) rest')) e'' ∙ ap (λ l. retained ++ l) (sym step) ∙ h

-- no node is retained of none
pub none_marked : (f : Node → Node) (marks : List Bool) (i : ℕ) → map f (marked (drop i marks) []) ≡ []
none_marked f marks i = go (drop i marks)
  where
    go : (ms : List Bool) → map f (marked ms []) ≡ []
    go [] = refl
    go (true ∷ ms) = refl
    go (false ∷ ms) = refl
