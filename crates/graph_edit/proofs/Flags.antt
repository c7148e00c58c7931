-- The nodes of which each flagged assignment became a Skip: as far as a loop has come, and that they are a graph.
use Rattle.std.proofs.Common.{◌≡◌, ℕ, zero, suc, ◌+◌, ◌++◌, ◌≤◌, Bool, true, false, List, [], ◌∷◌, drop, length, set, slice_get, take, refl, Some, ap, subst, sym, ◌∙◌, arith}
use Rattle.std.proofs.lemmas.List.{append-nil}
use Rattle.std.proofs.lemmas.Option.{same_Some}
use Rattle.std.proofs.Math.Seq.{drop-length, take-length}
use Rattle.flow_graph.specs.declared.nodes.Node.{Node}
use Rattle.flow_graph.specs.Graphs.{IsGraph}
use Rattle.flow_graph.specs.ListLaws.{some_at}
use Rattle.graph_edit.specs.ChangeLaws.{changed_not}
use Rattle.graph_edit.specs.Editing.{change_at}
use Rattle.graph_edit.specs.EditingLaws.{change_graph}
use Rattle.graph_edit.specs.Flagged.{pruned_from, removed_if}
use Rattle.graph_edit.specs.Insertions.{Removed, changed, ChangeBelow}

-- the nodes of which those below number n have been looked at
abbrev pub pruned_below : (ℕ → Bool) → ℕ → ℕ → List Node → List Node
pruned_below flagged k n nodes = pruned_from flagged k (take n nodes) ++ drop n nodes

-- an assignment becomes a Skip where it stands
pub removed_here : (nodes : List Node) (n : ℕ) (node between : Node) → slice_get nodes n ≡ Some node → set (set nodes n between) n (changed Removed node) ≡ change_at n Removed nodes
removed_here [] n node between at = cc
removed_here (first ∷ nodes) zero node between at = ap (λ q. changed Removed q ∷ nodes) (sym (same_Some first node at))
removed_here (first ∷ nodes) (suc n) node between at = ap (λ l. first ∷ l) (removed_here nodes n node between at)

-- one node more becomes a Skip where it is a flagged assignment
pub removed_next : (flagged : ℕ → Bool) (k : ℕ) (nodes : List Node) (n : ℕ) (node : Node) (b : Bool) → slice_get nodes n ≡ Some node → b ≡ flagged (k + n)
    → change_at n (removed_if b) (pruned_below flagged k n nodes) ≡ pruned_below flagged k (suc n) nodes
removed_next flagged k [] n node b at is = cc
removed_next flagged k (first ∷ nodes) zero node b at is = let same : k + 0 ≡ k = omega arith in ap (λ d. changed (removed_if d) first ∷ nodes) (is ∙ ap flagged same)
removed_next flagged k (first ∷ nodes) (suc n) node b at is =
    let same : k + suc n ≡ suc k + n = omega arith in
    ap (λ l. changed (removed_if (flagged k)) first ∷ l) (removed_next flagged (suc k) nodes n node b at (is ∙ ap flagged same))

-- a node that is not flagged is passed
pub kept_next : (flagged : ℕ → Bool) (k : ℕ) (nodes : List Node) (n : ℕ) (node : Node) → slice_get nodes n ≡ Some node → flagged (k + n) ≡ false
    → pruned_below flagged k n nodes ≡ pruned_below flagged k (suc n) nodes
kept_next flagged k [] n node at is = cc
kept_next flagged k (first ∷ nodes) zero node at is =
    let same : k + 0 ≡ k = omega arith in
    ap (λ q. q ∷ nodes) (sym (changed_not first)) ∙ ap (λ d. changed (removed_if d) first ∷ nodes) (sym is ∙ ap flagged same)
kept_next flagged k (first ∷ nodes) (suc n) node at is =
    let same : suc k + n ≡ k + suc n = omega arith in
    ap (λ l. changed (removed_if (flagged k)) first ∷ l) (kept_next flagged (suc k) nodes n node at (ap flagged same ∙ is))

-- all have been looked at
pub pruned_whole : (flagged : ℕ → Bool) (nodes : List Node) → pruned_below flagged 0 (length nodes) nodes ≡ pruned_from flagged 0 nodes
pruned_whole flagged nodes =
    ap (λ l. pruned_from flagged 0 (take (length nodes) nodes) ++ l) (drop-length nodes)
    ∙ append-nil (pruned_from flagged 0 (take (length nodes) nodes))
    ∙ ap (pruned_from flagged 0) (take-length nodes)

-- they are a graph
pub pruned_graph : (vars : List (List ℕ)) (received : List ℕ) (nodes : List Node) (flagged : ℕ → Bool) → IsGraph vars received nodes → IsGraph vars received (pruned_from flagged 0 nodes)
pruned_graph vars received nodes flagged is_graph = subst (IsGraph vars received) (pruned_whole flagged nodes) (below (length nodes) (omega arith))
  where
    fits : (b : Bool) → ChangeBelow (length vars) (removed_if b)
    fits true = tt
    fits false = tt

    below : (n : ℕ) → n ≤ length nodes → IsGraph vars received (pruned_below flagged 0 n nodes)
    below zero le = is_graph
    below (suc n) le =
        let node = some_at nodes n (omega (arith, le)) in
        let before = below n (omega (arith, le)) in
        subst (IsGraph vars received) (removed_next flagged 0 nodes n node.0 (flagged n) node.1 (ap flagged (omega arith))) (change_graph vars received (pruned_below flagged 0 n nodes) n (removed_if (flagged n)) before (fits (flagged n)))
