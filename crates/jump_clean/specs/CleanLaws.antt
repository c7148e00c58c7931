-- A graph has exactly one graph with clean jumps. For proofs only.
use Rattle.std.proofs.Common.{◌≡◌, ℕ, List, map, slice_index_or, sym, ap, ◌∙◌, subst, arith}
use Rattle.std.proofs.lemmas.List.{ext_get_or}
use Rattle.flow_graph.specs.declared.nodes.Node.{Node}
use Rattle.flow_graph.specs.Graphs.{GraphShape, AllWithin}
use Rattle.flow_graph.specs.Retained.{redirected, IsMade}
use Rattle.flow_graph.specs.OneLaws.{made_is_one}
use Rattle.jump_clean.specs.Chains.{AreEnds}
use Rattle.jump_clean.specs.Cleaned.{AreCleaned, IsClean}
use Rattle.jump_clean.specs.ChainLaws.{end_is_one}
use Rattle.jump_clean.specs.ReductionLaws.{reduced_are_one}

-- a node has only one end of its Skips, so the lists of ends agree
ends_are_one : (nodes : List Node) (a b : List ℕ) → AreEnds nodes a → AreEnds nodes b → a ≡ b
ends_are_one nodes a b p q =
    ext_get_or 0 a b (p.long ∙ sym q.long) (λ i lt. end_is_one nodes i (slice_index_or a i 0) (slice_index_or b i 0) (p.are i (omega (arith, lt, p.long))) (q.are i (omega (arith, lt, p.long))))

-- in whatever order the tests become Skips, the cleaned nodes are the same
pub cleaned_are_one : (nodes a b : List Node) → AllWithin nodes → AreCleaned nodes a → AreCleaned nodes b → a ≡ b
cleaned_are_one nodes a b within p q =
    let reduced : p.reduced ≡ q.reduced = reduced_are_one nodes p.reduced q.reduced within p.are_reduced q.are_reduced in
    let ends : p.ends ≡ q.ends = ends_are_one q.reduced p.ends q.ends (subst (λ l. AreEnds l p.ends) reduced p.are_ends) q.are_ends in
    p.are ∙ ap (λ l. map (redirected (λ n. slice_index_or p.ends n 0)) l) reduced ∙ ap (λ l. map (redirected (λ n. slice_index_or l n 0)) q.reduced) ends ∙ sym q.are

-- and so is the graph that is made of them
pub clean_is_one : (graph a b : GraphShape) → AllWithin graph.nodes → IsClean graph a → IsClean graph b → a ≡ b
clean_is_one graph a b within p q =
    let nodes : p.nodes ≡ q.nodes = cleaned_are_one graph.nodes p.nodes q.nodes within p.are_cleaned q.are_cleaned in
    made_is_one graph.name graph.shared graph.vars graph.received q.nodes a b (subst (λ l. IsMade graph.name graph.shared graph.vars graph.received l a) nodes p.made) q.made
