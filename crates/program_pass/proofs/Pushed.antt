-- What is pushed of a chain, and what is still to come, are all of it.
use Rattle.std.proofs.Common.{◌≡◌, ℕ, suc, ◌+◌, List, [], ◌∷◌, ◌++◌, append_assoc, length, drop, slice_get, Some, sym, ap, ◌∙◌, arith}
use Rattle.std.proofs.lemmas.List.{length_push}
use Rattle.flow_graph.specs.declared.nodes.Node.{Node}
use Rattle.flow_graph.specs.declared.nodes.Node.TheVariants.{Assign}
use Rattle.graph_edit.specs.Insertions.{Insertion, chain, entry_among}
use Rattle.flow_graph.specs.ListLaws.{drop_at}
use Rattle.program_pass.specs.declared.standing.Put.{Put}
use Rattle.program_pass.specs.Puts.{insertions}

-- the next node of a chain
pub chain_pushed : (end : ℕ) (nodes nodes' all : List Node) (puts : List Put) (i : ℕ) (put : Put) (next : ℕ) → slice_get puts i ≡ Some put → nodes' ≡ nodes ++ Assign put.var put.rhs next ∷ [] → next ≡ entry_among end (length nodes + 1) (insertions (drop (i + 1) puts))
    → nodes ++ chain end (length nodes) (insertions (drop i puts)) ≡ all → nodes' ++ chain end (length nodes') (insertions (drop (i + 1) puts)) ≡ all
chain_pushed end nodes nodes' all puts i put next here is next_is before =
    let rest : List Insertion = insertions (drop (i + 1) puts) in
    let one : length nodes + 1 ≡ suc (length nodes) = omega arith in
    let long : length nodes' ≡ suc (length nodes) = ap (λ l. length l) is ∙ length_push nodes (Assign put.var put.rhs next) ∙ one in
    let node : Assign put.var put.rhs next ≡ Assign put.var put.rhs (entry_among end (suc (length nodes)) rest) = ap (Assign put.var put.rhs) (next_is ∙ ap (λ n. entry_among end n rest) one) in
    ap (λ n. nodes' ++ chain end n rest) long ∙ ap (λ l. l ++ chain end (suc (length nodes)) rest) is ∙ append_assoc nodes (Assign put.var put.rhs next ∷ []) (chain end (suc (length nodes)) rest)
    ∙ ap (λ m. nodes ++ m ∷ chain end (suc (length nodes)) rest) node ∙ ap (λ l. nodes ++ chain end (length nodes) (insertions l)) (sym (drop_at puts i put here)) ∙ before
