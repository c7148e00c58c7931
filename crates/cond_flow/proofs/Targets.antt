-- The targets of the edges of the blocks, two for each block.
use Rattle.std.proofs.Common.{◌≡◌, ℕ, ◌+◌, ◌*◌, ◌<◌, ◌/◌, ◌%◌, List, [], ◌∷◌, ◌++◌, length, inl, inr, sym, ap, ◌∙◌, subst, arith, length-append}
use Rattle.std.proofs.lemmas.Bool.{cases_eq}
use Rattle.std.proofs.lemmas.List.{get_or_append_left, get_or_push}
use Rattle.flow_graph.specs.declared.nodes.Node.{Node}
use Rattle.flow_graph.specs.NumberTables.{number_at}
use Rattle.cond_flow.specs.Blockwise.{AreTargetsBelow, IsTargetOf, block_at, last_of}

-- of one block more
pub targets_more : (nodes : List Node) (lists : List (List ℕ)) (b last taken other : ℕ) (targets more : List ℕ) → AreTargetsBelow nodes lists b targets → last_of (block_at lists b) ≡ last → IsTargetOf nodes lists last 0 taken → IsTargetOf nodes lists last 1 other → more ≡ (targets ++ taken ∷ []) ++ other ∷ [] → AreTargetsBelow nodes lists (b + 1) more
targets_more nodes lists b last taken other targets more are last_is is_taken is_other more_is = record {
  long = ap length more_is ∙ omega (arith, length-append (targets ++ taken ∷ []) (other ∷ []), length-append targets (taken ∷ []), are.long);
  each = each;
}
  where
    middle : length (targets ++ taken ∷ []) ≡ 2 * b + 1
    middle = omega (arith, length-append targets (taken ∷ []), are.long)

    at : (e slot target : ℕ) → e / 2 ≡ b → e % 2 ≡ slot → number_at more e ≡ target → IsTargetOf nodes lists last slot target → IsTargetOf nodes lists (last_of (block_at lists (e / 2))) (e % 2) (number_at more e)
    at e slot target block_is slot_is target_is is =
        let one = subst (λ t. IsTargetOf nodes lists last slot t) (sym target_is) is in
        let two = subst (λ k. IsTargetOf nodes lists last k (number_at more e)) (sym slot_is) one in
        subst (λ n. IsTargetOf nodes lists n (e % 2) (number_at more e)) (sym (ap (λ k. last_of (block_at lists k)) block_is ∙ last_is)) two

    each : (e : ℕ) → e < 2 * (b + 1) → IsTargetOf nodes lists (last_of (block_at lists (e / 2))) (e % 2) (number_at more e)
    each e lt = elim (cases_eq e (2 * b + 1)) as (λ _. IsTargetOf nodes lists (last_of (block_at lists (e / 2))) (e % 2) (number_at more e)) [
      | inl same ↦
          at e 1 other (omega (arith, same)) (omega (arith, same)) (ap (λ l. number_at l e) more_is ∙ get_or_push (targets ++ taken ∷ []) other 0 e (omega (arith, same, middle))) is_other
      | inr apart ↦ elim (cases_eq e (2 * b)) as (λ _. IsTargetOf nodes lists (last_of (block_at lists (e / 2))) (e % 2) (number_at more e)) [
        | inl same ↦
            at e 0 taken (omega (arith, same)) (omega (arith, same))
            (ap (λ l. number_at l e) more_is ∙ get_or_append_left (targets ++ taken ∷ []) (other ∷ []) 0 e (omega (arith, same, middle)) ∙ get_or_push targets taken 0 e (omega (arith, same, are.long))) is_taken
        | inr apart' ↦
            let low : e < 2 * b = omega (arith, lt, apart, apart') in
            let same : number_at more e ≡ number_at targets e =
            ap (λ l. number_at l e) more_is ∙ get_or_append_left (targets ++ taken ∷ []) (other ∷ []) 0 e (omega (arith, low, middle)) ∙ get_or_append_left targets (taken ∷ []) 0 e (omega (arith, low, are.long)) in
            subst (IsTargetOf nodes lists (last_of (block_at lists (e / 2))) (e % 2)) (sym same) (are.each e low)
      ]
    ]
