use Rattle.std.proofs.Common.{◌≡◌, ◌<◌, ◌++◌, ◌∷◌, [], ◌&&◌, ◌∙◌, List, ℕ, not, Some, add-one, ap, append_assoc, length, refl, slice_get, subst, sym}
use Rattle.std.proofs.lemmas.Option.{slice_get_read}
use Rattle.table_text.specs.Rows.{bit_byte}
use Rattle.pass_table.specs.Rounds.{became_skip, flags_below}
use Rattle.graph_edit.specs.NodeKinds.{is_skip}
use Rattle.pass_table.proofs.rounds.put_new_skips.Goals as goal

-- the bit that is put is that of the next node
pub loop-number-preserved : goal.loop-number-preserved
loop-number-preserved c =
    let n = c.loop-number.number in
    let before = c.args.before.now in
    let after = c.args.after.now in
    let old = c.index-before-number.result in
    let new = c.index-after-number.result in
    let here : slice_get before n ≡ Some old = slice_get_read before (length before) n old refl c.loop-number-test.true c.index-before-number.is in
    let there : slice_get after n ≡ Some new = slice_get_read after (length after) n new refl (subst (λ k. n < k) (sym c.requires) c.loop-number-test.true) c.index-after-number.is in
    let bits = flags_below (became_skip before after) n in
    let bit = bit_byte (became_skip before after n) in
    let byte : c.skip_byte.result ≡ bit = c.skip_byte.ensures ∙ ap (λ o. bit_byte (not (is_skip o) && is_skip (Some new))) (sym here) ∙ ap (λ o. bit_byte (not (is_skip (slice_get before n)) && is_skip o)) (sym there) in
    c.in_ok-push.ensures.items ∙ ap (λ b. c.loop-number.text.items ++ b ∷ []) byte ∙ ap (λ (l : List ℕ). l ++ bit ∷ []) c.loop-number.invariant ∙ append_assoc c.args.text.now.items bits (bit ∷ [])
    ∙ ap (λ (k : ℕ). c.args.text.now.items ++ flags_below (became_skip before after) k) (sym (add-one n))
