use Rattle.std.proofs.Common.{◌≡◌, ◌∙◌, ℕ, List, ap, sym, subst, ◌+◌, ◌++◌, ◌∷◌, [], drop, get_or, arith, Vec, Global}
use Rattle.std.proofs.lemmas.Bool.Decides.{nat_tests}
use Rattle.std.proofs.lemmas.Grind.{common_steps}
use Rattle.std.proofs.lemmas.List.{map-append}
use Rattle.std.proofs.lemmas.Str.{IsUtf8-string_bytes}
use Rattle.std.specs.Prelude.{string_bytes}
use Rattle.std.specs.Str.{IsUtf8}
use Rattle.mir_top.specs.Commands.{word_bytes}
use Rattle.mir_call.specs.Spelled.{words_after}
use Rattle.mir_call.proofs.Words.{at_zero, at_other, refused, taken, before}
use Rattle.mir_call.proofs.spelled.words_in.Goals as goal
use Rattle.mir_call.proofs.spelled.words_in.Goals.{then-byte-eq0+in-Ok+in_ok-push-in-Ok, else-byte-eq0+in_ok-push}

pub returns-in-Err : goal.returns-in-Err
returns-in-Err c =
    let words = word_bytes c.loop-byte.words.items in
    let word = c.loop-byte.word.items in
    let i = c.loop-byte.byte-index in
    let bytes = c.args.bytes.now in
    let zero : get_or bytes i 0 ≡ 0 = grind (arith, common_steps, c.if-byte-eq0.true, c.loop-byte-test.true) in
    c.loop-byte.invariant ∙ ap (before words) (at_zero bytes word i c.loop-byte-test.true zero) ∙ refused words word (words_after [] (drop (i + 1) bytes)) (λ is. grind (arith, c.in-Err.ensures.succeeds is))

pub loop-byte-preserved : goal.loop-byte-preserved
loop-byte-preserved c =
    let words = word_bytes c.loop-byte.words.items in
    let word = c.loop-byte.word.items in
    let i = c.loop-byte.byte-index in
    let bytes = c.args.bytes.now in
    let rest = drop (i + 1) bytes in
    elim c.if-byte-eq0.branch [
      | then-byte-eq0+in-Ok+in_ok-push-in-Ok w ↦
          let zero : get_or bytes i 0 ≡ 0 = grind (arith, common_steps, w.if-byte-eq0.true, c.loop-byte-test.true) in
          let text_is : string_bytes w.in-Ok.whole ≡ word = ap (λ (v : Vec ℕ Global). v.items) w.in-Ok.ensures.ok in
          let is_utf8 : IsUtf8 word = subst IsUtf8 text_is (IsUtf8-string_bytes w.in-Ok.whole) in
          let words_are : word_bytes c.if-byte-eq0.words.items ≡ words ++ word ∷ [] =
          ap (λ v. word_bytes v.items) w.words-is ∙ ap word_bytes w.in_ok-push-in-Ok.ensures.items
          ∙ map-append string_bytes c.loop-byte.words.items (w.in-Ok.whole ∷ []) ∙ ap (λ (t : List ℕ). words ++ t ∷ []) text_is in
          let word_is : c.if-byte-eq0.word.items ≡ [] =
          ap (λ (v : Vec ℕ Global). v.items) w.word-is ∙ w.new-word-then-byte-eq0.ensures.items in
          c.loop-byte.invariant ∙ ap (before words) (at_zero bytes word i c.loop-byte-test.true zero)
          ∙ taken words word (words_after [] rest) is_utf8
          ∙ ap (λ (l : List (List ℕ)). before l (words_after [] rest)) (sym words_are)
          ∙ ap (λ (l : List ℕ). before (word_bytes c.if-byte-eq0.words.items) (words_after l rest)) (sym word_is)
      | else-byte-eq0+in_ok-push w ↦
          let word_is : c.if-byte-eq0.word.items ≡ word ++ get_or bytes i 0 ∷ [] = ap (λ (v : Vec ℕ Global). v.items) w.word-is ∙ w.in_ok-push.ensures.items in
          let other : get_or bytes i 0 ≡ 0 → ⊥ = λ e. grind (arith, common_steps, nat_tests, w.if-byte-eq0.false, e) in
          c.loop-byte.invariant ∙ ap (before words) (at_other bytes word i c.loop-byte-test.true other)
          ∙ ap (λ (l : List ℕ). before words (words_after l rest)) (sym word_is)
          ∙ ap (λ v. before (word_bytes v.items) (words_after c.if-byte-eq0.word.items rest)) (sym w.words-is)
    ]
