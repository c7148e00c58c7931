use Rattle.std.proofs.Common.{◌≡◌, ℕ, ℤ, List, [], ◌++◌, length, codes, refl, ◌∙◌, ap, append_assoc}
use Rattle.mir_top.specs.Outputs.{count_line}
use Rattle.mir_top.proofs.trial.summary.Goals as goal

-- five pieces that are appended in turn
in_turn : (start one two three four five a b c d e : List ℕ) → start ≡ [] → one ≡ start ++ a → two ≡ one ++ b → three ≡ two ++ c → four ≡ three ++ d → five ≡ four ++ e → five ≡ a ++ b ++ c ++ d ++ e
in_turn start one two three four five a b c d e none first second third fourth fifth =
    let one_is : one ≡ a = first ∙ ap (λ (l : List ℕ). l ++ a) none in
    let two_is : two ≡ a ++ b = second ∙ ap (λ (l : List ℕ). l ++ b) one_is in
    let three_is : three ≡ (a ++ b) ++ c = third ∙ ap (λ (l : List ℕ). l ++ c) two_is in
    let four_is : four ≡ ((a ++ b) ++ c) ++ d = fourth ∙ ap (λ (l : List ℕ). l ++ d) three_is in
    let five_is : five ≡ (((a ++ b) ++ c) ++ d) ++ e = fifth ∙ ap (λ (l : List ℕ). l ++ e) four_is in
    let grouped : (((a ++ b) ++ c) ++ d) ++ e ≡ a ++ b ++ c ++ d ++ e = simp append_assoc refl in
    five_is ∙ grouped

pub returns : goal.returns
returns c =
    let start = c.new-text.result.items in
    let one = c.put_count.new.text.items in
    let two = c.put_count-2.new.text.items in
    let three = c.put_count-3.new.text.items in
    let four = c.put_count-4.new.text.items in
    in_turn start one two three four c.put_count-5.new.text.items _ _ _ _ _ c.new-text.ensures.items
    (c.in_ok-put_count.ensures ∙ ap (λ (n : ℕ). start ++ count_line (codes "source instructions ") n) c.in_ok-instructions.ensures)
    (c.in_ok-put_count-2.ensures ∙ ap (λ (n : ℕ). one ++ count_line (codes "result instructions ") n) c.in_ok-instructions-2.ensures)
    c.in_ok-put_count-3.ensures
    c.in_ok-put_count-4.ensures
    (c.in_ok-put_count-5.ensures ∙ ap (λ (l : List ℤ). four ++ count_line (codes "printed ") (length l)) c.items.ensures)
