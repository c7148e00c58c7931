-- Bytes that are taken from a source in pieces, and the pieces of a list.
use Rattle.std.proofs.Common.{◌≡◌, ℕ, ◌+◌, ◌-◌, ◌≤◌, List, ◌++◌, length, take, drop, sym, ◌∙◌, ap, arith, length-drop, take-append-drop}
use Rattle.std.proofs.lemmas.List.{take_at, take_rest, length-take-le, drop-drop}
use Rattle.std.proofs.Math.Seq.{take-add}

-- n more of a list, as the slice from i on shows them
pub take_seam : (xs : List ℕ) (i n : ℕ) → take (i + n) xs ≡ take i xs ++ take n (take (length xs - i) (drop i xs))
take_seam xs i n = take-add i n xs ∙ ap (λ (l : List ℕ). take i xs ++ take n l) (sym (take_rest xs i))

-- what is left is the bytes that were copied, and then the remainder
pub split_left : (bytes copied rest : List ℕ) (at n : ℕ) → at + n ≤ length bytes → copied ≡ take (at + n - at) (drop at bytes) → drop at bytes ≡ take n (copied ++ rest) ++ drop (at + n) bytes
split_left bytes copied rest at n le is =
    let front : copied ≡ take n (drop at bytes) = is ∙ ap (λ (k : ℕ). take k (drop at bytes)) (omega arith) in
    let long : length copied ≡ n = ap length front ∙ length-take-le n (drop at bytes) (omega (arith, length-drop at bytes)) in
    sym (take-append-drop n (drop at bytes)) ∙ ap (λ (l : List ℕ). l ++ drop n (drop at bytes)) (sym front ∙ sym (take_at copied rest n long)) ∙ ap (λ (l : List ℕ). take n (copied ++ rest) ++ l) (drop-drop n at bytes)
