use Rattle.std.proofs.Common.{◌≡◌, ℕ, ◌+◌, ◌*◌, ◌-◌, ◌/◌, ◌<◌, ◌≤◌, List, length, get_or, min, set, inl, inr, ap, sym, arith, bit_and, w64, ◌∙◌}
use Rattle.std.proofs.lemmas.Bool.{cases_eq}
use Rattle.std.proofs.lemmas.List.{get_or-set_other, get_or-set_same}
use Rattle.std.specs.Int.{bit_not}
use Rattle.bit_rows.specs.Words.{used_bits}
use Rattle.bit_rows.proofs.Views.{whole_word}
use Rattle.bit_rows.proofs.words.flip_words.Goals as goal

-- below the last word all bits are used
below : (bits : ℕ) (old new : List ℕ) (k : ℕ) → 64 * k + 64 ≤ bits → get_or new k 0 ≡ bit_not w64 (get_or old k 0) → get_or new k 0 ≡ bit_and (bit_not w64 (get_or old k 0)) (used_bits bits k)
below bits old new k full is = is ∙ sym (whole_word bits k (bit_not w64 (get_or old k 0)) full (omega arith))

-- with the last word flipped too
last_too : (bits at v : ℕ) (old words : List ℕ) → at < length words → 64 * at ≤ bits → v ≡ bit_and (bit_not w64 (get_or old at 0)) (used_bits bits at) → ((k : ℕ) → k < at → get_or words k 0 ≡ bit_not w64 (get_or old k 0))
    → (k : ℕ) → k ≤ at → get_or (set words at v) k 0 ≡ bit_and (bit_not w64 (get_or old k 0)) (used_bits bits k)
last_too bits at v old words some full is done k h = elim (cases_eq k at) as (λ _. get_or (set words at v) k 0 ≡ bit_and (bit_not w64 (get_or old k 0)) (used_bits bits k)) [
  | inl last ↦ rw (last, get_or-set_same words at v 0 some) is
  | inr d ↦ get_or-set_other words at k v 0 d ∙ below bits old words k (omega arith) (done k (omega arith))
]

pub returns-then-whole-words-clause-flipped : goal.returns-then-whole-words-clause-flipped
returns-then-whole-words-clause-flipped c = λ k h.
    let whole : c.min-whole.result ≡ min (c.args.bits / 64) (length c.args.words.now) = c.min-whole.ensures in
    let inv = c.loop-i.invariant in
    let all : c.min-whole.result ≤ c.loop-i.i = c.loop-i-test.false in
    let most : c.loop-i.i ≤ c.min-whole.result = c.loop-i.auto.i-end in
    let some : c.min-whole.result < length c.args.words.now = rw inv.len at c.if-whole-words.true in
    let room : 64 * length c.args.words.now < c.args.bits + 64 = c.requires in
    last_too c.args.bits c.min-whole.result _ c.args.words.now c.loop-i.words c.if-whole-words.true (omega arith)
    (ap (λ x. bit_and (18446744073709551615 - x) c.used.result) (inv.rest c.min-whole.result most) ∙ ap (λ x. bit_and (bit_not w64 (get_or c.args.words.now c.min-whole.result 0)) x) c.used.ensures)
    (λ j early. inv.done j (omega arith)) k (omega arith)

pub returns-else-whole-words-clause-flipped : goal.returns-else-whole-words-clause-flipped
returns-else-whole-words-clause-flipped c = λ k h.
    let whole : c.min-whole.result ≡ min (c.args.bits / 64) (length c.args.words.now) = c.min-whole.ensures in
    let inv = c.loop-i.invariant in
    let all : c.min-whole.result ≤ c.loop-i.i = c.loop-i-test.false in
    let none : length c.args.words.now ≤ c.min-whole.result = rw inv.len at c.if-whole-words.false in
    below c.args.bits c.args.words.now c.loop-i.words k (omega arith) (inv.done k (omega arith))
