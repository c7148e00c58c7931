use Rattle.std.proofs.Common.{◌≡◌, drop}
use Rattle.mir_base.specs.Words.{first_word}
use Rattle.mir_base.proofs.words.word_among.Given as goal

abbrev pub invariant-loop-text : goal.invariant-loop-text
invariant-loop-text l =
    first_word (λ entry. entry.0.now) (λ entry. entry.1) l.bytes l.table
    ≡ first_word (λ entry. entry.0.now) (λ entry. entry.1) l.bytes (drop l.text-index l.table)
