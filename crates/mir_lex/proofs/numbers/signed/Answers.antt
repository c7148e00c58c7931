use Rattle.std.proofs.Common.{◌≡◌, sym, ◌∙◌}
use Rattle.mir_lex.specs.Numbers.{signed_number}
use Rattle.mir_lex.proofs.NumberLemmas.{signed_is}
use Rattle.mir_lex.proofs.WordLemmas.{signed_word, word_signed}
use Rattle.mir_lex.proofs.numbers.signed.Goals as goal

pub returns-clause-number : goal.returns-clause-number
returns-clause-number c = c.scanned_number.ensures ∙ signed_is c.args.bytes.now

pub returns-clause-numeral : goal.returns-clause-numeral
returns-clause-numeral c = λ number.
    let word = c.args.bytes.now in
    let whole : c.scanned_number.result ≡ signed_number word = c.scanned_number.ensures ∙ signed_is word in
    (λ is. signed_word word number (sym whole ∙ is), λ is. whole ∙ word_signed word number is)
