use Rattle.std.proofs.Common.{sym, ◌∙◌}
use Rattle.mir_lex.proofs.WordLemmas.{unsigned_word, word_unsigned}
use Rattle.mir_lex.proofs.numbers.unsigned.Goals as goal

pub returns-clause-numeral : goal.returns-clause-numeral
returns-clause-numeral c = λ number.
    let word = c.args.bytes.now in
    let whole = c.parsed_unsigned.ensures in
    (λ is. unsigned_word word number (sym whole ∙ is), λ is. whole ∙ word_unsigned word number is)
