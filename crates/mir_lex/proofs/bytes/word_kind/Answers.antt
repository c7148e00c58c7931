use Rattle.std.proofs.Common.{sym, ◌∙◌}
use Rattle.mir_lex.proofs.KindLemmas.{lone_kind, name_kind}
use Rattle.mir_lex.proofs.bytes.word_kind.Goals as goal
use Rattle.mir_lex.proofs.bytes.word_kind.Goals.{then-is_lone_letter-via-then-is_lone_letter, then-is_lone_letter-via-else-is_lone_letter+then-is_spelled}

pub returns-then-is_lone_letter : goal.returns-then-is_lone_letter
returns-then-is_lone_letter c =
    elim c.then-is_lone_letter.branch [
      | then-is_lone_letter-via-then-is_lone_letter w ↦ lone_kind c.args.bytes.now (sym c.is_lone_letter.ensures ∙ w.if-is_lone_letter.true)
      | then-is_lone_letter-via-else-is_lone_letter+then-is_spelled w ↦ sym (name_kind c.args.bytes.now (sym w.is_spelled.ensures ∙ w.if-is_spelled.true))
    ]
