-- No call of `tables` over memory ends with status 6, since its source does not fail.
use Rattle.std.proofs.Common.{ℕ, ◌≡◌, ◌∙◌, inl, inr, List, [], ◌∷◌, Option, None, Some, refl, sym, unwrap_or, arith}
use Rattle.mir_lex.specs.declared.faults.LexFault.TheVariants.{BadByte, BadNumber, LongName, Memory as NoMemoryForTokens}
use Rattle.mir_parse.specs.declared.faults.ParseFault.TheVariants.{Unexpected, Unfinished, Memory as NoMemoryForRaw}
use Rattle.mir_parse.specs.declared.faults.TextFault.{TextFault}
use Rattle.mir_parse.specs.declared.faults.TextFault.TheVariants.{Lex, Parse}
use Rattle.mir_valid.specs.declared.faults.ValidFault.{ValidFault}
use Rattle.mir_valid.specs.declared.faults.ValidFault.TheVariants.{NoUnit, TooManyUnits, SameUnit, TooManyInsts, LateReceive, SameReceive, TooManyReceives, SameLabel, NoLabel, NoSuchUnit, WrongCount, SameGlobal, TooManyGlobals, GlobalReceive, BadTrap, Memory as NoMemoryForProgram}
use Rattle.mir_top.specs.Complaints.{Complaint, of_program, of_text}
use Rattle.mir_top.specs.Due.{IsRefused, long, unreadable, invalid}
use Rattle.mir_top.specs.Streams.{Stream, never_failed, without_fault}
use Rattle.mir_table.specs.Promises.{TextPromises, memory_failed, not_written, source_failed, tables_written, text_refused, written_in_part, written_whole}
use Rattle.mir_table.specs.declared.kinds.TableKind.{TableKind}
use Rattle.mir_table.specs.Kinds.{kind_of}
use Rattle.mir_call.specs.Answers.{HasTabled, IsTableAnswer}
use Rattle.mir_call.specs.Spelled.{words_in}

-- no refusal of a text that spells no raw program has this status
text_is_not_six : (fault : TextFault) → (of_text fault).status ≡ 6 → ⊥
text_is_not_six (Lex (BadByte line)) is = omega arith
text_is_not_six (Lex (BadNumber line)) is = omega arith
text_is_not_six (Lex (LongName line)) is = omega arith
text_is_not_six (Lex (NoMemoryForTokens refusal)) is = omega arith
text_is_not_six (Parse (Unexpected line)) is = omega arith
text_is_not_six (Parse Unfinished) is = omega arith
text_is_not_six (Parse (NoMemoryForRaw refusal)) is = omega arith

-- nor that of a raw program that is not valid
program_is_not_six : (fault : ValidFault) → (of_program fault).status ≡ 6 → ⊥
program_is_not_six NoUnit is = omega arith
program_is_not_six TooManyUnits is = omega arith
program_is_not_six (SameUnit line) is = omega arith
program_is_not_six (TooManyInsts line) is = omega arith
program_is_not_six (LateReceive line) is = omega arith
program_is_not_six (SameReceive line) is = omega arith
program_is_not_six (TooManyReceives line) is = omega arith
program_is_not_six (SameLabel line) is = omega arith
program_is_not_six (NoLabel line) is = omega arith
program_is_not_six (NoSuchUnit line) is = omega arith
program_is_not_six (WrongCount line) is = omega arith
program_is_not_six (SameGlobal line) is = omega arith
program_is_not_six (TooManyGlobals line) is = omega arith
program_is_not_six (GlobalReceive line) is = omega arith
program_is_not_six (BadTrap line) is = omega arith
program_is_not_six (NoMemoryForProgram refusal) is = omega arith

-- so no refusal of a text has this status
refusal_is_not_six : (text : List ℕ) (complaint : Complaint) → IsRefused text complaint → complaint.status ≡ 6 → ⊥
refusal_is_not_six text complaint (long above) is = omega arith
refusal_is_not_six text complaint (unreadable fault short refusal) is = text_is_not_six fault is
refusal_is_not_six text complaint (invalid fault short refusal) is = program_is_not_six fault is

-- nor does a call of `tables` that asks for tables have the status 6, over a source that never fails
kind_is_not_six : (kind : TableKind) (text left : List ℕ) (out err : Stream) (status : ℕ)
    → TextPromises kind (record { source = without_fault (Some text) (Some left); out = out; err = err; status = status })
    → status ≡ 6 → ⊥
kind_is_not_six kind text left out err status promises is =
    elim promises.ended [
      | tables_written has ↦
          elim has.written [
            | written_whole shown shows gave quiet zero ↦ omega (arith, zero, is)
            | written_in_part shown shows part ended ↦ let seven = ended.status_is in omega (arith, seven, is)
            | not_written silent ended ↦ let eight = ended.status_is in omega (arith, eight, is)
          ]
      | text_refused refusal silent ↦
          refusal_is_not_six refusal.text refusal.complaint refusal.refused (sym refusal.ended.status_is ∙ is)
      | source_failed failed ended silent ↦ never_failed (Some text) (Some left) failed
      | memory_failed ended silent ↦ let eight = ended.status_is in omega (arith, eight, is)
    ]

-- nor where it asks for none
tabled_is_not_six : (words : List (List ℕ)) (text : List ℕ) (out err : Stream) (status : ℕ) → HasTabled words text out err status
    → status ≡ 6 → ⊥
tabled_is_not_six words text out err status tabled is = go (kind_of words) refl
  where
    go : (kind : Option TableKind) → kind_of words ≡ kind → ⊥
    go None none = let one = (tabled.promises.usage none).0.status_is in omega (arith, one, is)
    go (Some kind) asked = kind_is_not_six kind text tabled.left out err status (tabled.promises.text kind asked) is

-- nor where there is no memory for the words
pub table_is_not_six : (bytes text : List ℕ) (out err : Stream) (status : ℕ) → IsTableAnswer bytes text out err status
    → status ≡ 6 → ⊥
table_is_not_six bytes text out err status answer is = elim answer [
  | inl tabled ↦ tabled_is_not_six (unwrap_or (words_in bytes) ([] ∷ [])) text out err status tabled is
  | inr none ↦ let eight = none.status_is in omega (arith, eight, is)
]
