-- What `parse` and `read_text` answer; memory may run out in each of these. Cited by contracts.
use Rattle.std.specs.Prelude.{ℕ, ◌≡◌, ◌⊎◌, List, Result, MatchResult, IsErrOf}
use Rattle.mir_lex.specs.declared.terminals.Terminal.{Terminal}
use Rattle.mir_parse.specs.declared.raw.Raw.{Raw}
use Rattle.mir_parse.specs.declared.faults.ParseFault.{ParseFault}
use Rattle.mir_parse.specs.declared.faults.ParseFault.TheVariants.{Unexpected}
use Rattle.mir_parse.specs.declared.faults.TextFault.{TextFault}
use Rattle.mir_parse.specs.Fault.{IsParseMemory}
use Rattle.mir_parse.specs.Grammar.{IsText, IsUnexpected}
use Rattle.mir_parse.specs.Spells.{Spells, IsTextRefusal, IsTextMemory}

-- the tokens are refused for this cause, or memory runs out
abbrev pub IsRefusedFor : Result Raw ParseFault → ParseFault → Type 0
IsRefusedFor result fault =
    MatchResult result (λ raw. ⊥) (λ other. (other ≡ fault) ⊎ IsParseMemory other)

-- the raw program that the tokens spell is answered, or memory runs out
abbrev pub AnswersRaw : Result Raw ParseFault → List Terminal → Type 0
AnswersRaw result ts = (raw : Raw) → IsText ts raw
    → MatchResult result (λ read. read ≡ raw) IsParseMemory

-- where a line is refused as unexpected, it is that of the first token that makes no prefix of a text
abbrev pub OnlyUnexpectedIsRefused : Result Raw ParseFault → List Terminal → Type 0
OnlyUnexpectedIsRefused result ts = (line : ℕ) → IsErrOf result (Unexpected line)
    → IsUnexpected ts line

-- where there is such a token, its line is refused as unexpected, or memory runs out
abbrev pub UnexpectedIsRefused : Result Raw ParseFault → List Terminal → Type 0
UnexpectedIsRefused result ts = (line : ℕ) → IsUnexpected ts line
    → IsRefusedFor result (Unexpected line)

-- the raw program that the text spells is answered, or memory runs out
abbrev pub AnswersSpelled : Result Raw TextFault → List ℕ → Type 0
AnswersSpelled result text = (raw : Raw) → Spells text raw
    → MatchResult result (λ read. read ≡ raw) IsTextMemory

-- where the text has a cause to be refused, it is refused for that, or memory runs out
abbrev pub CauseIsRefused : Result Raw TextFault → List ℕ → Type 0
CauseIsRefused result text = (fault : TextFault) → IsTextRefusal text fault
    → MatchResult result (λ raw. ⊥) (λ other. (other ≡ fault) ⊎ IsTextMemory other)
