-- The classes of statuses, and the class of each complaint and outcome.
use Rattle.std.proofs.Common.{◌≡◌, ◌≤◌, ℕ, List, [], ◌∷◌, Contains, refl, arith, T, ◌==◌, ◌||◌}
use Rattle.std.proofs.lemmas.List.Elements.{All-contains, All-from_recursion}
use Rattle.std.specs.List.{AllByRecursion}
use Rattle.mir_interp.specs.declared.report.Finish.{Finish}
use Rattle.mir_interp.specs.declared.report.Finish.TheVariants.{Running, Ended as RunEnded, Trapped}
use Rattle.mir_lex.specs.declared.faults.LexFault.{LexFault}
use Rattle.mir_lex.specs.declared.faults.LexFault.TheVariants.{BadByte, BadNumber, LongName, Memory as NoMemoryForTokens}
use Rattle.mir_parse.specs.declared.faults.ParseFault.{ParseFault}
use Rattle.mir_parse.specs.declared.faults.ParseFault.TheVariants.{Unexpected, Unfinished, Memory as NoMemoryForRaw}
use Rattle.mir_parse.specs.declared.faults.TextFault.{TextFault}
use Rattle.mir_parse.specs.declared.faults.TextFault.TheVariants.{Lex, Parse}
use Rattle.mir_parse.specs.Spells.{IsTextRefusal, IsTextMemory}
use Rattle.mir_valid.specs.declared.faults.ValidFault.{ValidFault}
use Rattle.mir_valid.specs.declared.faults.ValidFault.TheVariants.{NoUnit, TooManyUnits, SameUnit, TooManyInsts, LateReceive, SameReceive, TooManyReceives, SameLabel, NoLabel, NoSuchUnit, WrongCount, SameGlobal, TooManyGlobals, GlobalReceive, BadTrap, Memory as NoMemoryForProgram}
use Rattle.mir_valid.specs.Refusals.{IsValidMemory}
use Rattle.mir_top.specs.declared.outcome.Outcome.{Outcome}
use Rattle.mir_top.specs.declared.outcome.Outcome.TheVariants.{Optimised, Shown, Moved, Ranged, Divided, Rewritten, Ran, Compared}
use Rattle.mir_top.specs.Calls.{reply_of}
use Rattle.mir_top.specs.Complaints.{Complaint, of_text, of_program, out_of_memory}
use Rattle.mir_top.specs.Due.{IsRefused, long, unreadable, invalid, Refuses, no_command, no_text, wrong_number, too_deep, status_of_finish}
use Rattle.mir_top.specs.Texts.{OneReading}

-- ---- the classes, once as a list and once as a test, which computes at a given status

-- an output was made and written
abbrev pub IsSuccess : ℕ → Type 0
IsSuccess n = Contains (0 ∷ 3 ∷ 4 ∷ []) n

-- the words, the text, the inputs or the run are refused
abbrev pub IsRefusalStatus : ℕ → Type 0
IsRefusalStatus n = Contains (1 ∷ 2 ∷ 5 ∷ []) n

-- a status of `IsSuccess`
abbrev pub is_success : ℕ → Type 0
is_success n = T (n == 0 || n == 3 || n == 4)

-- a status of `IsRefusalStatus`
abbrev pub is_refusal : ℕ → Type 0
is_refusal n = T (n == 1 || n == 2 || n == 5)

-- a status that comes under `run` alone
abbrev pub is_of_run : ℕ → Type 0
is_of_run n = T (n == 3 || n == 4)

-- a status with which nothing is written to the output
abbrev pub is_silent : ℕ → Type 0
is_silent n = T (n == 1 || n == 2 || n == 5 || n == 6 || n == 8)

-- ---- what holds of each status of a class holds of a status in it

-- the same of each number of a list
among : (P : ℕ → Type 0) (xs : List ℕ) → AllByRecursion P xs → (n : ℕ) → Contains xs n → P n
among P xs all n is = All-contains P xs n (All-from_recursion P xs all) is

-- what holds of 0, 3 and 4 holds of each status of success
pub success_has : (P : ℕ → Type 0) → P 0 → P 3 → P 4 → (n : ℕ) → IsSuccess n → P n
success_has P nought three four n is = among P (0 ∷ 3 ∷ 4 ∷ []) (nought, (three, (four, tt))) n is

-- what holds of 1, 2 and 5 holds of each status of a refusal
pub refusal_has : (P : ℕ → Type 0) → P 1 → P 2 → P 5 → (n : ℕ) → IsRefusalStatus n → P n
refusal_has P one two five n is = among P (1 ∷ 2 ∷ 5 ∷ []) (one, (two, (five, tt))) n is

-- what holds of 3 and 4 holds of each status of a run that does not return
pub run_has : (P : ℕ → Type 0) → P 3 → P 4 → (n : ℕ) → Contains (3 ∷ 4 ∷ []) n → P n
run_has P three four n is = among P (3 ∷ 4 ∷ []) (three, (four, tt)) n is

-- a status of the list of those without output passes the test of them
pub silent_is : (n : ℕ) → Contains (1 ∷ 2 ∷ 5 ∷ 6 ∷ 8 ∷ []) n → is_silent n
silent_is n is = among is_silent (1 ∷ 2 ∷ 5 ∷ 6 ∷ 8 ∷ []) (tt, (tt, (tt, (tt, (tt, tt))))) n is

-- a status of success passes the test of success
pub success_is : (n : ℕ) → IsSuccess n → is_success n
success_is = success_has is_success tt tt tt

-- a status of a refusal passes the test of refusals
pub refusal_is : (n : ℕ) → IsRefusalStatus n → is_refusal n
refusal_is = refusal_has is_refusal tt tt tt

-- ---- no status of a refusal is one of success

-- a status of a refusal does not pass the test of success
pub refusal_no_success : (n : ℕ) → IsRefusalStatus n → is_success n → ⊥
refusal_no_success = refusal_has (λ (n : ℕ). is_success n → ⊥) (λ is. is) (λ is. is) (λ is. is)

-- a status of success does not pass the test of refusals
pub success_no_refusal : (n : ℕ) → IsSuccess n → is_refusal n → ⊥
success_no_refusal = success_has (λ (n : ℕ). is_refusal n → ⊥) (λ is. is) (λ is. is) (λ is. is)

-- a status of success does not pass the test of those without output
pub success_no_silent : (n : ℕ) → IsSuccess n → is_silent n → ⊥
success_no_silent = success_has (λ (n : ℕ). is_silent n → ⊥) (λ is. is) (λ is. is) (λ is. is)

-- a status of a refusal is one of the statuses 0 to 8
pub refusal_below : (n : ℕ) → IsRefusalStatus n → n ≤ 8
refusal_below = refusal_has (λ (n : ℕ). n ≤ 8) (omega arith) (omega arith) (omega arith)

-- a status of success is one of the statuses 0 to 8
pub success_below : (n : ℕ) → IsSuccess n → n ≤ 8
success_below = success_has (λ (n : ℕ). n ≤ 8) (omega arith) (omega arith) (omega arith)

-- ---- the class of each outcome

-- a run that returned, trapped or still goes on has made an output, so its status is one of success
finish_is_success : (finish : Finish) → IsSuccess (status_of_finish finish)
finish_is_success (RunEnded result) = (0, omega arith, refl)
finish_is_success (Trapped kind) = (1, omega arith, refl)
finish_is_success Running = (2, omega arith, refl)

-- so the status of each outcome is one of success
pub outcome_is_success : (outcome : Outcome) → IsSuccess (reply_of outcome).status
outcome_is_success (Optimised trail) = (0, omega arith, refl)
outcome_is_success (Shown trail) = (0, omega arith, refl)
outcome_is_success (Moved trail) = (0, omega arith, refl)
outcome_is_success (Ranged trail) = (0, omega arith, refl)
outcome_is_success (Divided trail) = (0, omega arith, refl)
outcome_is_success Rewritten = (0, omega arith, refl)
outcome_is_success (Ran finish) = finish_is_success finish
outcome_is_success Compared = (0, omega arith, refl)

-- ---- the complaint of each fault: running out of memory has one, and each refusal has status 1, 2 or 5

-- the status of a refused text, 2, is that of a refusal
two : IsRefusalStatus 2
two = (1, omega arith, refl)

-- for a fault of the bytes
bytes_complaint : (text : List ℕ) (fault : LexFault) → (IsTextMemory (Lex fault) → of_text (Lex fault) ≡ out_of_memory) × (IsTextRefusal text (Lex fault) → IsRefusalStatus (of_text (Lex fault)).status)
bytes_complaint text (BadByte line) = (λ is. absurd is, λ _. two)
bytes_complaint text (BadNumber line) = (λ is. absurd is, λ _. two)
bytes_complaint text (LongName line) = (λ is. absurd is, λ _. two)
bytes_complaint text (NoMemoryForTokens refusal) = (λ _. refl, λ refused. absurd refused.stops)

-- for a fault of the tokens
tokens_complaint : (text : List ℕ) (fault : ParseFault) → (IsTextMemory (Parse fault) → of_text (Parse fault) ≡ out_of_memory) × (IsTextRefusal text (Parse fault) → IsRefusalStatus (of_text (Parse fault)).status)
tokens_complaint text (Unexpected line) = (λ is. absurd is, λ _. two)
tokens_complaint text Unfinished = (λ is. absurd is, λ _. two)
tokens_complaint text (NoMemoryForRaw refusal) = (λ _. refl, λ refused. absurd refused.2)

-- so for each fault of a text
pub text_complaint : (text : List ℕ) (fault : TextFault) → (IsTextMemory fault → of_text fault ≡ out_of_memory) × (IsTextRefusal text fault → IsRefusalStatus (of_text fault).status)
text_complaint text (Lex fault) = bytes_complaint text fault
text_complaint text (Parse fault) = tokens_complaint text fault

-- for a fault of a raw program, where all but running out of memory are refusals
pub program_complaint : (fault : ValidFault) → (IsValidMemory fault → of_program fault ≡ out_of_memory) × ((IsValidMemory fault → ⊥) → IsRefusalStatus (of_program fault).status)
program_complaint NoUnit = (λ is. absurd is, λ _. two)
program_complaint TooManyUnits = (λ is. absurd is, λ _. two)
program_complaint (SameUnit line) = (λ is. absurd is, λ _. two)
program_complaint (TooManyInsts line) = (λ is. absurd is, λ _. two)
program_complaint (LateReceive line) = (λ is. absurd is, λ _. two)
program_complaint (SameReceive line) = (λ is. absurd is, λ _. two)
program_complaint (TooManyReceives line) = (λ is. absurd is, λ _. two)
program_complaint (SameLabel line) = (λ is. absurd is, λ _. two)
program_complaint (NoLabel line) = (λ is. absurd is, λ _. two)
program_complaint (NoSuchUnit line) = (λ is. absurd is, λ _. two)
program_complaint (WrongCount line) = (λ is. absurd is, λ _. two)
program_complaint (SameGlobal line) = (λ is. absurd is, λ _. two)
program_complaint (TooManyGlobals line) = (λ is. absurd is, λ _. two)
program_complaint (GlobalReceive line) = (λ is. absurd is, λ _. two)
program_complaint (BadTrap line) = (λ is. absurd is, λ _. two)
program_complaint (NoMemoryForProgram refusal) = (λ _. refl, λ other. absurd (other tt))

-- ---- a refusal that is due has status 1, 2 or 5

-- a text is refused as too long, as unreadable or as invalid, and each has status 2
refused_is_refusal : OneReading → (text : List ℕ) (complaint : Complaint) → IsRefused text complaint → IsRefusalStatus complaint.status
refused_is_refusal laws text _ (long above) = two
refused_is_refusal laws text _ (unreadable fault short refused) = (text_complaint text fault).1 refused
refused_is_refusal laws text _ (invalid fault short refused) = (program_complaint fault).1 (laws.no_memory_none refused.raw fault refused.refused)

-- a refused text has status 2, wrong words and a wrong number of inputs have 1, and a run too deep has 5
pub refuses_is_refusal : OneReading → (words : List (List ℕ)) (text : List ℕ) (complaint : Complaint) → Refuses words text complaint → IsRefusalStatus complaint.status
refuses_is_refusal laws words text _ (no_command none) = (0, omega arith, refl)
refuses_is_refusal laws words text _ (no_text complaint reads refused) = refused_is_refusal laws text complaint refused
refuses_is_refusal laws words text _ (wrong_number n program asked on wrong) = (0, omega arith, refl)
refuses_is_refusal laws words text _ (too_deep n program asked on right above) = (2, omega arith, refl)
