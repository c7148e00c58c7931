-- What each command asks of its words. Cited by contracts.
use Rattle.std.specs.Prelude.{ℕ, ◌≡◌, ℤ, pos, Bool, true, false, ◌&&◌, List, [], ◌∷◌, map, codes, String, string_bytes, Option, None, Some, nat_le, if◌then◌else◌, IsTrue, IsSome, is_some, unwrap_or}
use Rattle.std.specs.declared.alloc.Global.{Global}
use Rattle.std.specs.List.{list_all}
use Rattle.std.specs.Option.{option_map}
use Rattle.mir_base.specs.Limits.{most_steps, most_units}
use Rattle.mir_base.specs.Words.{is_text}
use Rattle.mir_lex.specs.Numbers.{signed_number, unsigned_number}
use Rattle.mir_top.specs.declared.command.Command.{Command}
use Rattle.mir_top.specs.declared.command.Command.TheVariants.{Optimise, Stages, Move, Ranges, Divisions, Tails, Join, Thorough, Passes, Run, Trial}
use Rattle.mir_top.specs.PassWords.{are_passes}

-- the bytes of each word of the command line
abbrev pub word_bytes : List (String Global) → List (List ℕ)
word_bytes words = map string_bytes words

-- the number, where it is at most so much
abbrev pub at_most : ℕ → Option ℕ → Option ℕ
at_most most None = None
at_most most (Some number) = if nat_le number most then Some number else None

-- the number of steps that a word gives: one or more decimal digits, of at most 1,000,000
abbrev pub step_count : List ℕ → Option ℕ
step_count word = at_most most_steps (unsigned_number word)

-- the command, where no word follows its own
abbrev pub alone_of : Command → List (List ℕ) → Option Command
alone_of command [] = Some command
alone_of command (argument ∷ arguments) = None

-- `passes [PASS ..]`, by the words after `passes`
abbrev pub chain_of : List (List ℕ) → Option Command
chain_of words = if are_passes words then Some Passes else None

-- a word is an input of a run: an optional `-` and digits, of a signed 64-bit number
abbrev pub is_input : List ℕ → Bool
is_input word = is_some (signed_number word)

-- `run STEPS [N ..]`, by the words after `run`
abbrev pub run_of : List (List ℕ) → Option Command
run_of [] = None
run_of (steps ∷ inputs) =
    if list_all is_input inputs then option_map (λ count. Run count) (step_count steps) else None

-- `trial NUMBER UNITS`, by the two numbers: there are from 1 to 256 units
abbrev pub trial_with : Option ℕ → Option ℕ → Option Command
trial_with None units = None
trial_with (Some number) None = None
trial_with (Some number) (Some units) =
    if nat_le 1 units && nat_le units most_units then Some (Trial number units) else None

-- `trial NUMBER UNITS`, by the words after `trial`: each is one or more decimal digits, of a number below 2^64
abbrev pub trial_of : List (List ℕ) → Option Command
trial_of [] = None
trial_of (number ∷ []) = None
trial_of (number ∷ units ∷ []) = trial_with (unsigned_number number) (unsigned_number units)
trial_of (number ∷ units ∷ other ∷ others) = None

-- the command that these words are
abbrev pub command_of : List (List ℕ) → Option Command
command_of [] = None
command_of (word ∷ arguments) =
    if is_text (codes "optimise") word then alone_of Optimise arguments else
    if is_text (codes "stages") word then alone_of Stages arguments else
    if is_text (codes "move") word then alone_of Move arguments else
    if is_text (codes "ranges") word then alone_of Ranges arguments else
    if is_text (codes "divisions") word then alone_of Divisions arguments else
    if is_text (codes "tails") word then alone_of Tails arguments else
    if is_text (codes "join") word then alone_of Join arguments else
    if is_text (codes "thorough") word then alone_of Thorough arguments else
    if is_text (codes "passes") word then chain_of arguments else
    if is_text (codes "run") word then run_of arguments else
    if is_text (codes "trial") word then trial_of arguments else None

-- the words are those of a command
abbrev pub Asks : List (List ℕ) → Type 0
Asks words = IsSome (command_of words)

-- the words are those of a run
abbrev pub AsksRun : List (List ℕ) → Type 0
AsksRun words = (steps : ℕ) × (command_of words ≡ Some (Run steps))

-- whether a command works on the text that the source gives
abbrev pub reads_text : Command → Bool
reads_text Optimise = true
reads_text Stages = true
reads_text Move = true
reads_text Ranges = true
reads_text Divisions = true
reads_text Tails = true
reads_text Join = true
reads_text Thorough = true
reads_text Passes = true
reads_text (Run steps) = true
reads_text (Trial number units) = false

-- the words are those of a command that reads the text
abbrev pub Reads : List (List ℕ) → Type 0
Reads words = (command : Command) × (command_of words ≡ Some command) × IsTrue (reads_text command)

-- the number of an input, and 0 for another word
abbrev pub input_value : List ℕ → ℤ
input_value word = unwrap_or (signed_number word) (pos 0)

-- the inputs, by the words after `run`
abbrev pub inputs_after_steps : List (List ℕ) → List ℤ
inputs_after_steps [] = []
inputs_after_steps (steps ∷ inputs) = map input_value inputs

-- the inputs that the words of a run give
abbrev pub inputs_in : List (List ℕ) → List ℤ
inputs_in [] = []
inputs_in (word ∷ arguments) = inputs_after_steps arguments
