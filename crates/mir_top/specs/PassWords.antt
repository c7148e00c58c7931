-- The words of passes, and which passes the words of a call are. Cited by contracts.
use Rattle.std.specs.Prelude.{ℕ, Bool, ◌&&◌, List, [], ◌∷◌, map, length, codes, Option, None, Some, nat_le, if◌then◌else◌, is_some, unwrap_or}
use Rattle.std.specs.List.{list_all}
use Rattle.mir_base.specs.Words.{is_text}
use Rattle.pass_chain.specs.declared.passes.Pass.{Pass}
use Rattle.pass_chain.specs.declared.passes.Pass.TheVariants.{Tails, Join, Arguments, Optimise, Clean, Fold, Number, Copies, Motion, Divisions, Sink, Comparisons, Terms, Bounds, Extensions, Unread, Wanted, Demanded, Known, Called}

-- the most passes of a call
abbrev pub most_passes : ℕ
most_passes = 64

-- the pass of a word
abbrev pub pass_of : List ℕ → Option Pass
pass_of word =
    if is_text (codes "tails") word then Some Tails else
    if is_text (codes "join") word then Some Join else
    if is_text (codes "arguments") word then Some Arguments else
    if is_text (codes "optimise") word then Some Optimise else
    if is_text (codes "clean") word then Some Clean else
    if is_text (codes "fold") word then Some Fold else
    if is_text (codes "number") word then Some Number else
    if is_text (codes "copies") word then Some Copies else
    if is_text (codes "motion") word then Some Motion else
    if is_text (codes "divisions") word then Some Divisions else
    if is_text (codes "sink") word then Some Sink else
    if is_text (codes "comparisons") word then Some Comparisons else
    if is_text (codes "terms") word then Some Terms else
    if is_text (codes "bounds") word then Some Bounds else
    if is_text (codes "extensions") word then Some Extensions else
    if is_text (codes "unread") word then Some Unread else
    if is_text (codes "wanted") word then Some Wanted else
    if is_text (codes "demanded") word then Some Demanded else
    if is_text (codes "known") word then Some Known else
    if is_text (codes "called") word then Some Called else None

-- a word is that of a pass
abbrev pub is_pass : List ℕ → Bool
is_pass word = is_some (pass_of word)

-- the words are those of passes, and not too many
abbrev pub are_passes : List (List ℕ) → Bool
are_passes words = nat_le (length words) most_passes && list_all is_pass words

-- the pass of a word, and `clean` for another word
abbrev pub pass_value : List ℕ → Pass
pass_value word = unwrap_or (pass_of word) Clean

-- the passes that the words of `passes` give, from the first to the last
abbrev pub passes_in : List (List ℕ) → List Pass
passes_in [] = []
passes_in (word ∷ passes) = map pass_value passes
