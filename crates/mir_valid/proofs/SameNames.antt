-- The step of a loop that looks for names which occurred before.
use Rattle.std.proofs.Common.{◌≡◌, ℕ, ◌+◌, ◌<◌, Bool, false, not, List, [], ◌∷◌, ◌++◌, map, fold, is_some, is_none, take, length, get_or, Option, None, Some, if◌then◌else◌, ap, ◌∙◌, sym}
use Rattle.std.proofs.Math.Bool.{not-not}
use Rattle.std.specs.Option.{option_map_or}
use Rattle.std.specs.List.{cons_option}
use Rattle.std.proofs.lemmas.List.{take_more, map-append, append-nil}
use Rattle.std.proofs.lemmas.List.Elements.{filter_map-append}
use Rattle.mir_parse.specs.declared.raw.RawInst.{RawInst}
use Rattle.mir_valid.specs.Names.{NameEntry, has_name, number_in}
use Rattle.mir_valid.specs.Rules.{broken, received_by, received, receives_again}
use Rattle.mir_valid.specs.Refusals.{lesser}
use Rattle.mir_valid.specs.NameTables.{with_entry, has_received, with_received}
use Rattle.mir_valid.proofs.BrokenLaws.{least_next}
use Rattle.mir_valid.proofs.TableLaws.{seen_next}

-- the table finds these names
abbrev pub Finds : List NameEntry → List (List ℕ) → Type 0
Finds table names = (x : List ℕ) → is_some (number_in table x) ≡ has_name names x

-- the names of the items and of one more are those so far and its own
names_next : {A : Type 0} (name : A → List ℕ) (xs : List A) (i : ℕ) (x : A) → i < length xs → x ≡ get_or xs i x → map name (take (i + 1) xs) ≡ map name (take i xs) ++ name x ∷ []
names_next name xs i x low at = ap (map name) (take_more xs i x low ∙ ap (λ y. take i xs ++ y ∷ []) (sym at)) ∙ map-append name (take i xs) (x ∷ [])

-- the names of a table after one more item
pub finds_next : {A : Type 0} (name : A → List ℕ) (xs : List A) (i : ℕ) (x : A) (table table' : List NameEntry) → i < length xs → x ≡ get_or xs i x
    → Finds table (map name (take i xs)) → table' ≡ with_entry table (name x, 0) → Finds table' (map name (take (i + 1) xs))
finds_next name xs i x table table' low at finds added y =
    seen_next table table' (map name (take i xs)) (name x) 0 finds added y ∙ ap (λ names. has_name names y) (sym (names_next name xs i x low at))

-- the smallest line after one more item
pub same_next : {A : Type 0} (name : A → List ℕ) (line : A → ℕ) (xs : List A) (i : ℕ) (x : A) (table : List NameEntry) (first best best' : Option ℕ) (is_new : Bool)
    → i < length xs → x ≡ get_or xs i x → Finds table (map name (take i xs))
    → best ≡ fold lesser first (broken line (λ earlier y. has_name (map name earlier) (name y)) (take i xs))
    → is_new ≡ is_none (number_in table (name x)) → best' ≡ (if not is_new then lesser best (line x) else best)
    → best' ≡ fold lesser first (broken line (λ earlier y. has_name (map name earlier) (name y)) (take (i + 1) xs))
same_next name line xs i x table first best best' is_new low at finds before told is =
    least_next line (λ earlier y. has_name (map name earlier) (name y)) first xs i x best best' (not is_new) low at before
    (ap not told ∙ not-not (is_some (number_in table (name x))) ∙ finds (name x))
    is

-- ---- receives

-- a table that takes in the received name, if there is one, finds the names with it
seen_option : (table table' : List NameEntry) (names : List (List ℕ)) (received_name : Option (List ℕ)) → Finds table names
    → table' ≡ option_map_or (λ x. with_entry table (x, 0)) received_name table → Finds table' (names ++ cons_option received_name [])
seen_option table table' names None finds is y = ap (λ t. is_some (number_in t y)) is ∙ finds y ∙ ap (λ ns. has_name ns y) (sym (append-nil names))
seen_option table table' names (Some x) finds is y = seen_next table table' names x 0 finds is y

-- the names of a table after one more instruction
pub received_next : (body : List RawInst) (i : ℕ) (inst : RawInst) (table table' : List NameEntry) → i < length body → inst ≡ get_or body i inst
    → Finds table (received (take i body)) → table' ≡ with_received table inst.form → Finds table' (received (take (i + 1) body))
received_next body i inst table table' low at finds is y =
    seen_option table table' (received (take i body)) (received_by inst.form) finds is y
    ∙ ap (λ names. has_name names y)
    (sym (ap received (take_more body i inst low ∙ ap (λ j. take i body ++ j ∷ []) (sym at)) ∙ filter_map-append (λ j. received_by j.form) (take i body) (inst ∷ [])))

-- what the table finds is what was received before
pub received_again : (body : List RawInst) (i : ℕ) (inst : RawInst) (table : List NameEntry) → Finds table (received (take i body))
    → has_received table inst.form ≡ receives_again (take i body) inst
received_again body i inst table finds = λ j. option_map_or (λ x. finds x j) (received_by inst.form) false
