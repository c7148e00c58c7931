-- Tables: what a look-up finds in a table that a map keeps, and after entries were added.
use Rattle.std.proofs.Common.{◌≡◌, ℕ, suc, ◌+◌, Bool, true, false, ◌||◌, cond, nat_eq, is_some, is_none, not, if◌then◌else◌, List, [], ◌∷◌, ◌++◌, map, fold, length, Bor, Option, None, Some, refl, ap, sym, ◌∙◌, arith}
use Rattle.std.proofs.Math.Bool.{or-false}
use Rattle.std.specs.Map.{lookup}
use Rattle.std.specs.Cmp.Lexicographic.{pointwise}
use Rattle.std.specs.Option.{option_or}
use Rattle.std.proofs.lemmas.List.Folds.{list_any-append}
use Rattle.indexmap.specs.IndexMap.{insert_entry}
use Rattle.mir_base.specs.Words.{is_text}
use Rattle.mir_valid.specs.Names.{NameEntry, has_name, number_in}
use Rattle.mir_valid.specs.NameLaws.{same_is}
use Rattle.mir_valid.specs.NameTables.{with_entry, table_of, entries_from}
use Rattle.mir_valid.specs.Numbered.{with_name}
use Rattle.mir_base.specs.ItemLaws.{or_none}

-- a map's entries as names with numbers
abbrev pub map_entries : List (Bor (List ℕ) × ℕ) → List NameEntry
map_entries entries = map (λ entry. (entry.0.now, entry.1)) entries

-- a look-up in a map is one in its entries
pub lookup_seen : (x : List ℕ) (entries : List (Bor (List ℕ) × ℕ)) → lookup (λ key. pointwise nat_eq x key.now) entries ≡ number_in (map_entries entries) x
lookup_seen x [] = refl
lookup_seen x (entry ∷ entries) = ap (λ found. cond (pointwise nat_eq x entry.0.now) (Some entry.1) found) (lookup_seen x entries)

-- a name that is not there is added at the end
pub seen_insert : (key : Bor (List ℕ)) (n : ℕ) (entries : List (Bor (List ℕ) × ℕ)) → number_in (map_entries entries) key.now ≡ None
    → map_entries (insert_entry (λ x y. pointwise nat_eq x.now y.now) entries key n) ≡ map_entries entries ++ (key.now, n) ∷ []
seen_insert key n [] none = refl
seen_insert key n (entry ∷ entries) none = by (pointwise nat_eq key.now entry.0.now) refl (seen_insert key n entries)
  where
    by : (b : Bool) → pointwise nat_eq key.now entry.0.now ≡ b
        → (number_in (map_entries entries) key.now ≡ None → map_entries (insert_entry (λ x y. pointwise nat_eq x.now y.now) entries key n) ≡ map_entries entries ++ (key.now, n) ∷ [])
        → map_entries (insert_entry (λ x y. pointwise nat_eq x.now y.now) (entry ∷ entries) key n) ≡ map_entries (entry ∷ entries) ++ (key.now, n) ∷ []
    by true e later = absurd (cc (none, ap (λ b. cond b (Some entry.1) (number_in (map_entries entries) key.now)) e))
    by false e later =
        let rest : number_in (map_entries entries) key.now ≡ None = sym (ap (λ b. cond b (Some entry.1) (number_in (map_entries entries) key.now)) e) ∙ none in
        ap (λ b. map_entries (if b then (entry.0, n) ∷ entries else entry ∷ insert_entry (λ x y. pointwise nat_eq x.now y.now) entries key n)) e
        ∙ ap (λ es. (entry.0.now, entry.1) ∷ es) (later rest)

-- an entry with a new name goes last
pub with_entry_new : (table : List NameEntry) (x : List ℕ) (n : ℕ) → number_in table x ≡ None → with_entry table (x, n) ≡ table ++ (x, n) ∷ []
with_entry_new table x n none = ap (λ found. if is_some found then table else table ++ (x, n) ∷ []) none

-- ---- names that are numbered in order

-- of two things found in order one is there where the first is, or else the second
is_some_cond : (b : Bool) (n : ℕ) (found : Option ℕ) → is_some (cond b (Some n) found) ≡ (b || is_some found)
is_some_cond true n found = refl
is_some_cond false n found = refl

-- a name has a number in the table exactly where the list has it
pub has_number : (n : ℕ) (names : List (List ℕ)) (x : List ℕ) → is_some (number_in (entries_from n names) x) ≡ has_name names x
has_number n [] x = refl
has_number n (name ∷ names) x =
    is_some_cond (is_text x name) n (number_in (entries_from (suc n) names) x) ∙ ap (λ b. is_text x name || b) (has_number (suc n) names x)

-- one more name has the next number
pub entries_push : (n : ℕ) (names : List (List ℕ)) (x : List ℕ) → entries_from n (names ++ x ∷ []) ≡ entries_from n names ++ (x, n + length names) ∷ []
entries_push n [] x = ap (λ k. (x, k) ∷ []) (omega arith)
entries_push n (name ∷ names) x =
    let k : suc n + length names ≡ n + length (name ∷ names) = omega arith in
    ap (λ es. (name, n) ∷ es) (entries_push (suc n) names x ∙ ap (λ k. entries_from (suc n) names ++ (x, k) ∷ []) k)

-- a name that is new gets the number of the names so far, and one that is not leaves the table
pub with_entry_from : (names : List (List ℕ)) (x : List ℕ) → with_entry (entries_from 0 names) (x, length names) ≡ entries_from 0 (with_name names x)
with_entry_from names x = by (has_name names x) refl
  where
    by : (b : Bool) → has_name names x ≡ b → with_entry (entries_from 0 names) (x, length names) ≡ entries_from 0 (with_name names x)
    by true e =
        ap (λ b. if b then entries_from 0 names else entries_from 0 names ++ (x, length names) ∷ []) (has_number 0 names x ∙ e)
        ∙ ap (λ b. entries_from 0 (if b then names else names ++ x ∷ [])) (sym e)
    by false e =
        let k : 0 + length names ≡ length names = omega arith in
        ap (λ b. if b then entries_from 0 names else entries_from 0 names ++ (x, length names) ∷ []) (has_number 0 names x ∙ e)
        ∙ sym (entries_push 0 names x ∙ ap (λ k. entries_from 0 names ++ (x, k) ∷ []) k)
        ∙ ap (λ b. entries_from 0 (if b then names else names ++ x ∷ [])) (sym e)

-- the names after one more, which is new or was found
pub names_with : (table : List NameEntry) (names names' : List (List ℕ)) (x : List ℕ) (is_new : Bool) → table ≡ entries_from 0 names → is_new ≡ is_none (number_in table x)
    → (is_new ≡ true → names' ≡ names ++ x ∷ []) → (is_new ≡ false → names' ≡ names) → names' ≡ with_name names x
names_with table names names' x is_new same told new old = by (has_name names x) refl
  where
    told' : is_new ≡ not (has_name names x)
    told' = told ∙ ap (λ t. is_none (number_in t x)) same ∙ ap not (has_number 0 names x)

    by : (b : Bool) → has_name names x ≡ b → names' ≡ with_name names x
    by true e = old (told' ∙ ap not e) ∙ ap (λ b. if b then names else names ++ x ∷ []) (sym e)
    by false e = new (told' ∙ ap not e) ∙ ap (λ b. if b then names else names ++ x ∷ []) (sym e)

-- ---- look-ups after entries were added

-- of three things found in order the grouping does not matter
or_assoc : (a b c : Option ℕ) → option_or (option_or a b) c ≡ option_or a (option_or b c)
or_assoc None b c = refl
or_assoc (Some n) b c = refl

-- what one entry gives
abbrev at_entry : NameEntry → List ℕ → Option ℕ
at_entry entry x = cond (is_text x entry.0) (Some entry.1) None

-- a look-up tries the first entry, then the others
number_in_cons : (entry : NameEntry) (entries : List NameEntry) (x : List ℕ) → number_in (entry ∷ entries) x ≡ option_or (at_entry entry x) (number_in entries x)
number_in_cons entry entries x = by (is_text x entry.0)
  where
    by : (b : Bool) → cond b (Some entry.1) (number_in entries x) ≡ option_or (cond b (Some entry.1) None) (number_in entries x)
    by true = refl
    by false = refl

-- the first of two lists of entries is looked at first
pub number_in_append : (entries others : List NameEntry) (x : List ℕ) → number_in (entries ++ others) x ≡ option_or (number_in entries x) (number_in others x)
number_in_append [] others x = refl
number_in_append (first ∷ entries) others x =
    number_in_cons first (entries ++ others) x
    ∙ ap (λ found. option_or (at_entry first x) found) (number_in_append entries others x)
    ∙ sym (or_assoc (at_entry first x) (number_in entries x) (number_in others x))
    ∙ ap (λ found. option_or found (number_in others x)) (sym (number_in_cons first entries x))

-- an entry that was added is found where no earlier one is
pub number_in_with_entry : (table : List NameEntry) (entry : NameEntry) (x : List ℕ) → number_in (with_entry table entry) x ≡ option_or (number_in table x) (at_entry entry x)
number_in_with_entry table entry x = by (number_in table entry.0) refl
  where
    there : (n : ℕ) → number_in table entry.0 ≡ Some n → (b : Bool) → is_text x entry.0 ≡ b → number_in table x ≡ option_or (number_in table x) (cond b (Some entry.1) None)
    there n e true same = let e' : number_in table x ≡ Some n = ap (number_in table) (same_is x entry.0 same) ∙ e in e' ∙ ap (λ found. option_or found (Some entry.1)) (sym e')
    there n e false same = sym (or_none (number_in table x))

    by : (found : Option ℕ) → number_in table entry.0 ≡ found → number_in (with_entry table entry) x ≡ option_or (number_in table x) (at_entry entry x)
    by None e = ap (λ found. number_in (if is_some found then table else table ++ entry ∷ []) x) e ∙ number_in_append table (entry ∷ []) x
    by (Some n) e = ap (λ found. number_in (if is_some found then table else table ++ entry ∷ []) x) e ∙ there n e (is_text x entry.0) refl

-- after entries were added, a look-up tries the table as it was, then the entries
number_in_fold : (entries table : List NameEntry) (x : List ℕ) → number_in (fold with_entry table entries) x ≡ option_or (number_in table x) (number_in entries x)
number_in_fold [] table x = sym (or_none (number_in table x))
number_in_fold (entry ∷ entries) table x =
    number_in_fold entries (with_entry table entry) x
    ∙ ap (λ found. option_or found (number_in entries x)) (number_in_with_entry table entry x)
    ∙ or_assoc (number_in table x) (at_entry entry x) (number_in entries x)
    ∙ ap (λ found. option_or (number_in table x) found) (sym (number_in_cons entry entries x))

-- a table finds what the entries have first
pub number_in_table_of : (entries : List NameEntry) (x : List ℕ) → number_in (table_of entries) x ≡ number_in entries x
number_in_table_of entries x = number_in_fold entries [] x

-- a look-up of two finds something where one of them does
is_some_or : (a b : Option ℕ) → is_some (option_or a b) ≡ (is_some a || is_some b)
is_some_or None b = refl
is_some_or (Some n) b = refl

-- an entry is found under its own name alone
is_some_at : (entry : NameEntry) (x : List ℕ) → is_some (at_entry entry x) ≡ is_text x entry.0
is_some_at entry x = by (is_text x entry.0)
  where
    by : (b : Bool) → is_some (cond b (Some entry.1) None) ≡ b
    by true = refl
    by false = refl

-- a table that has these names has one name more after it was added
pub seen_next : (table table' : List NameEntry) (names : List (List ℕ)) (name : List ℕ) (n : ℕ) → ((x : List ℕ) → is_some (number_in table x) ≡ has_name names x)
    → table' ≡ with_entry table (name, n) → (x : List ℕ) → is_some (number_in table' x) ≡ has_name (names ++ name ∷ []) x
seen_next table table' names name n has is x =
    ap (λ t. is_some (number_in t x)) is
    ∙ ap is_some (number_in_with_entry table (name, n) x)
    ∙ is_some_or (number_in table x) (at_entry (name, n) x)
    ∙ ap (λ b. b || is_some (at_entry (name, n) x)) (has x)
    ∙ ap (λ b. has_name names x || b) (is_some_at (name, n) x ∙ sym (or-false (is_text x name)))
    ∙ sym (list_any-append (is_text x) names (name ∷ []))

-- the names of the entries are those that are found
pub has_entry : {A : Type 0} (name : A → List ℕ) (number : A → ℕ) (xs : List A) (x : List ℕ) → is_some (number_in (map (λ a. (name a, number a)) xs) x) ≡ has_name (map name xs) x
has_entry name number [] x = refl
has_entry name number (a ∷ xs) x =
    is_some_cond (is_text x (name a)) (number a) (number_in (map (λ a. (name a, number a)) xs) x)
    ∙ ap (λ b. is_text x (name a) || b) (has_entry name number xs x)
