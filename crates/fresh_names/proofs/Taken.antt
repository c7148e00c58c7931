-- Names that are looked up in a set of byte strings.
use Rattle.std.proofs.Common.{◌≡◌, ℕ, ◌+◌, ◌<◌, ◌↔◌, Bool, true, false, ◌||◌, cond, List, [], ◌∷◌, ◌++◌, map, length, get_or, take, Bor, Contains, refl, sym, ap, ◌∙◌}
use Rattle.std.specs.List.{list_any}
use Rattle.std.specs.Cmp.Lexicographic.{bytes_decides}
use Rattle.std.proofs.Math.Bool.{or_assoc, or-false, or-true}
use Rattle.std.proofs.lemmas.List.Folds.{list_any_at, list_any_more}
use Rattle.mir_base.specs.Words.{is_text}
use Rattle.indexmap.specs.IndexSet.{insert_key}
use Rattle.indexmap.proofs.CallerLemmas.{Contains-list_any}

-- equal byte strings
abbrev pub same_bytes : Bor (List ℕ) → Bor (List ℕ) → Bool
same_bytes x y = is_text x.now y.now

-- the bytes of each key
abbrev pub borrowed_bytes : List (Bor (List ℕ)) → List (List ℕ)
borrowed_bytes keys = map (λ key. key.now) keys

-- the text is one of these
abbrev pub has_text : List (List ℕ) → List ℕ → Bool
has_text names x = list_any (is_text x) names

-- so it is containment
pub has_contains : (names : List (List ℕ)) (x : List ℕ) → (has_text names x ≡ true) ↔ Contains names x
has_contains names x = (λ h. Contains-list_any is_text (λ y z e. (bytes_decides y z).0 e) names x h, λ there. list_any_at (is_text x) names there.0 x there.1 (ap (is_text x) there.2 ∙ (bytes_decides x x).1 refl))

-- of borrowed keys
pub any_bytes : (keys : List (Bor (List ℕ))) (x : List ℕ) → list_any (λ key. is_text x key.now) keys ≡ has_text (borrowed_bytes keys) x
any_bytes [] x = refl
any_bytes (key ∷ keys) x = ap (λ b. is_text x key.now || b) (any_bytes keys x)

-- one key more
bytes_push : (keys : List (Bor (List ℕ))) (key : Bor (List ℕ)) (x : List ℕ) → has_text (borrowed_bytes (keys ++ key ∷ [])) x ≡ (has_text (borrowed_bytes keys) x || is_text x key.now)
bytes_push [] key x = or-false (is_text x key.now)
bytes_push (k ∷ keys) key x = ap (λ b. is_text x k.now || b) (bytes_push keys key x) ∙ sym (or_assoc (is_text x k.now) (has_text (borrowed_bytes keys) x) (is_text x key.now))

-- what is there after one more key was put in
pub bytes_insert : (keys : List (Bor (List ℕ))) (key : Bor (List ℕ)) (x : List ℕ) → has_text (borrowed_bytes (insert_key same_bytes keys key)) x ≡ (has_text (borrowed_bytes keys) x || is_text x key.now)
bytes_insert keys key x = by (list_any (same_bytes key) keys) refl
  where
    known : list_any (same_bytes key) keys ≡ true → (b : Bool) → is_text x key.now ≡ b → has_text (borrowed_bytes keys) x ≡ (has_text (borrowed_bytes keys) x || b)
    known is true e = ap (has_text (borrowed_bytes keys)) ((bytes_decides x key.now).0 e) ∙ sym (any_bytes keys key.now) ∙ is ∙ sym (or-true (has_text (borrowed_bytes keys) x))
    known is false e = sym (or-false (has_text (borrowed_bytes keys) x))

    by : (b : Bool) → list_any (same_bytes key) keys ≡ b → has_text (borrowed_bytes (cond b keys (keys ++ key ∷ []))) x ≡ (has_text (borrowed_bytes keys) x || is_text x key.now)
    by true is = known is (is_text x key.now) refl
    by false is = bytes_push keys key x

-- so it is of the names up to one more
pub text_more : (names : List (List ℕ)) (i : ℕ) (name x : List ℕ) (keys new : List (Bor (List ℕ))) (key : Bor (List ℕ)) → i < length names → name ≡ get_or names i name → key.now ≡ name
    → new ≡ insert_key same_bytes keys key → has_text (borrowed_bytes keys) x ≡ has_text (take i names) x → has_text (borrowed_bytes new) x ≡ has_text (take (i + 1) names) x
text_more names i name x keys new key within is now put before =
    ap (λ k. has_text (borrowed_bytes k) x) put ∙ bytes_insert keys key x
    ∙ ap (λ b. b || is_text x key.now) before
    ∙ ap (λ y. has_text (take i names) x || is_text x y) (now ∙ is)
    ∙ sym (list_any_more (is_text x) names i name within)
