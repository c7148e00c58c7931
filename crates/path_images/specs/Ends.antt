-- Ends of paths, which are listed with the newest node first: what was passed up to some node is an end of the list; and
-- the nearest node of a path that is so.
use Rattle.std.proofs.Common.{◌≡◌, ◌⊎◌, ◌<◌, ◌≤◌, ℕ, Bool, true, false, if◌then◌else◌, List, [], ◌∷◌, ◌++◌, length, inl, inr, refl, sym, ap, ◌∙◌, subst, arith, append_assoc, length-append}
use Rattle.std.proofs.lemmas.Bool.{cases_Bool, cases_lt}

-- this is an end of the list
abbrev pub IsEndOf : List ℕ → List ℕ → Type 0
IsEndOf end path = (front : List ℕ) × (path ≡ front ++ end)

-- all but the first
abbrev pub rest_of : List ℕ → List ℕ
rest_of [] = []
rest_of (n ∷ path) = path

-- the first, or 0
abbrev pub first_of_or : ℕ → List ℕ → ℕ
first_of_or n [] = n
first_of_or n (m ∷ path) = m

-- a list is an end of itself
pub end_itself : (path : List ℕ) → IsEndOf path path
end_itself path = ([], refl)

-- an end of an end is an end
pub end_through : (a b c : List ℕ) → IsEndOf a b → IsEndOf b c → IsEndOf a c
end_through a b c p q = (q.0 ++ p.0, q.1 ∙ ap (λ l. q.0 ++ l) p.1 ∙ sym (append_assoc q.0 p.0 a))

-- an end of a list is one of a longer list that ends with this list
pub end_past : (f a b : List ℕ) → IsEndOf a b → IsEndOf a (f ++ b)
end_past f a b p = end_through a b (f ++ b) p (f, refl)

-- an end without its first node is an end
pub end_rest : (k : ℕ) (rest path : List ℕ) → IsEndOf (k ∷ rest) path → IsEndOf rest path
end_rest k rest path p = end_through rest (k ∷ rest) path (k ∷ [], refl) p

-- an end is no longer than its list
pub end_length : (a b : List ℕ) → IsEndOf a b → length a ≤ length b
end_length a b p = let e = ap length p.1 in let l = length-append p.0 a in omega (arith, e, l)

-- equal lists begin with one node
pub cons_first : (m n : ℕ) (a b : List ℕ) → m ∷ a ≡ n ∷ b → m ≡ n
cons_first m n a b e = ap (first_of_or 0) e

-- equal lists go on alike behind their first node
pub cons_rest : (m n : ℕ) (a b : List ℕ) → m ∷ a ≡ n ∷ b → a ≡ b
cons_rest m n a b e = ap rest_of e

-- of two ends the shorter one is an end of the other
fronts : (a b f g : List ℕ) → f ++ a ≡ g ++ b → length a ≤ length b → IsEndOf a b
fronts a b f [] e le = (f, sym e)
fronts a b [] (n ∷ g) e le = let same = ap length e in let l = length-append g b in absurd (omega (arith, same, l, le))
fronts a b (m ∷ f) (n ∷ g) e le = fronts a b f g (cons_rest m n (f ++ a) (g ++ b) e) le

-- of two ends of a path the shorter one is an end of the other
pub ends_compare : (a b path : List ℕ) → IsEndOf a path → IsEndOf b path → length a ≤ length b → IsEndOf a b
ends_compare a b path p q le = fronts a b p.0 q.0 (sym p.1 ∙ q.1) le

-- the list has at least one node before this end
pub record IsLonger (path end : List ℕ) : Type 0 where
  pub node : ℕ
  pub front : List ℕ
  pub is : path ≡ (node ∷ front) ++ end

-- of two ends of a path the longer one has nodes before the other
pub longer_end : (a b path : List ℕ) → IsEndOf a path → IsEndOf b path → length b < length a → IsLonger a b
longer_end a b path p q lt = let r = ends_compare b a path q p (omega (arith, lt)) in by r.0 r.1
  where
    by : (f : List ℕ) → a ≡ f ++ b → IsLonger a b
    by [] e = let l = ap length e in absurd (omega (arith, l, lt))
    by (n ∷ f) e = record { node = n; front = f; is = e }

-- a list with nodes before an end is longer than this end
pub longer_length : (a b : List ℕ) → IsLonger a b → length b < length a
longer_length a b p = let e = ap length p.is in let l = length-append p.front b in omega (arith, e, l)

-- ---- the nearest node of which a statement `so` holds; paths are lists with the newest node first

-- the path up to the nearest such node: the list without the newer nodes before it; empty where no node is so
abbrev pub latest : (ℕ → Bool) → List ℕ → List ℕ
latest so [] = []
latest so (n ∷ path) = if so n then n ∷ path else latest so path

-- where the newest node is so, the path from there on is the whole path
pub latest_here : (so : ℕ → Bool) (n : ℕ) (path : List ℕ) → so n ≡ true → latest so (n ∷ path) ≡ n ∷ path
latest_here so n path is = ap (λ b. (if b then n ∷ path else latest so path)) is

-- where the newest node is not so, it is that of the rest of the path
pub latest_past : (so : ℕ → Bool) (n : ℕ) (path : List ℕ) → so n ≡ false → latest so (n ∷ path) ≡ latest so path
latest_past so n path not = ap (λ b. (if b then n ∷ path else latest so path)) not

-- what is before it, of which none is so
pub record BeforeLatest (so : ℕ → Bool) (path : List ℕ) : Type 0 where
  pub front : List ℕ
  pub is : path ≡ front ++ latest so path
  pub passed : (other : List ℕ) → latest so (front ++ other) ≡ latest so other

-- each path has such a part before the nearest node that is so
pub before_latest : (so : ℕ → Bool) (path : List ℕ) → BeforeLatest so path
before_latest so [] = record { front = []; is = refl; passed = λ other. refl }
before_latest so (n ∷ path) = elim (cases_Bool (so n)) [
  | inl is ↦ record { front = []; is = sym (latest_here so n path is); passed = λ other. refl }
  | inr not ↦
      let r = before_latest so path in
      record { front = n ∷ r.front; is = ap (λ l. n ∷ l) r.is ∙ ap (λ l. n ∷ (r.front ++ l)) (sym (latest_past so n path not)); passed = λ other. latest_past so n (r.front ++ other) not ∙ r.passed other }
]

-- the path from the nearest node that is so on is an end of the path
pub latest_end : (so : ℕ → Bool) (path : List ℕ) → IsEndOf (latest so path) path
latest_end so path = let r = before_latest so path in (r.front, r.is)

-- its first node is so
pub latest_so : (so : ℕ → Bool) (path : List ℕ) (k : ℕ) (rest : List ℕ) → latest so path ≡ k ∷ rest → so k ≡ true
latest_so so [] k rest e = absurd (omega (arith, ap length e))
latest_so so (n ∷ path) k rest e = elim (cases_Bool (so n)) [
  | inl is ↦ ap so (sym (cons_first n k path rest (sym (latest_here so n path is) ∙ e))) ∙ is
  | inr not ↦ latest_so so path k rest (sym (latest_past so n path not) ∙ e)
]

-- what is so on the path is the nearest or before it
pub latest_nearest : (so : ℕ → Bool) (k : ℕ) (rest path : List ℕ) → IsEndOf (k ∷ rest) path → so k ≡ true → IsEndOf (k ∷ rest) (latest so path)
latest_nearest so k rest path at is = by at.0 path at.1
  where
    by : (front path : List ℕ) → path ≡ front ++ (k ∷ rest) → IsEndOf (k ∷ rest) (latest so path)
    by [] path e = ([], ap (latest so) e ∙ latest_here so k rest is)
    by (n ∷ front) path e = elim (cases_Bool (so n)) [
      | inl found ↦ (n ∷ front, ap (latest so) e ∙ latest_here so n (front ++ (k ∷ rest)) found)
      | inr not ↦ let r = by front (front ++ (k ∷ rest)) refl in (r.0, ap (latest so) e ∙ latest_past so n (front ++ (k ∷ rest)) not ∙ r.1)
    ]

-- ends of one length are one
pub ends_one : (a b path : List ℕ) → IsEndOf a path → IsEndOf b path → length a ≡ length b → a ≡ b
ends_one a b path p q same = let r = ends_compare a b path p q (omega (arith, same)) in by r.0 r.1
  where
    by : (f : List ℕ) → b ≡ f ++ a → a ≡ b
    by [] e = sym e
    by (n ∷ f) e = let l = ap length e in let m = length-append f a in absurd (omega (arith, l, m, same))

-- a list is empty or not
pub record IsCons (l : List ℕ) : Type 0 where
  pub node : ℕ
  pub rest : List ℕ
  pub is : l ≡ node ∷ rest

-- each list is one of the two
pub empty_or : (l : List ℕ) → (l ≡ []) ⊎ IsCons l
empty_or [] = inl refl
empty_or (n ∷ l) = inr (record { node = n; rest = l; is = refl })

-- an end with at least one node of a list before it is an end of what is behind the first node
pub longer_rest : (k : ℕ) (rest end : List ℕ) → IsLonger (k ∷ rest) end → IsEndOf end rest
longer_rest k rest end p = (p.front, cons_rest k p.node rest (p.front ++ end) p.is)

-- and the other way round
pub rest_longer : (k : ℕ) (rest end : List ℕ) → IsEndOf end rest → IsLonger (k ∷ rest) end
rest_longer k rest end p = record { node = k; front = p.0; is = ap (λ l. k ∷ l) p.1 }

-- what is so, with nothing so before it on the path, is the nearest
pub nearest_is : (so : ℕ → Bool) (k : ℕ) (rest path : List ℕ) → IsEndOf (k ∷ rest) path → so k ≡ true
    → ((g : ℕ) (grest : List ℕ) → IsEndOf (g ∷ grest) path → IsEndOf (k ∷ rest) grest → so g ≡ true → ⊥)
    → latest so path ≡ k ∷ rest
nearest_is so k rest path at is none = elim (empty_or w) [
  | inl empty ↦ (let l = end_length (k ∷ rest) w inside in let m = ap length empty in absurd (omega (arith, l, m)))
  | inr c ↦ elim (cases_lt (length (k ∷ rest)) (length w)) [
    | inl less ↦
        let m = ap length c.is in
        let longer = longer_end (c.node ∷ c.rest) (k ∷ rest) (c.node ∷ c.rest) (end_itself (c.node ∷ c.rest)) (subst (IsEndOf (k ∷ rest)) c.is inside) (omega (arith, less, m)) in
        absurd (none c.node c.rest (subst (λ l. IsEndOf l path) c.is (latest_end so path)) (longer_rest c.node c.rest (k ∷ rest) longer) (latest_so so path c.node c.rest c.is))
    | inr ge ↦ (let l = end_length (k ∷ rest) w inside in sym (ends_one (k ∷ rest) w w inside (end_itself w) (omega (arith, l, ge))))
  ]
]
  where
    w : List ℕ
    w = latest so path

    inside : IsEndOf (k ∷ rest) w
    inside = latest_nearest so k rest path at is

-- where the nearest is behind this part of the path, none of the part is so
pub latest_behind : (so : ℕ → Bool) (part l other : List ℕ) → IsEndOf (latest so (part ++ l)) l → latest so (part ++ other) ≡ latest so other
latest_behind so [] l other at = refl
latest_behind so (n ∷ part) l other at = elim (cases_Bool (so n)) [
  | inl is ↦
      let whole = ap length (latest_here so n (part ++ l) is) in
      let le = end_length (latest so (n ∷ (part ++ l))) l at in
      let m = length-append part l in
      absurd (omega (arith, whole, le, m))
  | inr not ↦ latest_past so n (part ++ other) not ∙ latest_behind so part l other (subst (λ q. IsEndOf q l) (latest_past so n (part ++ l) not) at)
]

-- an end of a list is the list or an end of its rest
pub end_or : (k f : ℕ) (rest l : List ℕ) → IsEndOf (k ∷ rest) (f ∷ l) → (k ≡ f) ⊎ IsEndOf (k ∷ rest) l
end_or k f rest l at = by at.0 at.1
  where
    by : (g : List ℕ) → f ∷ l ≡ g ++ (k ∷ rest) → (k ≡ f) ⊎ IsEndOf (k ∷ rest) l
    by [] e = inl (sym (cons_first f k l rest e))
    by (n ∷ g) e = inr (g, cons_rest f n l (g ++ (k ∷ rest)) e)
