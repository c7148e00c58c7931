-- At how many places a node stands: in one list, after each of the calls; then in all lists; then what that says of a
-- list's length and of whether a node is listed.
use Rattle.std.proofs.Common.{◌≡◌, ◌≢◌, ℕ, zero, suc, ◌+◌, ◌<◌, ◌≤◌, true, false, ◌||◌, ◌&&◌, not, cond, eqb, ltb, List, [], ◌∷◌, ◌++◌, length, map, set, refl, sym, ap, inl, inr, arith, ◌∙◌, eq-eqb}
use Rattle.std.proofs.Math.Bool.{or-true, or-false, and-true, and-false}
use Rattle.std.proofs.lemmas.Bool.{cases_eq, ne_eqb, lt-ltb, le-ltb}
use Rattle.node_list.specs.Lists.{list_at, times_in, times, is_listed, inserted_before, without}
use Rattle.node_list.specs.ListedLaws.{times_in_append}

-- one place more, or as many; in two lists the sum
pub times_in_cons_same : (n : ℕ) (xs : List ℕ) → times_in n (n ∷ xs) ≡ 1 + times_in n xs
times_in_cons_same n xs = rw (eq-eqb n n refl) refl

-- another element in front does not count
pub times_in_cons_other : (n x : ℕ) (xs : List ℕ) → x ≢ n → times_in n (x ∷ xs) ≡ times_in n xs
times_in_cons_other n x xs d = rw (ne_eqb x n d) (omega arith)

-- ---- a list without a node

-- removing a number leaves none of it
pub times_in_without_same : (n : ℕ) (xs : List ℕ) → times_in n (without n xs) ≡ 0
times_in_without_same n [] = refl
times_in_without_same n (x ∷ xs) = elim (cases_eq x n) as (λ _. times_in n (cond (eqb x n) (without n xs) (x ∷ without n xs)) ≡ 0) [
  | inl e ↦ rw (eq-eqb x n e) (times_in_without_same n xs)
  | inr d ↦ rw (ne_eqb x n d) (times_in_cons_other n x (without n xs) d ∙ times_in_without_same n xs)
]

-- removing a number leaves the others as they were
pub times_in_without_other : (n k : ℕ) (xs : List ℕ) → n ≢ k → times_in n (without k xs) ≡ times_in n xs
times_in_without_other n k [] d = refl
times_in_without_other n k (x ∷ xs) d = elim (cases_eq x k) as (λ _. times_in n (cond (eqb x k) (without k xs) (x ∷ without k xs)) ≡ times_in n (x ∷ xs)) [
  | inl e ↦ rw (eq-eqb x k e) (times_in_without_other n k xs d ∙ sym (times_in_cons_other n x xs (λ s. d (sym s ∙ e))))
  | inr o ↦ rw (ne_eqb x k o) (ap (λ m. cond (eqb x n) 1 0 + m) (times_in_without_other n k xs d))
]

-- what is removed and what is left make up the whole list
pub length_without : (k : ℕ) (xs : List ℕ) → length (without k xs) + times_in k xs ≡ length xs
length_without k [] = refl
length_without k (x ∷ xs) =
    let ih : length (without k xs) + times_in k xs ≡ length xs = length_without k xs in
    elim (eqb x k) as (λ b. length (cond b (without k xs) (x ∷ without k xs)) + (cond b 1 0 + times_in k xs) ≡ length (x ∷ xs)) [ true ↦ omega arith | false ↦ omega arith ]

-- removing a number that is not there changes nothing
pub without_none : (k : ℕ) (xs : List ℕ) → times_in k xs ≡ 0 → without k xs ≡ xs
without_none k [] h = refl
without_none k (x ∷ xs) h = elim (cases_eq x k) as (λ _. cond (eqb x k) (without k xs) (x ∷ without k xs) ≡ x ∷ xs) [
  | inl e ↦ let one : times_in k (x ∷ xs) ≡ 1 + times_in k xs = rw (eq-eqb x k e) refl in absurd (omega arith)
  | inr d ↦ rw (ne_eqb x k d) (ap (λ ys. x ∷ ys) (without_none k xs (sym (times_in_cons_other k x xs d) ∙ h)))
]

-- ---- a list with a new node before another

-- a number put before each copy of another comes as often as that one
pub times_in_put_before_new : (k new : ℕ) (xs : List ℕ) → k ≢ new → times_in new (inserted_before k new xs) ≡ times_in new xs + times_in k xs
times_in_put_before_new k new [] d = refl
times_in_put_before_new k new (x ∷ xs) d =
    let ih : times_in new (inserted_before k new xs) ≡ times_in new xs + times_in k xs = times_in_put_before_new k new xs d in
    elim (cases_eq x k) as (λ _. times_in new (cond (eqb x k) (new ∷ x ∷ inserted_before k new xs) (x ∷ inserted_before k new xs)) ≡ times_in new (x ∷ xs) + times_in k (x ∷ xs)) [
      | inl e ↦ rw (eq-eqb x k e, eq-eqb new new refl) (omega arith)
      | inr o ↦ rw (ne_eqb x k o) (omega arith)
    ]

-- no other number's count changes
pub times_in_put_before_other : (n k new : ℕ) (xs : List ℕ) → n ≢ new → times_in n (inserted_before k new xs) ≡ times_in n xs
times_in_put_before_other n k new [] d = refl
times_in_put_before_other n k new (x ∷ xs) d =
    let ih : times_in n (inserted_before k new xs) ≡ times_in n xs = times_in_put_before_other n k new xs d in
    elim (eqb x k) as (λ b. times_in n (cond b (new ∷ x ∷ inserted_before k new xs) (x ∷ inserted_before k new xs)) ≡ times_in n (x ∷ xs)) [
      | true ↦ rw (ne_eqb new n (λ s. d (sym s))) (omega arith)
      | false ↦ omega arith
    ]

-- nothing is put before a number that is not there
pub put_before_none : (k new : ℕ) (xs : List ℕ) → times_in k xs ≡ 0 → inserted_before k new xs ≡ xs
put_before_none k new [] h = refl
put_before_none k new (x ∷ xs) h = elim (cases_eq x k) as (λ _. cond (eqb x k) (new ∷ x ∷ inserted_before k new xs) (x ∷ inserted_before k new xs) ≡ x ∷ xs) [
  | inl e ↦ let one : times_in k (x ∷ xs) ≡ 1 + times_in k xs = rw (eq-eqb x k e) refl in absurd (omega arith)
  | inr d ↦ rw (ne_eqb x k d) (ap (λ ys. x ∷ ys) (put_before_none k new xs (sym (times_in_cons_other k x xs d) ∙ h)))
]

-- putting before a number acts on each part of a joined list
pub put_before_append : (k new : ℕ) (xs ys : List ℕ) → inserted_before k new (xs ++ ys) ≡ inserted_before k new xs ++ inserted_before k new ys
put_before_append k new [] ys = refl
put_before_append k new (x ∷ xs) ys = elim (eqb x k) as (λ b. cond b (new ∷ x ∷ inserted_before k new (xs ++ ys)) (x ∷ inserted_before k new (xs ++ ys)) ≡ cond b (new ∷ x ∷ inserted_before k new xs) (x ∷ inserted_before k new xs) ++ inserted_before k new ys) [
  | true ↦ ap (λ zs. new ∷ x ∷ zs) (put_before_append k new xs ys)
  | false ↦ ap (λ zs. x ∷ zs) (put_before_append k new xs ys)
]

-- and so does removing
pub without_append : (k : ℕ) (xs ys : List ℕ) → without k (xs ++ ys) ≡ without k xs ++ without k ys
without_append k [] ys = refl
without_append k (x ∷ xs) ys = elim (eqb x k) as (λ b. cond b (without k (xs ++ ys)) (x ∷ without k (xs ++ ys)) ≡ cond b (without k xs) (x ∷ without k xs) ++ without k ys) [
  | true ↦ without_append k xs ys
  | false ↦ ap (λ zs. x ∷ zs) (without_append k xs ys)
]

-- ---- all lists

-- a change to the lists that keeps the count in each keeps it in all
pub times_map : (f : List ℕ → List ℕ) (n : ℕ) (same : (xs : List ℕ) → times_in n (f xs) ≡ times_in n xs) (lists : List (List ℕ)) → times (map f lists) n ≡ times lists n
times_map f n same [] = refl
times_map f n same (xs ∷ lists) = let a : times_in n (f xs) ≡ times_in n xs = same xs in let b : times (map f lists) n ≡ times lists n = times_map f n same lists in omega arith

-- removing a number from all lists leaves none of it
pub times_map_without : (n : ℕ) (lists : List (List ℕ)) → times (map (without n) lists) n ≡ 0
times_map_without n [] = refl
times_map_without n (xs ∷ lists) = let a : times_in n (without n xs) ≡ 0 = times_in_without_same n xs in let b : times (map (without n) lists) n ≡ 0 = times_map_without n lists in omega arith

-- putting a number before another in all lists adds as many as there are of that one
pub times_map_put_before : (k new : ℕ) (lists : List (List ℕ)) → k ≢ new → times (map (inserted_before k new) lists) new ≡ times lists new + times lists k
times_map_put_before k new [] d = refl
times_map_put_before k new (xs ∷ lists) d =
    let a : times_in new (inserted_before k new xs) ≡ times_in new xs + times_in k xs = times_in_put_before_new k new xs d in
    let b : times (map (inserted_before k new) lists) new ≡ times lists new + times lists k = times_map_put_before k new lists d in
    omega arith

-- replacing one list exchanges its count for that of the new one
pub times_set : (lists : List (List ℕ)) (list n : ℕ) (ys : List ℕ) → list < length lists → times (set lists list ys) n + times_in n (list_at lists list) ≡ times lists n + times_in n ys
times_set [] list n ys h = absurd (let h' : list < 0 = h in omega arith)
times_set (xs ∷ lists) zero n ys h = omega arith
times_set (xs ∷ lists) (suc list) n ys h =
    let ih : times (set lists list ys) n + times_in n (list_at lists list) ≡ times lists n + times_in n ys = times_set lists list n ys (let h' : suc list < suc (length lists) = h in omega arith) in
    omega arith

-- ---- a node at the end of a list

-- a number put at the end of one list counts once more
pub times_end_new : (lists : List (List ℕ)) (list new : ℕ) → list < length lists → times (set lists list (list_at lists list ++ new ∷ [])) new ≡ times lists new + 1
times_end_new lists list new h =
    let total : times (set lists list (list_at lists list ++ new ∷ [])) new + times_in new (list_at lists list) ≡ times lists new + times_in new (list_at lists list ++ new ∷ []) = times_set lists list new (list_at lists list ++ new ∷ []) h in
    let parts : times_in new (list_at lists list ++ new ∷ []) ≡ times_in new (list_at lists list) + times_in new (new ∷ []) = times_in_append new (list_at lists list) (new ∷ []) in
    let one : times_in new (new ∷ []) ≡ 1 = rw (eq-eqb new new refl) refl in
    omega arith

-- and the others count as before
pub times_end_other : (lists : List (List ℕ)) (list new n : ℕ) → list < length lists → n ≢ new → times (set lists list (list_at lists list ++ new ∷ [])) n ≡ times lists n
times_end_other lists list new n h d =
    let total : times (set lists list (list_at lists list ++ new ∷ [])) n + times_in n (list_at lists list) ≡ times lists n + times_in n (list_at lists list ++ new ∷ []) = times_set lists list n (list_at lists list ++ new ∷ []) h in
    let parts : times_in n (list_at lists list ++ new ∷ []) ≡ times_in n (list_at lists list) + times_in n (new ∷ []) = times_in_append n (list_at lists list) (new ∷ []) in
    let none : times_in n (new ∷ []) ≡ 0 = rw (ne_eqb new n (λ e. d (sym e))) refl in
    omega arith

-- one list has no more of a number than all lists together
pub times_in_le : (lists : List (List ℕ)) (list n : ℕ) → times_in n (list_at lists list) ≤ times lists n
times_in_le [] list n = omega arith
times_in_le (xs ∷ lists) zero n = omega arith
times_in_le (xs ∷ lists) (suc list) n = let ih : times_in n (list_at lists list) ≤ times lists n = times_in_le lists list n in omega arith

-- a node that stands once, first in its list
pub without_first : (lists : List (List ℕ)) (list n : ℕ) (rest : List ℕ) → list_at lists list ≡ n ∷ rest → times lists n ≤ 1 → map (without n) lists ≡ set lists list rest
without_first [] list n rest e once = absurd (cc)
without_first (xs ∷ lists) zero n rest e once =
    let here : times_in n xs ≡ 1 + times_in n rest = rw (e, eq-eqb n n refl) refl in
    let none : times_in n rest ≡ 0 = omega arith in
    let away : times lists n ≡ 0 = omega arith in
    rw (e, eq-eqb n n refl, without_none n rest none, without_all lists n away) refl
  where
    without_all : (ls : List (List ℕ)) (k : ℕ) → times ls k ≡ 0 → map (without k) ls ≡ ls
    without_all [] k h = refl
    without_all (ys ∷ ls) k h = rw (without_none k ys (omega arith), without_all ls k (omega arith)) refl
without_first (xs ∷ lists) (suc list) n rest e once =
    let at : times_in n (list_at lists list) ≡ 1 + times_in n rest = rw (e, eq-eqb n n refl) refl in
    let le : times_in n (list_at lists list) ≤ times lists n = times_in_le lists list n in
    let none : times_in n xs ≡ 0 = omega arith in
    rw (without_none n xs none, without_first lists list n rest e (omega arith)) refl

-- distinct numbers below a bound are at most so many
pub length_le : (nodes : ℕ) (xs : List ℕ) → ((n : ℕ) → 0 < times_in n xs → n < nodes) → ((n : ℕ) → times_in n xs ≤ 1) → length xs ≤ nodes
length_le zero [] low once = omega arith
length_le zero (x ∷ xs) low once = let none : x < 0 = low x (rw (eq-eqb x x refl) (omega arith)) in absurd (omega arith)
length_le (suc m) xs low once =
    let len : length (without m xs) + times_in m xs ≡ length xs = length_without m xs in
    let one : times_in m xs ≤ 1 = once m in
    let rest : length (without m xs) ≤ m = length_le m (without m xs)
    (λ n h. elim (cases_eq n m) as (λ _. n < m) [
      | inl e ↦ let none : times_in n (without m xs) ≡ 0 = rw e (times_in_without_same m xs) in absurd (omega arith)
      | inr d ↦ let same : times_in n (without m xs) ≡ times_in n xs = times_in_without_other n m xs d in let l : n < suc m = low n (omega arith) in omega arith
    ])
    (λ n. elim (cases_eq n m) as (λ _. times_in n (without m xs) ≤ 1) [
      | inl e ↦ rw (e, times_in_without_same m xs) (omega arith)
      | inr d ↦ rw (times_in_without_other n m xs d) (once n)
    ]) in
    omega arith

-- ---- whether a node is listed

-- `is_listed` by counts: a number that comes at all is listed
pub listed_yes : (lists : List (List ℕ)) (n : ℕ) → 0 < times lists n → is_listed lists n ≡ true
listed_yes lists n h = lt-ltb 0 (times lists n) h

-- one that never comes is not
pub listed_no : (lists : List (List ℕ)) (n : ℕ) → times lists n ≡ 0 → is_listed lists n ≡ false
listed_no lists n h = le-ltb 0 (times lists n) (omega arith)

-- ---- a node joins the lists, or leaves them

-- if only one number's count changes, and now it comes, only that number joins the listed ones
pub listed_joins : (lists lists' : List (List ℕ)) (new : ℕ) → 0 < times lists' new → ((n : ℕ) → n ≢ new → times lists' n ≡ times lists n)
    → (n : ℕ) → is_listed lists' n ≡ (is_listed lists n || eqb n new)
listed_joins lists lists' new here others n = elim (cases_eq n new) as (λ _. is_listed lists' n ≡ (is_listed lists n || eqb n new)) [
  | inl e ↦ rw (e, eq-eqb new new refl) (listed_yes lists' new here ∙ sym (or-true (is_listed lists new)))
  | inr d ↦ rw (ne_eqb n new d) (ap (λ m. ltb 0 m) (others n d) ∙ sym (or-false (is_listed lists n)))
]

-- if only one number's count changes, and now it never comes, only that number leaves them
pub listed_leaves : (lists lists' : List (List ℕ)) (old : ℕ) → times lists' old ≡ 0 → ((n : ℕ) → n ≢ old → times lists' n ≡ times lists n)
    → (n : ℕ) → is_listed lists' n ≡ (is_listed lists n && not (eqb n old))
listed_leaves lists lists' old none others n = elim (cases_eq n old) as (λ _. is_listed lists' n ≡ (is_listed lists n && not (eqb n old))) [
  | inl e ↦ rw (e, eq-eqb old old refl) (listed_no lists' old none ∙ sym (and-false (is_listed lists old)))
  | inr d ↦ rw (ne_eqb n old d) (ap (λ m. ltb 0 m) (others n d) ∙ sym (and-true (is_listed lists n)))
]

-- ---- what each call leaves listed

-- so appending a number to a list adds just that number to the listed ones
pub listed_end : (lists : List (List ℕ)) (list new : ℕ) → list < length lists → (n : ℕ) → is_listed (set lists list (list_at lists list ++ new ∷ [])) n ≡ (is_listed lists n || eqb n new)
listed_end lists list new h = listed_joins lists (set lists list (list_at lists list ++ new ∷ [])) new
    (let more : times (set lists list (list_at lists list ++ new ∷ [])) new ≡ times lists new + 1 = times_end_new lists list new h in omega arith)
    (λ n d. times_end_other lists list new n h d)

-- putting a number before a listed one adds just that number
pub listed_put : (lists : List (List ℕ)) (node new : ℕ) → 0 < times lists node → times lists new ≡ 0 → (n : ℕ) → is_listed (map (inserted_before node new) lists) n ≡ (is_listed lists n || eqb n new)
listed_put lists node new some none =
    let apart : node ≢ new = λ e. let none' : times lists node ≡ 0 = ap (times lists) e ∙ none in absurd (omega arith) in
    listed_joins lists (map (inserted_before node new) lists) new
    (let more : times (map (inserted_before node new) lists) new ≡ times lists new + times lists node = times_map_put_before node new lists apart in omega arith)
    (λ n d. times_map (inserted_before node new) n (λ xs. times_in_put_before_other n node new xs d) lists)

-- removing a number takes away just that number
pub listed_cut : (lists : List (List ℕ)) (node n : ℕ) → is_listed (map (without node) lists) n ≡ (is_listed lists n && not (eqb n node))
listed_cut lists node = listed_leaves lists (map (without node) lists) node (times_map_without node lists)
    (λ n d. times_map (without node) n (λ xs. times_in_without_other n node xs d) lists)
