-- The variables of a body are the names that occur in it, each once.
use Rattle.std.proofs.Common.{◌≡◌, ℕ, zero, suc, ◌<◌, Bool, true, false, ◌||◌, nat_lt, if◌then◌else◌, List, [], ◌∷◌, ◌++◌, fold, take, slice_get, Option, None, Some, refl, ap, sym, ◌∙◌, subst, append_assoc, arith, ltb-true, ltb-false}
use Rattle.std.proofs.Math.Bool.{or-false, or-true, or_assoc}
use Rattle.std.specs.Option.{option_map_or}
use Rattle.std.specs.List.{cons_option}
use Rattle.std.proofs.lemmas.List.{append-nil}
use Rattle.std.proofs.lemmas.List.Folds.{list_any-append}
use Rattle.std.proofs.lemmas.Map.Views.{list_any-from_Contains, Contains-from_any}
use Rattle.std.specs.Cmp.Lexicographic.{nat_list_eq_equiv}
use Rattle.mir_base.specs.declared.instructions.Inst.TheVariants.{Receive}
use Rattle.mir_parse.specs.declared.raw.RawForm.{RawForm}
use Rattle.mir_parse.specs.declared.raw.RawForm.TheVariants.{Receive as RawReceive}
use Rattle.mir_parse.specs.declared.raw.RawInst.{RawInst}
use Rattle.mir_base.specs.Words.{is_text}
use Rattle.mir_parse.specs.declared.raw.RawGlobal.{RawGlobal}
use Rattle.mir_valid.specs.Names.{has_name}
use Rattle.mir_valid.specs.Variables.{form_names, body_names, FirstNames, none, again, first}
use Rattle.mir_valid.specs.Rules.{broken, received_by, received, receives_again, global_names}
use Rattle.mir_valid.specs.NameTables.{number_or_zero, entries_from}
use Rattle.mir_valid.specs.Numbered.{with_name, global_variables, variables_of, Numbers, numbered_form, numbered_body}
use Rattle.mir_valid.proofs.BrokenLaws.{kept_at}
use Rattle.mir_base.specs.ItemLaws.{get_take}
use Rattle.mir_valid.specs.NameLaws.{same_self, same_is}
use Rattle.mir_valid.proofs.NumberLaws.{numbered_is}
use Rattle.mir_base.specs.ItemLaws.{map_at}

-- each of these names is one of the variables
abbrev pub Within : List (List ℕ) → List (List ℕ) → Type 0
Within vars names = (x : List ℕ) → has_name names x ≡ true → has_name vars x ≡ true

-- the first part of a joined list of names
pub within_front : (vars xs ys : List (List ℕ)) → Within vars (xs ++ ys) → Within vars xs
within_front vars xs ys within x has = within x (list_any-append (is_text x) xs ys ∙ ap (λ b. b || has_name ys x) has)

-- the second part
pub within_back : (vars xs ys : List (List ℕ)) → Within vars (xs ++ ys) → Within vars ys
within_back vars xs ys within x has = within x (list_any-append (is_text x) xs ys ∙ ap (λ b. has_name xs x || b) has ∙ or-true (has_name xs x))

-- a name alone
pub within_one : (vars : List (List ℕ)) (x : List ℕ) → Within vars (x ∷ []) → has_name vars x ≡ true
within_one vars x within = within x (ap (λ b. b || false) (same_self x))

-- ---- the names that one pass finds

-- after a name joined, the list has that one and those that it had
has_with : (vars : List (List ℕ)) (name x : List ℕ) → has_name (with_name vars name) x ≡ (has_name vars x || is_text x name)
has_with vars name x = by (has_name vars name) refl
  where
    there : has_name vars name ≡ true → (b : Bool) → is_text x name ≡ b → has_name vars x ≡ (has_name vars x || b)
    there has true same = let e : has_name vars x ≡ true = ap (has_name vars) (same_is x name same) ∙ has in e ∙ sym (ap (λ b. b || true) e)
    there has false same = sym (or-false (has_name vars x))

    by : (b : Bool) → has_name vars name ≡ b → has_name (with_name vars name) x ≡ (has_name vars x || is_text x name)
    by true e = ap (λ b. has_name (if b then vars else vars ++ name ∷ []) x) e ∙ there e (is_text x name) refl
    by false e =
        ap (λ b. has_name (if b then vars else vars ++ name ∷ []) x) e
        ∙ list_any-append (is_text x) vars (name ∷ [])
        ∙ ap (λ b. has_name vars x || b) (or-false (is_text x name))

-- a list to which names are added has exactly the names that it had and those that are added
has_fold : (names vars : List (List ℕ)) (x : List ℕ) → has_name (fold with_name vars names) x ≡ (has_name vars x || has_name names x)
has_fold [] vars x = sym (or-false (has_name vars x))
has_fold (name ∷ names) vars x =
    has_fold names (with_name vars name) x ∙ ap (λ b. b || has_name names x) (has_with vars name x) ∙ or_assoc (has_name vars x) (is_text x name) (has_name names x)

-- each name that occurs is a variable
pub within_variables : (globals : List RawGlobal) (body : List RawInst) → Within (variables_of globals body) (body_names body)
within_variables globals body x has = has_fold (body_names body) (global_variables globals) x ∙ ap (λ b. has_name (global_variables globals) x || b) has ∙ or-true (has_name (global_variables globals) x)

-- the names in one instruction of a body
pub within_inst : (vars : List (List ℕ)) (body : List RawInst) (i : ℕ) (inst : RawInst) → Within vars (body_names body) → slice_get body i ≡ Some inst → Within vars (form_names inst.form)
within_inst vars [] i inst within at = absurd (cc)
within_inst vars (other ∷ body) zero inst within at =
    let same : other ≡ inst = cc in
    subst (λ (j : RawInst). Within vars (form_names j.form)) same (within_front vars (form_names other.form) (body_names body) within)
within_inst vars (other ∷ body) (suc i) inst within at = within_inst vars body i inst (within_back vars (form_names other.form) (body_names body) within) at

-- ---- the order of first occurrence

-- one more name keeps the order, whether it is new or was there
first_step : (names vars : List (List ℕ)) (x : List ℕ) → FirstNames names vars → FirstNames (names ++ x ∷ []) (with_name vars x)
first_step names vars x before = by (has_name vars x) refl
  where
    by : (b : Bool) → has_name vars x ≡ b → FirstNames (names ++ x ∷ []) (with_name vars x)
    by true e = subst (λ (b : Bool). FirstNames (names ++ x ∷ []) (if b then vars else vars ++ x ∷ [])) (sym e) (again x before (Contains-from_any {eq = is_text} same_is x vars e))
    by false e =
        subst (λ (b : Bool). FirstNames (names ++ x ∷ []) (if b then vars else vars ++ x ∷ [])) (sym e)
        (first x before (λ occurs. let e' = sym (list_any-from_Contains {eq = is_text} nat_list_eq_equiv x vars occurs) ∙ e in absurd (cc)))

-- and so do more names
first_fold : (rest names vars : List (List ℕ)) → FirstNames names vars → FirstNames (names ++ rest) (fold with_name vars rest)
first_fold [] names vars before = subst (λ (all : List (List ℕ)). FirstNames all vars) (sym (append-nil names)) before
first_fold (x ∷ rest) names vars before =
    subst (λ (all : List (List ℕ)). FirstNames all (fold with_name (with_name vars x) rest)) (append_assoc names (x ∷ []) rest)
    (first_fold rest (names ++ x ∷ []) (with_name vars x) (first_step names vars x before))

-- the names of globals and a body, each once, are in the order of first occurrence
pub first_variables : (globals : List RawGlobal) (body : List RawInst) → FirstNames (global_names globals ++ body_names body) (variables_of globals body)
first_variables globals body = first_fold (body_names body) (global_names globals) (global_variables globals) (first_fold (global_names globals) [] [] none)

-- ---- receives

-- only a receive is numbered as a receive, and its variable is the number of its name
pub receive_of : (numbers : Numbers) (form : RawForm) (x : ℕ) → numbered_form numbers form ≡ Receive x → (name : List ℕ) × (form ≡ RawReceive name) × (number_or_zero numbers.vars name ≡ x)
receive_of numbers (RawReceive name) x e = (name, refl, cc)
receive_of numbers form x e = absurd (cc)

-- a name among those received stays among them when one more instruction stands in front
received_kept : (received_name : Option (List ℕ)) (names : List (List ℕ)) (name : List ℕ) → has_name names name ≡ true → has_name (cons_option received_name names) name ≡ true
received_kept None names name has = has
received_kept (Some x) names name has = ap (λ b. is_text name x || b) has ∙ or-true (is_text name x)

-- a receive at some place puts its variable among those received
received_at : (body : List RawInst) (i : ℕ) (inst : RawInst) (name : List ℕ) → slice_get body i ≡ Some inst → inst.form ≡ RawReceive name → has_name (received body) name ≡ true
received_at [] i inst name at is = absurd (cc)
received_at (other ∷ body) zero inst name at is =
    let same : other ≡ inst = cc in
    let receives : received_by other.form ≡ Some name = ap (λ (j : RawInst). received_by j.form) same ∙ ap received_by is in
    ap (λ o. has_name (cons_option o (received body)) name) receives ∙ ap (λ b. b || has_name (received body) name) (same_self name)
received_at (other ∷ body) (suc i) inst name at is = received_kept (received_by other.form) (received body) name (received_at body i inst name at is)

-- a later receive names another variable
received_apart : (body : List RawInst) → broken (λ inst. inst.line) receives_again body ≡ [] → (i j : ℕ) (inst later : RawInst) (name : List ℕ) → i < j → slice_get body i ≡ Some inst
    → slice_get body j ≡ Some later → inst.form ≡ RawReceive name → later.form ≡ RawReceive name → ⊥
received_apart body e i j inst later name low at_i at_j is_i is_j =
    let kept : has_name (received (take j body)) name ≡ false =
    ap (λ form. option_map_or (has_name (received (take j body))) (received_by form) false) (sym is_j) ∙ kept_at (λ inst. inst.line) receives_again body e j later at_j in
    let has : has_name (received (take j body)) name ≡ true = received_at (take j body) i inst name (get_take body j i low ∙ at_i) is_i in
    let wrong = sym has ∙ kept in
    cc

-- the variable of a receive is numbered by the place of its name
pub named : (globals : List RawGlobal) (numbers : Numbers) (body : List RawInst) → numbers.vars ≡ entries_from 0 (variables_of globals body) → (x : ℕ) (inst : RawInst) (k : ℕ) → slice_get body k ≡ Some inst
    → (name : List ℕ) → inst.form ≡ RawReceive name → number_or_zero numbers.vars name ≡ x → slice_get (variables_of globals body) x ≡ Some name
named globals numbers body vars x inst k at name is number =
    let occurs : Within (variables_of globals body) (name ∷ []) =
    subst (λ (form : RawForm). Within (variables_of globals body) (form_names form)) is (within_inst (variables_of globals body) body k inst (within_variables globals body) at) in
    subst (λ (n : ℕ). slice_get (variables_of globals body) n ≡ Some name) (ap (λ vs. number_or_zero vs name) (sym vars) ∙ number)
    (numbered_is (variables_of globals body) name (within_one (variables_of globals body) name occurs))

-- no variable is received twice
pub received_once : (globals : List RawGlobal) (numbers : Numbers) (body : List RawInst) → numbers.vars ≡ entries_from 0 (variables_of globals body) → broken (λ inst. inst.line) receives_again body ≡ []
    → (i j x : ℕ) → slice_get (numbered_body numbers body) i ≡ Some (Receive x) → slice_get (numbered_body numbers body) j ≡ Some (Receive x) → i ≡ j
received_once globals numbers body vars e i j x at_i at_j =
    let raw_i = map_at (λ inst. numbered_form numbers inst.form) body i (Receive x) at_i in
    let raw_j = map_at (λ inst. numbered_form numbers inst.form) body j (Receive x) at_j in
    let receive_i = receive_of numbers raw_i.0.form x raw_i.2 in
    let receive_j = receive_of numbers raw_j.0.form x raw_j.2 in
    let named_i = named globals numbers body vars x raw_i.0 i raw_i.1 receive_i.0 receive_i.1 receive_i.2 in
    let named_j = named globals numbers body vars x raw_j.0 j raw_j.1 receive_j.0 receive_j.1 receive_j.2 in
    let same : receive_i.0 ≡ receive_j.0 = cc (sym named_i ∙ named_j) in
    let is_j : raw_j.0.form ≡ RawReceive receive_i.0 = receive_j.1 ∙ ap RawReceive (sym same) in
    by (nat_lt i j) (nat_lt j i) refl refl (λ low. received_apart body e i j raw_i.0 raw_j.0 receive_i.0 low raw_i.1 raw_j.1 receive_i.1 is_j)
    (λ low. received_apart body e j i raw_j.0 raw_i.0 receive_i.0 low raw_j.1 raw_i.1 is_j receive_i.1)
  where
    by : (b c : Bool) → nat_lt i j ≡ b → nat_lt j i ≡ c → (i < j → ⊥) → (j < i → ⊥) → i ≡ j
    by true c is_b is_c not_i not_j = absurd (not_i (ltb-true i j is_b))
    by false true is_b is_c not_i not_j = absurd (not_j (ltb-true j i is_c))
    by false false is_b is_c not_i not_j = omega (arith, ltb-false i j is_b, ltb-false j i is_c)
