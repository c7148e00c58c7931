-- A number stands for one term, and a term has one number; numbers of operands, right sides and variables.
use Rattle.std.proofs.Common.{◌≡◌, inl, inr, ℕ, ◌<◌, List, [], ◌∷◌, length, length-append, slice_get, Option, Some, None, Result, Ok, Err, IfOk, OnOk, sym, ap, ◌∙◌, subst, arith}
use Rattle.std.proofs.lemmas.Bool.{cases_lt}
use Rattle.std.proofs.lemmas.Option.{slice_get_within}
use Rattle.mir_base.specs.declared.operators.Op.{Op}
use Rattle.mir_base.specs.declared.operators.UnOp.{UnOp}
use Rattle.mir_base.specs.declared.instructions.Operand.{Operand}
use Rattle.mir_base.specs.declared.instructions.Rhs.TheVariants.{Unary, Binary}
use Rattle.mir_base.specs.Shapes.{AllDiffer}
use Rattle.mir_base.specs.ItemLaws.{get_last, one_place}
use Rattle.key_table.specs.Keys.{IsWithKey}
use Rattle.key_table.specs.KeyLaws.{put_stays}
use Rattle.value_number.specs.declared.terms.TermKey.{TermKey}
use Rattle.value_number.specs.declared.terms.TermKey.TheVariants as keys
use Rattle.value_number.specs.Terms.{Term, Terms, Initial, Opaque, Number, UnaryOf, BinaryOf, operand_term, rhs_term}
use Rattle.value_number.specs.Table.{AllStand, StandOn, Stands, Stay, Represent, RepresentsAt, variable_number}

-- one place has one entry
one_key : {s t : TermKey} {o : Option TermKey} → o ≡ Some s → o ≡ Some t → s ≡ t
one_key p q = cc

-- a number stands for one term
pub one_term : (table : List TermKey) (t u : Term) (n : ℕ) → Stands table n t → Stands table n u → t ≡ u
one_term table (Initial v r) (Initial v' r') n p q = let e : keys.Initial v r ≡ keys.Initial v' r' = one_key p q in cc
one_term table (Initial v r) (Opaque k x) n p q = let e : keys.Initial v r ≡ keys.Opaque k x = one_key p q in absurd (cc)
one_term table (Initial v r) (Number c) n p q = let e : keys.Initial v r ≡ keys.Number c = one_key p q in absurd (cc)
one_term table (Initial v r) (UnaryOf op u) n p q = let e : keys.Initial v r ≡ keys.Unary op q.0 = one_key p q.1 in absurd (cc)
one_term table (Initial v r) (BinaryOf op u w) n p q = let e : keys.Initial v r ≡ keys.Binary op q.0 q.1 = one_key p q.2 in absurd (cc)
one_term table (Opaque k x) (Initial v r) n p q = let e : keys.Opaque k x ≡ keys.Initial v r = one_key p q in absurd (cc)
one_term table (Opaque k x) (Opaque k' x') n p q = let e : keys.Opaque k x ≡ keys.Opaque k' x' = one_key p q in cc
one_term table (Opaque k x) (Number c) n p q = let e : keys.Opaque k x ≡ keys.Number c = one_key p q in absurd (cc)
one_term table (Opaque k x) (UnaryOf op u) n p q = let e : keys.Opaque k x ≡ keys.Unary op q.0 = one_key p q.1 in absurd (cc)
one_term table (Opaque k x) (BinaryOf op u w) n p q = let e : keys.Opaque k x ≡ keys.Binary op q.0 q.1 = one_key p q.2 in absurd (cc)
one_term table (Number c) (Initial v r) n p q = let e : keys.Number c ≡ keys.Initial v r = one_key p q in absurd (cc)
one_term table (Number c) (Opaque k x) n p q = let e : keys.Number c ≡ keys.Opaque k x = one_key p q in absurd (cc)
one_term table (Number c) (Number c') n p q = let e : keys.Number c ≡ keys.Number c' = one_key p q in cc
one_term table (Number c) (UnaryOf op u) n p q = let e : keys.Number c ≡ keys.Unary op q.0 = one_key p q.1 in absurd (cc)
one_term table (Number c) (BinaryOf op u w) n p q = let e : keys.Number c ≡ keys.Binary op q.0 q.1 = one_key p q.2 in absurd (cc)
one_term table (UnaryOf op t) (Initial v r) n p q = let e : keys.Unary op p.0 ≡ keys.Initial v r = one_key p.1 q in absurd (cc)
one_term table (UnaryOf op t) (Opaque k x) n p q = let e : keys.Unary op p.0 ≡ keys.Opaque k x = one_key p.1 q in absurd (cc)
one_term table (UnaryOf op t) (Number c) n p q = let e : keys.Unary op p.0 ≡ keys.Number c = one_key p.1 q in absurd (cc)
one_term table (UnaryOf op t) (UnaryOf op' u) n p q =
    let e : keys.Unary op p.0 ≡ keys.Unary op' q.0 = one_key p.1 q.1 in
    let a : p.0 ≡ q.0 = cc in
    let same : t ≡ u = one_term table t u q.0 (subst (λ k. Stands table k t) a p.2) q.2 in
    cc
one_term table (UnaryOf op t) (BinaryOf op' u w) n p q = let e : keys.Unary op p.0 ≡ keys.Binary op' q.0 q.1 = one_key p.1 q.2 in absurd (cc)
one_term table (BinaryOf op t s) (Initial v r) n p q = let e : keys.Binary op p.0 p.1 ≡ keys.Initial v r = one_key p.2 q in absurd (cc)
one_term table (BinaryOf op t s) (Opaque k x) n p q = let e : keys.Binary op p.0 p.1 ≡ keys.Opaque k x = one_key p.2 q in absurd (cc)
one_term table (BinaryOf op t s) (Number c) n p q = let e : keys.Binary op p.0 p.1 ≡ keys.Number c = one_key p.2 q in absurd (cc)
one_term table (BinaryOf op t s) (UnaryOf op' u) n p q = let e : keys.Binary op p.0 p.1 ≡ keys.Unary op' q.0 = one_key p.2 q.1 in absurd (cc)
one_term table (BinaryOf op t s) (BinaryOf op' u w) n p q =
    let e : keys.Binary op p.0 p.1 ≡ keys.Binary op' q.0 q.1 = one_key p.2 q.2 in
    let a : p.0 ≡ q.0 = cc in
    let b : p.1 ≡ q.1 = cc in
    let left : t ≡ u = one_term table t u q.0 (subst (λ k. Stands table k t) a p.3) q.3 in
    let right : s ≡ w = one_term table s w q.1 (subst (λ k. Stands table k s) b p.4) q.4 in
    cc

-- and in a table of distinct entries a term has one number
pub one_number : (table : List TermKey) → AllDiffer table → (t : Term) (n m : ℕ) → Stands table n t → Stands table m t → n ≡ m
one_number table d (Initial v r) n m p q = one_place table d n m (keys.Initial v r) p q
one_number table d (Opaque k x) n m p q = one_place table d n m (keys.Opaque k x) p q
one_number table d (Number c) n m p q = one_place table d n m (keys.Number c) p q
one_number table d (UnaryOf op t) n m p q =
    let a : p.0 ≡ q.0 = one_number table d t p.0 q.0 p.2 q.2 in
    one_place table d n m (keys.Unary op q.0) (subst (λ k. slice_get table n ≡ Some (keys.Unary op k)) a p.1) q.1
one_number table d (BinaryOf op t s) n m p q =
    let a : p.0 ≡ q.0 = one_number table d t p.0 q.0 p.3 q.3 in
    let b : p.1 ≡ q.1 = one_number table d s p.1 q.1 p.4 q.4 in
    let at_n : slice_get table n ≡ Some (keys.Binary op q.0 q.1) = p.2 ∙ ap (λ k. Some (keys.Binary op k p.1)) a ∙ ap (λ k. Some (keys.Binary op q.0 k)) b in
    one_place table d n m (keys.Binary op q.0 q.1) at_n q.2

-- a number that stands for a term is that of an entry
pub stands_within : (table : List TermKey) (n : ℕ) (t : Term) → Stands table n t → n < length table
stands_within table n (Initial v root) s = slice_get_within table n _ s
stands_within table n (Opaque k x) s = slice_get_within table n _ s
stands_within table n (Number c) s = slice_get_within table n _ s
stands_within table n (UnaryOf op t) s = slice_get_within table n _ s.1
stands_within table n (BinaryOf op t u) s = slice_get_within table n _ s.2

-- ---- more entries

-- more entries, and then more
pub stay_both : {E : Type 0} (old mid new : List TermKey) (r : Result ℕ E) → Stay old mid → OnOk r (Stay mid new) → OnOk r (Stay old new)
stay_both old mid new (Ok n) first second = λ i key at. second i key (first i key at)
stay_both old mid new (Err e) first second = tt

-- more entries leave it so
pub stands_on : (old new : List TermKey) → Stay old new → (t : Term) (n : ℕ) → Stands old n t → Stands new n t
stands_on old new stay (Initial v r) n p = stay n (keys.Initial v r) p
stands_on old new stay (Opaque k x) n p = stay n (keys.Opaque k x) p
stands_on old new stay (Number c) n p = stay n (keys.Number c) p
stands_on old new stay (UnaryOf op t) n p = (p.0, stay n (keys.Unary op p.0) p.1, stands_on old new stay t p.0 p.2)
stands_on old new stay (BinaryOf op t u) n p = (p.0, p.1, stay n (keys.Binary op p.0 p.1) p.2, stands_on old new stay t p.0 p.3, stands_on old new stay u p.1 p.4)

-- also of one variable
pub represents_on : (old new : List TermKey) (root v : ℕ) (o : Option ℕ) (t : Term) → Stay old new → RepresentsAt old root v o t → RepresentsAt new root v o t
represents_on old new root v None t stay r = r
represents_on old new root v (Some n) t stay r = stands_on old new stay t n r

-- and of all
pub represent_on : (old new : List TermKey) (numbers : List (Option ℕ)) (root : ℕ) (terms : Terms) → Stay old new → Represent old numbers root terms → Represent new numbers root terms
represent_on old new numbers root terms stay r = record { each = λ v lt. represents_on old new root v (variable_number numbers v) (terms v) stay (r.each v lt) }

-- ---- right sides

-- an operator on the operand of a number
pub unary_stands : {E : Type 0} (old mid new : List TermKey) (numbers : List (Option ℕ)) (root : ℕ) (op : UnOp) (a : Operand) (k : ℕ) (r : Result ℕ E) → OnOk r (Stay mid new)
    → ((terms : Terms) → Represent old numbers root terms → Stands mid k (operand_term terms a)) → IfOk r (λ n. slice_get new n ≡ Some (keys.Unary op k))
    → IfOk r (λ n. (terms : Terms) → Represent old numbers root terms → Stands new n (rhs_term terms (Unary op a)))
unary_stands old mid new numbers root op a k (Ok n) stay first here = λ terms each. (k, here, stands_on mid new stay (operand_term terms a) k (first terms each))
unary_stands old mid new numbers root op a k (Err e) stay first here = tt

-- on the operands of two numbers
pub binary_stands : {E : Type 0} (old mid mid' new : List TermKey) (numbers : List (Option ℕ)) (root : ℕ) (op : Op) (a b : Operand) (j k : ℕ) (r : Result ℕ E) → Stay old mid → Stay mid mid' → OnOk r (Stay mid' new)
    → ((terms : Terms) → Represent old numbers root terms → Stands mid j (operand_term terms a)) → ((terms : Terms) → Represent mid numbers root terms → Stands mid' k (operand_term terms b))
    → IfOk r (λ n. slice_get new n ≡ Some (keys.Binary op j k))
    → IfOk r (λ n. (terms : Terms) → Represent old numbers root terms → Stands new n (rhs_term terms (Binary op a b)))
binary_stands old mid mid' new numbers root op a b j k (Ok n) s s' s'' first second here =
    λ terms each. (
      j,
      k,
      here,
      stands_on mid' new s'' (operand_term terms a) j (stands_on mid mid' s' (operand_term terms a) j (first terms each)),
      stands_on mid' new s'' (operand_term terms b) k (second terms (represent_on old mid numbers root terms s each)),
    )
binary_stands old mid mid' new numbers root op a b j k (Err e) s s' s'' first second here = tt

-- ---- each number stands for a term

-- so it is of no numbers
pub none_stand : (table : List TermKey) → table ≡ [] → AllStand table
none_stand table none = subst AllStand (sym none) (λ k lt. absurd (omega (arith, lt)))

-- and where the key of a term is put in
pub all_with : (old : List TermKey) (key : TermKey) (new : List TermKey) (t : Term) → IsWithKey old key new → ((k : ℕ) → slice_get new k ≡ Some key → Stands new k t) → AllStand old → AllStand new
all_with old key new t (inl there) is all = subst AllStand (sym there.1) all
all_with old key new t (inr fresh) is all = λ k lt. elim (cases_lt k (length old)) as (λ _. (u : Term) × Stands new k u) [
  | inl low ↦ (let s = all k low in (s.0, stands_on old new (put_stays old key new (inr fresh)) s.0 k s.1))
  | inr past ↦
      let last : k ≡ length old = omega (arith, lt, past, ap length fresh.1, length-append old (key ∷ [])) in
      (t, is k (ap (slice_get new) last ∙ ap (λ l. slice_get l (length old)) fresh.1 ∙ get_last old key))
]

-- as that of a leaf
pub leaf_all : {E : Type 0} (old : List TermKey) (key : TermKey) (new : List TermKey) (numbers : List (Option ℕ)) (root : ℕ) (t : Term) (r : Result ℕ E) → OnOk r (IsWithKey old key new) → ((k : ℕ) → slice_get new k ≡ Some key → Stands new k t) → OnOk r (StandOn old numbers root new)
leaf_all old key new numbers root t (Ok n) put is = λ terms each before. all_with old key new t put is before
leaf_all old key new numbers root t (Err e) put is = tt

-- or of an operator on the operand of a number
pub unary_all : {E : Type 0} (old mid new : List TermKey) (numbers : List (Option ℕ)) (root : ℕ) (op : UnOp) (a : Operand) (k : ℕ) (r : Result ℕ E) → OnOk r (Stay mid new) → OnOk r (IsWithKey mid (keys.Unary op k) new)
    → ((terms : Terms) → Represent old numbers root terms → Stands mid k (operand_term terms a)) → StandOn old numbers root mid → OnOk r (StandOn old numbers root new)
unary_all old mid new numbers root op a k (Ok n) stay put first all = λ terms each before.
    all_with mid (keys.Unary op k) new (UnaryOf op (operand_term terms a)) put (λ j at. (k, at, stands_on mid new stay (operand_term terms a) k (first terms each))) (all terms each before)
unary_all old mid new numbers root op a k (Err e) stay put first all = tt

-- or on the operands of two
pub binary_all : {E : Type 0} (old mid mid' new : List TermKey) (numbers : List (Option ℕ)) (root : ℕ) (op : Op) (a b : Operand) (j k : ℕ) (r : Result ℕ E) → Stay old mid → Stay mid mid' → OnOk r (Stay mid' new) → OnOk r (IsWithKey mid' (keys.Binary op j k) new)
    → ((terms : Terms) → Represent old numbers root terms → Stands mid j (operand_term terms a)) → ((terms : Terms) → Represent mid numbers root terms → Stands mid' k (operand_term terms b))
    → StandOn old numbers root mid → StandOn mid numbers root mid' → OnOk r (StandOn old numbers root new)
binary_all old mid mid' new numbers root op a b j k (Ok n) s s' s'' put first second all all' = λ terms each before.
    let more = represent_on old mid numbers root terms s each in
    all_with mid' (keys.Binary op j k) new (BinaryOf op (operand_term terms a) (operand_term terms b)) put
    (λ i at. (
      j,
      k,
      at,
      stands_on mid' new s'' (operand_term terms a) j (stands_on mid mid' s' (operand_term terms a) j (first terms each)),
      stands_on mid' new s'' (operand_term terms b) k (second terms more),
    ))
    (all' terms more (all terms each before))
binary_all old mid mid' new numbers root op a b j k (Err e) s s' s'' put first second all all' = tt
