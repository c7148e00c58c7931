-- What is found at one node: the first variable with the number of a term is the first that has the term, and the
-- numbers after the node stand for the terms after it.
use Rattle.std.proofs.Common.{◌≡◌, ◌≢◌, ℕ, ◌<◌, ◌≤◌, Bool, true, false, not, if◌then◌else◌, nat_eq, eqb-true, eq-eqb, List, length, slice_get, slice_set, Option, Some, None, refl, sym, ap, ◌∙◌, subst, arith}
use Rattle.std.proofs.lemmas.Bool.{false≢true}
use Rattle.std.specs.Option.{IfSome, IfNone}
use Rattle.std.proofs.lemmas.List.{get_or-set_same, get_or-set_other, length-set}
use Rattle.mir_base.specs.declared.instructions.Operand.{Operand}
use Rattle.mir_base.specs.declared.instructions.Rhs.{Rhs}
use Rattle.mir_base.specs.declared.instructions.Rhs.TheVariants.{Plain, Unary, Binary}
use Rattle.mir_base.specs.declared.operators.Op.{Op}
use Rattle.mir_base.specs.declared.operators.UnOp.{UnOp}
use Rattle.mir_base.specs.Expressions.{divides}
use Rattle.mir_base.specs.Shapes.{AllDiffer}
use Rattle.key_table.specs.Keys.{IsWithKey}
use Rattle.flow_graph.specs.declared.nodes.Node.TheVariants.{Assign, Call}
use Rattle.value_number.specs.declared.finding.NewTerm.{NewTerm}
use Rattle.value_number.specs.declared.finding.AtNode.{AtNode}
use Rattle.value_number.specs.declared.terms.TermKey.{TermKey}
use Rattle.value_number.specs.declared.terms.TermKey.TheVariants as keys
use Rattle.value_number.specs.Entries.{IsTermOf}
use Rattle.value_number.specs.Terms.{Term, Terms, Initial, Opaque, Number, UnaryOf, BinaryOf, with_term, assigned_term, node_terms, rhs_term, movable_rhs_term}
use Rattle.value_number.specs.Numbered.{IsHolder}
use Rattle.value_number.specs.Table.{StandOn, Stands, Stay, Represent, RepresentsAt, variable_number}
use Rattle.value_number.specs.TermWalks.{Finds, GrowsAfter}
use Rattle.value_number.proofs.Entries.{opaque_after, put_grows}
use Rattle.value_number.proofs.Stands.{all_with, one_term, one_number, represent_on, stands_within}

-- ---- the holder of a term

-- a term that is no variable's leaf
abbrev IsComputed : Term → Type 0
IsComputed t = (v root : ℕ) → t ≢ Initial v root

-- operators make such terms
unary_computed : (op : UnOp) (a : Term) → IsComputed (UnaryOf op a)
unary_computed op a v root e = cc

-- of two terms too
binary_computed : (op : Op) (a b : Term) → IsComputed (BinaryOf op a b)
binary_computed op a b v root e = cc

module _ (table : List TermKey) (differ : AllDiffer table) (numbers : List (Option ℕ)) (root : ℕ) (terms : Terms) (represent : Represent table numbers root terms) (t : Term) (number : ℕ) (stands : Stands table number t) where
  -- a variable with the term has its number
  has_number : IsComputed t → (v : ℕ) → v < length numbers → terms v ≡ t → variable_number numbers v ≡ Some number
  has_number computed v lt same = by (variable_number numbers v) refl (represent.each v lt)
    where
      by : (o : Option ℕ) → variable_number numbers v ≡ o → RepresentsAt table root v o (terms v) → variable_number numbers v ≡ Some number
      by None e r = absurd (computed v root (sym same ∙ r))
      by (Some k) e r = e ∙ ap Some (one_number table differ t k number (subst (Stands table k) same r) stands)

  -- and a variable with the number has the term
  number_has : (v : ℕ) → v < length numbers → variable_number numbers v ≡ Some number → terms v ≡ t
  number_has v lt e = one_term table (terms v) t number (subst (λ o. RepresentsAt table root v o (terms v)) e (represent.each v lt)) stands

  -- so the first with the number is the first with the term
  pub first_holds : IsComputed t → (r : Option ℕ) → IfSome r (λ v. v < length numbers) → IfSome r (λ v. variable_number numbers v ≡ Some number) → IfSome r (λ v. (u : ℕ) → u < v → variable_number numbers u ≢ Some number)
      → IfNone r ((u : ℕ) → u < length numbers → variable_number numbers u ≢ Some number) → IsHolder (length numbers) terms (Some t) r
  first_holds computed None within has first none = λ v lt same. none v lt (has_number computed v lt same)
  first_holds computed (Some v) within has first none = (within, number_has v within has, λ u lt same. first u lt (has_number computed u (let l : v < length numbers = within in omega (arith, lt)) same))

-- the premises on the first variable with a number
pub record IsFirstWith (numbers : List (Option ℕ)) (number : ℕ) (r : Option ℕ) : Type 0 where
  pub within : IfSome r (λ v. v < length numbers)
  pub has : IfSome r (λ v. variable_number numbers v ≡ Some number)
  pub first : IfSome r (λ v. (u : ℕ) → u < v → variable_number numbers u ≢ Some number)
  pub none : IfNone r ((u : ℕ) → u < length numbers → variable_number numbers u ≢ Some number)

-- for a unary right side
pub unary_holds : (numbers : List (Option ℕ)) (number : ℕ) (r : Option ℕ) (op : UnOp) (a : Operand) → IsFirstWith numbers number r → (table : List TermKey) (root : ℕ) (terms : Terms) → AllDiffer table
    → Represent table numbers root terms → Stands table number (rhs_term terms (Unary op a)) → IsHolder (length numbers) terms (movable_rhs_term terms (Unary op a)) r
unary_holds numbers number r op a f table root terms differ represent stands =
    first_holds table differ numbers root terms represent (rhs_term terms (Unary op a)) number stands (unary_computed op _) r f.within f.has f.first f.none

-- for a binary one that does not divide
pub binary_holds : (numbers : List (Option ℕ)) (number : ℕ) (r : Option ℕ) (op : Op) (a b : Operand) → divides (Binary op a b) ≡ false → IsFirstWith numbers number r → (table : List TermKey) (root : ℕ) (terms : Terms) → AllDiffer table
    → Represent table numbers root terms → Stands table number (rhs_term terms (Binary op a b)) → IsHolder (length numbers) terms (movable_rhs_term terms (Binary op a b)) r
binary_holds numbers number r op a b undivided f table root terms differ represent stands =
    let t = rhs_term terms (Binary op a b) in
    subst (λ d. IsHolder (length numbers) terms (if not d then Some t else None) r) (sym undivided)
    (first_holds table differ numbers root terms represent t number stands (binary_computed op _ _) r f.within f.has f.first f.none)

-- ---- a term that is new

module _ (old new : List TermKey) (stay : Stay old new) (differ : AllDiffer new) (numbers : List (Option ℕ)) (root : ℕ) (terms : Terms) (represent : Represent old numbers root terms) (number : ℕ) (late : length old ≤ number) where
  -- no variable has a computed term whose number is that of a new entry
  none_has : (t : Term) → IsComputed t → Stands new number t → IsHolder (length numbers) terms (Some t) None
  none_has t computed stands v lt same =
      let has = has_number new differ numbers root terms (represent_on old new numbers root terms stay represent) t number stands computed v lt same in
      let within = stands_within old number (terms v) (subst (λ o. RepresentsAt old root v o (terms v)) has (represent.each v lt)) in
      omega (arith, within, late)

  -- so its right side has no holder
  pub new_unheld : (rhs : Rhs) → divides rhs ≡ false → Stands new number (rhs_term terms rhs) → IsHolder (length numbers) terms (movable_rhs_term terms rhs) None
  new_unheld (Plain a) undivided stands = refl
  new_unheld (Unary op a) undivided stands = none_has (rhs_term terms (Unary op a)) (unary_computed op _) stands
  new_unheld (Binary op a b) undivided stands =
      let t = rhs_term terms (Binary op a b) in
      subst (λ d. IsHolder (length numbers) terms (if not d then Some t else None) None) (sym undivided) (none_has t (binary_computed op _ _) stands)

-- ---- the numbers after a node

-- a variable that gets a term, and its number
pub represent_changed : (table : List TermKey) (numbers : List (Option ℕ)) (root : ℕ) (terms : Terms) (x number : ℕ) (t : Term) → Represent table numbers root terms → x < length numbers → Stands table number t → Represent table (slice_set numbers x (Some number)) root (with_term x t terms)
represent_changed table numbers root terms x number t represent lt stands = record { each = λ v v_lt. by v (subst (λ n. v < n) (length-set numbers x (Some number)) v_lt) (nat_eq v x) refl }
  where
    by : (v : ℕ) → v < length numbers → (b : Bool) → nat_eq v x ≡ b → RepresentsAt table root v (variable_number (slice_set numbers x (Some number)) v) (if b then t else terms v)
    by v v_lt true e =
        let same : v ≡ x = eqb-true v x e in
        subst (λ o. RepresentsAt table root v o t) (sym (ap (variable_number (slice_set numbers x (Some number))) same ∙ get_or-set_same numbers x (Some number) None lt)) stands
    by v v_lt false e =
        let other : v ≢ x = λ same. false≢true (sym e ∙ eq-eqb v x same) in
        subst (λ o. RepresentsAt table root v o (terms v)) (sym (get_or-set_other numbers x v (Some number) None other)) (represent.each v v_lt)

-- a record of these two parts
same_found : (found : AtNode) (holder : Option ℕ) (change : Option NewTerm) → found.holder ≡ holder → found.change ≡ change → record { holder = holder; change = change } ≡ found
same_found found holder change e e' = ap (λ (h : Option ℕ). record { holder = h; change = change }) (sym e) ∙ ap (λ (c : Option NewTerm). record { holder = found.holder; change = c }) (sym e')

-- this change
abbrev to_number : ℕ → ℕ → Option NewTerm
to_number x number = Some (record { variable = x; number = number })

-- a call's result has a leaf of its own
pub finds_call : (old new : List TermKey) (numbers : List (Option ℕ)) (root n x unit next number : ℕ) (operands : List Operand) (found : AtNode) → Stay old new → IsWithKey old (keys.Opaque n x) new → x < length numbers → slice_get new number ≡ Some (keys.Opaque n x)
    → found.holder ≡ None → found.change ≡ to_number x number → Finds old new numbers root n (Call (Some x) unit operands next) found
finds_call old new numbers root n x unit next number operands found stay put lt here holder change = subst (Finds old new numbers root n (Call (Some x) unit operands next)) (same_found found None (to_number x number) holder change) (record {
  stay = stay;
  within = lt;
  holder = λ terms represent. refl;
  change = λ terms represent other. represent_changed new numbers root terms x number (Opaque n x) (represent_on old new numbers root terms stay represent) lt here;
  start = λ is. cc;
  all = λ terms represent. all_with old (keys.Opaque n x) new (Opaque n x) put (λ k at. at);
  grows = λ shared nodes terms root_lt n_lt represent.
      put_grows (length numbers) nodes (IsTermOf new (length numbers) (node_terms shared n (Call (Some x) unit operands next) terms)) old (keys.Opaque n x) new put (n_lt, lt)
      (opaque_after new (length numbers) shared n x unit next operands terms lt);
})

-- an assignment whose right side has this term
pub finds_assigned : (old new : List TermKey) (numbers : List (Option ℕ)) (root n x next number : ℕ) (rhs : Rhs) (holder : Option ℕ) (found : AtNode) → Stay old new → StandOn old numbers root new → GrowsAfter numbers root n (Assign x rhs next) old new → x < length numbers
    → ((terms : Terms) → Represent old numbers root terms → Stands new number (assigned_term n x terms rhs)) → ((terms : Terms) → Represent old numbers root terms → IsHolder (length numbers) terms (movable_rhs_term terms rhs) holder)
    → found.holder ≡ holder → found.change ≡ to_number x number → Finds old new numbers root n (Assign x rhs next) found
finds_assigned old new numbers root n x next number rhs holder found stay all grows lt stands holds is_holder change = subst (Finds old new numbers root n (Assign x rhs next)) (same_found found holder (to_number x number) is_holder change) (record {
  stay = stay;
  within = lt;
  holder = holds;
  change = λ terms represent other. represent_changed new numbers root terms x number (assigned_term n x terms rhs) (represent_on old new numbers root terms stay represent) lt (stands terms represent);
  start = λ is. cc;
  all = all;
  grows = grows;
})

-- a right side that divides has no holder
pub dividing_unheld : (count : ℕ) (terms : Terms) (rhs : Rhs) → divides rhs ≡ true → IsHolder count terms (movable_rhs_term terms rhs) None
dividing_unheld count terms (Plain a) e = cc
dividing_unheld count terms (Unary op a) e = cc
dividing_unheld count terms (Binary op a b) e = subst (λ d. IsHolder count terms (if not d then Some (rhs_term terms (Binary op a b)) else None) None) (sym e) refl
