-- The value of a term, where each leaf has one: terms that stand for the values of the variables before a node stand
-- for them after it.
use Rattle.std.proofs.Common.{◌≡◌, ◌≢◌, inl, inr, ℕ, ◌≤◌, Bool, true, false, if◌then◌else◌, nat_eq, nat_lt, eqb-true, length, arith, eq-eqb, List, [], ◌∷◌, slice_get, ℤ, Option, Some, None, refl, sym, ap, ◌∙◌}
use Rattle.std.proofs.lemmas.Bool.{ltb-false}
use Rattle.mir_base.specs.declared.instructions.Operand.{Operand}
use Rattle.mir_base.specs.declared.instructions.Operand.TheVariants.{Var, Const}
use Rattle.mir_base.specs.declared.instructions.Rhs.{Rhs}
use Rattle.mir_base.specs.declared.instructions.Rhs.TheVariants.{Plain, Unary, Binary}
use Rattle.mir_base.specs.Numbers.{wrapped, value_of_op, value_of_un_op}
use Rattle.mir_base.specs.Expressions.{divides, rhs_value}
use Rattle.mir_base.specs.Frames.{Answer, Values, with_first, with_result, with_value}
use Rattle.mir_base.specs.SharedLaws.{with_first_other}
use Rattle.mir_base.specs.Units.{operand_value}
use Rattle.flow_graph.specs.declared.nodes.Node.{Node}
use Rattle.flow_graph.specs.declared.nodes.Node.TheVariants.{Start, Skip, Assign, Print, Guard, Call, Test, Return}
use Rattle.value_number.specs.Terms.{Term, Initial, Opaque, Number, UnaryOf, BinaryOf, Terms, initial_terms, operand_term, rhs_term, assigned_term, renewed_terms, result_terms, with_term, terms_after}
use Rattle.value_number.specs.Roots.{terms_before}
use Rattle.flow_graph.specs.Numbering.{IsIn}

-- the values that each node gave the variables that it assigns
abbrev pub Given : Type 0
Given = ℕ → Values

-- the same, but that node n gave these
abbrev pub with_given : ℕ → Values → Given → Given
with_given n values given m = if nat_eq m n then values else given m

-- the value of a term, where variables had these values at the root, and nodes gave these
unfoldable pub term_value : Values → Given → Term → ℤ
term_value first given (Initial v root) = first v
term_value first given (Opaque n v) = given n v
term_value first given (Number c) = wrapped c
term_value first given (UnaryOf op a) = value_of_un_op op (term_value first given a)
term_value first given (BinaryOf op a b) = value_of_op op (term_value first given a) (term_value first given b)

-- each variable has the value of its term
pub record HaveTerms (terms : Terms) (first : Values) (given : Given) (values : Values) : Type 0 where
  pub is : (v : ℕ) → values v ≡ term_value first given (terms v)

-- so has an operand
operand_has : (terms : Terms) (first : Values) (given : Given) (values : Values) (a : Operand) → HaveTerms terms first given values → term_value first given (operand_term terms a) ≡ operand_value values a
unfolding term_value
operand_has terms first given values (Var x) h = sym (h.is x)
operand_has terms first given values (Const c) h = refl

-- and a right side
pub rhs_has : (terms : Terms) (first : Values) (given : Given) (values : Values) (rhs : Rhs) → HaveTerms terms first given values → term_value first given (rhs_term terms rhs) ≡ rhs_value values rhs
unfolding term_value
rhs_has terms first given values (Plain a) h = operand_has terms first given values a h
rhs_has terms first given values (Unary op a) h = ap (value_of_un_op op) (operand_has terms first given values a h)
rhs_has terms first given values (Binary op a b) h =
    ap (λ v. value_of_op op v (term_value first given (operand_term terms b))) (operand_has terms first given values a h) ∙ ap (value_of_op op (operand_value values a)) (operand_has terms first given values b h)

-- after an assignment of a value to a variable, which gets a term of this value
pub has_assigned : (terms : Terms) (first : Values) (given : Given) (values : Values) (x : ℕ) (t : Term) (v : ℤ) → HaveTerms terms first given values → v ≡ term_value first given t → HaveTerms (with_term x t terms) first given (with_value x v values)
has_assigned terms first given values x t v h is = record { is = λ y. cases y (nat_eq y x) }
  where
    cases : (y : ℕ) (b : Bool) → (if b then v else values y) ≡ term_value first given (if b then t else terms y)
    cases y true = is
    cases y false = h.is y

-- at a root each variable has its leaf
pub has_initial : (given : Given) (values : Values) (root : ℕ) → HaveTerms (initial_terms root) values given values
unfolding term_value
has_initial given values root = record { is = λ v. refl }

-- ---- leaves that a term does not have

-- the term has no leaf of this node
abbrev Avoids : ℕ → Term → Type 0
Avoids n (Initial v root) = Unit {0}
Avoids n (Opaque k v) = k ≢ n
Avoids n (Number c) = Unit {0}
Avoids n (UnaryOf op a) = Avoids n a
Avoids n (BinaryOf op a b) = Avoids n a × Avoids n b

-- nor has a choice of two such terms
avoids_if : (n : ℕ) (b : Bool) (t u : Term) → Avoids n t → Avoids n u → Avoids n (if b then t else u)
avoids_if n true t u p q = p
avoids_if n false t u p q = q

-- nor the term of an operand
avoids_operand : (n : ℕ) (terms : Terms) (a : Operand) → ((v : ℕ) → Avoids n (terms v)) → Avoids n (operand_term terms a)
avoids_operand n terms (Var x) all = all x
avoids_operand n terms (Const c) all = tt

-- nor that of a right side
avoids_rhs : (n : ℕ) (terms : Terms) (rhs : Rhs) → ((v : ℕ) → Avoids n (terms v)) → Avoids n (rhs_term terms rhs)
avoids_rhs n terms (Plain a) all = avoids_operand n terms a all
avoids_rhs n terms (Unary op a) all = avoids_operand n terms a all
avoids_rhs n terms (Binary op a b) all = (avoids_operand n terms a all, avoids_operand n terms b all)

-- no other node makes such a leaf
avoids_after : (shared n m : ℕ) (o : Option Node) (terms : Terms) → m ≢ n → ((v : ℕ) → Avoids n (terms v)) → (v : ℕ) → Avoids n (terms_after shared m o terms v)
avoids_after shared n m None terms apart all v = all v
avoids_after shared n m (Some (Start next)) terms apart all v = tt
avoids_after shared n m (Some (Skip next)) terms apart all v = all v
avoids_after shared n m (Some (Assign x rhs next)) terms apart all v =
    avoids_if n (nat_eq v x) (assigned_term m x terms rhs) (terms v) (avoids_if n (divides rhs) (Opaque m x) (rhs_term terms rhs) apart (avoids_rhs n terms rhs all)) (all v)
avoids_after shared n m (Some (Print a next)) terms apart all v = all v
avoids_after shared n m (Some (Guard test number next)) terms apart all v = all v
avoids_after shared n m (Some (Call None unit operands next)) terms apart all v = avoids_if n (nat_lt v shared) (Opaque m v) (terms v) apart (all v)
avoids_after shared n m (Some (Call (Some x) unit operands next)) terms apart all v = avoids_if n (nat_lt v shared) (Opaque m v) (with_term x (Opaque m x) terms v) apart (avoids_if n (nat_eq v x) (Opaque m x) (terms v) apart (all v))
avoids_after shared n m (Some (Test test taken other)) terms apart all v = all v
avoids_after shared n m (Some (Return a)) terms apart all v = all v

-- so no term before a node has one that is not on the way
pub avoids_before : (shared : ℕ) (nodes : List Node) (n root : ℕ) (before : List ℕ) → (IsIn n before → ⊥) → (v : ℕ) → Avoids n (terms_before shared nodes root before v)
avoids_before shared nodes n root [] out v = tt
avoids_before shared nodes n root (m ∷ before) out v = avoids_after shared n m (slice_get nodes m) (terms_before shared nodes root before) (λ same. out (inl same)) (avoids_before shared nodes n root before (λ h. out (inr h))) v

-- the values of such a term do not change where the node gives others
avoid_value : (n : ℕ) (w first : Values) (given : Given) (t : Term) → Avoids n t → term_value first (with_given n w given) t ≡ term_value first given t
unfolding term_value
avoid_value n w first given (Initial v root) p = refl
avoid_value n w first given (Opaque k v) p = cases (nat_eq k n) refl
  where
    cases : (b : Bool) → nat_eq k n ≡ b → (if b then w else given k) v ≡ given k v
    cases true is = absurd (p (eqb-true k n is))
    cases false is = refl
avoid_value n w first given (Number c) p = refl
avoid_value n w first given (UnaryOf op a) p = ap (value_of_un_op op) (avoid_value n w first given a p)
avoid_value n w first given (BinaryOf op a b) p =
    ap (λ v. value_of_op op v (term_value first (with_given n w given) b)) (avoid_value n w first given a p.0) ∙ ap (value_of_op op (term_value first given a)) (avoid_value n w first given b p.1)

-- the leaf of a node and a variable has the value that the node gives the variable
pub given_here : (first : Values) (given : Given) (n : ℕ) (w : Values) (v : ℕ) → w v ≡ term_value first (with_given n w given) (Opaque n v)
unfolding term_value
given_here first given n w v = let yes : nat_eq n n ≡ true = eq-eqb n n refl in sym (ap (λ b. (if b then w else given n) v) yes)

-- the variables keep the values of their terms where a node gives values whose leaves none of them has
pub has_given : (terms : Terms) (first : Values) (given : Given) (values : Values) (n : ℕ) (w : Values) → ((v : ℕ) → Avoids n (terms v)) → HaveTerms terms first given values → HaveTerms terms first (with_given n w given) values
has_given terms first given values n w out h = record { is = λ v. h.is v ∙ sym (avoid_value n w first given (terms v) (out v)) }

-- ---- a call

module _ (shared n : ℕ) (terms : Terms) (first : Values) (given : Given) (values : Values) (has : HaveTerms terms first given values) (a : Answer) (long : length a.globals ≡ shared) where
  -- a variable that is no global keeps its value until the result is set
  past_globals : (v : ℕ) → nat_lt v shared ≡ false → with_first a.globals values v ≡ values v
  past_globals v off = let past : shared ≤ v = ltb-false v shared off in with_first_other a.globals values v (omega (arith, past, long))

  -- a variable that has this value and a leaf, or the value that it had and its term, has the value of its term
  pub has_called : (into : Option ℕ) → ((v : ℕ) → Avoids n (terms v)) → HaveTerms (renewed_terms n shared (result_terms n into terms)) first (with_given n (with_result into a.value (with_first a.globals values)) given) (with_result into a.value (with_first a.globals values))
  has_called into out = record { is = λ v. by into v (nat_lt v shared) refl }
    where
      after : Option ℕ → Values
      after o = with_result o a.value (with_first a.globals values)

      kept : (o : Option ℕ) (v : ℕ) → values v ≡ term_value first (with_given n (after o) given) (terms v)
      kept o v = has.is v ∙ sym (avoid_value n (after o) first given (terms v) (out v))

      by : (o : Option ℕ) (v : ℕ) (b : Bool) → nat_lt v shared ≡ b → after o v ≡ term_value first (with_given n (after o) given) (if b then Opaque n v else result_terms n o terms v)
      by o v true e = given_here first given n (after o) v
      by None v false e = past_globals v e ∙ kept None v
      by (Some x) v false e = result (nat_eq v x) refl
        where
          result : (b : Bool) → nat_eq v x ≡ b → after (Some x) v ≡ term_value first (with_given n (after (Some x)) given) (if b then Opaque n x else terms v)
          result true f = ap (after (Some x)) (eqb-true v x f) ∙ given_here first given n (after (Some x)) x
          result false f = ap (λ b. if b then a.value else with_first a.globals values v) f ∙ past_globals v e ∙ kept (Some x) v
