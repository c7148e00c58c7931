-- Terms of the table that compare as equal are one term. Cited by the impl of `Key`.
use Rattle.std.proofs.Common.{rules, ◌≡◌, ◌&&◌, true, nat_eq, refl}
use Rattle.std.proofs.lemmas.Bool.{and_parts, eqb-true}
use Rattle.mir_base.specs.contracts.operators.OpPartialEq.TheImpl.{ghosts as op_ghosts}
use Rattle.mir_base.specs.contracts.operators.UnOpPartialEq.TheImpl.{ghosts as un_op_ghosts}
use Rattle.key_table.specs.SameValues.{same_ops, same_un_ops}
use Rattle.value_number.specs.declared.terms.TermKey.{TermKey}
use Rattle.value_number.specs.declared.terms.TermKey.TheVariants.{Initial, Opaque, Number, Unary, Binary}
use Rattle.value_number.specs.contracts.terms.TermKeyPartialEq.TheImpl.{ghosts}

-- by the variants and their parts
pub same_terms : (a b : TermKey) → ghosts.eq a b ≡ true → a ≡ b
same_terms (Initial x root) (Initial y other) h =
    let parts = and_parts (nat_eq x y) (nat_eq root other) h in
    rw (eqb-true x y parts.0, eqb-true root other parts.1) refl
same_terms (Initial x root) (Opaque n y) h = absurd (cc)
same_terms (Initial x root) (Number c) h = absurd (cc)
same_terms (Initial x root) (Unary op n) h = absurd (cc)
same_terms (Initial x root) (Binary op n m) h = absurd (cc)
same_terms (Opaque k v) (Initial x root) h = absurd (cc)
same_terms (Opaque k v) (Opaque n y) h =
    let parts = and_parts (nat_eq k n) (nat_eq v y) h in
    rw (eqb-true k n parts.0, eqb-true v y parts.1) refl
same_terms (Opaque k v) (Number c) h = absurd (cc)
same_terms (Opaque k v) (Unary op n) h = absurd (cc)
same_terms (Opaque k v) (Binary op n m) h = absurd (cc)
same_terms (Number c) (Initial x root) h = absurd (cc)
same_terms (Number c) (Opaque n y) h = absurd (cc)
same_terms (Number c) (Number d) h = search rules
same_terms (Number c) (Unary op n) h = absurd (cc)
same_terms (Number c) (Binary op n m) h = absurd (cc)
same_terms (Unary op k) (Initial x root) h = absurd (cc)
same_terms (Unary op k) (Opaque n y) h = absurd (cc)
same_terms (Unary op k) (Number c) h = absurd (cc)
same_terms (Unary op k) (Unary other n) h =
    let parts = and_parts (un_op_ghosts.eq op other) (nat_eq k n) h in
    rw (same_un_ops op other parts.0, eqb-true k n parts.1) refl
same_terms (Unary op k) (Binary other n m) h = absurd (cc)
same_terms (Binary op k l) (Initial x root) h = absurd (cc)
same_terms (Binary op k l) (Opaque n y) h = absurd (cc)
same_terms (Binary op k l) (Number c) h = absurd (cc)
same_terms (Binary op k l) (Unary other n) h = absurd (cc)
same_terms (Binary op k l) (Binary other n m) h =
    let parts = and_parts (op_ghosts.eq op other) (nat_eq k n && nat_eq l m) h in
    let numbers = and_parts (nat_eq k n) (nat_eq l m) parts.1 in
    rw (same_ops op other parts.0, eqb-true k n numbers.0, eqb-true l m numbers.1) refl
