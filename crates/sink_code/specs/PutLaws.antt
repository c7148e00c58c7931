-- Laws of insertions in order of their variables: what is put for each variable, and that it determines the list. For
-- proofs only.
use Rattle.std.proofs.Common.{◌≡◌, ℕ, suc, ◌≤◌, if◌then◌else◌, List, [], ◌∷◌, Some, None, inl, inr, refl, sym, ap, ◌∙◌, arith}
use Rattle.std.specs.Prelude.{◌↔◌}
use Rattle.std.proofs.lemmas.Bool.{cases_eq, eq-eqb, ne_eqb}
use Rattle.std.proofs.lemmas.Option.{same_Some, none-some}
use Rattle.mir_base.specs.declared.instructions.Rhs.{Rhs}
use Rattle.graph_edit.specs.Insertions.{Insertion}
use Rattle.flow_graph.specs.ListLaws.{cons_same}
use Rattle.sink_code.specs.Sinking.{LeaveAlone, put_for}
use Rattle.sink_code.specs.SunkGraphs.{RisesFrom}

-- ---- what is put for a variable

-- the first of them is put for its variable
pub put_first : (put : Insertion) (puts : List Insertion) → put_for (put ∷ puts) put.var ≡ Some put.rhs
put_first put puts = ap (λ b. (if b then Some put.rhs else put_for puts put.var)) (eq-eqb put.var put.var refl)

-- for another variable what the others put
pub put_rest : (put : Insertion) (puts : List Insertion) (x : ℕ) → (x ≡ put.var → ⊥)
    → put_for (put ∷ puts) x ≡ put_for puts x
put_rest put puts x differ = ap (λ b. (if b then Some put.rhs else put_for puts x)) (ne_eqb x put.var differ)

-- nothing is put for a variable that the insertions leave alone
pub alone_unput : (x : ℕ) (puts : List Insertion) → LeaveAlone x puts → put_for puts x ≡ None
alone_unput x [] alone = refl
alone_unput x (put ∷ puts) alone = ap (λ b. (if b then Some put.rhs else put_for puts x)) alone.0.0 ∙ alone_unput x puts alone.1

-- the variables of insertions that rise from a number on are not below it
pub put_above : (low : ℕ) (puts : List Insertion) (x : ℕ) (t : Rhs) → RisesFrom low puts
    → put_for puts x ≡ Some t → low ≤ x
put_above low [] x t rises is = absurd (none-some t is)
put_above low (put ∷ puts) x t rises is = elim (cases_eq x put.var) [
  | inl same ↦ omega (arith, same, rises.0)
  | inr differ ↦ (let rest = put_above (suc put.var) puts x t rises.1 (sym (put_rest put puts x differ) ∙ is) in omega (arith, rest, rises.0))
]

-- what is put for a later variable is not put by the first
pub put_later : (put : Insertion) (puts : List Insertion) (x : ℕ) (t : Rhs)
    → RisesFrom (suc put.var) puts → put_for puts x ≡ Some t → put_for (put ∷ puts) x ≡ Some t
put_later put puts x t rises is =
    put_rest put puts x (λ same. (let above = put_above (suc put.var) puts x t rises is in absurd (omega (arith, same, above))))
    ∙ is

-- ---- one list

-- insertions in order that put the same for each variable are one list
pub one_list : (low low' : ℕ) (a b : List Insertion) → RisesFrom low a → RisesFrom low' b
    → ((x : ℕ) (t : Rhs) → (put_for a x ≡ Some t) ↔ (put_for b x ≡ Some t)) → a ≡ b
one_list low low' [] [] rises rises' same = refl
one_list low low' [] (q ∷ b) rises rises' same = absurd (none-some q.rhs ((same q.var q.rhs).1 (put_first q b)))
one_list low low' (p ∷ a) [] rises rises' same = absurd (none-some p.rhs ((same p.var p.rhs).0 (put_first p a)))
one_list low low' (p ∷ a) (q ∷ b) rises rises' same =
    let q_le : q.var ≤ p.var = put_above q.var (q ∷ b) p.var p.rhs (omega arith, rises'.1) ((same p.var p.rhs).0 (put_first p a)) in
    let p_le : p.var ≤ q.var = put_above p.var (p ∷ a) q.var q.rhs (omega arith, rises.1) ((same q.var q.rhs).1 (put_first q b)) in
    let var : p.var ≡ q.var = omega (arith, q_le, p_le) in
    let rhs : p.rhs ≡ q.rhs = same_Some p.rhs q.rhs (sym ((same p.var p.rhs).0 (put_first p a)) ∙ ap (put_for (q ∷ b)) var ∙ put_first q b) in
    cons_same
    (ap (λ x. record { var = x; rhs = p.rhs }) var ∙ ap (λ r. record { var = q.var; rhs = r }) rhs)
    (one_list (suc p.var) (suc q.var) a b rises.1 rises'.1 (λ x t. (
      (λ is. (let above = put_above (suc p.var) a x t rises.1 is in sym (put_rest q b x (λ e. omega (arith, e, above, var))) ∙ (same x t).0 (put_later p a x t rises.1 is))),
      (λ is. (let above = put_above (suc q.var) b x t rises'.1 is in sym (put_rest p a x (λ e. omega (arith, e, above, var))) ∙ (same x t).1 (put_later q b x t rises'.1 is))),
    )))
