-- What is pushed, and what is still to come, are all of a list.
use Rattle.std.proofs.Common.{◌≡◌, ℕ, suc, ◌+◌, ◌-◌, ◌<◌, true, false, if◌then◌else◌, List, [], ◌∷◌, ◌++◌, append_assoc, append-nil, length, drop, pos, slice_get, Some, refl, sym, ap, ◌∙◌, arith}
use Rattle.std.proofs.lemmas.List.{length_push}
use Rattle.mir_base.specs.declared.instructions.Operand.{Operand}
use Rattle.mir_base.specs.declared.instructions.Operand.TheVariants.{Var, Const}
use Rattle.mir_base.specs.declared.instructions.Rhs.TheVariants.{Plain}
use Rattle.flow_graph.specs.declared.nodes.Node.{Node}
use Rattle.flow_graph.specs.declared.nodes.Node.TheVariants.{Assign}
use Rattle.graph_edit.specs.Insertions.{Insertion, chain, entry_among}
use Rattle.flow_graph.specs.ListLaws.{drop_at}
use Rattle.flow_graph.specs.Numbering.{is_in}
use Rattle.program_pass.specs.declared.standing.Put.{Put}
use Rattle.program_pass.specs.Puts.{insertions}
use Rattle.tail_loop.specs.Tails.{cleared, moved, saved}
use Rattle.program_pass.specs.PutLaws.{insertion}

-- the first of what is still to be saved, moved or cleared
pub saved_next : (first i : ℕ) (operands : List Operand) (a : Operand) (put : Put) → slice_get operands i ≡ Some a → put ≡ record { var = first + i; rhs = Plain a } → saved (first + i) (drop i operands) ≡ insertion put ∷ saved (first + (i + 1)) (drop (i + 1) operands)
saved_next first i operands a put here is =
    let next : suc (first + i) ≡ first + (i + 1) = omega arith in
    ap (saved (first + i)) (drop_at operands i a here) ∙ ap (λ (p : Put). insertion p ∷ saved (suc (first + i)) (drop (i + 1) operands)) (sym is) ∙ ap (λ n. insertion put ∷ saved n (drop (i + 1) operands)) next

-- to be moved
pub moved_next : (first i : ℕ) (received : List ℕ) (x : ℕ) (put : Put) → slice_get received i ≡ Some x → put ≡ record { var = x; rhs = Plain (Var (first + i)) } → moved (first + i) (drop i received) ≡ insertion put ∷ moved (first + (i + 1)) (drop (i + 1) received)
moved_next first i received x put here is =
    let next : suc (first + i) ≡ first + (i + 1) = omega arith in
    ap (moved (first + i)) (drop_at received i x here) ∙ ap (λ (p : Put). insertion p ∷ moved (suc (first + i)) (drop (i + 1) received)) (sym is) ∙ ap (λ n. insertion put ∷ moved n (drop (i + 1) received)) next

-- a variable that is not received is the next to be cleared
pub cleared_next : (received : List ℕ) (x vars : ℕ) (put : Put) → x < vars → is_in x received ≡ false → put ≡ record { var = x; rhs = Plain (Const (pos 0)) } → cleared received x (vars - x) ≡ insertion put ∷ cleared received (x + 1) (vars - (x + 1))
cleared_next received x vars put lt out is =
    let count : vars - x ≡ suc (vars - (x + 1)) = omega (arith, lt) in
    let next : suc x ≡ x + 1 = omega arith in
    let here : Insertion = record { var = x; rhs = Plain (Const (pos 0)) } in
    let rest : List Insertion = cleared received (suc x) (vars - (x + 1)) in
    ap (cleared received x) count ∙ ap (λ b. if b then rest else here ∷ rest) out ∙ ap (λ (p : Put). insertion p ∷ rest) (sym is) ∙ ap (λ n. insertion put ∷ cleared received n (vars - (x + 1))) next

-- one that is received is not
pub cleared_passed : (received : List ℕ) (x vars : ℕ) → x < vars → is_in x received ≡ true → cleared received x (vars - x) ≡ cleared received (x + 1) (vars - (x + 1))
cleared_passed received x vars lt there =
    let count : vars - x ≡ suc (vars - (x + 1)) = omega (arith, lt) in
    let next : suc x ≡ x + 1 = omega arith in
    let here : Insertion = record { var = x; rhs = Plain (Const (pos 0)) } in
    let rest : List Insertion = cleared received (suc x) (vars - (x + 1)) in
    ap (cleared received x) count ∙ ap (λ b. if b then rest else here ∷ rest) there ∙ ap (λ n. cleared received n (vars - (x + 1))) next
