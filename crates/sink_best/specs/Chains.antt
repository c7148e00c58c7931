-- The numbers of what a rewriting puts before a node, the newest first, and what is put there. For proofs only.
use Rattle.std.proofs.Common.{◌≡◌, ◌+◌, ◌<◌, ◌≤◌, ℕ, zero, suc, List, [], ◌∷◌, ◌++◌, length, slice_get, Option, Some, None, inl, inr, refl, sym, ap, ◌∙◌, arith}
use Rattle.std.proofs.lemmas.Bool.{cases_eq, cases_lt}
use Rattle.std.proofs.lemmas.Option.{none-some, same_Some}
use Rattle.mir_base.specs.declared.instructions.Operand.TheVariants.{Var}
use Rattle.mir_base.specs.declared.instructions.Rhs.{Rhs}
use Rattle.mir_base.specs.declared.instructions.Rhs.TheVariants.{Plain}
use Rattle.flow_graph.specs.declared.nodes.Node.{Node}
use Rattle.flow_graph.specs.declared.nodes.Node.TheVariants.{Start, Skip, Assign, Print, Guard, Call, Test, Return}
use Rattle.flow_graph.specs.ListLaws.{some_at}
use Rattle.graph_edit.specs.InsertionNodes.{Link, new_get}
use Rattle.graph_edit.specs.Insertions.{Insertion, Rewriting, put_below, rewritten_nodes}
use Rattle.sink_code.specs.PutLaws.{alone_unput, put_first, put_rest}
use Rattle.sink_code.specs.Sinking.{AreApart, put_for}
use Rattle.path_images.specs.Ends.{IsEndOf, cons_first, cons_rest, end_length, end_past}

-- so many numbers from k on, the last first
abbrev pub down : ℕ → ℕ → List ℕ
down k zero = []
down k (suc j) = (k + j) ∷ down k j

-- an end of them
pub down_end : (k j c : ℕ) (rest : List ℕ) → IsEndOf (c ∷ rest) (down k j) → (i : ℕ) × (i < j) × (c ≡ k + i) × (rest ≡ down k i)
down_end k zero c rest at = (let l = end_length (c ∷ rest) [] at in absurd (omega (arith, l)))
down_end k (suc j) c rest at = by (down_end k j c rest) at.0 at.1
  where
    by : (IsEndOf (c ∷ rest) (down k j) → (i : ℕ) × (i < j) × (c ≡ k + i) × (rest ≡ down k i)) → (f : List ℕ)
        → down k (suc j) ≡ f ++ (c ∷ rest) → (i : ℕ) × (i < suc j) × (c ≡ k + i) × (rest ≡ down k i)
    by deeper [] e = (j, omega arith, sym (cons_first (k + j) c (down k j) rest e), sym (cons_rest (k + j) c (down k j) rest e))
    by deeper (n ∷ f) e = (let r = deeper (f, cons_rest (k + j) n (down k j) (f ++ (c ∷ rest)) e) in let lt = r.1 in (r.0, omega (arith, lt), r.2, r.3))

-- the numbers from one of them down are an end of them
pub down_at : (k j i : ℕ) → i < j → IsEndOf ((k + i) ∷ down k i) (down k j)
down_at k zero i lt = absurd (omega (arith, lt))
down_at k (suc j) i lt = elim (cases_lt i j) [
  | inl less ↦ end_past ((k + j) ∷ []) ((k + i) ∷ down k i) (down k j) (down_at k j i less)
  | inr ge ↦ (let same : i ≡ j = omega (arith, lt, ge) in ([], ap (λ m. (k + m) ∷ down k m) (sym same)))
]

-- ---- insertions

-- the pattern x <- t
abbrev pub pattern : ℕ → Rhs → Insertion
pattern x t = record { var = x; rhs = t }

-- the assignment of a node, where it is one
abbrev pub assignment_of : Option Node → Insertion
assignment_of None = pattern 0 (Plain (Var 0))
assignment_of (Some (Start next)) = pattern 0 (Plain (Var 0))
assignment_of (Some (Skip next)) = pattern 0 (Plain (Var 0))
assignment_of (Some (Assign x rhs next)) = pattern x rhs
assignment_of (Some (Print a next)) = pattern 0 (Plain (Var 0))
assignment_of (Some (Guard test number next)) = pattern 0 (Plain (Var 0))
assignment_of (Some (Call into unit operands next)) = pattern 0 (Plain (Var 0))
assignment_of (Some (Test test taken other)) = pattern 0 (Plain (Var 0))
assignment_of (Some (Return a)) = pattern 0 (Plain (Var 0))

-- each insertion of a list is what the list puts for its variable, where no two are of one variable
pub listed_put : (puts : List Insertion) (j : ℕ) (put : Insertion) → AreApart puts → slice_get puts j ≡ Some put → put_for puts put.var ≡ Some put.rhs
listed_put [] j put apart at = absurd (none-some put at)
listed_put (first ∷ puts) zero put apart at =
    let same : first ≡ put = same_Some first put at in
    ap (λ (p : Insertion). put_for (first ∷ puts) p.var) (sym same) ∙ put_first first puts ∙ ap (λ (p : Insertion). Some p.rhs) same
listed_put (first ∷ puts) (suc j) put apart at = elim (cases_eq put.var first.var) [
  | inl same ↦ absurd (none-some put.rhs (sym (alone_unput first.var puts apart.0) ∙ ap (put_for puts) (sym same) ∙ listed_put puts j put apart.1 at))
  | inr differ ↦ put_rest first puts put.var differ ∙ listed_put puts j put apart.1 at
]

-- and back
pub put_listed : (puts : List Insertion) (x : ℕ) (t : Rhs) → put_for puts x ≡ Some t → (j : ℕ) × (slice_get puts j ≡ Some (pattern x t))
put_listed [] x t e = absurd (none-some t e)
put_listed (first ∷ puts) x t e = elim (cases_eq x first.var) [
  | inl same ↦
      let rhs : first.rhs ≡ t = same_Some first.rhs t (sym (put_first first puts) ∙ ap (put_for (first ∷ puts)) (sym same) ∙ e) in
      (0, ap (λ y. Some (pattern y first.rhs)) (sym same) ∙ ap (λ u. Some (pattern x u)) rhs)
  | inr differ ↦ (let r = put_listed puts x t (sym (put_rest first puts x differ) ∙ e) in (suc r.0, r.1))
]

-- no two of one variable
pub one_listed : (puts : List Insertion) (i j : ℕ) (p q : Insertion) → AreApart puts → slice_get puts i ≡ Some p
    → slice_get puts j ≡ Some q → p.var ≡ q.var → i ≡ j
one_listed [] i j p q apart at at' same = absurd (none-some p at)
one_listed (first ∷ puts) zero zero p q apart at at' same = refl
one_listed (first ∷ puts) zero (suc j) p q apart at at' same =
    let var : first.var ≡ q.var = ap (λ (a : Insertion). a.var) (same_Some first p at) ∙ same in
    absurd (none-some q.rhs (sym (alone_unput first.var puts apart.0) ∙ ap (put_for puts) var ∙ listed_put puts j q apart.1 at'))
one_listed (first ∷ puts) (suc i) zero p q apart at at' same =
    let var : first.var ≡ p.var = ap (λ (a : Insertion). a.var) (same_Some first q at') ∙ sym same in
    absurd (none-some p.rhs (sym (alone_unput first.var puts apart.0) ∙ ap (put_for puts) var ∙ listed_put puts i p apart.1 at))
one_listed (first ∷ puts) (suc i) (suc j) p q apart at at' same = ap suc (one_listed puts i j p q apart.1 at at' same)

-- ---- before a node

module _ (r : Rewriting) (nodes : List Node) where
  abbrev pub first_new : ℕ → ℕ
  first_new n = length nodes + put_below r.inserts n

  abbrev pub chain_before : ℕ → List ℕ
  chain_before n = down (length nodes + put_below r.inserts n) (length (r.inserts n))

  pub record InChain (n c : ℕ) (rest : List ℕ) : Type 0 where
    pub j : ℕ
    pub put : Insertion
    pub next : ℕ
    pub below : n < length nodes
    pub within : j < length (r.inserts n)
    pub at : c ≡ (length nodes + put_below r.inserts n) + j
    pub before : rest ≡ down (length nodes + put_below r.inserts n) j
    pub listed : slice_get (r.inserts n) j ≡ Some put
    pub link : Link n (length nodes + put_below r.inserts n) (length (r.inserts n)) j next
    pub is : slice_get (rewritten_nodes r nodes) c ≡ Some (Assign put.var put.rhs next)

  pub in_chain : ((n : ℕ) → length nodes ≤ n → r.inserts n ≡ []) → (n c : ℕ) (rest : List ℕ) → IsEndOf (c ∷ rest) (chain_before n) → InChain n c rest
  in_chain past n c rest at =
      let d = down_end (length nodes + put_below r.inserts n) (length (r.inserts n)) c rest at in
      let lt : d.0 < length (r.inserts n) = d.1 in
      let below : n < length nodes = elim (cases_lt n (length nodes)) [
        | inl less ↦ less
        | inr ge ↦ (let none = ap length (past n ge) in absurd (omega (arith, lt, none)))
      ] in
      let put = some_at (r.inserts n) d.0 d.1 in
      let new = new_get r nodes n d.0 put.0 below put.1 in
      let sum : (length nodes + put_below r.inserts n) + d.0 ≡ length nodes + (put_below r.inserts n + d.0) = omega arith in
      record {
        j = d.0;
        put = put.0;
        next = new.0;
        below = below;
        within = d.1;
        at = d.2;
        before = d.3;
        listed = put.1;
        link = new.1;
        is = ap (slice_get (rewritten_nodes r nodes)) (d.2 ∙ sum) ∙ new.2;
      }
