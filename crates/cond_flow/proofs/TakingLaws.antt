-- What is taken over of what a block reads.
use Rattle.std.proofs.Common.{◌≡◌, ℕ, zero, suc, List, [], ◌∷◌, length, length-set, slice_set, refl, sym, ap, ◌∙◌, arith}
use Rattle.std.proofs.lemmas.List.{set-get_or}
use Rattle.mir_base.specs.declared.instructions.Operand.{Operand}
use Rattle.mir_base.specs.declared.instructions.Operand.TheVariants.{Var, Const}
use Rattle.mir_base.specs.declared.instructions.Rhs.TheVariants.{Plain, Unary, Binary}
use Rattle.mir_base.specs.declared.instructions.Test.TheVariants.{Rel, Holds, Fails}
use Rattle.flow_graph.specs.declared.nodes.Node.{Node}
use Rattle.flow_graph.specs.declared.nodes.Node.TheVariants.{Start, Skip, Assign, Print, Guard, Call, Test, Return}
use Rattle.cond_flow.specs.Reading.{AgreeOnNode, taken, taken_node}
use Rattle.cond_flow.specs.Rules.{Rules, AgreeOn, known_at}
use Rattle.cond_flow.specs.SetLaws.{set_alike}
use Rattle.cond_flow.proofs.ReadingLaws.{AgreesToo, agree_too, operand_too}

module _ {K : Type 0} (rules : Rules K) where
  -- ---- one operand

  -- as many are known
  long_operand : (a : Operand) (known into : List K) → length (taken rules a known into) ≡ length into
  long_operand (Var x) known into = length-set into x (known_at rules known x)
  long_operand (Const c) known into = refl

  -- the lists agree where they did
  operand_more : (a : Operand) (known into : List K) → length known ≡ length into
      → AgreesToo rules known into known (taken rules a known into)
  operand_more (Var x) known into long = record {
    long = long ∙ sym (length-set into x (known_at rules known x));
    each = λ k h.
        ap (λ l. known_at rules l k) (sym (set-get_or known x rules.top))
        ∙ set_alike rules known into x (known_at rules known x) (known_at rules known x) k long refl h;
  }
  operand_more (Const c) known into long = record { long = long; each = λ k h. h }

  -- and at the variable that was set
  set_takes : (xs ys : List K) (x : ℕ) → length xs ≡ length ys
      → known_at rules xs x ≡ known_at rules (slice_set ys x (known_at rules xs x)) x
  set_takes [] [] x long = refl
  set_takes [] (b ∷ ys) x long = absurd (omega (arith, long))
  set_takes (a ∷ xs) [] x long = absurd (omega (arith, long))
  set_takes (a ∷ xs) (b ∷ ys) zero long = refl
  set_takes (a ∷ xs) (b ∷ ys) (suc x) long =
      set_takes xs ys x (let long' : suc (length xs) ≡ suc (length ys) = long in omega arith)

  -- so on the operand
  takes_operand : (a : Operand) (known into : List K) → length known ≡ length into
      → AgreeOn rules known (taken rules a known into) a
  takes_operand (Var x) known into long = set_takes known into x long
  takes_operand (Const c) known into long = tt

  -- ---- two operands

  -- they agree where they did
  both_more : (a b : Operand) (known into : List K) → length known ≡ length into
      → AgreesToo rules known into known (taken rules b known (taken rules a known into))
  both_more a b known into long =
      let first = operand_more a known into long in
      let second = operand_more b known (taken rules a known into) first.long in
      record { long = second.long; each = λ k h. second.each k (first.each k h) }

  -- and on both
  takes_both : (a b : Operand) (known into : List K) → length known ≡ length into
      → AgreeOn rules known (taken rules b known (taken rules a known into)) a
      × AgreeOn rules known (taken rules b known (taken rules a known into)) b
  takes_both a b known into long =
      let first = operand_more a known into long in (
        operand_too rules known (taken rules a known into) known (taken rules b known (taken rules a known into)) a
            (operand_more b known (taken rules a known into) first.long) (takes_operand a known into long),
        takes_operand b known (taken rules a known into) first.long,
      )

  -- ---- a node

  -- as many are known
  pub long_node : (node : Node) (known into : List K) → length (taken_node rules node known into) ≡ length into
  long_node (Start next) known into = refl
  long_node (Skip next) known into = refl
  long_node (Assign x (Plain a) next) known into = long_operand a known into
  long_node (Assign x (Unary op a) next) known into = long_operand a known into
  long_node (Assign x (Binary op a b) next) known into =
      long_operand b known (taken rules a known into) ∙ long_operand a known into
  long_node (Print a next) known into = refl
  long_node (Guard test number next) known into = refl
  long_node (Call target unit operands next) known into = refl
  long_node (Test (Rel op a b) one other) known into =
      long_operand b known (taken rules a known into) ∙ long_operand a known into
  long_node (Test (Holds a) one other) known into = long_operand a known into
  long_node (Test (Fails a) one other) known into = long_operand a known into
  long_node (Return a) known into = refl

  -- they agree where they did
  node_more : (node : Node) (known into : List K) → length known ≡ length into
      → AgreesToo rules known into known (taken_node rules node known into)
  node_more (Start next) known into long = record { long = long; each = λ k h. h }
  node_more (Skip next) known into long = record { long = long; each = λ k h. h }
  node_more (Assign x (Plain a) next) known into long = operand_more a known into long
  node_more (Assign x (Unary op a) next) known into long = operand_more a known into long
  node_more (Assign x (Binary op a b) next) known into long = both_more a b known into long
  node_more (Print a next) known into long = record { long = long; each = λ k h. h }
  node_more (Guard test number next) known into long = record { long = long; each = λ k h. h }
  node_more (Call target unit operands next) known into long = record { long = long; each = λ k h. h }
  node_more (Test (Rel op a b) one other) known into long = both_more a b known into long
  node_more (Test (Holds a) one other) known into long = operand_more a known into long
  node_more (Test (Fails a) one other) known into long = operand_more a known into long
  node_more (Return a) known into long = record { long = long; each = λ k h. h }

  -- so on what other nodes read
  pub takes_more : (node other : Node) (known into : List K) → length known ≡ length into → AgreeOnNode rules known into other
      → AgreeOnNode rules known (taken_node rules node known into) other
  takes_more node other known into long h =
      agree_too rules known into known (taken_node rules node known into) other (node_more node known into long) h

  -- and on what the node reads
  pub takes_node : (node : Node) (known into : List K) → length known ≡ length into
      → AgreeOnNode rules known (taken_node rules node known into) node
  takes_node (Start next) known into long = tt
  takes_node (Skip next) known into long = tt
  takes_node (Assign x (Plain a) next) known into long = takes_operand a known into long
  takes_node (Assign x (Unary op a) next) known into long = takes_operand a known into long
  takes_node (Assign x (Binary op a b) next) known into long = takes_both a b known into long
  takes_node (Print a next) known into long = tt
  takes_node (Guard test number next) known into long = tt
  takes_node (Call target unit operands next) known into long = tt
  takes_node (Test (Rel op a b) one other) known into long = takes_both a b known into long
  takes_node (Test (Holds a) one other) known into long = takes_operand a known into long
  takes_node (Test (Fails a) one other) known into long = takes_operand a known into long
  takes_node (Return a) known into long = tt
