-- Terms: what the value of a variable is, as a tree of operators over leaves. Cited by contracts.
use Rattle.std.specs.Prelude.{ℕ, if◌then◌else◌, nat_eq, nat_lt, ℤ, Option, Some, None}
use Rattle.mir_base.specs.declared.operators.Op.{Op}
use Rattle.mir_base.specs.declared.operators.UnOp.{UnOp}
use Rattle.mir_base.specs.declared.instructions.Operand.{Operand}
use Rattle.mir_base.specs.declared.instructions.Operand.TheVariants.{Var, Const}
use Rattle.mir_base.specs.declared.instructions.Rhs.{Rhs}
use Rattle.mir_base.specs.declared.instructions.Rhs.TheVariants.{Plain, Unary, Binary}
use Rattle.mir_base.specs.Expressions.{divides, is_movable}
use Rattle.flow_graph.specs.declared.nodes.Node.{Node}
use Rattle.flow_graph.specs.declared.nodes.Node.TheVariants.{Start, Skip, Assign, Print, Guard, Call, Test, Return}

-- a tree of operators over leaves
pub data Term : Type 0 where
  -- a leaf: the value that the variable has before this root, or after Start
  Initial : (variable root : ℕ) → Term
  -- a leaf: the value that this node gives the variable, by a division or a call
  Opaque : (node variable : ℕ) → Term
  -- a leaf: this number
  Number : (constant : ℤ) → Term
  -- an operator on one term
  UnaryOf : (op : UnOp) (a : Term) → Term
  -- an operator on two terms
  BinaryOf : (op : Op) (a b : Term) → Term

-- a term for each variable
abbrev pub Terms : Type 0
Terms = ℕ → Term

-- each variable has its own leaf of this root
abbrev pub initial_terms : ℕ → Terms
initial_terms root v = Initial v root

-- the term of an operand
abbrev pub operand_term : Terms → Operand → Term
operand_term terms (Var x) = terms x
operand_term terms (Const c) = Number c

-- the term of a right side that does not divide
abbrev pub rhs_term : Terms → Rhs → Term
rhs_term terms (Plain a) = operand_term terms a
rhs_term terms (Unary op a) = UnaryOf op (operand_term terms a)
rhs_term terms (Binary op a b) = BinaryOf op (operand_term terms a) (operand_term terms b)

-- the term that an assignment at node n gives variable x
abbrev pub assigned_term : ℕ → ℕ → Terms → Rhs → Term
assigned_term n x terms rhs = if divides rhs then Opaque n x else rhs_term terms rhs

-- the same terms, but for one variable
abbrev pub with_term : ℕ → Term → Terms → Terms
with_term x t terms y = if nat_eq y x then t else terms y

-- the terms after node n has given each of the first so many variables a value
abbrev pub renewed_terms : ℕ → ℕ → Terms → Terms
renewed_terms n count terms y = if nat_lt y count then Opaque n y else terms y

-- the terms after node n has given the variable, where there is one, the result of its call
abbrev pub result_terms : ℕ → Option ℕ → Terms → Terms
result_terms n None terms = terms
result_terms n (Some x) terms = with_term x (Opaque n x) terms

-- the terms after node n, which is this one, but for the globals: a call's result has a leaf of its own
abbrev pub own_terms : ℕ → Node → Terms → Terms
own_terms n (Start next) terms = initial_terms n
own_terms n (Skip next) terms = terms
own_terms n (Assign x rhs next) terms = with_term x (assigned_term n x terms rhs) terms
own_terms n (Print a next) terms = terms
own_terms n (Guard test number next) terms = terms
own_terms n (Call into unit operands next) terms = result_terms n into terms
own_terms n (Test test taken other) terms = terms
own_terms n (Return a) terms = terms

-- the same with the globals, which are the first so many variables: after a call each has a leaf of its own
abbrev pub with_globals : ℕ → ℕ → Node → Terms → Terms
with_globals shared n (Start next) terms = terms
with_globals shared n (Skip next) terms = terms
with_globals shared n (Assign x rhs next) terms = terms
with_globals shared n (Print a next) terms = terms
with_globals shared n (Guard test number next) terms = terms
with_globals shared n (Call into unit operands next) terms = renewed_terms n shared terms
with_globals shared n (Test test taken other) terms = terms
with_globals shared n (Return a) terms = terms

-- the terms after node n, which is this one
abbrev pub node_terms : ℕ → ℕ → Node → Terms → Terms
node_terms shared n node terms = with_globals shared n node (own_terms n node terms)

-- the terms after node n, where there is one
abbrev pub terms_after : ℕ → ℕ → Option Node → Terms → Terms
terms_after shared n None terms = terms
terms_after shared n (Some node) terms = node_terms shared n node terms

-- the term of a movable right side
abbrev pub movable_rhs_term : Terms → Rhs → Option Term
movable_rhs_term terms rhs = if is_movable rhs then Some (rhs_term terms rhs) else None

-- the term of the movable right side that a node assigns; none where it assigns none
abbrev pub movable_term : Terms → Node → Option Term
movable_term terms (Start next) = None
movable_term terms (Skip next) = None
movable_term terms (Assign x rhs next) = movable_rhs_term terms rhs
movable_term terms (Print a next) = None
movable_term terms (Guard test number next) = None
movable_term terms (Call into unit operands next) = None
movable_term terms (Test test taken other) = None
movable_term terms (Return a) = None
