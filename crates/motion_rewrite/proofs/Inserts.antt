-- Expressions that are put into a list of different ones where they are new, and the tables of those that nodes have.
use Rattle.std.proofs.Common.{◌≡◌, inl, inr, ℕ, suc, Bool, true, false, not, ◌||◌, cond, if◌then◌else◌, List, [], ◌∷◌, ◌++◌, filter, slice_get, append-nil, Option, None, Some, refl, sym, ap, ◌∙◌, subst, true≢false, append_assoc}
use Rattle.std.specs.List.{list_any}
use Rattle.std.proofs.lemmas.List.Elements.{filter-append}
use Rattle.mir_base.specs.declared.instructions.Expr.{Expr}
use Rattle.mir_base.specs.Shapes.{AllBelow, rhs_vars}
use Rattle.mir_base.specs.ExpressionLaws.{expr_of_vars}
use Rattle.mir_base.specs.ExpressionVars.{expr_vars, rhs_of}
use Rattle.mir_base.specs.SameExpressions.{expr_is, expr_itself, same_expr}
use Rattle.key_table.specs.Keys.{IsWithKey, IsWithSome}
use Rattle.key_table.specs.KeyLaws.{is_inserted, put_only}
use Rattle.key_rows.specs.Gathered.{TakesKeys}
use Rattle.mir_base.specs.Expressions.{divides, is_movable}
use Rattle.mir_base.specs.declared.instructions.Rhs.{Rhs}
use Rattle.mir_base.specs.declared.instructions.Rhs.TheVariants.{Plain, Unary, Binary}
use Rattle.mir_base.specs.declared.instructions.Expr.TheVariants.{Bin}
use Rattle.flow_graph.specs.declared.nodes.Node.{Node}
use Rattle.flow_graph.specs.declared.nodes.Node.TheVariants.{Start, Skip, Assign, Print, Guard, Call, Test, Return}
use Rattle.flow_graph.specs.Graphs.{HaveVarsBelow, node_vars}
use Rattle.motion_rewrite.specs.ExprTables.{dividing_at, dividing_in, expr_at, firsts, listed, read_off}

-- ---- put in

-- the list with the expression at its end, where it is new
abbrev pub with_expr : List Expr → Expr → List Expr
with_expr es e = if list_any (same_expr e) es then es else es ++ e ∷ []

-- a filter that lets e through leaves whether it is there
any_filter : (P : Expr → Bool) (ks : List Expr) (e : Expr) → P e ≡ true → list_any (same_expr e) (filter P ks) ≡ list_any (same_expr e) ks
any_filter P [] e passes = refl
any_filter P (x ∷ ks) e passes = by (P x) refl (any_filter P ks e passes)
  where
    other : P x ≡ false → (b : Bool) → same_expr e x ≡ b → same_expr e x ≡ false
    other fails true is = absurd (true≢false (sym passes ∙ ap P (expr_is e x is) ∙ fails))
    other fails false is = is

    by : (b : Bool) → P x ≡ b → list_any (same_expr e) (filter P ks) ≡ list_any (same_expr e) ks → list_any (same_expr e) (cond b (x ∷ filter P ks) (filter P ks)) ≡ (same_expr e x || list_any (same_expr e) ks)
    by true is rest = ap (λ c. same_expr e x || c) rest
    by false is rest = rest ∙ sym (ap (λ c. c || list_any (same_expr e) ks) (other is (same_expr e x) refl))

-- what is not this expression
abbrev other_than : Expr → Expr → Bool
other_than x = λ e. not (same_expr x e)

-- of an expression itself, and of another
other_than_same : (x e : Expr) → same_expr e x ≡ true → other_than x e ≡ false
other_than_same x e is = ap (other_than x) (expr_is e x is) ∙ ap not (expr_itself x)

-- expressions that do not compare equal count as different
other_than_differs : (x e : Expr) → same_expr e x ≡ false → other_than x e ≡ true
other_than_differs x e is = by (same_expr x e) refl
  where
    by : (b : Bool) → same_expr x e ≡ b → not b ≡ true
    by true e' = absurd (true≢false (sym (expr_itself e) ∙ ap (same_expr e) (sym (expr_is x e e')) ∙ is))
    by false e' = refl

-- a filter of one more item
filter_one : (P : Expr → Bool) (F : List Expr) (e : Expr) (b : Bool) → P e ≡ b → filter P (F ++ e ∷ []) ≡ cond b (filter P F ++ e ∷ []) (filter P F)
filter_one P F e true is = filter-append P F (e ∷ []) ∙ ap (λ c. filter P F ++ cond c (e ∷ []) []) is
filter_one P F e false is = filter-append P F (e ∷ []) ∙ ap (λ c. filter P F ++ cond c (e ∷ []) []) is ∙ append-nil (filter P F)

-- the first occurrences in a list with one more
pub firsts_more : (es : List Expr) (e : Expr) → firsts (es ++ e ∷ []) ≡ with_expr (firsts es) e
firsts_more [] e = refl
firsts_more (x ∷ es) e = ap (λ F. x ∷ filter (other_than x) F) (firsts_more es e) ∙ by (same_expr e x) refl (list_any (same_expr e) (firsts es)) refl
  where
    by : (b : Bool) → same_expr e x ≡ b → (c : Bool) → list_any (same_expr e) (firsts es) ≡ c
        → (x ∷ filter (other_than x) (cond (list_any (same_expr e) (firsts es)) (firsts es) (firsts es ++ e ∷ []))) ≡ with_expr (x ∷ filter (other_than x) (firsts es)) e
    by true is true there = rw (is, there) refl
    by true is false there = rw (is, there) (ap (λ F. x ∷ F) (filter_one (other_than x) (firsts es) e false (other_than_same x e is)))
    by false is true there = rw (is, any_filter (other_than x) (firsts es) e (other_than_differs x e is), there) refl
    by false is false there = rw (is, any_filter (other_than x) (firsts es) e (other_than_differs x e is), there) (ap (λ F. x ∷ F) (filter_one (other_than x) (firsts es) e true (other_than_differs x e is)))

-- ---- the expressions of nodes

-- the list with the expression put in, where there is one
abbrev pub put_in : List Expr → Option Expr → List Expr
put_in keys None = keys
put_in keys (Some e) = with_expr keys e

-- nodes are read off by `read`, and of what is read there this is so
module _ (vars : ℕ) (read : Node → Option Expr) (Good : Expr → Type 0) (each_good : (node : Node) (e : Expr) → AllBelow vars (node_vars node) → read node ≡ Some e → Good e) where
  -- what nodes have, one list after the other
  read_append : (xs ys : List Node) → read_off read (xs ++ ys) ≡ read_off read xs ++ read_off read ys
  read_append [] ys = refl
  read_append (x ∷ xs) ys = ap (λ l. listed (read x) ++ l) (read_append xs ys) ∙ sym (append_assoc (listed (read x)) (read_off read xs) (read_off read ys))

  -- the first occurrences of one node more
  read_more : (nodes : List Node) (node : Node) (found : Option Expr) → found ≡ read node → firsts (read_off read (nodes ++ node ∷ [])) ≡ put_in (firsts (read_off read nodes)) found
  read_more nodes node found is =
      ap firsts (read_append nodes (node ∷ []) ∙ ap (λ l. read_off read nodes ++ l) (append-nil (listed (read node)) ∙ ap listed (sym is)))
      ∙ put found
    where
      put : (o : Option Expr) → firsts (read_off read nodes ++ listed o) ≡ put_in (firsts (read_off read nodes)) o
      put None = ap firsts (append-nil (read_off read nodes))
      put (Some e) = firsts_more (read_off read nodes) e

  -- of each key it is so
  abbrev AreGood : List Expr → Type 0
  AreGood keys = (i : ℕ) (e : Expr) → slice_get keys i ≡ Some e → Good e

  -- and it stays so
  put_good : (keys : List Expr) (e : Expr) (new : List Expr) → IsWithKey keys e new → AreGood keys → Good e → AreGood new
  put_good keys e new put are one i d at = elim (put_only keys e new put i d at) as (λ _. Good d) [
    | inl old ↦ are i d old
    | inr same ↦ rw same one
  ]

  -- ---- the table of the first nodes

  -- the keys are those of these nodes
  pub record IsTableOf (nodes : List Node) (keys : List Expr) : Type 0 where
    pub are : keys ≡ firsts (read_off read nodes)
    pub good : (i : ℕ) (e : Expr) → slice_get keys i ≡ Some e → Good e

  -- of no nodes
  table_none : IsTableOf [] []
  table_none = record { are = refl; good = λ i e at. cc }

  -- of one node more
  table_more : (nodes : List Node) (node : Node) (found : Option Expr) (keys new : List Expr)
      → AllBelow vars (node_vars node) → found ≡ read node → IsWithSome keys found new → IsTableOf nodes keys → IsTableOf (nodes ++ node ∷ []) new
  table_more nodes node found keys new below f put before = by found f put
    where
      more : (o : Option Expr) → o ≡ read node → new ≡ put_in keys o → new ≡ firsts (read_off read (nodes ++ node ∷ []))
      more o h same = same ∙ ap (λ k. put_in k o) before.are ∙ sym (read_more nodes node o h)

      by : (o : Option Expr) → o ≡ read node → IsWithSome keys o new → IsTableOf (nodes ++ node ∷ []) new
      by None h same = record { are = more None h same; good = subst AreGood (sym same) before.good }
      by (Some e) h with_key = record {
        are = more (Some e) h (is_inserted same_expr expr_is expr_itself keys e new with_key);
        good = put_good keys e new with_key before.good (each_good node e below (sym h));
      }

  -- of the nodes that follow
  table_on : (done nodes : List Node) (keys new : List Expr) → HaveVarsBelow vars nodes → TakesKeys read nodes keys new → IsTableOf done keys → IsTableOf (done ++ nodes) new
  table_on done [] keys new below same before = subst (λ l. IsTableOf l new) (sym (append-nil done)) (subst (IsTableOf done) (sym same) before)
  table_on done (node ∷ nodes) keys new below taken before =
      subst (λ l. IsTableOf l new) (append_assoc done (node ∷ []) nodes)
      (table_on (done ++ node ∷ []) nodes taken.0 new (λ n m at. below (suc n) m at) taken.2 (table_more done node (read node) keys taken.0 (below 0 node refl) refl taken.1 before))

  -- so of all nodes
  pub table_taken : (nodes : List Node) (new : List Expr) → HaveVarsBelow vars nodes → TakesKeys read nodes [] new → IsTableOf nodes new
  table_taken nodes new below taken = table_on [] nodes [] new below taken table_none

-- ---- movable expressions, and dividing ones

-- an expression that a node evaluates is movable, and its variables are those of the node
pub node_movable : (vars : ℕ) (node : Node) (e : Expr) → AllBelow vars (node_vars node) → expr_at node ≡ Some e → (is_movable (rhs_of e) ≡ true) × AllBelow vars (expr_vars e)
node_movable vars (Start next) e below h = cc
node_movable vars (Skip next) e below h = cc
node_movable vars (Assign x rhs next) e below h = let parts = expr_of_vars rhs e h in (parts.0, subst (AllBelow vars) (sym parts.1) below.1)
node_movable vars (Print a next) e below h = cc
node_movable vars (Guard test number next) e below h = cc
node_movable vars (Call into unit operands next) e below h = cc
node_movable vars (Test test taken other) e below h = cc
node_movable vars (Return a) e below h = cc

-- a right side that is taken since it divides is this expression
dividing_is : (vars : ℕ) (rhs : Rhs) (e : Expr) → AllBelow vars (rhs_vars rhs) → dividing_in (Some rhs) ≡ Some e → (divides (rhs_of e) ≡ true) × AllBelow vars (expr_vars e)
dividing_is vars (Plain a) e below h = cc
dividing_is vars (Unary op a) e below h = cc
dividing_is vars (Binary op a b) e below h = by (divides (Binary op a b)) refl h
  where
    by : (d : Bool) → divides (Binary op a b) ≡ d → (if d then Some (Bin op a b) else None) ≡ Some e → (divides (rhs_of e) ≡ true) × AllBelow vars (expr_vars e)
    by true is h' = let same : Bin op a b ≡ e = cc in rw (← same) (is, below)
    by false is h' = cc

-- an expression that a node evaluates and that divides does, and its variables are those of the node
pub node_divides : (vars : ℕ) (node : Node) (e : Expr) → AllBelow vars (node_vars node) → dividing_at node ≡ Some e → (divides (rhs_of e) ≡ true) × AllBelow vars (expr_vars e)
node_divides vars (Start next) e below h = cc
node_divides vars (Skip next) e below h = cc
node_divides vars (Assign x rhs next) e below h = dividing_is vars rhs e below.1 h
node_divides vars (Print a next) e below h = cc
node_divides vars (Guard test number next) e below h = cc
node_divides vars (Call into unit operands next) e below h = cc
node_divides vars (Test test taken other) e below h = cc
node_divides vars (Return a) e below h = cc
