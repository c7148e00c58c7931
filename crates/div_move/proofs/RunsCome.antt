-- A run of the graph from a node that must come to an expression comes to a node that uses it: it goes on silently from
-- each node before that one, none of which assigns a variable that the expression reads, or divides.
use Rattle.std.proofs.Common.{◌≡◌, ◌+◌, ◌&&◌, ◌<◌, ℕ, suc, not, Bool, true, false, if◌then◌else◌, List, [], ◌∷◌, length, slice_get, nat_eq, ℤ, Some, inl, inr, refl, sym, ap, ◌∙◌}
use Rattle.std.proofs.lemmas.Bool.{cases_Bool, or_parts}
use Rattle.mir_base.specs.declared.instructions.Expr.{Expr}
use Rattle.mir_base.specs.declared.operators.Trap.TheVariants.{ZeroDivisor}
use Rattle.mir_base.specs.EqualValues.{EqualOn}
use Rattle.mir_base.specs.ExpressionLaws.{assign_is, never_traps_where_undivided}
use Rattle.mir_base.specs.Expressions.{divides, rhs_count, rhs_traps, rhs_value}
use Rattle.mir_base.specs.ExpressionVars.{expr_vars}
use Rattle.mir_base.specs.Frames.{Code, Continues, Frame, Traps, Values, with_value}
use Rattle.mir_base.specs.Units.{assigned, at, test_holds}
use Rattle.flow_graph.specs.declared.nodes.Node.{Node}
use Rattle.flow_graph.specs.declared.nodes.Node.TheVariants.{Start, Skip, Assign, Print, Guard, Call, Test, Return}
use Rattle.flow_graph.specs.BoundLaws.{edge_within}
use Rattle.flow_graph.specs.Graphs.{AllWithin, GraphShape, assigns, succs_of}
use Rattle.flow_graph.specs.ListLaws.{some_at}
use Rattle.flow_graph.specs.Machines.{graph_code, node_transition}
use Rattle.flow_graph.specs.Paths.{HasEdge}
use Rattle.graph_edit.specs.VarLaws.{NoneAssigned}
use Rattle.motion_rewrite.specs.Expressions.{node_kills, node_uses, uses}
use Rattle.motion_rewrite.specs.KillLaws.{kills_none}
use Rattle.div_move.specs.MustCome.{MustComeTo, RunComesTo, RunsComeTo, is_division, is_observable, node_hinders}
use Rattle.div_move.specs.MustComeLaws.{MustBy, at_use, by_all, must_steps}

-- ---- equal values

-- values are equal to themselves
equal_itself : (xs : List ℕ) (v : Values) → EqualOn xs v v
equal_itself [] v = tt
equal_itself (x ∷ xs) v = (refl, equal_itself xs v)

-- and through others
equal_through : (xs : List ℕ) (u v w : Values) → EqualOn xs u v → EqualOn xs v w → EqualOn xs u w
equal_through [] u v w p q = tt
equal_through (x ∷ xs) u v w p q = (p.0 ∙ q.0, equal_through xs u v w p.1 q.1)

-- what does not divide, or is the use itself
undivided : (d u : Bool) → (d && not u) ≡ false → u ≡ false → d ≡ false
undivided true u h off = absurd (cc)
undivided false u h off = refl

module _ (graph : GraphShape) (e : Expr) where
  abbrev code : Code
  code = graph_code graph.shared graph.received graph.nodes

  abbrev frame : ℕ → List ℤ → Values → Frame
  frame n arguments values = record { place = n; arguments = arguments; values = values }

  -- a node that does not hinder does not kill, and cannot be observed; and divides only where it is the use
  pub free_parts : (node : Node) → node_hinders graph e (Some node) ≡ false → (node_kills graph e (Some node) ≡ false) × (is_observable node ≡ false) × ((is_division node && not (node_uses e (Some node))) ≡ false)
  free_parts node free =
      let outer = or_parts (node_kills graph e (Some node)) _ free in
      let inner = or_parts (is_observable node) _ outer.1 in
      (outer.0, inner.0, inner.1)

  -- an assignment leaves what it does not assign
  leaves : (x : ℕ) (c : ℤ) (v : Values) (node : Node) (xs : List ℕ) → ((y : ℕ) → assigns graph y node ≡ nat_eq y x) → NoneAssigned graph node xs → EqualOn xs (with_value x c v) v
  leaves x c v node [] is none = tt
  leaves x c v node (y ∷ xs) is none = (ap (λ b. (if b then c else v y)) (sym (is y) ∙ none.0), leaves x c v node xs is none.1)

  -- at the use
  at_once : (n : ℕ) (arguments : List ℤ) (v : Values) → uses graph e n ≡ true → RunComesTo graph e n arguments v
  at_once n arguments v used = record { steps = 0; there = frame n arguments v; counted = 0; silent = (refl, refl); used = used; operands = equal_itself (expr_vars e) v }

  -- one step before
  one_before : (n next count : ℕ) (arguments : List ℤ) (v w : Values) → code (frame n arguments v) ≡ Continues count (frame next arguments w) → EqualOn (expr_vars e) w v → RunComesTo graph e next arguments w → RunComesTo graph e n arguments v
  one_before n next count arguments v w is equal later = record {
    steps = suc later.steps;
    there = later.there;
    counted = count + later.counted;
    silent = (frame next arguments w, count, later.counted, is, later.silent, refl);
    used = later.used;
    operands = equal_through (expr_vars e) later.there.values w v later.operands equal;
  }

  -- from a node that does not hinder, where the runs from its successors come there
  from_node : (n : ℕ) (node : Node) (arguments : List ℤ) (v : Values) → slice_get graph.nodes n ≡ Some node → node_hinders graph e (Some node) ≡ false → ((s : ℕ) → HasEdge graph.nodes n s → (w : Values) → RunComesTo graph e s arguments w) → RunComesTo graph e n arguments v
  from_node n (Start next) arguments v is free later = let kept = (free_parts (Start next) free).0 in absurd (cc)
  from_node n (Skip next) arguments v is free later =
      one_before n next 0 arguments v v (ap (λ o. node_transition graph.shared graph.received o (frame n arguments v)) is) (equal_itself (expr_vars e) v) (later next (0, ap (λ o. slice_get (succs_of o) 0) is) v)
  from_node n (Assign x t next) arguments v is free later = elim (cases_Bool (uses graph e n)) [
    | inl used ↦ at_once n arguments v used
    | inr unused ↦
        let f = frame n arguments v in
        let parts = free_parts (Assign x t next) free in
        let untrapped : rhs_traps v t ≡ false = never_traps_where_undivided v t (undivided (divides t) (node_uses e (Some (Assign x t next))) parts.2 (ap (node_uses e) (sym is) ∙ unused)) in
        let c = rhs_value v t in
        one_before n next (rhs_count t) arguments v (with_value x c v)
        (ap (λ o. node_transition graph.shared graph.received o f) is ∙ assign_is x t next f ∙ ap (λ b. (if b then Traps ZeroDivisor 1 else Continues (rhs_count t) (assigned x c next f))) untrapped)
        (leaves x c v (Assign x t next) (expr_vars e) (λ y. refl) (kills_none graph e (Assign x t next) parts.0)) (later next (0, ap (λ o. slice_get (succs_of o) 0) is) (with_value x c v))
  ]
  from_node n (Print a next) arguments v is free later = let kept = (free_parts (Print a next) free).1 in absurd (cc)
  from_node n (Guard test number next) arguments v is free later = let kept = (free_parts (Guard test number next) free).1 in absurd (cc)
  from_node n (Call into unit operands next) arguments v is free later = let kept = (free_parts (Call into unit operands next) free).1 in absurd (cc)
  from_node n (Test test taken other) arguments v is free later =
      let f = frame n arguments v in
      let steps = ap (λ o. node_transition graph.shared graph.received o f) is in
      elim (cases_Bool (test_holds v test)) [
        | inl holds ↦ one_before n taken 0 arguments v v (steps ∙ ap (λ b. Continues 0 (at (if b then taken else other) f)) holds) (equal_itself (expr_vars e) v) (later taken (0, ap (λ o. slice_get (succs_of o) 0) is) v)
        | inr fails ↦ one_before n other 0 arguments v v (steps ∙ ap (λ b. Continues 0 (at (if b then taken else other) f)) fails) (equal_itself (expr_vars e) v) (later other (1, ap (λ o. slice_get (succs_of o) 1) is) v)
      ]
  from_node n (Return a) arguments v is free later = let kept = (free_parts (Return a) free).1 in absurd (cc)

  -- so step by step
  by_steps : (k n : ℕ) (arguments : List ℤ) (v : Values) → MustBy graph e k n → RunComesTo graph e n arguments v
  by_steps k n arguments v (at_use j m used) = at_once n arguments v used
  by_steps k n arguments v (by_all j m free some all) =
      let found = some_at graph.nodes n (edge_within graph.nodes n some.0 some.1) in
      from_node n found.0 arguments v found.1 (sym (ap (node_hinders graph e) found.1) ∙ free) (λ s edge w. by_steps j s arguments w (all s edge))

  -- the theorem
  pub must_run : AllWithin graph.nodes → (n : ℕ) → n < length graph.nodes → MustComeTo graph e n → RunsComeTo graph e n
  must_run within n lt must arguments v = let by = must_steps graph e within n lt must in by_steps by.0 n arguments v by.1
