-- Where less is known outside, less is known in the unit.
use Rattle.std.proofs.Common.{◌≡◌, ℕ, zero, suc, ◌+◌, Bool, true, false, if◌then◌else◌, List, [], ◌∷◌, ◌++◌, length, map, replicate, slice_get, slice_index_or, Option, Some, None, refl, sym, ◌∙◌, subst}
use Rattle.fix_solve.specs.Pointwise.{Pointwise, pointwise_refl}
use Rattle.mir_base.specs.Frames.{shared_vars}
use Rattle.mir_base.specs.declared.instructions.Operand.{Operand}
use Rattle.mir_base.specs.declared.instructions.Rhs.TheVariants.{Plain}
use Rattle.flow_graph.specs.declared.nodes.Node.{Node}
use Rattle.flow_graph.specs.declared.nodes.Node.TheVariants.{Start, Skip, Assign, Print, Guard, Call, Test, Return}
use Rattle.flow_graph.specs.Graphs.{GraphShape}
use Rattle.bounds.specs.declared.facts.Fact.{Fact}
use Rattle.bounds.specs.declared.facts.Fact.TheVariants.{Never}
use Rattle.bounds.specs.BoundRules.{bound_rules}
use Rattle.bounds.specs.BoundRuleLaws.{bound_laws}
use Rattle.bounds.specs.Facts.{BelowFact}
use Rattle.cond_flow.specs.Handing.{handed}
use Rattle.cond_flow.specs.Passing.{after_call, back_at, first_known, known_after, passed_along, passes}
use Rattle.cond_flow.specs.PassingLaws.{below_at, below_set, length_first, set_rises}
use Rattle.cond_flow.specs.Rules.{known_at}
use Rattle.cond_flow.specs.Solutions.{AreStates}
use Rattle.cond_flow.specs.StateLaws.{below_trans}
use Rattle.cond_flow.specs.States.{BelowState, NodeState, Unreached, Knows}
use Rattle.program_bounds.specs.Facts.{AreSurer, ProgramFacts, facts_in, row_at, rules_at}

-- "never" is below all
pub never_below : (ys : List Fact) → Pointwise BelowFact (replicate (length ys) Never) ys
never_below [] = tt
never_below (y ∷ ys) = (tt, never_below ys)

-- the facts of states in order
facts_below : (s t : NodeState Fact) → BelowState BelowFact s t → Pointwise BelowFact (facts_in s) (facts_in t)
facts_below (Unreached n) (Unreached m) p = subst (λ k. Pointwise BelowFact (replicate n Never) (replicate k Never)) p (pointwise_refl BelowFact bound_laws.order.reflexive (replicate n Never))
facts_below (Unreached n) (Knows ys) p = subst (λ k. Pointwise BelowFact (replicate k Never) ys) (sym p) (never_below ys)
facts_below (Knows xs) (Unreached m) p = absurd p
facts_below (Knows xs) (Knows ys) p = p

-- what is known of what a unit hands back
back_facts : (rows : List (NodeState Fact)) (v : ℕ) → slice_index_or (map facts_in rows) v [] ≡ facts_in (row_at rows v)
back_facts [] v = refl
back_facts (row ∷ rows) zero = refl
back_facts (row ∷ rows) (suc v) = back_facts rows v

-- what is known of globals and operands
pub handed_below : (shared : ℕ) (operands : List Operand) (xs ys : List Fact) → Pointwise BelowFact xs ys → Pointwise BelowFact (handed bound_rules shared operands xs) (handed bound_rules shared operands ys)
handed_below shared operands xs ys p = globals (shared_vars shared)
  where
    of_operands : (all : List Operand) → Pointwise BelowFact (map (λ a. bound_rules.of_rhs xs (Plain a)) all) (map (λ a. bound_rules.of_rhs ys (Plain a)) all)
    of_operands [] = tt
    of_operands (a ∷ all) = (bound_laws.rising.right_side (Plain a) xs ys p, of_operands all)

    globals : (vs : List ℕ) → Pointwise BelowFact (map (known_at bound_rules xs) vs ++ map (λ a. bound_rules.of_rhs xs (Plain a)) operands) (map (known_at bound_rules ys) vs ++ map (λ a. bound_rules.of_rhs ys (Plain a)) operands)
    globals [] = of_operands operands
    globals (v ∷ vs) = (below_at bound_laws.order bound_laws.rising xs ys v p, globals vs)

-- around the unit u, which has this graph, less is known: where it is entered, and of what the units that it calls hand back
pub record LessAround (known others : ProgramFacts) (graph : GraphShape) (u : ℕ) : Type 0 where
  pub entry : BelowState BelowFact (row_at known.entries u) (row_at others.entries u)
  pub backs : (n : ℕ) (into : Option ℕ) (v : ℕ) (operands : List Operand) (next : ℕ) → slice_get graph.nodes n ≡ Some (Call into v operands next) → BelowState BelowFact (row_at known.backs v) (row_at others.backs v)

-- so it is where less is known everywhere
pub less_around : (known others : ProgramFacts) (graph : GraphShape) (u : ℕ) → AreSurer known others → LessAround known others graph u
less_around known others graph u surer = record { entry = surer.entries u; backs = λ n into v operands next here. surer.backs v }

module _ (known others : ProgramFacts) (graph : GraphShape) (u : ℕ) (less : LessAround known others graph u) where
  -- what is known where the unit is entered
  entry_less : (i : ℕ) → BelowFact (known_at bound_rules (facts_in (row_at known.entries u)) i) (known_at bound_rules (facts_in (row_at others.entries u)) i)
  entry_less i = below_at bound_laws.order bound_laws.rising _ _ i (facts_below (row_at known.entries u) (row_at others.entries u) less.entry)

  -- and where its calls return
  back_less : (v : ℕ) → BelowState BelowFact (row_at known.backs v) (row_at others.backs v) → (i : ℕ) → BelowFact (known_at bound_rules (back_at (rules_at known u) v) i) (known_at bound_rules (back_at (rules_at others u) v) i)
  back_less v below i =
      subst (λ l. BelowFact (known_at bound_rules l i) (known_at bound_rules (back_at (rules_at others u) v) i)) (sym (back_facts known.backs v))
      (subst (λ l. BelowFact (known_at bound_rules (facts_in (row_at known.backs v)) i) (known_at bound_rules l i)) (sym (back_facts others.backs v))
      (below_at bound_laws.order bound_laws.rising _ _ i (facts_below (row_at known.backs v) (row_at others.backs v) below)))

  itself : (ks : List Fact) → Pointwise BelowFact ks ks
  itself = pointwise_refl BelowFact bound_laws.order.reflexive

  first_less : (shared size : ℕ) → Pointwise BelowFact (first_known (rules_at known u) shared size) (first_known (rules_at others u) shared size)
  first_less shared size = set_rises bound_laws.order bound_laws.rising _ _ entry_less 0 (shared_vars shared) _ _ (itself _)

  called_less : (shared : ℕ) (into : Option ℕ) (v : ℕ) (ks : List Fact) → BelowState BelowFact (row_at known.backs v) (row_at others.backs v) → Pointwise BelowFact (after_call (rules_at known u) shared into v ks) (after_call (rules_at others u) shared into v ks)
  called_less shared None v ks below = set_rises bound_laws.order bound_laws.rising _ _ (back_less v below) 0 (shared_vars shared) ks ks (itself ks)
  called_less shared (Some x) v ks below = below_set bound_laws.order bound_laws.rising _ _ x _ _ (set_rises bound_laws.order bound_laws.rising _ _ (back_less v below) 0 (shared_vars shared) ks ks (itself ks)) (back_less v below shared)

  after_less : (n : ℕ) (received : List ℕ) (node : Node) (slot : ℕ) (ks : List Fact) → slice_get graph.nodes n ≡ Some node → Pointwise BelowFact (known_after (rules_at known u) graph.shared received node slot ks) (known_after (rules_at others u) graph.shared received node slot ks)
  after_less n received (Start next) slot ks here = set_rises bound_laws.order bound_laws.rising _ _ (λ i. entry_less (graph.shared + i)) 0 received _ _ (itself _)
  after_less n received (Skip next) slot ks here = itself ks
  after_less n received (Assign x rhs next) slot ks here = itself _
  after_less n received (Print a next) slot ks here = itself ks
  after_less n received (Guard test number next) slot ks here = itself ks
  after_less n received (Call into unit operands next) slot ks here = called_less graph.shared into unit ks (less.backs n into unit operands next here)
  after_less n received (Test test taken other) slot ks here = itself _
  after_less n received (Return a) slot ks here = itself ks

  passes_same : (node : Node) (slot : ℕ) (ks : List Fact) → passes (rules_at others u) node slot ks ≡ passes (rules_at known u) node slot ks
  passes_same (Start next) slot ks = refl
  passes_same (Skip next) slot ks = refl
  passes_same (Assign x rhs next) slot ks = refl
  passes_same (Print a next) slot ks = refl
  passes_same (Guard test number next) slot ks = refl
  passes_same (Call into unit operands next) slot ks = refl
  passes_same (Test test taken other) slot ks = refl
  passes_same (Return a) slot ks = refl

  along_less : (n : ℕ) (received : List ℕ) (node : Node) (slot : ℕ) (s : NodeState Fact) → slice_get graph.nodes n ≡ Some node → BelowState BelowFact (passed_along (rules_at known u) graph.shared received node slot s) (passed_along (rules_at others u) graph.shared received node slot s)
  along_less n received node slot (Unreached k) here = refl
  along_less n received node slot (Knows ks) here =
      subst (λ b. BelowState BelowFact (passed_along (rules_at known u) graph.shared received node slot (Knows ks)) (if b then Knows (known_after (rules_at others u) graph.shared received node slot ks) else Unreached (length ks))) (sym (passes_same node slot ks)) (by (passes (rules_at known u) node slot ks))
    where
      by : (b : Bool) → BelowState BelowFact (if b then Knows (known_after (rules_at known u) graph.shared received node slot ks) else Unreached (length ks)) (if b then Knows (known_after (rules_at others u) graph.shared received node slot ks) else Unreached (length ks))
      by true = after_less n received node slot ks here
      by false = refl

  -- states by the others are states by these facts
  pub states_less : (states : ℕ → NodeState Fact)
      → AreStates BelowFact (passed_along (rules_at others u) graph.shared graph.received) (first_known (rules_at others u) graph.shared (length graph.vars)) graph.nodes states
      → AreStates BelowFact (passed_along (rules_at known u) graph.shared graph.received) (first_known (rules_at known u) graph.shared (length graph.vars)) graph.nodes states
  states_less states are = record {
    sizes = λ n lt. are.sizes n lt ∙ length_first (rules_at others u) graph.shared (length graph.vars) ∙ sym (length_first (rules_at known u) graph.shared (length graph.vars));
    start = below_trans bound_laws.order (Knows (first_known (rules_at known u) graph.shared (length graph.vars))) (Knows (first_known (rules_at others u) graph.shared (length graph.vars))) (states 0) (first_less graph.shared (length graph.vars)) are.start;
    edges = λ n slot s node here edge. below_trans bound_laws.order (passed_along (rules_at known u) graph.shared graph.received node slot (states n)) (passed_along (rules_at others u) graph.shared graph.received node slot (states n)) (states s) (along_less n graph.received node slot (states n) here) (are.edges n slot s node here edge);
  }
