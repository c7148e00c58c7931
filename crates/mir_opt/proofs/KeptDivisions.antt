-- From the instructions of the source to those of the target, by way of the graphs between.
use Rattle.std.proofs.Common.{◌≡◌, ℕ, zero, suc, ◌<◌, List, [], ◌∷◌, ◌++◌, length, slice_get, inl, inr, ap, ◌∙◌, arith, append-nil}
use Rattle.std.proofs.lemmas.Bool.{cases_lt}
use Rattle.mir_base.specs.declared.instructions.Operand.{Operand}
use Rattle.mir_base.specs.declared.operators.Op.{Op}
use Rattle.mir_base.specs.Shapes.{UnitShape, AllBelow, operand_vars}
use Rattle.flow_graph.specs.declared.nodes.Node.{Node}
use Rattle.flow_graph.specs.Dividing.{DividesAt, DividesOf}
use Rattle.flow_graph.specs.DividingUnits.{DivisionsLaid, DivisionsLowered, KeepNames}
use Rattle.flow_graph.specs.Graphs.{GraphShape}
use Rattle.flow_graph.specs.ListLaws.{get_left}
use Rattle.flow_graph.specs.Numbering.{renamed_operand}
use Rattle.flow_graph.specs.Passes.{GraphDividesUnchanged}
use Rattle.sink_rounds.specs.RoundGraphs.{AreRounds, AreRoundsFrom, IsRound, last_round}
use Rattle.cond_const.specs.Folding.{resolved}
use Rattle.cond_const.specs.States.{is_reached}
use Rattle.mir_opt.specs.declared.trails.MoveUnit.{MoveUnit}
use Rattle.mir_opt.specs.declared.trails.UnitTrail.{UnitTrail}
use Rattle.mir_opt.specs.Divisions.{DivisionsKept, DivisionsStay, DivisionsUnchanged, IsDivision, MayDivideByZero}
use Rattle.mir_opt.specs.Links.{LinksMove, LinksUnit}

-- ---- variables

-- the variables of one graph or unit, with more behind them
abbrev GrowTo : List (List ℕ) → List (List ℕ) → Type 0
GrowTo vars more = (names : List (List ℕ)) × (more ≡ vars ++ names)

-- a round has the variables of its graph
round_vars : (graph round : GraphShape) → IsRound graph round → round.vars ≡ graph.vars
round_vars graph round r = ap (λ (g : GraphShape). g.vars) r.is_pruned.is ∙ ap (λ (g : GraphShape). g.vars) r.is_sunk.is ∙ append-nil graph.vars

-- and so has the last of one round and more
rounds_from_vars : (more : ℕ) (graph next : GraphShape) (rest : List GraphShape) → AreRoundsFrom more graph next rest → (last_round next rest).vars ≡ graph.vars
rounds_from_vars more graph next [] are = round_vars graph next are.0
rounds_from_vars zero graph next (later ∷ rest) are = absurd are
rounds_from_vars (suc more) graph next (later ∷ rest) are = rounds_from_vars more next later rest are.1.1 ∙ round_vars graph next are.0

-- so it is of the rounds of a graph
rounds_vars : (graph : GraphShape) (rounds : List GraphShape) → AreRounds graph rounds → (last_round graph rounds).vars ≡ graph.vars
rounds_vars graph [] are = absurd are
rounds_vars graph (next ∷ rest) are = rounds_from_vars 15 graph next rest are

-- the last graph of a unit has its variables, and the temporaries behind them
unit_vars : (source : UnitShape) (unit : UnitTrail) → LinksUnit source unit → GrowTo source.vars unit.swept.vars
unit_vars source unit l =
    let before = l.motion.splits.vars_are ∙ l.front.copies.vars_are ∙ l.front.numbers.vars_are ∙ l.front.folds.made.vars_are ∙ l.start.cleans.made.vars_are ∙ l.start.lowers.made.vars_are in (
      l.motion.flattened.names,
      l.back.sweeps.made.vars_are ∙ rounds_vars unit.recopied unit.rounds.graphs l.back.sinks ∙ l.back.copies.vars_are ∙ l.motion.flattened.vars_are ∙ ap (λ vars. vars ++ l.motion.flattened.names) before,
    )

-- so has that of code motion alone
move_vars : (source : UnitShape) (unit : MoveUnit) → LinksMove source unit → GrowTo source.vars unit.swept.vars
move_vars source unit l =
    let before = l.motion.splits.vars_are ∙ l.start.cleans.made.vars_are ∙ l.start.lowers.made.vars_are in
    (l.motion.flattened.names, l.sweeps.made.vars_are ∙ l.motion.flattened.vars_are ∙ ap (λ vars. vars ++ l.motion.flattened.names) before)

-- variables of the first have the same names among more
names_of_first : (to : ℕ → ℕ) (vars more new : List (List ℕ)) → GrowTo vars more → (xs : List ℕ) → AllBelow (length vars) xs → KeepNames to more new xs → KeepNames to vars new xs
names_of_first to vars more new grow [] within names = tt
names_of_first to vars more new grow (x ∷ xs) within names = (
  names.0 ∙ ap (λ l. slice_get l x) grow.1 ∙ get_left vars grow.0 x within.0,
  names_of_first to vars more new grow xs within.1 names.1,
)

-- ---- one unit

-- a function that keeps the order of two numbers gives them one value only where they are one
apart_by_order : (f : ℕ → ℕ) (p q : ℕ) → (p < q → f p < f q) → (q < p → f q < f p) → f p ≡ f q → p ≡ q
apart_by_order f p q up down same = elim (cases_lt p q) [
  | inl lt ↦ absurd (let less = up lt in omega (arith, less, same))
  | inr ge ↦ elim (cases_lt q p) [
    | inl lt ↦ absurd (let less = down lt in omega (arith, less, same))
    | inr le ↦ omega (arith, ge, le)
  ]
]

-- the division as a node that divides by this operator
abbrev at_op : {nodes : List Node} (n x : ℕ) (op : Op) (left right : Operand) → DividesOf nodes n x op left right → DividesAt nodes n x op
at_op n x op left right of = record { left = left; right = right; of = of }

-- where the graphs between leave divisions unchanged, the instructions are unchanged
pub divisions_unchanged : (source target : UnitShape) (lowered swept : GraphShape) → DivisionsLowered source lowered → GraphDividesUnchanged lowered swept → DivisionsLaid swept target → GrowTo source.vars swept.vars → DivisionsUnchanged source target
divisions_unchanged source target lowered swept lowers keeps lays grow = record {
  place = λ p. lays.place (keeps.place (lowers.node p));
  to = lays.to;
  stays = λ p x op left right is.
      let as_laid = lays.stays (keeps.place (lowers.node p)) x op left right (swept_of p x op left right is) in
      record { is = as_laid.is; names = names_of_first lays.to source.vars swept.vars target.vars grow (x ∷ operand_vars left ++ operand_vars right) (lowers.below p x op left right is.divides) as_laid.names };
  apart = λ p q x y op other a b c d is is' same.
      let placed = lays.apart (keeps.place (lowers.node p)) (keeps.place (lowers.node q)) x y op other (at_op (keeps.place (lowers.node p)) x op a b (swept_of p x op a b is)) (at_op (keeps.place (lowers.node q)) y other c d (swept_of q y other c d is')) same in
      apart_by_order (λ n. keeps.place (lowers.node n)) p q (in_order p q x y op other a b c d is is') (in_order q p y x other op c d a b is' is) placed;
}
  where
    lowered_of : (p x : ℕ) (op : Op) (left right : Operand) → IsDivision source.body p x op left right → DividesOf lowered.nodes (lowers.node p) x op left right
    lowered_of p x op left right is = lowers.stays p x op left right is.reached is.divides

    swept_of : (p x : ℕ) (op : Op) (left right : Operand) → IsDivision source.body p x op left right → DividesOf swept.nodes (keeps.place (lowers.node p)) x op left right
    swept_of p x op left right is = keeps.stays (lowers.node p) x op left right (lowered_of p x op left right is)

    in_order : (p q x y : ℕ) (op other : Op) (a b c d : Operand) → IsDivision source.body p x op a b → IsDivision source.body q y other c d → p < q → keeps.place (lowers.node p) < keeps.place (lowers.node q)
    in_order p q x y op other a b c d is is' lt =
        keeps.in_order (lowers.node p) (lowers.node q) x y op other (at_op (lowers.node p) x op a b (lowered_of p x op a b is)) (at_op (lowers.node q) y other c d (lowered_of q y other c d is')) (lowers.in_order p q x op a b is.reached is.divides lt)

-- so it is by code motion alone
pub move_divisions : (source target : UnitShape) (unit : MoveUnit) → LinksMove source unit → DivisionsLowered source unit.lowered → GraphDividesUnchanged unit.lowered unit.swept → DivisionsLaid unit.swept target → DivisionsUnchanged source target
move_divisions source target unit linked lowers keeps lays = divisions_unchanged source target unit.lowered unit.swept lowers keeps lays (move_vars source unit linked)

-- and after all passes each stays whose divisor may be 0
module _ (source target : UnitShape) (unit : UnitTrail) (linked : LinksUnit source unit) (lowers : DivisionsLowered source unit.lowered) (stay : DivisionsStay unit) (lays : DivisionsLaid unit.swept target) where
  abbrev node : ℕ → ℕ
  node p = stay.cleans.place (lowers.node p)

  abbrev last : ℕ → ℕ
  last p = stay.keeps.place (stay.folds.place (node p))

  lowered_at : (p x : ℕ) (op : Op) (left right : Operand) → IsDivision source.body p x op left right → DividesOf unit.lowered.nodes (lowers.node p) x op left right
  lowered_at p x op left right is = lowers.stays p x op left right is.reached is.divides

  cleaned_at : (p x : ℕ) (op : Op) (left right : Operand) → IsDivision source.body p x op left right → DividesOf unit.cleaned.nodes (node p) x op left right
  cleaned_at p x op left right is = stay.cleans.stays (lowers.node p) x op left right (lowered_at p x op left right is)

  folded_at : (p x : ℕ) (op : Op) (left right : Operand) → IsDivision source.body p x op left right → MayDivideByZero stay.folds.states (node p) right → DividesAt unit.folded.nodes (stay.folds.place (node p)) x op
  folded_at p x op left right is may =
      at_op (stay.folds.place (node p)) x op (resolved may.known left) (resolved may.known right) (stay.folds.operator (node p) x op left right may.known (cleaned_at p x op left right is) may.knows may.may)

  swept_at : (p x : ℕ) (op : Op) (left right : Operand) → IsDivision source.body p x op left right → MayDivideByZero stay.folds.states (node p) right → DividesAt unit.swept.nodes (last p) x op
  swept_at p x op left right is may = stay.keeps.stays (stay.folds.place (node p)) x op (folded_at p x op left right is may)

  last_in_order : (p q x y : ℕ) (op other : Op) (a b c d : Operand) → IsDivision source.body p x op a b → IsDivision source.body q y other c d
      → MayDivideByZero stay.folds.states (node p) b → MayDivideByZero stay.folds.states (node q) d → p < q → last p < last q
  last_in_order p q x y op other a b c d is is' may may' lt =
      let lower = lowers.in_order p q x op a b is.reached is.divides lt in
      let clean = stay.cleans.in_order (lowers.node p) (lowers.node q) x y op other (at_op (lowers.node p) x op a b (lowered_at p x op a b is)) (at_op (lowers.node q) y other c d (lowered_at q y other c d is')) lower in
      let fold = stay.folds.in_order (node p) (node q) x y op other (at_op (node p) x op a b (cleaned_at p x op a b is)) (at_op (node q) y other c d (cleaned_at q y other c d is')) (ap is_reached may.knows) clean in
      stay.keeps.in_order (stay.folds.place (node p)) (stay.folds.place (node q)) x y op other (folded_at p x op a b is may) (folded_at q y other c d is' may') fold

  pub unit_divisions : DivisionsKept source unit target
  unit_divisions = record {
    node = node;
    at_node = cleaned_at;
    in_order = λ p q x y op other a b c d is is' lt.
        let lower = lowers.in_order p q x op a b is.reached is.divides lt in
        stay.cleans.in_order (lowers.node p) (lowers.node q) x y op other (at_op (lowers.node p) x op a b (lowered_at p x op a b is)) (at_op (lowers.node q) y other c d (lowered_at q y other c d is')) lower;
    states = stay.folds.states;
    least = stay.folds.least;
    place = λ p. lays.place (last p);
    to = lays.to;
    stays = λ p x op left right is may.
        let at = swept_at p x op left right is may in
        let as_laid = lays.stays (last p) x op at.left at.right at.of in
        let named = names_of_first lays.to source.vars unit.swept.vars target.vars (unit_vars source unit linked) (x ∷ []) ((lowers.below p x op left right is.divides).0, tt) (as_laid.names.0, tt) in
        record { left = renamed_operand lays.to at.left; right = renamed_operand lays.to at.right; is = as_laid.is; name = named.0 };
    apart = λ p q x y op other a b c d is is' may may' same.
        let placed = lays.apart (last p) (last q) x y op other (swept_at p x op a b is may) (swept_at q y other c d is' may') same in
        apart_by_order last p q (last_in_order p q x y op other a b c d is is' may may') (last_in_order q p y x other op c d a b is' is may' may) placed;
  }
