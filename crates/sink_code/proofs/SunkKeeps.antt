-- What follows of the graph in which the assignments have sunk, from the laws of rewritings: `sunk` ensures it.
use Rattle.std.proofs.Common.{◌≡◌, ◌<◌, ℕ, Bool, true, false, nat_eq, not, ◌&&◌, count_by, List, [], ◌∷◌, ◌++◌, length, slice_get, Option, Some, None, refl, sym, ap, ◌∙◌, subst, arith, append-nil}
use Rattle.std.proofs.lemmas.Option.{slice_get_within}
use Rattle.mir_base.specs.declared.instructions.Rhs.{Rhs}
use Rattle.mir_base.specs.declared.instructions.Rhs.TheVariants.{Binary}
use Rattle.mir_base.specs.Expressions.{divides}
use Rattle.mir_base.specs.Shapes.{AllBelow, AllDiffer, rhs_vars}
use Rattle.mir_base.specs.UnitRuns.{UnitSame, UnitCheaper}
use Rattle.flow_graph.specs.declared.nodes.Node.{Node}
use Rattle.flow_graph.specs.declared.nodes.Node.TheVariants.{Start, Skip, Assign, Print, Guard, Call, Test, Return}
use Rattle.flow_graph.specs.Calls.{NodesCall}
use Rattle.sink_code.specs.Credits.{weighs_no_more}
use Rattle.flow_graph.specs.Dividing.{DividesUnchanged}
use Rattle.flow_graph.specs.DividingLaws.{unchanged_in_place}
use Rattle.flow_graph.specs.Edges.{IsSplit}
use Rattle.flow_graph.specs.Graphs.{AllWithin, GraphShape, IsGraph}
use Rattle.graph_edit.specs.InsertionGraphs.{rewritten_calls}
use Rattle.graph_edit.specs.InsertionNodes.{old_get, rewritten_length}
use Rattle.graph_edit.specs.InsertionPaths.{over_weight, path_within, rewritten_alone, rewritten_over, rewritten_under}
use Rattle.graph_edit.specs.InsertionRuns.{counts}
use Rattle.graph_edit.specs.InsertionSplit.{rewritten_split}
use Rattle.graph_edit.specs.Insertions.{Insertion, InsertionsBelow, CanRewrite, ChangeBelow, Rewriting, changed, entry, rewritten_nodes}
use Rattle.flow_graph.specs.Keeps.{AsGraph, Keeps}
use Rattle.flow_graph.specs.KeepsLaws.{same_globals}
use Rattle.flow_graph.specs.Retained.{redirected}
use Rattle.flow_graph.specs.Machines.{graph_machine, machine_of}
use Rattle.graph_edit.specs.Over.{over_path, weigh, weight_at}
use Rattle.flow_graph.specs.Paths.{IsFullPath}
use Rattle.sink_code.specs.Sinking.{put_for, sinking_same, sinking_cheaper}
use Rattle.flow_graph.specs.Sums.{count_sums, one_if, on_same, sum_on}
use Rattle.graph_edit.specs.Accesses.{is_sinkable, is_occurrence, occurs_at, same_rhs}
use Rattle.graph_edit.specs.NoMore.{HasNoMore, HasNoMoreOver}
use Rattle.sink_code.specs.RoundKept.{RoundKeeps}
use Rattle.sink_code.specs.SunkGraphs.{AreInsertions, IsSunk, emptied, sinking}
use Rattle.sink_code.proofs.Credit.{credit, delayed_below, is_credit}
use Rattle.sink_code.specs.DelayLaws.{insertions_sink, none_at_start}
use Rattle.sink_code.specs.OrderedLaws.{EachPut, each_put, put_first}
use Rattle.std.proofs.Math.Bool.{and-true}

-- the weight that counts the nodes x <- t
abbrev pub one_at : ℕ → Rhs → ℕ → Rhs → ℕ
one_at x t y u = one_if (nat_eq x y && same_rhs t u)

-- a node weighs 1 where x <- t occurs, and else nothing
weighs_one : (x : ℕ) (t : Rhs) → divides t ≡ false → (o : Option Node) → one_if (is_occurrence x t o) ≡ weigh (one_at x t) o
weighs_one x t sinkable None = refl
weighs_one x t sinkable (Some (Start next)) = refl
weighs_one x t sinkable (Some (Skip next)) = refl
weighs_one x t sinkable (Some (Assign y u next)) = ap (λ b. one_if (nat_eq x y && same_rhs t u && not b)) sinkable ∙ ap one_if (and-true (nat_eq x y && same_rhs t u))
weighs_one x t sinkable (Some (Print a next)) = refl
weighs_one x t sinkable (Some (Guard test number next)) = refl
weighs_one x t sinkable (Some (Call into unit operands next)) = refl
weighs_one x t sinkable (Some (Test test taken other)) = refl
weighs_one x t sinkable (Some (Return a)) = refl

-- so the weight of a path is their number on it
pub count_weighs : (graph : GraphShape) (x : ℕ) (t : Rhs) → divides t ≡ false → (path : List ℕ) → count_by (occurs_at x t graph) path ≡ sum_on (weight_at (one_at x t) graph.nodes) path
count_weighs graph x t sinkable path = count_sums (occurs_at x t graph) path ∙ on_same (λ n. one_if (occurs_at x t graph n)) (weight_at (one_at x t) graph.nodes) path (λ n. weighs_one x t sinkable (slice_get graph.nodes n))

module _ (graph : GraphShape) (is_graph : IsGraph graph.vars graph.received graph.nodes) (split : IsSplit graph.nodes) (late : ℕ → ℕ → Option Rhs) (inserts : ℕ → List Insertion) (are : AreInsertions graph late inserts) where
  -- there are no new variables
  no_more_vars : length (graph.vars ++ []) ≡ length graph.vars
  no_more_vars = ap length (append-nil graph.vars)

  -- what is inserted is over the variables of the graph
  pub inserts_below : (n : ℕ) → n < length graph.nodes → InsertionsBelow (length graph.vars) (inserts n)
  inserts_below n lt = all (inserts n) (each_put (λ x t. (x < length graph.vars) × AllBelow (length graph.vars) (rhs_vars t)) 0 (inserts n) (are.inserts_are n lt).in_order (λ x t put. delayed_below graph is_graph split late inserts are counts n x t lt (((are.inserts_are n lt).exact x t).0 put).0))
    where
      all : (puts : List Insertion) → EachPut (λ x t. (x < length graph.vars) × AllBelow (length graph.vars) (rhs_vars t)) puts → InsertionsBelow (length graph.vars) puts
      all [] each = tt
      all (put ∷ puts) each = (each.0, all puts each.1)

  -- nothing is put before Start
  pub start_free : inserts 0 ≡ []
  start_free = by (inserts 0) refl
    where
      none : (x : ℕ) (t : Rhs) → put_for (inserts 0) x ≡ Some t → ⊥
      none x t put = none_at_start graph is_graph x t (((are.inserts_are 0 (slice_get_within graph.nodes 0 (Start is_graph.can.start.0) is_graph.can.start.1)).exact x t).0 put).0

      by : (puts : List Insertion) → inserts 0 ≡ puts → puts ≡ []
      by [] e = refl
      by (put ∷ puts) e = absurd (none put.var put.rhs (ap (λ l. put_for l put.var) e ∙ put_first put puts))

  -- so the rewriting can be made
  pub inserts_fit : CanRewrite (sinking graph inserts) [] graph
  inserts_fit = record {
    at_start = start_free;
    put = λ n lt. subst (λ k. InsertionsBelow k (inserts n)) (sym no_more_vars) (inserts_below n lt);
    change = λ n lt. emptied_below (is_sinkable (slice_get graph.nodes n));
    names = subst AllDiffer (sym (append-nil graph.vars)) is_graph.can.names;
  }
    where
      emptied_below : (b : Bool) → ChangeBelow (length (graph.vars ++ [])) (emptied b)
      emptied_below true = tt
      emptied_below false = tt

module _ (graph : GraphShape) (is_graph : IsGraph graph.vars graph.received graph.nodes) (split : IsSplit graph.nodes) (result : GraphShape) (sunk : IsSunk graph result) where
  -- the rewriting, and the nodes that it makes
  abbrev way : Rewriting
  way = sinking graph sunk.inserts

  abbrev nodes' : List Node
  nodes' = rewritten_nodes way graph.nodes

  nodes_are : result.nodes ≡ nodes'
  nodes_are = ap (λ (g : GraphShape). g.nodes) sunk.is

  received_are : result.received ≡ graph.received
  received_are = ap (λ (g : GraphShape). g.received) sunk.is

  shared_is : result.shared ≡ graph.shared
  shared_is = ap (λ (g : GraphShape). g.shared) sunk.is

  vars_are : result.vars ≡ graph.vars
  vars_are = ap (λ (g : GraphShape). g.vars) sunk.is ∙ append-nil graph.vars

  machines : graph_machine graph.shared graph.received nodes' ≡ machine_of result
  machines =
      ap (λ l. graph_machine graph.shared l nodes') (sym received_are)
      ∙ ap (λ n. graph_machine n result.received nodes') (sym shared_is)
      ∙ ap (graph_machine result.shared result.received) (sym nodes_are)

  sunk_fits : CanRewrite way [] graph
  sunk_fits = inserts_fit graph is_graph split sunk.delayed sunk.inserts sunk.insertions

  -- ---- what it does

  sunk_same : UnitSame (machine_of graph) (machine_of result)
  sunk_same = subst (UnitSame (machine_of graph)) machines (sinking_same way [] graph sunk.delayed sunk_fits is_graph (insertions_sink graph is_graph split sunk.delayed sunk.inserts sunk.insertions))

  sunk_cheaper : UnitCheaper (machine_of graph) (machine_of result)
  sunk_cheaper = subst (UnitCheaper (machine_of graph)) machines
      (sinking_cheaper way [] graph sunk.delayed sunk_fits is_graph (insertions_sink graph is_graph split sunk.delayed sunk.inserts sunk.insertions)
      (weighs_no_more counts way graph.nodes (credit graph is_graph split sunk.delayed sunk.inserts sunk.insertions counts) (is_credit graph is_graph split sunk.delayed sunk.inserts sunk.insertions counts)))

  sunk_split : IsSplit result.nodes
  sunk_split = subst IsSplit (sym nodes_are) (rewritten_split way graph.nodes (λ m slot s edge. (is_graph.can.succs m slot s edge).1) split)

  sunk_calls : (called count : ℕ) → NodesCall result.nodes called count → NodesCall graph.nodes called count
  sunk_calls called count calls = rewritten_calls way graph.nodes called count (subst (λ l. NodesCall l called count) nodes_are calls)

  sunk_keeps : Keeps (AsGraph graph) (AsGraph result)
  sunk_keeps = record { name = ap (λ (g : GraphShape). g.name) sunk.is; globals = same_globals graph result shared_is vars_are; same = sunk_same; cheaper = sunk_cheaper; calls = sunk_calls }

  -- a node that divides stays, with its operands
  sunk_divides : DividesUnchanged graph.nodes result.nodes
  sunk_divides = subst (DividesUnchanged graph.nodes) (sym nodes_are) (unchanged_in_place graph.nodes nodes' (λ n x op left right next may_trap is. (
    _,
    old_get way graph.nodes n (Assign x (Binary op left right) next) is
        ∙ ap (λ b. Some (redirected (entry sunk.inserts (length graph.nodes)) (changed (emptied b) (Assign x (Binary op left right) next)))) (ap is_sinkable is ∙ ap not may_trap),
  )))

  -- ---- paths

  no_more_over : (path : List ℕ) → IsFullPath graph.nodes path → HasNoMoreOver graph result path
  no_more_over path full = subst (λ l. HasNoMoreOver graph (record result { nodes = l }) path) (sym nodes_are) (record {
    over = over_path sunk.inserts (length graph.nodes) path;
    is_over = rewritten_over way [] graph sunk_fits is_graph path full;
    alone = rewritten_alone way [] graph sunk_fits is_graph path;
    no_more = λ x t sinkable.
        let now = count_weighs (record result { nodes = nodes' }) x t sinkable (over_path sunk.inserts (length graph.nodes) path) in
        let was = count_weighs graph x t sinkable path in
        let sum = over_weight way graph.nodes (one_at x t) path (path_within way graph.nodes path full.is_path) in
        let less = weighs_no_more (one_at x t) way graph.nodes (credit graph is_graph split sunk.delayed sunk.inserts sunk.insertions (one_at x t)) (is_credit graph is_graph split sunk.delayed sunk.inserts sunk.insertions (one_at x t)) path full in
        omega (arith, now, was, sum, less);
  })

  sunk_no_more : HasNoMore graph result
  sunk_no_more = record {
    each_over = no_more_over;
    lies_over = λ over full. rewritten_under way [] graph sunk_fits is_graph over (subst (λ l. IsFullPath l over) nodes_are full);
    no_fewer = omega (arith, rewritten_length way graph.nodes, ap {B = ℕ} length nodes_are);
  }

  -- all of it
  pub sunk_round : AllWithin result.nodes → RoundKeeps graph result
  sunk_round within = record { keeps = sunk_keeps; divides = sunk_divides; no_more = sunk_no_more; is_split = sunk_split; within = within }
