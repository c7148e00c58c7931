-- Laws: joined leaves keep a program; the exact leaves; and what the calls of leaves hand over. For proofs only.
use Rattle.std.proofs.Common.{◌≡◌, ℕ, ◌+◌, ◌<◌, ◌≤◌, nat_lt, inl, inr, List, [], ◌∷◌, ◌++◌, length, length-append, slice_get, Option, Some, None, refl, sym, ap, ◌∙◌, subst, arith, le_refl}
use Rattle.std.proofs.lemmas.Bool.{cond-false, cond-true}
use Rattle.std.proofs.lemmas.Bool.Decides.{nat_tests}
use Rattle.std.proofs.lemmas.List.{length_push}
use Rattle.std.proofs.lemmas.Option.{slice_get_within}
use Rattle.mir_base.specs.Limits.{most_insts}
use Rattle.mir_base.specs.BelowLaws.{all_below_more}
use Rattle.mir_base.specs.Shapes.{AllDiffer, BodyFits, IsProgram, ProgramShape, UnitShape, body_or_empty, receives_in}
use Rattle.mir_base.specs.UnitRuns.{UnitCheaper, UnitSame}
use Rattle.flow_graph.specs.declared.nodes.Node.{Node}
use Rattle.flow_graph.specs.declared.nodes.Node.TheVariants.{Call}
use Rattle.flow_graph.specs.Calls.{CallsAmong, NodesCall}
use Rattle.flow_graph.specs.Graphs.{CanMake, GraphShape, node_vars}
use Rattle.flow_graph.specs.Retained.{IsMade}
use Rattle.flow_graph.specs.Keeps.{AsGraph}
use Rattle.flow_graph.specs.KeepsLaws.{keeps_refl}
use Rattle.flow_graph.specs.ListLaws.{get_push, some_at}
use Rattle.flow_graph.specs.Machines.{graph_machine, machine_of}
use Rattle.flow_graph.specs.OneLaws.{lowered_is_one}
use Rattle.jump_clean.specs.CleanLaws.{clean_is_one}
use Rattle.jump_clean.specs.Cleaned.{IsClean}
use Rattle.program_pass.specs.PassPrograms.{AllPassed, CleanedLaid, LoweredClean, KeepsRuns, PassKeeps}
use Rattle.program_pass.specs.PassProgramLaws.{at, between_at, graph_program, graphs, middles, passes_keep}
use Rattle.program_pass.specs.RefitLaws.{called_fits}
use Rattle.unit_join.specs.JoinLaws.{joined_calls, joined_can}
use Rattle.unit_join.specs.JoinPrograms.{AreLeavesMade, EachLeaf, HasLeafCopies, JoinMade, JoinedLaid, LeafMade}
use Rattle.unit_join.specs.JoinStacks.{joins_keep}
use Rattle.unit_join.specs.Joins.{LeavesAreJoined, AreLeafCalls, AreLeaves, AreLeavesOf, IsJoined, IsJoinedIfShort, IsLeafOf, LeavesJoined, JoinedBetween, JoinsLeaves, LeafCallsFit, LeavesCan, LeavesShare, NoLeafCalls, called_leaves, leaf_at, or_none, short_or_left}
use Rattle.program_pass.specs.StoodLaws.{globals_stay, wide_can}

-- ---- entries

-- where unit u has a leaf, its entry is this leaf
entry_at : (leaves : List (Option GraphShape)) (u : ℕ) (leaf : GraphShape) → leaf_at leaves u ≡ Some leaf → slice_get leaves u ≡ Some (Some leaf)
entry_at leaves u leaf is = go (slice_get leaves u) refl is
  where
    go : (o : Option (Option GraphShape)) → slice_get leaves u ≡ o → or_none o ≡ Some leaf → slice_get leaves u ≡ Some (Some leaf)
    go None e f = cc
    go (Some None) e f = cc
    go (Some (Some other)) e f = e ∙ ap Some f

-- a leaf, its unit, and what it keeps of it
record HasLeaf (units : List UnitShape) (leaf : GraphShape) (u : ℕ) : Type 0 where
  unit : UnitShape
  unit_at : slice_get units u ≡ Some unit
  made : LeafMade unit (Some leaf)

-- each leaf has these
has_leaf : (units : List UnitShape) (leaves : List (Option GraphShape)) → AreLeavesMade units leaves
    → (u : ℕ) (leaf : GraphShape) → leaf_at leaves u ≡ Some leaf → HasLeaf units leaf u
has_leaf units leaves are u leaf is =
    let entry = entry_at leaves u leaf is in
    let within = slice_get_within leaves u (Some leaf) entry in
    let unit = some_at units u (omega (arith, within, are.long)) in
    record { unit = unit.0; unit_at = unit.1; made = are.are u unit.0 (Some leaf) unit.1 entry }

-- no leaf calls
pub no_leaf_calls : (units : List UnitShape) (leaves : List (Option GraphShape)) → AreLeavesMade units leaves → NoLeafCalls leaves
no_leaf_calls units leaves are u leaf called count is c =
    let has = has_leaf units leaves are u leaf is in
    has.made.0.no_calls called count (has.made.2.keeps.calls called count c)

-- the globals of a program are those of each leaf
pub leaves_share : (globals : List (List ℕ)) (units : List UnitShape) (leaves : List (Option GraphShape)) (shared : ℕ)
    → IsProgram globals units → shared ≡ length globals → AreLeavesMade units leaves → LeavesShare leaves shared
leaves_share globals units leaves shared program count are u leaf is =
    let has = has_leaf units leaves are u leaf is in
    sym has.made.2.keeps.same.shared ∙ (program.shares u has.unit has.unit_at).count ∙ sym count

-- leaves that are made are the exact leaves of the units
pub leaves_of : (units : List UnitShape) (leaves : List (Option GraphShape)) → AreLeavesMade units leaves → AreLeavesOf units leaves
leaves_of units leaves are = record { long = are.long; are = λ u unit entry at at'. exact unit entry (are.are u unit entry at at') }
  where
    exact : (unit : UnitShape) (entry : Option GraphShape) → LeafMade unit entry → IsLeafOf unit entry
    exact unit None none = none
    exact unit (Some leaf) made = (made.0, made.1, made.2.is_lowered, made.2.is_cleaned)

-- one more entry
pub each_leaf : (units : List UnitShape) (leaves leaves' : List (Option GraphShape)) (number : ℕ) (unit : UnitShape) (entry : Option GraphShape)
    → length leaves ≡ number → EachLeaf units leaves → slice_get units number ≡ Some unit → LeafMade unit entry
    → leaves' ≡ leaves ++ entry ∷ [] → EachLeaf units leaves'
each_leaf units leaves leaves' number unit entry long each unit_at made is u other e at at' = elim (get_push leaves entry e u (sym (ap (λ l. slice_get l u) is) ∙ at')) [
  | inl old ↦ each u other e at old
  | inr last ↦
      let number_is : u ≡ number = last.0 ∙ long in
      let both : Some unit ≡ Some other = sym unit_at ∙ ap (slice_get units) (sym number_is) ∙ at in
      let same : unit ≡ other = cc in
      subst (LeafMade other) last.1 (subst (λ v. LeafMade v entry) same made)
]

-- and their number
pub leaves_more : (leaves leaves' : List (Option GraphShape)) (number : ℕ) (entry : Option GraphShape)
    → length leaves ≡ number → leaves' ≡ leaves ++ entry ∷ [] → length leaves' ≡ number + 1
leaves_more leaves leaves' number entry long is = ap (λ l. length l) is ∙ length_push leaves entry ∙ ap (λ n. n + 1) long

-- the calls of leaves hand over what these receive
pub leaf_calls_fit : (units : List UnitShape) (leaves : List (Option GraphShape)) (unit : UnitShape) (lowered cleaned : GraphShape)
    → AreLeavesMade units leaves → BodyFits units unit.body → LoweredClean unit lowered cleaned
    → LeafCallsFit leaves cleaned.nodes
leaf_calls_fit units leaves unit lowered cleaned are fits front n c =
    let fit = called_fits units unit.body c.unit (length c.operands) fits (front.keeps.calls c.unit (length c.operands) (record { number = n; node = Call c.into c.unit c.operands c.next; here = c.is; calls = refl })) in
    let has = has_leaf units leaves are c.unit c.leaf c.leaf_is in
    fit.1 ∙ ap (λ o. receives_in (body_or_empty o)) has.unit_at ∙ has.made.2.keeps.same.receives

-- ---- the program

module _ (leaves : List (Option GraphShape)) (source target : ProgramShape) (program : IsProgram source.globals source.units) (globals : target.globals ≡ source.globals) (all : AllPassed (LeavesJoined leaves) (JoinedBetween leaves) source.units target.units) (made : AreLeavesMade source.units leaves) where
  abbrev own_graphs : List GraphShape
  own_graphs = graphs (LeavesJoined leaves) (JoinedBetween leaves) source target program globals all

  -- each leaf is the graph of its unit
  leaf_is : (u : ℕ) (leaf : GraphShape) → leaf_at leaves u ≡ Some leaf → slice_get own_graphs u ≡ Some leaf
  leaf_is u leaf is =
      let has = has_leaf source.units leaves made u leaf is in
      let lt = slice_get_within source.units u has.unit has.unit_at in
      let a = at (LeavesJoined leaves) (JoinedBetween leaves) source target program globals all u lt in
      let both : Some has.unit ≡ Some a.source = sym has.unit_at ∙ a.source_at in
      let same : has.unit ≡ a.source = cc in
      let front : LoweredClean a.source has.made.1 leaf = subst (λ v. LoweredClean v has.made.1 leaf) same has.made.2 in
      let lowered = lowered_is_one a.source has.made.1 a.made.lowered front.is_lowered a.made.front.is_lowered in
      let cleaned : leaf ≡ a.made.cleaned = clean_is_one a.made.lowered leaf a.made.cleaned a.made.front.within (subst (λ g. IsClean g leaf) lowered front.is_cleaned) a.made.front.is_cleaned in
      a.graph_at ∙ ap Some (sym cleaned)

  are_leaves : AreLeaves own_graphs leaves
  are_leaves = record {
    is = leaf_is;
    no_calls = λ u leaf is n into unit operands next here. no_leaf_calls source.units leaves made u leaf unit (length operands) is (record { number = n; node = Call into unit operands next; here = here; calls = refl });
  }

  -- the target is the same, evaluates no more operators and is never deeper
  pub join_keeps : KeepsRuns source target
  join_keeps =
      passes_keep (LeavesJoined leaves) (JoinedBetween leaves) source target program globals all
      (joins_keep own_graphs (middles (LeavesJoined leaves) (JoinedBetween leaves) source target program globals all) leaves (graph_program (LeavesJoined leaves) (JoinedBetween leaves) source target program globals all) are_leaves
      (between_at (LeavesJoined leaves) (JoinedBetween leaves) source target program globals all))

-- ---- the graph

module _ (graph : GraphShape) (leaves : List (Option GraphShape)) (calls : List ℕ) (wide : GraphShape) (nodes : List Node) (can : CanMake graph.vars graph.received graph.nodes) (leaves_can : LeavesCan leaves) (least : graph.shared ≤ length graph.vars) (share : LeavesShare leaves graph.shared) (w : HasLeafCopies graph leaves wide) (joined : LeavesAreJoined leaves (called_leaves leaves graph.nodes) graph calls graph.nodes nodes) where
  -- the nodes make a graph
  pub leaves_made_can : CanMake wide.vars wide.received nodes
  leaves_made_can = subst (λ (g : GraphShape). CanMake g.vars g.received nodes) (sym w.is)
      (joined_can leaves graph w.names can leaves_can w.are_names.long least share calls graph.nodes nodes (le_refl (length graph.nodes)) (wide_can graph.vars w.names graph.received graph.nodes can w.differ) joined)

  -- and this graph does the same as they
  pub join_made : (made : GraphShape) → IsMade wide.name wide.shared wide.vars wide.received nodes made
      → UnitSame (graph_machine wide.shared wide.received nodes) (machine_of made)
      → UnitCheaper (graph_machine wide.shared wide.received nodes) (machine_of made)
      → CallsAmong (NodesCall made.nodes) (NodesCall nodes) → JoinMade graph leaves calls made
  join_made made is same cheaper among = record {
    names = w.names;
    are_names = w.are_names;
    nodes = nodes;
    are_joined = joined;
    made = subst (λ (g : GraphShape). IsMade g.name g.shared g.vars g.received nodes made) w.is is;
    same = subst (λ (g : GraphShape). UnitSame (graph_machine g.shared g.received nodes) (machine_of made)) w.is same;
    cheaper = subst (λ (g : GraphShape). UnitCheaper (graph_machine g.shared g.received nodes) (machine_of made)) w.is cheaper;
    node_calls = joined_calls leaves graph w.names can leaves_can w.are_names.long least share calls graph.nodes nodes (le_refl (length graph.nodes)) joined;
    joined_calls = among;
  }

-- the exact graph
pub is_joined : (graph : GraphShape) (leaves : List (Option GraphShape)) (calls : List ℕ) (joined : GraphShape)
    → AreLeafCalls leaves graph.nodes calls → JoinMade graph leaves calls joined → IsJoined graph leaves joined
is_joined graph leaves calls joined are m = record { calls = calls; are_calls = are; names = m.names; are_names = m.are_names; nodes = m.nodes; are_joined = m.are_joined; made = m.made }

-- and what it keeps
pub keeps_joins : (graph : GraphShape) (leaves : List (Option GraphShape)) (calls : List ℕ) (joined : GraphShape)
    → graph.shared ≤ length graph.vars → AreLeafCalls leaves graph.nodes calls → JoinMade graph leaves calls joined
    → PassKeeps (JoinsLeaves leaves) graph joined
keeps_joins graph leaves calls joined least are m = record {
  name = m.made.name_is;
  globals = globals_stay graph.shared graph.vars m.names joined least m.made.shared_is m.made.vars_are;
  middle = record { name = graph.name; shared = graph.shared; vars = graph.vars ++ m.names; received = graph.received; nodes = m.nodes };
  between = record { calls = calls; are_calls = record { ordered = are.ordered; are = are.are }; units = called_leaves leaves graph.nodes; are_joined = m.are_joined; shared = refl; received = refl };
  shared = refl;
  received = refl;
  same = m.same;
  cheaper = m.cheaper;
  middle_calls = m.node_calls;
  calls = m.joined_calls;
}

-- a graph with no leaf joined keeps itself
graph_stays : (leaves : List (Option GraphShape)) (graph : GraphShape) → PassKeeps (JoinsLeaves leaves) graph graph
graph_stays leaves graph =
    let itself = keeps_refl (AsGraph graph) in
    record {
      name = refl;
      globals = refl;
      middle = graph;
      between = record { calls = []; are_calls = record { ordered = λ i j m n lt at at'. cc; are = λ n is. absurd is }; units = []; are_joined = refl; shared = refl; received = refl };
      shared = refl;
      received = refl;
      same = itself.same;
      cheaper = itself.cheaper;
      middle_calls = λ called count c. c;
      calls = λ called count c. c;
    }

-- ---- the unit

module _ (leaves : List (Option GraphShape)) (graph joined : GraphShape) (unit : UnitShape) (joins : IsJoined graph leaves joined) (laid : CleanedLaid joined unit) where
  -- by the length of the joined unit
  if_short : (result : GraphShape) → result ≡ short_or_left unit joined graph → IsJoinedIfShort graph leaves result
  if_short result is = record {
    joined = joined;
    joins = joins;
    unit = unit;
    laid = record { within = laid.within; swept = laid.swept; is_swept = laid.is_swept; is_laid = laid.is_laid };
    is = is;
  }

  -- where it is short it is taken
  pub short_taken : PassKeeps (JoinsLeaves leaves) graph joined → length unit.body ≤ most_insts → JoinedLaid leaves graph unit
  short_taken keeps short = record {
    passed = joined;
    is = if_short joined (sym (cond-false (nat_lt most_insts (length unit.body)) graph joined (grind (arith, nat_tests))));
    keeps = keeps;
    laid = laid;
  }

  -- else the graph is left as it is
  pub long_left : (left : UnitShape) → most_insts < length unit.body → CleanedLaid graph left → JoinedLaid leaves graph left
  long_left left long stays = record {
    passed = graph;
    is = if_short graph (sym (cond-true (nat_lt most_insts (length unit.body)) graph joined (grind (arith, nat_tests))));
    keeps = graph_stays leaves graph;
    laid = stays;
  }
