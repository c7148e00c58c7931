-- A graph has one result with the same leaves, a program one list of leaves, and so one joined program. For proofs
-- only.
use Rattle.std.proofs.Common.{◌≡◌, ℕ, List, [], ◌∷◌, ◌++◌, length, slice_get, Option, Some, None, refl, sym, ap, ◌∙◌, subst, arith}
use Rattle.mir_base.specs.declared.instructions.Operand.{Operand}
use Rattle.mir_base.specs.Shapes.{ProgramShape, UnitShape}
use Rattle.flow_graph.specs.declared.nodes.Node.{Node}
use Rattle.flow_graph.specs.declared.nodes.Node.TheVariants.{Call}
use Rattle.flow_graph.specs.Graphs.{GraphShape}
use Rattle.flow_graph.specs.Layouts.{IsLayout}
use Rattle.flow_graph.specs.Retained.{IsMade}
use Rattle.flow_graph.specs.ListLaws.{some_at}
use Rattle.flow_graph.specs.OneLaws.{layout_is_one, lowered_is_one, made_is_one}
use Rattle.std.proofs.lemmas.Option.{slice_get_within}
use Rattle.fresh_names.specs.FreshNameLaws.{names_are_one}
use Rattle.jump_clean.specs.Cleaned.{IsClean}
use Rattle.jump_clean.specs.CleanLaws.{clean_is_one}
use Rattle.program_pass.specs.PassPrograms.{AllPassed, IsPassedProgram}
use Rattle.unit_join.specs.JoinPrograms.{AreLeavesMade, IsJoinedProgram, LeafMade}
use Rattle.unit_join.specs.Joins.{AreLeafCalls, AreLeavesOf, IsJoined, IsLaidOut, IsLeafCall, IsLeafOf, JoinedBetween, LeavesAreJoined, LeavesJoined, called_leaves, copies, copy_in, joined_by, leaf_at, nodes_with_leaf, short_or_left}
use Rattle.flow_graph.specs.MemberLaws.{members_same}
use Rattle.program_pass.specs.PassOneLaws.{places_same, program_one}

-- ---- one graph

-- a graph has one list of calls of leaves
leaf_calls_one : (leaves : List (Option GraphShape)) (nodes : List Node) (a b : List ℕ) → AreLeafCalls leaves nodes a → AreLeafCalls leaves nodes b → a ≡ b
leaf_calls_one leaves nodes a b p q = members_same a b p.ordered q.ordered (λ n is. q.all n (p.are n is)) (λ n is. p.all n (q.are n is))

-- what a node calls is one leaf, with one list of arguments
by_one : (leaves : List (Option GraphShape)) (units : List ℕ) (graph : GraphShape) (nodes : List Node) (n : ℕ) (p q : IsLeafCall leaves graph.nodes n)
    → joined_by leaves units graph nodes n p ≡ joined_by leaves units graph nodes n q
by_one leaves units graph nodes n p q = unit_same p.into q.into p.unit q.unit p.operands q.operands p.next q.next p.leaf q.leaf into unit operands next leaf
  where
    both : Some (Call p.into p.unit p.operands p.next) ≡ Some (Call q.into q.unit q.operands q.next)
    both = sym p.is ∙ q.is

    into : p.into ≡ q.into
    into = let e = both in cc

    unit : p.unit ≡ q.unit
    unit = let e = both in cc

    operands : p.operands ≡ q.operands
    operands = let e = both in cc

    next : p.next ≡ q.next
    next = let e = both in cc

    leaf : p.leaf ≡ q.leaf
    leaf = let e : Some p.leaf ≡ Some q.leaf = sym p.leaf_is ∙ ap (leaf_at leaves) unit ∙ q.leaf_is in cc

    nodes_of : Option ℕ → ℕ → List Operand → ℕ → GraphShape → List Node
    nodes_of i u o s l = nodes_with_leaf nodes n (copy_in graph.shared leaves units (length graph.vars) u) l i o s

    unit_same : (i i' : Option ℕ) (u u' : ℕ) (o o' : List Operand) (s s' : ℕ) (l l' : GraphShape) → i ≡ i' → u ≡ u'
        → o ≡ o' → s ≡ s' → l ≡ l' → nodes_of i u o s l ≡ nodes_of i' u' o' s' l'
    unit_same i i' u u' o o' s s' l l' a b c d e =
        ap (λ x. nodes_of x u o s l) a ∙ ap (λ x. nodes_of i' x o s l) b ∙ ap (λ x. nodes_of i' u' x s l) c ∙ ap (λ x. nodes_of i' u' o' x l) d ∙ ap (nodes_of i' u' o' s') e

-- so the calls give way to one list of nodes
leaves_joined_one : (leaves : List (Option GraphShape)) (units : List ℕ) (graph : GraphShape) (calls : List ℕ) (nodes a b : List Node)
    → LeavesAreJoined leaves units graph calls nodes a → LeavesAreJoined leaves units graph calls nodes b → a ≡ b
leaves_joined_one leaves units graph [] nodes a b p q = p ∙ sym q
leaves_joined_one leaves units graph (n ∷ calls) nodes a b p q =
    leaves_joined_one leaves units graph calls (joined_by leaves units graph nodes n q.0) a b
    (subst (λ l. LeavesAreJoined leaves units graph calls l a) (by_one leaves units graph nodes n p.0 q.0) p.1) q.1

-- and a graph has one with its leaves joined
pub graph_joined_one : (leaves : List (Option GraphShape)) (graph a b : GraphShape) → IsJoined graph leaves a → IsJoined graph leaves b → a ≡ b
graph_joined_one leaves graph a b p q =
    let units = called_leaves leaves graph.nodes in
    let calls : p.calls ≡ q.calls = leaf_calls_one leaves graph.nodes p.calls q.calls p.are_calls q.are_calls in
    let names : p.names ≡ q.names = names_are_one graph.vars (copies leaves units) p.names q.names p.are_names q.are_names in
    let nodes : p.nodes ≡ q.nodes = leaves_joined_one leaves units graph p.calls graph.nodes p.nodes q.nodes p.are_joined (subst (λ c. LeavesAreJoined leaves units graph c graph.nodes q.nodes) (sym calls) q.are_joined) in
    made_is_one graph.name graph.shared (graph.vars ++ p.names) graph.received p.nodes a b p.made
    (subst (λ l. IsMade graph.name graph.shared (graph.vars ++ p.names) graph.received l b) (sym nodes) (subst (λ l. IsMade graph.name graph.shared (graph.vars ++ l) graph.received q.nodes b) (sym names) q.made))

-- a graph has one unit
unit_one : (graph : GraphShape) (a b : UnitShape) → IsLaidOut graph a → IsLaidOut graph b → a ≡ b
unit_one graph a b p q =
    let swept : p.swept ≡ q.swept = clean_is_one graph p.swept q.swept p.within p.is_swept q.is_swept in
    layout_is_one p.swept a b p.is_laid (subst (λ g. IsLayout g b) (sym swept) q.is_laid)

-- so a graph has one result
pub joined_one : (leaves : List (Option GraphShape)) (unit : ℕ) (graph a b : GraphShape)
    → LeavesJoined leaves unit graph a → LeavesJoined leaves unit graph b → a ≡ b
joined_one leaves unit graph a b p q =
    let joined : p.joined ≡ q.joined = graph_joined_one leaves graph p.joined q.joined p.joins q.joins in
    let laid : p.unit ≡ q.unit = unit_one p.joined p.unit q.unit p.laid (subst (λ g. IsLaidOut g q.unit) (sym joined) q.laid) in
    p.is ∙ ap (λ (u : UnitShape). short_or_left u p.joined graph) laid ∙ ap (λ (g : GraphShape). short_or_left q.unit g graph) joined ∙ sym q.is

-- ---- one list of leaves

-- the entry that was made of a unit is the only one
entry_one : (unit : UnitShape) (a b : Option GraphShape) → LeafMade unit a → IsLeafOf unit b → a ≡ b
entry_one unit None None p q = refl
entry_one unit None (Some leaf) p q = absurd (p q.0)
entry_one unit (Some leaf) None p q = absurd (q p.0)
entry_one unit (Some leaf) (Some other) p q =
    let lowered : p.1 ≡ q.1 = lowered_is_one unit p.1 q.1 p.2.is_lowered q.2 in
    ap Some (clean_is_one p.1 leaf other p.2.within p.2.is_cleaned (subst (λ g. IsClean g other) (sym lowered) q.3))

-- so is the list of all
leaves_one : (units : List UnitShape) (a b : List (Option GraphShape)) → AreLeavesMade units a → AreLeavesOf units b → a ≡ b
leaves_one units a b p q = places_same a b (p.long ∙ sym q.long) (λ u x y at at'.
    let unit = some_at units u (omega (arith, slice_get_within a u x at, p.long)) in
    entry_one unit.0 x y (p.are u unit.0 x unit.1 at) (q.are u unit.0 y unit.1 at'))

-- ---- one program

-- a joined program that was made is the only one
pub joined_program_one : (leaves : List (Option GraphShape)) (source target other : ProgramShape)
    → target.globals ≡ source.globals → AreLeavesMade source.units leaves
    → AllPassed (LeavesJoined leaves) (JoinedBetween leaves) source.units target.units → IsJoinedProgram source other
    → target ≡ other
joined_program_one leaves source target other globals made passed is =
    let same : leaves ≡ is.leaves = leaves_one source.units leaves is.leaves made is.are_leaves in
    program_one (LeavesJoined leaves) (JoinedBetween leaves) (joined_one leaves) source target other globals passed (subst (λ l. IsPassedProgram (LeavesJoined l) source other) (sym same) is.passed)
