-- The divisions of a unit to which control can come are nodes of its graph.
use Rattle.std.proofs.Common.{◌≡◌, ℕ, zero, suc, ◌+◌, Bool, true, List, [], ◌∷◌, slice_get, length, Some, option_map, ap, ◌∙◌, subst, arith}
use Rattle.std.specs.Prelude.{All}
use Rattle.std.proofs.lemmas.Option.{get_or_from_slice_get, slice_get-map, slice_get_within}
use Rattle.mir_base.specs.declared.instructions.Inst.{Inst}
use Rattle.mir_base.specs.declared.instructions.Inst.TheVariants as insts
use Rattle.mir_base.specs.declared.instructions.Operand.{Operand}
use Rattle.mir_base.specs.declared.instructions.Rhs.TheVariants.{Binary}
use Rattle.mir_base.specs.declared.operators.Op.{Op}
use Rattle.mir_base.specs.Shapes.{UnitShape, AllBelow, inst_vars}
use Rattle.flow_graph.specs.declared.nodes.Node.{Node}
use Rattle.flow_graph.specs.declared.nodes.Node.TheVariants.{Assign}
use Rattle.flow_graph.specs.DividingUnits.{DivisionsLowered, InstDivides, IsReachedPlace}
use Rattle.flow_graph.specs.Graphs.{GraphShape}
use Rattle.flow_graph.specs.Retained.{marked, marked_below, redirected}
use Rattle.flow_graph.specs.RetainedLaws.{at_rank, rank_below}
use Rattle.flow_graph.specs.Lowered.{IsLowered, all_nodes, nodes_from, place_node}

-- the node of the instruction at a place
node_at_place : (k place : ℕ) (body : List Inst) (inst : Inst) → slice_get body place ≡ Some inst → slice_get (nodes_from k body) place ≡ Some (place_node (k + place) inst)
node_at_place k place [] inst at = cc
node_at_place k zero (other ∷ body) inst at = let same : other ≡ inst = cc in let here : k ≡ k + 0 = omega arith in ap (λ i. Some (place_node k i)) same ∙ ap (λ n. Some (place_node n inst)) here
node_at_place k (suc place) (other ∷ body) inst at = let next : suc k + place ≡ k + suc place = omega arith in node_at_place (suc k) place body inst at ∙ ap (λ n. Some (place_node n inst)) next

-- each that is reached is kept, and they stay in their order
module _ (unit : UnitShape) (graph : GraphShape) (named : All (λ inst. AllBelow (length unit.vars) (inst_vars inst)) unit.body) (lowered : IsLowered unit graph) where
  abbrev marks : List Bool
  marks = lowered.made.nodes_are.marks

  abbrev raw : List Node
  raw = all_nodes unit.body

  is_at : (place x : ℕ) (op : Op) (left right : Operand) → InstDivides unit.body place x op left right → slice_get raw (suc place) ≡ Some (Assign x (Binary op left right) (suc (suc place)))
  is_at place x op left right division =
      let same : 0 + place ≡ place = omega arith in
      node_at_place 0 place unit.body (insts.Assign x (Binary op left right)) division.is ∙ ap (λ p. Some (place_node p (insts.Assign x (Binary op left right)))) same

  is_marked : (place x : ℕ) (op : Op) (left right : Operand) → IsReachedPlace unit.body place → InstDivides unit.body place x op left right → slice_get marks (suc place) ≡ Some true
  is_marked place x op left right reached division = (lowered.made.nodes_are.are_marks.exact (suc place) (slice_get_within raw (suc place) _ (is_at place x op left right division))).1 reached

  pub divisions_lowered : DivisionsLowered unit graph
  divisions_lowered = record {
    below = λ place x op left right division.
        let inst = insts.Assign x (Binary op left right) in
        subst (λ i. AllBelow (length unit.vars) (inst_vars i)) (get_or_from_slice_get unit.body place inst inst division.is) (named place inst (slice_get_within unit.body place inst division.is));
    node = λ place. marked_below marks (suc place);
    stays = λ place x op left right reached division. record {
      next = marked_below marks (suc (suc place));
      is = ap (λ l. slice_get l (marked_below marks (suc place))) lowered.made.nodes_are.are
          ∙ slice_get-map (redirected (marked_below marks)) (marked marks raw) (marked_below marks (suc place))
          ∙ ap (option_map (redirected (marked_below marks))) (at_rank marks raw (suc place) (is_marked place x op left right reached division) lowered.made.nodes_are.are_marks.long ∙ is_at place x op left right division);
      may_trap = division.may_trap;
    };
    in_order = λ place later x op left right reached division lt. rank_below marks (suc place) (suc later) (is_marked place x op left right reached division) (omega (arith, lt));
  }
