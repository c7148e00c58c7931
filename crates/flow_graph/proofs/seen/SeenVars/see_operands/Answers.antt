use Rattle.std.proofs.Common.{◌∙◌, sym, subst, slice_index_or}
use Rattle.std.proofs.lemmas.Option.{slice_get-get_or}
use Rattle.mir_base.specs.declared.instructions.Operand.TheVariants.{Var}
use Rattle.mir_base.specs.Shapes.{AllBelow, operand_vars}
use Rattle.flow_graph.specs.RenamingLaws.{seen_more}
use Rattle.mir_base.specs.BelowLaws.{all_below_item}
use Rattle.flow_graph.proofs.seen.SeenVars.see_operands.Goals as goal

pub see_operand-requires : goal.see_operand-requires
see_operand-requires c =
    let operands = c.args.operands.now in
    let i = c.loop-a.a-index in
    let here = slice_get-get_or operands i (Var 0) c.loop-a-test.true in
    subst (λ n. AllBelow n (operand_vars (slice_index_or operands i (Var 0)))) (sym c.loop-a.invariant.vars) (all_below_item operand_vars c.args.self.now.vars operands i _ c.requires here)

pub loop-a-preserved : goal.loop-a-preserved
loop-a-preserved c =
    let operands = c.args.operands.now in
    let i = c.loop-a.a-index in
    let here = slice_get-get_or operands i (Var 0) c.loop-a-test.true in
    record {
      vars = c.in_ok-see_operand.ensures.vars ∙ c.loop-a.invariant.vars;
      seen = seen_more operand_vars c.args.self.now.seen c.loop-a.self.seen c.see_operand.new.self.seen operands i _ here c.loop-a.invariant.seen c.in_ok-see_operand.ensures.seen;
    }
