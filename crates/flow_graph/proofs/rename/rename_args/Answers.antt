use Rattle.std.proofs.lemmas.Option.{slice_get-get_or}
use Rattle.mir_base.specs.declared.instructions.Operand.TheVariants.{Var}
use Rattle.mir_base.specs.Shapes.{operand_vars}
use Rattle.mir_base.specs.BelowLaws.{all_below_item}
use Rattle.flow_graph.proofs.rename.rename_args.Goals as goal

pub rename_operand-requires : goal.rename_operand-requires
rename_operand-requires c = all_below_item operand_vars c.args.seen.now.vars c.args.operands.now c.loop-a.a-index _ c.requires (slice_get-get_or c.args.operands.now c.loop-a.a-index (Var 0) c.loop-a-test.true)
