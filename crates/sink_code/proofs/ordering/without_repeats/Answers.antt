use Rattle.std.proofs.Common.{get_or}
use Rattle.std.proofs.lemmas.Option.{slice_get-get_or}
use Rattle.mir_base.specs.declared.instructions.Operand.TheVariants.{Var}
use Rattle.mir_base.specs.declared.instructions.Rhs.TheVariants.{Plain}
use Rattle.sink_code.specs.declared.inserting.PutBefore.{PutBefore}
use Rattle.sink_code.proofs.OnceSorted.{once_all, once_more, once_none}
use Rattle.sink_code.proofs.ordering.without_repeats.Goals as goal

pub loop-put-init : goal.loop-put-init
loop-put-init c = once_none c.args.puts.now c.in_ok-once.once.items c.in_ok-once.ensures.items

pub loop-put-preserved : goal.loop-put-preserved
loop-put-preserved c =
    let puts = c.args.puts.now in
    let i = c.loop-put.put-index in
    let none : PutBefore = record { node = 0; var = 0; rhs = Plain (Var 0) } in
    once_more puts c.loop-put.once.items i (get_or puts i none) (slice_get-get_or puts i none c.loop-put-test.true) c.loop-put.invariant c.requires c.push_new.new.once.items c.in_ok-push_new.ensures

pub returns : goal.returns
returns c = once_all c.args.puts.now c.loop-put.once.items c.loop-put.put-index c.loop-put-test.false c.loop-put.invariant
