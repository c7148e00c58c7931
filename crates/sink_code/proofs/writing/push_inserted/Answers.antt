use Rattle.std.proofs.Common.{◌+◌, ◌++◌, drop, get_or, List, ap, ◌∙◌}
use Rattle.std.proofs.lemmas.Option.{slice_get-get_or}
use Rattle.flow_graph.specs.declared.nodes.Node.{Node}
use Rattle.mir_base.specs.declared.instructions.Operand.TheVariants.{Var}
use Rattle.mir_base.specs.declared.instructions.Rhs.TheVariants.{Plain}
use Rattle.sink_code.specs.declared.inserting.PutBefore.{PutBefore}
use Rattle.sink_code.specs.Written.{linked}
use Rattle.sink_code.proofs.Linked.{more_linked}
use Rattle.sink_code.proofs.writing.push_inserted.Goals as goal

pub loop-index-preserved : goal.loop-index-preserved
loop-index-preserved c =
    let puts = c.args.puts.now in
    let olds = c.args.olds in
    let i = c.loop-index.index in
    let none : PutBefore = record { node = 0; var = 0; rhs = Plain (Var 0) } in
    ap (λ (l : List Node). l ++ linked (olds + (i + 1)) (drop (i + 1) puts)) c.in_ok-push.ensures.items
    ∙ more_linked puts i olds (get_or puts i none) c.loop-index.written.items _ c.next_or_node-next.result (slice_get-get_or puts i none c.loop-index-test.true) c.next_or_node-next.ensures c.loop-index.invariant
