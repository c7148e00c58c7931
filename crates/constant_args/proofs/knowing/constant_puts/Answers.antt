use Rattle.std.proofs.Common.{◌++◌, ◌∙◌, map, ap, slice_index_or}
use Rattle.std.proofs.lemmas.Option.{slice_get-get_or}
use Rattle.program_pass.specs.Puts.{insertions}
use Rattle.constant_args.specs.ConstantArguments.{constant_put, constant_puts}
use Rattle.constant_args.specs.Gathered.{constant_in}
use Rattle.constant_args.proofs.Steps.{puts_more}
use Rattle.constant_args.proofs.knowing.constant_puts.Goals as goal

pub loop-i-preserved : goal.loop-i-preserved
loop-i-preserved c =
    let received = c.args.received.now in
    let constants = map constant_in c.args.arguments.now in
    let i = c.loop-i.i in
    let x = slice_index_or received i 0 in
    puts_more received constants i x (insertions c.loop-i.puts.items) (insertions c.push_put.new.puts.items) (constant_puts received constants)
    (slice_get-get_or received i 0 c.loop-i-test.true)
    (c.in_ok-push_put.ensures ∙ ap (λ k. insertions c.loop-i.puts.items ++ constant_put x k) c.constant_at.ensures)
    c.loop-i.invariant
