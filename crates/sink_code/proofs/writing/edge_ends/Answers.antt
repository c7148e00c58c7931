use Rattle.std.proofs.Common.{◌+◌, ◌-◌, ℕ, List, drop, length, ap, arith}
use Rattle.std.proofs.lemmas.Option.{slice_get-get_or}
use Rattle.mir_base.specs.declared.instructions.Operand.TheVariants.{Var}
use Rattle.mir_base.specs.declared.instructions.Rhs.TheVariants.{Plain}
use Rattle.sink_code.specs.declared.inserting.PutBefore.{PutBefore}
use Rattle.sink_code.specs.Written.{numbers_below}
use Rattle.sink_code.proofs.Linked.{entered_length, numbers_length}
use Rattle.sink_code.proofs.writing.edge_ends.Goals as goal

pub index_mut-requires : goal.index_mut-requires
index_mut-requires c =
    let puts = c.args.puts.now in
    let left = length puts - c.loop-back.back in
    let none : PutBefore = record { node = 0; var = 0; rhs = Plain (Var 0) } in
    let below = c.requires.puts (length puts - 1 - c.loop-back.back) _ (slice_get-get_or puts (length puts - 1 - c.loop-back.back) none (omega (arith, c.loop-back-test.true))) in
    omega (arith, below, ap (λ (l : List ℕ). length l) c.loop-back.invariant, entered_length (numbers_below c.args.olds) (c.args.olds + left) (drop left puts), numbers_length c.args.olds)
