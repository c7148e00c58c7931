use Rattle.std.proofs.Common.{refl}
use Rattle.mir_top.specs.Streams.{stream_of}
use Rattle.mir_table.specs.declared.kinds.TableKind.TheVariants.{Optimise}
use Rattle.mir_table.proofs.Served.{without_words}
use Rattle.mir_table.proofs.call.optimised_tables.Goals as goal

-- memory ran out before anything was read
pub returns-in-Err : goal.returns-in-Err
returns-in-Err g c =
    without_words Optimise (stream_of g.S.Source.left g.S.Source.faults c.args.source.now c.args.source.now)
    (stream_of g.K.Sink.written g.K.Sink.faults c.args.out.now c.args.out.now)
    (stream_of g.E.Sink.written g.E.Sink.faults c.args.err.now c.complain_of_memory.new.err)
    c.complain_of_memory.result (refl, refl) (refl, refl)
    (record { status_is = c.complain_of_memory.ensures.status; told = c.complain_of_memory.ensures.told })
