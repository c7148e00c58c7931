use Rattle.std.proofs.Common.{ℕ, List, refl, subst}
use Rattle.mir_outside.specs.Transfer.{AppendsPart}
use Rattle.mir_top.specs.Streams.{Gave, stream_of}
use Rattle.mir_table.specs.Promises.{written_in_part, written_whole}
use Rattle.mir_table.proofs.Served.{whole_made}
use Rattle.mir_table.proofs.call.write_text.Goals as goal

pub returns-in-Ok-write_all : goal.returns-in-Ok-write_all
returns-in-Ok-write_all g c =
    let out = stream_of g.K.Sink.written g.K.Sink.faults c.args.out.now c.write_all.new.sink in
    written_whole c.in-Ok.text.items (whole_made c.args.text c.in-Ok.text c.in-Ok.is)
    (subst (λ (bytes : List ℕ). Gave out bytes) c.deref.ensures.value c.in-Ok-write_all.ensures.whole) (refl, refl) refl

pub returns-in-Ok : goal.returns-in-Ok
returns-in-Ok g c =
    let out = stream_of g.K.Sink.written g.K.Sink.faults c.args.out.now c.write_all.new.sink in
    written_in_part c.in-Ok.text.items (whole_made c.args.text c.in-Ok.text c.in-Ok.is)
    (c.in-Err-write_all.ensures.cause.failed, subst (λ (bytes : List ℕ). AppendsPart out.old out.new bytes) c.deref.ensures.value c.in-Err-write_all.ensures.part)
    (record { status_is = c.complain_of_write.ensures.status; told = c.complain_of_write.ensures.told })
