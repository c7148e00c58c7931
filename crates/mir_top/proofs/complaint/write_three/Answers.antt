use Rattle.std.proofs.Common.{◌++◌, Result, Ok, Err, OnErr, refl}
use Rattle.std.proofs.lemmas.Result.{on_err_weaker}
use Rattle.mir_outside.specs.SinkLaws.{appends_on, appends_then_part, part_of_first}
use Rattle.mir_top.proofs.complaint.write_three.Goals as goal

-- what holds in any case holds of an error
on_err : {T E : Type 0} (result : Result T E) (P : Type 0) → P → OnErr result P
on_err (Ok value) P p = tt
on_err (Err error) P p = p

pub returns-in_err-write_all-2-clause-part : goal.returns-in_err-write_all-2-clause-part
returns-in_err-write_all-2-clause-part g c =
    let old = g.K.Sink.written c.args.sink.now in
    let mid = g.K.Sink.written c.write_all.new.sink in
    let new = g.K.Sink.written c.write_all-2.new.sink in
    on_err c.from_residual-in_err-write_all-2.result _
    (part_of_first old new (c.args.first.now ++ c.args.second.now) c.args.third.now
    (appends_then_part old mid new c.args.first.now c.args.second.now c.in_ok-write_all.ensures.whole c.in_err-write_all-2.ensures.part))

pub returns-clause-part : goal.returns-clause-part
returns-clause-part g c =
    let old = g.K.Sink.written c.args.sink.now in
    let one = g.K.Sink.written c.write_all.new.sink in
    let two = g.K.Sink.written c.write_all-2.new.sink in
    let new = g.K.Sink.written c.write_all-3.new.sink in
    on_err_weaker c.write_all-3.result
    (appends_then_part old two new (c.args.first.now ++ c.args.second.now) c.args.third.now
    (appends_on old one two c.args.first.now c.args.second.now _ c.in_ok-write_all.ensures.whole c.in_ok-write_all-2.ensures.whole refl))
    c.write_all-3.ensures.part
