use Rattle.std.proofs.Common.{subst, sym}
use Rattle.mir_top.specs.Streams.{stream_of}
use Rattle.mir_table.specs.declared.kinds.TableKind.{TableKind}
use Rattle.mir_table.specs.Promises.{TextPromises}
use Rattle.mir_table.proofs.call.asked_tables.Goals as goal

pub returns-in-Optimise : goal.returns-in-Optimise
returns-in-Optimise g c =
    subst (λ (k : TableKind). TextPromises k (record {
      source = stream_of g.S.Source.left g.S.Source.faults c.args.source.now c.optimised_tables.new.source;
      out = stream_of g.K.Sink.written g.K.Sink.faults c.args.out.now c.optimised_tables.new.out;
      err = stream_of g.E.Sink.written g.E.Sink.faults c.args.err.now c.optimised_tables.new.err;
      status = c.optimised_tables.result;
    })) (sym c.in-Optimise.is) c.optimised_tables.ensures

pub returns-in-Divisions : goal.returns-in-Divisions
returns-in-Divisions g c =
    subst (λ (k : TableKind). TextPromises k (record {
      source = stream_of g.S.Source.left g.S.Source.faults c.args.source.now c.further_tables.new.source;
      out = stream_of g.K.Sink.written g.K.Sink.faults c.args.out.now c.further_tables.new.out;
      err = stream_of g.E.Sink.written g.E.Sink.faults c.args.err.now c.further_tables.new.err;
      status = c.further_tables.result;
    })) (sym c.in-Divisions.is) c.further_tables.ensures

pub returns-in-Tails : goal.returns-in-Tails
returns-in-Tails g c =
    subst (λ (k : TableKind). TextPromises k (record {
      source = stream_of g.S.Source.left g.S.Source.faults c.args.source.now c.further_tables-in-Tails.new.source;
      out = stream_of g.K.Sink.written g.K.Sink.faults c.args.out.now c.further_tables-in-Tails.new.out;
      err = stream_of g.E.Sink.written g.E.Sink.faults c.args.err.now c.further_tables-in-Tails.new.err;
      status = c.further_tables-in-Tails.result;
    })) (sym c.in-Tails.is) c.further_tables-in-Tails.ensures

pub returns-in-Join : goal.returns-in-Join
returns-in-Join g c =
    subst (λ (k : TableKind). TextPromises k (record {
      source = stream_of g.S.Source.left g.S.Source.faults c.args.source.now c.further_tables-in-Join.new.source;
      out = stream_of g.K.Sink.written g.K.Sink.faults c.args.out.now c.further_tables-in-Join.new.out;
      err = stream_of g.E.Sink.written g.E.Sink.faults c.args.err.now c.further_tables-in-Join.new.err;
      status = c.further_tables-in-Join.result;
    })) (sym c.in-Join.is) c.further_tables-in-Join.ensures

pub returns-in-Bounds : goal.returns-in-Bounds
returns-in-Bounds g c =
    subst (λ (k : TableKind). TextPromises k (record {
      source = stream_of g.S.Source.left g.S.Source.faults c.args.source.now c.further_tables-in-Bounds.new.source;
      out = stream_of g.K.Sink.written g.K.Sink.faults c.args.out.now c.further_tables-in-Bounds.new.out;
      err = stream_of g.E.Sink.written g.E.Sink.faults c.args.err.now c.further_tables-in-Bounds.new.err;
      status = c.further_tables-in-Bounds.result;
    })) (sym c.in-Bounds.is) c.further_tables-in-Bounds.ensures

pub returns-in-Wanted : goal.returns-in-Wanted
returns-in-Wanted g c =
    subst (λ (k : TableKind). TextPromises k (record {
      source = stream_of g.S.Source.left g.S.Source.faults c.args.source.now c.further_tables-in-Wanted.new.source;
      out = stream_of g.K.Sink.written g.K.Sink.faults c.args.out.now c.further_tables-in-Wanted.new.out;
      err = stream_of g.E.Sink.written g.E.Sink.faults c.args.err.now c.further_tables-in-Wanted.new.err;
      status = c.further_tables-in-Wanted.result;
    })) (sym c.in-Wanted.is) c.further_tables-in-Wanted.ensures

pub returns-in-Demanded : goal.returns-in-Demanded
returns-in-Demanded g c =
    subst (λ (k : TableKind). TextPromises k (record {
      source = stream_of g.S.Source.left g.S.Source.faults c.args.source.now c.further_tables-in-Demanded.new.source;
      out = stream_of g.K.Sink.written g.K.Sink.faults c.args.out.now c.further_tables-in-Demanded.new.out;
      err = stream_of g.E.Sink.written g.E.Sink.faults c.args.err.now c.further_tables-in-Demanded.new.err;
      status = c.further_tables-in-Demanded.result;
    })) (sym c.in-Demanded.is) c.further_tables-in-Demanded.ensures
