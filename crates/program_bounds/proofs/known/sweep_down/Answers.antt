use Rattle.std.proofs.Common.{◌<◌, ◌+◌, inl, inr, arith}
use Rattle.std.proofs.lemmas.Bool.{cases_eq}
use Rattle.program_bounds.specs.Tables.{facts_of}
use Rattle.program_bounds.proofs.SweepLaws.{sweeps_more, sweeps_none}
use Rattle.program_bounds.proofs.known.sweep_down.Goals as goal

pub loop-unit-init : goal.loop-unit-init
loop-unit-init c = record { swept = sweeps_none c.args.graphs.now.items (λ v. v < 0) (facts_of c.args.tables.now) (λ v lt. omega (arith, lt)) c.requires.progress; fresh = c.requires.fresh }

pub loop-unit-preserved : goal.loop-unit-preserved
loop-unit-preserved c = record {
  swept = sweeps_more c.args.graphs.now.items (λ v. v < c.loop-unit.unit) (λ v. v < c.loop-unit.unit + 1) c.loop-unit.unit (facts_of c.args.tables.now) (facts_of c.loop-unit.tables) (facts_of c.serve_stale.new.tables) c.loop-unit.raised _
      (λ v lt. elim (cases_eq v c.loop-unit.unit) [
        | inl e ↦ inr e
        | inr ne ↦ inl (omega (arith, lt, ne))
      ]) c.loop-unit.invariant.swept c.in_ok-raised.ensures.serves;
  fresh = c.in_ok-raised.ensures.fresh;
}

pub serve_stale-requires-clause-can : goal.serve_stale-requires-clause-can
serve_stale-requires-clause-can c = record { fit = c.requires.fit; are_callers = c.requires.are_callers; progress = c.loop-unit.invariant.swept.progress; fresh = c.loop-unit.invariant.fresh }
