use Rattle.std.proofs.Common.{◌<◌, ◌≤◌, ◌+◌, ◌-◌, inl, inr, length, arith}
use Rattle.std.proofs.lemmas.Bool.{cases_eq}
use Rattle.program_bounds.specs.Tables.{facts_of}
use Rattle.program_bounds.proofs.SweepLaws.{sweeps_more, sweeps_none}
use Rattle.program_bounds.proofs.known.sweep_up.Goals as goal

pub loop-count-init : goal.loop-count-init
loop-count-init c = record { swept = sweeps_none c.args.graphs.now.items _ (facts_of c.args.tables.now) (λ v in_range. omega (arith, in_range.0, in_range.1)) c.requires.progress; fresh = c.requires.fresh }

pub loop-count-preserved : goal.loop-count-preserved
loop-count-preserved c =
    let graphs = c.args.graphs.now.items in
    let count = c.loop-count.count in
    let u = c.len.result - 1 - count in
    record {
      swept = sweeps_more graphs (λ v. (v < length graphs) × (length graphs ≤ v + count)) (λ v. (v < length graphs) × (length graphs ≤ v + (count + 1))) u (facts_of c.args.tables.now) (facts_of c.loop-count.tables) (facts_of c.serve_stale.new.tables) c.loop-count.raised _
          (λ v in_range. elim (cases_eq v u) [
            | inl e ↦ inr e
            | inr ne ↦ inl (in_range.0, omega (arith, in_range.0, in_range.1, ne, c.len.ensures, c.loop-count-test.true, c.loop-count.auto.count-end))
          ]) c.loop-count.invariant.swept c.in_ok-raised.ensures.serves;
      fresh = c.in_ok-raised.ensures.fresh;
    }

pub serve_stale-requires-clause-can : goal.serve_stale-requires-clause-can
serve_stale-requires-clause-can c = record { fit = c.requires.fit; are_callers = c.requires.are_callers; progress = c.loop-count.invariant.swept.progress; fresh = c.loop-count.invariant.fresh }
