use Rattle.std.proofs.Common.{◌<◌, ◌≤◌, ◌+◌, ◌-◌, inl, inr, length, arith}
use Rattle.std.proofs.lemmas.Bool.{cases_eq}
use Rattle.program_wanted.specs.Tables.{demands_of}
use Rattle.program_wanted.proofs.UnitServes.{sweeps_more, sweeps_none}
use Rattle.program_wanted.proofs.demands.sweep_up.Goals as goal

pub loop-count-init : goal.loop-count-init
loop-count-init c = record { swept = sweeps_none c.args.graphs.now.items _ (demands_of c.args.tables.now) (λ v in_range. omega (arith, in_range.0, in_range.1)) c.requires.serving.progress; serving = c.requires.serving }

pub loop-count-preserved : goal.loop-count-preserved
loop-count-preserved c =
    let graphs = c.args.graphs.now.items in
    let count = c.loop-count.count in
    let u = c.len.result - 1 - count in
    record {
      swept = sweeps_more graphs (λ v. (v < length graphs) × (length graphs ≤ v + count)) (λ v. (v < length graphs) × (length graphs ≤ v + (count + 1))) u (demands_of c.args.tables.now) (demands_of c.loop-count.tables) (demands_of c.serve_stale.new.tables) c.loop-count.raised _
          (λ v in_range. elim (cases_eq v u) [
            | inl e ↦ inr e
            | inr ne ↦ inl (in_range.0, omega (arith, in_range.0, in_range.1, ne, c.len.ensures, c.loop-count-test.true, c.loop-count.auto.count-end))
          ]) c.loop-count.invariant.swept c.in_ok-raised.ensures.serves;
      serving = c.in_ok-raised.ensures.serving;
    }
