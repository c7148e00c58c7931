use Rattle.std.proofs.Common.{◌<◌, ◌+◌, inl, inr, arith}
use Rattle.std.proofs.lemmas.Bool.{cases_eq}
use Rattle.program_wanted.specs.Tables.{demands_of}
use Rattle.program_wanted.proofs.UnitServes.{sweeps_more, sweeps_none}
use Rattle.program_wanted.proofs.demands.sweep_down.Goals as goal

pub loop-unit-init : goal.loop-unit-init
loop-unit-init c = record { swept = sweeps_none c.args.graphs.now.items (λ v. v < 0) (demands_of c.args.tables.now) (λ v lt. omega (arith, lt)) c.requires.serving.progress; serving = c.requires.serving }

pub loop-unit-preserved : goal.loop-unit-preserved
loop-unit-preserved c = record {
  swept = sweeps_more c.args.graphs.now.items (λ v. v < c.loop-unit.unit) (λ v. v < c.loop-unit.unit + 1) c.loop-unit.unit (demands_of c.args.tables.now) (demands_of c.loop-unit.tables) (demands_of c.serve_stale.new.tables) c.loop-unit.raised _
      (λ v lt. elim (cases_eq v c.loop-unit.unit) [
        | inl e ↦ inr e
        | inr ne ↦ inl (omega (arith, lt, ne))
      ]) c.loop-unit.invariant.swept c.in_ok-raised.ensures.serves;
  serving = c.in_ok-raised.ensures.serving;
}
