use Rattle.std.proofs.Common.{◌≡◌, ◌∙◌, true, length, replicate, ap, subst, arith}
use Rattle.program_wanted.specs.Sweeps.{Sweeps}
use Rattle.program_wanted.specs.Tables.{demands_of}
use Rattle.program_wanted.proofs.UnitServes.{all_stale, least_at_rest}
use Rattle.program_wanted.proofs.demands.sweep_on.Goals as goal

pub loop-stale-init : goal.loop-stale-init
loop-stale-init c =
    let graphs = c.args.graphs.now in
    let count : c.len.result ≡ length graphs.items = omega (arith, c.len.ensures, graphs.ok.0) in
    record {
      progress = c.requires.progress;
      fresh = all_stale graphs.items (demands_of c.args.tables.now) c.in_ok-stale.stale.items (c.in_ok-stale.ensures.items_if_clones_equal (λ y e. e) ∙ ap (λ n. replicate n true) count);
      asks = c.in_ok-asks.ensures;
    }

pub returns-then-not-raised : goal.returns-then-not-raised
returns-then-not-raised c =
    let graphs = c.args.graphs.now.items in
    let old = demands_of c.loop-stale.tables in
    let after = demands_of c.sweep.new.tables in
    least_at_rest graphs old after (subst (Sweeps graphs old after) c.if-not-raised.true c.in_ok-raised.ensures.swept)
