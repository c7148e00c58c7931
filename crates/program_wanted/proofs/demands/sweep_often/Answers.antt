use Rattle.std.proofs.Common.{◌≡◌, ◌∙◌, true, length, replicate, ap, arith}
use Rattle.program_wanted.specs.Tables.{demands_of}
use Rattle.program_wanted.proofs.UnitServes.{all_stale}
use Rattle.program_wanted.proofs.demands.sweep_often.Goals as goal

pub loop-count-init : goal.loop-count-init
loop-count-init c =
    let graphs = c.args.graphs.now in
    let count : c.len.result ≡ length graphs.items = omega (arith, c.len.ensures, graphs.ok.0) in
    record {
      progress = c.requires.progress;
      fresh = all_stale graphs.items (demands_of c.args.tables.now) c.in_ok-stale.stale.items (c.in_ok-stale.ensures.items_if_clones_equal (λ y e. e) ∙ ap (λ n. replicate n true) count);
      asks = c.in_ok-asks.ensures;
    }
