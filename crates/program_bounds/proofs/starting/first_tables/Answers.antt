use Rattle.std.proofs.Common.{◌≡◌, ◌∙◌, true, length, replicate, ap, arith}
use Rattle.program_bounds.proofs.Starts.{start_progress}
use Rattle.program_bounds.proofs.SweepLaws.{all_stale}
use Rattle.program_bounds.proofs.starting.first_tables.Goals as goal

pub returns-clause-progress : goal.returns-clause-progress
returns-clause-progress c = start_progress c.args.graphs.now.items c.requires.some c.in_ok-entries.entries.items c.in_ok-backs.backs.items c.in_ok-entries.ensures c.in_ok-backs.ensures

pub returns-clause-fresh : goal.returns-clause-fresh
returns-clause-fresh c =
    let graphs = c.args.graphs.now in
    let count : c.len.result ≡ length graphs.items = omega (arith, c.len.ensures, graphs.ok.0) in
    all_stale graphs.items _ c.in_ok-stale.stale.items c.in_ok-made.made.items (c.in_ok-stale.ensures.items_if_clones_equal (λ y e. e) ∙ ap (λ n. replicate n true) count) c.in_ok-made.ensures
