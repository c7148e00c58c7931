use Rattle.std.proofs.Common.{◌≡◌, ℕ, ◌<◌, length, slice_index_or}
use Rattle.fix_solve.proofs.work.first_news.Given as goal

abbrev pub invariant-loop-node : goal.invariant-loop-node
invariant-loop-node g l =
    let net = g.F.Flow.net l.flow in
    record {
      long : length l.news.items ≡ l._node;
      each : (d : _) (n : ℕ) → n < l._node → g.F.Value.News.News.fits (slice_index_or l.news.items n d) net.size;
    }
