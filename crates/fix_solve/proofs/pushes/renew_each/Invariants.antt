use Rattle.std.proofs.Common.{◌≡◌, ℕ, ◌<◌, length, slice_index_or}
use Rattle.fix_solve.specs.NewsFlows.{NewsFit}
use Rattle.fix_solve.proofs.pushes.renew_each.Given as goal

abbrev pub invariant-loop-node : goal.invariant-loop-node
invariant-loop-node g l = record {
  long : length l.news ≡ length l.initial.news;
  fit : (nodes : ℕ) (size : ℕ) → NewsFit g.N.News.fits nodes size l.initial.news → NewsFit g.N.News.fits nodes size l.news;
  all : (d : _) (n : ℕ) → n < l.node → g.N.News.is_all (slice_index_or l.news n d);
}
