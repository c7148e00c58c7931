use Rattle.std.proofs.Common.{◌≡◌, ℕ, refl, ◌≤◌, ◌≢◌, ◌<◌, length, arith, sym, ◌∙◌}
use Rattle.std.proofs.lemmas.List.{get_or_default}
use Rattle.fix_solve.specs.Net.{Net, NetLaws}
use Rattle.fix_solve.proofs.Parts.{size_at, size_low, size_high, pushed_from, pushed_low, pushed_high}
use Rattle.fix_solve.proofs.Telling.{fit_set, told_from, caught_from}
use Rattle.fix_solve.proofs.Parts.{read_low, read_high, write_low, write_high}
use Rattle.fix_solve.proofs.pushes.push_along.Goals as goal

module _ {V : Type 0} (below : V → V → Type 0) (size : V → ℕ) (rank : V → ℕ) (net : Net V) (laws : NetLaws below size rank net) (number : ℕ) (h : number < net.edges) where
  source_in : (source : ℕ) → source ≡ net.source number → source < net.nodes
  source_in source e = rw e (laws.sources number h)

  target_in : (target : ℕ) → target ≡ net.target number → target < net.nodes
  target_in target e = rw e (laws.targets number h)

pub push_self_news-requires-clause-size : goal.push_self_news-requires-clause-size
push_self_news-requires-clause-size g c = size_at g.F.Value.Lattice.size (g.F.Flow.net c.args.flow.now) c.args.values.now c.requires.len c.requires.sizes _ _ (target_in g.F.Value.Lattice.below g.F.Value.Lattice.size g.F.Value.Lattice.rank (g.F.Flow.net c.args.flow.now) (g.met.F.Flow.laws c.args.flow.now c.requires.valid) c.args.number c.requires.in_range c.args.target c.requires.target)

pub push_news-requires-clause-from_size : goal.push_news-requires-clause-from_size
push_news-requires-clause-from_size g c = size_low g.F.Value.Lattice.size (g.F.Flow.net c.args.flow.now) c.args.values.now c.requires.len c.requires.sizes _ _ _ _ c.split_at_mut-low.ensures.front (target_in g.F.Value.Lattice.below g.F.Value.Lattice.size g.F.Value.Lattice.rank (g.F.Flow.net c.args.flow.now) (g.met.F.Flow.laws c.args.flow.now c.requires.valid) c.args.number c.requires.in_range c.args.target c.requires.target) c.if-source-target-2.true

pub push_news-requires-clause-into_size : goal.push_news-requires-clause-into_size
push_news-requires-clause-into_size g c = size_high g.F.Value.Lattice.size (g.F.Flow.net c.args.flow.now) c.args.values.now c.requires.len c.requires.sizes _ _ _ c.split_at_mut-low.ensures.back (target_in g.F.Value.Lattice.below g.F.Value.Lattice.size g.F.Value.Lattice.rank (g.F.Flow.net c.args.flow.now) (g.met.F.Flow.laws c.args.flow.now c.requires.valid) c.args.number c.requires.in_range c.args.target c.requires.target)

pub push_news-requires-else-source-target-2-clause-from_size : goal.push_news-requires-else-source-target-2-clause-from_size
push_news-requires-else-source-target-2-clause-from_size g c = size_high g.F.Value.Lattice.size (g.F.Flow.net c.args.flow.now) c.args.values.now c.requires.len c.requires.sizes _ _ _ c.split_at_mut-low-else-source-target-2.ensures.back (source_in g.F.Value.Lattice.below g.F.Value.Lattice.size g.F.Value.Lattice.rank (g.F.Flow.net c.args.flow.now) (g.met.F.Flow.laws c.args.flow.now c.requires.valid) c.args.number c.requires.in_range c.args.source c.requires.source)

pub push_news-requires-else-source-target-2-clause-into_size : goal.push_news-requires-else-source-target-2-clause-into_size
push_news-requires-else-source-target-2-clause-into_size g c = size_low g.F.Value.Lattice.size (g.F.Flow.net c.args.flow.now) c.args.values.now c.requires.len c.requires.sizes _ _ _ _ c.split_at_mut-low-else-source-target-2.ensures.front (source_in g.F.Value.Lattice.below g.F.Value.Lattice.size g.F.Value.Lattice.rank (g.F.Flow.net c.args.flow.now) (g.met.F.Flow.laws c.args.flow.now c.requires.valid) c.args.number c.requires.in_range c.args.source c.requires.source) (let ne : c.args.source ≢ c.args.target = c.if-source-target.false in let ge : c.args.target ≤ c.args.source = c.if-source-target-2.false in omega arith)

pub returns-then-source-target-2-clause-pushed : goal.returns-then-source-target-2-clause-pushed
returns-then-source-target-2-clause-pushed g c =
    let s_in : c.args.source < length c.args.values.now = rw c.requires.len (source_in g.F.Value.Lattice.below g.F.Value.Lattice.size g.F.Value.Lattice.rank (g.F.Flow.net c.args.flow.now) (g.met.F.Flow.laws c.args.flow.now c.requires.valid) c.args.number c.requires.in_range c.args.source c.requires.source) in
    let t_in : c.args.target < length c.args.values.now = rw c.requires.len (target_in g.F.Value.Lattice.below g.F.Value.Lattice.size g.F.Value.Lattice.rank (g.F.Flow.net c.args.flow.now) (g.met.F.Flow.laws c.args.flow.now c.requires.valid) c.args.number c.requires.in_range c.args.target c.requires.target) in
    let split = c.split_at_mut-low.ensures in
    pushed_high g.F.Value.Lattice.below (g.F.Flow.net c.args.flow.now) c.args.number c.args.values.now _ _ c.requires.source c.requires.target s_in t_in
    _ _ _ _ _ _ split.value split.front_len split.front split.back c.if-source-target-2.true c.push_news.ensures.joined c.push_news.ensures.unchanged

pub returns-else-source-target-2-clause-pushed : goal.returns-else-source-target-2-clause-pushed
returns-else-source-target-2-clause-pushed g c =
    let s_in : c.args.source < length c.args.values.now = rw c.requires.len (source_in g.F.Value.Lattice.below g.F.Value.Lattice.size g.F.Value.Lattice.rank (g.F.Flow.net c.args.flow.now) (g.met.F.Flow.laws c.args.flow.now c.requires.valid) c.args.number c.requires.in_range c.args.source c.requires.source) in
    let t_in : c.args.target < length c.args.values.now = rw c.requires.len (target_in g.F.Value.Lattice.below g.F.Value.Lattice.size g.F.Value.Lattice.rank (g.F.Flow.net c.args.flow.now) (g.met.F.Flow.laws c.args.flow.now c.requires.valid) c.args.number c.requires.in_range c.args.target c.requires.target) in
    let split = c.split_at_mut-low-else-source-target-2.ensures in
    let ne : c.args.source ≢ c.args.target = c.if-source-target.false in
    let ge : c.args.target ≤ c.args.source = c.if-source-target-2.false in
    pushed_low g.F.Value.Lattice.below (g.F.Flow.net c.args.flow.now) c.args.number c.args.values.now _ _ c.requires.source c.requires.target s_in t_in
    _ _ _ _ _ _ split.value split.front_len split.front split.back (omega arith) c.push_news-else-source-target-2.ensures.joined c.push_news-else-source-target-2.ensures.unchanged

pub returns-then-source-target-clause-pushed : goal.returns-then-source-target-clause-pushed
returns-then-source-target-clause-pushed g c =
    let net = g.F.Flow.net c.args.flow.now in
    let t = c.args.target in
    let t_in : t < length c.args.values.now = rw c.requires.len (target_in g.F.Value.Lattice.below g.F.Value.Lattice.size g.F.Value.Lattice.rank (g.F.Flow.net c.args.flow.now) (g.met.F.Flow.laws c.args.flow.now c.requires.valid) c.args.number c.requires.in_range c.args.target c.requires.target) in
    let same = get_or_default c.args.values.now t c.index-values-target.result (net.first t) t_in in
    pushed_from g.F.Value.Lattice.below net c.args.number c.args.values.now t t (sym c.if-source-target.true ∙ c.requires.source) c.requires.target t_in t_in
    _ c.push_self_news.new.value _ _ _ refl same same c.push_self_news.ensures.joined c.push_self_news.ensures.unchanged

-- ---- the news

pub push_news-requires-else-source-target-2-clause-caught : goal.push_news-requires-else-source-target-2-clause-caught
push_news-requires-else-source-target-2-clause-caught g c =
    let net = g.F.Flow.net c.args.flow.now in
    let laws = g.met.F.Flow.laws c.args.flow.now c.requires.valid in
    let s = c.args.source in
    let t = c.args.target in
    let values = c.args.values.now in
    let news = c.args.news.now in
    let s_nodes = source_in g.F.Value.Lattice.below g.F.Value.Lattice.size g.F.Value.Lattice.rank net laws c.args.number c.requires.in_range s c.requires.source in
    let t_nodes = target_in g.F.Value.Lattice.below g.F.Value.Lattice.size g.F.Value.Lattice.rank net laws c.args.number c.requires.in_range t c.requires.target in
    let s_in : s < length values = rw c.requires.len s_nodes in
    let t_in : t < length values = rw c.requires.len t_nodes in
    let s_news : s < length news = rw c.requires.fit.long s_nodes in
    let t_news : t < length news = rw c.requires.fit.long t_nodes in
    let split = c.split_at_mut-low-else-source-target-2.ensures in
    let told = c.split_at_mut-low_news-else-source-target-2.ensures in
    let ne : s ≢ t = c.if-source-target.false in
    let ge : t ≤ s = c.if-source-target-2.false in
    let lt : t < s = omega arith in
    caught_from g.F.Value.Lattice.below g.F.Value.Lattice.size g.F.Value.Lattice.rank g.met.F.Value.Lattice.laws (g.F.Flow.net c.args.flow.now) (g.met.F.Flow.laws c.args.flow.now c.requires.valid) g.F.Value.News.News.fits g.F.Value.News.News.is_all g.F.Value.News.News.is_none (g.F.Flow.caught c.args.flow.now) (g.met.F.Flow.news_laws c.args.flow.now c.requires.valid) c.args.number s t values news _ _ _ c.requires.in_range c.requires.source c.requires.target
    (read_high news _ s _ _ told.back s_news) (read_high values _ s _ (net.first s) split.back s_in) (read_low values _ s t _ (net.first t) split.front (omega arith) lt) c.requires.telling

pub returns-then-source-target-clause-telling : goal.returns-then-source-target-clause-telling
returns-then-source-target-clause-telling g c =
    let net = g.F.Flow.net c.args.flow.now in
    let laws = g.met.F.Flow.laws c.args.flow.now c.requires.valid in
    let s = c.args.source in
    let t = c.args.target in
    let values = c.args.values.now in
    let news = c.args.news.now in
    let s_nodes = source_in g.F.Value.Lattice.below g.F.Value.Lattice.size g.F.Value.Lattice.rank net laws c.args.number c.requires.in_range s c.requires.source in
    let t_nodes = target_in g.F.Value.Lattice.below g.F.Value.Lattice.size g.F.Value.Lattice.rank net laws c.args.number c.requires.in_range t c.requires.target in
    let s_in : s < length values = rw c.requires.len s_nodes in
    let t_in : t < length values = rw c.requires.len t_nodes in
    let s_news : s < length news = rw c.requires.fit.long s_nodes in
    let t_news : t < length news = rw c.requires.fit.long t_nodes in
    told_from g.F.Value.Lattice.below g.F.Value.Lattice.size g.F.Value.Lattice.rank g.met.F.Value.Lattice.laws (g.F.Flow.net c.args.flow.now) (g.met.F.Flow.laws c.args.flow.now c.requires.valid) g.F.Value.News.News.fits g.F.Value.News.News.is_all g.F.Value.News.News.is_none (g.F.Flow.caught c.args.flow.now) (g.met.F.Flow.news_laws c.args.flow.now c.requires.valid) c.args.number t values _ c.push_self_news.new.value news _ c.push_self_news.new.news _ _ _ c.requires.in_range c.requires.target c.requires.len c.requires.fit.long
    (returns-then-source-target-clause-pushed g c) refl refl (λ d. get_or_default news t _ d t_news) (get_or_default values t _ (net.first t) t_in) c.push_self_news.ensures.keeps c.requires.telling

pub returns-then-source-target-2-clause-fit : goal.returns-then-source-target-2-clause-fit
returns-then-source-target-2-clause-fit g c =
    let net = g.F.Flow.net c.args.flow.now in
    let laws = g.met.F.Flow.laws c.args.flow.now c.requires.valid in
    let s = c.args.source in
    let t = c.args.target in
    let values = c.args.values.now in
    let news = c.args.news.now in
    let s_nodes = source_in g.F.Value.Lattice.below g.F.Value.Lattice.size g.F.Value.Lattice.rank net laws c.args.number c.requires.in_range s c.requires.source in
    let t_nodes = target_in g.F.Value.Lattice.below g.F.Value.Lattice.size g.F.Value.Lattice.rank net laws c.args.number c.requires.in_range t c.requires.target in
    let s_in : s < length values = rw c.requires.len s_nodes in
    let t_in : t < length values = rw c.requires.len t_nodes in
    let s_news : s < length news = rw c.requires.fit.long s_nodes in
    let t_news : t < length news = rw c.requires.fit.long t_nodes in
    let told = c.split_at_mut-low_news.ensures in
    rw (write_high news _ _ t _ told.value told.front_len) (fit_set g.F.Value.News.News.fits net.nodes net.size news t _ t_nodes c.push_news.ensures.fit c.requires.fit)

pub returns-then-source-target-2-clause-telling : goal.returns-then-source-target-2-clause-telling
returns-then-source-target-2-clause-telling g c =
    let net = g.F.Flow.net c.args.flow.now in
    let laws = g.met.F.Flow.laws c.args.flow.now c.requires.valid in
    let s = c.args.source in
    let t = c.args.target in
    let values = c.args.values.now in
    let news = c.args.news.now in
    let s_nodes = source_in g.F.Value.Lattice.below g.F.Value.Lattice.size g.F.Value.Lattice.rank net laws c.args.number c.requires.in_range s c.requires.source in
    let t_nodes = target_in g.F.Value.Lattice.below g.F.Value.Lattice.size g.F.Value.Lattice.rank net laws c.args.number c.requires.in_range t c.requires.target in
    let s_in : s < length values = rw c.requires.len s_nodes in
    let t_in : t < length values = rw c.requires.len t_nodes in
    let s_news : s < length news = rw c.requires.fit.long s_nodes in
    let t_news : t < length news = rw c.requires.fit.long t_nodes in
    let split = c.split_at_mut-low.ensures in
    let told = c.split_at_mut-low_news.ensures in
    told_from g.F.Value.Lattice.below g.F.Value.Lattice.size g.F.Value.Lattice.rank g.met.F.Value.Lattice.laws (g.F.Flow.net c.args.flow.now) (g.met.F.Flow.laws c.args.flow.now c.requires.valid) g.F.Value.News.News.fits g.F.Value.News.News.is_all g.F.Value.News.News.is_none (g.F.Flow.caught c.args.flow.now) (g.met.F.Flow.news_laws c.args.flow.now c.requires.valid) c.args.number t values _ _ news _ _ _ _ _ c.requires.in_range c.requires.target c.requires.len c.requires.fit.long
    (returns-then-source-target-2-clause-pushed g c) (write_high values _ _ t _ split.value split.front_len) (write_high news _ _ t _ told.value told.front_len)
    (λ d. read_high news _ t _ d told.back t_news) (read_high values _ t _ (net.first t) split.back t_in) c.push_news.ensures.keeps c.requires.telling

pub returns-else-source-target-2-clause-fit : goal.returns-else-source-target-2-clause-fit
returns-else-source-target-2-clause-fit g c =
    let net = g.F.Flow.net c.args.flow.now in
    let laws = g.met.F.Flow.laws c.args.flow.now c.requires.valid in
    let s = c.args.source in
    let t = c.args.target in
    let values = c.args.values.now in
    let news = c.args.news.now in
    let s_nodes = source_in g.F.Value.Lattice.below g.F.Value.Lattice.size g.F.Value.Lattice.rank net laws c.args.number c.requires.in_range s c.requires.source in
    let t_nodes = target_in g.F.Value.Lattice.below g.F.Value.Lattice.size g.F.Value.Lattice.rank net laws c.args.number c.requires.in_range t c.requires.target in
    let s_in : s < length values = rw c.requires.len s_nodes in
    let t_in : t < length values = rw c.requires.len t_nodes in
    let s_news : s < length news = rw c.requires.fit.long s_nodes in
    let t_news : t < length news = rw c.requires.fit.long t_nodes in
    let told = c.split_at_mut-low_news-else-source-target-2.ensures in
    let ne : s ≢ t = c.if-source-target.false in
    let ge : t ≤ s = c.if-source-target-2.false in
    let lt : t < s = omega arith in
    rw (write_low news _ _ s t _ told.value told.front_len lt) (fit_set g.F.Value.News.News.fits net.nodes net.size news t _ t_nodes c.push_news-else-source-target-2.ensures.fit c.requires.fit)

pub returns-else-source-target-2-clause-telling : goal.returns-else-source-target-2-clause-telling
returns-else-source-target-2-clause-telling g c =
    let net = g.F.Flow.net c.args.flow.now in
    let laws = g.met.F.Flow.laws c.args.flow.now c.requires.valid in
    let s = c.args.source in
    let t = c.args.target in
    let values = c.args.values.now in
    let news = c.args.news.now in
    let s_nodes = source_in g.F.Value.Lattice.below g.F.Value.Lattice.size g.F.Value.Lattice.rank net laws c.args.number c.requires.in_range s c.requires.source in
    let t_nodes = target_in g.F.Value.Lattice.below g.F.Value.Lattice.size g.F.Value.Lattice.rank net laws c.args.number c.requires.in_range t c.requires.target in
    let s_in : s < length values = rw c.requires.len s_nodes in
    let t_in : t < length values = rw c.requires.len t_nodes in
    let s_news : s < length news = rw c.requires.fit.long s_nodes in
    let t_news : t < length news = rw c.requires.fit.long t_nodes in
    let split = c.split_at_mut-low-else-source-target-2.ensures in
    let told = c.split_at_mut-low_news-else-source-target-2.ensures in
    let ne : s ≢ t = c.if-source-target.false in
    let ge : t ≤ s = c.if-source-target-2.false in
    let lt : t < s = omega arith in
    told_from g.F.Value.Lattice.below g.F.Value.Lattice.size g.F.Value.Lattice.rank g.met.F.Value.Lattice.laws (g.F.Flow.net c.args.flow.now) (g.met.F.Flow.laws c.args.flow.now c.requires.valid) g.F.Value.News.News.fits g.F.Value.News.News.is_all g.F.Value.News.News.is_none (g.F.Flow.caught c.args.flow.now) (g.met.F.Flow.news_laws c.args.flow.now c.requires.valid) c.args.number t values _ _ news _ _ _ _ _ c.requires.in_range c.requires.target c.requires.len c.requires.fit.long
    (returns-else-source-target-2-clause-pushed g c) (write_low values _ _ s t _ split.value split.front_len lt) (write_low news _ _ s t _ told.value told.front_len lt)
    (λ d. read_low news _ s t _ d told.front (omega arith) lt) (read_low values _ s t _ (net.first t) split.front (omega arith) lt) c.push_news-else-source-target-2.ensures.keeps c.requires.telling
