use Rattle.std.proofs.Common.{◌≡◌, ◌≤◌, ◌<◌, ◌+◌, ◌*◌, length, ◌∙◌, arith}
use Rattle.node_list.specs.Lists.{is_listed}
use Rattle.fix_solve.specs.Solving.{pushes_left}
use Rattle.fix_solve.proofs.Loads.{pushes_left_le}
use Rattle.fix_solve.proofs.Visits.{working_starts}
use Rattle.fix_solve.proofs.Telling.{fit_from, news_from, room_from, roomy_from, telling_starts}
use Rattle.fix_solve.proofs.pushes.solve_from.Goals as goal

pub returns-clause-pushes : goal.returns-clause-pushes
returns-clause-pushes g c =
    let net = g.F.Flow.net c.args.flow.now in
    let rank = g.F.Value.Lattice.rank in
    let laws = g.met.F.Flow.laws c.args.flow.now c.requires.valid in
    let made : c.drain.new.steps ≤ c.args.steps.now + pushes_left net rank c.args.values.now (is_listed c.enlist_all.new.waiting.lists) = c.drain.ensures.pushes in
    let all : pushes_left net rank c.args.values.now (is_listed c.enlist_all.new.waiting.lists) ≤ net.edges * (net.height + 1) =
    pushes_left_le g.F.Value.Lattice.below g.F.Value.Lattice.size rank g.met.F.Value.Lattice.laws net laws _ _ in
    omega arith

pub drain-requires-clause-working : goal.drain-requires-clause-working
drain-requires-clause-working g c =
    let net = g.F.Flow.net c.args.flow.now in
    let laws = g.met.F.Flow.laws c.args.flow.now c.requires.valid in
    let len : length c.args.values.now ≡ net.nodes = c.requires.first.len in
    working_starts g.F.Value.Lattice.below g.F.Value.Lattice.size g.F.Value.Lattice.rank g.met.F.Value.Lattice.laws net laws c.args.values.now (is_listed c.enlist_all.new.waiting.lists) c.requires.first (λ n h. let low : n < net.nodes = h in c.enlist_all.ensures.all n (omega arith))

pub drain-requires-clause-fit : goal.drain-requires-clause-fit
drain-requires-clause-fit g c =
    let net = g.F.Flow.net c.args.flow.now in
    let laws = g.met.F.Flow.laws c.args.flow.now c.requires.valid in
    c.renew_each.ensures.fit net.nodes net.size
    (fit_from g.F.Value.News.News.fits g.F.Value.Lattice.size net c.args.values.now c.args.news.now c.requires.first.len c.requires.have_news.long
    (λ n h. rw (c.requires.first.each n h) (laws.first_size n h)) c.requires.have_news.fit)

pub drain-requires-clause-telling : goal.drain-requires-clause-telling
drain-requires-clause-telling g c =
    let net = g.F.Flow.net c.args.flow.now in
    let laws = g.met.F.Flow.laws c.args.flow.now c.requires.valid in
    telling_starts g.F.Value.Lattice.below g.F.Value.Lattice.size g.F.Value.Lattice.rank g.met.F.Value.Lattice.laws net laws g.F.Value.News.News.fits g.F.Value.News.News.is_all g.F.Value.News.News.is_none (g.F.Flow.caught c.args.flow.now) (g.met.F.Flow.news_laws c.args.flow.now c.requires.valid) c.args.values.now c.renew_each.new.news
    (c.renew_each.ensures.long ∙ c.requires.have_news.long ∙ c.requires.first.len) c.renew_each.ensures.all

pub returns-clause-have_news : goal.returns-clause-have_news
returns-clause-have_news g c =
    news_from g.F.Value.News.News.fits g.F.Value.Lattice.size (g.F.Flow.net c.args.flow.now) c.drain.new.values c.drain.new.news
    c.drain.ensures.len c.drain.ensures.sizes c.drain.ensures.fit

pub drain-requires-clause-room : goal.drain-requires-clause-room
drain-requires-clause-room g c =
    let net = g.F.Flow.net c.args.flow.now in
    let laws = g.met.F.Flow.laws c.args.flow.now c.requires.valid in
    roomy_from g.F.Value.Room.Room.fits g.F.Value.Lattice.size net c.args.values.now c.args.room.now c.requires.first.len
    (λ n h. rw (c.requires.first.each n h) (laws.first_size n h)) c.requires.has_room

pub returns-clause-has_room : goal.returns-clause-has_room
returns-clause-has_room g c =
    room_from g.F.Value.Room.Room.fits g.F.Value.Lattice.size (g.F.Flow.net c.args.flow.now) c.drain.new.values c.drain.new.room
    c.drain.ensures.len c.drain.ensures.sizes c.drain.ensures.room
