use Rattle.std.proofs.Common.{◌≡◌, length, refl, sym, ◌∙◌}
use Rattle.fix_solve.proofs.Telling.{news_from, room_from}
use Rattle.fix_solve.proofs.work.Work.new.Goals as goal

pub invariant_of-result : goal.invariant_of-result
invariant_of-result g c =
    let net = g.F.Flow.net c.args.flow.now in
    let laws = g.met.F.Flow.laws c.args.flow.now c.requires in
    let len : length c.in_ok-values.values.items ≡ net.nodes = c.in_ok-values.ensures.len in (
      record {
        one_list = rw c.in_ok-waiting.ensures refl;
        nodes = rw c.in_ok-waiting.ensures (c.nodes.ensures ∙ sym len);
        in_range = rw len c.in_ok-walk.ensures;
      },
      news_from g.V.News.News.fits g.V.Lattice.size net c.in_ok-values.values.items c.in_ok-news.news.items
          len (λ n h. rw (c.in_ok-values.ensures.each n h) (laws.first_size n h)) c.in_ok-news.ensures,
      room_from g.V.Room.Room.fits g.V.Lattice.size net c.in_ok-values.values.items c.in_ok-room.room
          len (λ n h. rw (c.in_ok-values.ensures.each n h) (laws.first_size n h)) (λ n h. c.in_ok-room.ensures),
    )
