use Rattle.std.proofs.Common.{arith, ◌∙◌}
use Rattle.std.proofs.lemmas.List.{length-set}
use Rattle.fix_solve.proofs.Telling.{fit_renewed, all_set}
use Rattle.fix_solve.proofs.pushes.renew_each.Goals as goal

pub loop-node-preserved : goal.loop-node-preserved
loop-node-preserved g c =
    let inv = c.loop-node.invariant in
    let news = c.loop-node.news in
    record {
      long = length-set news c.loop-node.node c.renew.new.self ∙ inv.long;
      fit = λ nodes size before. fit_renewed g.N.News.fits nodes size news c.loop-node.node c.index-news-node.result c.renew.new.self (c.renew.ensures.fits size) (inv.fit nodes size before) (omega arith);
      all = all_set g.N.News.is_all news c.loop-node.node c.renew.new.self (omega arith) c.renew.ensures.all inv.all;
    }
