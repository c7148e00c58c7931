use Rattle.cond_flow.proofs.RaisingLaws.{noted_again, noted_put}
use Rattle.cond_flow.proofs.news.StateNews.note.Goals as goal

pub returns-then-is_last : goal.returns-then-is_last
returns-then-is_last c = noted_again c.args.x _ (c.is_last.ensures c.if-is_last.true)

pub returns : goal.returns
returns c = noted_put c.args.x _ _ c.put.ensures
