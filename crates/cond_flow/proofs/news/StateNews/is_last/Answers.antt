use Rattle.std.proofs.Common.{◌-◌, length, Some, refl, sym, ap, ◌∙◌, arith}
use Rattle.std.proofs.lemmas.Bool.{eqb-true}
use Rattle.std.proofs.lemmas.Option.{slice_get_read}
use Rattle.cond_flow.specs.NewsShapes.{is_among}
use Rattle.cond_flow.proofs.RaisingLaws.{among_get}
use Rattle.cond_flow.proofs.news.StateNews.is_last.Goals as goal

pub returns-then-count-gt0 : goal.returns-then-count-gt0
returns-then-count-gt0 c = λ on.
    let xs = c.self.inside.raised.items in
    let place = c.len-count.result - 1 in
    ap (λ n. is_among n.raised c.args.x) (sym c.self.view_is)
    ∙ among_get xs place c.args.x
    (slice_get_read xs (length xs) place c.index.result.now refl (omega (arith, c.if-count-gt0.true, c.len-count.ensures)) c.index.ensures
    ∙ ap Some (eqb-true c.index.result.now c.args.x on))
