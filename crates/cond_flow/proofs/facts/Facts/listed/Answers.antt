use Rattle.std.proofs.Common.{◌∙◌, ◌≤◌, length, arith}
use Rattle.std.proofs.lemmas.List.{take_all}
use Rattle.cond_flow.proofs.FactLaws.{listed_more}
use Rattle.cond_flow.proofs.facts.Facts.listed.Goals as goal

pub loop-x-preserved : goal.loop-x-preserved
loop-x-preserved g c =
    c.in_ok-push.ensures.items
    ∙ listed_more c.args.self.now c.loop-x.list.items c.loop-x.x c.get.result c.args.otherwise (omega (arith, c.loop-x-test.true, c.len-x-end.ensures)) c.loop-x.invariant c.get.ensures

pub returns : goal.returns
returns g c =
    let end : length c.args.self.now ≤ c.loop-x.x = omega (arith, c.loop-x-test.false, c.len-x-end.ensures) in
    c.loop-x.invariant ∙ take_all c.loop-x.x c.args.self.now end
