use Rattle.std.proofs.Common.{◌≡◌, ◌≤◌, ◌+◌, arith, List, [], subst, sym, ◌∙◌, length, take, Option, None, Some}
use Rattle.std.proofs.lemmas.List.{take_all}
use Rattle.key_table.specs.Keys.{IsWithSome}
use Rattle.key_rows.specs.Gathered.{TakesKeys}
use Rattle.key_rows.specs.GatheredLaws.{takes_differ, takes_more}
use Rattle.key_rows.proofs.gathering.node_keys.Goals as goal
use Rattle.key_rows.proofs.gathering.node_keys.Goals.{After-key_of, in-Some+in_ok-number, in_default}

pub loop-node-init : goal.loop-node-init
loop-node-init g c = c.new-table.ensures

more : (g : _) (c : After-key_of g) (found : Option g.row.K.Denot) (new : List g.row.K.Denot) → c.key_of.result ≡ found → IsWithSome c.loop-node.table found new → TakesKeys (g.O.KeyOf.key_of c.args.of.now) (take (c.loop-node.node-index + 1) c.args.nodes.now) [] new
more g c found new is put =
    takes_more (g.O.KeyOf.key_of c.args.of.now) c.args.nodes.now c.loop-node.node-index c.node-item.result found [] c.loop-node.table new c.loop-node-test.true c.node-item.is (sym is ∙ c.key_of.ensures) put c.loop-node.invariant

pub loop-node-preserved : goal.loop-node-preserved
loop-node-preserved g c =
    let known = (goal.at.loop-node-preserved g c).After-key_of in
    elim c.match-key_of.branch [
      | in-Some+in_ok-number w ↦ more g known (Some w.in-Some.key) c.match-key_of.table w.in-Some.is (subst (IsWithSome known.loop-node.table (Some w.in-Some.key)) (sym w.table-is) w.in_ok-number.ensures.with_key)
      | in_default w ↦ more g known None c.match-key_of.table w.in_default.is w.table-is
    ]

pub returns-clause-keys : goal.returns-clause-keys
returns-clause-keys g c =
    let late : length c.args.nodes.now ≤ c.loop-node.node-index = c.loop-node-test.false in
    subst (λ nodes. TakesKeys (g.O.KeyOf.key_of c.args.of.now) nodes [] c.loop-node.table) (take_all c.loop-node.node-index c.args.nodes.now late) c.loop-node.invariant

pub returns-clause-differ : goal.returns-clause-differ
returns-clause-differ g c = takes_differ (g.O.KeyOf.key_of c.args.of.now) (take c.loop-node.node-index c.args.nodes.now) [] c.loop-node.table c.loop-node.invariant (λ i j i_in. absurd (omega (arith, i_in)))
