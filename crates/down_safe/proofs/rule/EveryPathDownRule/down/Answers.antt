use Rattle.std.proofs.Common.{◌≡◌, ◌<◌, ◌↔◌, ℕ, true, Some, slice_get, length, sym}
use Rattle.std.proofs.lemmas.Option.{slice_get_within}
use Rattle.mir_base.specs.declared.instructions.Expr.{Expr}
use Rattle.path_laws.specs.Paths.{has_bit, width}
use Rattle.path_laws.specs.RowLaws.{rows_as_many, width_is}
use Rattle.motion_rewrite.specs.Expressions.{kills, uses}
use Rattle.motion_rewrite.specs.Placements.{IsAnticipatable}
use Rattle.down_safe.proofs.Alike.{after_alike}
use Rattle.down_safe.proofs.rule.EveryPathDownRule.down.Goals as goal
use Rattle.down_safe.proofs.rule.EveryPathDownRule.down.Goals.{In_ok-rows}

bits : (c : In_ok-rows) (n i : ℕ) (e : Expr) → n < length c.args.sites.now.graph.now.nodes → slice_get c.args._table.now i ≡ Some e → (has_bit c.in_ok-rows.rows i n ≡ true) ↔ IsAnticipatable c.args.sites.now.graph.now e n
bits c n i e h there =
    let nodes = c.args.sites.now.graph.now.nodes in
    let table = c.args._table.now in
    let i_in : i < length c.args._table.now = slice_get_within table i e there in
    let wide : width c.args.sites.now.uses.now ≡ length c.args._table.now = width_is (length nodes) (length table) n c.args.sites.now.uses.now c.requires.uses_are.shape h in
    let paths = c.in_ok-rows.ensures.paths n i h (rw wide i_in) in
    let born = has_bit c.args.sites.now.uses.now i in
    let stop = has_bit c.args.sites.now.kills.now i in (
      λ on. after_alike nodes born (uses c.args.sites.now.graph.now e) stop (kills c.args.sites.now.graph.now e) (λ m m_in. c.requires.uses_are.bits m i e m_in there) (λ m m_in. c.requires.kills_are.bits m i e m_in there) n (paths.0 on),
      λ all. paths.1 (after_alike nodes (uses c.args.sites.now.graph.now e) born (kills c.args.sites.now.graph.now e) stop (λ m m_in. sym (c.requires.uses_are.bits m i e m_in there)) (λ m m_in. sym (c.requires.kills_are.bits m i e m_in there)) n all),
    )

pub returns : goal.returns
returns c = record {
  shape = rows_as_many (length c.args.sites.now.graph.now.nodes) (length c.args._table.now) c.args.sites.now.uses.now c.in_ok-rows.rows c.requires.uses_are.shape c.in_ok-rows.ensures.shape;
  bits = bits (goal.at.returns c).In_ok-rows;
}
