use Rattle.std.proofs.Common.{◌≡◌, ◌↔◌, ℕ, ◌<◌, true, length, Some, slice_get}
use Rattle.std.proofs.lemmas.Option.{slice_get_within}
use Rattle.mir_base.specs.declared.instructions.Expr.{Expr}
use Rattle.path_laws.specs.Paths.{has_bit, width}
use Rattle.path_laws.specs.RowLaws.{as_wide, rows_as_many, width_is}
use Rattle.down_safe.specs.Busy.{IsEarliest}
use Rattle.down_safe.proofs.Earliest.{earliest_from_bit, bit_from_earliest}
use Rattle.down_safe.proofs.equations.earliest.Goals as goal
use Rattle.down_safe.proofs.equations.earliest.Goals.{In_ok-rows}

early_is : (g : _) (c : In_ok-rows g) (n i : ℕ) (e : Expr) → n < length c.args.sites.now.graph.now.nodes → slice_get c.args.table.now i ≡ Some e
    → (has_bit c.in_ok-rows.rows i n ≡ true) ↔ IsEarliest c.args.sites.now.graph.now e (g.R.DownRule.is_down c.args.rule.now c.args.sites.now.graph.now e) n
early_is g c n i e h there =
    let graph = c.args.sites.now.graph.now in
    let wide : width c.args.sites.now.kills.now ≡ length c.args.table.now = width_is (length graph.nodes) (length c.args.table.now) n c.args.sites.now.kills.now c.requires.sites.kills_are.shape h in
    let i_in : i < length c.args.table.now = slice_get_within c.args.table.now i e there in
    let early = c.in_ok-rows.ensures.earliest n i h (rw wide i_in) in
    let Down : ℕ → Type 0 = g.R.DownRule.is_down c.args.rule.now graph e in
    let kill_is = λ (m : ℕ) (m_in : m < length graph.nodes). c.requires.sites.kills_are.bits m i e m_in there in
    let up_at = λ (m : ℕ) (m_in : m < length graph.nodes). c.requires.available.bits m i e m_in there in
    let down_at = λ (m : ℕ) (m_in : m < length graph.nodes). c.requires.anticipatable.bits m i e m_in there in
    let killed = has_bit c.args.sites.now.kills.now i in
    let up = has_bit c.args.available i in
    let down = has_bit c.args.anticipatable.now i in (
      λ on. earliest_from_bit graph e Down killed up down kill_is up_at down_at n h (early.0 on),
      λ is. early.1 (bit_from_earliest graph e Down killed up down kill_is up_at down_at n h is),
    )

pub returns : goal.returns
returns g c = record {
  shape = rows_as_many (length c.args.sites.now.graph.now.nodes) (length c.args.table.now) c.args.sites.now.kills.now c.in_ok-rows.rows c.requires.sites.kills_are.shape c.in_ok-rows.ensures.shape;
  bits = early_is g (goal.at.returns g c).In_ok-rows;
}
