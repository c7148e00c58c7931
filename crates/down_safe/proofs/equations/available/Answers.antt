use Rattle.std.proofs.Common.{◌≡◌, ◌↔◌, ℕ, ◌<◌, true, length, sym, Some, slice_get}
use Rattle.std.proofs.lemmas.Option.{slice_get_within}
use Rattle.mir_base.specs.declared.instructions.Expr.{Expr}
use Rattle.path_laws.specs.Paths.{has_bit, width}
use Rattle.path_laws.specs.RowLaws.{as_wide, rows_as_many, width_is}
use Rattle.motion_rewrite.specs.Expressions.{kills, uses}
use Rattle.motion_rewrite.specs.Placements.{IsAvailable}
use Rattle.down_safe.proofs.Alike.{available_alike}
use Rattle.down_safe.proofs.equations.available.Goals as goal
use Rattle.down_safe.proofs.equations.available.Goals.{In_ok-rows}

up_is : (c : In_ok-rows) (n i : ℕ) (e : Expr) → n < length c.args.sites.now.graph.now.nodes → slice_get c.args.table.now i ≡ Some e → (has_bit c.in_ok-rows.rows i n ≡ true) ↔ IsAvailable c.args.sites.now.graph.now e n
up_is c n i e h there =
    let graph = c.args.sites.now.graph.now in
    let nodes = graph.nodes in
    let wide : width c.args.sites.now.kills.now ≡ length c.args.table.now = width_is (length nodes) (length c.args.table.now) n c.args.sites.now.kills.now c.requires.kills_are.shape h in
    let i_in : i < length c.args.table.now = slice_get_within c.args.table.now i e there in
    let all_paths = c.in_ok-rows.ensures.available n i h (rw wide i_in) in
    let used = has_bit c.args.sites.now.uses.now i in
    let killed = has_bit c.args.sites.now.kills.now i in (
      λ on. available_alike nodes used (uses graph e) killed (kills graph e) (λ m m_in. c.requires.uses_are.bits m i e m_in there) (λ m m_in. c.requires.kills_are.bits m i e m_in there) n (all_paths.0 on),
      λ all. all_paths.1 (available_alike nodes (uses graph e) used (kills graph e) killed (λ m m_in. sym (c.requires.uses_are.bits m i e m_in there)) (λ m m_in. sym (c.requires.kills_are.bits m i e m_in there)) n all),
    )

pub returns : goal.returns
returns c = record {
  shape = rows_as_many (length c.args.sites.now.graph.now.nodes) (length c.args.table.now) c.args.sites.now.kills.now c.in_ok-rows.rows c.requires.kills_are.shape c.in_ok-rows.ensures.shape;
  bits = up_is (goal.at.returns c).In_ok-rows;
}
