use Rattle.std.proofs.Common.{◌≡◌, ◌<◌, length, not, ◌&&◌}
use Rattle.path_laws.specs.Paths.{AreRows, has_bit, width}
use Rattle.path_laws.specs.RowLaws.{are_alike, as_wide, like_rows, rows_as_many, width_is}
use Rattle.down_safe.proofs.Alike.{available_from_born, born_from_available}
use Rattle.down_safe.proofs.bits.available_rows.Goals as goal
use Rattle.down_safe.proofs.bits.available_rows.Goals.{In_ok-born}

pub without-requires : goal.without-requires
without-requires c = are_alike (length c.args.sites.now.graph.now.nodes) (width c.args.sites.now.kills.now) c.args.sites.now.uses.now c.args.sites.now.kills.now c.requires.uses c.requires.kills

born_shape : (c : In_ok-born) → AreRows (length c.args.sites.now.graph.now.nodes) (width c.args.sites.now.kills.now) c.in_ok-born.born
born_shape c = like_rows (length c.args.sites.now.graph.now.nodes) (width c.args.sites.now.kills.now) c.args.sites.now.uses.now c.in_ok-born.born c.requires.uses c.in_ok-born.ensures.alike

pub forward_all_over-requires-clause-born : goal.forward_all_over-requires-clause-born
forward_all_over-requires-clause-born c =
    let known = (goal.at.forward_all_over-requires-clause-born c).In_ok-born in
    as_wide (length c.args.sites.now.graph.now.nodes) (width c.args.sites.now.kills.now) c.in_ok-born.born c.in_ok-born.born (born_shape known) (born_shape known)

pub forward_all_over-requires-clause-stop : goal.forward_all_over-requires-clause-stop
forward_all_over-requires-clause-stop c =
    let known = (goal.at.forward_all_over-requires-clause-stop c).In_ok-born in
    as_wide (length c.args.sites.now.graph.now.nodes) (width c.args.sites.now.kills.now) c.in_ok-born.born c.args.sites.now.kills.now (born_shape known) c.requires.kills

pub returns-clause-shape : goal.returns-clause-shape
returns-clause-shape c =
    let known = (goal.at.returns-clause-shape c).In_ok-born in
    rows_as_many (length c.args.sites.now.graph.now.nodes) (width c.args.sites.now.kills.now) c.in_ok-born.born c.in_ok-rows.rows (born_shape known) c.in_ok-rows.ensures.shape

pub returns-clause-available : goal.returns-clause-available
returns-clause-available c = λ n b h l.
    let known = (goal.at.returns-clause-available c).In_ok-born in
    let nodes = c.args.sites.now.graph.now.nodes in
    let born = c.in_ok-born.born in
    let wide : width c.in_ok-born.born ≡ width c.args.sites.now.kills.now = width_is (length nodes) (width c.args.sites.now.kills.now) n born (born_shape known) h in
    let paths = c.in_ok-rows.ensures.paths n b h (rw wide l) in
    let is : (m : _) → m < length c.args.sites.now.graph.now.nodes → has_bit c.in_ok-born.born b m ≡ (has_bit c.args.sites.now.uses.now b m && not (has_bit c.args.sites.now.kills.now b m)) = λ m m_in. c.in_ok-born.ensures.bits m b in (
      λ on. available_from_born nodes (has_bit born b) (has_bit c.args.sites.now.uses.now b) (has_bit c.args.sites.now.kills.now b) is n (paths.0 on),
      λ all. paths.1 (born_from_available nodes (has_bit born b) (has_bit c.args.sites.now.uses.now b) (has_bit c.args.sites.now.kills.now b) is n all),
    )
