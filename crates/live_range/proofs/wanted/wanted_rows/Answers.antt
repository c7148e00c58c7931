use Rattle.std.proofs.Common.{◌<◌, length}
use Rattle.motion_rewrite.specs.Placements.{places_of}
use Rattle.path_laws.specs.Paths.{has_bit, width}
use Rattle.path_laws.specs.RowLaws.{like_rows, width_is}
use Rattle.live_range.proofs.Masked.{born_says, masked_shape, only_bits}
use Rattle.live_range.proofs.Reaching.{wanted_says}
use Rattle.live_range.proofs.wanted.wanted_rows.Goals as goal

pub mask_rows-requires-clause-same : goal.mask_rows-requires-clause-same
mask_rows-requires-clause-same c = only_bits c.args.placement.now.replace c.args.placement.now.insert c.in_ok-born.born c.in_ok-born.ensures.alike c.in_ok-born.ensures.bits

pub returns-clause-wanted : goal.returns-clause-wanted
returns-clause-wanted c = λ n b n_in b_in.
    let graph = c.args.graph.now in
    let bits = c.args.bits in
    let p = c.args.placement.now in
    let reaching = c.in_ok-reaching.reaching in
    let less = c.in_ok-born.born in
    let born = c.mask_rows.new.rows in
    let less_are = like_rows (length graph.nodes) bits p.replace less c.requires.replace c.in_ok-born.ensures.alike in
    let born_are = masked_shape (length graph.nodes) bits (length less) reaching less born less_are c.mask_rows.ensures in
    let wide : b < width born = rw (width_is (length graph.nodes) bits n born born_are n_in) b_in in
    let says = c.in_ok-rows.ensures.paths n b n_in wide in
    let wanted = wanted_says graph.nodes (places_of p b) (has_bit born b) (λ m m_in.
    born_says graph bits p reaching less born c.requires.replace c.in_ok-born.ensures.alike c.in_ok-born.ensures.bits c.in_ok-reaching.ensures c.mask_rows.ensures b m m_in) n in
    (λ on. wanted.0 (says.0 on), λ w. says.1 (wanted.1 w))
