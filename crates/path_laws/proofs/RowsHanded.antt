-- What the row of a node gets of that of the one before it in its block.
use Rattle.std.proofs.Common.{◌≡◌, ◌<◌, ◌||◌, ◌&&◌, ℕ, Bool, true, false, not, List, length, get_or, set, refl, sym, ap, ◌∙◌}
use Rattle.std.proofs.Math.Bool.{or-false}
use Rattle.bit_rows.specs.BitLaws.{length_or, or_bit}
use Rattle.bit_rows.specs.Bits.{minus_bits, or_bits, row_of}
use Rattle.path_laws.specs.Paths.{AreRows, has_bit}
use Rattle.path_laws.specs.Problem.{IsProblem, bars_in, is_barred, is_seed}
use Rattle.path_laws.specs.RowLaws.{Joined}
use Rattle.path_laws.specs.Seeds.{bars_of, is_end}
use Rattle.path_laws.specs.SeedsLaws.{bar_rows}
use Rattle.path_laws.specs.declared.problems.Problem.{Problem}
use Rattle.path_laws.proofs.Growing.{every_bit, joined_minus, joined_same}

-- what a row has that a node does not bar
pub taken : (p : Problem) → IsProblem p → (rows after : List (List Bool)) (before node by : _) → AreRows (length p.graph.now.nodes) p.bits rows → before < length p.graph.now.nodes → node < length p.graph.now.nodes → by < length p.graph.now.nodes
    → after ≡ set rows node (or_bits (row_of rows node) (minus_bits (row_of rows before) (row_of (bars_in p) by))) → Joined p.bits rows after node (λ b. has_bit rows b before && not (is_barred p b by))
taken p is rows after before node by shape h g k e =
    let barring = bar_rows p.against p.graph.now.nodes p.bits p.born.now p.stop.now is.flow.born_rows is.flow.stop_rows p.every in
    let long = shape.each node g in
    joined_minus p.bits rows after node (row_of rows before) (row_of (bars_in p) by) (rw shape.len g) (long ∙ sym (shape.each before h)) (long ∙ sym (barring.each by k)) e

-- what one has or the other, without a third
shared : (x s k : Bool) → ((x || s) && not k) ≡ ((s && not k) || (x && not k))
shared true true true = refl
shared true true false = refl
shared true false k = refl
shared false true k = sym (or-false (not k))
shared false false k = refl

-- for every path, where paths do not end: what the row has or the node stops, and the node does not bear
pub passed : (p : Problem) → IsProblem p → (rows after : List (List Bool)) (before node : ℕ) → AreRows (length p.graph.now.nodes) p.bits rows → before < length p.graph.now.nodes → node < length p.graph.now.nodes
    → p.every ≡ true → is_end p.against p.graph.now.nodes before ≡ false
    → after ≡ set rows node (or_bits (row_of rows node) (minus_bits (or_bits (row_of rows before) (row_of p.stop.now before)) (row_of p.born.now before)))
    → Joined p.bits rows after node (λ b. is_seed p b before || (has_bit rows b before && not (is_barred p b before)))
passed p is rows after before node shape h g every inside e =
    let nodes = p.graph.now.nodes in
    let born = p.born.now in
    let stop = p.stop.now in
    let born_rows = is.flow.born_rows in
    let stop_rows = is.flow.stop_rows in
    let long = shape.each node g in
    let alike : length (row_of rows before) ≡ length (row_of p.stop.now before) = shape.each before h ∙ sym (stop_rows.each before h) in
    let wide : length (or_bits (row_of rows before) (row_of p.stop.now before)) ≡ p.bits = length_or (row_of rows before) (row_of stop before) alike ∙ shape.each before h in
    joined_same p.bits rows after node (λ b. get_or (or_bits (row_of rows before) (row_of p.stop.now before)) b false && not (get_or (row_of p.born.now before) b false)) (λ b. is_seed p b before || (has_bit rows b before && not (is_barred p b before)))
    (λ b l.
    ap (λ x. x && not (has_bit born b before)) (or_bit (row_of rows before) (row_of stop before) b alike)
    ∙ shared (has_bit rows b before) (has_bit stop b before) (has_bit born b before)
    ∙ ap (λ x. (x && not (has_bit born b before)) || (has_bit rows b before && not (has_bit born b before))) (sym (or-false (has_bit stop b before)) ∙ ap (λ x. has_bit stop b before || x) (sym inside))
    ∙ ap (λ x. x || (has_bit rows b before && not (has_bit born b before))) (sym (every_bit p.every p.against nodes p.bits born stop born_rows stop_rows every b before l h))
    ∙ ap (λ way. is_seed p b before || (has_bit rows b before && not (has_bit (bars_of way born stop) b before))) (sym every))
    (joined_minus p.bits rows after node (or_bits (row_of rows before) (row_of stop before)) (row_of born before) (rw shape.len g) (long ∙ sym wide) (long ∙ sym (born_rows.each before h)) e)
