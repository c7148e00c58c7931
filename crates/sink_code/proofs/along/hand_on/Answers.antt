use Rattle.std.proofs.Common.{◌≡◌, ◌<◌, List, Bool, IfSome, length, set, subst, ap, sym, ◌∙◌}
use Rattle.bit_rows.specs.BitLaws.{length_minus, length_or}
use Rattle.bit_rows.specs.Bits.{minus_bits, or_bits, row_of}
use Rattle.key_rows.specs.KeyRowLaws.{with_found}
use Rattle.path_laws.specs.RowLaws.{put}
use Rattle.sink_code.proofs.Carrying.{handed_on}
use Rattle.sink_code.proofs.along.hand_on.Goals as goal
use Rattle.sink_code.proofs.along.hand_on.Goals.{After-or_minus_within}

-- what is joined to the row
joined : (c : After-or_minus_within) → c.or_minus_within.new.self ≡ set c.args.rows.now c.args.node (or_bits (row_of c.args.rows.now c.args.node) (minus_bits (row_of c.args.rows.now c.args.before) (row_of c.args.blocked.now c.args.before)))
joined c = c.or_minus_within.ensures ∙ ap (λ (less : List Bool). set c.args.rows.now c.args.node (or_bits (row_of c.args.rows.now c.args.node) (minus_bits (row_of c.args.rows.now c.args.before) less))) c.row.ensures

pub set-requires-clause-bit : goal.set-requires-clause-bit
set-requires-clause-bit c =
    let rows = c.args.rows.now in
    let node = c.args.node in
    let before = c.args.before in
    let blocked = c.args.blocked.now in
    let long = c.requires.rows.each node c.requires.node in
    let from = c.requires.rows.each before c.requires.before in
    let equal = from ∙ sym (c.requires.blocked.shape.each before c.requires.before) in
    let passed = minus_bits (row_of rows before) (row_of blocked before) in
    let alike = long ∙ sym (length_minus (row_of rows before) (row_of blocked before) equal ∙ from) in
    let made = put rows c.or_minus_within.new.self node (or_bits (row_of rows node) passed) (rw c.requires.rows.len c.requires.node) (joined (goal.at.set-requires-clause-bit c).After-or_minus_within) in
    let here : length (row_of c.or_minus_within.new.self c.args.node) ≡ length c.args.over.now.table.now = ap length made.here ∙ length_or (row_of rows node) passed alike ∙ long in
    let within : c.in-Some.number < length c.args.over.now.table.now = subst (λ o. IfSome o (λ k. k < length c.args.over.now.table.now)) c.in-Some.is c.number_at.ensures.within in
    rw here within

pub returns-in-Some : goal.returns-in-Some
returns-in-Some c =
    handed_on c.args.over.now c.args.blocked.now c.requires.blocked c.args.before c.requires.before c.number_at.result c.number_at.ensures c.args.node c.args.rows.now c.or_minus_within.new.self c.set.new.self c.requires.rows c.requires.node (joined (goal.at.returns-in-Some c).After-or_minus_within)
    (c.set.ensures ∙ ap (with_found c.or_minus_within.new.self c.args.node) (sym c.in-Some.is))

pub returns-in_default : goal.returns-in_default
returns-in_default c =
    handed_on c.args.over.now c.args.blocked.now c.requires.blocked c.args.before c.requires.before c.number_at.result c.number_at.ensures c.args.node c.args.rows.now c.or_minus_within.new.self c.or_minus_within.new.self c.requires.rows c.requires.node (joined (goal.at.returns-in_default c).After-or_minus_within)
    (ap (with_found c.or_minus_within.new.self c.args.node) (sym c.in_default.is))
