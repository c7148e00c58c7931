use Rattle.std.proofs.Common.{◌≡◌, ◌<◌, IfSome, length, subst, ap, sym, ◌∙◌}
use Rattle.bit_rows.specs.BitLaws.{length_minus}
use Rattle.bit_rows.specs.Bits.{minus_bits, row_of}
use Rattle.key_rows.specs.KeyRowLaws.{with_found}
use Rattle.path_laws.specs.RowLaws.{put}
use Rattle.sink_code.proofs.Carrying.{passed_over, passed_skip}
use Rattle.sink_code.proofs.along.pass_over.Goals as goal

-- a Skip changes nothing
pub returns-then-is_skip : goal.returns-then-is_skip
returns-then-is_skip c = passed_skip c.args.over.now c.args.node c.args.row c.node.result.now c.args.rows.now c.node.ensures (sym c.is_skip.ensures ∙ c.if-is_skip.true)

pub set-requires-clause-bit : goal.set-requires-clause-bit
set-requires-clause-bit c =
    let rows = c.args.rows.now in
    let row = c.args.row in
    let blocked = c.args.blocked.now in
    let long = c.requires.rows.each row c.requires.row in
    let equal = long ∙ sym (c.requires.blocked.shape.each c.args.node c.requires.node) in
    let made = put rows c.minus_into.new.self row (minus_bits (row_of rows row) (row_of blocked c.args.node)) c.requires.row c.minus_into.ensures in
    let here : length (row_of c.minus_into.new.self c.args.row) ≡ length c.args.over.now.table.now = ap length made.here ∙ length_minus (row_of rows row) (row_of blocked c.args.node) equal ∙ long in
    let within : c.in-Some.number < length c.args.over.now.table.now = subst (λ o. IfSome o (λ k. k < length c.args.over.now.table.now)) c.in-Some.is c.number_at.ensures.within in
    rw here within

pub returns-in-Some : goal.returns-in-Some
returns-in-Some c =
    passed_over c.args.over.now c.args.blocked.now c.requires.blocked c.args.node c.requires.node c.number_at.result c.number_at.ensures c.args.row c.args.rows.now c.minus_into.new.self c.set.new.self c.requires.rows c.requires.row c.minus_into.ensures
    (c.set.ensures ∙ ap (with_found c.minus_into.new.self c.args.row) (sym c.in-Some.is))

pub returns-in_default : goal.returns-in_default
returns-in_default c =
    passed_over c.args.over.now c.args.blocked.now c.requires.blocked c.args.node c.requires.node c.number_at.result c.number_at.ensures c.args.row c.args.rows.now c.minus_into.new.self c.minus_into.new.self c.requires.rows c.requires.row c.minus_into.ensures
    (ap (with_found c.minus_into.new.self c.args.row) (sym c.in_default.is))
