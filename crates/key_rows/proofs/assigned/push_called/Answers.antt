use Rattle.std.proofs.Common.{◌≡◌, ◌∷◌, ◌++◌, [], List, Bool, length, slice_set, ap, sym, ◌∙◌, subst}
use Rattle.mir_base.specs.Shapes.{AllBelow, into_vars}
use Rattle.bit_rows.specs.Bits.{AreEquallyLong, or_bits, row_of}
use Rattle.key_rows.specs.KeyRows.{called_row}
use Rattle.key_rows.specs.KeyRowLaws.{joined_long, last_joined, last_row}
use Rattle.key_rows.proofs.assigned.push_called.Goals as goal
use Rattle.key_rows.proofs.assigned.push_called.Goals.{After-view}

-- the row of the globals has so many bits
long : (c : After-view) → length c.view.result ≡ c.args.bits
long c = ap length (c.view.ensures ∙ c.requires.globals) ∙ joined_long c.args.by_var.now c.args.bits c.args.shared c.requires.shared c.requires.shape.each

pub push-requires : goal.push-requires
push-requires c = subst (λ n. AreEquallyLong n c.args.rows.now) (sym (long (goal.at.push-requires c).After-view)) c.requires.long

pub or_into-requires-clause-equally_long : goal.or_into-requires-clause-equally_long
or_into-requires-clause-equally_long c =
    let rows = c.args.rows.now in
    let row = c.view.result in
    let x = c.in-Some.x in
    let below = subst (λ o. AllBelow (length c.args.by_var.now) (into_vars o)) c.in-Some.is c.requires.below in
    ap (λ (l : List (List Bool)). length (row_of l c.len-last.result)) c.in_ok-push.ensures.ok
    ∙ ap (λ k. length (row_of (rows ++ row ∷ []) k)) c.len-last.ensures
    ∙ ap length (last_row rows row)
    ∙ long (goal.at.or_into-requires-clause-equally_long c).After-view
    ∙ sym (c.requires.shape.each x below.0)

pub returns-in-Some : goal.returns-in-Some
returns-in-Some c =
    let rows = c.args.rows.now in
    let by = c.args.by_var.now in
    let x = c.in-Some.x in
    let last = c.len-last.result in
    c.or_into.ensures
    ∙ ap (λ (l : List (List Bool)). slice_set l last (or_bits (row_of l last) (row_of by x))) c.in_ok-push.ensures.ok
    ∙ last_joined rows c.view.result (row_of by x) last c.len-last.ensures
    ∙ ap (λ g. rows ++ or_bits g (row_of by x) ∷ []) (c.view.ensures ∙ c.requires.globals)
    ∙ sym (ap (λ o. rows ++ called_row by c.args.bits c.args.shared o ∷ []) c.in-Some.is)
