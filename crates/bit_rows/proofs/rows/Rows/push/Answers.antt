use Rattle.std.proofs.Common.{◌≡◌, ◌+◌, ◌∷◌, ◌++◌, [], length}
use Rattle.bit_rows.proofs.Flat.{HoldRows}
use Rattle.bit_rows.proofs.Grown.{grown}
use Rattle.bit_rows.proofs.rows.Rows.push.Goals as goal
use Rattle.bit_rows.proofs.rows.Rows.push.Goals.{In_ok-push_words}

held : (c : In_ok-push_words) → HoldRows c.in-Some.rows c.row.inside.bits (length c.row.inside.words.now) c.push_words.new.made.items (c.args.self.now ++ c.args.row.now ∷ [])
held c =
    let one_more : c.in-Some.rows ≡ c.self.inside.rows + 1 = c.in-Some.ensures.1 in
    rw (c.in_ok-push_words.ensures.ok, one_more)
    (grown c.self.inside.rows c.self.inside.bits c.self.inside.stride c.self.inside.words.items c.args.self.now c.self.invariant c.self.view_is
    c.row.inside.bits c.row.inside.words.now c.args.row.now (record { fits = c.row.invariant; view = c.row.view_is }) c.requires)

pub invariant_of-self-2 : goal.invariant_of-self-2
invariant_of-self-2 c = (held (goal.at.invariant_of-self-2 c).In_ok-push_words).fit

pub returns-clause-ok : goal.returns-clause-ok
returns-clause-ok c = (held (goal.at.returns-clause-ok c).In_ok-push_words).seen
