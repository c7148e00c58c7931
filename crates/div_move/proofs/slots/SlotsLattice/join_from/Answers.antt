use Rattle.std.proofs.Common.{◌∙◌, length, sym, ap}
use Rattle.div_move.proofs.Pairs.{pairs_join, pairs_unchanged, same_rows}
use Rattle.div_move.proofs.slots.SlotsLattice.join_from.Goals as goal

pub or_from-first-requires : goal.or_from-first-requires
or_from-first-requires c =
    (same_rows c.self.inside.known.first c.self.inside.known.second c.other.inside.known.first c.other.inside.known.second c.self.invariant c.other.invariant (ap length c.self.view_is ∙ c.requires ∙ sym (ap length c.other.view_is))).0
    ∙ sym (ap length c.view.ensures)

pub or_from-second-requires : goal.or_from-second-requires
or_from-second-requires c =
    (same_rows c.self.inside.known.first c.self.inside.known.second c.other.inside.known.first c.other.inside.known.second c.self.invariant c.other.invariant (ap length c.self.view_is ∙ c.requires ∙ sym (ap length c.other.view_is))).1
    ∙ sym (ap length c.view-2.ensures)

pub returns-clause-joined : goal.returns-clause-joined
returns-clause-joined c =
    let size = ap length c.self.view_is ∙ c.requires ∙ sym (ap length c.other.view_is) in
    rw (c.or_from-first.ensures.or, c.or_from-second.ensures.or, c.view.ensures, c.view-2.ensures, ← c.self.view_is, ← c.other.view_is)
    (pairs_join c.self.inside.known.first c.self.inside.known.second c.other.inside.known.first c.other.inside.known.second c.self.invariant c.other.invariant size)

pub returns-clause-unchanged : goal.returns-clause-unchanged
returns-clause-unchanged c =
    rw (← c.self.view_is)
    (pairs_unchanged c.or_from-first.result c.or_from-second.result c.self.inside.known.first c.self.inside.known.second c.or_from-first.new.self c.or_from-second.new.self c.self.invariant
    (c.or_from-second.ensures.len ∙ c.self.invariant ∙ sym c.or_from-first.ensures.len) c.or_from-first.ensures.unchanged c.or_from-second.ensures.unchanged)
