use Rattle.std.proofs.Common.{◌≡◌, ◌↔◌, Bool, true, not, sym, subst}
use Rattle.std.specs.Option.{option_map}
use Rattle.bounds.specs.BoundRules.{bound_rules}
use Rattle.bounds.specs.Facts.{BelowFact}
use Rattle.unread_div.specs.Unread.{IsOtherByBounds, bounds_have_zero}
use Rattle.unread_div.proofs.Flagging.{ruled_out_says}
use Rattle.unread_div.proofs.safe.is_other_by_bounds.Goals as goal

pub returns : goal.returns
returns c =
    let graph = c.args.graph.now in
    subst (λ (b : Bool). (not b ≡ true) ↔ IsOtherByBounds graph c.args.n c.args.b) (sym c.bounds_have_zero.ensures)
    (ruled_out_says BelowFact bound_rules bounds_have_zero graph c.args.n c.args.b (option_map (λ list. list.items) c.in_ok-known.known) c.in_ok-known.ensures.known c.in_ok-known.ensures.only)
