use Rattle.std.proofs.Common.{◌≡◌, ◌↔◌, Bool, true, not, sym, subst}
use Rattle.std.specs.Option.{option_map}
use Rattle.zero_flow.specs.ZeroFacts.{BelowZeroFact}
use Rattle.zero_flow.specs.ZeroRules.{zero_rules}
use Rattle.unread_div.specs.Unread.{IsOtherByZeros, may_be_nought_before}
use Rattle.unread_div.proofs.Flagging.{ruled_out_says}
use Rattle.unread_div.proofs.safe.is_other_by_zeros.Goals as goal

pub returns : goal.returns
returns c =
    let graph = c.args.graph.now in
    subst (λ (b : Bool). (not b ≡ true) ↔ IsOtherByZeros graph c.args.n c.args.b) (sym c.may_be_nought_before.ensures)
    (ruled_out_says BelowZeroFact zero_rules may_be_nought_before graph c.args.n c.args.b (option_map (λ list. list.items) c.in_ok-known.known) c.in_ok-known.ensures.known c.in_ok-known.ensures.only)
