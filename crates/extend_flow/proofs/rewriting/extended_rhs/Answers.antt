use Rattle.std.proofs.Common.{◌∙◌, ap, sym}
use Rattle.std.specs.Option.{option_map}
use Rattle.extend_flow.specs.Extended.{extended_where}
use Rattle.extend_flow.proofs.rewriting.extended_rhs.Goals as goal

-- by what is known before the node
pub returns-in_ok-known-in-Some : goal.returns-in_ok-known-in-Some
returns-in_ok-known-in-Some c =
    let known = option_map (λ list. list.items) c.in_ok-known-in-Some.known in
    record {
      known = known;
      is_known = λ e is. c.in_ok-known-in-Some.ensures.known;
      is = c.extended_by-made.ensures ∙ ap (extended_where known c.args.rhs) (sym c.in-Some.is ∙ c.extension_of.ensures);
    }
