use Rattle.std.proofs.Common.{◌≡◌, ℕ, ◌++◌, ◌∙◌, List, ap, length, refl, subst}
use Rattle.value_number.specs.declared.all_terms.TermsAt.{TermsAt}
use Rattle.pass_table.specs.Terms.{nodes_below, terms_below}
use Rattle.table_text.specs.TurnLaws.{two_pieces}
use Rattle.pass_table.proofs.terms.put_terms.Goals as goal

pub returns : goal.returns
returns c =
    let vars = c.args.graph.now.vars in
    let all = c.in_ok-all.all in
    let table = terms_below vars all.table (length all.table) in
    let nodes = nodes_below all.nodes.items (length all.nodes.items) in
    let first = c.in_ok-put_table.ensures ∙ ap (λ (l : List (List ℕ)). c.args.text.now.items ++ terms_below l all.table (length all.table)) c.vars.ensures in
    let second = subst (λ (l : List TermsAt). c.put_nodes.new.text.items ≡ c.put_table.new.text.items ++ nodes_below l (length l)) c.as_slice.ensures.value c.in_ok-put_nodes.ensures in (
      table ++ nodes,
      record { table = all.table; nodes = all.nodes.items; are = c.in_ok-all.ensures.terms; text_is = refl },
      two_pieces c.args.text.now c.put_table.new.text c.put_nodes.new.text table nodes first second,
    )
