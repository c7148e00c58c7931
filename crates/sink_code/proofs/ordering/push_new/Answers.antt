use Rattle.std.proofs.Common.{◌∙◌, ◌++◌, ◌∷◌, [], List, if◌then◌else◌, ap, sym}
use Rattle.sink_code.specs.declared.inserting.PutBefore.{PutBefore}
use Rattle.sink_code.specs.FoundPuts.{ends_at_site}
use Rattle.sink_code.proofs.ordering.push_new.Goals as goal

pub returns-then-ends_at_site : goal.returns-then-ends_at_site
returns-then-ends_at_site c =
    let once = c.args.once.now.items in
    let put = c.args.put.now in
    sym (ap (λ b. if b then once else once ++ put ∷ []) (sym (c.ends_at_site.ensures ∙ ap (λ (l : List PutBefore). ends_at_site l put) c.as_slice.ensures.value) ∙ c.if-ends_at_site.true))

pub returns-in_ok-push : goal.returns-in_ok-push
returns-in_ok-push c =
    let once = c.args.once.now.items in
    let put = c.args.put.now in
    c.in_ok-push.ensures.items ∙ sym (ap (λ b. if b then once else once ++ put ∷ []) (sym (c.ends_at_site.ensures ∙ ap (λ (l : List PutBefore). ends_at_site l put) c.as_slice.ensures.value) ∙ c.if-ends_at_site.false))
