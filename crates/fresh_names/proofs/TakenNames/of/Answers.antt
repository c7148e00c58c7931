use Rattle.std.proofs.Common.{◌≡◌, ◌∙◌, ◌≤◌, length, ap, sym}
use Rattle.std.proofs.lemmas.List.{take_all}
use Rattle.fresh_names.proofs.Taken.{borrowed_bytes, has_text, has_contains, text_more}
use Rattle.fresh_names.proofs.TakenNames.of.Goals as goal

pub loop-name-preserved : goal.loop-name-preserved
loop-name-preserved c = λ x. text_more c.args.names.now c.loop-name.name-index c.name-item.result x c.loop-name.taken.keys c.insert.new.self.keys c.bytes.result c.loop-name-test.true c.name-item.is c.bytes.ensures.value c.in_ok-insert.ensures.keys (c.loop-name.invariant x)

pub returns : goal.returns
returns c = λ x.
    let late : length c.args.names.now ≤ c.loop-name.name-index = c.loop-name-test.false in
    let same : has_text (borrowed_bytes c.loop-name.taken.keys) x ≡ has_text c.args.names.now x = c.loop-name.invariant x ∙ ap (λ l. has_text l x) (take_all c.loop-name.name-index c.args.names.now late) in (
      λ there. (has_contains c.args.names.now x).0 (sym same ∙ (has_contains (borrowed_bytes c.loop-name.taken.keys) x).1 there),
      λ there. (has_contains (borrowed_bytes c.loop-name.taken.keys) x).0 (same ∙ (has_contains c.args.names.now x).1 there),
    )
