use Rattle.std.proofs.Common.{◌≡◌, [], ◌∷◌, ◌++◌, append_assoc, ap, sym, subst, ◌∙◌}
use Rattle.mir_base.specs.Shapes.{AllDiffer}
use Rattle.key_table.specs.KeyLaws.{put_in_order}
use Rattle.key_table.proofs.tables.KeyTable.of.Goals as goal

pub loop-key-preserved : goal.loop-key-preserved
loop-key-preserved g c =
    let old = c.loop-key.table in
    let key = c.in-Some.key in
    let rest = c.next.new.self.rest.items in
    let all : old ++ key ∷ rest ≡ c.args.keys.items = ap (λ l. old ++ l) (sym c.in-Some.ensures.steps.0) ∙ c.loop-key.invariant in
    let put = put_in_order old key c.number.new.self c.in_ok-number.ensures.with_key rest (subst AllDiffer (sym all) c.requires) in
    ap (λ l. l ++ rest) put ∙ append_assoc old (key ∷ []) rest ∙ all
