use Rattle.std.proofs.Common.{◌≡◌, ◌∙◌, List, ℕ, [], ◌∷◌, ◌++◌, slice_set, sym, ap, subst}
use Rattle.std.proofs.lemmas.List.{get_or_default}
use Rattle.node_list.specs.Lists.{list_at}
use Rattle.unit_callers.specs.Calling.{NotesCall}
use Rattle.unit_callers.proofs.Called.{notes_call, notes_push}
use Rattle.unit_callers.proofs.calling.note_call.Goals as goal

pub returns-in_ok-note-in-Call : goal.returns-in_ok-note-in-Call
returns-in_ok-note-in-Call c =
    let rows = c.args.callers.now.items in
    let called = c.in-Call.called in
    let row = c.note.new.self in
    let lt = c.requires c.in-Call.field-0 called c.in-Call.field-2 c.in-Call.field-3 c.in-Call.is in
    let value : c.index_mut.result.now ≡ list_at rows called = c.index_mut.ensures.value ∙ get_or_default rows called _ [] lt in
    subst (λ node. NotesCall node c.args.unit rows (slice_set rows called row)) (sym c.in-Call.is)
    (notes_call c.in-Call.field-0 called c.in-Call.field-2 c.in-Call.field-3 c.args.unit rows row lt (notes_push c.args.unit (list_at rows called) row (c.in_ok-note-in-Call.ensures ∙ ap (λ (l : List ℕ). l ++ c.args.unit ∷ []) value)))
