use Rattle.std.proofs.Common.{◌≡◌, ◌++◌, ◌∙◌, ap, sym, slice_get, slice_index_or, List, [], ℕ, arith}
use Rattle.std.proofs.lemmas.List.{append-nil}
use Rattle.mir_top.specs.RangeTexts.{temporary_of}
use Rattle.mir_top.proofs.RangeLaws.{no_line, one_line, one_next, same_next}
use Rattle.mir_top.proofs.ranges.put_number.Goals as goal

pub returns-then-inserted-eq0-clause-text : goal.returns-then-inserted-eq0-clause-text
returns-then-inserted-eq0-clause-text c =
    let unit = c.args.unit.now in
    let text = c.args.text.now.items in
    let none = sym c.count_of-inserted.ensures ∙ c.if-inserted-eq0.true in
    sym (append-nil text) ∙ ap (λ (l : List ℕ). text ++ l) (sym (no_line unit c.args.held.now.edges c.args.number (slice_get unit.table c.args.number) none))

pub returns-then-inserted-eq0-clause-next : goal.returns-then-inserted-eq0-clause-next
returns-then-inserted-eq0-clause-next c =
    let none = sym c.count_of-inserted.ensures ∙ c.if-inserted-eq0.true in
    c.requires.temporary ∙ same_next c.args.unit.now c.args.number none

pub returns-clause-text : goal.returns-clause-text
returns-clause-text c =
    let unit = c.args.unit.now in
    let text = c.args.text.now.items in
    let name : c.name_of.result.now ≡ temporary_of unit c.args.number =
    c.name_of.ensures ∙ ap (λ (l : List (List ℕ)). slice_index_or l c.args.temporary []) c.vars.ensures
    ∙ ap (λ (n : ℕ). slice_index_or unit.moved.vars n []) c.requires.temporary in
    let line = one_line unit c.args.held.now.edges c.args.number c.get.result.now c.name_of.result.now c.vars-2.result.now c.count_of-inserted.result c.count_of-replaced.result c.count_of-held.result c.get.ensures
    (λ zero. c.if-inserted-eq0.false (c.count_of-inserted.ensures ∙ zero)) name c.vars-2.ensures c.count_of-inserted.ensures c.count_of-replaced.ensures c.count_of-held.ensures in
    c.in_ok-put_line.ensures ∙ ap (λ (l : List ℕ). text ++ l) line

pub returns-clause-next : goal.returns-clause-next
returns-clause-next c =
    let some = one_next c.args.unit.now c.args.number (λ zero. c.if-inserted-eq0.false (c.count_of-inserted.ensures ∙ zero)) in
    omega (arith, c.in_ok-next.ensures, c.requires.temporary, some)
