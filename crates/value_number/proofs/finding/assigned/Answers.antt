use Rattle.std.proofs.Common.{◌≡◌, ◌∙◌, true, false, None, sym, subst, if◌then◌else◌, length}
use Rattle.mir_base.specs.Expressions.{divides}
use Rattle.value_number.specs.Entries.{GainsEntriesFor}
use Rattle.value_number.specs.Terms.{Terms, Opaque, assigned_term, rhs_term}
use Rattle.value_number.specs.Table.{Represent, StandOn, Stands}
use Rattle.value_number.specs.declared.terms.TermKey.TheVariants as keys
use Rattle.value_number.proofs.Entries.{division_grows, rhs_grows}
use Rattle.value_number.proofs.Holders.{dividing_unheld, finds_assigned}
use Rattle.value_number.proofs.Stands.{all_with}
use Rattle.value_number.proofs.finding.assigned.Goals as goal

pub returns-in_ok-number-clause-finds : goal.returns-in_ok-number-clause-finds
returns-in_ok-number-clause-finds c =
    let divided : divides c.args.rhs ≡ true = sym c.divides.ensures ∙ c.if-divides.true in
    finds_assigned c.args.table.now c.term_number.new.table c.args.numbers.now c.args.root c.args.n c.args.x c.args.next c.in_ok-number.number c.args.rhs None c.changes.result c.in_ok-number.ensures.stay
    (λ terms represent. all_with c.args.table.now (keys.Opaque c.args.n c.args.x) c.term_number.new.table (Opaque c.args.n c.args.x) c.in_ok-number.ensures.with_key (λ k at. at))
    (division_grows c.args.table.now c.term_number.new.table c.args.numbers.now c.args.root c.args.n c.args.x c.args.next c.args.rhs c.requires.within divided c.in_ok-number.ensures.with_key) c.requires.within
    (λ terms represent. subst (λ b. Stands c.term_number.new.table c.in_ok-number.number (if b then Opaque c.args.n c.args.x else rhs_term terms c.args.rhs)) (sym divided) c.in_ok-number.ensures.here)
    (λ terms represent. dividing_unheld (length c.args.numbers.now) terms c.args.rhs divided)
    c.changes.ensures.holder c.changes.ensures.change

pub returns-in_ok-number-2-clause-finds : goal.returns-in_ok-number-2-clause-finds
returns-in_ok-number-2-clause-finds c =
    let undivided : divides c.args.rhs ≡ false = sym c.divides.ensures ∙ c.if-divides.false in
    let stands : (terms : Terms) → Represent c.args.table.now c.args.numbers.now c.args.root terms → Stands c.rhs_number.new.table c.in_ok-number-2.number (rhs_term terms c.args.rhs) =
    λ terms represent. c.in_ok-number-2.ensures.stands terms (subst (λ l. Represent c.args.table.now l c.args.root terms) (sym c.as_slice.ensures) represent) in
    let given : (terms : Terms) → Represent c.args.table.now c.args.numbers.now c.args.root terms → Stands c.rhs_number.new.table c.in_ok-number-2.number (assigned_term c.args.n c.args.x terms c.args.rhs) =
    λ terms represent. subst (λ b. Stands c.rhs_number.new.table c.in_ok-number-2.number (if b then Opaque c.args.n c.args.x else rhs_term terms c.args.rhs)) (sym undivided) (stands terms represent) in
    finds_assigned c.args.table.now c.rhs_number.new.table c.args.numbers.now c.args.root c.args.n c.args.x c.args.next c.in_ok-number-2.number c.args.rhs c.holder.result c.changes-else-divides.result c.in_ok-number-2.ensures.stay
    (subst (λ l. StandOn c.args.table.now l c.args.root c.rhs_number.new.table) c.as_slice.ensures c.in_ok-number-2.ensures.all)
    (rhs_grows c.args.table.now c.rhs_number.new.table c.args.numbers.now c.args.root c.args.n c.args.x c.args.next c.in_ok-number-2.number c.args.rhs c.requires.within given
    (subst (λ l. GainsEntriesFor l c.args.root c.in_ok-number-2.number c.args.table.now c.rhs_number.new.table) c.as_slice.ensures c.in_ok-number-2.ensures.grows)) c.requires.within given
    (λ terms represent. c.holder.ensures.holder c.args.table.now c.rhs_number.new.table c.args.root terms (sym c.len-known.ensures.len) c.in_ok-number-2.ensures.stay c.len-distinct.ensures.differ represent (stands terms represent))
    c.changes-else-divides.ensures.holder c.changes-else-divides.ensures.change
