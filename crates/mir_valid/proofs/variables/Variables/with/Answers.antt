use Rattle.std.proofs.Common.{◌≡◌, ap, ◌∙◌, sym, length, arith, rules}
use Rattle.std.proofs.lemmas.Grind.{common_steps}
use Rattle.mir_valid.specs.NameTables.{with_entry, entries_from}
use Rattle.mir_valid.specs.Numbered.{with_name}
use Rattle.mir_valid.proofs.TableLaws.{with_entry_from, names_with}
use Rattle.mir_valid.proofs.variables.Variables.with.Goals as goal
use Rattle.mir_valid.proofs.variables.Variables.with.Goals.{then-is_new+in_ok-clone+in_ok-push, else-is_new}

names-are : (c : goal.Joined-is_new) → c.if-is_new.names.items ≡ with_name c.self.inside.names.items c.args.name.now
names-are c =
    names_with c.self.inside.numbers c.self.inside.names.items c.if-is_new.names.items c.args.name.now c.in_ok-is_new.is_new c.self.invariant c.in_ok-is_new.ensures.new
    (λ yes. elim c.if-is_new.branch [ then-is_new+in_ok-clone+in_ok-push w ↦ grind (arith, common_steps) | else-is_new w ↦ absurd (cc) ])
    (λ no. elim c.if-is_new.branch [ then-is_new+in_ok-clone+in_ok-push w ↦ absurd (cc) | else-is_new w ↦ ap (λ v. v.items) w.names-is ])

pub returns : goal.returns
returns c = names-are c ∙ ap (λ names. with_name names c.args.name.now) c.self.view_is

pub invariant_of-result : goal.invariant_of-result
invariant_of-result c =
    let size : c.len.result ≡ length c.self.inside.names.items = search rules in
    c.in_ok-is_new.ensures.added
    ∙ ap (λ table. with_entry table (c.args.name.now, c.len.result)) c.self.invariant
    ∙ ap (λ n. with_entry (entries_from 0 c.self.inside.names.items) (c.args.name.now, n)) size
    ∙ with_entry_from c.self.inside.names.items c.args.name.now
    ∙ ap (entries_from 0) (sym (names-are c))
