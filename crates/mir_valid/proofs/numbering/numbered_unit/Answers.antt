use Rattle.std.proofs.Common.{◌≡◌, List, ℕ, length, ap, ◌∙◌, sym, subst}
use Rattle.mir_base.specs.Shapes.{IsTidy}
use Rattle.mir_base.specs.declared.instructions.Inst.{Inst}
use Rattle.mir_parse.specs.declared.raw.RawInst.{RawInst}
use Rattle.mir_valid.specs.NameTables.{entries_from}
use Rattle.mir_valid.specs.Numbered.{variables_of, Numbers, numbered_body}
use Rattle.mir_valid.proofs.TidyLaws.{tidy_numbered}
use Rattle.mir_valid.proofs.numbering.numbered_unit.Goals as goal

pub invariant_of-result : goal.invariant_of-result
invariant_of-result c =
    let raw : List RawInst = c.items-raw_body.result.now in
    let numbers : Numbers = record { units = c.args.units.now; vars = c.numbers.result.now; labels = c.in_ok-labels.labels } in
    let vars : c.of-2.result ≡ variables_of c.args.globals.now raw = c.of-2.ensures ∙ c.into_names.ensures ∙ c.in_ok-vars.ensures in
    let insts : c.of-3.result ≡ numbered_body numbers raw = c.of-3.ensures ∙ c.in_ok-body.ensures in
    let numbered_vars : numbers.vars ≡ entries_from 0 (variables_of c.args.globals.now raw) = c.numbers.ensures ∙ ap (entries_from 0) c.in_ok-vars.ensures in
    subst (λ (names : List (List ℕ)). IsTidy (length c.args.globals.now) names c.of-3.result) (sym vars)
    (subst (λ (body : List Inst). IsTidy (length c.args.globals.now) (variables_of c.args.globals.now raw) body) (sym insts) (tidy_numbered c.args.globals.now numbers raw c.requires numbered_vars))
