use Rattle.std.proofs.Common.{◌≡◌, ◌∙◌, ℕ, List, length, flat_map, sym, ap, subst}
use Rattle.mir_base.specs.declared.instructions.Inst.{Inst}
use Rattle.mir_base.specs.Shapes.{AllBelow, inst_vars}
use Rattle.mir_trial.proofs.Valid.{body_below}
use Rattle.mir_trial.proofs.units.unit.Goals as goal

pub tidied-requires-clause-below : goal.tidied-requires-clause-below
tidied-requires-clause-below c =
    let nine : length c.args.vars.now ≡ 9 = ap length c.requires.vars in
    subst (λ (n : ℕ). AllBelow n (flat_map inst_vars c.deref.result.now)) (sym nine)
    (subst (λ (body : List Inst). AllBelow 9 (flat_map inst_vars body)) (sym (c.deref.ensures.value ∙ c.in_ok-body.ensures.body)) (body_below c.args.number c.args.last c.args.draws.now.state))
