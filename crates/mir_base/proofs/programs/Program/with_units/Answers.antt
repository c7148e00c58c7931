use Rattle.std.proofs.Common.{◌∙◌, ap, sym, subst}
use Rattle.mir_base.specs.Shapes.{IsProgram, ProgramShape}
use Rattle.mir_base.proofs.programs.Program.with_units.Goals as goal

pub invariant_of-result : goal.invariant_of-result
invariant_of-result c =
    subst (λ g. IsProgram g c.of.result) (sym (c.in_ok-globals.ensures.cases (λ item other e. e) ∙ ap (λ (p : ProgramShape). p.globals) c.self.view_is)) (subst (IsProgram c.args.self.now.globals) (sym c.of.ensures) c.requires)
