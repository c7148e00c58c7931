use Rattle.std.proofs.Common.{◌∙◌, sym, subst}
use Rattle.mir_base.specs.Shapes.{IsProgram}
use Rattle.mir_valid.specs.Rules.{global_names}
use Rattle.mir_valid.proofs.ProgramLaws.{program_fits}
use Rattle.mir_valid.proofs.numbering.program_of.Goals as goal

pub invariant_of-result : goal.invariant_of-result
invariant_of-result c =
    subst (λ globals. IsProgram globals c.of-2.result) (sym (c.of.ensures ∙ c.in_ok-names.ensures))
    (subst (IsProgram (global_names c.args.globals.now)) (sym (c.of-2.ensures ∙ c.in_ok-made.ensures.made)) (program_fits c.args.globals.now c.args.units.now c.requires c.in_ok-made.ensures.places))
