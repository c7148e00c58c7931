use Rattle.std.proofs.Common.{◌≡◌, List, ap, ◌∙◌, sym, subst}
use Rattle.mir_base.specs.Shapes.{UnitShape}
use Rattle.mir_valid.specs.Rules.{global_names}
use Rattle.mir_valid.specs.Refusals.{AreValid}
use Rattle.mir_valid.specs.Stands.{UnitsStand}
use Rattle.mir_valid.specs.Numbered.{numbered_units}
use Rattle.mir_valid.proofs.RefusedLaws.{valid_of}
use Rattle.mir_valid.proofs.StandsLaws.{units_stand, units_only}
use Rattle.mir_valid.proofs.checking.check.Goals as goal

pub program_of-requires : goal.program_of-requires
program_of-requires c = valid_of c.items-globals.result.now c.items-units.result.now (sym c.in-Ok-None.ensures ∙ c.in-Ok-None.field-0-is)

is-valid : (c : goal.In-Ok) → AreValid c.args.raw.now.globals c.args.raw.now.units
is-valid c =
    subst (λ globals. AreValid globals c.args.raw.now.units) c.items-globals.ensures
    (subst (AreValid c.items-globals.result.now) c.items-units.ensures (valid_of c.items-globals.result.now c.items-units.result.now (sym c.in-Ok-None.ensures ∙ c.in-Ok-None.field-0-is)))

globals-are : (c : goal.In-Ok) → c.in-Ok.program.globals ≡ global_names c.args.raw.now.globals
globals-are c = c.in-Ok.ensures.globals ∙ ap global_names c.items-globals.ensures

units-are : (c : goal.In-Ok) → c.in-Ok.program.units ≡ numbered_units c.args.raw.now.globals c.args.raw.now.units
units-are c = c.in-Ok.ensures.units ∙ ap (λ globals. numbered_units globals c.items-units.result.now) c.items-globals.ensures ∙ ap (numbered_units c.args.raw.now.globals) c.items-units.ensures

pub returns-in-Ok-clause-found : goal.returns-in-Ok-clause-found
returns-in-Ok-clause-found c = (
  is-valid c,
  record {
    globals = globals-are c;
    units = subst (λ (units : List UnitShape). UnitsStand (global_names c.args.raw.now.globals) c.args.raw.now.units units) (sym (units-are c)) (units_stand c.args.raw.now.globals c.args.raw.now.units (is-valid c));
  },
)

pub returns-in-Ok-clause-only : goal.returns-in-Ok-clause-only
returns-in-Ok-clause-only c =
    λ valid other stands. λ i. record {
      globals = (stands.globals ∙ sym (globals-are c)) i;
      units = (units_only c.args.raw.now.globals c.args.raw.now.units other.units valid stands.units ∙ sym (units-are c)) i;
    }
