use Rattle.std.proofs.Common.{◌∙◌, sym}
use Rattle.mir_valid.proofs.StandsLaws.{units_only}
use Rattle.mir_valid.proofs.laws.program_is_unique.Goals as goal

pub returns : goal.returns
returns c =
    λ raw valid one other first second. λ i. record {
      globals = (first.globals ∙ sym second.globals) i;
      units = (units_only raw.globals raw.units one.units valid first.units ∙ sym (units_only raw.globals raw.units other.units valid second.units)) i;
    }
