use Rattle.mir_top.proofs.Judgements.{refuses_same, completes_same, completes_no_refusal}
use Rattle.mir_top.proofs.laws.one_thing_is_due.Goals as goal

pub returns-clause-refusal : goal.returns-clause-refusal
returns-clause-refusal c = refuses_same c.text_has_one_reading.ensures

pub returns-clause-status : goal.returns-clause-status
returns-clause-status c = completes_same c.text_has_one_reading.ensures

pub returns-clause-either : goal.returns-clause-either
returns-clause-either c = completes_no_refusal c.text_has_one_reading.ensures
