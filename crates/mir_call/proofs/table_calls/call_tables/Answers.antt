use Rattle.mir_call.proofs.Statuses.{table_is_not_six}
use Rattle.mir_call.proofs.table_calls.call_tables.Goals as goal

pub returns-clause-no_read_fault : goal.returns-clause-no_read_fault
returns-clause-no_read_fault c = table_is_not_six c.args.words.now c.args.text.now _ _ c.called.result.status c.called.ensures.done
