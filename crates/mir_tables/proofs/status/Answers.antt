use Rattle.std.proofs.Common.{refl}
use Rattle.mir_tables.proofs.status.Goals as goal

pub returns-clause-call : goal.returns-clause-call
returns-clause-call g c = record {
  call = _;
  source_starts = record { bytes_are = c.new-source.ensures.left; no_fault = c.new-source.ensures.faults };
  out_starts = record { bytes_are = c.new-out.ensures.written; no_fault = c.new-out.ensures.faults };
  err_starts = record { bytes_are = c.new-err.ensures.written; no_fault = c.new-err.ensures.faults };
  promises = c.tables.ensures;
  status_is = refl;
}
