use Rattle.unit_callers.specs.Calling.{NotesCalls}
use Rattle.unit_callers.proofs.calling.note_calls.Given as goal

abbrev pub invariant-loop-n : goal.invariant-loop-n
invariant-loop-n l = NotesCalls l.graph l.n l.unit l.initial.callers.items l.callers.items
