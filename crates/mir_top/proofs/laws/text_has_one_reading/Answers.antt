use Rattle.mir_top.proofs.laws.text_has_one_reading.Goals as goal

pub returns : goal.returns
returns c = record {
  raw_one = c.raw_is_unique.ensures;
  fault_one = c.refusal_is_unique.ensures.one;
  fault_none = c.refusal_is_unique.ensures.none;
  valid_none = c.refused_is_not_valid.ensures.valid;
  no_memory_none = c.refused_is_not_valid.ensures.memory;
  program_one = c.program_is_unique.ensures;
}
