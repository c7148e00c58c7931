use Rattle.mir_print.proofs.Reading.{spells_for, text_of_only}
use Rattle.mir_print.proofs.reading_back.text_is_read_back.Goals as goal

pub returns : goal.returns
returns c = record {
  spelled = spells_for c.args.program.now c.hand_out_program.ensures;
  read_back = text_of_only c.args.program.now c.hand_out_program.ensures c.raw_is_unique.ensures c.program_is_unique.ensures;
}
