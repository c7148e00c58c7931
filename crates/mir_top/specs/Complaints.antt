-- The status of each cause, and its line on the error output. Cited by contracts.
use Rattle.std.specs.Prelude.{ℕ, ◌≡◌, List, [], ◌++◌, codes, decimal, Option, None, Some}
use Rattle.mir_interp.specs.declared.report.RunFault.{RunFault}
use Rattle.mir_interp.specs.declared.report.RunFault.TheVariants.{WrongInputs, Deep, Memory as NoMemoryForRun}
use Rattle.mir_lex.specs.declared.faults.LexFault.{LexFault}
use Rattle.mir_lex.specs.declared.faults.LexFault.TheVariants.{BadByte, BadNumber, LongName, Memory as NoMemoryForTokens}
use Rattle.mir_outside.specs.declared.transfer.ReadFault.{ReadFault}
use Rattle.mir_outside.specs.declared.transfer.ReadFault.TheVariants.{Failed, TooLong, Memory as NoMemoryForText}
use Rattle.mir_parse.specs.declared.faults.ParseFault.{ParseFault}
use Rattle.mir_parse.specs.declared.faults.ParseFault.TheVariants.{Unexpected, Unfinished, Memory as NoMemoryForRaw}
use Rattle.mir_parse.specs.declared.faults.TextFault.{TextFault}
use Rattle.mir_parse.specs.declared.faults.TextFault.TheVariants.{Lex, Parse}
use Rattle.mir_valid.specs.declared.faults.ValidFault.{ValidFault}
use Rattle.mir_valid.specs.declared.faults.ValidFault.TheVariants.{NoUnit, TooManyUnits, SameUnit, TooManyInsts, LateReceive, SameReceive, TooManyReceives, SameLabel, NoLabel, NoSuchUnit, WrongCount, SameGlobal, TooManyGlobals, GlobalReceive, BadTrap, Memory as NoMemoryForProgram}
use Rattle.mir_top.specs.declared.cause.Cause.{Cause}
use Rattle.mir_top.specs.declared.complaint.ComplaintParts.{ComplaintParts}
use Rattle.mir_top.specs.declared.cause.Cause.TheVariants.{Usage, Reading, Text, Program, Making}

-- a status and a line, with its line feed
pub record Complaint : Type 0 where
  pub status : ℕ
  pub line : List ℕ

-- the decimal digits of a number, and nothing where there is none
abbrev pub number_text : Option ℕ → List ℕ
number_text None = []
number_text (Some number) = decimal number

-- the line that the parts make: two texts, and the number between them where there is one
abbrev pub complaint_line : ComplaintParts → List ℕ
complaint_line parts = parts.before.now ++ number_text parts.number ++ parts.after.now

-- the parts are those of this complaint
pub record ArePartsOf (complaint : Complaint) (parts : ComplaintParts) : Type 0 where
  pub status_is : parts.status ≡ complaint.status
  pub line_is : complaint_line parts ≡ complaint.line

-- ---- the complaints

-- the words are those of no command
abbrev pub usage : Complaint
usage = record {
  status = 1;
  line = codes "usage: mir optimise | stages | move | ranges | divisions | tails | join | thorough"
      ++ codes " | passes [PASS ..] | run STEPS [N ..] | trial NUMBER UNITS\n";
}

-- a run has more or fewer inputs than the program receives
abbrev pub wrong_inputs : ℕ → Complaint
wrong_inputs wanted = record {
  status = 1;
  line = codes "wrong inputs: " ++ decimal wanted ++ codes " wanted\n";
}

-- the text has more bytes than a text may have
abbrev pub too_long : Complaint
too_long = record { status = 2; line = codes "text longer than 1048576 bytes\n" }

-- a run has more frames than a run may have
abbrev pub deep : Complaint
deep = record { status = 5; line = codes "deep: more than 10000 frames\n" }

-- a read of the source failed
abbrev pub read_fault : Complaint
read_fault = record { status = 6; line = codes "read fault\n" }

-- a write of the output failed
abbrev pub write_fault : Complaint
write_fault = record { status = 7; line = codes "write fault\n" }

-- the call ran out of memory
abbrev pub out_of_memory : Complaint
out_of_memory = record { status = 8; line = codes "out of memory\n" }

-- a text is refused with this line
abbrev pub refused : List ℕ → Complaint
refused what = record { status = 2; line = what }

-- a text is refused for what is wrong at this line of it
abbrev pub refused_at : ℕ → List ℕ → Complaint
refused_at line what = refused (codes "line " ++ decimal line ++ what)

-- ---- by the stage at which a call ends

-- the complaint of a text that was not read
abbrev pub of_reading : ReadFault → Complaint
of_reading Failed = read_fault
of_reading TooLong = too_long
of_reading (NoMemoryForText refusal) = out_of_memory

-- the complaint of bytes that are no tokens
abbrev pub of_bytes : LexFault → Complaint
of_bytes (BadByte line) = refused_at line (codes ": bad byte\n")
of_bytes (BadNumber line) = refused_at line (codes ": bad number\n")
of_bytes (LongName line) = refused_at line (codes ": long name\n")
of_bytes (NoMemoryForTokens refusal) = out_of_memory

-- the complaint of tokens that are no raw program
abbrev pub of_tokens : ParseFault → Complaint
of_tokens (Unexpected line) = refused_at line (codes ": unexpected\n")
of_tokens Unfinished = refused (codes "text ends inside a unit\n")
of_tokens (NoMemoryForRaw refusal) = out_of_memory

-- the complaint of a text that spells no raw program
abbrev pub of_text : TextFault → Complaint
of_text (Lex fault) = of_bytes fault
of_text (Parse fault) = of_tokens fault

-- the complaint of a raw program that is not valid
abbrev pub of_program : ValidFault → Complaint
of_program NoUnit = refused (codes "no unit\n")
of_program TooManyUnits = refused (codes "too many units\n")
of_program (SameUnit line) = refused_at line (codes ": unit named twice\n")
of_program (TooManyInsts line) = refused_at line (codes ": too many instructions\n")
of_program (LateReceive line) = refused_at line (codes ": late receive\n")
of_program (SameReceive line) = refused_at line (codes ": variable received twice\n")
of_program (TooManyReceives line) = refused_at line (codes ": too many receives\n")
of_program (SameLabel line) = refused_at line (codes ": label named twice\n")
of_program (NoLabel line) = refused_at line (codes ": no such label\n")
of_program (NoSuchUnit line) = refused_at line (codes ": no such unit\n")
of_program (WrongCount line) = refused_at line (codes ": wrong number of arguments\n")
of_program (SameGlobal line) = refused_at line (codes ": global named twice\n")
of_program (TooManyGlobals line) = refused_at line (codes ": too many globals\n")
of_program (GlobalReceive line) = refused_at line (codes ": global received\n")
of_program (BadTrap line) = refused_at line (codes ": bad trap number\n")
of_program (NoMemoryForProgram refusal) = out_of_memory

-- the complaint of a command that makes nothing of its program
abbrev pub of_making : RunFault → Complaint
of_making (WrongInputs wanted) = wrong_inputs wanted
of_making Deep = deep
of_making (NoMemoryForRun refusal) = out_of_memory

-- the complaint of a cause
abbrev pub complaint_of : Cause → Complaint
complaint_of Usage = usage
complaint_of (Reading fault) = of_reading fault
complaint_of (Text fault) = of_text fault
complaint_of (Program fault) = of_program fault
complaint_of (Making fault) = of_making fault
