use Rattle.bounds.specs.UseLaws.{no_trap, mod_keeps, and_keeps, shifts_keep, one_number, min_keeps, max_keeps}
use Rattle.bounds.proofs.laws.uses_hold.Goals as goal

pub returns-clause-safe : goal.returns-clause-safe
returns-clause-safe c = no_trap

pub returns-clause-remainder : goal.returns-clause-remainder
returns-clause-remainder c = mod_keeps

pub returns-clause-masked : goal.returns-clause-masked
returns-clause-masked c = and_keeps

pub returns-clause-shifted : goal.returns-clause-shifted
returns-clause-shifted c = shifts_keep

pub returns-clause-decided : goal.returns-clause-decided
returns-clause-decided c = one_number

pub returns-clause-lesser : goal.returns-clause-lesser
returns-clause-lesser c = min_keeps

pub returns-clause-greater : goal.returns-clause-greater
returns-clause-greater c = max_keeps
