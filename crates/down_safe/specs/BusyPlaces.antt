-- The placement that rows of where expressions are used and earliest make. Cited by contracts.
use Rattle.motion_rewrite.specs.declared.placement.Placement.{Placement}
use Rattle.down_safe.specs.declared.safety.Busy.{Busy}

-- it inserts where an expression is earliest, and replaces where it is used
abbrev pub placement_of : Busy → Placement
placement_of busy = record { insert = busy.earliest; replace = busy.uses }
