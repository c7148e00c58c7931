-- What contracts see of a source and of a sink in memory. Cited by contracts.
use Rattle.std.specs.Prelude.{ℕ, List}

-- A source: the bytes that are left, how many a call gives at most, the numbers of the calls that fail, and how many
-- calls there were and how many of them failed.
pub record SourceState : Type 0 where
  pub left : List ℕ
  pub piece : ℕ
  pub fails : List ℕ
  pub calls : ℕ
  pub faults : ℕ

-- A sink: the bytes that were written, how many a call takes at most, the numbers of the calls that fail, how many
-- bytes there is room for in all, and how many calls there were and how many of them failed.
pub record SinkState : Type 0 where
  pub written : List ℕ
  pub piece : ℕ
  pub fails : List ℕ
  pub room : ℕ
  pub calls : ℕ
  pub faults : ℕ
