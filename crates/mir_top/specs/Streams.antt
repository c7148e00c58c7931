-- What a call did to a source or a sink. Cited by contracts. The last one is a law, cited by proofs alone.
use Rattle.std.specs.Prelude.{ℕ, ◌≡◌, ◌⊎◌, List, Option}
use Rattle.std.proofs.Common.{inl, inr, arith}
use Rattle.std.specs.Io.KnownBytes.{Appends, Consumes, IsAtEnd}
use Rattle.mir_outside.specs.Causes.{Rose}
use Rattle.mir_outside.specs.Transfer.{AppendsPart}

-- the bytes that are left or written, where they can be observed, and the count of faults: before the call and after it
pub record Stream : Type 0 where
  pub old : Option (List ℕ)
  pub new : Option (List ℕ)
  pub before : ℕ
  pub after : ℕ

-- the stream of a source or a sink, by the members of its trait that give its bytes and its faults
abbrev pub stream_of : {T : Type 0} → (T → Option (List ℕ)) → (T → ℕ) → T → T → Stream
stream_of bytes faults old new = record {
  old = bytes old;
  new = bytes new;
  before = faults old;
  after = faults new;
}

-- a stream in which no fault occurs, so that its count of faults is always 0
abbrev pub without_fault : Option (List ℕ) → Option (List ℕ) → Stream
without_fault old new = record { old = old; new = new; before = 0; after = 0 }

-- a stream that begins with these bytes, as far as they can be observed, and in which no fault has occurred
pub record StartsWith (stream : Stream) (bytes : Option (List ℕ)) : Type 0 where
  pub bytes_are : stream.old ≡ bytes
  pub no_fault : stream.before ≡ 0

-- the bytes and the count are as before the call
abbrev pub Untouched : Stream → Type 0
Untouched stream = (stream.new ≡ stream.old) × (stream.after ≡ stream.before)

-- the count of faults rose in this call, or is saturated
abbrev pub HasFailed : Stream → Type 0
HasFailed stream = Rose stream.before stream.after

-- these bytes were taken from a source
abbrev pub Took : Stream → List ℕ → Type 0
Took stream bytes = Consumes stream.old stream.new bytes

-- these bytes were taken from a source, to its end
abbrev pub TookAll : Stream → List ℕ → Type 0
TookAll stream bytes = Took stream bytes × IsAtEnd stream.new

-- these bytes were appended to a sink, and nothing else
abbrev pub Gave : Stream → List ℕ → Type 0
Gave stream bytes = Appends stream.old stream.new bytes

-- a sink failed, and a proper prefix of these bytes was appended to it
abbrev pub GavePart : Stream → List ℕ → Type 0
GavePart stream bytes = HasFailed stream × AppendsPart stream.old stream.new bytes

-- these bytes were appended to a sink, or a proper prefix of them where it failed
abbrev pub Tried : Stream → List ℕ → Type 0
Tried stream bytes = Gave stream bytes ⊎ GavePart stream bytes

-- ---- faults

-- a stream in which no fault occurs has not failed: a count that is always 0 neither rises nor is saturated
pub never_failed : (old new : Option (List ℕ)) → HasFailed (without_fault old new) → ⊥
never_failed old new (inl above) = omega arith
never_failed old new (inr last) = omega arith
