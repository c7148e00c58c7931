-- What a call over memory answers: what `top` or `tables` did, and what of it stands in the rooms of the caller. Cited
-- by contracts.
use Rattle.std.specs.Prelude.{ℕ, ◌≡◌, ◌⊎◌, List, [], ◌∷◌, ◌++◌, length, take, drop, Some, unwrap_or}
use Rattle.mir_table.specs.Promises.{TablePromises}
use Rattle.mir_top.specs.Complaints.{out_of_memory}
use Rattle.mir_top.specs.Promises.{Promises}
use Rattle.mir_top.specs.Streams.{Stream, stream_of, without_fault, Tried, Untouched}
use Rattle.mir_top.specs.declared.reply.Reply.{Reply}
use Rattle.mir_call.specs.declared.answers.CallAnswer.{CallAnswer}
use Rattle.mir_call.specs.declared.sink.GrowSink.{GrowSink}
use Rattle.mir_call.specs.Spelled.{words_in}

-- the stream of a sink that keeps its bytes in memory
abbrev pub kept_by : GrowSink → GrowSink → Stream
kept_by old new = stream_of (λ (sink : GrowSink). Some sink.bytes.items)
    (λ (sink : GrowSink). sink.faults) old new

-- a call of `top` with these words, whose source has this text and never fails, ended with this status: all promises
-- of `top` hold of it
pub record HasCalled
    (words : List (List ℕ)) (text : List ℕ) (out err : Stream) (status : ℕ) : Type 0 where
  pub left : List ℕ
  pub reply : Reply
  pub promises : Promises (record {
    words = words;
    source = without_fault (Some text) (Some left);
    out = out;
    err = err;
    reply = reply;
  })
  pub status_is : reply.status ≡ status

-- there was no memory for the words: nothing was put out, and the line says so
pub record HasNoMemory (out err : Stream) (status : ℕ) : Type 0 where
  pub status_is : status ≡ out_of_memory.status
  pub silent : Untouched out
  pub told : Tried err out_of_memory.line

-- the call was made with the words that the bytes spell, and with these others where they spell none; or there was no
-- memory for the words
abbrev pub IsAnswerOf : (List (List ℕ) → List ℕ → Stream → Stream → ℕ → Type 0) → List (List ℕ)
    → List ℕ → List ℕ → Stream → Stream → ℕ → Type 0
IsAnswerOf IsCall otherwise bytes text out err status =
    IsCall (unwrap_or (words_in bytes) otherwise) text out err status ⊎ HasNoMemory out err status

-- `top` was called so, with no words where the bytes spell none
abbrev pub IsAnswer : List ℕ → List ℕ → Stream → Stream → ℕ → Type 0
IsAnswer = IsAnswerOf HasCalled []

-- a call of `tables` with these words, whose source has this text and never fails, ended with this status: all promises
-- of `tables` hold of it
pub record HasTabled
    (words : List (List ℕ)) (text : List ℕ) (out err : Stream) (status : ℕ) : Type 0 where
  pub left : List ℕ
  pub promises : TablePromises words (record {
    source = without_fault (Some text) (Some left);
    out = out;
    err = err;
    status = status;
  })

-- `tables` was called so, with one empty word, which asks for no tables, where the bytes spell none
abbrev pub IsTableAnswer : List ℕ → List ℕ → Stream → Stream → ℕ → Type 0
IsTableAnswer = IsAnswerOf HasTabled ([] ∷ [])

-- ---- what stands in the rooms

-- the room once these bytes were put into it: as many as fit stand first, and the rest is as it was
abbrev pub shown : List ℕ → List ℕ → List ℕ
shown bytes room = take (length room) bytes ++ drop (length bytes) room

-- a stream to which these bytes were written, and that failed so often
abbrev pub kept : List ℕ → ℕ → Stream
kept bytes faults = record { old = Some []; new = Some bytes; before = 0; after = faults }

-- a call of which this holds left this answer: the output and the line of complaint stand in the rooms as far as they
-- fit, with their full lengths
pub record HasAnswered
    (IsDone : Stream → Stream → ℕ → Type 0) (out_old out_new line_old line_new : List ℕ)
    (answer : CallAnswer)
    : Type 0 where
  pub output : List ℕ
  pub line : List ℕ
  pub out_faults : ℕ
  pub line_faults : ℕ
  pub done : IsDone (kept output out_faults) (kept line line_faults) answer.status
  pub out_is : out_new ≡ shown output out_old
  pub line_is : line_new ≡ shown line line_old
  pub out_length : answer.output ≡ length output
  pub line_length : answer.complaint ≡ length line
