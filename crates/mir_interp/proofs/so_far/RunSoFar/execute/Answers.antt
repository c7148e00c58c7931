use Rattle.std.proofs.Common.{◌≡◌, ◌+◌, ℕ, suc, max, List, ℤ, arith, sym, ◌∙◌}
use Rattle.mir_base.specs.Runs.{Control, State}
use Rattle.mir_interp.proofs.Frames.{length_waiting}
use Rattle.mir_interp.proofs.so_far.RunSoFar.execute.Goals as goal

-- the depth that the code finds is that of the definition
depth_is : (depth high found n waits : ℕ) → high ≡ max depth (found + 2) → found ≡ n → waits ≡ n → high ≡ max depth (suc (suc waits))
depth_is depth high found n waits is_high is_found is_waits = omega arith

abbrev state_with : List ℤ → Control → ℕ → ℕ → State
state_with printed control counted depth = record { printed = printed; control = control; counted = counted; depth = depth }

same_state : (printed : List ℤ) (counted : ℕ) (c d : Control) (m n : ℕ) → c ≡ d → m ≡ n → state_with printed c counted m ≡ state_with printed d counted n
same_state printed counted c d m n same_control same_depth = cc

pub returns-then-self-gt-MOST_FRAMES-clause-fault : goal.returns-then-self-gt-MOST_FRAMES-clause-fault
returns-then-self-gt-MOST_FRAMES-clause-fault c =
    rw c.in-Call.is (omega (arith, c.if-self-gt-MOST_FRAMES.true, depth_is _ _ _ _ _ c.max-self.ensures c.len.ensures (length_waiting c.args.self.now.stack ∙ sym c.args.self.now.stack.callers.ok.0)))

pub returns-in_ok-enter-in-Call-clause-state : goal.returns-in_ok-enter-in-Call-clause-state
returns-in_ok-enter-in-Call-clause-state c =
    let args = c.items.ensures in
    rw (c.in-Call.is, ← args) (same_state _ _ _ _ _ _ c.in_ok-enter-in-Call.ensures.control (depth_is _ _ _ _ _ c.max-self.ensures c.len.ensures (length_waiting c.args.self.now.stack ∙ sym c.args.self.now.stack.callers.ok.0)))
