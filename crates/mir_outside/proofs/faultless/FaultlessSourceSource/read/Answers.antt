use Rattle.std.proofs.Common.{ℕ, List, ◌+◌, ◌-◌, ◌≤◌, arith, take, drop, length, sym, ap, ◌∙◌}
use Rattle.std.proofs.lemmas.List.{drop_all}
use Rattle.std.proofs.lemmas.Grind.{common_steps}
use Rattle.mir_outside.proofs.Pieces.{split_left}
use Rattle.mir_outside.proofs.faultless.FaultlessSourceSource.read.Goals as goal

pub returns-clause-bytes : goal.returns-clause-bytes
returns-clause-bytes c =
    let at = c.self.inside.position in
    let n = c.min-count.result in
    let bytes = c.self.inside.bytes.items in
    let copied = c.copy_from_slice.ensures.after ∙ ap (λ (l : List ℕ). take (at + n - at) (drop at l)) c.deref.ensures.value in
    let within : at + n ≤ length bytes = omega (arith, c.self.invariant, c.self.inside.bytes.ok.0) in (
      sym c.self.view_is ∙ split_left bytes c.copy_from_slice.new.self (drop n c.args.buf.now) at n within copied,
      λ none room. drop_all (at + n) bytes (grind (arith, common_steps, c.self.inside.bytes.ok.0)),
    )
