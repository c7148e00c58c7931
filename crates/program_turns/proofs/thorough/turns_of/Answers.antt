use Rattle.std.proofs.Common.{◌≡◌, false, true, sym, ◌∙◌, subst}
use Rattle.pass_chain.specs.Passes.{IsChained}
use Rattle.pass_chain.specs.ChainLaws.{at_first}
use Rattle.program_pass.specs.PassPrograms.{Rewrites}
use Rattle.program_turns.specs.Turns.{IsThorough, turn}
use Rattle.program_turns.proofs.TurnLaws.{turn_rewrites, turn_stays, turns_follow}
use Rattle.program_turns.proofs.thorough.turns_of.Goals as goal

pub returns-then-same_program : goal.returns-then-same_program
returns-then-same_program c =
    let source = c.args.program.now in
    let first = c.in_ok-first.first in
    let same : source ≡ first.whole = c.same_program.ensures.0 c.if-same_program.true in
    let turned : Rewrites (IsChained turn) source source = subst (λ p. Rewrites (IsChained turn) source p) (sym same) (turn_rewrites source first.half first.whole c.in_ok-first.ensures) in
    subst (λ p. Rewrites IsThorough source p) same (turn_stays IsThorough source source 15 (at_first (IsThorough source) source) turned)

pub returns : goal.returns
returns c =
    let source = c.args.program.now in
    let first = c.in_ok-first.first in
    turns_follow source first.whole c.in_ok-target.target 15 (turn_rewrites source first.half first.whole c.in_ok-first.ensures)
    (λ same. let e : false ≡ true = sym c.if-same_program.false ∙ c.same_program.ensures.1 (sym same) in cc)
    c.in_ok-target.ensures
