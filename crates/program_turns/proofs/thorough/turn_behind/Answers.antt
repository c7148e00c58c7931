use Rattle.std.proofs.Common.{◌≡◌, false, true, sym, ◌∙◌, subst}
use Rattle.pass_chain.specs.Passes.{IsChained}
use Rattle.program_pass.specs.PassPrograms.{Rewrites}
use Rattle.program_turns.specs.Turns.{IsTurn, second_half, turn}
use Rattle.program_turns.proofs.TurnLaws.{halves_turn, turn_rewrites}
use Rattle.program_turns.proofs.thorough.turn_behind.Goals as goal

-- the first half makes what it made before, so that the second half makes what it made then
pub returns-then-same_program : goal.returns-then-same_program
returns-then-same_program c =
    let last = c.args.last.now in
    let half = c.in_ok-half.half in
    let same : last.half ≡ half = c.same_program.ensures.0 c.if-same_program.true in
    turn_rewrites last.whole last.half last.whole (halves_turn last.whole half last.half last.whole (record { exact = c.in_ok-half.ensures.chained; only = c.in_ok-half.ensures.only; keeps = c.in_ok-half.ensures.keeps }) same (subst (λ p. Rewrites (IsChained second_half) p last.whole) same c.requires))

pub returns-then-same_program-2 : goal.returns-then-same_program-2
returns-then-same_program-2 c =
    let last = c.args.last.now in
    let half = c.in_ok-half.half in
    let next = c.in_ok-next.next in
    let same : last.whole ≡ next.whole = c.same_program-2.ensures.0 c.if-same_program-2.true in
    let turned : IsTurn last.whole next.half next.whole = halves_turn last.whole half next.half next.whole (record { exact = c.in_ok-half.ensures.chained; only = c.in_ok-half.ensures.only; keeps = c.in_ok-half.ensures.keeps }) c.in_ok-next.ensures.begun c.in_ok-next.ensures.ended in
    subst (λ p. Rewrites (IsChained turn) last.whole p) (sym same) (turn_rewrites last.whole next.half next.whole turned)

pub returns : goal.returns
returns c =
    let last = c.args.last.now in
    let half = c.in_ok-half.half in
    let next = c.in_ok-next.next in
    record {
      turned = halves_turn last.whole half next.half next.whole (record { exact = c.in_ok-half.ensures.chained; only = c.in_ok-half.ensures.only; keeps = c.in_ok-half.ensures.keeps }) c.in_ok-next.ensures.begun c.in_ok-next.ensures.ended;
      changed = λ same. let e : false ≡ true = sym c.if-same_program-2.false ∙ c.same_program-2.ensures.1 (sym same) in cc;
    }
