use Rattle.std.proofs.Common.{◌≡◌, ◌-◌, ◌+◌, ℕ, suc, Option, sym, subst, arith, MatchOption}
use Rattle.mir_base.specs.Shapes.{ProgramShape}
use Rattle.pass_chain.specs.Passes.{IsChained}
use Rattle.pass_chain.specs.ChainLaws.{HasCome, at_first}
use Rattle.program_pass.specs.PassPrograms.{Rewrites}
use Rattle.program_turns.specs.declared.thorough.Turn.{Turn}
use Rattle.program_turns.specs.Turns.{ChangesBy, TurnsMake, second_half, turn}
use Rattle.program_turns.proofs.TurnLaws.{turn_changes, turn_rewrites, turn_stays, turns_end}
use Rattle.program_turns.proofs.thorough.turns_behind.Goals as goal

-- a loop with so many turns left has come from the first turn's program to this one
abbrev Come : ProgramShape → ProgramShape → ℕ → Type 0
Come first last left = HasCome (TurnsMake 15 first) first last (TurnsMake left last)

-- what a turn behind this program tells
abbrev Told : ProgramShape → Option Turn → Type 0
Told last next = MatchOption next (Rewrites (IsChained turn) last last) (λ (t : Turn). ChangesBy last t.half t.whole)

-- what the loop keeps of a turn
abbrev Kept : ProgramShape → ℕ → Turn → Type 0
Kept first left last = Come first last.whole left × Rewrites (IsChained second_half) last.half last.whole

pub loop-made-init : goal.loop-made-init
loop-made-init c = (at_first (TurnsMake 15 c.args.first.whole) c.args.first.whole, c.requires)

pub loop-made-preserved : goal.loop-made-preserved
loop-made-preserved c =
    let first = c.args.first.whole in
    let last = c.loop-made.last.whole in
    let next = c.in-Some.next in
    let fewer = 16 - (c.loop-made.made + 1) in
    let left : 16 - c.loop-made.made ≡ suc fewer = omega (arith, c.loop-made-test.true) in
    let come : Come first last (suc fewer) = subst (Come first last) left c.loop-made.invariant.0 in
    let changes : ChangesBy last next.half next.whole = subst (Told last) c.in-Some.is c.in_ok-turn_behind.ensures in
    subst (Kept first fewer) (sym c.replace.ensures.after)
    (turn_changes (TurnsMake 15 first) first last next.whole fewer come (turn_rewrites last next.half next.whole changes.turned) changes.changed, changes.turned.second)

pub returns-in-None : goal.returns-in-None
returns-in-None c =
    let first = c.args.first.whole in
    let last = c.loop-made.last.whole in
    let fewer = 16 - (c.loop-made.made + 1) in
    let left : 16 - c.loop-made.made ≡ suc fewer = omega (arith, c.loop-made-test.true) in
    let come : Come first last (suc fewer) = subst (Come first last) left c.loop-made.invariant.0 in
    turn_stays (TurnsMake 15) first last fewer come (subst (Told last) c.in-None.is c.in_ok-turn_behind.ensures)

pub returns : goal.returns
returns c =
    let none : 16 - c.loop-made.made ≡ 0 = omega (arith, c.loop-made-test.false) in
    turns_end (TurnsMake 15) c.args.first.whole c.loop-made.last.whole (subst (Come c.args.first.whole c.loop-made.last.whole) none c.loop-made.invariant.0)
