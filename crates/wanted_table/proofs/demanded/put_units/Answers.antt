use Rattle.std.proofs.Common.{◌≡◌, ◌∙◌, ℕ, ap, arith, length, subst}
use Rattle.program_wanted.specs.Tables.{demands_of}
use Rattle.table_text.specs.Turns.{AppendsSome, InTurn}
use Rattle.table_text.specs.TurnLaws.{next_turn, no_turn}
use Rattle.wanted_table.specs.Demanding.{IsDemandedAt}
use Rattle.wanted_table.proofs.demanded.put_units.Goals as goal

pub loop-number-init : goal.loop-number-init
loop-number-init c = no_turn (IsDemandedAt (demands_of c.args.tables.now) c.args.program.now.units) c.args.text.now

-- the unit whose tables are put is the next one
pub loop-number-preserved : goal.loop-number-preserved
loop-number-preserved c =
    next_turn (IsDemandedAt (demands_of c.args.tables.now) c.args.program.now.units) c.loop-number.number c.args.text.now c.loop-number.text c.put_demanded.new.text c.loop-number.invariant c.in_ok-put_demanded.ensures

-- all are put
pub returns : goal.returns
returns c =
    let units = c.args.program.now.units in
    let same : c.items-number-end.result.now ≡ units = c.items-number-end.ensures ∙ ap (λ p. p.units) c.program.view_is in
    let long : length c.items-number-end.result.now ≡ length units = ap (λ l. length l) same in
    let all : c.loop-number.number ≡ length units = omega (arith, long, c.loop-number-test.false, c.loop-number.auto.number-end) in
    subst (λ (k : ℕ). AppendsSome (InTurn (IsDemandedAt (demands_of c.args.tables.now) units) k) c.args.text.now c.loop-number.text) all c.loop-number.invariant
