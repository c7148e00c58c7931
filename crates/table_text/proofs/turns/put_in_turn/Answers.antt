use Rattle.std.proofs.Common.{◌≡◌, ◌<◌, ℕ, arith, subst}
use Rattle.table_text.specs.Turns.{AppendsSome, InTurn}
use Rattle.table_text.specs.TurnLaws.{next_turn, no_turn}
use Rattle.table_text.proofs.turns.put_in_turn.Goals as goal

pub loop-number-init : goal.loop-number-init
loop-number-init g c = no_turn (g.P.Pieces.is_piece c.args.pieces.now) c.args.text.now

pub put-requires-clause-number : goal.put-requires-clause-number
put-requires-clause-number g c =
    let low : c.loop-number.number < g.P.Pieces.count c.args.pieces.now = omega (arith, c.loop-number-test.true, c.len-number-end.ensures) in
    low

-- the text that is put is the next one
pub loop-number-preserved : goal.loop-number-preserved
loop-number-preserved g c =
    next_turn (g.P.Pieces.is_piece c.args.pieces.now) c.loop-number.number c.args.text.now c.loop-number.text c.put.new.text c.loop-number.invariant c.in_ok-put.ensures

-- all are put
pub returns : goal.returns
returns g c =
    let all : c.loop-number.number ≡ g.P.Pieces.count c.args.pieces.now = omega (arith, c.len-number-end.ensures, c.loop-number-test.false, c.loop-number.auto.number-end) in
    subst (λ (k : ℕ). AppendsSome (InTurn (g.P.Pieces.is_piece c.args.pieces.now) k) c.args.text.now c.loop-number.text) all c.loop-number.invariant
