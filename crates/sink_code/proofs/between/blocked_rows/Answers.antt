use Rattle.std.proofs.Common.{List, ℕ, ap, length, subst, sym, arith}
use Rattle.sink_code.specs.PatternRows.{AreVariableRows}
use Rattle.sink_code.specs.PatternTables.{AreSinkableBelow}
use Rattle.sink_code.proofs.between.blocked_rows.Goals as goal

pub by_variable-requires : goal.by_variable-requires
by_variable-requires c = subst (λ (l : List (List ℕ)). AreSinkableBelow (length l) c.args.over.now.table.now) (sym c.vars.ensures) c.requires.sinkable

pub loop-block-init : goal.loop-block-init
loop-block-init c = record {
  shape = record { len = ap length c.in_ok-rows.ensures; each = λ n h. absurd (omega (arith, h)) };
  are = λ b k list p h is_block numbered. absurd (omega (arith, h));
}

pub push_blocked_by-requires-clause-by_variable : goal.push_blocked_by-requires-clause-by_variable
push_blocked_by-requires-clause-by_variable c =
    let made = c.in_ok-by_variable.ensures in
    subst (λ (l : List (List ℕ)). AreVariableRows (length l) c.args.over.now.table.now c.in_ok-by_variable.by_variable) c.vars.ensures
    (record { assigning_shape = made.assigning_shape; naming_shape = made.naming_shape; assigning = made.assigning; naming = made.naming })
