use Rattle.std.proofs.Common.{◌∷◌, [], ap, sym, ◌∙◌}
use Rattle.mir_base.specs.Frames.{shared_vars}
use Rattle.sink_code.specs.PatternRows.{joined_at}
use Rattle.graph_edit.specs.VarLaws.{shared_more}
use Rattle.sink_code.proofs.JoinedLast.{joined_more}
use Rattle.sink_code.proofs.pattern_rows.join_globals.Goals as goal

pub loop-x-preserved : goal.loop-x-preserved
loop-x-preserved c =
    let from = c.args.from.now in
    let x = c.loop-x.x in
    let joins = c.join_var.ensures in
    record {
      joined = joins.rows
          ∙ ap (joined_at from (x ∷ []) c.args.last) c.loop-x.invariant.joined
          ∙ sym (ap (λ xs. joined_at from xs c.args.last c.args.rows.now) (shared_more x) ∙ joined_more from (shared_vars x) x c.args.last c.args.rows.now);
      len = joins.len ∙ c.loop-x.invariant.len;
      long = joins.long ∙ c.loop-x.invariant.long;
    }
