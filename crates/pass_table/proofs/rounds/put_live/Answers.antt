use Rattle.std.proofs.Common.{length, refl, subst, sym}
use Rattle.path_laws.specs.Paths.{HaveShape}
use Rattle.dead_code.specs.LiveRows.{TellLive}
use Rattle.pass_table.specs.Rounds.{variables_below}
use Rattle.pass_table.proofs.rounds.put_live.Goals as goal

-- the lines are the rows that were found
pub put_variables-requires : goal.put_variables-requires
put_variables-requires c =
    let graph = c.args.graph.now in
    subst (HaveShape graph (length graph.vars)) (sym c.in_ok-lines.ensures) c.in_ok-live.ensures.shape

pub returns : goal.returns
returns c =
    let graph = c.args.graph.now in
    let lines = c.in_ok-lines.lines in
    let e = c.in_ok-live.ensures in (
      variables_below graph.vars lines (length graph.vars),
      record {
        live = lines;
        shape = subst (HaveShape graph (length graph.vars)) (sym c.in_ok-lines.ensures) e.shape;
        live_are = subst (TellLive graph) (sym c.in_ok-lines.ensures) e.live;
        text_is = refl;
      },
      c.in_ok-put_variables.ensures,
    )
