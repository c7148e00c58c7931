use Rattle.std.proofs.Common.{◌++◌, refl}
use Rattle.table_text.specs.Lines.{names_of_units}
use Rattle.table_text.specs.Nodes.{graph_text}
use Rattle.pass_table.specs.Rounds.{sunk_line}
use Rattle.table_text.specs.TurnLaws.{two_pieces}
use Rattle.pass_table.proofs.rounds.put_sunk.Goals as goal

pub returns : goal.returns
returns c =
    let text = c.args.text.now in
    let line = sunk_line c.args.number in
    let graph = graph_text (names_of_units c.args.units.now) c.args.sinking.now.graph in
    let dead = c.in_ok-put_dead.ensures in
    let live = c.in_ok-put_live.ensures in
    let first = two_pieces text c.put_title.new.text c.put_graph.new.text line graph c.in_ok-put_title.ensures c.in_ok-put_graph.ensures in
    let more = two_pieces text c.put_graph.new.text c.put_dead.new.text (line ++ graph) dead.0 first dead.2 in (
      line ++ graph ++ dead.0 ++ live.0,
      record { dead = dead.0; live = live.0; is_dead = dead.1; is_live = live.1; text_is = refl },
      two_pieces text c.put_dead.new.text c.put_live.new.text (line ++ graph ++ dead.0) live.0 more live.2,
    )
