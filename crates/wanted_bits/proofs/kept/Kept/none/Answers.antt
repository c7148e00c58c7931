use Rattle.std.proofs.Common.{length, sym, subst}
use Rattle.wanted_bits.specs.KeptRows.{AsksBelow, RowsBelow}
use Rattle.wanted_bits.proofs.KeptBelow.{asks_none, rows_none}
use Rattle.wanted_bits.proofs.kept.Kept.none.Goals as goal

pub returns-clause-lowest : goal.returns-clause-lowest
returns-clause-lowest c wanted =
    let graph = c.args.graph.now in
    let lists = c.args.prepared.now.crossed.blocks.lists in
    record {
      rows = subst (RowsBelow graph lists wanted) (sym c.in_ok-rows.ensures) (rows_none graph lists c.len.result (length c.vars.result.now) wanted);
      asks = subst (AsksBelow graph wanted) (sym c.in_ok-asks.ensures) (asks_none graph c.len-2.result wanted);
    }
