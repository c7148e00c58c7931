use Rattle.std.proofs.Common.{length, refl, subst, sym}
use Rattle.held_assign.specs.Rows.{AreHeldRows}
use Rattle.pass_table.specs.Copies.{copies_below}
use Rattle.pass_table.proofs.copies.put_copies.Goals as goal

-- the lines are the rows that were found
pub put_each-requires : goal.put_each-requires
put_each-requires c = subst (AreHeldRows c.args.graph.now c.in_ok-copies.copies.table) (sym c.in_ok-held.ensures) c.in_ok-copies.ensures.held

pub returns : goal.returns
returns c =
    let graph = c.args.graph.now in
    let copies = c.in_ok-copies.copies in
    let held = c.in_ok-held.held in
    let e = c.in_ok-copies.ensures in (
      copies_below graph.vars copies.table held (length copies.table),
      record {
        table = copies.table;
        held = held;
        are = record { all = e.all; only = e.only; differ = e.differ; order = e.order; held_are = subst (AreHeldRows graph copies.table) (sym c.in_ok-held.ensures) e.held };
        text_is = refl;
      },
      c.in_ok-put_each.ensures,
    )
