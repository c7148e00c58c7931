use Rattle.std.proofs.Common.{length, refl, subst, sym}
use Rattle.pass_table.specs.Patterns.{ArePatternsFound, found_of, patterns_below}
use Rattle.pass_table.proofs.patterns.put_patterns_by.Goals as goal

-- the lines are those of what was found
pub put_each-requires : goal.put_each-requires
put_each-requires c =
    let e = c.in_ok-found.ensures in
    subst (ArePatternsFound c.args.graph.now) (sym c.in_ok-lines.ensures) (record { moving = e.moving; blocked = e.blocked; delayed = e.delayed; inserted = e.inserted })

pub returns : goal.returns
returns c =
    let lines = c.in_ok-lines.lines in
    let e = c.in_ok-found.ensures in (
      patterns_below c.args.graph.now.vars (found_of lines) (length lines.table),
      record {
        found = found_of lines;
        are = subst (ArePatternsFound c.args.graph.now) (sym c.in_ok-lines.ensures) (record { moving = e.moving; blocked = e.blocked; delayed = e.delayed; inserted = e.inserted });
        text_is = refl;
      },
      c.in_ok-put_each.ensures,
    )
