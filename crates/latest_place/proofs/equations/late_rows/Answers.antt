use Rattle.std.proofs.Common.{◌<◌, ◌≡◌, ℕ, length, Some, slice_get}
use Rattle.std.proofs.lemmas.Option.{slice_get_within}
use Rattle.mir_base.specs.declared.instructions.Expr.{Expr}
use Rattle.path_laws.specs.Paths.{AreRows, has_bit, width}
use Rattle.path_laws.specs.RowLaws.{rows_as_many}
use Rattle.latest_place.specs.SplitFacts.{split_facts}
use Rattle.latest_place.proofs.Combined.{like_uses}
use Rattle.latest_place.proofs.Reading.{AreLateBits, delayed_says, isolated_says, latest_says}
use Rattle.latest_place.proofs.equations.late_rows.Goals as goal
use Rattle.latest_place.proofs.equations.late_rows.Goals.{In_ok-delayed, In_ok-latest, In_ok-isolated}

-- one shape, from the earliest nodes on
delayed_shape : (g : _) (c : In_ok-delayed g) → AreRows (length c.args.graph.now.nodes) (length c.args.table.now) c.in_ok-delayed.delayed
delayed_shape g c = rows_as_many (length c.args.graph.now.nodes) (length c.args.table.now) c.args.earliest c.in_ok-delayed.delayed c.requires.earliest_are.shape c.in_ok-delayed.ensures.shape

latest_shape : (g : _) (c : In_ok-latest g) → AreRows (length c.args.graph.now.nodes) (length c.args.table.now) c.in_ok-latest.latest
latest_shape g c = rows_as_many (length c.args.graph.now.nodes) (length c.args.table.now) c.in_ok-delayed.delayed c.in_ok-latest.latest (delayed_shape g (goal.at.In_ok-latest g c).In_ok-delayed) c.in_ok-latest.ensures.shape

-- the bits of one expression
bits_are : (g : _) (c : In_ok-isolated g) (i : ℕ) (e : Expr) → slice_get c.args.table.now i ≡ Some e
    → AreLateBits c.args.graph.now e (g.R.DownRule.is_down c.args.rule.now c.args.graph.now e) (has_bit c.args.earliest i) (has_bit c.args.used i) (has_bit c.in_ok-delayed.delayed i) (has_bit c.in_ok-latest.latest i) (has_bit c.in_ok-isolated.isolated i)
bits_are g c i e at =
    let some : 0 < length c.args.graph.now.nodes = (split_facts c.args.graph.now c.in_ok-isolated.ensures.graph c.requires.split).start_below in
    let in_table = slice_get_within c.args.table.now i e at in
    let in_early : i < width c.args.earliest = rw (c.requires.earliest_are.shape.each 0 some) in_table in
    let in_delayed : i < width c.in_ok-delayed.delayed = rw (c.in_ok-delayed.ensures.shape.each 0 some) in_early in
    let in_latest : i < width c.in_ok-latest.latest = rw (c.in_ok-latest.ensures.shape.each 0 some) in_delayed in
    record {
      early_is = λ n below. c.requires.earliest_are.bits n i e below at;
      used_is = λ n below. c.requires.used_are.bits n i e below at;
      delayed_is = λ n below. c.in_ok-delayed.ensures.bits n i below in_early;
      latest_is = λ n below. c.in_ok-latest.ensures.bits n i below in_delayed;
      isolated_is = λ n below. c.in_ok-isolated.ensures.bits n i below in_latest;
    }

pub delayed_rows-requires : goal.delayed_rows-requires
delayed_rows-requires g c = like_uses _ (length c.args.table.now) c.args.earliest c.requires.edges c.requires.blocks c.requires.earliest_are.shape c.requires.used_are.shape

pub latest_rows-requires : goal.latest_rows-requires
latest_rows-requires g c =
    like_uses _ (length c.args.table.now) c.in_ok-delayed.delayed c.requires.edges c.requires.blocks (delayed_shape g (goal.at.latest_rows-requires g c).In_ok-delayed) c.requires.used_are.shape

pub isolated_rows-requires : goal.isolated_rows-requires
isolated_rows-requires g c =
    like_uses _ (length c.args.table.now) c.in_ok-latest.latest c.requires.edges c.requires.blocks (latest_shape g (goal.at.isolated_rows-requires g c).In_ok-latest) c.requires.used_are.shape

pub returns : goal.returns
returns g c =
    let known = split_facts c.args.graph.now c.in_ok-isolated.ensures.graph c.requires.split in
    let bits = bits_are g (goal.at.returns g c).In_ok-isolated in
    record {
      uses = c.requires.used_are;
      delayed = record {
        shape = delayed_shape g (goal.at.returns g c).In_ok-delayed;
        bits = λ n i e below at. delayed_says c.args.graph.now known e _ _ _ _ _ _ (bits i e at) n below;
      };
      latest = record {
        shape = latest_shape g (goal.at.returns g c).In_ok-latest;
        bits = λ n i e below at. latest_says c.args.graph.now known e _ _ _ _ _ _ (bits i e at) n below;
      };
      isolated = record {
        shape = rows_as_many (length c.args.graph.now.nodes) (length c.args.table.now) c.in_ok-latest.latest c.in_ok-isolated.isolated (latest_shape g (goal.at.returns g c).In_ok-latest) c.in_ok-isolated.ensures.shape;
        bits = λ n i e below at. isolated_says c.args.graph.now known e _ _ _ _ _ _ (bits i e at) n below;
      };
    }
