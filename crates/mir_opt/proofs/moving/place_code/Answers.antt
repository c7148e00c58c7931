use Rattle.motion_rewrite.specs.PlacementLaws.{optimal_is_no_dearer}
use Rattle.mir_opt.proofs.moving.place_code.Goals as goal

pub flatten-requires-clause-movable : goal.flatten-requires-clause-movable
flatten-requires-clause-movable g c = c.requires.movable

pub flatten-requires-clause-insert : goal.flatten-requires-clause-insert
flatten-requires-clause-insert g c = c.in_ok-placement.ensures.insert

pub flatten-requires-clause-replace : goal.flatten-requires-clause-replace
flatten-requires-clause-replace g c = c.in_ok-placement.ensures.replace

pub flatten-requires-clause-placed : goal.flatten-requires-clause-placed
flatten-requires-clause-placed g c = c.in_ok-placement.ensures.flattens

pub returns : goal.returns
returns g c = record {
  placed = record { insert_rows = c.in_ok-placement.ensures.insert; replace_rows = c.in_ok-placement.ensures.replace; lazy = c.in_ok-placement.ensures.lazy };
  flattened = c.in_ok-moved.ensures.flattened;
  best = record { optimal = c.in_ok-placement.ensures.optimal; evaluates = c.in_ok-moved.ensures.paths; follows = c.in_ok-moved.ensures.runs };
  is_split = c.in_ok-moved.ensures.split c.requires.split;
  divides = c.in_ok-moved.ensures.divides;
  keeps = c.in_ok-moved.ensures.keeps (optimal_is_no_dearer c.args.split.now c.args.table.now (g.R.DownRule.is_down c.args.rule.now c.args.split.now) c.in_ok-placement.placement c.in_ok-placement.ensures.optimal);
}
