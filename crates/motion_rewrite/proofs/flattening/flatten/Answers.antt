-- Each clause follows from clause `flattened` by the laws of rewritten graphs.
use Rattle.std.proofs.Common.{refl}
use Rattle.motion_rewrite.proofs.Divisions.{flattened_unchanged, never_trap}
use Rattle.motion_rewrite.proofs.Flattens.{flattened_globals, flattened_same, flattened_cheaper, flattened_paths, flattened_runs, flattened_split, flattened_calls}
use Rattle.motion_rewrite.proofs.Rewritable.{IsRewritable, rewritable}
use Rattle.motion_rewrite.proofs.flattening.flatten.Goals as goal
use Rattle.motion_rewrite.proofs.flattening.flatten.Goals.{In_ok-flat}

pub rewritten-requires : goal.rewritten-requires
rewritten-requires c = record { over = c.requires.movable.below; insert = c.requires.insert; replace = c.requires.replace; placed = c.requires.placed }

rewritable_here : (c : In_ok-flat) → IsRewritable c.args.graph.now c.args.table.now c.args.placement.now
rewritable_here c = rewritable c.args.graph.now c.args.table.now c.args.placement.now c.args.graph.now.nodes refl c.in_ok-flat.ensures.graph c.in_ok-flat.ensures.shares c.requires.movable.below c.requires.insert c.requires.replace c.requires.placed

pub returns-clause-same : goal.returns-clause-same
returns-clause-same c = flattened_same (rewritable_here (goal.at.returns-clause-same c).In_ok-flat) c.in_ok-flat.flat c.in_ok-flat.ensures.flattened (never_trap (rewritable_here (goal.at.returns-clause-same c).In_ok-flat) c.requires.movable)

pub returns-clause-cheaper : goal.returns-clause-cheaper
returns-clause-cheaper c = flattened_cheaper (rewritable_here (goal.at.returns-clause-cheaper c).In_ok-flat) c.in_ok-flat.flat c.in_ok-flat.ensures.flattened (never_trap (rewritable_here (goal.at.returns-clause-cheaper c).In_ok-flat) c.requires.movable) c.in_ok-flat.ensures.differ

pub returns-clause-paths : goal.returns-clause-paths
returns-clause-paths c = flattened_paths (rewritable_here (goal.at.returns-clause-paths c).In_ok-flat) c.in_ok-flat.flat c.in_ok-flat.ensures.flattened c.in_ok-flat.ensures.differ

pub returns-clause-runs : goal.returns-clause-runs
returns-clause-runs c = flattened_runs (rewritable_here (goal.at.returns-clause-runs c).In_ok-flat) c.in_ok-flat.flat c.in_ok-flat.ensures.flattened (never_trap (rewritable_here (goal.at.returns-clause-runs c).In_ok-flat) c.requires.movable)

pub returns-clause-split : goal.returns-clause-split
returns-clause-split c = flattened_split (rewritable_here (goal.at.returns-clause-split c).In_ok-flat) c.in_ok-flat.flat c.in_ok-flat.ensures.flattened

pub returns-clause-divides : goal.returns-clause-divides
returns-clause-divides c = flattened_unchanged (rewritable_here (goal.at.returns-clause-divides c).In_ok-flat) c.requires.movable c.in_ok-flat.flat c.in_ok-flat.ensures.flattened

pub returns-clause-calls : goal.returns-clause-calls
returns-clause-calls c = flattened_calls (rewritable_here (goal.at.returns-clause-calls c).In_ok-flat) c.in_ok-flat.flat c.in_ok-flat.ensures.flattened

pub returns-clause-keeps : goal.returns-clause-keeps
returns-clause-keeps c = λ no_dearer. record {
  name = c.in_ok-flat.ensures.flattened.name_is;
  globals = flattened_globals (rewritable_here (goal.at.returns-clause-keeps c).In_ok-flat) c.in_ok-flat.flat c.in_ok-flat.ensures.flattened;
  same = returns-clause-same c;
  cheaper = returns-clause-cheaper c no_dearer;
  calls = returns-clause-calls c;
}
