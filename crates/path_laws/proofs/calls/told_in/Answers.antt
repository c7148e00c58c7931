use Rattle.std.proofs.Common.{length}
use Rattle.path_laws.specs.Paths.{width}
use Rattle.path_laws.proofs.Told.{told_of, flipped_shape}
use Rattle.path_laws.proofs.calls.told_in.Goals as goal

pub returns-clause-shape : goal.returns-clause-shape
returns-clause-shape g c = flipped_shape c.args.statement (length c.args.graph.now.nodes) (width c.args.born.now) c.in_ok-rows.rows c.flip_for.new.rows c.in_ok-rows.ensures.shape c.flip_for.ensures

pub returns-clause-told : goal.returns-clause-told
returns-clause-told g c = told_of c.args.statement c.args.graph.now c.in_ok-rows.ensures.graph c.args.born.now c.args.stop.now c.in_ok-rows.rows c.flip_for.new.rows c.requires.rows.born_rows c.requires.rows.stop_rows c.in_ok-rows.ensures.shape (rw (c.goes_against.ensures, c.is_on_every.ensures) at c.in_ok-rows.ensures.answers) c.flip_for.ensures
