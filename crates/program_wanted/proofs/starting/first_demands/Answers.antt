use Rattle.program_wanted.proofs.FirstZeros.{first_progress}
use Rattle.program_wanted.proofs.starting.first_demands.Goals as goal

pub returns : goal.returns
returns c =
    first_progress c.args.graphs.now.items c.requires.some
    (record { globals = c.in_ok-globals.globals.items; arguments = c.in_ok-arguments.arguments.items; backs = c.in_ok-backs.backs.items })
    c.in_ok-globals.ensures c.in_ok-arguments.ensures c.in_ok-backs.ensures
