use Rattle.std.proofs.Common.{refl, sym, ◌∙◌}
use Rattle.path_laws.specs.Leaving.{between_listed}
use Rattle.path_laws.proofs.heads.come_over.Goals as goal

pub come_along-requires-clause-flow : goal.come_along-requires-clause-flow
come_along-requires-clause-flow c =
    let edges = c.in_ok-between.between.edges.items in
    let firsts = c.in_ok-between.between.firsts.items in
    between_listed c.args.against c.args.graph.now.nodes c.args.blocks.now.lists edges edges firsts firsts _ c.args.bits c.args.seeds.now c.args.stops.now c.in_ok-between.ensures refl refl c.requires.seeds.len c.requires.seeds c.requires.stops

pub come_along-requires-clause-count : goal.come_along-requires-clause-count
come_along-requires-clause-count c = c.len.ensures ∙ sym c.requires.seeds.len

pub returns : goal.returns
returns c = record { edges = c.in_ok-between.between.edges.items; firsts = c.in_ok-between.between.firsts.items; between = c.in_ok-between.ensures; joined = c.in_ok-rows.ensures }
