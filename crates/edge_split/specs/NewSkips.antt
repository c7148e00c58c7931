-- The new Skips while they are made. Cited by contracts.
use Rattle.std.specs.Prelude.{◌≡◌, ℕ, ◌+◌, List, ◌++◌, length, map}
use Rattle.flow_graph.specs.declared.nodes.Node.{Node}
use Rattle.flow_graph.specs.declared.nodes.Node.TheVariants.{Skip}
use Rattle.flow_graph.specs.Graphs.{node_succs}
use Rattle.edge_split.specs.declared.splitting.NewSkips.{NewSkips}
use Rattle.edge_split.specs.Split.{has_more, joins_among, through_skips, with_succs}

-- for each of these successors that is a join one more Skip has been made
abbrev pub MakesSkips : NewSkips → NewSkips → List ℕ → Type 0
MakesSkips old new succs = new.made.items
    ≡ old.made.items ++ map Skip (joins_among (has_more old.entries.items) succs)

-- these successors, or the next new Skips in the place of those that are joins
abbrev pub succs_through : NewSkips → List ℕ → List ℕ
succs_through skips succs =
    through_skips (has_more skips.entries.items) (skips.first + length skips.made.items) succs

-- the node with such successors
abbrev pub node_through : NewSkips → Node → Node
node_through skips node = with_succs node (succs_through skips (node_succs node))
