use Rattle.std.proofs.Common.{take}
use Rattle.path_laws.specs.AtBlocks.{AreBrought}
use Rattle.path_laws.proofs.heads.joined_over.Given as goal

abbrev pub invariant-loop-edge : goal.invariant-loop-edge
invariant-loop-edge l = AreBrought l.count l.bits (take l.edge-index l.edges) l.out l.rows
