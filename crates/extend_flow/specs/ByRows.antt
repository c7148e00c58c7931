-- What the code makes of the nodes, by the assignments that it found. Cited by contracts.
use Rattle.std.specs.Prelude.{◌≡◌, ℕ, List, slice_get, Option, Some}
use Rattle.mir_base.specs.declared.instructions.Rhs.{Rhs}
use Rattle.flow_graph.specs.declared.nodes.Node.{Node}
use Rattle.flow_graph.specs.Graphs.{GraphShape}
use Rattle.held_assign.specs.declared.held.HeldAssigns.{HeldAssigns}
use Rattle.held_assign.specs.Rows.{held_at}
use Rattle.bounds.specs.declared.facts.Fact.{Fact}
use Rattle.bounds.specs.BoundRules.{bound_rules}
use Rattle.bounds.specs.Facts.{BelowFact}
use Rattle.cond_flow.specs.KnownBefore.{IsKnownBefore}
use Rattle.extend_flow.specs.declared.shifts.Extension.{Extension}
use Rattle.extend_flow.specs.Extended.{IsExtendedAt, extended_rhs}
use Rattle.extend_flow.specs.Extensions.{extension_of}

-- this is what a right side becomes before node n: where it is an extension, by the least bounds of the variables there
pub record IsExtendedRhs (graph : GraphShape) (held : ℕ → Option Rhs) (n : ℕ) (rhs made : Rhs)
    : Type 0 where
  pub known : Option (List Fact)
  pub is_known : (e : Extension) → extension_of held rhs ≡ Some e
      → IsKnownBefore BelowFact bound_rules graph n known
  pub is : made ≡ extended_rhs held known rhs

-- each new node is what the old one of its number becomes, with the shifts that hold before it by the rows
abbrev pub AreExtendedBy : GraphShape → HeldAssigns → List Node → Type 0
AreExtendedBy graph held nodes = (n : ℕ) → IsExtendedAt graph (held_at held n) n (slice_get nodes n)
