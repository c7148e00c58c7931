-- Units from bodies whose variables have any numbers. Cited by contracts of `tidied`.
use Rattle.std.specs.Prelude.{ℕ, List, [], map, slice_index_or}
use Rattle.mir_base.specs.declared.instructions.Inst.{Inst}
use Rattle.mir_base.specs.Shapes.{UnitShape}
use Rattle.flow_graph.specs.Numbering.{renumbered, seen_in}

-- the unit of this body, which has no globals, with the variables that occur numbered in the order of their first
-- occurrence, and their names
abbrev pub tidied_unit : List ℕ → List (List ℕ) → List Inst → UnitShape
tidied_unit name vars body = record {
  name = name;
  shared = 0;
  vars = map (λ x. slice_index_or vars x []) (seen_in 0 body);
  body = renumbered 0 body;
}
