-- Laws of the graphs of all units: one more graph, and that they are the exact ones. For proofs only, here and above.
use Rattle.std.proofs.Common.{◌≡◌, ℕ, List, [], ◌∷◌, ◌++◌, length, slice_get, Some, inl, inr, sym, ap, ◌∙◌, subst}
use Rattle.mir_base.specs.Shapes.{UnitShape}
use Rattle.flow_graph.specs.Graphs.{GraphShape}
use Rattle.flow_graph.specs.ListLaws.{get_push}
use Rattle.program_pass.specs.Fronts.{AreFronts, AreGraphsOf}
use Rattle.program_pass.specs.PassPrograms.{LoweredClean}

-- graphs of the first units
abbrev pub AreFrontsBelow : List UnitShape → List GraphShape → Type 0
AreFrontsBelow units gs = (u : ℕ) (unit : UnitShape) (graph : GraphShape) → slice_get units u ≡ Some unit → slice_get gs u ≡ Some graph → (lowered : GraphShape) × LoweredClean unit lowered graph

-- one more
pub fronts_more : (units : List UnitShape) (gs more : List GraphShape) (number : ℕ) (unit : UnitShape) (lowered graph : GraphShape) → length gs ≡ number → AreFrontsBelow units gs → slice_get units number ≡ Some unit
    → LoweredClean unit lowered graph → more ≡ gs ++ graph ∷ [] → AreFrontsBelow units more
fronts_more units gs more number unit lowered graph long are at made is u v g at_v at_g = elim (get_push gs graph g u (sym (ap (λ l. slice_get l u) is) ∙ at_g)) [
  | inl old ↦ are u v g at_v old
  | inr last ↦
      let number_is : u ≡ number = last.0 ∙ long in
      let both : Some unit ≡ Some v = sym at ∙ ap (slice_get units) (sym number_is) ∙ at_v in
      let same : unit ≡ v = cc in
      (lowered, subst (λ h. LoweredClean v lowered h) last.1 (subst (λ s. LoweredClean s lowered graph) same made))
]

-- the exact graphs
pub graphs_are : (units : List UnitShape) (gs : List GraphShape) → AreFronts units gs → AreGraphsOf units gs
graphs_are units gs are = record { long = are.long; are = λ u unit graph at at'. let m = are.are u unit graph at at' in (m.0, (m.1.is_lowered, m.1.is_cleaned)) }
