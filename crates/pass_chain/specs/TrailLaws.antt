-- Laws: the units of the target of a trail have the names and the numbers of receives of those of its source. For
-- proofs, also of mir_top.
use Rattle.std.proofs.Common.{◌≡◌, ℕ, zero, suc, ◌<◌, List, [], ◌∷◌, length, slice_get, Option, Some, sym, ap, ◌∙◌}
use Rattle.std.proofs.lemmas.Option.{slice_get_within}
use Rattle.mir_base.specs.Shapes.{ProgramShape, UnitShape, body_or_empty, receives_in}
use Rattle.flow_graph.specs.Graphs.{GraphShape}
use Rattle.mir_opt.specs.Stages.{AllKeep, AreLaid, KeepsProgram}
use Rattle.program_pass.specs.HeadLaws.{head_same, heads_same}
use Rattle.program_pass.specs.PassPrograms.{heads_of}

-- a unit that is laid out of a graph that keeps a unit has the name of this
laid_name : {T S : Type 0} (graph_of : T → S → GraphShape) (last : S) (sources : List UnitShape) (units : List T) (targets : List UnitShape) → AllKeep graph_of sources units → AreLaid graph_of last units targets
    → (u : ℕ) (source target : UnitShape) → slice_get sources u ≡ Some source → slice_get targets u ≡ Some target → target.name ≡ source.name
laid_name graph_of last [] units targets keep laid u source target at at' = cc
laid_name graph_of last (s ∷ sources) [] targets keep laid u source target at at' = absurd keep
laid_name graph_of last (s ∷ sources) (unit ∷ units) [] keep laid u source target at at' = absurd laid
laid_name graph_of last (s ∷ sources) (unit ∷ units) (t ∷ targets) keep laid zero source target at at' =
    let one : s ≡ source = cc in
    let other : t ≡ target = cc in
    ap (λ (x : UnitShape). x.name) (sym other) ∙ laid.0.name ∙ (keep.0 last).name ∙ ap (λ (x : UnitShape). x.name) one
laid_name graph_of last (s ∷ sources) (unit ∷ units) (t ∷ targets) keep laid (suc u) source target at at' =
    laid_name graph_of last sources units targets keep.1 laid.1 u source target at at'

-- so all units have the heads of those of the source
pub trail_heads : {T S : Type 0} (graph_of : T → S → GraphShape) (last : S) (source : ProgramShape) (units : List T) (target : ProgramShape) → AllKeep graph_of source.units units → AreLaid graph_of last units target.units → KeepsProgram source target → heads_of target ≡ heads_of source
trail_heads graph_of last source units target keep laid keeps = heads_same source.units target.units (sym keeps.units.units) (λ u s t at at'.
    let lt : u < length source.units = slice_get_within source.units u s at in
    head_same s t (laid_name graph_of last source.units units target.units keep laid u s t at at')
    (ap (λ (o : Option UnitShape). receives_in (body_or_empty o)) (sym at') ∙ sym (keeps.units.same u lt).receives ∙ ap (λ (o : Option UnitShape). receives_in (body_or_empty o)) at))
