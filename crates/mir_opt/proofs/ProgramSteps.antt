-- From the steps of all units of a program to its linked trail, which is the only one.
use Rattle.std.proofs.Common.{◌≡◌, ◌∙◌, ℕ, List, length, slice_get, Some, ap, sym, subst, arith}
use Rattle.std.specs.Prelude.{All}
use Rattle.std.proofs.lemmas.Option.{slice_get_within}
use Rattle.std.proofs.lemmas.Slice.Zip.{AllZip-long}
use Rattle.mir_base.specs.Shapes.{ProgramShape, UnitShape}
use Rattle.flow_graph.specs.DividingUnits.{DivisionsLaid}
use Rattle.flow_graph.specs.Graphs.{GraphShape}
use Rattle.flow_graph.specs.ListLaws.{some_at}
use Rattle.flow_graph.specs.Keeps.{AsGraph, AsUnit, Keeps}
use Rattle.mir_opt.specs.declared.over_units.ProgramSteps.{ProgramSteps}
use Rattle.mir_opt.specs.Links.{AllLinked, HasOneLink}
use Rattle.mir_opt.specs.Made.{UnitMade, ProgramMade}
use Rattle.mir_opt.specs.OneLaws.{OneTrail, linked_is_one}
use Rattle.mir_opt.specs.Stages.{AllKeep}
use Rattle.mir_opt.proofs.Zips.{zip_all, zip_at, zip_map}

-- what was made, in the words of the trail
module _ {T S : Type 0} {graph_of : T → S → GraphShape} {last : S} {Links Best : UnitShape → T → Type 0} {Within : T → Type 0} {program : ProgramShape} {steps : ProgramSteps T} (whole : ProgramMade graph_of last Links Best Within program steps) where
  pub steps_linked : AllLinked graph_of last Links steps.source steps.units steps.target
  steps_linked = subst (λ (s : ProgramShape). AllLinked graph_of last Links s steps.units steps.target) (sym whole.source)
      (record { steps = zip_map (UnitMade graph_of Links Best Within) Links (λ source unit made. made.linked) program.units steps.units whole.made; laid = whole.laid; globals = whole.globals })

  -- each stage keeps the source
  pub steps_keep : AllKeep graph_of steps.source.units steps.units
  steps_keep = subst (λ (s : ProgramShape). AllKeep graph_of s.units steps.units) (sym whole.source)
      (zip_map (UnitMade graph_of Links Best Within) (λ source unit. (stage : S) → Keeps (AsUnit source) (AsGraph (graph_of unit stage))) (λ source unit made. made.keeps) program.units steps.units whole.made)

  -- what is said of the steps of each unit, whatever follows of it
  pub steps_all : (P : T → Type 0) → ((source : UnitShape) (unit : T) → Best source unit → P unit) → All P steps.units
  steps_all P holds = zip_all (UnitMade graph_of Links Best Within) P (λ source unit made. holds source unit made.best) program.units steps.units whole.made

  -- the steps of the unit of a number are made of the unit of the source of this number
  pub steps_at : (n : ℕ) (source : UnitShape) (unit : T) → slice_get steps.source.units n ≡ Some source → slice_get steps.units n ≡ Some unit → UnitMade graph_of Links Best Within source unit
  steps_at n source unit at at' = zip_at (UnitMade graph_of Links Best Within) program.units steps.units whole.made n source unit (ap (λ (s : ProgramShape). slice_get s.units n) (sym whole.source) ∙ at) at'

  -- and their divisions are laid out in that of the target
  pub steps_lay : (n : ℕ) (unit : T) (target : UnitShape) → slice_get steps.units n ≡ Some unit → slice_get steps.target.units n ≡ Some target → DivisionsLaid (graph_of unit last) target
  steps_lay n unit target at at' = zip_at (λ unit target. DivisionsLaid (graph_of unit last) target) steps.units steps.target.units whole.divides n unit target at at'

  -- there are such steps wherever there is a unit of the source
  pub steps_of_unit : (n : ℕ) (source : UnitShape) → slice_get steps.source.units n ≡ Some source → (unit : T) × (slice_get steps.units n ≡ Some unit)
  steps_of_unit n source at =
      let long = AllZip-long (UnitMade graph_of Links Best Within) program.units steps.units whole.made in
      let here = slice_get_within steps.source.units n source at in
      let is = ap (λ (s : ProgramShape). length s.units) whole.source in
      some_at steps.units n (omega (arith, long, here, is))

  -- any other linked trail of the program is equal, where trails are made of these parts
  pub steps_only : {Trail : Type 0} (trail : ProgramShape → List T → ProgramShape → Trail) → HasOneLink Within Links → (other : ProgramShape) (units : List T) (target : ProgramShape)
      → other ≡ program → AllLinked graph_of last Links other units target → trail steps.source steps.units steps.target ≡ trail other units target
  steps_only trail one other units target other_is linked =
      ap (λ (x : ProgramShape). trail x steps.units steps.target) (whole.source ∙ sym other_is)
      ∙ ap (λ (x : List T). trail other x steps.target) same.units_are
      ∙ ap (trail other units) same.target_is
    where
      same : OneTrail steps.units units steps.target target
      same = linked_is_one graph_of last Within Links one program steps.units units steps.target target
          (zip_map (UnitMade graph_of Links Best Within) (λ source unit. Within unit × Links source unit) (λ source unit made. (made.within, made.linked)) program.units steps.units whole.made)
          whole.laid whole.globals (subst (λ (s : ProgramShape). AllLinked graph_of last Links s units target) other_is linked)
