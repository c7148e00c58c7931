-- The text of the stages of a trail is the only one, and it grows by that of one more stage.
use Rattle.std.proofs.Common.{◌≡◌, ◌+◌, ℕ, List, [], ◌∷◌, ◌++◌, Some, take, slice_get, codes, refl, sym, ◌∙◌, ap, subst, append_assoc}
use Rattle.std.proofs.lemmas.List.{append-nil}
use Rattle.mir_base.specs.Shapes.{ProgramShape, UnitShape}
use Rattle.mir_base.specs.Text.{canonical_text}
use Rattle.flow_graph.specs.Layouts.{IsLayout}
use Rattle.flow_graph.specs.ListLaws.{take_one}
use Rattle.flow_graph.specs.OneLaws.{layout_is_one}
use Rattle.mir_opt.specs.declared.stages.Stage.{Stage}
use Rattle.mir_opt.specs.declared.trails.Trail.{Trail}
use Rattle.mir_opt.specs.declared.trails.UnitTrail.{UnitTrail}
use Rattle.mir_opt.specs.OneLaws.{zip_is_one}
use Rattle.mir_opt.specs.Stages.{graph_at, stage_name, stages_in}
use Rattle.mir_top.specs.StageTexts.{IsProgramAt, ShowsInTurn, ShowsStages, title}

-- ---- one text

-- a stage has one program, since each graph has one layout and the globals are those of the source
program_at_same : (trail : Trail) (stage : Stage) (a b : ProgramShape) → IsProgramAt trail stage a → IsProgramAt trail stage b → a ≡ b
program_at_same trail stage a b p q =
    ap (λ x. record a { globals = x }) (p.globals ∙ sym q.globals) ∙ ap (λ x. record b { units = x }) units_same
  where
    laid : UnitTrail → UnitShape → Type 0
    laid unit target = IsLayout (graph_at unit stage) target

    units_same : a.units ≡ b.units
    units_same = zip_is_one laid laid (λ unit target target' is also. layout_is_one (graph_at unit stage) target target' is also) trail.units a.units b.units p.laid q.laid

-- so stages in turn have one text
turn_same : (trail : Trail) (stages : List Stage) (a b : List ℕ) → ShowsInTurn trail stages a → ShowsInTurn trail stages b → a ≡ b
turn_same trail [] a b p q = p ∙ sym q
turn_same trail (stage ∷ stages) a b p q =
    let name = title (stage_name stage) in
    p.4 ∙ ap (λ (r : ProgramShape). (name ++ canonical_text r) ++ p.1) (program_at_same trail stage p.0 q.0 p.2 q.2)
    ∙ ap (λ (l : List ℕ). (name ++ canonical_text q.0) ++ l) (turn_same trail stages p.1 q.1 p.3 q.3) ∙ sym q.4

-- and a trail has one text
pub stages_same : (trail : Trail) (a b : List ℕ) → ShowsStages trail a → ShowsStages trail b → a ≡ b
stages_same trail a b p q =
    p.text_is ∙ ap (λ (l : List ℕ). (title (codes "source") ++ canonical_text trail.source) ++ l) (turn_same trail (stages_in trail.units) p.others q.others p.shown q.shown) ∙ sym q.text_is

-- ---- one more stage

-- at the end of stages that are shown
push_shown : (trail : Trail) (stages : List Stage) (stage : Stage) (text : List ℕ) (program : ProgramShape) → ShowsInTurn trail stages text → IsProgramAt trail stage program → ShowsInTurn trail (stages ++ stage ∷ []) (text ++ (title (stage_name stage) ++ canonical_text program))
push_shown trail [] stage text program shown at =
    let piece = title (stage_name stage) ++ canonical_text program in
    (program, [], at, refl, ap (λ (l : List ℕ). l ++ piece) shown ∙ sym (append-nil piece))
push_shown trail (first ∷ stages) stage text program shown at =
    let piece = title (stage_name stage) ++ canonical_text program in
    let before = title (stage_name first) ++ canonical_text shown.0 in
    (shown.0, shown.1 ++ piece, shown.2, push_shown trail stages stage shown.1 program shown.3 at, ap (λ (l : List ℕ). l ++ piece) shown.4 ∙ append_assoc before shown.1 piece)

-- of a list of which some are shown
pub next_shown : (trail : Trail) (stages : List Stage) (n : ℕ) (stage : Stage) (text : List ℕ) (program : ProgramShape) → ShowsInTurn trail (take n stages) text → slice_get stages n ≡ Some stage → IsProgramAt trail stage program → ShowsInTurn trail (take (n + 1) stages) (text ++ (title (stage_name stage) ++ canonical_text program))
next_shown trail stages n stage text program shown at is =
    subst (λ (l : List Stage). ShowsInTurn trail l (text ++ (title (stage_name stage) ++ canonical_text program))) (sym (take_one stages n stage at))
    (push_shown trail (take n stages) stage text program shown is)
