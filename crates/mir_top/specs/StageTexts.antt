-- The texts of the stages of a trail. Cited by contracts.
use Rattle.std.specs.Prelude.{ℕ, ◌≡◌, List, [], ◌∷◌, ◌++◌, codes, Vec}
use Rattle.mir_base.specs.Shapes.{IsProgram, ProgramShape}
use Rattle.mir_base.specs.Text.{canonical_text}
use Rattle.mir_opt.specs.declared.stages.Stage.{Stage}
use Rattle.mir_opt.specs.declared.trails.Trail.{Trail}
use Rattle.mir_opt.specs.Stages.{AreLaid, KeepsProgram, graph_at, stage_name, stages_in}

-- the line with this name, a comment of the language
abbrev pub title : List ℕ → List ℕ
title name = codes "|| " ++ name ++ codes "\n"

-- the program with the globals of the source whose units are the layouts of the graphs of a stage: it is a program, and
-- keeps what the source is and does
pub record IsProgramAt (trail : Trail) (stage : Stage) (program : ProgramShape) : Type 0 where
  pub laid : AreLaid graph_at stage trail.units program.units
  pub globals : program.globals ≡ trail.source.globals
  pub fits : IsProgram program.globals program.units
  pub keeps : KeepsProgram trail.source program

-- the text is that of the program of each of these stages in turn, each behind its title
abbrev pub ShowsInTurn : Trail → List Stage → List ℕ → Type 0
ShowsInTurn trail [] text = text ≡ []
ShowsInTurn trail (stage ∷ stages) text =
    (program : ProgramShape) × (others : List ℕ) × IsProgramAt trail stage program
    × ShowsInTurn trail stages others
    × (text ≡ (title (stage_name stage) ++ canonical_text program) ++ others)

-- the text is that of the source, and then that of each stage of the trail, with nothing left out
pub record ShowsStages (trail : Trail) (text : List ℕ) : Type 0 where
  pub others : List ℕ
  pub shown : ShowsInTurn trail (stages_in trail.units) others
  pub text_is : text ≡ (title (codes "source") ++ canonical_text trail.source) ++ others

-- ---- for the functions that write them

-- the vector ends as it was with the title and the text of a stage behind
abbrev pub AppendsStage : {A : Type 0} → Trail → Stage → Vec ℕ A → Vec ℕ A → Type 0
AppendsStage trail stage old new =
    (program : ProgramShape) × IsProgramAt trail stage program
    × (new.items ≡ old.items ++ (title (stage_name stage) ++ canonical_text program))

-- the new bytes are the old ones with the titles and the texts of these stages in turn
abbrev pub AppendsStages : {A : Type 0} → Trail → List Stage → Vec ℕ A → Vec ℕ A → Type 0
AppendsStages trail stages old new =
    (others : List ℕ) × ShowsInTurn trail stages others × (new.items ≡ old.items ++ others)
