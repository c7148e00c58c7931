use Rattle.std.proofs.Common.{◌++◌, get_or, ◌∙◌, ap, append_assoc, List, ℕ}
use Rattle.std.proofs.lemmas.Option.{slice_get-get_or}
use Rattle.mir_base.specs.Text.{canonical_text}
use Rattle.mir_opt.specs.declared.stages.Stage.TheVariants.{Lower}
use Rattle.mir_opt.specs.Stages.{stage_name}
use Rattle.mir_top.specs.StageTexts.{title}
use Rattle.mir_top.proofs.ShownLaws.{next_shown}
use Rattle.mir_top.proofs.stages.put_stages.Goals as goal

-- the stage that is put is the next one
pub loop-stage-preserved : goal.loop-stage-preserved
loop-stage-preserved c =
    let before = c.loop-stage.invariant in
    let put = c.in_ok-put_stage.ensures in
    let stages = c.args.stages.now in
    let i = c.loop-stage.stage-index in
    let stage = get_or stages i Lower in
    let piece = title (stage_name stage) ++ canonical_text put.0 in
    (before.0 ++ piece, next_shown c.args.trail.now stages i stage before.0 put.0 before.1 (slice_get-get_or stages i Lower c.loop-stage-test.true) put.1, put.2 ∙ ap (λ (l : List ℕ). l ++ piece) before.2 ∙ append_assoc c.args.text.now.items before.0 piece)
