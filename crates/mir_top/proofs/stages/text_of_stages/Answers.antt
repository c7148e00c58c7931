use Rattle.std.proofs.Common.{◌++◌, codes, ◌∙◌, ap, subst, List, ℕ}
use Rattle.mir_base.specs.Text.{canonical_text}
use Rattle.mir_opt.specs.declared.stages.Stage.{Stage}
use Rattle.mir_top.specs.StageTexts.{ShowsInTurn, title}
use Rattle.mir_top.proofs.stages.text_of_stages.Goals as goal

-- the source is put into a text that is empty, and then the stages
pub returns : goal.returns
returns c =
    let trail = c.args.trail.now in
    let shown = c.in_ok-put_stages.ensures in
    let source = title (codes "source") ++ canonical_text trail.source in
    record {
      others = shown.0;
      shown = subst (λ (l : List Stage). ShowsInTurn trail l shown.0) (c.deref.ensures.value ∙ c.in_ok-stages.ensures) shown.1;
      text_is = shown.2 ∙ ap (λ (l : List ℕ). l ++ shown.0) (c.in_ok-put_source.ensures ∙ ap (λ (l : List ℕ). l ++ source) c.new-text.ensures.items);
    }
