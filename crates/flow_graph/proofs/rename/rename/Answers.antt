use Rattle.std.proofs.Common.{◌≡◌, ◌+◌, ◌≤◌, ◌∙◌, List, suc, length, set, slice_get, Some, ap, refl, sym, subst, arith}
use Rattle.std.proofs.lemmas.Option.{slice_get_read}
use Rattle.mir_base.specs.declared.instructions.Inst.{Inst}
use Rattle.mir_base.specs.Shapes.{AllBelow, inst_vars}
use Rattle.mir_base.specs.BelowLaws.{all_below_item}
use Rattle.flow_graph.specs.Numbering.{first_index, renamed}
use Rattle.flow_graph.proofs.Mapping.{mapped_below, mapped_get, mapped_more, mapped_whole}
use Rattle.flow_graph.proofs.rename.rename.Goals as goal
use Rattle.flow_graph.proofs.rename.rename.Goals.{After-index-body-number}

-- the instruction at hand is that of the old body
here : (c : After-index-body-number) → slice_get c.args.body.now c.loop-number.number ≡ Some c.index-body-number.result
here c =
    let n = c.loop-number.number in
    sym (mapped_get (renamed (first_index c.args.seen.now.seen)) n c.args.body.now) ∙ ap (λ (l : List Inst). slice_get l n) (sym c.loop-number.invariant)
    ∙ slice_get_read c.loop-number.body (length c.loop-number.body) n c.index-body-number.result refl (omega (arith, c.loop-number-test.true, c.loop-number.auto.body)) c.index-body-number.is

pub rename_inst-requires : goal.rename_inst-requires
rename_inst-requires c =
    subst (λ (inst : Inst). AllBelow c.args.seen.now.vars (inst_vars inst)) c.index-body-number.is
    (all_below_item inst_vars c.args.seen.now.vars c.args.body.now c.loop-number.number c.index-body-number.result c.requires (here (goal.at.rename_inst-requires c).After-index-body-number))

pub loop-number-preserved : goal.loop-number-preserved
loop-number-preserved c =
    let f = renamed (first_index c.args.seen.now.seen) in
    let old = c.args.body.now in
    let n = c.loop-number.number in
    let one : suc n ≡ n + 1 = omega arith in
    ap (λ (l : List Inst). set l n c.rename_inst.new.inst) c.loop-number.invariant
    ∙ ap (set (mapped_below f n old) n) (c.in_ok-rename_inst.ensures ∙ ap f (sym c.index-body-number.is))
    ∙ mapped_more f n old c.index-body-number.result (here (goal.at.loop-number-preserved c).After-index-body-number)
    ∙ ap (λ k. mapped_below f k old) one

pub returns : goal.returns
returns c =
    let f = renamed (first_index c.args.seen.now.seen) in
    let late : length c.args.body.now ≤ c.loop-number.number = omega (arith, c.loop-number-test.false) in
    c.loop-number.invariant ∙ mapped_whole f c.loop-number.number c.args.body.now late
