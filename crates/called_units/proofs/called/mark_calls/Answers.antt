use Rattle.std.proofs.Common.{◌≡◌, Some, slice_get, sym, ap, ◌∙◌, arith}
use Rattle.std.proofs.lemmas.Option.{slice_get-get_or, slice_get_within}
use Rattle.mir_base.specs.Shapes.{body_or_empty}
use Rattle.flow_graph.specs.ReachWalks.{walk_weight}
use Rattle.called_units.proofs.Walks.{call_below, followed, follows, passes}
use Rattle.called_units.proofs.called.mark_calls.Goals as goal
use Rattle.called_units.proofs.called.mark_calls.Goals.{in-Call+in_ok-mark-in-Call, in-Receive, in-Assign, in-Goto, in-If, in-TrapIf, in-Print, in-Return}

pub mark-requires : goal.mark-requires
mark-requires c =
    let body = c.insts-body.result.now in
    let at = slice_get-get_or body c.loop-inst.inst-index c.inst-item.result c.loop-inst-test.true ∙ ap Some (sym c.inst-item.is) in
    let lt = call_below c.args.program.now.units c.unit.result.now.body body c.loop-inst.inst-index c.inst-item.result _ c.in-Call.called _ c.unit.ensures.fits c.insts-body.ensures.value at c.in-Call.is in
    omega (arith, lt, c.loop-inst.invariant.walking.long)

pub loop-inst-preserved : goal.loop-inst-preserved
loop-inst-preserved c =
    let program = c.args.program.now in
    let body = c.insts-body.result.now in
    let i = c.loop-inst.inst-index in
    let inst = c.inst-item.result in
    let weight = walk_weight c.args.marks.now.items c.args.stack.now.items in
    let marks = c.loop-inst.marks.items in
    let stack = c.loop-inst.stack.items in
    let marks' = c.match-inst.marks.items in
    let stack' = c.match-inst.stack.items in
    let at : slice_get body i ≡ Some inst = slice_get-get_or body i inst c.loop-inst-test.true ∙ ap Some (sym c.inst-item.is) in
    let body_is = ap body_or_empty c.unit.ensures.unit ∙ sym c.insts-body.ensures.value in
    elim c.match-inst.branch [
      | in-Call+in_ok-mark-in-Call w ↦
          let lt = call_below program.units c.unit.result.now.body body i inst _ w.in-Call.called _ c.unit.ensures.fits c.insts-body.ensures.value at w.in-Call.is in
          follows program c.args.unit body weight i inst marks marks' stack stack' c.loop-inst.invariant at _ w.in-Call.called _ w.in-Call.is c.requires.called body_is lt
          (ap (λ v. v.items) w.marks-is ∙ w.in_ok-mark-in-Call.ensures.marks) (ap (λ v. v.items) w.stack-is ∙ w.in_ok-mark-in-Call.ensures.stack)
      | in-Receive w ↦ passes program c.args.unit body weight i inst marks marks' stack stack' c.loop-inst.invariant at (λ called into operands e. let f = sym w.in-Receive.is ∙ e in cc) (ap (λ v. v.items) w.marks-is) (ap (λ v. v.items) w.stack-is)
      | in-Assign w ↦ passes program c.args.unit body weight i inst marks marks' stack stack' c.loop-inst.invariant at (λ called into operands e. let f = sym w.in-Assign.is ∙ e in cc) (ap (λ v. v.items) w.marks-is) (ap (λ v. v.items) w.stack-is)
      | in-Goto w ↦ passes program c.args.unit body weight i inst marks marks' stack stack' c.loop-inst.invariant at (λ called into operands e. let f = sym w.in-Goto.is ∙ e in cc) (ap (λ v. v.items) w.marks-is) (ap (λ v. v.items) w.stack-is)
      | in-If w ↦ passes program c.args.unit body weight i inst marks marks' stack stack' c.loop-inst.invariant at (λ called into operands e. let f = sym w.in-If.is ∙ e in cc) (ap (λ v. v.items) w.marks-is) (ap (λ v. v.items) w.stack-is)
      | in-TrapIf w ↦ passes program c.args.unit body weight i inst marks marks' stack stack' c.loop-inst.invariant at (λ called into operands e. let f = sym w.in-TrapIf.is ∙ e in cc) (ap (λ v. v.items) w.marks-is) (ap (λ v. v.items) w.stack-is)
      | in-Print w ↦ passes program c.args.unit body weight i inst marks marks' stack stack' c.loop-inst.invariant at (λ called into operands e. let f = sym w.in-Print.is ∙ e in cc) (ap (λ v. v.items) w.marks-is) (ap (λ v. v.items) w.stack-is)
      | in-Return w ↦ passes program c.args.unit body weight i inst marks marks' stack stack' c.loop-inst.invariant at (λ called into operands e. let f = sym w.in-Return.is ∙ e in cc) (ap (λ v. v.items) w.marks-is) (ap (λ v. v.items) w.stack-is)
    ]

pub returns-clause-walking : goal.returns-clause-walking
returns-clause-walking c =
    let body = c.insts-body.result.now in
    followed c.args.program.now c.loop-inst.marks.items c.loop-inst.stack.items c.args.unit body (ap body_or_empty c.unit.ensures.unit ∙ sym c.insts-body.ensures.value) c.loop-inst.invariant.walking
    (λ place called into operands lt at. c.loop-inst.invariant.done place called into operands (omega (arith, lt, c.loop-inst-test.false)) at)
    (λ place inst at. slice_get_within body place inst at)
