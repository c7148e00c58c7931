use Rattle.std.proofs.Common.{◌≡◌, ℕ, ◌+◌, ◌<◌, Bool, false, List, length, get_or, ap, ◌∙◌, sym, subst}
use Rattle.std.specs.List.{All}
use Rattle.mir_base.specs.declared.instructions.Inst.{Inst}
use Rattle.mir_print.specs.Labels.{JumpsBelow}
use Rattle.mir_print.proofs.Counting.{marked_more, length_marked}
use Rattle.mir_print.proofs.labels.marks.Goals as goal

below : (body : List Inst) (i many : ℕ) (inst : Inst) → i < length body → inst ≡ get_or body i inst → many ≡ length body + 1 → All (JumpsBelow (length body + 1)) body → JumpsBelow many inst
below body i many inst low at is all =
    let at_place : JumpsBelow (length body + 1) (get_or body i inst) = all i inst low in
    subst (λ (n : ℕ). JumpsBelow n inst) (sym is) (subst (JumpsBelow (length body + 1)) (sym at) at_place)

pub loop-inst-preserved : goal.loop-inst-preserved
loop-inst-preserved c =
    let jumps = below c.args.body.now c.loop-inst.inst-index (length c.loop-inst.marks.items) c.inst-item.result c.loop-inst-test.true c.inst-item.is c.loop-inst.invariant.many c.requires in
    record {
      many = ap length c.mark.ensures ∙ length_marked c.loop-inst.marks.items c.inst-item.result ∙ c.loop-inst.invariant.many;
      each = λ place low.
          ap (λ (marks : List Bool). get_or marks place false) c.mark.ensures
          ∙ marked_more c.args.body.now c.loop-inst.inst-index c.inst-item.result c.loop-inst.marks.items place c.loop-inst-test.true c.inst-item.is jumps (c.loop-inst.invariant.each place low);
    }
