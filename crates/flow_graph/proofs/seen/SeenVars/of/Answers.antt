use Rattle.std.proofs.Common.{◌∙◌, sym, subst, refl, length}
use Rattle.std.proofs.lemmas.Option.{slice_get_read}
use Rattle.mir_base.specs.Frames.{shared_vars}
use Rattle.mir_base.specs.Shapes.{AllBelow, inst_vars}
use Rattle.flow_graph.specs.RenamingLaws.{seen_more}
use Rattle.mir_base.specs.BelowLaws.{all_below_item}
use Rattle.flow_graph.proofs.seen.SeenVars.of.Goals as goal

pub see_inst-requires : goal.see_inst-requires
see_inst-requires c =
    let body = c.args.body.now in
    let i = c.loop-inst.inst-index in
    let here = slice_get_read body (length body) i c.inst-item.result refl c.loop-inst-test.true c.inst-item.is in
    subst (λ n. AllBelow n (inst_vars c.inst-item.result)) (sym c.loop-inst.invariant.vars) (all_below_item inst_vars c.args.vars body i c.inst-item.result c.requires.below here)

pub loop-inst-preserved : goal.loop-inst-preserved
loop-inst-preserved c =
    let body = c.args.body.now in
    let i = c.loop-inst.inst-index in
    let here = slice_get_read body (length body) i c.inst-item.result refl c.loop-inst-test.true c.inst-item.is in
    record {
      vars = c.in_ok-see_inst.ensures.vars ∙ c.loop-inst.invariant.vars;
      seen = seen_more inst_vars (shared_vars c.args.shared) c.loop-inst.seen.seen c.see_inst.new.self.seen body i c.inst-item.result here c.loop-inst.invariant.seen c.in_ok-see_inst.ensures.seen;
    }
