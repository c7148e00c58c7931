use Rattle.std.proofs.Common.{subst, sym}
use Rattle.mir_base.specs.Shapes.{IsProgram, ProgramShape}
use Rattle.mir_sim.proofs.Lifts.{forth, back, as_many_globals, lifts_shallow}
use Rattle.mir_sim.proofs.lift.Goals as goal

pub follow-requires : goal.follow-requires
follow-requires c =
    let is = subst (λ (p : ProgramShape). IsProgram p.globals p.units) c.first.view_is c.first.invariant in
    record { shared = as_many_globals c.args.first.now c.args.second.now is c.requires.units; units = forth c.args.first.now c.args.second.now c.requires.units }

pub follow-requires-2 : goal.follow-requires-2
follow-requires-2 c =
    let is = subst (λ (p : ProgramShape). IsProgram p.globals p.units) c.first.view_is c.first.invariant in
    record { shared = sym (as_many_globals c.args.first.now c.args.second.now is c.requires.units); units = back c.args.first.now c.args.second.now c.requires.units }

pub returns-clause-same : goal.returns-clause-same
returns-clause-same c =
    let is = subst (λ (p : ProgramShape). IsProgram p.globals p.units) c.first.view_is c.first.invariant in
    record { inputs = (c.requires.units.same 0 is.some_unit).receives; forth = c.follow.ensures; back = c.follow-2.ensures }

pub returns-clause-shallower : goal.returns-clause-shallower
returns-clause-shallower c =
    let is = subst (λ (p : ProgramShape). IsProgram p.globals p.units) c.first.view_is c.first.invariant in
    let is' = subst (λ (p : ProgramShape). IsProgram p.globals p.units) c.second.view_is c.second.invariant in
    lifts_shallow c.args.first.now c.args.second.now is is' c.requires.units
