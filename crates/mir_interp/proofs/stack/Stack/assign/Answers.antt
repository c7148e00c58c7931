use Rattle.std.proofs.Common.{◌+◌, ap, ◌∙◌, arith, reverse, w64, to_z, of_z, to_z-of_z}
use Rattle.std.proofs.lemmas.List.{take-set-le}
use Rattle.mir_base.specs.Units.{assigned}
use Rattle.mir_interp.specs.RunsSoFar.{callers_of, running}
use Rattle.mir_interp.proofs.Frames.{running_same, assigned_is}
use Rattle.mir_interp.proofs.stack.Stack.assign.Goals as goal

pub returns-clause-control : goal.returns-clause-control
returns-clause-control c =
    let top = c.args.self.now.running in
    let values = c.args.self.now.values.items in
    let v = to_z w64 (of_z w64 c.args.value) in
    let frame = assigned_is values top c.args.x (top.place + 1) v c.requires.there ∙ ap (λ v. assigned c.args.x v (top.place + 1) (running c.args.self.now)) (to_z-of_z c.ranges.value) in
    let others = take-set-le top.arguments values (top.variables + c.args.x) v (omega (arith, c.requires.ordered)) in
    running_same top.unit _ _ _ _ frame (ap (λ vs. callers_of vs (reverse c.args.self.now.callers.items)) others)
