use Rattle.std.proofs.Common.{◌≡◌, ◌+◌, ◌++◌, List, ℤ, length, map, drop, take, replicate, pos, ap, ◌∙◌, arith, length-append, append_assoc}
use Rattle.std.proofs.lemmas.Grind.{common_steps}
use Rattle.std.proofs.lemmas.List.{length-map, length-replicate}
use Rattle.std.proofs.Math.Seq.{take-append_seam}
use Rattle.mir_base.specs.Frames.{shared_values}
use Rattle.mir_base.specs.SharedLaws.{shared_long}
use Rattle.mir_base.specs.Units.{operand_value}
use Rattle.mir_interp.specs.RunsSoFar.{values_of}
use Rattle.mir_interp.proofs.Frames.{callee_entered, waits_too}
use Rattle.mir_interp.proofs.stack.Stack.enter.Goals as goal

pub returns-clause-control : goal.returns-clause-control
returns-clause-control c =
    let base : c.len-arguments.result ≡ length c.args.self.now.values.items = grind (arith, common_steps) in
    let first : c.len-variables.result ≡ length c.push_operands.new.values.items = grind (arith, common_steps) in
    callee_entered c.args.self.now.values.items _ c.push_operands.new.values.items c.push_globals.new.values.items _ c.args.self.now.running.variables c.args.self.now.shared _ _ _ c.args.called _ _ _
    (omega (arith, c.requires.stack.globals, c.requires.stack.running.shares, c.requires.stack.running.long))
    c.in_ok-push_operands.ensures c.in_ok-push_globals.ensures c.in_ok-push_zeros.ensures base first c.in_ok-push.ensures.items

pub returns-clause-kept : goal.returns-clause-kept
returns-clause-kept c =
    let values : List ℤ = c.args.self.now.values.items in
    let arguments : List ℤ = map (operand_value (values_of (drop c.args.self.now.running.variables values))) c.args.operands.now in
    let globals : List ℤ = shared_values c.args.self.now.shared (values_of (drop c.args.self.now.running.variables c.push_operands.new.values.items)) in
    let zeros : List ℤ = replicate c.own_variables.result (pos 0) in
    let base : c.len-arguments.result ≡ length values = grind (arith, common_steps) in
    let first : c.len-variables.result ≡ length c.push_operands.new.values.items = grind (arith, common_steps) in
    let read : length c.push_operands.new.values.items ≡ length values + length c.args.operands.now =
    ap length c.in_ok-push_operands.ensures ∙ length-append values arguments ∙ ap (λ n. length values + n) (length-map c.args.operands.now (operand_value (values_of (drop c.args.self.now.running.variables values)))) in
    let shared : length c.push_globals.new.values.items ≡ length c.push_operands.new.values.items + c.args.self.now.shared =
    ap length c.in_ok-push_globals.ensures ∙ length-append c.push_operands.new.values.items globals
    ∙ ap (λ n. length c.push_operands.new.values.items + n) (shared_long c.args.self.now.shared (values_of (drop c.args.self.now.running.variables c.push_operands.new.values.items))) in
    let pushed : length c.push_zeros.new.values.items ≡ length c.push_globals.new.values.items + c.own_variables.result =
    ap length c.in_ok-push_zeros.ensures ∙ length-append c.push_globals.new.values.items zeros ∙ ap (λ n. length c.push_globals.new.values.items + n) (length-replicate c.own_variables.result (pos 0)) in
    let whole : c.push_zeros.new.values.items ≡ values ++ (arguments ++ (globals ++ zeros)) =
    c.in_ok-push_zeros.ensures ∙ ap (λ vs. vs ++ zeros) (c.in_ok-push_globals.ensures ∙ ap (λ vs. vs ++ globals) c.in_ok-push_operands.ensures)
    ∙ append_assoc (values ++ arguments) globals zeros ∙ append_assoc values arguments (globals ++ zeros) in
    let cut : take c.len-arguments.result c.push_zeros.new.values.items ≡ values = ap (take c.len-arguments.result) whole ∙ ap (λ n. take n (values ++ (arguments ++ (globals ++ zeros)))) base ∙ take-append_seam values (arguments ++ (globals ++ zeros)) in
    record {
      globals = c.requires.stack.globals;
      running = record {
        there = c.requires.called;
        shares = omega (arith, c.own_variables.ensures);
        received = omega (arith, base, first, read, c.requires.count);
        long = omega (arith, first, shared, pushed, c.own_variables.ensures, c.requires.stack.globals);
      };
      callers = waits_too c.args.program.now c.args.self.now c.args.into (c.args.self.now.running.place + 1) c.len-arguments.result c.push_zeros.new.values.items _ c.requires.stack cut c.in_ok-push.ensures.items c.requires.into;
    }
