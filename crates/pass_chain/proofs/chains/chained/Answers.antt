use Rattle.std.proofs.Common.{◌≡◌, ◌+◌, List, [], ◌∷◌, drop, get_or, sym, subst, arith}
use Rattle.std.proofs.lemmas.List.{drop_all}
use Rattle.std.proofs.lemmas.Option.{slice_get-get_or}
use Rattle.mir_base.specs.Shapes.{ProgramShape}
use Rattle.flow_graph.specs.ListLaws.{drop_at}
use Rattle.pass_chain.specs.declared.passes.Pass.{Pass}
use Rattle.pass_chain.specs.declared.passes.Pass.TheVariants.{Tails}
use Rattle.pass_chain.specs.ChainLaws.{HasCome, at_first, chain_ends, chain_on}
use Rattle.pass_chain.specs.Passes.{IsChained}
use Rattle.pass_chain.proofs.chains.chained.Goals as goal

-- a loop with these passes left has come to this program
abbrev Come : List Pass → ProgramShape → ProgramShape → List Pass → Type 0
Come passes source last others = HasCome (IsChained passes source) source last (IsChained others last)

pub loop-pass-init : goal.loop-pass-init
loop-pass-init c =
    subst (λ (p : ProgramShape). Come c.args.passes.now c.args.program.now p c.args.passes.now) (sym c.in_ok-last.ensures.cases) (at_first (IsChained c.args.passes.now c.args.program.now) c.args.program.now)

pub loop-pass-preserved : goal.loop-pass-preserved
loop-pass-preserved c =
    let passes = c.args.passes.now in
    let source = c.args.program.now in
    let last = c.loop-pass.last in
    let next = c.in_ok-next.next in
    let i = c.loop-pass.pass-index in
    let pass = get_or passes i Tails in
    let others : drop i passes ≡ pass ∷ drop (i + 1) passes = drop_at passes i pass (slice_get-get_or passes i Tails c.loop-pass-test.true) in
    let come = subst (Come passes source last) others c.loop-pass.invariant in
    subst (λ (p : ProgramShape). Come passes source p (drop (i + 1) passes)) (sym c.replace.ensures.after)
    (chain_on (IsChained passes source) source last next pass (drop (i + 1) passes) come c.in_ok-next.ensures.passed c.in_ok-next.ensures.only c.in_ok-next.ensures.keeps)

pub returns : goal.returns
returns c =
    let passes = c.args.passes.now in
    let none : drop c.loop-pass.pass-index passes ≡ [] = drop_all c.loop-pass.pass-index passes (omega (arith, c.loop-pass-test.false)) in
    chain_ends passes c.args.program.now c.loop-pass.last (subst (Come passes c.args.program.now c.loop-pass.last) none c.loop-pass.invariant)
