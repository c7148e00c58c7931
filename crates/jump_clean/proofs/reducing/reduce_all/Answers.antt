use Rattle.std.proofs.Common.{◌≡◌, ◌∙◌, [], ◌∷◌, ap, sym, subst, refl, arith, length, slice_get}
use Rattle.mir_base.specs.BelowLaws.{all_below_right}
use Rattle.std.proofs.lemmas.Grind.{common_steps}
use Rattle.mir_base.specs.Shapes.{AllBelow}
use Rattle.jump_clean.specs.ReductionLaws.{all_long}
use Rattle.jump_clean.specs.Joining.{IsJoining}
use Rattle.jump_clean.proofs.Joins.{joining_begins, joining_ends, joining_as, slice_joined}
use Rattle.jump_clean.proofs.reducing.reduce_all.Goals as goal

pub loop-n-init : goal.loop-n-init
loop-n-init c =
    let nodes = c.args.nodes.items in
    let of = c.in_ok-classes.classes.of.items in
    let worklist = c.in_ok-worklist.worklist.items in
    let all = c.in_ok-all.all.items in
    let value : c.as_slice.result.now ≡ nodes = c.as_slice.ensures.value in
    let count : c.len.result ≡ length nodes = c.len.ensures ∙ sym c.as_slice.ensures.len ∙ ap length value in
    let count-2 : c.len-2.result ≡ length nodes = c.len-2.ensures ∙ sym c.as_slice.ensures.len ∙ ap length value in
    let begun : IsJoining nodes nodes of worklist all =
    joining_begins nodes of worklist all c.requires.within (c.in_ok-classes.ensures.long ∙ count) (λ n lt. c.in_ok-classes.ensures.apart n (omega (arith, lt, count)))
    (λ n next e. c.in_ok-worklist.ensures.all n next (ap (λ l. slice_get l n) value ∙ e)) (λ n lt. c.in_ok-all.ensures.all n (omega (arith, lt, count-2)))
    (subst (λ l. AllBelow (length l) worklist) value c.in_ok-worklist.ensures.below) (subst (λ k. AllBelow k all) count-2 c.in_ok-all.ensures.below) in
    let given = joining_as nodes nodes nodes of c.as_slice-2.result.now worklist worklist all c.as_slice-3.result.now refl (sym c.as_slice-2.ensures.value) refl (sym c.as_slice-3.ensures.value) begun in
    let now = c.in_ok-recheck.ensures.joining nodes given in
    record {
      joining = joining_as nodes c.recheck.new.nodes.items c.recheck.new.nodes.items c.as_slice-2.result.now of c.recheck.new.worklist.items c.recheck.new.worklist.items [] [] refl c.as_slice-2.ensures.value refl refl now;
      members = c.in_ok-classes.ensures.members;
    }

pub join_skip-requires-clause-n : goal.join_skip-requires-clause-n
join_skip-requires-clause-n c =
    let j = subst (λ l. IsJoining c.args.nodes.items c.loop-n.nodes.items c.loop-n.classes.of.items l []) c.in-Some.ensures.items c.loop-n.invariant.joining in
    let b = all_below_right (length c.loop-n.nodes.items) c.pop.new.self.items (c.in-Some.n ∷ []) j.worklist_below in
    omega (arith, b.0, ap length c.as_slice-in-Some.ensures.value)

pub join_skip-requires-clause-edges : goal.join_skip-requires-clause-edges
join_skip-requires-clause-edges c =
    let j = c.loop-n.invariant.joining in
    ap (λ e. e.nodes) c.requires.edges ∙ sym (all_long c.args.nodes.items j.order c.loop-n.nodes.items j.reductions) ∙ sym (ap length c.as_slice-in-Some.ensures.value)

pub recheck-requires-in-Some-clause-long : goal.recheck-requires-in-Some-clause-long
recheck-requires-in-Some-clause-long c =
    let j = slice_joined c.args.nodes.items c.loop-n.nodes.items c.as_slice-in-Some.result.now c.loop-n.classes.of.items c.join_skip.new.classes.of.items c.loop-n.worklist.items c.pop.new.self.items c.join_skip.new.checks.items c.in-Some.n c.as_slice-in-Some.ensures.value c.in-Some.ensures.items c.loop-n.invariant.joining (c.in_ok-join_skip.ensures.joining c.args.nodes.items c.pop.new.self.items c.requires.edges) in
    ap length c.as_slice-in-Some-2.ensures.value ∙ j.long

pub recheck-requires-in-Some-clause-below : goal.recheck-requires-in-Some-clause-below
recheck-requires-in-Some-clause-below c =
    let j = slice_joined c.args.nodes.items c.loop-n.nodes.items c.as_slice-in-Some.result.now c.loop-n.classes.of.items c.join_skip.new.classes.of.items c.loop-n.worklist.items c.pop.new.self.items c.join_skip.new.checks.items c.in-Some.n c.as_slice-in-Some.ensures.value c.in-Some.ensures.items c.loop-n.invariant.joining (c.in_ok-join_skip.ensures.joining c.args.nodes.items c.pop.new.self.items c.requires.edges) in
    subst (AllBelow (length c.loop-n.nodes.items)) (sym c.as_slice-in-Some-3.ensures.value) j.suspects_below

pub loop-n-preserved : goal.loop-n-preserved
loop-n-preserved c =
    let raw = c.args.nodes.items in
    let of = c.join_skip.new.classes.of.items in
    let j = slice_joined c.args.nodes.items c.loop-n.nodes.items c.as_slice-in-Some.result.now c.loop-n.classes.of.items c.join_skip.new.classes.of.items c.loop-n.worklist.items c.pop.new.self.items c.join_skip.new.checks.items c.in-Some.n c.as_slice-in-Some.ensures.value c.in-Some.ensures.items c.loop-n.invariant.joining (c.in_ok-join_skip.ensures.joining c.args.nodes.items c.pop.new.self.items c.requires.edges) in
    let given = joining_as raw c.loop-n.nodes.items c.loop-n.nodes.items of c.as_slice-in-Some-2.result.now c.pop.new.self.items c.pop.new.self.items c.join_skip.new.checks.items c.as_slice-in-Some-3.result.now refl (sym c.as_slice-in-Some-2.ensures.value) refl (sym c.as_slice-in-Some-3.ensures.value) j in
    let now = c.in_ok-recheck-2.ensures.joining raw given in
    record {
      joining = joining_as raw c.recheck-in-Some.new.nodes.items c.recheck-in-Some.new.nodes.items c.as_slice-in-Some-2.result.now of c.recheck-in-Some.new.worklist.items c.recheck-in-Some.new.worklist.items [] [] refl c.as_slice-in-Some-2.ensures.value refl refl now;
      members = c.in_ok-join_skip.ensures.members;
    }

pub returns : goal.returns
returns c =
    let none : c.loop-n.worklist.items ≡ [] = grind (arith, common_steps) in
    joining_ends c.args.nodes.items c.loop-n.nodes.items c.loop-n.classes.of.items (subst (λ l. IsJoining c.args.nodes.items c.loop-n.nodes.items c.loop-n.classes.of.items l []) none c.loop-n.invariant.joining)
