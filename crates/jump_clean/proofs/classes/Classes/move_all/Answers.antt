use Rattle.std.proofs.Common.{◌≡◌, ◌∙◌, ℕ, [], ap, sym, subst, length, slice_set, ◌⊎◌, inl, inr}
use Rattle.mir_base.specs.Shapes.{AllBelow}
use Rattle.jump_clean.specs.Classes.{AreMoved, HaveMembers, class, members_in, with_more}
use Rattle.jump_clean.proofs.Moves.{members_below, are_moved, has_moved}
use Rattle.jump_clean.proofs.classes.Classes.move_all.Goals as goal
use Rattle.jump_clean.proofs.classes.Classes.move_all.Goals.{In_ok-add}
use Rattle.flow_graph.specs.Numbering.{IsIn}

pub relabel-requires : goal.relabel-requires
relabel-requires c =
    let of : c.take-moved.new.self.of.items ≡ c.args.self.now.of.items = c.take-moved.ensures.of in
    subst (λ l. AllBelow (length l) c.as_slice.result.now) (sym of)
    (subst (AllBelow (length c.args.self.now.of.items)) (sym c.as_slice.ensures) (members_below (length c.args.self.now.of.items) c.take-moved.result.items (λ n h. (c.requires.members.only n c.args.from (subst (IsIn n) c.take-moved.ensures.taken h)).0)))

-- both facts at once: the members that were taken are exactly those that got the new number
both : (c : In_ok-add) → AreMoved c.args.self.now.of.items c.add.new.self.of.items c.args.from c.args.into c.take-moved.result.items × HaveMembers c.add.new.self
both c =
    let old = c.args.self.now.of.items in
    let members = members_in c.args.self.now in
    let moved = c.take-moved.result.items in
    let taken_of : c.take-moved.new.self.of.items ≡ c.args.self.now.of.items = c.take-moved.ensures.of in
    let new_of : c.add.new.self.of.items ≡ c.relabel.new.of.items = c.in_ok-add.ensures.of in
    let long = ap length new_of ∙ c.relabel.ensures.long ∙ ap length taken_of in
    let gone = λ (n : ℕ) (h : IsIn n c.take-moved.result.items). ap (λ l. class l n) new_of ∙ c.relabel.ensures.gone n (subst (IsIn n) (sym c.as_slice.ensures) h) in
    let others = λ (n : ℕ). elim (c.relabel.ensures.others n) as (λ _. (class c.add.new.self.of.items n ≡ class c.args.self.now.of.items n) ⊎ IsIn n c.take-moved.result.items) [
      | inl same ↦ inl (ap (λ l. class l n) new_of ∙ same ∙ ap (λ l. class l n) taken_of)
      | inr h ↦ inr (subst (IsIn n) c.as_slice.ensures h)
    ] in
    let added = c.in_ok-add.ensures.added ∙ ap (λ l. with_more l c.args.into c.as_slice-2.result.now) c.take-moved.ensures.left ∙ ap (with_more (slice_set members c.args.from []) c.args.into) c.as_slice-2.ensures in (
      are_moved old c.add.new.self.of.items members (members_in c.add.new.self) c.args.from c.args.into moved c.requires.members c.requires.from c.requires.into c.requires.apart c.take-moved.ensures.taken long gone others added,
      has_moved old c.add.new.self.of.items members (members_in c.add.new.self) c.args.from c.args.into moved c.requires.members c.requires.from c.requires.into c.requires.apart c.take-moved.ensures.taken long gone others added,
    )

pub returns-clause-members : goal.returns-clause-members
returns-clause-members c = (both (goal.at.returns-clause-members c).In_ok-add).1

pub returns-clause-moved : goal.returns-clause-moved
returns-clause-moved c = (both (goal.at.returns-clause-moved c).In_ok-add).0
