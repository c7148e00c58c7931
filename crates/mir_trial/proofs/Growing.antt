-- A body that grows by groups.
use Rattle.std.proofs.Common.{◌≡◌, ◌<◌, ◌+◌, ◌-◌, ℕ, zero, suc, List, [], ◌++◌, length, refl, sym, ◌∙◌, ap, subst, arith, append_assoc, length-append}
use Rattle.std.proofs.lemmas.List.{append-nil}
use Rattle.mir_base.specs.declared.instructions.Inst.{Inst}
use Rattle.mir_trial.specs.Trial.{Group, group, groups}

-- after some of the groups: what there is, and so many groups from this state on, are all of it
pub record SoFar (count : ℕ) (first : List Inst) (start left : ℕ) (items : List Inst) (state : ℕ) : Type 0 where
  pub insts : first ++ (groups count (length first) start).insts ≡ items ++ (groups left (length items) state).insts
  pub ends : (groups count (length first) start).state ≡ (groups left (length items) state).state

-- at first there is what stood before
pub begins : (count : ℕ) (first : List Inst) (start : ℕ) → SoFar count first start (count - 0) first start
begins count first start = subst (λ (n : ℕ). SoFar count first start n first start) (omega arith) (record { insts = refl; ends = refl })

-- one group, and the others; or none
pub groups_suc : (count at z : ℕ) → groups (suc count) at z ≡ (let one = group at z in let others = groups count (at + length one.insts) one.state in record { insts = one.insts ++ others.insts; state = others.state })
unfolding groups
groups_suc count at z = refl

-- no groups are no instructions, and the state stays
pub groups_zero : (at z : ℕ) → groups zero at z ≡ record { insts = []; state = z }
unfolding groups
groups_zero at z = refl

-- one more group at the end, so the invariant holds with one group fewer left
grow : (count : ℕ) (first : List Inst) (start left : ℕ) (items : List Inst) (state : ℕ) → SoFar count first start (suc left) items state
    → SoFar count first start left (items ++ (group (length items) state).insts) (group (length items) state).state
grow count first start left items state so =
    let one = group (length items) state in
    let more = groups_suc left (length items) state in
    let long : length items + length one.insts ≡ length (items ++ one.insts) = sym (length-append items one.insts) in
    record {
      insts = so.insts ∙ ap (λ (g : Group). items ++ g.insts) more ∙ sym (append_assoc items one.insts (groups left (length items + length one.insts) one.state).insts)
          ∙ ap (λ (n : ℕ). (items ++ one.insts) ++ (groups left n one.state).insts) long;
      ends = so.ends ∙ ap (λ (g : Group). g.state) more ∙ ap (λ (n : ℕ). (groups left n one.state).state) long;
    }

-- one group more at the end
pub group_grows : (count : ℕ) (first : List Inst) (start group_number : ℕ) (items : List Inst) (state : ℕ) (new : List Inst) (next : ℕ) → group_number < count → SoFar count first start (count - group_number) items state
    → new ≡ items ++ (group (length items) state).insts → next ≡ (group (length items) state).state → SoFar count first start (count - (group_number + 1)) new next
group_grows count first start group_number items state new next below so is also =
    let one : count - group_number ≡ suc (count - (group_number + 1)) = omega arith in
    let grown = grow count first start (count - (group_number + 1)) items state (subst (λ (n : ℕ). SoFar count first start n items state) one so) in
    subst (λ (l : List Inst). SoFar count first start (count - (group_number + 1)) l next) (sym is)
    (subst (λ (z : ℕ). SoFar count first start (count - (group_number + 1)) (items ++ (group (length items) state).insts) z) (sym also) grown)

-- at the end there are all groups, and the draws have their state
pub ends_insts : (count : ℕ) (first : List Inst) (start group_number : ℕ) (items : List Inst) (state : ℕ) → group_number ≡ count → SoFar count first start (count - group_number) items state → items ≡ first ++ (groups count (length first) start).insts
ends_insts count first start group_number items state is so =
    let none : count - group_number ≡ 0 = omega arith in
    sym (so.insts ∙ ap (λ (n : ℕ). items ++ (groups n (length items) state).insts) none ∙ ap (λ (g : Group). items ++ g.insts) (groups_zero (length items) state) ∙ append-nil items)

-- when all turns are done the state is that of all groups
pub ends_state : (count : ℕ) (first : List Inst) (start group_number : ℕ) (items : List Inst) (state : ℕ) → group_number ≡ count → SoFar count first start (count - group_number) items state → state ≡ (groups count (length first) start).state
ends_state count first start group_number items state is so =
    let none : count - group_number ≡ 0 = omega arith in
    sym (so.ends ∙ ap (λ (n : ℕ). (groups n (length items) state).state) none ∙ ap (λ (g : Group). g.state) (groups_zero (length items) state))
