-- The unit of a graph can be lowered again: its receives stand first and name distinct variables, and its jumps go to
-- places after them, within the body.
use Rattle.std.proofs.Common.{◌≡◌, ℕ, zero, suc, ◌+◌, ◌≤◌, Bool, true, false, cond, List, [], ◌∷◌, ◌++◌, map, flat_map, length, drop, slice_get, Option, Some, None, option_map, ◌⊎◌, inl, inr, refl, sym, ap, ◌∙◌, subst, arith, length-append}
use Rattle.std.proofs.lemmas.List.{length-map}
use Rattle.std.proofs.lemmas.Option.{slice_get-map, slice_get_within}
use Rattle.mir_base.specs.declared.instructions.Inst.{Inst}
use Rattle.mir_base.specs.declared.instructions.Inst.TheVariants as insts
use Rattle.mir_base.specs.declared.instructions.Test.{Test as Condition}
use Rattle.mir_base.specs.Frames.{shared_vars}
use Rattle.flow_graph.specs.NumberingLaws.{seen_grows}
use Rattle.flow_graph.specs.SeenGlobals.{shared_in, shared_index}
use Rattle.std.proofs.lemmas.Bool.{cases_lt}
use Rattle.mir_base.specs.Shapes.{inst_vars, receives_in, IsTarget}
use Rattle.flow_graph.specs.declared.plan.Item.{Item}
use Rattle.flow_graph.specs.declared.plan.Item.TheVariants.{Placed, Jump}
use Rattle.flow_graph.specs.declared.nodes.Node.{Node}
use Rattle.flow_graph.specs.declared.nodes.Node.TheVariants.{Start, Skip, Assign, Print, Guard, Call, Test, Return}
use Rattle.flow_graph.specs.Graphs.{IsGraph, SharesVars, following}
use Rattle.flow_graph.specs.Lowered.{CanLower, target_of}
use Rattle.flow_graph.specs.Plans.{IsPlan, after_node, first_open, is_placed, next_item, start_succ}
use Rattle.flow_graph.specs.Numbering.{is_in, first_index, renamed, renumbered, seen_in}
use Rattle.flow_graph.specs.Layouts.{IsLaid, emitted, emitted_by, item_insts, place_in, plain_body}
use Rattle.flow_graph.specs.PlanLaws.{is_plan_drop, placed_at, place_at, taken_placed, is_placed_drop, size_is, emitted_drop, no_receive, all_received}
use Rattle.flow_graph.specs.RenamingLaws.{all_seen, inst_in, positions_differ, renamed_receives}

-- ---- receives

-- no instruction is a receive
abbrev NoReceive : List Inst → Type 0
NoReceive body = (place x : ℕ) → slice_get body place ≡ Some (insts.Receive x) → ⊥

-- two bodies with no Receive, joined, have none
neither : (xs ys : List Inst) → NoReceive xs → NoReceive ys → NoReceive (xs ++ ys)
neither [] ys a b place x e = b place x e
neither (i ∷ xs) ys a b zero x e = a 0 x e
neither (i ∷ xs) ys a b (suc place) x e = neither xs ys (λ p y e'. a (suc p) y e') b place x e

-- an instruction that is no Receive is a body with none
only_one : (inst : Inst) → ((x : ℕ) → inst ≡ insts.Receive x → ⊥) → NoReceive (inst ∷ [])
only_one inst other zero x e = let same : inst ≡ insts.Receive x = cc in other x same
only_one inst other (suc place) x e = cc

-- the empty body has none
none_here : NoReceive []
none_here place x e = cc

-- what is emitted for a node has no Receive
emits_none : (place : ℕ → ℕ) (o : Option Node) → NoReceive (emitted_by place o)
emits_none place None = none_here
emits_none place (Some (Start next)) = none_here
emits_none place (Some (Skip next)) = none_here
emits_none place (Some (Assign x rhs next)) = only_one (insts.Assign x rhs) (λ y e. absurd (cc))
emits_none place (Some (Print a next)) = only_one (insts.Print a) (λ y e. absurd (cc))
emits_none place (Some (Guard test number next)) = only_one (insts.TrapIf test number) (λ y e. absurd (cc))
emits_none place (Some (Call into unit operands next)) = only_one (insts.Call into unit operands) (λ y e. absurd (cc))
emits_none place (Some (Test test taken other)) = only_one (insts.If test (place taken)) (λ y e. absurd (cc))
emits_none place (Some (Return a)) = only_one (insts.Return a) (λ y e. absurd (cc))

-- what is emitted for an item has none
item_none : (nodes : List Node) (place : ℕ → ℕ) (item : Item) → NoReceive (item_insts nodes place item)
item_none nodes place (Placed n) = emits_none place (slice_get nodes n)
item_none nodes place (Jump n) = only_one (insts.Goto (place n)) (λ y e. absurd (cc))

-- what is emitted for the whole plan has none
all_none : (nodes : List Node) (place : ℕ → ℕ) (plan : List Item) → NoReceive (emitted nodes place plan)
all_none nodes place [] = none_here
all_none nodes place (item ∷ older) = neither (emitted nodes place older) (item_insts nodes place item) (all_none nodes place older) (item_none nodes place item)

-- a receive is one of those that stand first
early : (xs : List ℕ) (rest : List Inst) → NoReceive rest → (place x : ℕ) → slice_get (map insts.Receive xs ++ rest) place ≡ Some (insts.Receive x) → slice_get xs place ≡ Some x
early [] rest none place x e = absurd (none place x e)
early (y ∷ xs) rest none zero x e = cc
early (y ∷ xs) rest none (suc place) x e = early xs rest none place x e

-- a renamed instruction is a Receive only if the instruction is one
receive_from : (to : ℕ → ℕ) (o : Option Inst) (x : ℕ) → option_map (renamed to) o ≡ Some (insts.Receive x) → (y : ℕ) × (o ≡ Some (insts.Receive y)) × (to y ≡ x)
receive_from to None x e = cc
receive_from to (Some (insts.Receive y)) x e = (y, refl, cc)
receive_from to (Some (insts.Assign y rhs)) x e = cc
receive_from to (Some (insts.Goto place)) x e = cc
receive_from to (Some (insts.If test place)) x e = cc
receive_from to (Some (insts.Call into unit operands)) x e = cc
receive_from to (Some (insts.Print a)) x e = cc
receive_from to (Some (insts.TrapIf test number)) x e = cc
receive_from to (Some (insts.Return a)) x e = cc

-- ---- targets

-- a renamed instruction jumps to the same place
renamed_target : (to : ℕ → ℕ) (o : Option Inst) → target_of (option_map (renamed to) o) ≡ target_of o
renamed_target to None = refl
renamed_target to (Some (insts.Receive x)) = refl
renamed_target to (Some (insts.Assign x rhs)) = refl
renamed_target to (Some (insts.Goto place)) = refl
renamed_target to (Some (insts.If test place)) = refl
renamed_target to (Some (insts.Call into unit operands)) = refl
renamed_target to (Some (insts.Print a)) = refl
renamed_target to (Some (insts.TrapIf test number)) = refl
renamed_target to (Some (insts.Return a)) = refl

-- some instruction of the body jumps there
abbrev Targets : List Inst → ℕ → Type 0
Targets body target = (place : ℕ) × (target_of (slice_get body place) ≡ Some target)

-- a target of two bodies joined is a target of one of them
either_targets : (xs ys : List Inst) (target : ℕ) → Targets (xs ++ ys) target → Targets xs target ⊎ Targets ys target
either_targets [] ys target t = inr t
either_targets (x ∷ xs) ys target (zero, e) = inl (0, e)
either_targets (x ∷ xs) ys target (suc place, e) = later (either_targets xs ys target (place, e))
  where
    later : Targets xs target ⊎ Targets ys target → Targets (x ∷ xs) target ⊎ Targets ys target
    later (inl there) = inl (suc there.0, there.1)
    later (inr there) = inr there

-- Receives jump nowhere
receives_target_none : (xs : List ℕ) (target : ℕ) → Targets (map insts.Receive xs) target → ⊥
receives_target_none [] target (place, e) = absurd (cc)
receives_target_none (x ∷ xs) target (zero, e) = absurd (cc)
receives_target_none (x ∷ xs) target (suc place, e) = receives_target_none xs target (place, e)

-- the target of a single instruction is its own
one_target : (inst : Inst) (target : ℕ) → Targets (inst ∷ []) target → target_of (Some inst) ≡ Some target
one_target inst target (zero, e) = e
one_target inst target (suc place, e) = cc

module _ (nodes : List Node) (first : ℕ) (place : ℕ → ℕ) where
  -- an item of the plan jumps there: to a node that has a place, or where a test holds
  data Jumps (items : List Item) (target : ℕ) : Type 0 where
    ends : (k n : ℕ) (older : List Item) → drop k items ≡ Jump n ∷ older → place n ≡ target → Jumps items target
    tests : (k n : ℕ) (older : List Item) (test : Condition) (taken other : ℕ) → drop k items ≡ Placed n ∷ older → slice_get nodes n ≡ Some (Test test taken other) → place taken ≡ target → Jumps items target

  one_more : (item : Item) (items : List Item) (target : ℕ) → Jumps items target → Jumps (item ∷ items) target
  one_more item items target (ends k n older here is) = ends (suc k) n older here is
  one_more item items target (tests k n older test taken other here at is) = tests (suc k) n older test taken other here at is

  node_jumps : (n : ℕ) (older : List Item) (o : Option Node) (target : ℕ) → slice_get nodes n ≡ o → Targets (emitted_by place o) target → Jumps (Placed n ∷ older) target
  node_jumps n older None target e (p, t) = cc
  node_jumps n older (Some (Start next)) target e (p, t) = cc
  node_jumps n older (Some (Skip next)) target e (p, t) = cc
  node_jumps n older (Some (Assign x rhs next)) target e t = let is = one_target (insts.Assign x rhs) target t in cc
  node_jumps n older (Some (Print a next)) target e t = let is = one_target (insts.Print a) target t in cc
  node_jumps n older (Some (Guard test number next)) target e t = let is = one_target (insts.TrapIf test number) target t in cc
  node_jumps n older (Some (Call into unit operands next)) target e t = let is = one_target (insts.Call into unit operands) target t in cc
  node_jumps n older (Some (Test test taken other)) target e t = let is = one_target (insts.If test (place taken)) target t in tests 0 n older test taken other refl e cc
  node_jumps n older (Some (Return a)) target e t = let is = one_target (insts.Return a) target t in cc

  item_jumps : (item : Item) (older : List Item) (target : ℕ) → Targets (item_insts nodes place item) target → Jumps (item ∷ older) target
  item_jumps (Placed n) older target t = node_jumps n older (slice_get nodes n) target refl t
  item_jumps (Jump n) older target t = let is = one_target (insts.Goto (place n)) target t in ends 0 n older refl cc

  emitted_jumps : (items : List Item) (target : ℕ) → Targets (emitted nodes place items) target → Jumps items target
  emitted_jumps [] target (p, t) = cc
  emitted_jumps (item ∷ older) target t = go (λ there. emitted_jumps older target there) (either_targets (emitted nodes place older) (item_insts nodes place item) target t)
    where
      go : (Targets (emitted nodes place older) target → Jumps older target) → Targets (emitted nodes place older) target ⊎ Targets (item_insts nodes place item) target → Jumps (item ∷ older) target
      go rest (inl there) = one_more item older target (rest there)
      go rest (inr here) = item_jumps item older target here

  -- a jump goes to a node that has a place
  new_none : (plan : List Item) (o : Option ℕ) (n : ℕ) → option_map Placed o ≡ Some (Jump n) → ⊥
  new_none plan None n e = absurd (cc)
  new_none plan (Some t) n e = absurd (cc)

  after_placed : (plan : List Item) (o : Option ℕ) (n : ℕ) → after_node nodes plan o ≡ Some (Jump n) → is_placed n plan ≡ true
  after_placed plan None n e = absurd (new_none plan (first_open nodes plan plan) n e)
  after_placed plan (Some s) n e = chosen (is_placed s plan) refl e
    where
      chosen : (b : Bool) → is_placed s plan ≡ b → Some (cond b (Jump s) (Placed s)) ≡ Some (Jump n) → is_placed n plan ≡ true
      chosen true is e' = let same : s ≡ n = cc in subst (λ m. is_placed m plan ≡ true) same is
      chosen false is e' = cc

  jump_placed : (older : List Item) (n : ℕ) → next_item nodes first older ≡ Some (Jump n) → is_placed n older ≡ true
  jump_placed [] n e = cc
  jump_placed (Placed m ∷ older) n e = after_placed (Placed m ∷ older) (following (slice_get nodes m)) n e
  jump_placed (Jump m ∷ older) n e = absurd (new_none (Jump m ∷ older) (first_open nodes (Jump m ∷ older) (Jump m ∷ older)) n e)

  jumped_placed : (plan : List Item) (target : ℕ) → IsPlan nodes first plan → next_item nodes first plan ≡ None → Jumps plan target → (n : ℕ) × (is_placed n plan ≡ true) × (place n ≡ target)
  jumped_placed plan target is_plan done (ends k n older here is) =
      let there = subst (IsPlan nodes first) here (is_plan_drop nodes first k plan is_plan) in
      let before = jump_placed older n there.0 in
      (n, is_placed_drop nodes first k n plan (subst (λ l. is_placed n l ≡ true) (sym here) before), is)
  jumped_placed plan target is_plan done (tests k n older test taken other here at is) = (taken, taken_placed nodes first plan k n older test taken other done here at, is)

-- ---- the layout

module _ (shared : ℕ) (vars : List (List ℕ)) (received : List ℕ) (nodes : List Node) (graph : IsGraph vars received nodes) (shares : SharesVars shared vars received) (plan : List Item) (is_plan : IsPlan nodes (start_succ (slice_get nodes 0)) plan) (done : next_item nodes (start_succ (slice_get nodes 0)) plan ≡ None) where
  abbrev first : ℕ
  first = start_succ (slice_get nodes 0)

  abbrev place : ℕ → ℕ
  place = place_in nodes (length received) plan

  abbrev plain : List Inst
  plain = plain_body received nodes plan

  abbrev to : ℕ → ℕ
  to = first_index (seen_in shared plain)

  receives_are : receives_in (renumbered shared plain) ≡ length received
  receives_are = renamed_receives to plain ∙ all_received received (emitted nodes place plan) (no_receive nodes place plan)

  long : length (renumbered shared plain) ≡ length received + length (emitted nodes place plan)
  long = length-map plain (renamed to) ∙ length-append (map insts.Receive received) (emitted nodes place plan) ∙ ap (λ n. n + length (emitted nodes place plan)) (length-map received insts.Receive)

  record Received (at x : ℕ) : Type 0 where
    old : ℕ
    here : slice_get received at ≡ Some old
    is : to old ≡ x
    seen : is_in old (seen_in shared plain) ≡ true

  received_at : (at x : ℕ) → slice_get (renumbered shared plain) at ≡ Some (insts.Receive x) → Received at x
  received_at at x e =
      let from = receive_from to (slice_get plain at) x (sym (slice_get-map (renamed to) plain at) ∙ e) in record {
        old = from.0;
        here = early received (emitted nodes place plan) (all_none nodes place plan) at from.0 from.1;
        is = from.2;
        seen = (inst_in (seen_in shared plain) plain at (insts.Receive from.0) (all_seen (shared_vars shared) (flat_map inst_vars plain)) from.1).0;
      }

  placed_target : (n : ℕ) → is_placed n plan ≡ true → (length received ≤ place n) × (place n ≤ length received + length (emitted nodes place plan))
  placed_target n placed =
      let there = placed_at nodes first n plan placed in
      let is = place_at nodes first (length received) there.0 n plan there.1 is_plan there.2 ∙ size_is nodes first (length received) place there.1 in
      let front = emitted_drop nodes first place there.0 plan in
      let whole : length (emitted nodes place plan) ≡ length (emitted nodes place there.1) + length (item_insts nodes place (Placed n)) + length front.0 =
      ap length (front.1 ∙ ap (λ l. emitted nodes place l ++ front.0) there.2) ∙ length-append (emitted nodes place (Placed n ∷ there.1)) front.0
      ∙ ap (λ k. k + length front.0) (length-append (emitted nodes place there.1) (item_insts nodes place (Placed n))) in
      (omega (arith, is), omega (arith, is, whole))

  target_within : (at target : ℕ) → target_of (slice_get (renumbered shared plain) at) ≡ Some target → IsTarget (renumbered shared plain) target
  target_within at target e =
      let plain_target : target_of (slice_get plain at) ≡ Some target = sym (renamed_target to (slice_get plain at)) ∙ ap target_of (sym (slice_get-map (renamed to) plain at)) ∙ e in
      go (either_targets (map insts.Receive received) (emitted nodes place plan) target (at, plain_target))
    where
      go : Targets (map insts.Receive received) target ⊎ Targets (emitted nodes place plan) target → IsTarget (renumbered shared plain) target
      go (inl there) = absurd (receives_target_none received target there)
      go (inr here) =
          let placed = jumped_placed nodes first place plan target is_plan done (emitted_jumps nodes first place plan target here) in
          let within = placed_target placed.0 placed.1 in
          (omega (arith, receives_are, within.0, placed.2), omega (arith, long, within.1, placed.2))

  -- a variable that is no global gets the number of none
  own_after : (old x : ℕ) → is_in old (seen_in shared plain) ≡ true → to old ≡ x → shared ≤ old → shared ≤ x
  own_after old x seen is le = elim (cases_lt x shared) [
    | inl lt ↦
        let grows = seen_grows (shared_vars shared) (flat_map inst_vars plain) in
        let here : to x ≡ x = ap (λ l. first_index l x) grows.1 ∙ shared_index shared x grows.0 lt in
        let there : is_in x (seen_in shared plain) ≡ true = ap (is_in x) grows.1 ∙ shared_in shared x grows.0 lt in
        let same : x ≡ old = positions_differ (seen_in shared plain) x old there seen (here ∙ sym is) in
        absurd (omega (arith, lt, same, le))
    | inr ge ↦ ge
  ]

  lowers_again : CanLower shared (renumbered shared plain)
  lowers_again = record {
    first = λ at x e. let r = received_at at x e in omega (arith, receives_are, slice_get_within received at r.old r.here);
    received = λ i j x e e'.
        let a = received_at i x e in
        let b = received_at j x e' in
        let same : a.old ≡ b.old = positions_differ (seen_in shared plain) a.old b.old a.seen b.seen (a.is ∙ sym b.is) in
        graph.can.received_differ i j (slice_get_within received i a.old a.here) (slice_get_within received j b.old b.here) (a.here ∙ ap Some same ∙ sym b.here);
    own = λ i x e. (let a = received_at i x e in own_after a.old x a.seen a.is (shares.own i a.old a.here));
    targets = target_within;
  }

-- the body of a layout can be lowered
pub laid_lowers : (shared : ℕ) (vars : List (List ℕ)) (received : List ℕ) (nodes : List Node) (names : List (List ℕ)) (body : List Inst) → IsGraph vars received nodes → SharesVars shared vars received → IsLaid shared vars received nodes names body → CanLower shared body
laid_lowers shared vars received nodes names body graph shares laid =
    subst (CanLower shared) (sym laid.body_is) (lowers_again shared vars received nodes graph shares laid.plan laid.is_plan.is_plan laid.is_plan.complete)
