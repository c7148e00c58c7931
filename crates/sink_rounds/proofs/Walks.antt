-- The body that a plan emits, walked as a path of the graph goes: what stands on the path stands on the walk, and a walk
-- is determined by the ways that it takes at its tests.
use Rattle.std.proofs.Common.{◌≡◌, ◌+◌, ℕ, zero, suc, true, List, [], ◌∷◌, length, slice_get, Option, Some, None, inl, refl, sym, ap, ◌∙◌, subst}
use Rattle.std.proofs.lemmas.Bool.{false≢true}
use Rattle.std.proofs.lemmas.Option.{none-some}
use Rattle.mir_base.specs.ItemLaws.{one_item}
use Rattle.mir_base.specs.declared.instructions.Rhs.{Rhs}
use Rattle.mir_base.specs.declared.instructions.Inst.{Inst}
use Rattle.mir_base.specs.declared.instructions.Inst.TheVariants as insts
use Rattle.flow_graph.specs.declared.plan.Item.{Item}
use Rattle.flow_graph.specs.declared.plan.Item.TheVariants.{Placed}
use Rattle.flow_graph.specs.declared.nodes.Node.{Node}
use Rattle.flow_graph.specs.declared.nodes.Node.TheVariants.{Start, Skip, Assign, Print, Guard, Call, Test, Return}
use Rattle.flow_graph.specs.Graphs.{IsEdge, succs_of}
use Rattle.flow_graph.specs.Layouts.{emitted_by, place_in, plain_body, size}
use Rattle.flow_graph.specs.Paths.{IsReturnAt, is_return}
use Rattle.flow_graph.specs.Plans.{IsPlan, next_item}
use Rattle.flow_graph.specs.Sums.{one_if}
use Rattle.flow_graph.specs.PlanLaws.{item_inst_at, place_at, placed_at, taken_placed}
use Rattle.graph_edit.specs.Accesses.{is_occurrence}
use Rattle.sink_rounds.specs.BodyWalks.{Near, Onward, Walk, ends, from_near, goes, past_none, past_one}

-- ---- walks

-- the place after an instruction, and the ways that are left; none after a Return, or where no way is left at a test
abbrev pub moves : Inst → ℕ → List ℕ → Option (ℕ × List ℕ)
moves (insts.Receive x) q ways = Some (q + 1, ways)
moves (insts.Assign x rhs) q ways = Some (q + 1, ways)
moves (insts.Goto p) q ways = Some (p, ways)
moves (insts.If test p) q [] = None
moves (insts.If test p) q (zero ∷ ways) = Some (p, ways)
moves (insts.If test p) q (suc slot ∷ ways) = Some (q + 1, ways)
moves (insts.Call into unit operands) q ways = Some (q + 1, ways)
moves (insts.Print a) q ways = Some (q + 1, ways)
moves (insts.TrapIf test number) q ways = Some (q + 1, ways)
moves (insts.Return a) q ways = None

-- a jump leads to its place
pub jumps : (p q : ℕ) (ways : List ℕ) → moves (insts.Goto p) q ways ≡ Some (p, ways)
jumps p q ways = refl

-- from place q the body is walked these ways to its end, past so many x <- t
abbrev pub Walked : ℕ → Rhs → List Inst → ℕ → List ℕ → ℕ → Type 0
Walked = Walk moves

-- the way that is taken at a node, before these
abbrev pub with_way : Option Node → ℕ → List ℕ → List ℕ
with_way (Some (Test test taken other)) slot ways = slot ∷ ways
with_way _ slot ways = ways

-- ---- a path of the nodes, walked

module _ (x : ℕ) (t : Rhs) (received : List ℕ) (nodes : List Node) (first : ℕ) (plan : List Item) (is_plan : IsPlan nodes first plan) (done : next_item nodes first plan ≡ None) where
  abbrev r : ℕ
  r = length received

  abbrev place : ℕ → ℕ
  place = place_in nodes r plan

  abbrev body : List Inst
  body = plain_body received nodes plan

  -- past each kind of node
  pub onward : (n s slot q : ℕ) → Near received nodes first plan is_plan done n q → IsEdge nodes n slot s → Onward moves jumps with_way x t received nodes first plan is_plan done n s slot q
  onward n s slot q near edge = by (slice_get nodes n) refl (edge)
    where
      by : (o : Option Node) → slice_get nodes n ≡ o → slice_get (succs_of o) slot ≡ Some s → Onward moves jumps with_way x t received nodes first plan is_plan done n s slot q
      by None is e = absurd (none-some s e)
      by (Some (Start next)) is e = past_none moves jumps with_way x t received nodes first plan is_plan done n s slot q near (Some (Start next)) is refl (ap (λ (k : ℕ). Some k) (one_item next s slot e)) refl (λ ways. refl)
      by (Some (Skip next)) is e = past_none moves jumps with_way x t received nodes first plan is_plan done n s slot q near (Some (Skip next)) is refl (ap (λ (k : ℕ). Some k) (one_item next s slot e)) refl (λ ways. refl)
      by (Some (Assign y rhs next)) is e = past_one moves jumps with_way x t received nodes first plan is_plan done n s slot q near (Some (Assign y rhs next)) (insts.Assign y rhs) is refl refl (ap (λ (k : ℕ). Some k) (one_item next s slot e)) (λ k ways. refl) refl
      by (Some (Print a next)) is e = past_one moves jumps with_way x t received nodes first plan is_plan done n s slot q near (Some (Print a next)) (insts.Print a) is refl refl (ap (λ (k : ℕ). Some k) (one_item next s slot e)) (λ k ways. refl) refl
      by (Some (Guard test number next)) is e = past_one moves jumps with_way x t received nodes first plan is_plan done n s slot q near (Some (Guard test number next)) (insts.TrapIf test number) is refl refl (ap (λ (k : ℕ). Some k) (one_item next s slot e)) (λ k ways. refl) refl
      by (Some (Call into unit operands next)) is e = past_one moves jumps with_way x t received nodes first plan is_plan done n s slot q near (Some (Call into unit operands next)) (insts.Call into unit operands) is refl refl (ap (λ (k : ℕ). Some k) (one_item next s slot e)) (λ k ways. refl) refl
      by (Some (Test test taken other)) is e = way slot e
        where
          way : (slot : ℕ) → slice_get (taken ∷ other ∷ []) slot ≡ Some s → Onward moves jumps with_way x t received nodes first plan is_plan done n s slot q
          way zero e =
              let there = placed_at nodes first taken plan (taken_placed nodes first plan near.z n near.older test taken other done near.here is) in
              let to = place_at nodes first r there.0 taken plan there.1 is_plan there.2 in
              let same : taken ≡ s = cc in
              let stands = item_inst_at nodes first received place plan near.z (Placed n) near.older (insts.If test (place taken)) near.here (ap (emitted_by place) is) in
              record {
                to = place taken;
                near = record { z = there.0; older = there.1; here = there.2 ∙ ap (λ m. Placed m ∷ there.1) same; near = inl to };
                walks = λ ways count walk. subst (λ o'. Walked x t body q (with_way o' 0 ways) (one_if (is_occurrence x t o') + count)) (sym is)
                    (from_near moves jumps with_way x t received nodes first plan is_plan done n q near (0 ∷ ways) (0 + count) (goes (size nodes r near.older) (0 ∷ ways) (insts.If test (place taken)) (place taken) ways count (0 + count) stands refl walk refl));
              }
          way (suc zero) e = past_one moves jumps with_way x t received nodes first plan is_plan done n s 1 q near (Some (Test test taken other)) (insts.If test (place taken)) is refl refl e (λ k ways. refl) refl
          way (suc (suc slot)) e = absurd (none-some s e)
      by (Some (Return a)) is e = absurd (none-some s e)

  -- at a Return the walk ends
  pub at_end : (n q : ℕ) → Near received nodes first plan is_plan done n q → IsReturnAt nodes n → Walked x t body q [] 0
  at_end n q near returns = by (slice_get nodes n) refl returns
    where
      by : (o : Option Node) → slice_get nodes n ≡ o → is_return o ≡ true → Walked x t body q [] 0
      by None is e = absurd (false≢true e)
      by (Some (Start next)) is e = absurd (false≢true e)
      by (Some (Skip next)) is e = absurd (false≢true e)
      by (Some (Assign y rhs next)) is e = absurd (false≢true e)
      by (Some (Print a next)) is e = absurd (false≢true e)
      by (Some (Guard test number next)) is e = absurd (false≢true e)
      by (Some (Call into unit operands next)) is e = absurd (false≢true e)
      by (Some (Test test taken other)) is e = absurd (false≢true e)
      by (Some (Return a)) is e =
          let stands = item_inst_at nodes first received place plan near.z (Placed n) near.older (insts.Return a) near.here (ap (emitted_by place) is) in
          from_near moves jumps with_way x t received nodes first plan is_plan done n q near [] 0 (ends (size nodes r near.older) [] (insts.Return a) stands refl)
