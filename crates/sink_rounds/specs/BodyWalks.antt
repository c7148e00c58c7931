-- The body that a plan emits, walked as a path of the graph goes. What an instruction does to a walk, and which way a
-- node takes, is given: the crates that walk bodies differ in it. For proofs only, of sink_best too.
use Rattle.std.proofs.Common.{◌≡◌, ◌⊎◌, ◌+◌, ℕ, Bool, true, false, not, ◌&&◌, cond, nat_eq, List, [], ◌∷◌, length, drop, slice_get, Option, Some, None, inl, inr, refl, sym, ap, ◌∙◌, subst, arith}
use Rattle.std.proofs.lemmas.Option.{none-some, same_Some}
use Rattle.mir_base.specs.Expressions.{divides}
use Rattle.mir_base.specs.declared.instructions.Rhs.{Rhs}
use Rattle.mir_base.specs.declared.instructions.Inst.{Inst}
use Rattle.mir_base.specs.declared.instructions.Inst.TheVariants as insts
use Rattle.flow_graph.specs.declared.plan.Item.{Item}
use Rattle.flow_graph.specs.declared.plan.Item.TheVariants.{Placed, Jump}
use Rattle.flow_graph.specs.declared.nodes.Node.{Node}
use Rattle.flow_graph.specs.Graphs.{following}
use Rattle.flow_graph.specs.Layouts.{emitted_by, item_size, place_in, plain_body, size}
use Rattle.flow_graph.specs.Plans.{IsPlan, after_node, is_placed, next_item}
use Rattle.flow_graph.specs.Sums.{one_if}
use Rattle.flow_graph.specs.PlanLaws.{Next, bottom, is_placed_drop, item_inst_at, last, next_of, place_at, placed_at, then_}
use Rattle.graph_edit.specs.Accesses.{is_occurrence, same_rhs}

-- ---- walks

-- 1 where the instruction is x <- t
abbrev pub inst_ones : ℕ → Rhs → Inst → ℕ
inst_ones x t (insts.Receive y) = 0
inst_ones x t (insts.Assign y rhs) = one_if (nat_eq x y && same_rhs t rhs && not (divides t))
inst_ones x t (insts.Goto p) = 0
inst_ones x t (insts.If test p) = 0
inst_ones x t (insts.Call into unit operands) = 0
inst_ones x t (insts.Print a) = 0
inst_ones x t (insts.TrapIf test number) = 0
inst_ones x t (insts.Return a) = 0

-- from place q the body is walked these ways, as `moves` says, until it says no place; past so many x <- t
pub data Walk (moves : Inst → ℕ → List ℕ → Option (ℕ × List ℕ)) (x : ℕ) (t : Rhs)
    (body : List Inst) : ℕ → List ℕ → ℕ → Type 0 where
  ends : (q : ℕ) (ways : List ℕ) (inst : Inst) → slice_get body q ≡ Some inst
      → moves inst q ways ≡ None → Walk moves x t body q ways 0
  goes : (q : ℕ) (ways : List ℕ) (inst : Inst) (p : ℕ) (ways' : List ℕ) (count count' : ℕ)
      → slice_get body q ≡ Some inst → moves inst q ways
      ≡ Some (p, ways') → Walk moves x t body p ways' count
      → count' ≡ inst_ones x t inst + count → Walk moves x t body q ways count'

-- a walk passes as many as any other with these ways
pub one_walk : (moves : Inst → ℕ → List ℕ → Option (ℕ × List ℕ)) (x : ℕ) (t : Rhs) (body : List Inst)
    (q : ℕ) (ways : List ℕ) (a b : ℕ)
    → Walk moves x t body q ways a → Walk moves x t body q ways b → a ≡ b
one_walk moves x t body q ways a b (ends q0 w0 inst is none) (ends q1 w1 inst' is' none') = refl
one_walk moves x t body q ways a b (ends q0 w0 inst is none) (goes q1 w1 inst' p ways' count count' is' some walk e) =
    let same : inst ≡ inst' = same_Some inst inst' (sym is ∙ is') in
    absurd (none-some {A = ℕ × List ℕ} (p, ways') (sym none ∙ ap (λ i. moves i q ways) same ∙ some))
one_walk moves x t body q ways a b (goes q1 w1 inst' p ways' count count' is' some walk e) (ends q0 w0 inst is none) =
    let same : inst ≡ inst' = same_Some inst inst' (sym is ∙ is') in
    absurd (none-some {A = ℕ × List ℕ} (p, ways') (sym none ∙ ap (λ i. moves i q ways) same ∙ some))
one_walk moves x t body q ways a b (goes q0 w0 inst p ways' count count0 is some walk e) (goes q1 w1 inst' p' ways'' count' count1 is' some' walk' e') =
    let same : inst ≡ inst' = same_Some inst inst' (sym is ∙ is') in
    let both : (p, ways') ≡ (p', ways'') = same_Some {A = ℕ × List ℕ} (p, ways') (p', ways'') (sym some ∙ ap (λ i. moves i q ways) same ∙ some') in
    let place : p ≡ p' = ap (λ (w : ℕ × List ℕ). w.0) both in
    let left : ways' ≡ ways'' = ap (λ (w : ℕ × List ℕ). w.1) both in
    let rest = one_walk moves x t body p ways' count count' walk (subst (λ l. Walk moves x t body p l count') (sym left) (subst (λ k. Walk moves x t body k ways'' count') (sym place) walk')) in
    e ∙ ap (λ i. inst_ones x t i + count) same ∙ ap (λ k. inst_ones x t inst' + k) rest ∙ sym e'

-- ---- places

module _ (received : List ℕ) (nodes : List Node) (first : ℕ) (plan : List Item) (is_plan : IsPlan nodes first plan) (done : next_item nodes first plan ≡ None) where
  abbrev r : ℕ
  r = length received

  abbrev place : ℕ → ℕ
  place = place_in nodes r plan

  -- place q is that of node n, or has a jump to it
  pub record Near (n q : ℕ) : Type 0 where
    pub z : ℕ
    pub older : List Item
    pub here : drop z plan ≡ Placed n ∷ older
    pub near : (q ≡ size nodes (length received) older)
        ⊎ (slice_get (plain_body received nodes plan) q
        ≡ Some (insts.Goto (size nodes (length received) older)))

  -- by whether the node that follows is placed already, so that a jump leads to it, or comes next
  arrives_by : (z n s : ℕ) (older : List Item) (b : Bool) → is_placed s (Placed n ∷ older) ≡ b
      → drop z plan ≡ Placed n ∷ older → next_item nodes first (Placed n ∷ older) ≡ Some (cond b (Jump s) (Placed s)) → Next nodes first plan (Placed n ∷ older) z
      → Near s (size nodes r (Placed n ∷ older))
  arrives_by z n s older b is here next (last none) = cc
  arrives_by z n s older true is here next (then_ j item e next') =
      let same : item ≡ Jump s = cc in
      let before : is_placed s plan ≡ true = is_placed_drop nodes first z s plan (subst (λ l. is_placed s l ≡ true) (sym here) is) in
      let there = placed_at nodes first s plan before in
      let inst = item_inst_at nodes first received place plan j (Jump s) (Placed n ∷ older) (insts.Goto (place s)) (e ∙ ap (λ i. i ∷ Placed n ∷ older) same) refl in
      let to = place_at nodes first r there.0 s plan there.1 is_plan there.2 in
      record { z = there.0; older = there.1; here = there.2; near = inr (inst ∙ ap (λ p. Some (insts.Goto p)) to) }
  arrives_by z n s older false is here next (then_ j item e next') =
      let same : item ≡ Placed s = cc in
      record { z = j; older = Placed n ∷ older; here = e ∙ ap (λ i. i ∷ Placed n ∷ older) same; near = inl refl }

  -- after a placed node comes the one that follows, or a jump to it
  pub arrives : (z n s : ℕ) (older : List Item) → drop z plan ≡ Placed n ∷ older → following (slice_get nodes n) ≡ Some s → Near s (size nodes r (Placed n ∷ older))
  arrives z n s older here follows = arrives_by z n s older (is_placed s (Placed n ∷ older)) refl here (ap (after_node nodes (Placed n ∷ older)) follows) (next_of nodes first z plan (Placed n) older is_plan done here)

  -- the first node stands after the receives
  pub begins : Near first (length received)
  begins = (let b = bottom nodes first plan is_plan done in record { z = b.0; older = []; here = b.1; near = inl refl })

-- ---- a path of the nodes, walked

module _ (moves : Inst → ℕ → List ℕ → Option (ℕ × List ℕ)) (jumps : (p q : ℕ) (ways : List ℕ) → moves (insts.Goto p) q ways ≡ Some (p, ways)) (with_way : Option Node → ℕ → List ℕ → List ℕ) (x : ℕ) (t : Rhs) (received : List ℕ) (nodes : List Node) (first : ℕ) (plan : List Item) (is_plan : IsPlan nodes first plan) (done : next_item nodes first plan ≡ None) where
  -- a walk from the node's own place is one from a place near it
  pub from_near : (n q : ℕ) (near : Near received nodes first plan is_plan done n q) (ways : List ℕ) (count : ℕ)
      → Walk moves x t (plain_body received nodes plan) (size nodes (length received) near.older) ways count
      → Walk moves x t (plain_body received nodes plan) q ways count
  from_near n q near ways count walk = elim near.near [
    | inl at ↦ subst (λ k. Walk moves x t (plain_body received nodes plan) k ways count) (sym at) walk
    | inr jump ↦ goes q ways (insts.Goto (size nodes (length received) near.older)) (size nodes (length received) near.older) ways count count jump (jumps (size nodes (length received) near.older) q ways) walk (omega arith)
  ]

  -- along an edge: from a place near the one node to a place near the other
  pub record Onward (n s slot q : ℕ) : Type 0 where
    pub to : ℕ
    pub near : Near received nodes first plan is_plan done s to
    pub walks : (ways : List ℕ) (count : ℕ)
        → Walk moves x t (plain_body received nodes plan) to ways count
        → Walk moves x t (plain_body received nodes plan) q
        (with_way (slice_get nodes n) slot ways)
        (one_if (is_occurrence x t (slice_get nodes n)) + count)

  -- past a node that emits nothing
  pub past_none : (n s slot q : ℕ) (near : Near received nodes first plan is_plan done n q) (o : Option Node)
      → slice_get nodes n ≡ o → length (emitted_by (λ m. m) o) ≡ 0 → following o ≡ Some s
      → one_if (is_occurrence x t o) ≡ 0 → ((ways : List ℕ) → with_way o slot ways ≡ ways) → Onward n s slot q
  past_none n s slot q near o is none follows ones same = record {
    to = size nodes (length received) near.older;
    near = subst (Near received nodes first plan is_plan done s) (let nothing : item_size nodes (Placed n) ≡ 0 = ap (λ o'. length (emitted_by (λ m. m) o')) is ∙ none in let e : size nodes (length received) (Placed n ∷ near.older) ≡ size nodes (length received) near.older = omega (arith, nothing) in e)
        (arrives received nodes first plan is_plan done near.z n s near.older near.here (ap following is ∙ follows));
    walks = λ ways count walk. subst (λ o'. Walk moves x t (plain_body received nodes plan) q (with_way o' slot ways) (one_if (is_occurrence x t o') + count)) (sym is)
        (subst (λ l. Walk moves x t (plain_body received nodes plan) q l (one_if (is_occurrence x t o) + count)) (sym (same ways))
        (subst (λ k. Walk moves x t (plain_body received nodes plan) q ways k) (let e : count ≡ one_if (is_occurrence x t o) + count = omega (arith, ones) in e) (from_near n q near ways count walk)));
  }

  -- past a node that emits one instruction, to the place after it
  pub past_one : (n s slot q : ℕ) (near : Near received nodes first plan is_plan done n q) (o : Option Node) (inst : Inst)
      → slice_get nodes n ≡ o → emitted_by (place_in nodes (length received) plan) o ≡ inst ∷ []
      → length (emitted_by (λ m. m) o) ≡ 1 → following o ≡ Some s
      → ((k : ℕ) (ways : List ℕ) → moves inst k (with_way o slot ways) ≡ Some (k + 1, ways)) → inst_ones x t inst ≡ one_if (is_occurrence x t o) → Onward n s slot q
  past_one n s slot q near o inst is emits one follows moved ones =
      let k = size nodes (length received) near.older in
      let stands = item_inst_at nodes first received (place_in nodes (length received) plan) plan near.z (Placed n) near.older inst near.here (ap (emitted_by (place_in nodes (length received) plan)) is ∙ emits) in
      record {
        to = k + 1;
        near = subst (Near received nodes first plan is_plan done s) (let whole : item_size nodes (Placed n) ≡ 1 = ap (λ o'. length (emitted_by (λ m. m) o')) is ∙ one in let e : size nodes (length received) (Placed n ∷ near.older) ≡ size nodes (length received) near.older + 1 = omega (arith, whole) in e)
            (arrives received nodes first plan is_plan done near.z n s near.older near.here (ap following is ∙ follows));
        walks = λ ways count walk. subst (λ o'. Walk moves x t (plain_body received nodes plan) q (with_way o' slot ways) (one_if (is_occurrence x t o') + count)) (sym is)
            (from_near n q near (with_way o slot ways) (one_if (is_occurrence x t o) + count)
            (goes k (with_way o slot ways) inst (k + 1) ways count (one_if (is_occurrence x t o) + count) stands (moved k ways) walk (ap (λ m. m + count) (sym ones))));
      }
