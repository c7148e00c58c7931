-- A layout has as many assignments as its graph, so graphs with one layout have equally many.
use Rattle.std.proofs.Common.{◌≡◌, ℕ, zero, suc, ◌+◌, ◌<◌, ◌≤◌, Bool, true, false, cond, ◌||◌, count_by, List, [], ◌∷◌, ◌++◌, length, map, slice_get, Option, Some, None, refl, sym, ap, inl, inr, ◌∙◌, subst, arith}
use Rattle.std.proofs.lemmas.Bool.{cases_eq, eq-eqb, ne_eqb}
use Rattle.std.proofs.lemmas.List.Sums.{sum_by-cons}
use Rattle.mir_base.specs.declared.instructions.Inst.{Inst}
use Rattle.mir_base.specs.declared.instructions.Inst.TheVariants as insts
use Rattle.mir_base.specs.Shapes.{UnitShape}
use Rattle.flow_graph.specs.declared.plan.Item.{Item}
use Rattle.flow_graph.specs.declared.plan.Item.TheVariants.{Placed, Jump}
use Rattle.flow_graph.specs.declared.nodes.Node.{Node}
use Rattle.flow_graph.specs.declared.nodes.Node.TheVariants.{Start, Skip, Assign, Print, Guard, Call, Test, Return}
use Rattle.flow_graph.specs.Graphs.{GraphShape, IsGraph}
use Rattle.flow_graph.specs.Layouts.{IsLayout, emitted, emitted_by, item_insts, place_in, plain_body}
use Rattle.flow_graph.specs.LayoutLaws.{placed_inner}
use Rattle.flow_graph.specs.Numbering.{first_index, renamed, seen_in}
use Rattle.flow_graph.specs.PlanLaws.{fresh}
use Rattle.flow_graph.specs.Plans.{IsPlan, is_placed, next_item, start_succ}
use Rattle.flow_graph.specs.Sums.{one_if}
use Rattle.sink_rounds.specs.Outlines.{is_assign}
use Rattle.sink_rounds.specs.RoundGraphs.{HaveOneLayout}
use Rattle.sink_rounds.proofs.AllPlaced.{reached_placed}

-- ---- of a body

-- 1 where the instruction is an assignment
abbrev inst_one : Inst → ℕ
inst_one (insts.Receive x) = 0
inst_one (insts.Assign x rhs) = 1
inst_one (insts.Goto p) = 0
inst_one (insts.If test p) = 0
inst_one (insts.Call into unit operands) = 0
inst_one (insts.Print a) = 0
inst_one (insts.TrapIf test number) = 0
inst_one (insts.Return a) = 0

-- how many assignments a body has
abbrev in_body : List Inst → ℕ
in_body [] = 0
in_body (inst ∷ body) = inst_one inst + in_body body

in_both : (xs ys : List Inst) → in_body (xs ++ ys) ≡ in_body xs + in_body ys
in_both [] ys = omega arith
in_both (x ∷ xs) ys = let rest = in_both xs ys in omega (arith, rest)

-- other numbers of variables make no difference
renamed_one : (to : ℕ → ℕ) (inst : Inst) → inst_one (renamed to inst) ≡ inst_one inst
renamed_one to (insts.Receive x) = refl
renamed_one to (insts.Assign x rhs) = refl
renamed_one to (insts.Goto p) = refl
renamed_one to (insts.If test p) = refl
renamed_one to (insts.Call into unit operands) = refl
renamed_one to (insts.Print a) = refl
renamed_one to (insts.TrapIf test number) = refl
renamed_one to (insts.Return a) = refl

in_renamed : (to : ℕ → ℕ) (body : List Inst) → in_body (map (renamed to) body) ≡ in_body body
in_renamed to [] = refl
in_renamed to (inst ∷ body) = let first = renamed_one to inst in let rest = in_renamed to body in omega (arith, first, rest)

-- receives are none
in_received : (xs : List ℕ) → in_body (map insts.Receive xs) ≡ 0
in_received [] = refl
in_received (x ∷ xs) = let rest = in_received xs in omega (arith, rest)

-- ---- of a plan

-- 1 where the node is an assignment
abbrev at_one : Option Node → ℕ
at_one None = 0
at_one (Some node) = one_if (is_assign node)

-- an assignment emits one, and nothing else any
emits_one : (place : ℕ → ℕ) (o : Option Node) → in_body (emitted_by place o) ≡ at_one o
emits_one place None = refl
emits_one place (Some (Start next)) = refl
emits_one place (Some (Skip next)) = refl
emits_one place (Some (Assign x rhs next)) = refl
emits_one place (Some (Print a next)) = refl
emits_one place (Some (Guard test number next)) = refl
emits_one place (Some (Call into unit operands next)) = refl
emits_one place (Some (Test test taken other)) = refl
emits_one place (Some (Return a)) = refl

-- how many assignments the items place
abbrev in_items : List Node → List Item → ℕ
in_items nodes [] = 0
in_items nodes (Placed n ∷ older) = in_items nodes older + at_one (slice_get nodes n)
in_items nodes (Jump n ∷ older) = in_items nodes older

-- they emit so many
in_emitted : (nodes : List Node) (place : ℕ → ℕ) (plan : List Item) → in_body (emitted nodes place plan) ≡ in_items nodes plan
in_emitted nodes place [] = refl
in_emitted nodes place (Placed n ∷ older) =
    let both = in_both (emitted nodes place older) (item_insts nodes place (Placed n)) in
    let last : in_body (item_insts nodes place (Placed n)) ≡ at_one (slice_get nodes n) = emits_one place (slice_get nodes n) in
    let rest = in_emitted nodes place older in
    omega (arith, both, last, rest)
in_emitted nodes place (Jump n ∷ older) =
    let both = in_both (emitted nodes place older) (item_insts nodes place (Jump n)) in
    let rest = in_emitted nodes place older in
    omega (arith, both, rest)

-- ---- sums over numbers

-- over so many numbers from k on
abbrev sum_from : (ℕ → ℕ) → ℕ → ℕ → ℕ
sum_from f k zero = 0
sum_from f k (suc count) = f k + sum_from f (suc k) count

-- of functions that agree there
same_from : (f g : ℕ → ℕ) (count k : ℕ) → ((n : ℕ) → k ≤ n → n < k + count → f n ≡ g n) → sum_from f k count ≡ sum_from g k count
same_from f g zero k same = refl
same_from f g (suc count) k same =
    let first = same k (omega arith) (omega arith) in
    let rest = same_from f g count (suc k) (λ n le lt. same n (omega (arith, le)) (omega (arith, lt))) in
    omega (arith, first, rest)

-- of nothing
none_from : (count k : ℕ) → sum_from (λ n. 0) k count ≡ 0
none_from zero k = refl
none_from (suc count) k = let rest = none_from count (suc k) in omega (arith, rest)

-- where one function is larger at one number, by so much
more_from : (f g : ℕ → ℕ) (m more : ℕ) → ((n : ℕ) → (n ≡ m → ⊥) → g n ≡ f n) → g m ≡ f m + more → (count k : ℕ) → k ≤ m → m < k + count → sum_from g k count ≡ sum_from f k count + more
more_from f g m more same at zero k le lt = absurd (omega (arith, le, lt))
more_from f g m more same at (suc count) k le lt = elim (cases_eq k m) [
  | inl here ↦
      let first : g k ≡ f k + more = subst (λ n. g n ≡ f n + more) (sym here) at in
      let rest = same_from g f count (suc k) (λ n later within. same n (λ is. (omega (arith, is, here, later)))) in
      omega (arith, first, rest)
  | inr differ ↦
      let first = same k differ in
      let rest = more_from f g m more same at count (suc k) (omega (arith, le, differ)) (omega (arith, lt)) in
      omega (arith, first, rest)
]

-- of the nodes of a list
sum_nodes : (f : ℕ → ℕ) (nodes : List Node) (k : ℕ) → ((i : ℕ) → f (k + i) ≡ at_one (slice_get nodes i)) → sum_from f k (length nodes) ≡ count_by is_assign nodes
sum_nodes f [] k is = refl
sum_nodes f (node ∷ nodes) k is =
    let first : f k ≡ one_if (is_assign node) = subst (λ n. f n ≡ one_if (is_assign node)) (let e : k + 0 ≡ k = omega arith in e) (is 0) in
    let rest = sum_nodes f nodes (suc k) (λ i. subst (λ n. f n ≡ at_one (slice_get nodes i)) (let e : k + suc i ≡ suc k + i = omega arith in e) (is (suc i))) in
    let whole : count_by is_assign (node ∷ nodes) ≡ one_if (is_assign node) + count_by is_assign nodes = sum_by-cons (λ m. one_if (is_assign m)) node nodes in
    omega (arith, first, rest, whole)

-- ---- of a graph

module _ (graph : GraphShape) (is_graph : IsGraph graph.vars graph.received graph.nodes) where
  abbrev nodes : List Node
  nodes = graph.nodes

  abbrev first : ℕ
  first = start_succ (slice_get graph.nodes 0)

  -- 1 where the node is an assignment that has a place
  abbrev placed_one : List Item → ℕ → ℕ
  placed_one plan n = cond (is_placed n plan) (at_one (slice_get graph.nodes n)) 0

  -- the items place each assignment with a place once
  items_sum : (plan : List Item) → IsPlan graph.nodes first plan → in_items graph.nodes plan ≡ sum_from (placed_one plan) 0 (length graph.nodes)
  items_sum [] is = sym (none_from (length graph.nodes) 0)
  items_sum (Jump m ∷ older) is =
      items_sum older is.1 ∙ same_from (placed_one older) (placed_one (Jump m ∷ older)) (length graph.nodes) 0 (λ n le lt. refl)
  items_sum (Placed m ∷ older) is =
      let here : is_placed m (Placed m ∷ older) ≡ true = ap (λ b. b || is_placed m older) (eq-eqb m m refl) in
      let new : is_placed m older ≡ false = fresh graph.nodes first older m is.0 in
      let inner = placed_inner graph.shared graph.vars graph.received graph.nodes is_graph (Placed m ∷ older) is m here in
      let was : placed_one older m ≡ 0 = ap (λ b. cond b (at_one (slice_get graph.nodes m)) 0) new in
      let now : placed_one (Placed m ∷ older) m ≡ at_one (slice_get graph.nodes m) = ap (λ b. cond b (at_one (slice_get graph.nodes m)) 0) here in
      let rest = items_sum older is.1 in
      let more = more_from (placed_one older) (placed_one (Placed m ∷ older)) m (at_one (slice_get graph.nodes m))
      (λ n differ. ap (λ b. cond (b || is_placed n older) (at_one (slice_get graph.nodes n)) 0) (ne_eqb m n (λ e. differ (sym e))))
      (omega (arith, was, now)) (length graph.nodes) 0 (omega arith) (let lt = inner.1 in omega (arith, lt)) in
      omega (arith, rest, more)

  -- and in a whole plan each has one
  all_placed : (plan : List Item) → IsPlan graph.nodes first plan → next_item graph.nodes first plan ≡ None → (n : ℕ) → n < length graph.nodes → placed_one plan n ≡ at_one (slice_get graph.nodes n)
  all_placed plan is done zero lt =
      let start : slice_get graph.nodes 0 ≡ Some (Start is_graph.can.start.0) = is_graph.can.start.1 in
      let none : at_one (slice_get graph.nodes 0) ≡ 0 = ap at_one start in
      either (is_placed 0 plan) none
    where
      either : (b : Bool) → at_one (slice_get graph.nodes 0) ≡ 0 → cond b (at_one (slice_get graph.nodes 0)) 0 ≡ at_one (slice_get graph.nodes 0)
      either true none = refl
      either false none = sym none
  all_placed plan is done (suc n) lt =
      ap (λ b. cond b (at_one (slice_get graph.nodes (suc n))) 0) (reached_placed graph.vars graph.received graph.nodes is_graph plan is done (suc n) (is_graph.reached (suc n) lt) (omega arith))

  -- so the layout has as many as the graph
  laid_count : (unit : UnitShape) → IsLayout graph unit → in_body unit.body ≡ count_by is_assign graph.nodes
  laid_count unit layout =
      let plan = layout.laid.plan in
      let is = layout.laid.is_plan in
      let body = plain_body graph.received graph.nodes plan in
      let place = place_in graph.nodes (length graph.received) plan in
      let named : in_body unit.body ≡ in_body body = ap in_body layout.laid.body_is ∙ in_renamed (first_index (seen_in graph.shared body)) body in
      let parts = in_both (map insts.Receive graph.received) (emitted graph.nodes place plan) in
      let received = in_received graph.received in
      let items : in_body (emitted graph.nodes place plan) ≡ sum_from (placed_one plan) 0 (length graph.nodes) = in_emitted graph.nodes place plan ∙ items_sum plan is.is_plan in
      let all : sum_from (placed_one plan) 0 (length graph.nodes) ≡ sum_from (λ n. at_one (slice_get graph.nodes n)) 0 (length graph.nodes) = same_from (placed_one plan) (λ n. at_one (slice_get graph.nodes n)) (length graph.nodes) 0 (λ n le lt. all_placed plan is.is_plan is.complete n (let less : n < length graph.nodes = omega (arith, lt) in less)) in
      let sum : sum_from (λ n. at_one (slice_get graph.nodes n)) 0 (length graph.nodes) ≡ count_by is_assign graph.nodes = sum_nodes (λ n. at_one (slice_get graph.nodes n)) graph.nodes 0 (λ i. ap (λ n. at_one (slice_get graph.nodes n)) (let e : 0 + i ≡ i = omega arith in e)) in
      omega (arith, named, parts, received, items, all, sum)

-- graphs with one layout have equally many
pub one_count : (first second : GraphShape) → IsGraph first.vars first.received first.nodes → IsGraph second.vars second.received second.nodes → HaveOneLayout first second → count_by is_assign first.nodes ≡ count_by is_assign second.nodes
one_count first second is_first is_second one = sym (laid_count first is_first one.unit one.of_first) ∙ laid_count second is_second one.unit one.of_second
