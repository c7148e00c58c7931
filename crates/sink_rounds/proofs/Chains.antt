-- How often an assignment stands in the chain before a node, and at the node, once some dead ones are removed.
use Rattle.std.proofs.Common.{◌≡◌, ◌⊎◌, ◌+◌, ◌<◌, ◌≤◌, ℕ, suc, Bool, true, false, ◌||◌, List, [], ◌∷◌, length, slice_get, Option, Some, None, option_map, inl, inr, refl, sym, ap, ◌∙◌, subst, arith}
use Rattle.std.proofs.lemmas.Bool.{cases_Bool, cases_eq, false≢true, true≢false, eq-eqb}
use Rattle.std.proofs.lemmas.Option.{none-some, same_Some, slice_get_within}
use Rattle.mir_base.specs.ItemLaws.{one_item}
use Rattle.mir_base.specs.Expressions.{divides}
use Rattle.mir_base.specs.declared.instructions.Rhs.{Rhs}
use Rattle.mir_base.specs.Shapes.{rhs_vars}
use Rattle.flow_graph.specs.declared.nodes.Node.{Node}
use Rattle.flow_graph.specs.declared.nodes.Node.TheVariants.{Start, Skip, Assign, Print, Guard, Call, Test, Return}
use Rattle.flow_graph.specs.Graphs.{AllWithin, GraphShape, succs_of}
use Rattle.flow_graph.specs.ListLaws.{some_at}
use Rattle.flow_graph.specs.Numbering.{is_in}
use Rattle.flow_graph.specs.Paths.{HasEdge}
use Rattle.flow_graph.specs.Retained.{redirected}
use Rattle.flow_graph.specs.Sums.{one_if, sum_on}
use Rattle.graph_edit.specs.InsertionNodes.{old_edge, old_get}
use Rattle.graph_edit.specs.InsertionPaths.{IsInsertionChain}
use Rattle.graph_edit.specs.Insertions.{Insertion, Rewriting, Unchanged, changed, entry, entry_among, put_below, rewritten, rewritten_nodes}
use Rattle.graph_edit.specs.Over.{over_path, through}
use Rattle.sink_code.specs.Sinking.{AllOthers, AreApart, LeaveAlone, put_for}
use Rattle.graph_edit.specs.Accesses.{is_occurrence}
use Rattle.dead_code.specs.Liveness.{IsLiveBefore}
use Rattle.dead_code.specs.Pruned.{IsDeadAt, pruned_from, removed_if}
use Rattle.dead_code.specs.PrunedLaws.{pruned_get}
use Rattle.sink_code.specs.PutLaws.{alone_unput, put_first, put_rest}
use Rattle.graph_edit.specs.OccurrenceLaws.{is_occurrence_of, occurrence_is}
use Rattle.sink_rounds.proofs.Bridge.{live_enter, live_over}
use Rattle.sink_rounds.proofs.LiveOver.{LiveOver, ReadsFirst, node_after}

-- ---- sums

-- over the nodes of a chain, numbered from k on
abbrev pub chain_sum : (ℕ → ℕ) → ℕ → List Insertion → ℕ
chain_sum f k [] = 0
chain_sum f k (put ∷ puts) = f k + chain_sum f (suc k) puts

-- along a path that goes through a chain first, the sum is that of the chain and that of the rest
through_sum : (f : ℕ → ℕ) (k : ℕ) (puts : List Insertion) (path : List ℕ) → sum_on f (through k puts path) ≡ chain_sum f k puts + sum_on f path
through_sum f k [] path = omega arith
through_sum f k (put ∷ puts) path = omega (arith, through_sum f (suc k) puts path)

-- so along the path through the chains: that of the first chain, of its node, and of the rest
pub over_sum : (f : ℕ → ℕ) (inserts : ℕ → List Insertion) (old n : ℕ) (path : List ℕ) → sum_on f (over_path inserts old (n ∷ path)) ≡ chain_sum f (old + put_below inserts n) (inserts n) + (f n + sum_on f (over_path inserts old path))
over_sum f inserts old n path = through_sum f (old + put_below inserts n) (inserts n) (n ∷ over_path inserts old path)

-- ---- insertions that leave x alone

-- a variable from which all of a list differ is not in the list
others_out : (x : ℕ) (ys : List ℕ) → AllOthers x ys → is_in x ys ≡ false
others_out x [] others = refl
others_out x (y ∷ ys) others = ap (λ b. b || is_in x ys) others.0 ∙ others_out x ys others.1

-- insertions that leave x alone do not read it first
alone_unread : (x : ℕ) (puts : List Insertion) → LeaveAlone x puts → ReadsFirst x puts → ⊥
alone_unread x [] alone first = first
alone_unread x (put ∷ puts) alone (inl reads) = true≢false (sym reads ∙ others_out x (rhs_vars put.rhs) alone.0.1)
alone_unread x (put ∷ puts) alone (inr later) = alone_unread x puts alone.1 later.1

-- ---- occurrences

-- a node that leads elsewhere has the same occurrence
redirected_occurs : (x : ℕ) (t : Rhs) (go : ℕ → ℕ) (node : Node) → is_occurrence x t (Some (redirected go node)) ≡ is_occurrence x t (Some node)
redirected_occurs x t go (Start next) = refl
redirected_occurs x t go (Skip next) = refl
redirected_occurs x t go (Assign y rhs next) = refl
redirected_occurs x t go (Print a next) = refl
redirected_occurs x t go (Guard test number next) = refl
redirected_occurs x t go (Call into unit operands next) = refl
redirected_occurs x t go (Test test taken other) = refl
redirected_occurs x t go (Return a) = refl

-- a node that is removed or not
pruned_occurs : (x : ℕ) (t : Rhs) (gone : Bool) (node : Node) → (is_occurrence x t (Some node) ≡ false) ⊎ (gone ≡ true) → is_occurrence x t (Some (changed (removed_if gone) node)) ≡ false
pruned_occurs x t gone (Start next) out = refl
pruned_occurs x t gone (Skip next) out = refl
pruned_occurs x t true (Assign y rhs next) out = refl
pruned_occurs x t false (Assign y rhs next) (inl out) = out
pruned_occurs x t false (Assign y rhs next) (inr gone) = absurd (false≢true gone)
pruned_occurs x t gone (Print a next) out = refl
pruned_occurs x t gone (Guard test number next) out = refl
pruned_occurs x t gone (Call into unit operands next) out = refl
pruned_occurs x t gone (Test test taken other) out = refl
pruned_occurs x t gone (Return a) out = refl

module _ (graph : GraphShape) (r : Rewriting) (x : ℕ) (t : Rhs) (sinkable : divides t ≡ false) (dead : ℕ → Bool) where
  abbrev raw : List Node
  raw = rewritten_nodes r graph.nodes

  abbrev new : GraphShape
  new = rewritten r [] graph

  abbrev to : ℕ → ℕ
  to = entry r.inserts (length graph.nodes)

  -- 1 at a node that is x <- t once the dead ones are gone
  abbrev pub ones : ℕ → ℕ
  ones k = one_if (is_occurrence x t (slice_get (pruned_from dead 0 raw) k))

  -- what it is at a node, by the mark of the node
  ones_is : (k : ℕ) (node : Node) → slice_get raw k ≡ Some node → ones k ≡ one_if (is_occurrence x t (Some (changed (removed_if (dead k)) node)))
  ones_is k node is = ap (λ o. one_if (is_occurrence x t o)) (pruned_get dead raw 0 k ∙ ap (option_map (changed (removed_if (dead (0 + k))))) is ∙ ap (λ m. Some (changed (removed_if (dead m)) node)) (let none : 0 + k ≡ k = omega arith in none))

  -- nothing where it is none, or is gone
  ones_none : (k : ℕ) (node : Node) → slice_get raw k ≡ Some node → (is_occurrence x t (Some node) ≡ false) ⊎ (dead k ≡ true) → ones k ≡ 0
  ones_none k node is out = ones_is k node is ∙ ap one_if (pruned_occurs x t (dead k) node out)

  -- one where it is one, and is kept
  ones_one : (k next : ℕ) → slice_get raw k ≡ Some (Assign x t next) → dead k ≡ false → ones k ≡ 1
  ones_one k next is kept =
      ones_is k (Assign x t next) is ∙ ap (λ b. one_if (is_occurrence x t (Some (changed (removed_if b) (Assign x t next))))) kept
      ∙ ap one_if (is_occurrence_of x t next sinkable)

  -- an assignment of another variable is no occurrence
  occurs_not : (y : ℕ) (u : Rhs) (next : ℕ) → (x ≡ y → ⊥) → is_occurrence x t (Some (Assign y u next)) ≡ false
  occurs_not y u next differ = elim (cases_Bool (is_occurrence x t (Some (Assign y u next)))) [
    | inl is ↦
        let w = occurrence_is x t (Some (Assign y u next)) is in
        let same : Assign y u next ≡ Assign x t w.0 = same_Some (Assign y u next) (Assign x t w.0) w.1 in
        let var : y ≡ x = cc in
        absurd (differ (sym var))
    | inr out ↦ out
  ]

  -- so insertions that leave x alone have none
  alone_none : (n k : ℕ) (puts : List Insertion) → IsInsertionChain raw n k puts → LeaveAlone x puts → chain_sum ones k puts ≡ 0
  alone_none n k [] c alone = refl
  alone_none n k (put ∷ puts) c alone =
      let here = ones_none k (Assign put.var put.rhs (entry_among n (suc k) puts)) c.0 (inl (occurs_not put.var put.rhs (entry_among n (suc k) puts) (λ same. true≢false (sym (eq-eqb x put.var same) ∙ alone.0.0)))) in
      omega (arith, here, alone_none n (suc k) puts c.1 alone.1)

  -- ---- at most

  -- in the chain before n it stands not, or once, and then it is put there and its variable is live behind the chain
  pub chain_at_most : AllWithin graph.nodes → ((k : ℕ) → k < length raw → dead k ≡ false → IsDeadAt new k → ⊥) → (n k : ℕ) (puts : List Insertion) → n < length graph.nodes → IsInsertionChain raw n k puts → AreApart puts
      → (chain_sum ones k puts ≡ 0) ⊎ ((chain_sum ones k puts ≡ 1) × ((put_for puts x ≡ Some t) × ((LiveOver graph r x n → ⊥) → ⊥)))
  chain_at_most within alive n k [] lt c apart = inl refl
  chain_at_most within alive n k (put ∷ puts) lt c apart = elim (cases_eq x put.var) [
    | inl same ↦ here same
    | inr differ ↦
        let none = ones_none k (Assign put.var put.rhs (entry_among n (suc k) puts)) c.0 (inl (occurs_not put.var put.rhs (entry_among n (suc k) puts) differ)) in
        elim (chain_at_most within alive n (suc k) puts lt c.1 apart.1) [
          | inl zero ↦ inl (omega (arith, none, zero))
          | inr one ↦ inr (omega (arith, none, one.0), (put_rest put puts x differ ∙ one.1.0, one.1.1))
        ]
  ]
    where
      next : ℕ
      next = entry_among n (suc k) puts

      here : x ≡ put.var → (chain_sum ones k (put ∷ puts) ≡ 0) ⊎ ((chain_sum ones k (put ∷ puts) ≡ 1) × ((put_for (put ∷ puts) x ≡ Some t) × ((LiveOver graph r x n → ⊥) → ⊥)))
      here same = elim (cases_Bool (is_occurrence x t (Some (Assign put.var put.rhs next)))) [
        | inr out ↦ (let none = ones_none k (Assign put.var put.rhs next) c.0 (inl out) in inl (omega (arith, none, rest)))
        | inl is ↦ elim (cases_Bool (dead k)) [
          | inl gone ↦ (let none = ones_none k (Assign put.var put.rhs next) c.0 (inr gone) in inl (omega (arith, none, rest)))
          | inr kept ↦
              let w = occurrence_is x t (Some (Assign put.var put.rhs next)) is in
              let assigns : Assign put.var put.rhs next ≡ Assign x t w.0 = same_Some (Assign put.var put.rhs next) (Assign x t w.0) w.1 in
              let rhs : put.rhs ≡ t = cc in
              let leads : next ≡ w.0 = cc in
              let there : slice_get raw k ≡ Some (Assign x t next) = c.0 ∙ ap (λ y. Some (Assign y put.rhs next)) (sym same) ∙ ap (λ u. Some (Assign x u next)) rhs in
              let one = ones_one k next there kept in
              inr (
                omega (arith, one, rest),
                (
                  ap (put_for (put ∷ puts)) same ∙ put_first put puts ∙ ap (λ (u : Rhs). Some u) rhs,
                  λ not. alive k (slice_get_within raw k (Assign x t next) there) kept (record {
                    var = x;
                    rhs = t;
                    next = next;
                    is = there;
                    sinkable = sinkable;
                    unread = λ after. not (behind there after);
                  }),
                ),
              )
        ]
      ]
        where
          alone : LeaveAlone x puts
          alone = subst (λ y. LeaveAlone y puts) (sym same) apart.0

          rest : chain_sum ones (suc k) puts ≡ 0
          rest = alone_none n (suc k) puts c.1 alone

          behind : slice_get raw k ≡ Some (Assign x t next) → (s : ℕ) × HasEdge raw k s × IsLiveBefore new x s → LiveOver graph r x n
          behind there after =
              let leads : next ≡ after.0 = one_item next after.0 after.1.0 (sym (ap (λ (o : Option Node). slice_get (succs_of o) after.1.0) there) ∙ after.1.1) in
              elim (live_over graph r x within n (suc k) puts c.1 lt (subst (IsLiveBefore new x) (sym leads) after.2)) [
                | inl first ↦ absurd (alone_unread x puts alone first)
                | inr on ↦ on.1
              ]

  -- ---- at least

  -- where it is put before n, it stands in the chain, or its variable is not live behind the chain
  pub chain_at_least : ((k : ℕ) → k < length raw → dead k ≡ true → IsDeadAt new k) → (n k : ℕ) (puts : List Insertion) → IsInsertionChain raw n k puts → AreApart puts → put_for puts x ≡ Some t
      → (1 ≤ chain_sum ones k puts) ⊎ (IsLiveBefore new x n → ⊥)
  chain_at_least dead_are n k [] c apart put = absurd (none-some t put)
  chain_at_least dead_are n k (first ∷ puts) c apart put = elim (cases_eq x first.var) [
    | inr differ ↦ elim (chain_at_least dead_are n (suc k) puts c.1 apart.1 (sym (put_rest first puts x differ) ∙ put)) [
      | inl some ↦ inl (omega (arith, some))
      | inr none ↦ inr none
    ]
    | inl same ↦
        let rhs : first.rhs ≡ t = same_Some first.rhs t (sym (put_first first puts) ∙ ap (put_for (first ∷ puts)) (sym same) ∙ put) in
        let there : slice_get raw k ≡ Some (Assign x t (entry_among n (suc k) puts)) = c.0 ∙ ap (λ y. Some (Assign y first.rhs (entry_among n (suc k) puts))) (sym same) ∙ ap (λ u. Some (Assign x u (entry_among n (suc k) puts))) rhs in
        elim (cases_Bool (dead k)) [
          | inr kept ↦ (let one = ones_one k (entry_among n (suc k) puts) there kept in inl (omega (arith, one)))
          | inl gone ↦
              let d = dead_are k (slice_get_within raw k (Assign x t (entry_among n (suc k) puts)) there) gone in
              let assigns : Assign d.var d.rhs d.next ≡ Assign x t (entry_among n (suc k) puts) = same_Some (Assign d.var d.rhs d.next) (Assign x t (entry_among n (suc k) puts)) (sym d.is ∙ there) in
              let var : d.var ≡ x = cc in
              let none : put_for puts x ≡ None = alone_unput x puts (subst (λ y. LeaveAlone y puts) (sym same) apart.0) in
              inr (λ live. d.unread (entry_among n (suc k) puts, (0, ap (λ (o : Option Node). slice_get (succs_of o) 0) there), subst (λ y. IsLiveBefore new y (entry_among n (suc k) puts)) (sym var) (live_enter graph r x n (suc k) puts c.1 none live)))
        ]
  ]

  -- ---- at an old node

  -- where none is left by the rewriting
  pub old_none : (n : ℕ) → n < length graph.nodes → is_occurrence x t (node_after graph r n) ≡ false → ones n ≡ 0
  old_none n lt out =
      let node = some_at graph.nodes n lt in
      ones_none n (redirected to (changed (r.changes n) node.0)) (old_get r graph.nodes n node.0 node.1)
      (inl (redirected_occurs x t to (changed (r.changes n) node.0) ∙ ap (λ o. is_occurrence x t (option_map (changed (r.changes n)) o)) (sym node.1) ∙ out))

  -- where one is left, it stands there, or its variable is not live after it
  pub old_at_least : ((k : ℕ) → k < length raw → dead k ≡ true → IsDeadAt new k) → (n next : ℕ) → slice_get graph.nodes n ≡ Some (Assign x t next) → r.changes n ≡ Unchanged
      → (1 ≤ ones n) ⊎ ((m : ℕ) → HasEdge graph.nodes n m → IsLiveBefore new x (to m) → ⊥)
  old_at_least dead_are n next is unchanged =
      let there : slice_get raw n ≡ Some (Assign x t (to next)) = old_get r graph.nodes n (Assign x t next) is ∙ ap (λ c. Some (redirected to (changed c (Assign x t next)))) unchanged in
      elim (cases_Bool (dead n)) [
        | inr kept ↦ (let one = ones_one n (to next) there kept in inl (omega (arith, one)))
        | inl gone ↦
            let d = dead_are n (slice_get_within raw n (Assign x t (to next)) there) gone in
            let assigns : Assign d.var d.rhs d.next ≡ Assign x t (to next) = same_Some (Assign d.var d.rhs d.next) (Assign x t (to next)) (sym d.is ∙ there) in
            let var : d.var ≡ x = cc in
            inr (λ m edge live. d.unread (to m, (edge.0, old_edge r graph.nodes n edge.0 m edge.1), subst (λ y. IsLiveBefore new y (to m)) (sym var) live))
      ]
