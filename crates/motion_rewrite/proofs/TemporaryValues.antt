-- What a rewriting by a placement preserves: the values of the graph's variables, and that a temporary has the value of
-- its expression, which does not trap, wherever the expression is available from the insertions. First the two sides are
-- related before a node; then after the insertions that stand there, of which one traps only where the graph traps too;
-- then after the node itself, where a replaced node reads what it would have computed.
use Rattle.std.proofs.Common.{◌≡◌, ℕ, ◌<◌, true, false, cond, List, [], ◌∷◌, length, slice_get, Some, ◌⊎◌, inl, inr, refl, sym, ap, ◌∙◌, subst, ℤ, arith}
use Rattle.std.proofs.lemmas.Bool.{cases_Bool, true≢false}
use Rattle.std.proofs.lemmas.Option.{same_Some}
use Rattle.mir_base.specs.declared.instructions.Operand.TheVariants.{Var}
use Rattle.mir_base.specs.declared.instructions.Rhs.{Rhs}
use Rattle.mir_base.specs.declared.instructions.Rhs.TheVariants.{Plain}
use Rattle.mir_base.specs.declared.instructions.Expr.{Expr}
use Rattle.mir_base.specs.EqualValues.{EqualOn, equal_below, traps_equal, value, value_equal}
use Rattle.mir_base.specs.Expressions.{rhs_traps, rhs_value}
use Rattle.mir_base.specs.ExpressionVars.{expr_vars, rhs_of, rhs_of_vars}
use Rattle.mir_base.specs.Frames.{Values, with_value}
use Rattle.flow_graph.specs.declared.nodes.Node.{Node}
use Rattle.flow_graph.specs.declared.nodes.Node.TheVariants.{Assign}
use Rattle.flow_graph.specs.Graphs.{GraphShape, assigns, node_reads}
use Rattle.graph_edit.specs.InsertionRuns.{values_after, none_traps, BothAssign, Preserves, TrapsAfter}
use Rattle.flow_graph.specs.Machines.{graph_code}
use Rattle.graph_edit.specs.Insertions.{Insertion, Replaced, Removed}
use Rattle.flow_graph.specs.Numbering.{is_in}
use Rattle.flow_graph.specs.Paths.{Trace}
use Rattle.path_laws.specs.Paths.{has_bit}
use Rattle.motion_rewrite.specs.declared.placement.Placement.{Placement}
use Rattle.motion_rewrite.specs.Expressions.{kills, node_kills}
use Rattle.motion_rewrite.specs.Flatten.{inserted, insertions_of, reading}
use Rattle.motion_rewrite.specs.Placements.{InsertionsTrapAlike, IsAvailableAfter}
use Rattle.motion_rewrite.proofs.InsertedValues.{others_keep, after_sets, none_of_them, one_of_them}
use Rattle.motion_rewrite.proofs.Insertions.{among_inserted, head_or_none}
use Rattle.motion_rewrite.specs.UseLaws.{uses_assign}
use Rattle.graph_edit.specs.VarLaws.{NoneAssigned, new_unassigned, reads_below}
use Rattle.motion_rewrite.specs.KillLaws.{kills_none}
use Rattle.motion_rewrite.proofs.RowNumbers.{set_within}
use Rattle.motion_rewrite.proofs.Rewritable.{IsRewritable, evaluated_at, first_bit, known, replaced_use, rewriting_by, temps_of}
use Rattle.motion_rewrite.proofs.TemporaryNumbers.{AreTemps, temporaries}

module _ {graph : GraphShape} {table : List Expr} {p : Placement} (r : IsRewritable graph table p) where
  -- how many variables the graph has, the temporaries, that they are new and differ, and what is put before each node
  abbrev vars : ℕ
  vars = length graph.vars

  abbrev temp : ℕ → ℕ
  temp = temps_of graph p

  abbrev temps : AreTemps (length graph.vars) (temps_of graph p) p
  temps = temporaries (length graph.vars) p

  abbrev inserts : ℕ → List Insertion
  inserts n = insertions_of (temps_of graph p) table (inserted p.insert n)

  -- after the nodes before n the two sides agree on the graph's variables, and each temporary whose expression is
  -- available from the insertions has its value, and the expression does not trap
  pub record TemporariesHold (n : ℕ) (before : List ℕ) (v w : Values) : Type 0 where
    pub agree : (x : ℕ) → x < length graph.vars → w x ≡ v x
    pub held : (i : ℕ) (e : Expr) → slice_get table i ≡ Some e → IsAvailableAfter graph e (λ m. has_bit p.insert i m ≡ true) before → (w (temp i) ≡ value v e) × (rhs_traps v (rhs_of e) ≡ false)

  -- what a row lists has its bit set
  bit_of : (n j : ℕ) → is_in j (inserted p.insert n) ≡ true → has_bit p.insert j n ≡ true
  bit_of n j among = sym (among_inserted p.insert n j) ∙ among

  -- ---- after the insertions of a node

  module _ (n : ℕ) (before : List ℕ) (v w : Values) (keeps : TemporariesHold n before v w) where
    -- the values after the insertions before the node
    abbrev w' : Values
    w' = values_after (inserts n) w

    -- the graph's variables still agree
    agree_after : (x : ℕ) → x < vars → w' x ≡ v x
    agree_after x lt = others_keep temp table (inserted p.insert n) (known r n) w x (λ j among same. omega (arith, temps.fresh j, same, lt)) ∙ keeps.agree x lt

    -- the expressions have the same traps on both sides
    trap_alike : (i : ℕ) (e : Expr) → slice_get table i ≡ Some e → rhs_traps w (rhs_of e) ≡ rhs_traps v (rhs_of e)
    trap_alike i e at_i = traps_equal w v (rhs_of e) (subst (λ l. EqualOn l w v) (sym (rhs_of_vars e)) (equal_below vars (expr_vars e) w v (r.over i e at_i) keeps.agree))

    module _ (untrapped : none_traps (inserts n) w ≡ true) where
      -- a temporary that is assigned here, or was and is still available, has the value of its expression, which does
      -- not trap
      held_after : (i : ℕ) (e : Expr) → slice_get table i ≡ Some e → (has_bit p.insert i n ≡ true) ⊎ IsAvailableAfter graph e (λ m. has_bit p.insert i m ≡ true) before → (w' (temp i) ≡ value v e) × (rhs_traps v (rhs_of e) ≡ false)
      held_after i e at_i there =
          let below = r.over i e at_i in
          let sets : has_bit p.insert i n ≡ true → (w' (temp i) ≡ value v e) × (rhs_traps v (rhs_of e) ≡ false) = λ set.
          let among = among_inserted p.insert n i ∙ set in (
            after_sets temp table vars temps.fresh i e at_i below (inserted p.insert n) (known r n) w among (λ j is same. temps.differ j i n n (bit_of n j is) set same)
                ∙ value_equal e w v (equal_below vars (expr_vars e) w v below keeps.agree),
            sym (trap_alike i e at_i) ∙ none_of_them temp table vars temps.fresh r.over (inserted p.insert n) (known r n) w untrapped i e at_i among,
          ) in
          elim there [
            | inl set ↦ sets set
            | inr after ↦ elim (cases_Bool (has_bit p.insert i n)) [
              | inl set ↦ sets set
              | inr none ↦
                  let made = evaluated_at (λ m. has_bit p.insert i m ≡ true) (kills graph e) before after in
                  let was = keeps.held i e at_i after in (
                    others_keep temp table (inserted p.insert n) (known r n) w (temp i) (λ j among same. true≢false (sym (ap (λ q. has_bit p.insert q n) (sym (temps.differ j i n made.0 (bit_of n j among) made.1 same)) ∙ bit_of n j among) ∙ none))
                        ∙ was.0,
                    was.1,
                  )
            ]
          ]

      -- so it is after what the node assigns, at the next node
      onward : (s : ℕ) (node : Node) → slice_get graph.nodes n ≡ Some node → (v1 w1 : Values) → BothAssign (λ x. assigns graph x node) v w' v1 w1 → TemporariesHold s (n ∷ before) v1 w1
      onward s node is v1 w1 both = record {
        agree = λ x lt. elim (cases_Bool (assigns graph x node)) [
          | inl assigned ↦ sym (both.same x assigned)
          | inr stays ↦ both.second_keeps x stays ∙ agree_after x lt ∙ sym (both.first_keeps x stays)
        ];
        held = λ i e at_i after.
            let kept : node_kills graph e (Some node) ≡ false = sym (ap (node_kills graph e) is) ∙ after.0 in
            let below = r.is_graph.can.below n node is in
            let equal = stay node v1 w1 both (expr_vars e) (kills_none graph e node kept) in
            let was = held_after i e at_i after.1 in (
              both.second_keeps (temp i) (new_unassigned graph vars (temp i) r.least node below (temps.fresh i)) ∙ was.0 ∙ sym (value_equal e v1 v equal),
              traps_equal v1 v (rhs_of e) (subst (λ l. EqualOn l v1 v) (sym (rhs_of_vars e)) equal) ∙ was.1,
            );
      }
        where
          stay : (one : Node) (v2 w2 : Values) → BothAssign (λ x. assigns graph x one) v w' v2 w2 → (xs : List ℕ) → NoneAssigned graph one xs → EqualOn xs v2 v
          stay one v2 w2 pair [] none = tt
          stay one v2 w2 pair (x ∷ xs) none = (pair.first_keeps x none.0, stay one v2 w2 pair xs none.1)

  -- ---- replaced nodes

  -- a replaced right side is the temporary of an expression whose bit is set
  read_first : (n : ℕ) (other : Rhs) → reading temp (inserted p.replace n) ≡ Replaced other → (i : ℕ) × (has_bit p.replace i n ≡ true) × (other ≡ Plain (Var (temp i)))
  read_first n other is = elim (head_or_none (inserted p.replace n)) [
    | inl none ↦ let never = sym (ap (reading temp) none) ∙ is in absurd (cc)
    | inr first ↦
        let same = sym (ap (reading temp) first.2) ∙ is in
        (first.0, first_bit r n first.0 first.1 first.2, cc)
  ]

  -- no node is removed
  never_removed : (n : ℕ) → reading temp (inserted p.replace n) ≡ Removed → ⊥
  never_removed n is = never (inserted p.replace n) is
    where
      never : (numbers : List ℕ) → reading temp numbers ≡ Removed → ⊥
      never [] e = cc
      never (i ∷ numbers) e = cc

  -- a replaced node assigns what it would have: its temporary holds the value of its expression, which does not trap
  replaced_ends : (n s x : ℕ) (rhs other : Rhs) (before : List ℕ) (v w : Values) → Trace graph.nodes n before → slice_get graph.nodes n ≡ Some (Assign x rhs s) → reading temp (inserted p.replace n) ≡ Replaced other → TemporariesHold n before v w → none_traps (inserts n) w ≡ true
      → (rhs_traps v rhs ≡ rhs_traps (values_after (inserts n) w) other) × (rhs_traps v rhs ≡ false → TemporariesHold s (n ∷ before) (with_value x (rhs_value v rhs) v) (with_value x (rhs_value (values_after (inserts n) w) other) (values_after (inserts n) w)))
  replaced_ends n s x rhs other before v w trace is change keeps untrapped =
      let first = read_first n other change in
      let i = first.0 in
      let u = replaced_use r n i first.1 in
      let e = u.0 in
      let found = uses_assign graph e n u.2 in
      let node_is : Assign x rhs s ≡ Assign found.0 (rhs_of e) found.1 = same_Some (Assign x rhs s) (Assign found.0 (rhs_of e) found.1) (sym is ∙ found.2) in
      let same : rhs ≡ rhs_of e = cc in
      let held = held_after n before v w keeps untrapped i e u.1 ((r.placed i e u.1).available n before first.1 trace) in
      let rhs_untrapped : rhs_traps v rhs ≡ false = ap (rhs_traps v) same ∙ held.1 in
      let read : rhs_value v rhs ≡ rhs_value (values_after (inserts n) w) other = ap (rhs_value v) same ∙ sym held.0 ∙ sym (ap (rhs_value (values_after (inserts n) w)) first.2) in (
        rhs_untrapped ∙ sym (ap (rhs_traps (values_after (inserts n) w)) first.2),
        λ untraps. onward n before v w keeps untrapped s (Assign x rhs s) is _ _ (record {
          same = λ q e'. ap (λ b. cond b (rhs_value v rhs) (v q)) e' ∙ read ∙ sym (ap (λ b. cond b (rhs_value (values_after (inserts n) w) other) (values_after (inserts n) w q)) e');
          first_keeps = λ q e'. ap (λ b. cond b (rhs_value v rhs) (v q)) e';
          second_keeps = λ q e'. ap (λ b. cond b (rhs_value (values_after (inserts n) w) other) (values_after (inserts n) w q)) e';
        }),
      )

  -- ---- the theorem: the rewriting preserves the relation, where insertions trap as the graph does

  module _ (alike : InsertionsTrapAlike graph table p) where
    -- where an insertion traps, the graph traps too: it is an expression whose bit is set at a node of the graph
    trapped : (n : ℕ) (before : List ℕ) (arguments : List ℤ) (v w : Values) → TemporariesHold n before v w → none_traps (inserts n) w ≡ false
        → (steps : ℕ) × TrapsAfter (graph_code graph.shared graph.received graph.nodes) steps (record { place = n; arguments = arguments; values = v })
    trapped n before arguments v w keeps trap =
        let one = one_of_them temp table vars temps.fresh r.over (inserted p.insert n) (known r n) w trap in
        let set = bit_of n one.0 one.3 in
        alike one.0 one.1 one.2 n (set_within (length graph.nodes) (length table) p.insert r.insert n one.0 set).0 set arguments v (sym (trap_alike n before v w keeps one.0 one.1 one.2) ∙ one.4)

    pub placement_preserves : Preserves graph (rewriting_by graph table p) TemporariesHold
    placement_preserves = record {
      changes = λ n node is. elim (head_or_none (inserted p.replace n)) [
        | inl none ↦ inl (ap (reading temp) none)
        | inr first ↦
            let set : has_bit p.replace first.0 n ≡ true = first_bit r n first.0 first.1 first.2 in
            let u = replaced_use r n first.0 set in
            let found = uses_assign graph u.0 n u.2 in
            inr (found.0, rhs_of u.0, found.1, same_Some node (Assign found.0 (rhs_of u.0) found.1) (sym is ∙ found.2))
      ];
      starts = λ s values edge. record {
        agree = λ x lt. refl;
        held = λ i e at_i after. absurd (true≢false (sym (ap (node_kills graph e) r.is_graph.can.start.1) ∙ after.0));
      };
      traps = λ n before arguments v w trace keeps trap. trapped n before arguments v w keeps trap;
      reads = λ n node before v w trace is kept keeps untrapped. equal_below vars (node_reads graph node) (values_after (inserts n) w) v (reads_below graph vars r.least node (r.is_graph.can.below n node is)) (agree_after n before v w keeps);
      keeps = λ n s node before v w v1 w1 trace is edge kept keeps untrapped both. onward n before v w keeps untrapped s node is v1 w1 both;
      replaces = λ n s x rhs other before v w trace is change keeps untrapped. replaced_ends n s x rhs other before v w trace is change keeps untrapped;
      removes = λ n s x rhs before v w trace is change keeps untrapped. absurd (never_removed n change);
    }
