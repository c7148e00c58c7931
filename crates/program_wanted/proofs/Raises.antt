-- What the calls of a graph raise, one node after the other.
use Rattle.std.proofs.Common.{◌≡◌, ◌⊎◌, ◌↔◌, ℕ, ◌+◌, ◌<◌, ◌≤◌, Bool, true, false, ◌||◌, inl, inr, List, length, slice_get, slice_set, Option, Some, None, refl, sym, ap, ◌∙◌, subst, arith, true≢false}
use Rattle.std.proofs.lemmas.Bool.{cases_eq, or_parts}
use Rattle.std.proofs.lemmas.Option.{slice_get_within}
use Rattle.mir_base.specs.declared.instructions.Operand.{Operand}
use Rattle.node_list.specs.Lists.{list_at}
use Rattle.flow_graph.specs.declared.nodes.Node.{Node}
use Rattle.flow_graph.specs.declared.nodes.Node.TheVariants.{Start, Skip, Assign, Print, Guard, Call, Test, Return}
use Rattle.flow_graph.specs.Graphs.{GraphShape}
use Rattle.wanted_bits.specs.BitsOrder.{HasFew, joined_bits}
use Rattle.wanted_bits.specs.WalkLaws.{FewerEach}
use Rattle.program_wanted.specs.Demands.{FewerRows}
use Rattle.program_wanted.specs.Sweeps.{CallsFitRows, HaveAsked, RaisesTo, rows_room, with_call}
use Rattle.program_wanted.proofs.Rooms.{Raised, row_has, row_least, row_raised}

-- a node that calls and asks, or that leaves all rows
pub record CallsAndAsks (node : Node) (ask : Option (List ℕ)) : Type 0 where
  pub into : Option ℕ
  pub unit : ℕ
  pub operands : List Operand
  pub next : ℕ
  pub asked : List ℕ
  pub is : node ≡ Call into unit operands next
  pub asks : ask ≡ Some asked

-- none of both
pub record LeavesAll (node : Node) (ask : Option (List ℕ)) : Type 0 where
  pub stays : (rows : List (List ℕ)) → with_call node ask rows ≡ rows
  pub not : CallsAndAsks node ask → ⊥

-- each node is of one of these kinds
pub asks_or_leaves : (node : Node) (ask : Option (List ℕ)) → CallsAndAsks node ask ⊎ LeavesAll node ask
asks_or_leaves (Call into unit operands next) (Some l) = inl (record { into = into; unit = unit; operands = operands; next = next; asked = l; is = refl; asks = refl })
asks_or_leaves (Call into unit operands next) None = inr (record { stays = λ rows. refl; not = λ c. let e = c.asks in cc })
asks_or_leaves (Start next) ask = inr (record { stays = λ rows. refl; not = λ c. let e = c.is in cc })
asks_or_leaves (Skip next) ask = inr (record { stays = λ rows. refl; not = λ c. let e = c.is in cc })
asks_or_leaves (Assign x rhs next) ask = inr (record { stays = λ rows. refl; not = λ c. let e = c.is in cc })
asks_or_leaves (Print a next) ask = inr (record { stays = λ rows. refl; not = λ c. let e = c.is in cc })
asks_or_leaves (Guard test number next) ask = inr (record { stays = λ rows. refl; not = λ c. let e = c.is in cc })
asks_or_leaves (Test test taken other) ask = inr (record { stays = λ rows. refl; not = λ c. let e = c.is in cc })
asks_or_leaves (Return a) ask = inr (record { stays = λ rows. refl; not = λ c. let e = c.is in cc })

module _ (graph : GraphShape) (asks : List (Option (List ℕ))) (old : List (List ℕ)) (fits : CallsFitRows graph asks old) where
  -- nothing yet
  pub raises_none : RaisesTo graph asks 0 old old false
  raises_none = record {
    stay = record { long = refl; each = λ u. refl; few = fits.few };
    rise = λ u x. omega arith;
    have = λ n into v operands next l lt. absurd (omega (arith, lt));
    least = λ tops below asked. below;
    room = omega arith;
    changes = λ on. absurd (cc);
    stays = λ off. refl;
  }

  module _ (n : ℕ) (node : Node) (ask : Option (List ℕ)) (now new : List (List ℕ)) (raised more : Bool) (here : slice_get graph.nodes n ≡ Some node) (at : slice_get asks n ≡ Some ask) (so_far : RaisesTo graph asks n old now raised) (put : new ≡ with_call node ask now) (tells : (more ≡ false) ↔ (new ≡ now)) where
    -- the node's rows
    abbrev FromNow : Type 0
    FromNow = Raised now new × ((into : Option ℕ) (v : ℕ) (operands : List Operand) (next : ℕ) (l : List ℕ) → node ≡ Call into v operands next → ask ≡ Some l → FewerEach l (list_at new v))
        × ((tops : List (List ℕ)) → FewerRows now tops → HaveAsked graph asks (length graph.nodes) tops → FewerRows new tops)

    from_call : CallsAndAsks node ask → FromNow
    from_call c =
        let fit = fits.fit n node ask here at c.into c.unit c.operands c.next c.asked c.is c.asks in
        let lt : c.unit < length now = omega (arith, fit.0, so_far.stay.long) in
        let long : length c.asked ≡ length (list_at now c.unit) = fit.1 ∙ sym (so_far.stay.each c.unit) in
        let is : new ≡ slice_set now c.unit (joined_bits (list_at now c.unit) c.asked) = put ∙ ap (λ m. with_call m ask now) c.is ∙ ap (λ a. with_call (Call c.into c.unit c.operands c.next) a now) c.asks in (
          subst (Raised now) (sym is) (row_raised now c.unit c.asked lt long fit.2 so_far.stay.few),
          λ into v operands next l e f.
              let unit_is : c.unit ≡ v = (let both : Call c.into c.unit c.operands c.next ≡ Call into v operands next = sym c.is ∙ e in cc) in
              let ask_is : c.asked ≡ l = (let both : Some c.asked ≡ Some l = sym c.asks ∙ f in cc) in
              subst (λ k. FewerEach k (list_at new v)) ask_is (subst (λ w. FewerEach c.asked (list_at new w)) unit_is (subst (λ rows. FewerEach c.asked (list_at rows c.unit)) (sym is) (row_has now c.unit c.asked lt long fit.2 so_far.stay.few))),
          λ tops below asked.
              subst (λ rows. FewerRows rows tops) (sym is)
              (row_least now c.unit c.asked lt long fit.2 so_far.stay.few tops below (asked n c.into c.unit c.operands c.next c.asked (slice_get_within graph.nodes n node here) (here ∙ ap Some c.is) (at ∙ ap Some c.asks))),
        )

    from_other : LeavesAll node ask → FromNow
    from_other o =
        let is : new ≡ now = put ∙ o.stays now in (
          record {
            stay = record { long = ap (λ (l : List (List ℕ)). length l) is; each = λ u. ap (λ (l : List (List ℕ)). length (list_at l u)) is; few = λ u. subst (λ (l : List (List ℕ)). HasFew (list_at l u)) (sym is) (so_far.stay.few u) };
            rise = λ u. subst (λ (l : List (List ℕ)). FewerEach (list_at now u) (list_at l u)) (sym is) (λ x. omega arith);
            moved = inl is;
          },
          λ into v operands next l e f. absurd (o.not (record { into = into; unit = v; operands = operands; next = next; asked = l; is = e; asks = f })),
          λ tops below asked. subst (λ rows. FewerRows rows tops) (sym is) below,
        )

    from_now : FromNow
    from_now = elim (asks_or_leaves node ask) [
      | inl c ↦ from_call c
      | inr o ↦ from_other o
    ]

    -- one node more
    pub raises_more : RaisesTo graph asks (n + 1) old new (raised || more)
    raises_more = record {
      stay = record { long = from_now.0.stay.long ∙ so_far.stay.long; each = λ u. from_now.0.stay.each u ∙ so_far.stay.each u; few = from_now.0.stay.few };
      rise = λ u x. omega (arith, so_far.rise u x, from_now.0.rise u x);
      have = have;
      least = λ tops below asked. from_now.2 tops (so_far.least tops below asked) asked;
      room = omega (arith, so_far.room, less);
      changes = changes raised more refl refl;
      stays = λ off. let parts = or_parts raised more off in tells.0 parts.1 ∙ so_far.stays parts.0;
    }
      where
        less : rows_room new ≤ rows_room now
        less = elim from_now.0.moved [
          | inl e ↦ omega (arith, ap rows_room e)
          | inr l ↦ omega (arith, l)
        ]

        have : HaveAsked graph asks (n + 1) new
        have m into v operands next l lt here' at' = elim (cases_eq m n) [
          | inl e ↦
              let node_is : node ≡ Call into v operands next = (let both : Some node ≡ Some (Call into v operands next) = sym here ∙ ap (slice_get graph.nodes) (sym e) ∙ here' in cc) in
              let ask_is : ask ≡ Some l = (let both : Some ask ≡ Some (Some l) = sym at ∙ ap (slice_get asks) (sym e) ∙ at' in cc) in
              from_now.1 into v operands next l node_is ask_is
          | inr ne ↦ (λ x. omega (arith, so_far.have m into v operands next l (omega (arith, lt, ne)) here' at' x, from_now.0.rise v x))
        ]

        changes : (a b : Bool) → raised ≡ a → more ≡ b → (raised || more) ≡ true → rows_room new < rows_room old
        changes true b is is' on = omega (arith, so_far.changes is, less)
        changes false true is is' on = elim from_now.0.moved [
          | inl e ↦ absurd (true≢false (sym is' ∙ tells.1 e))
          | inr l ↦ omega (arith, l, so_far.room)
        ]
        changes false false is is' on = absurd (true≢false (sym on ∙ ap (λ c. c || more) is ∙ is'))
