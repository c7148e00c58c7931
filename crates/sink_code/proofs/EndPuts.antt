-- What is put at the end of a block: of the patterns that leave it those that do not come into the next.
use Rattle.std.proofs.Common.{◌≡◌, ℕ, zero, suc, ◌&&◌, ◌++◌, not, Bool, true, false, Contains, List, [], ◌∷◌, get_or, slice_get, Some, None, refl, sym, ap, inl, inr, ◌∙◌, subst, arith}
use Rattle.std.proofs.lemmas.Bool.{and_from, and_parts, cases_eq, false≢true, not-true}
use Rattle.std.proofs.lemmas.List.Elements.{Contains-append_left, Contains-append_right}
use Rattle.std.proofs.lemmas.Option.{none-some, same_Some, slice_get_within}
use Rattle.mir_base.specs.ItemLaws.{contained_at}
use Rattle.bit_rows.specs.BitLaws.{minus_bit}
use Rattle.bit_rows.specs.Bits.{minus_bits, row_of}
use Rattle.flow_graph.specs.declared.nodes.Node.{Node}
use Rattle.flow_graph.specs.declared.nodes.Node.TheVariants.{Start, Skip, Assign, Print, Guard, Call, Test, Return}
use Rattle.flow_graph.specs.BlockLaws.{one_block}
use Rattle.flow_graph.specs.Blocks.{IsBlocks, StandsIn}
use Rattle.flow_graph.specs.ListLaws.{get_append}
use Rattle.flow_graph.specs.PathLaws.{end_stands}
use Rattle.flow_graph.specs.Paths.{Ends}
use Rattle.path_laws.specs.Paths.{has_bit}
use Rattle.sink_code.specs.declared.inserting.PutBefore.{PutBefore}
use Rattle.sink_code.specs.declared.over.OverBlocks.{OverBlocks}
use Rattle.sink_code.specs.declared.patterns.Pattern.{Pattern}
use Rattle.sink_code.specs.Heads.{skip_to}
use Rattle.sink_code.specs.Over.{ArePutAtEndsOver, HaveShapeOver, lists_of}
use Rattle.sink_code.specs.Puts.{chosen, put_at, puts_at}

-- ---- the successor of a Skip

-- a node with such a successor is a Skip
pub skip_some : (node : Node) (next : ℕ) → skip_to node ≡ Some next → node ≡ Skip next
skip_some (Start s) next e = absurd (none-some next e)
skip_some (Skip s) next e = ap Skip (same_Some s next e)
skip_some (Assign x rhs s) next e = absurd (none-some next e)
skip_some (Print a s) next e = absurd (none-some next e)
skip_some (Guard test number s) next e = absurd (none-some next e)
skip_some (Call into unit operands s) next e = absurd (none-some next e)
skip_some (Test test taken other) next e = absurd (none-some next e)
skip_some (Return a) next e = absurd (none-some next e)

-- and one without is none
pub skip_none : (node : Node) (next : ℕ) → skip_to node ≡ None → node ≡ Skip next → ⊥
skip_none node next none is = none-some next (sym none ∙ ap skip_to is)

-- ---- what is chosen

-- each of the insertions is that of a pattern whose bit is set
pub chosen_has : (n : ℕ) (table : List Pattern) (row : List Bool) (i : ℕ) (put : PutBefore) → slice_get (puts_at n (chosen table row)) i ≡ Some put → (k : ℕ) × (p : Pattern) × (slice_get table k ≡ Some p) × (get_or row k false ≡ true) × (put ≡ put_at n p)
chosen_has n [] row i put e = absurd (none-some put e)
chosen_has n (p ∷ table) [] i put e = absurd (none-some put e)
chosen_has n (p ∷ table) (true ∷ row) zero put e = (0, p, refl, refl, sym (same_Some (put_at n p) put e))
chosen_has n (p ∷ table) (true ∷ row) (suc i) put e = let rest = chosen_has n table row i put e in (suc rest.0, rest.1, rest.2, rest.3, rest.4)
chosen_has n (p ∷ table) (false ∷ row) i put e = let rest = chosen_has n table row i put e in (suc rest.0, rest.1, rest.2, rest.3, rest.4)

-- and each such pattern has one
pub chosen_in : (n : ℕ) (table : List Pattern) (row : List Bool) (k : ℕ) (p : Pattern) → slice_get table k ≡ Some p → get_or row k false ≡ true → (i : ℕ) × (slice_get (puts_at n (chosen table row)) i ≡ Some (put_at n p))
chosen_in n [] row k p e on = absurd (none-some p e)
chosen_in n (q ∷ table) [] k p e on = absurd (false≢true (sym (empty k) ∙ on))
  where
    empty : (j : ℕ) → get_or [] j false ≡ false
    empty zero = refl
    empty (suc j) = refl
chosen_in n (q ∷ table) (true ∷ row) zero p e on = (0, ap (λ (r : Pattern). Some (put_at n r)) (same_Some q p e))
chosen_in n (q ∷ table) (true ∷ row) (suc k) p e on = let rest = chosen_in n table row k p e on in (suc rest.0, rest.1)
chosen_in n (q ∷ table) (false ∷ row) zero p e on = absurd (false≢true on)
chosen_in n (q ∷ table) (false ∷ row) (suc k) p e on = chosen_in n table row k p e on

-- ---- at the end of a block

module _ (over : OverBlocks) (are : IsBlocks over.graph.now.nodes (lists_of over)) (into leaves : List (List Bool)) (block : ℕ) (list : List ℕ) (last : ℕ) (node : Node) (is_block : slice_get (lists_of over) block ≡ Some list) (ends : Ends last list) (is : slice_get over.graph.now.nodes last ≡ Some node) (begun now : List PutBefore)
    (puts : ArePutAtEndsOver over into leaves block begun now) where
  -- what is put at the end of the block is put before that node
  last_is : (n : ℕ) (other : List ℕ) → slice_get (lists_of over) block ≡ Some other → Ends n other → n ≡ last
  last_is n other listed ends_n =
      let same = same_Some list other (sym is_block ∙ listed) in
      let there : Ends n list = subst (Ends n) (sym same) ends_n in
      sym (same_Some last n (sym (end_stands list last ends) ∙ end_stands list n there))

  -- where it is no Skip nothing is
  pub ends_none : skip_to node ≡ None → ArePutAtEndsOver over into leaves (suc block) begun now
  ends_none none = record {
    grows = puts.grows;
    only = puts.only;
    all = λ b n p lt e. elim (cases_eq b block) [
      | inl same ↦
          let n_is = last_is n e.list (ap (slice_get (lists_of over)) (sym same) ∙ e.is_block) e.ends in
          absurd (skip_none node e.next none (same_Some node (Skip e.next) (sym is ∙ ap (slice_get over.graph.now.nodes) (sym n_is) ∙ e.skips)))
      | inr differ ↦ puts.all b n p (omega (arith, lt, differ)) e
    ];
  }

  -- and else what leaves the block and does not come into the next
  pub ends_more : (next after : ℕ) (gone : List Bool) (more : List PutBefore) → HaveShapeOver over into → HaveShapeOver over leaves → skip_to node ≡ Some next → StandsIn (lists_of over) after next → gone ≡ minus_bits (row_of leaves block) (row_of into after)
      → more ≡ now ++ puts_at last (chosen over.table.now gone) → ArePutAtEndsOver over into leaves (suc block) begun more
  ends_more next after gone more into_shape leaves_shape some enters gone_is more_is = record {
    grows = λ put c. grown put (puts.grows put c);
    only = λ i put e. elim (get_append now added i put (ap (λ l. slice_get l i) (sym more_is) ∙ e)) [
      | inl was ↦ puts.only i put was
      | inr new ↦
          let has = chosen_has last over.table.now gone new.0 put new.2 in
          let parts = and_parts (has_bit leaves has.0 block) (not (has_bit into has.0 after)) (sym (bit_is has.0) ∙ has.3) in
          let at : put.node ≡ last = ap (λ (q : PutBefore). q.node) has.4 in
          inr (
            block,
            has.1,
            record {
              list = list;
              number = has.0;
              next = next;
              after = after;
              is_block = is_block;
              ends = subst (λ m. Ends m list) (sym at) ends;
              skips = ap (slice_get over.graph.now.nodes) at ∙ skips;
              enters = enters;
              numbered = has.2;
              leaves_it = parts.0;
              lost = not-true (has_bit into has.0 after) parts.1;
            },
            has.4 ∙ ap (λ m. put_at m has.1) (sym at),
          )
    ];
    all = λ b n p lt e. elim (cases_eq b block) [
      | inl same ↦
          let n_is = last_is n e.list (ap (slice_get (lists_of over)) (sym same) ∙ e.is_block) e.ends in
          let node_is : Skip next ≡ Skip e.next = same_Some (Skip next) (Skip e.next) (sym skips ∙ ap (slice_get over.graph.now.nodes) (sym n_is) ∙ e.skips) in
          let next_is : next ≡ e.next = cc in
          let after_is = one_block over.graph.now.nodes (lists_of over) after e.after next are enters (subst (StandsIn (lists_of over) e.after) (sym next_is) e.enters) in
          let on = bit_is e.number ∙ and_from (has_bit leaves e.number block) (not (has_bit into e.number after)) (ap (has_bit leaves e.number) (sym same) ∙ e.leaves_it) (ap not (ap (has_bit into e.number) after_is ∙ e.lost)) in
          let there = chosen_in last over.table.now gone e.number p e.numbered on in
          subst (λ m. Contains more (put_at m p)) (sym n_is) (subst (λ l. Contains l (put_at last p)) (sym more_is) (Contains-append_right now added (put_at last p) (contained_at added (put_at last p) there.0 there.1)))
      | inr differ ↦ grown (put_at n p) (puts.all b n p (omega (arith, lt, differ)) e)
    ];
  }
    where
      added : List PutBefore
      added = puts_at last (chosen over.table.now gone)

      grown : (put : PutBefore) → Contains now put → Contains more put
      grown put c = subst (λ l. Contains l put) (sym more_is) (Contains-append_left now added put c)

      skips : slice_get over.graph.now.nodes last ≡ Some (Skip next)
      skips = is ∙ ap Some (skip_some node next some)

      bit_is : (k : ℕ) → get_or gone k false ≡ (has_bit leaves k block && not (has_bit into k after))
      bit_is k =
          ap (λ (r : List Bool). get_or r k false) gone_is
          ∙ minus_bit (row_of leaves block) (row_of into after) k (leaves_shape.each block (slice_get_within (lists_of over) block list is_block) ∙ sym (into_shape.each after (slice_get_within (lists_of over) after enters.list enters.listed)))
