-- Laws of passes that keep each dividing assignment: one after the other, with old nodes in their places, and where
-- nodes that are not reached are dropped. For proofs only, of the passes and of what chains them.
use Rattle.std.proofs.Common.{◌≡◌, ℕ, true, List, slice_get, Some, option_map, ap, ◌∙◌}
use Rattle.std.proofs.lemmas.Option.{slice_get-map, slice_get_within}
use Rattle.mir_base.specs.declared.instructions.Operand.{Operand}
use Rattle.mir_base.specs.declared.instructions.Rhs.TheVariants.{Binary}
use Rattle.mir_base.specs.declared.operators.Op.{Op}
use Rattle.mir_base.specs.Expressions.{divides}
use Rattle.flow_graph.specs.declared.nodes.Node.{Node}
use Rattle.flow_graph.specs.declared.nodes.Node.TheVariants.{Assign}
use Rattle.flow_graph.specs.Dividing.{DividesAt, DividesOf, DividesStay, DividesUnchanged}
use Rattle.flow_graph.specs.Graphs.{Reached}
use Rattle.flow_graph.specs.Retained.{AreRetained, marked, marked_below, redirected}
use Rattle.flow_graph.specs.RetainedLaws.{at_rank, rank_below}

-- where each is unchanged, each stays
pub unchanged_stay : (nodes result : List Node) → DividesUnchanged nodes result → DividesStay nodes result
unchanged_stay nodes result p = record {
  place = p.place;
  stays = λ n x op at. record { left = at.left; right = at.right; of = p.stays n x op at.left at.right at.of };
  in_order = p.in_order;
}

-- divisions that stay through a pass, and through the next one, stay through both
pub stay_trans : (a b c : List Node) → DividesStay a b → DividesStay b c → DividesStay a c
stay_trans a b c p q = record {
  place = λ n. q.place (p.place n);
  stays = λ n x op at. q.stays (p.place n) x op (p.stays n x op at);
  in_order = λ n m x y op other at at' lt. q.in_order (p.place n) (p.place m) x y op other (p.stays n x op at) (p.stays m y other at') (p.in_order n m x y op other at at' lt);
}

-- and where neither pass changes one, both together do not
pub unchanged_trans : (a b c : List Node) → DividesUnchanged a b → DividesUnchanged b c → DividesUnchanged a c
unfolding stay_trans unchanged_stay
unchanged_trans a b c p q = record {
  place = λ n. q.place (p.place n);
  stays = λ n x op left right of. q.stays (p.place n) x op left right (p.stays n x op left right of);
  in_order = (stay_trans a b c (unchanged_stay a b p) (unchanged_stay b c q)).in_order;
}

-- dividing nodes that stay in their places, where only their successors change
pub unchanged_in_place : (nodes result : List Node)
    → ((n x : ℕ) (op : Op) (left right : Operand) (next : ℕ) → divides (Binary op left right) ≡ true → slice_get nodes n ≡ Some (Assign x (Binary op left right) next) → (after : ℕ) × (slice_get result n ≡ Some (Assign x (Binary op left right) after)))
    → DividesUnchanged nodes result
unchanged_in_place nodes result same = record {
  place = λ n. n;
  stays = λ n x op left right of.
      let there = same n x op left right of.next of.may_trap of.is in
      record { next = there.0; is = there.1; may_trap = of.may_trap };
  in_order = λ n m x y op other at at' lt. lt;
}

-- where each of them is reached, none is dropped
module _ (raw nodes : List Node) (retained : AreRetained raw nodes) (reached : (n x : ℕ) (op : Op) → DividesAt raw n x op → Reached raw n) where
  is_marked : (n x : ℕ) (op : Op) → DividesAt raw n x op → slice_get retained.marks n ≡ Some true
  is_marked n x op at = (retained.are_marks.exact n (slice_get_within raw n _ at.of.is)).1 (reached n x op at)

  stands : (n x : ℕ) (op : Op) (left right : Operand) → DividesOf raw n x op left right → DividesOf nodes (marked_below retained.marks n) x op left right
  stands n x op left right of = record {
    next = marked_below retained.marks of.next;
    is = ap (λ l. slice_get l (marked_below retained.marks n)) retained.are ∙ slice_get-map (redirected (marked_below retained.marks)) (marked retained.marks raw) (marked_below retained.marks n)
        ∙ ap (option_map (redirected (marked_below retained.marks))) (at_rank retained.marks raw n (is_marked n x op (record { left = left; right = right; of = of })) retained.are_marks.long ∙ of.is);
    may_trap = of.may_trap;
  }

  pub retained_unchanged : DividesUnchanged raw nodes
  retained_unchanged = record {
    place = marked_below retained.marks;
    stays = stands;
    in_order = λ n m x y op other at at' lt. rank_below retained.marks n m (is_marked n x op at) lt;
  }
