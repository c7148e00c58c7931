-- What a path call hands on, and the shape of what it gets back.
use Rattle.std.proofs.Common.{◌≡◌, ℕ, ◌+◌, ◌*◌, ◌<◌, ◌≤◌, Bool, List, [], ◌∷◌, length, inl, inr, refl, sym, ap, subst, arith, ◌∙◌}
use Rattle.std.proofs.lemmas.Bool.{cases_lt}
use Rattle.std.proofs.Math.Nat.{mul-le-mul_right}
use Rattle.flow_graph.specs.declared.edges.Edge.{Edge}
use Rattle.path_laws.specs.Crossings.{crossings}
use Rattle.bit_rows.specs.Bits.{AreEquallyLong}
use Rattle.flow_graph.specs.declared.nodes.Node.{Node}
use Rattle.flow_graph.specs.Blocks.{AreBlocksOf, BlocksShape}
use Rattle.flow_graph.specs.Edges.{EdgesShape, edges_from, edges_of}
use Rattle.flow_graph.specs.Graphs.{AllWithin}
use Rattle.path_laws.specs.Paths.{AreRows, width}
use Rattle.path_laws.specs.RowLaws.{rows_as_many, as_wide, width_is}
use Rattle.path_laws.specs.Seeds.{IsPathProblem}

module _ (nodes : List Node) (bits : ℕ) (born : List (List Bool)) (born_are : AreRows (length nodes) (width born) born) (even : AreEquallyLong bits born) where
  pub born_long : AreRows (length nodes) bits born
  born_long = record { len = born_are.len; each = λ n h. even.each n (rw born_are.len h) }

  pub in_width : (n b : ℕ) → n < length nodes → b < width born → b < bits
  in_width n b h l = subst (λ k. b < k) (width_is (length nodes) bits n born born_long h) l

  pub as_born : (rows : List (List Bool)) → AreRows (length nodes) bits rows → AreRows (length nodes) (width born) rows
  as_born rows are = as_wide (length nodes) bits born rows born_long are

  pub stop_long : (stop : List (List Bool)) → AreRows (length nodes) (width born) stop → AreRows (length nodes) bits stop
  stop_long stop are = rows_as_many (length nodes) bits born stop born_long are

  pub problem : (edges : EdgesShape) (blocks : BlocksShape) (stop : List (List Bool)) → AllWithin nodes → edges ≡ edges_of nodes → AreBlocksOf nodes blocks → AreRows (length nodes) (width born) stop → IsPathProblem nodes edges blocks bits born stop
  problem edges blocks stop within edges_are blocks_are stop_are = record {
    flow = record { within = within; edges_are = edges_are; born_rows = born_long; stop_rows = stop_long stop stop_are };
    blocks_are = blocks_are;
  }

  pub pushes_born : (lists : List (List ℕ)) (edges : EdgesShape) (old new : ℕ) → edges ≡ edges_of nodes → new ≤ old + crossings lists edges.edges * (bits + 1) → new ≤ old + crossings lists edges.edges * (width born + 1)
  pushes_born lists edges old new edges_are few = elim (cases_lt 0 (length nodes)) as (λ _. new ≤ old + crossings lists edges.edges * (width born + 1)) [
    | inl some ↦ subst (λ k. new ≤ old + crossings lists edges.edges * (k + 1)) (sym (width_is (length nodes) bits 0 born born_long some)) few
    | inr none ↦
        let no_edges : edges.edges ≡ [] = ap (λ (e : EdgesShape). e.edges) edges_are ∙ empty nodes none in
        let same : new ≤ old = nothing (subst (λ (es : List Edge). new ≤ old + crossings lists es * (bits + 1)) no_edges few) in
        omega (arith, same)
  ]
    where
      nothing : new ≤ old + 0 * (bits + 1) → new ≤ old
      nothing h = omega (arith, h)

      empty : (ns : List Node) → length ns ≤ 0 → edges_from 0 ns ≡ []
      empty [] h = refl
      empty (n ∷ ns) h = absurd (omega (arith, h))

-- the edges between blocks are no more than those that cross
pub pushes_few : (old new edges most bits : ℕ) → new ≤ old + edges * (bits + 1) → edges ≤ most → new ≤ old + most * (bits + 1)
pushes_few old new edges most bits few le = add_le new old (edges * (bits + 1)) (most * (bits + 1)) few (mul-le-mul_right (bits + 1) le)
  where
    add_le : (n o a b : ℕ) → n ≤ o + a → a ≤ b → n ≤ o + b
    add_le n o a b l h = omega (arith, l, h)
