-- Before which nodes patterns are inserted: where they are blocked, and edge by edge.
use Rattle.std.proofs.Common.{◌≡◌, ◌+◌, ◌<◌, ◌≤◌, ◌||◌, ◌&&◌, not, ℕ, Bool, true, false, List, [], ◌∷◌, ◌++◌, length, get_or, replicate, set, slice_get, Some, inl, inr, refl, sym, ap, ◌∙◌, subst, arith}
use Rattle.std.proofs.Math.Bool.{and-false}
use Rattle.std.proofs.lemmas.List.{length-replicate}
use Rattle.std.proofs.lemmas.Bool.{and_from, and_parts, cases_Bool, cases_eq, or_cases, or_left, or_right}
use Rattle.std.proofs.lemmas.Option.{same_Some, slice_get_within}
use Rattle.bit_rows.specs.BitLaws.{and_bit, length_and, length_minus, length_or, minus_bit, or_bit}
use Rattle.bit_rows.specs.Bits.{and_bits, minus_bits, or_bits, row_of, with_row_by}
use Rattle.flow_graph.specs.declared.edges.Edge.{Edge}
use Rattle.flow_graph.specs.BlockLaws.{first_is, not_first, only_from}
use Rattle.flow_graph.specs.Blocks.{IsFirst, IsGlued, is_first}
use Rattle.flow_graph.specs.EdgeLaws.{edge_is, edge_number}
use Rattle.flow_graph.specs.Edges.{first_leaving}
use Rattle.flow_graph.specs.Graphs.{IsGraph}
use Rattle.flow_graph.specs.Paths.{HasEdge}
use Rattle.path_laws.specs.FalseRows.{false_bit}
use Rattle.path_laws.specs.Paths.{AreRows, has_bit}
use Rattle.path_laws.specs.RowLaws.{Written, put, written_shape}
use Rattle.path_laws.specs.Pushing.{pushed_before, pushed_last, pushed_shape}
use Rattle.path_laws.specs.Says.{both_say, not_says, off_says}
use Rattle.sink_code.specs.declared.over.OverBlocks.{OverBlocks}
use Rattle.sink_code.specs.declared.patterns.Pattern.{Pattern}
use Rattle.graph_edit.specs.Accesses.{blocks_at}
use Rattle.sink_code.specs.Along.{AreBlockedIn, AreDelayedIn, AreInsertedIn}
use Rattle.sink_code.specs.Delaying.{IsDelayedTo, IsInsertedAt}
use Rattle.sink_code.specs.Ends.{AreBothTo, AreEndedTo}
use Rattle.sink_code.specs.Over.{IsOverBlocks}
use Rattle.sink_code.proofs.Carried.{glued_on}
use Rattle.sink_code.specs.DelayLaws.{source_within, target_within}

-- one more node: its row of what is delayed is put at the end, and keeps what is blocked there
pub both_more : (over : OverBlocks) (blocked delayed : List (List Bool)) → AreBlockedIn over blocked → AreDelayedIn over delayed → (n : ℕ) (rows pushed new : List (List Bool)) → n < length over.graph.now.nodes → AreBothTo over blocked delayed n rows
    → pushed ≡ rows ++ row_of delayed n ∷ [] → new ≡ with_row_by and_bits pushed n blocked n → AreBothTo over blocked delayed (n + 1) new
both_more over blocked delayed blocked_are told n rows pushed new n_in before push_is is = record {
  shape = written_shape (n + 1) (length over.table.now) n pushed new (and_bits (row_of pushed n) (row_of blocked n)) shape made (length_and (row_of pushed n) (row_of blocked n) equal ∙ long);
  bits = λ m k p lt numbered. elim (cases_eq m n) as (λ _. has_bit new k m ≡ (has_bit delayed k m && has_bit blocked k m)) [
    | inl same ↦ rw same (ap (λ (r : List Bool). get_or r k false) made.here ∙ and_bit (row_of pushed n) (row_of blocked n) k equal ∙ ap (λ (r : List Bool). get_or r k false && has_bit blocked k n) last)
    | inr apart ↦
        let early : m < n = omega (arith, lt, apart) in
        ap (λ (r : List Bool). get_or r k false) (made.others m apart ∙ pushed_before n (length over.table.now) rows pushed (row_of delayed n) before.shape push_is m early) ∙ before.bits m k p early numbered
  ];
}
  where
    shape : AreRows (n + 1) (length over.table.now) pushed
    shape = pushed_shape n (length over.table.now) rows pushed (row_of delayed n) before.shape push_is (told.shape.each n n_in)

    last : row_of pushed n ≡ row_of delayed n
    last = pushed_last n (length over.table.now) rows pushed (row_of delayed n) before.shape push_is

    long : length (row_of pushed n) ≡ length over.table.now
    long = shape.each n (omega arith)

    equal : length (row_of pushed n) ≡ length (row_of blocked n)
    equal = long ∙ sym (blocked_are.shape.each n n_in)

    made : Written pushed new n (and_bits (row_of pushed n) (row_of blocked n))
    made = put pushed new n (and_bits (row_of pushed n) (row_of blocked n)) (rw shape.len (omega arith)) is

-- a node that blocks nothing has a row of false bits
pub both_none : (over : OverBlocks) (blocked delayed : List (List Bool)) → AreBlockedIn over blocked → (n : ℕ) (rows new : List (List Bool)) → n < length over.graph.now.nodes → ((p : Pattern) → blocks_at p.var p.rhs over.graph.now n ≡ false)
    → AreBothTo over blocked delayed n rows → new ≡ rows ++ replicate (length over.table.now) false ∷ [] → AreBothTo over blocked delayed (n + 1) new
both_none over blocked delayed blocked_are n rows new n_in free before is = record {
  shape = pushed_shape n (length over.table.now) rows new (replicate (length over.table.now) false) before.shape is (length-replicate (length over.table.now) false);
  bits = λ m k p lt numbered. elim (cases_eq m n) as (λ _. has_bit new k m ≡ (has_bit delayed k m && has_bit blocked k m)) [
    | inl same ↦ rw same (
        ap (λ (r : List Bool). get_or r k false) (pushed_last n (length over.table.now) rows new (replicate (length over.table.now) false) before.shape is) ∙ false_bit (length over.table.now) k
        ∙ sym (ap (λ b. has_bit delayed k n && b) (blocked_are.bits n k p n_in numbered ∙ free p) ∙ and-false (has_bit delayed k n)))
    | inr apart ↦
        let early : m < n = omega (arith, lt, apart) in
        ap (λ (r : List Bool). get_or r k false) (pushed_before n (length over.table.now) rows new (replicate (length over.table.now) false) before.shape is m early) ∙ before.bits m k p early numbered
  ];
}

module _ (over : OverBlocks) (is_graph : IsGraph over.graph.now.vars over.graph.now.received over.graph.now.nodes) (are : IsOverBlocks over) (delayed : List (List Bool)) (told : AreDelayedIn over delayed) where
  -- an edge of this number leads from its source to its target
  pub edge_leads : (number : ℕ) (edge : Edge) → slice_get over.edges.now.edges number ≡ Some edge → HasEdge over.graph.now.nodes edge.source edge.target
  edge_leads number edge at = edge_is over.graph.now.nodes number edge (ap (λ e. slice_get e.edges number) (sym are.edges) ∙ at)

  pub source_in : (number : ℕ) (edge : Edge) → slice_get over.edges.now.edges number ≡ Some edge → edge.source < length over.graph.now.nodes
  source_in number edge at = source_within over.graph.now is_graph edge.source edge.target (edge_leads number edge at)

  pub target_in : (number : ℕ) (edge : Edge) → slice_get over.edges.now.edges number ≡ Some edge → edge.target < length over.graph.now.nodes
  target_in number edge at = target_within over.graph.now is_graph edge.source edge.target (edge_leads number edge at)

  -- before any edge, what both rows have is inserted
  pub ended_none : (blocked rows : List (List Bool)) → AreBlockedIn over blocked → AreBothTo over blocked delayed (length over.graph.now.nodes) rows → AreEndedTo over 0 rows
  ended_none blocked rows blocked_are both = record {
    shape = both.shape;
    only = λ n k p n_in numbered on. let parts = and_parts (has_bit delayed k n) (has_bit blocked k n) (sym (both.bits n k p n_in numbered) ∙ on) in (
      (told.bits n k p n_in numbered).0 parts.0,
      inl (sym (blocked_are.bits n k p n_in numbered) ∙ parts.1),
    );
    blocked = λ n k p n_in numbered d stops. both.bits n k p n_in numbered ∙ and_from (has_bit delayed k n) (has_bit blocked k n) ((told.bits n k p n_in numbered).1 d) (blocked_are.bits n k p n_in numbered ∙ stops);
    ended = λ number k p edge lt numbered at first d lost. absurd (omega (arith, lt));
  }

  module _ (number : ℕ) (edge : Edge) (at : slice_get over.edges.now.edges number ≡ Some edge) (rows : List (List Bool)) (before : AreEndedTo over number rows) where
    -- an edge of this number is this one
    same_edge : (k : ℕ) (other : Edge) → k ≡ number → slice_get over.edges.now.edges k ≡ Some other → edge ≡ other
    same_edge k other same other_at = same_Some edge other (sym at ∙ ap (slice_get over.edges.now.edges) (sym same) ∙ other_at)

    -- an edge inside a block adds nothing
    pub ended_inside : (IsFirst over.graph.now.nodes edge.target → ⊥) → AreEndedTo over (number + 1) rows
    ended_inside inside = record {
      shape = before.shape;
      only = before.only;
      blocked = before.blocked;
      ended = λ k b p other lt numbered other_at first d lost. elim (cases_eq k number) as (λ _. has_bit rows b other.source ≡ true) [
        | inl same ↦ absurd (inside (subst (λ (e : Edge). IsFirst over.graph.now.nodes e.target) (sym (same_edge k other same other_at)) first))
        | inr apart ↦ before.ended k b p other (omega (arith, lt, apart)) numbered other_at first d lost
      ];
    }

    module _ (more : List (List Bool)) (is : more ≡ set rows edge.source (or_bits (row_of rows edge.source) (minus_bits (row_of delayed edge.source) (row_of delayed edge.target)))) where
      source_below : edge.source < length over.graph.now.nodes
      source_below = source_in number edge at

      target_below : edge.target < length over.graph.now.nodes
      target_below = target_in number edge at

      abbrev gone : List Bool
      gone = minus_bits (row_of delayed edge.source) (row_of delayed edge.target)

      equal : length (row_of delayed edge.source) ≡ length (row_of delayed edge.target)
      equal = told.shape.each edge.source source_below ∙ sym (told.shape.each edge.target target_below)

      alike : length (row_of rows edge.source) ≡ length gone
      alike = before.shape.each edge.source source_below ∙ sym (length_minus (row_of delayed edge.source) (row_of delayed edge.target) equal ∙ told.shape.each edge.source source_below)

      made : Written rows more edge.source (or_bits (row_of rows edge.source) gone)
      made = put rows more edge.source (or_bits (row_of rows edge.source) gone) (rw before.shape.len source_below) is

      bit : (k : ℕ) → has_bit more k edge.source ≡ (has_bit rows k edge.source || (has_bit delayed k edge.source && not (has_bit delayed k edge.target)))
      bit k = ap (λ (r : List Bool). get_or r k false) made.here ∙ or_bit (row_of rows edge.source) gone k alike ∙ ap (λ (x : Bool). has_bit rows k edge.source || x) (minus_bit (row_of delayed edge.source) (row_of delayed edge.target) k equal)

      other_bit : (n k : ℕ) → (n ≡ edge.source → ⊥) → has_bit more k n ≡ has_bit rows k n
      other_bit n k apart = ap (λ (r : List Bool). get_or r k false) (made.others n apart)

      -- a bit that was set stays so
      stays : (n k : ℕ) → has_bit rows k n ≡ true → has_bit more k n ≡ true
      stays n k on = elim (cases_eq n edge.source) as (λ _. has_bit more k n ≡ true) [
        | inl same ↦ ap (has_bit more k) same ∙ bit k ∙ or_left (has_bit rows k edge.source) (has_bit delayed k edge.source && not (has_bit delayed k edge.target)) (ap (has_bit rows k) (sym same) ∙ on)
        | inr apart ↦ other_bit n k apart ∙ on
      ]

      -- what is delayed at the source and not at the target is inserted at the source
      lost_there : (k : ℕ) (p : Pattern) → slice_get over.table.now k ≡ Some p → (has_bit delayed k edge.source && not (has_bit delayed k edge.target)) ≡ true → IsInsertedAt over.graph.now p.var p.rhs edge.source
      lost_there k p numbered both =
          let parts = (both_say (has_bit delayed k edge.source) (not (has_bit delayed k edge.target))).0 both in
          let off = (not_says (has_bit delayed k edge.target)).0 parts.1 in (
            (told.bits edge.source k p source_below numbered).0 parts.0,
            inr (edge.target, edge_leads number edge at, λ d. (off_says (has_bit delayed k edge.target)).0 off ((told.bits edge.target k p target_below numbered).1 d)),
          )

      -- one edge more
      pub ended_more : AreEndedTo over (number + 1) more
      ended_more = record {
        shape = written_shape (length over.graph.now.nodes) (length over.table.now) edge.source rows more (or_bits (row_of rows edge.source) gone) before.shape made (length_or (row_of rows edge.source) gone alike ∙ before.shape.each edge.source source_below);
        only = λ n k p n_in numbered on. elim (cases_eq n edge.source) as (λ _. IsInsertedAt over.graph.now p.var p.rhs n) [
          | inl same ↦ subst (IsInsertedAt over.graph.now p.var p.rhs) (sym same) (elim (or_cases (has_bit rows k edge.source) (has_bit delayed k edge.source && not (has_bit delayed k edge.target)) (sym (bit k) ∙ ap (has_bit more k) (sym same) ∙ on)) as (λ _. IsInsertedAt over.graph.now p.var p.rhs edge.source) [
            | inl was ↦ before.only edge.source k p source_below numbered was
            | inr lost ↦ lost_there k p numbered lost
          ])
          | inr apart ↦ before.only n k p n_in numbered (sym (other_bit n k apart) ∙ on)
        ];
        blocked = λ n k p n_in numbered d stops. stays n k (before.blocked n k p n_in numbered d stops);
        ended = λ j k p other lt numbered other_at first d lost. elim (cases_eq j number) as (λ _. has_bit more k other.source ≡ true) [
          | inl same ↦
              let is_edge = same_edge j other same other_at in
              let there = subst (λ (e : Edge). IsDelayedTo over.graph.now p.var p.rhs e.source) (sym is_edge) d in
              let gone_there = subst (λ (e : Edge). IsDelayedTo over.graph.now p.var p.rhs e.target → ⊥) (sym is_edge) lost in
              ap (λ (e : Edge). has_bit more k e.source) (sym is_edge) ∙ bit k
              ∙ or_right (has_bit rows k edge.source) (has_bit delayed k edge.source && not (has_bit delayed k edge.target))
              ((both_say (has_bit delayed k edge.source) (not (has_bit delayed k edge.target))).1 (
                (told.bits edge.source k p source_below numbered).1 there,
                (not_says (has_bit delayed k edge.target)).1 ((off_says (has_bit delayed k edge.target)).1 (λ on. gone_there ((told.bits edge.target k p target_below numbered).0 on))),
              ))
          | inr apart ↦ stays other.source k (before.ended j k p other (omega (arith, lt, apart)) numbered other_at first d lost)
        ];
      }

  -- once all edges have come the rows tell what is inserted
  pub ended_all : (count : ℕ) (rows : List (List Bool)) → length over.edges.now.edges ≤ count → AreEndedTo over count rows → AreInsertedIn over rows
  ended_all count rows late all = record {
    shape = all.shape;
    bits = λ n k p n_in numbered. (
      all.only n k p n_in numbered,
      λ inserted. elim inserted.1 as (λ _. has_bit rows k n ≡ true) [
        | inl stops ↦ all.blocked n k p n_in numbered inserted.0 stops
        | inr lost ↦ (by n k p n_in numbered inserted.0 lost.0 lost.1 lost.2 (is_first over.graph.now.nodes lost.0) refl)
      ],
    );
  }
    where
      by : (n k : ℕ) (p : Pattern) → n < length over.graph.now.nodes → slice_get over.table.now k ≡ Some p → IsDelayedTo over.graph.now p.var p.rhs n → (s : ℕ) → HasEdge over.graph.now.nodes n s → (IsDelayedTo over.graph.now p.var p.rhs s → ⊥) → (first : Bool) → is_first over.graph.now.nodes s ≡ first → has_bit rows k n ≡ true
      by n k p n_in numbered d s edge lost true first =
          let number = first_leaving n over.edges.now.edges + edge.0 in
          let in_edges = ap (λ e. slice_get e.edges (first_leaving n e.edges + edge.0)) are.edges ∙ edge_number over.graph.now.nodes n edge.0 s edge.1 in
          let within = slice_get_within over.edges.now.edges number (record { source = n; target = s }) in_edges in
          all.ended number k p (record { source = n; target = s }) (omega (arith, within, late)) numbered in_edges (first_is over.graph.now.nodes s first) d lost
      by n k p n_in numbered d s edge lost false inner =
          let glued = not_first over.graph.now.nodes s inner in
          let same : n ≡ glued.0 = only_from over.graph.now.nodes glued.0 s n glued.1.enters edge in
          let on : IsGlued over.graph.now.nodes n s = subst (λ m. IsGlued over.graph.now.nodes m s) (sym same) glued.1 in
          elim (cases_Bool (blocks_at p.var p.rhs over.graph.now n)) as (λ _. has_bit rows k n ≡ true) [
            | inl stops ↦ all.blocked n k p n_in numbered d stops
            | inr free ↦ absurd (lost (glued_on over.graph.now is_graph p.var p.rhs n s on free d))
          ]
