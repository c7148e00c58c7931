-- What the nodes of a block block is joined to its row, one node after the other.
use Rattle.std.proofs.Common.{◌≡◌, ◌≢◌, ℕ, zero, suc, ◌+◌, ◌<◌, ◌≤◌, ◌||◌, Bool, true, false, List, [], ◌∷◌, ◌++◌, take, length, get_or, replicate, slice_get, Some, refl, sym, ap, inl, inr, ◌∙◌, subst, arith}
use Rattle.std.proofs.Math.Bool.{or-false, or_assoc}
use Rattle.std.proofs.lemmas.Bool.{cases_eq, or_left}
use Rattle.std.proofs.lemmas.List.{get_or-replicate, length-replicate, take_all}
use Rattle.std.proofs.lemmas.List.Folds.{list_any-append}
use Rattle.std.proofs.lemmas.Option.{same_Some, slice_get_within}
use Rattle.std.specs.List.{list_any}
use Rattle.bit_rows.specs.Bits.{row_of}
use Rattle.flow_graph.specs.declared.nodes.Node.{Node}
use Rattle.flow_graph.specs.declared.nodes.Node.TheVariants.{Start, Skip, Assign, Print, Guard, Call, Test, Return}
use Rattle.flow_graph.specs.Blocks.{IsBlocks}
use Rattle.flow_graph.specs.Graphs.{GraphShape, IsGraph, is_start, node_vars}
use Rattle.flow_graph.specs.ListLaws.{take_next}
use Rattle.mir_base.specs.Shapes.{AllBelow}
use Rattle.path_laws.specs.FalseRows.{false_bit}
use Rattle.path_laws.specs.Paths.{AreRows, has_bit}
use Rattle.path_laws.specs.Pushing.{pushed_before, pushed_last, pushed_shape}
use Rattle.sink_code.specs.declared.patterns.Pattern.{Pattern}
use Rattle.sink_code.specs.declared.pattern_rows.ByVariable.{ByVariable}
use Rattle.graph_edit.specs.Accesses.{blocks_at, blocks_pattern, assigns_of}
use Rattle.sink_code.specs.BlockRows.{AreRowsTo, IsApartFromStart, is_blocked_in}
use Rattle.sink_code.specs.PatternRows.{AreVariableRows, JoinsBlocked, joined_at, reads_in, row_joined}
use Rattle.sink_code.proofs.BlockedLong.{assigns_below, reads_below}
use Rattle.sink_code.proofs.FoundAll.{inner_apart}
use Rattle.sink_code.proofs.JoinedLast.{blocked_joined, joined_here, joined_len, joined_others}
use Rattle.sink_code.proofs.PatternBits.{blocked_bit, joined_bit, joined_long}

-- the row of the block tells what is blocked by its nodes before this index, and the others what is in their blocks
pub record IsJoinedTo (graph : GraphShape) (lists : List (List ℕ)) (table : List Pattern) (block : ℕ) (list : List ℕ) (index : ℕ) (rows : List (List Bool)) : Type 0 where
  pub shape : AreRows (block + 1) (length table) rows
  pub before : (b k : ℕ) (other : List ℕ) (p : Pattern) → b < block → slice_get lists b ≡ Some other → slice_get table k ≡ Some p → has_bit rows k b ≡ is_blocked_in graph p other
  pub here : (k : ℕ) (p : Pattern) → slice_get table k ≡ Some p → has_bit rows k block ≡ list_any (blocks_at p.var p.rhs graph) (take index list)

module _ (graph : GraphShape) (is_graph : IsGraph graph.vars graph.received graph.nodes) where
  -- a node other than node 0 is not Start
  pub not_start : (n : ℕ) (node : Node) → slice_get graph.nodes n ≡ Some node → n ≢ 0 → is_start node ≡ false
  not_start n (Start next) at apart = absurd (apart (is_graph.can.only n next at))
  not_start n (Skip next) at apart = refl
  not_start n (Assign x rhs next) at apart = refl
  not_start n (Print a next) at apart = refl
  not_start n (Guard test number next) at apart = refl
  not_start n (Call into unit operands next) at apart = refl
  not_start n (Test test taken other) at apart = refl
  not_start n (Return a) at apart = refl

  -- a block that does not begin with Start does not have it
  pub apart_from_start : (lists : List (List ℕ)) (block : ℕ) (list : List ℕ) → IsBlocks graph.nodes lists → slice_get lists block ≡ Some list → get_or list 0 0 ≢ 0 → IsApartFromStart lists block
  apart_from_start lists block list are listed apart i n other listed_other at zero_is = by i at
    where
      same : other ≡ list
      same = same_Some other list (sym listed_other ∙ listed)

      first : (l : List ℕ) → slice_get l 0 ≡ Some n → get_or l 0 0 ≡ 0
      first [] e = cc
      first (k ∷ l) e = let is : k ≡ n = cc in is ∙ zero_is

      by : (i : ℕ) → slice_get other i ≡ Some n → ⊥
      by zero e = apart (first list (subst (λ l. slice_get l 0 ≡ Some n) same e))
      by (suc i) e = inner_apart graph is_graph other (are.blocks block other listed_other).chain (suc i) n (omega arith) e zero_is

  -- Start blocks each pattern
  pub start_blocks : (p : Pattern) → blocks_at p.var p.rhs graph 0 ≡ true
  start_blocks p = ap (blocks_pattern graph p.var p.rhs) is_graph.can.start.1

  -- so each is blocked in a block that begins with it
  pub blocked_with_start : (p : Pattern) (list : List ℕ) → 0 < length list → get_or list 0 0 ≡ 0 → is_blocked_in graph p list ≡ true
  blocked_with_start p [] some is = absurd (omega (arith, some))
  blocked_with_start p (n ∷ list) some is = or_left (blocks_at p.var p.rhs graph n) (list_any (blocks_at p.var p.rhs graph) list) (ap (blocks_at p.var p.rhs graph) is ∙ start_blocks p)

  module _ (lists : List (List ℕ)) (table : List Pattern) (block : ℕ) where
    -- the row of Start's block is put at the end
    pub start_row : (list : List ℕ) (rows new : List (List Bool)) → slice_get lists block ≡ Some list → 0 < length list → get_or list 0 0 ≡ 0 → AreRowsTo block lists table (is_blocked_in graph) rows → new ≡ rows ++ replicate (length table) true ∷ []
        → AreRowsTo (block + 1) lists table (is_blocked_in graph) new
    start_row list rows new listed some first are is = record {
      shape = pushed_shape block (length table) rows new (replicate (length table) true) are.shape is (length-replicate (length table) true);
      are = λ b k other p h e numbered. elim (cases_eq b block) as (λ _. has_bit new k b ≡ is_blocked_in graph p other) [
        | inl same ↦
            let both : Some list ≡ Some other = sym listed ∙ ap (slice_get lists) (sym same) ∙ e in
            let one : list ≡ other = cc in
            ap (λ c. has_bit new k c) same ∙ ap (λ (r : List Bool). get_or r k false) (pushed_last block (length table) rows new (replicate (length table) true) are.shape is)
            ∙ get_or-replicate (length table) k true false (slice_get_within table k p numbered) ∙ sym (blocked_with_start p list some first) ∙ ap (is_blocked_in graph p) one
        | inr apart ↦ ap (λ (r : List Bool). get_or r k false) (pushed_before block (length table) rows new (replicate (length table) true) are.shape is b (omega (arith, h, apart))) ∙ are.are b k other p (omega (arith, h, apart)) e numbered
      ];
    }

    pub joined_none : (list : List ℕ) (rows new : List (List Bool)) → AreRowsTo block lists table (is_blocked_in graph) rows → new ≡ rows ++ replicate (length table) false ∷ [] → IsJoinedTo graph lists table block list 0 new
    joined_none list rows new are is = record {
      shape = pushed_shape block (length table) rows new (replicate (length table) false) are.shape is (length-replicate (length table) false);
      before = λ b k other p h e numbered. ap (λ (r : List Bool). get_or r k false) (pushed_before block (length table) rows new (replicate (length table) false) are.shape is b h) ∙ are.are b k other p h e numbered;
      here = λ k p numbered. ap (λ (r : List Bool). get_or r k false) (pushed_last block (length table) rows new (replicate (length table) false) are.shape is) ∙ false_bit (length table) k;
    }

    pub joined_all : (list : List ℕ) (index : ℕ) (rows : List (List Bool)) → slice_get lists block ≡ Some list → length list ≤ index → IsJoinedTo graph lists table block list index rows → AreRowsTo (block + 1) lists table (is_blocked_in graph) rows
    joined_all list index rows listed late joined = record {
      shape = joined.shape;
      are = λ b k other p h e numbered. elim (cases_eq b block) as (λ _. has_bit rows k b ≡ is_blocked_in graph p other) [
        | inl same ↦
            let both : Some list ≡ Some other = sym listed ∙ ap (slice_get lists) (sym same) ∙ e in
            let one : list ≡ other = cc in
            ap (λ c. has_bit rows k c) same ∙ joined.here k p numbered ∙ ap (list_any (blocks_at p.var p.rhs graph)) (take_all index list late) ∙ ap (is_blocked_in graph p) one
        | inr apart ↦ joined.before b k other p (omega (arith, h, apart)) e numbered
      ];
    }

    module _ (by : ByVariable) (few : graph.shared ≤ length graph.vars) (variables : AreVariableRows (length graph.vars) table by) where
      -- a pattern's bit in a row to which is joined what a node blocks
      joined_bits : (node : Node) (row : List Bool) (k : ℕ) (p : Pattern) → is_start node ≡ false → AllBelow (length graph.vars) (node_vars node) → length row ≡ length table → slice_get table k ≡ Some p
          → get_or (row_joined by.naming (assigns_of graph.shared node) (row_joined by.assigning (reads_in graph.shared node) row)) k false ≡ (get_or row k false || blocks_pattern graph p.var p.rhs (Some node))
      joined_bits node row k p other below long numbered =
          bits row long
          ∙ or_assoc (get_or row k false) (list_any (λ x. has_bit by.assigning k x) read) (list_any (λ x. has_bit by.naming k x) set)
          ∙ ap (λ b. get_or row k false || b) (ap (λ b. (b || list_any (λ x. has_bit by.assigning k x) read) || list_any (λ x. has_bit by.naming k x) set) (sym (false_bit (length table) k)) ∙ sym (bits (replicate (length table) false) (length-replicate (length table) false))
          ∙ ap (λ (r : List Bool). get_or r k false) (blocked_joined by.assigning by.naming graph.shared (length table) node other)
          ∙ blocked_bit graph by.assigning by.naming (length table) (length graph.vars) few variables.assigning_shape variables.naming_shape k p (λ x h. variables.assigning x k p h numbered) (λ x h. variables.naming x k p h numbered) node (slice_get_within table k p numbered) below)
        where
          read : List ℕ
          read = reads_in graph.shared node

          set : List ℕ
          set = assigns_of graph.shared node

          read_in : AllBelow (length by.assigning) read
          read_in = subst (λ n. AllBelow n read) (sym variables.assigning_shape.len) (reads_below (length graph.vars) graph.shared few node below)

          set_in : AllBelow (length by.naming) set
          set_in = subst (λ n. AllBelow n set) (sym variables.naming_shape.len) (assigns_below (length graph.vars) graph.shared few node below)

          assigning_own : AreRows (length by.assigning) (length table) by.assigning
          assigning_own = subst (λ n. AreRows n (length table) by.assigning) (sym variables.assigning_shape.len) variables.assigning_shape

          naming_own : AreRows (length by.naming) (length table) by.naming
          naming_own = subst (λ n. AreRows n (length table) by.naming) (sym variables.naming_shape.len) variables.naming_shape

          bits : (r : List Bool) → length r ≡ length table → get_or (row_joined by.naming set (row_joined by.assigning read r)) k false ≡ ((get_or r k false || list_any (λ x. has_bit by.assigning k x) read) || list_any (λ x. has_bit by.naming k x) set)
          bits r r_long =
              joined_bit by.naming (length table) naming_own set (row_joined by.assigning read r) k set_in (joined_long by.assigning (length table) assigning_own read r read_in r_long)
              ∙ ap (λ b. b || list_any (λ x. has_bit by.naming k x) set) (joined_bit by.assigning (length table) assigning_own read r k read_in r_long)

      -- one node more
      pub joined_next : (list : List ℕ) (index n : ℕ) (node : Node) (rows new : List (List Bool)) → slice_get list index ≡ Some n → n ≢ 0 → slice_get graph.nodes n ≡ Some node → IsJoinedTo graph lists table block list index rows → JoinsBlocked by.assigning by.naming graph.shared node block rows new → IsJoinedTo graph lists table block list (index + 1) new
      joined_next list index n node rows new at apart is joined joins = record {
        shape = record {
          len = joins.len ∙ joined.shape.len;
          each = λ b h. elim (cases_eq b block) as (λ _. length (row_of new b) ≡ length table) [
            | inl same ↦ ap (λ c. length (row_of new c)) same ∙ joins.long ∙ joined.shape.each block (omega arith)
            | inr differ ↦ ap length (others b differ) ∙ joined.shape.each b h
          ];
        };
        before = λ b k other p h e numbered. ap (λ (r : List Bool). get_or r k false) (others b (λ same. omega (arith, same, h))) ∙ joined.before b k other p h e numbered;
        here = λ k p numbered.
            ap (λ (r : List Bool). get_or r k false) here_is
            ∙ joined_bits node (row_of rows block) k p (not_start n node is apart) (is_graph.can.below n node is) (joined.shape.each block (omega arith)) numbered
            ∙ ap (λ b. b || blocks_pattern graph p.var p.rhs (Some node)) (joined.here k p numbered)
            ∙ sym (more p);
      }
        where
          first : List (List Bool)
          first = joined_at by.assigning (reads_in graph.shared node) block rows

          within : block < length rows
          within = let long = joined.shape.len in omega (arith, long)

          others : (b : ℕ) → b ≢ block → row_of new b ≡ row_of rows b
          others b differ = ap (λ (l : List (List Bool)). row_of l b) joins.rows ∙ joined_others by.naming (assigns_of graph.shared node) block b first differ ∙ joined_others by.assigning (reads_in graph.shared node) block b rows differ

          here_is : row_of new block ≡ row_joined by.naming (assigns_of graph.shared node) (row_joined by.assigning (reads_in graph.shared node) (row_of rows block))
          here_is =
              ap (λ (l : List (List Bool)). row_of l block) joins.rows
              ∙ joined_here by.naming (assigns_of graph.shared node) block first (rw (joined_len by.assigning (reads_in graph.shared node) block rows) within)
              ∙ ap (row_joined by.naming (assigns_of graph.shared node)) (joined_here by.assigning (reads_in graph.shared node) block rows within)

          more : (p : Pattern) → list_any (blocks_at p.var p.rhs graph) (take (index + 1) list) ≡ (list_any (blocks_at p.var p.rhs graph) (take index list) || blocks_pattern graph p.var p.rhs (Some node))
          more p =
              let one : index + 1 ≡ suc index = omega arith in
              ap (λ i. list_any (blocks_at p.var p.rhs graph) (take i list)) one
              ∙ ap (list_any (blocks_at p.var p.rhs graph)) (take_next list index n at)
              ∙ list_any-append (blocks_at p.var p.rhs graph) (take index list) (n ∷ [])
              ∙ ap (λ b. list_any (blocks_at p.var p.rhs graph) (take index list) || b) (or-false (blocks_at p.var p.rhs graph n) ∙ ap (blocks_pattern graph p.var p.rhs) is)
