-- What blocks do with patterns, as bits that are lost in them or held.
use Rattle.std.proofs.Common.{◌≡◌, ◌↔◌, ℕ, ◌||◌, ◌&&◌, not, Bool, true, false, List, length, slice_index_or, refl, sym, ap, ◌∙◌, subst}
use Rattle.std.proofs.lemmas.Option.{get_or_from_slice_get, slice_get-get_or, slice_get_within}
use Rattle.mir_base.specs.declared.instructions.Operand.TheVariants.{Var}
use Rattle.mir_base.specs.declared.instructions.Rhs.TheVariants.{Plain}
use Rattle.flow_graph.specs.Graphs.{GraphShape, IsGraph}
use Rattle.path_laws.specs.AtBlocks.{AreBornAtHeads, ArePassedAlong}
use Rattle.path_laws.specs.BlockwiseLaws.{passed_apart}
use Rattle.path_laws.specs.Paths.{AreRows, has_bit}
use Rattle.sink_code.specs.declared.patterns.Pattern.{Pattern}
use Rattle.graph_edit.specs.Accesses.{blocks_at, occurs_at}
use Rattle.sink_code.specs.BlockRows.{AreBlockRows, AreInto, is_blocked_in, is_lost_in, leaves_own}
use Rattle.sink_code.specs.Delaying.{IsDelayedTo}
use Rattle.sink_code.specs.Inside.{comes_past}
use Rattle.sink_code.proofs.BlockedIn.{start_blocks}
use Rattle.sink_code.proofs.GoesOn.{goes_on_last}

-- the pattern of this number, and past the last some pattern
abbrev pub pattern_at : List Pattern → ℕ → Pattern
pattern_at table k = slice_index_or table k (record { var = 0; rhs = Plain (Var 0) })

-- where the pattern of each number occurs
abbrev pub born_at : GraphShape → List Pattern → ℕ → ℕ → Bool
born_at graph table k = occurs_at (pattern_at table k).var (pattern_at table k).rhs graph

-- and where it is blocked
abbrev pub stopped_at : GraphShape → List Pattern → ℕ → ℕ → Bool
stopped_at graph table k = blocks_at (pattern_at table k).var (pattern_at table k).rhs graph

module _ (graph : GraphShape) (is_graph : IsGraph graph.vars graph.received graph.nodes) (lists : List (List ℕ)) (table : List Pattern) (lost leaves : List (List Bool))
    (lost_are : AreBlockRows lists table (is_lost_in graph) lost) (leaves_are : AreBlockRows lists table (leaves_own graph) leaves) where
  -- what comes out of a block, by what it does itself, and what it blocks
  comes_out : (o k x : Bool) → (o || (x && not k)) ≡ (not (k && not o) && (x || o))
  comes_out true true true = refl
  comes_out true true false = refl
  comes_out true false true = refl
  comes_out true false false = refl
  comes_out false true true = refl
  comes_out false true false = refl
  comes_out false false true = refl
  comes_out false false false = refl

  -- blocks lose and hold patterns as their nodes do
  pub passed_along : ArePassedAlong graph.nodes lists (length table) (born_at graph table) (stopped_at graph table) lost leaves
  passed_along = record {
    start = λ k h. start_blocks graph is_graph (pattern_at table k);
    does = λ c k last next list x h is_block ends edge.
        let p = pattern_at table k in
        let numbered = slice_get-get_or table k (record { var = 0; rhs = Plain (Var 0) }) h in
        let own = comes_past graph p.var p.rhs false list in
        let blocked = is_blocked_in graph p list in
        let within = slice_get_within lists c list is_block in
        let leaves_is : has_bit leaves k c ≡ comes_past graph (pattern_at table k).var (pattern_at table k).rhs false list = leaves_are.are c k list p within is_block numbered ∙ ap (λ b. b && own) (goes_on_last graph list last next ends edge) in
        let lost_is : has_bit lost k c ≡ (is_blocked_in graph (pattern_at table k) list && not (has_bit leaves k c)) = lost_are.are c k list p within is_block numbered ∙ ap (λ b. blocked && not b) (sym (leaves_are.are c k list p within is_block numbered)) in
        passed_apart (born_at graph table k) (stopped_at graph table k) list x
        ∙ comes_out own blocked x
        ∙ ap (λ o. not (blocked && not o) && (x || o)) (sym leaves_is)
        ∙ ap (λ l. not l && (x || has_bit leaves k c)) (sym lost_is);
  }

  -- so the answers at the heads of blocks tell what comes into them
  pub into_are : (rows : List (List Bool)) → AreRows (length lists) (length table) rows → AreBornAtHeads graph.nodes lists (length table) (born_at graph table) (stopped_at graph table) rows → AreInto graph lists table rows
  into_are rows shape born = record {
    shape = shape;
    are = λ b k head list p is_block begins numbered.
        let same : pattern_at table k ≡ p = get_or_from_slice_get table k p (record { var = 0; rhs = Plain (Var 0) }) numbered in
        subst (λ (q : Pattern). (has_bit rows k b ≡ true) ↔ IsDelayedTo graph q.var q.rhs head) same (born b k head list (slice_get_within table k p numbered) is_block begins);
  }
