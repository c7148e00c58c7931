-- Rows of blocks while their bits pass nodes.
use Rattle.std.proofs.Common.{◌≡◌, ℕ, suc, ◌+◌, ◌<◌, ◌≤◌, Bool, true, false, not, ◌||◌, ◌&&◌, cond, List, [], ◌∷◌, ◌++◌, length, get_or, replicate, set, slice_get, take, Some, refl, sym, ap, inl, inr, arith, ◌∙◌}
use Rattle.std.proofs.Math.Bool.{or-false, or-true, or_comm}
use Rattle.std.proofs.lemmas.Bool.{cases_eq}
use Rattle.std.proofs.lemmas.List.{get_or-map, get_or-replicate, length-map, length-replicate, take_all}
use Rattle.std.proofs.lemmas.Option.{slice_get-get_or}
use Rattle.std.specs.List.{list_any}
use Rattle.flow_graph.specs.ListLaws.{take_next}
use Rattle.node_list.specs.Lists.{list_at}
use Rattle.bit_rows.specs.BitLaws.{length_minus, length_not, length_or, minus_bit, not_bit, or_bit}
use Rattle.bit_rows.specs.Bits.{minus_bits, not_bits, or_bits, row_of}
use Rattle.flow_graph.specs.declared.nodes.Node.{Node}
use Rattle.path_laws.specs.Blockwise.{AreBarredByPaths, flow_order, passed, passed_all}
use Rattle.path_laws.specs.Paths.{AreRows, has_bit}
use Rattle.path_laws.specs.declared.problems.Problem.{Problem}
use Rattle.path_laws.specs.Problem.{IsProblem, begun_row, block_seeds, is_barred, is_seed, orders, row_after, row_through}
use Rattle.path_laws.specs.RowLaws.{Written, put, written_shape}
use Rattle.path_laws.specs.Seeds.{bars_of, is_end, passed_row, seeds_of}
use Rattle.std.proofs.lemmas.List.Folds.{list_any-append}
use Rattle.path_laws.proofs.Complements.{seed_bit}
use Rattle.path_laws.specs.Places.{flow_within}
use Rattle.path_laws.specs.Pushing.{pushed_before, pushed_last, pushed_shape}

-- ---- one node

-- what `pass_row` does to a bit is what the flow asks, here where paths do not end
stop_first : (x s k : Bool) → ((x || s) && not k) ≡ (((s || false) && not k) || (x && not k))
stop_first true true true = refl
stop_first true true false = refl
stop_first true false k = refl
stop_first false true true = refl
stop_first false true false = refl
stop_first false false k = refl

-- and where they end: all but what is born
at_end : (x s k : Bool) → not k ≡ (((s || true) && not k) || (x && not k))
at_end x s k = absorbs x (not k) ∙ ap (λ e. (e && not k) || (x && not k)) (sym (or-true s))
  where
    absorbs : (x m : Bool) → m ≡ (m || (x && m))
    absorbs x true = refl
    absorbs true false = refl
    absorbs false false = refl

module _ (against : Bool) (nodes : List Node) (bits : ℕ) (born stop : List (List Bool)) (born_rows : AreRows (length nodes) bits born) (stop_rows : AreRows (length nodes) bits stop) (n : ℕ) (n_in : n < length nodes) (row : List Bool) (long : length row ≡ bits) where
  as_born : length row ≡ length (row_of born n)
  as_born = long ∙ sym (born_rows.each n n_in)

  as_stop : length row ≡ length (row_of stop n)
  as_stop = long ∙ sym (stop_rows.each n n_in)

  pub length_passed : (every : Bool) → length (passed_row every against nodes born stop n row) ≡ bits
  length_passed true = chosen (is_end against nodes n)
    where
      chosen : (b : Bool) → length (cond b (not_bits (row_of born n)) (minus_bits (or_bits row (row_of stop n)) (row_of born n))) ≡ bits
      chosen true = length_not (row_of born n) ∙ born_rows.each n n_in
      chosen false = length_minus (or_bits row (row_of stop n)) (row_of born n) (length_or row (row_of stop n) as_stop ∙ as_born) ∙ length_or row (row_of stop n) as_stop ∙ long
  length_passed false = length_or (minus_bits row (row_of stop n)) (row_of born n) (length_minus row (row_of stop n) as_stop ∙ as_born) ∙ length_minus row (row_of stop n) as_stop ∙ long

  pub passed_bit : (every : Bool) (b : ℕ) → b < bits → get_or (passed_row every against nodes born stop n row) b false ≡ passed (has_bit (seeds_of every against nodes born stop) b) (has_bit (bars_of every born stop) b) n (get_or row b false)
  passed_bit true b h =
      let x = get_or row b false in
      let s = has_bit stop b n in
      let k = has_bit born b n in
      chosen (is_end against nodes n) refl ∙ ap (λ e. e || (get_or row b false && not (has_bit born b n))) (sym (seed_bit against nodes bits born stop born_rows stop_rows b h n n_in))
    where
      chosen : (e : Bool) → is_end against nodes n ≡ e → get_or (cond e (not_bits (row_of born n)) (minus_bits (or_bits row (row_of stop n)) (row_of born n))) b false ≡ (((has_bit stop b n || is_end against nodes n) && not (has_bit born b n)) || (get_or row b false && not (has_bit born b n)))
      chosen true is = not_bit (row_of born n) b (rw (born_rows.each n n_in) h) ∙ at_end (get_or row b false) (has_bit stop b n) (has_bit born b n) ∙ ap (λ e. ((has_bit stop b n || e) && not (has_bit born b n)) || (get_or row b false && not (has_bit born b n))) (sym is)
      chosen false is =
          minus_bit (or_bits row (row_of stop n)) (row_of born n) b (length_or row (row_of stop n) as_stop ∙ as_born)
          ∙ ap (λ v. v && not (has_bit born b n)) (or_bit row (row_of stop n) b as_stop)
          ∙ stop_first (get_or row b false) (has_bit stop b n) (has_bit born b n)
          ∙ ap (λ e. ((has_bit stop b n || e) && not (has_bit born b n)) || (get_or row b false && not (has_bit born b n))) (sym is)
  passed_bit false b h =
      or_bit (minus_bits row (row_of stop n)) (row_of born n) b (length_minus row (row_of stop n) as_stop ∙ as_born)
      ∙ ap (λ v. v || has_bit born b n) (minus_bit row (row_of stop n) b as_stop)
      ∙ or_comm (get_or row b false && not (has_bit stop b n)) (has_bit born b n)

-- from a row of no bit nothing is taken
none_minus : (row : List Bool) → minus_bits (replicate (length row) false) row ≡ replicate (length row) false
none_minus [] = refl
none_minus (x ∷ row) = ap (λ r. false ∷ r) (none_minus row)

-- and joined with another it is that one
none_or : (row : List Bool) → or_bits (replicate (length row) false) row ≡ row
none_or [] = refl
none_or (x ∷ row) = ap (λ r. x ∷ r) (none_or row)

-- the seeds of a node are made of what is born there, for some path
pub begun_some : (p : Problem) (n : ℕ) → p.every ≡ false → begun_row p n ≡ row_of p.born.now n
begun_some p n some = ap (λ way. cond way (cond (is_end p.against p.graph.now.nodes n) (row_of p.born.now n) (row_of p.stop.now n)) (row_of p.born.now n)) some

-- and of what is stopped there, for every path, where none ends
pub begun_inside : (p : Problem) (n : ℕ) → p.every ≡ true → is_end p.against p.graph.now.nodes n ≡ false → begun_row p n ≡ row_of p.stop.now n
begun_inside p n every inside =
    ap (λ way. cond way (cond (is_end p.against p.graph.now.nodes n) (row_of p.born.now n) (row_of p.stop.now n)) (row_of p.born.now n)) every
    ∙ ap (λ e. cond e (row_of p.born.now n) (row_of p.stop.now n)) inside

-- where no bit comes to a node, its seeds leave it
module _ (p : Problem) (is : IsProblem p) (n : ℕ) (n_in : n < length p.graph.now.nodes) where
  -- the row of what is born there
  abbrev born : List Bool
  born = row_of p.born.now n

  -- and that of what is stopped there
  abbrev stop : List Bool
  stop = row_of p.stop.now n

  -- both are as long as the others
  born_long : length (row_of p.born.now n) ≡ p.bits
  born_long = is.flow.born_rows.each n n_in

  stop_long : length (row_of p.stop.now n) ≡ p.bits
  stop_long = is.flow.stop_rows.each n n_in

  -- for some path what is born there
  pub seeds_some : p.every ≡ false → born ≡ row_after p n (replicate p.bits false)
  seeds_some some =
      sym (ap (λ k. or_bits (minus_bits (replicate k false) stop) born) (sym stop_long)
      ∙ ap (λ r. or_bits r born) (none_minus stop)
      ∙ ap (λ k. or_bits (replicate k false) born) (stop_long ∙ sym born_long)
      ∙ none_or born)
      ∙ ap (λ way. passed_row way p.against p.graph.now.nodes p.born.now p.stop.now n (replicate p.bits false)) (sym some)

  -- for every path, where none ends, what is stopped and not born there
  pub seeds_inside : p.every ≡ true → is_end p.against p.graph.now.nodes n ≡ false → minus_bits stop born ≡ row_after p n (replicate p.bits false)
  seeds_inside every inside =
      ap (λ r. minus_bits r born) (sym (ap (λ k. or_bits (replicate k false) stop) (sym stop_long) ∙ none_or stop))
      ∙ ap (λ e. cond e (not_bits born) (minus_bits (or_bits (replicate p.bits false) stop) born)) (sym inside)
      ∙ ap (λ way. passed_row way p.against p.graph.now.nodes p.born.now p.stop.now n (replicate p.bits false)) (sym every)

-- ---- the same for a problem

-- the row that leaves a node is as long as the others
pub length_after : (p : Problem) → IsProblem p → (n : ℕ) → n < length p.graph.now.nodes → (row : List Bool) → length row ≡ p.bits → length (row_after p n row) ≡ p.bits
length_after p is n h row long = length_passed p.against p.graph.now.nodes p.bits p.born.now p.stop.now is.flow.born_rows is.flow.stop_rows n h row long p.every

-- and each of its bits is what the node seeds, or what came and is not barred
pub bit_after : (p : Problem) → IsProblem p → (n : ℕ) → n < length p.graph.now.nodes → (row : List Bool) → length row ≡ p.bits → (b : ℕ) → b < p.bits → get_or (row_after p n row) b false ≡ passed (is_seed p b) (is_barred p b) n (get_or row b false)
bit_after p is n h row long b l = passed_bit p.against p.graph.now.nodes p.bits p.born.now p.stop.now is.flow.born_rows is.flow.stop_rows n h row long p.every b l

-- ---- along the nodes of a block

-- a row goes along the first nodes, and then along the others
pub through_append : (p : Problem) (xs ys : List ℕ) (row : List Bool) → row_through p (xs ++ ys) row ≡ row_through p ys (row_through p xs row)
through_append p [] ys row = refl
through_append p (n ∷ xs) ys row = through_append p xs ys (row_after p n row)

-- and so along one node more
pub through_next : (p : Problem) (xs : List ℕ) (i n : ℕ) (row : List Bool) → slice_get xs i ≡ Some n → row_through p (take (i + 1) xs) row ≡ row_after p n (row_through p (take i xs) row)
through_next p xs i n row at =
    let one : i + 1 ≡ suc i = omega arith in
    ap (λ k. row_through p (take k xs) row) one ∙ ap (λ l. row_through p l row) (take_next xs i n at) ∙ through_append p (take i xs) (n ∷ []) row

-- a row of no bit that has gone along so many nodes
pub record IsThrough (p : Problem) (path : List ℕ) (place : ℕ) (row : List Bool) : Type 0 where
  pub row_is : row ≡ row_through p (take place path) (replicate p.bits false)
  pub long : length row ≡ p.bits

-- it goes along one node more
pub through_more : (p : Problem) → IsProblem p → (path : List ℕ) (place n : ℕ) (row after : List Bool) → IsThrough p path place row → (slice_get path place ≡ Some n) × (n < length p.graph.now.nodes) → after ≡ row_after p n row → IsThrough p path (place + 1) after
through_more p is path place n row after through at after_is = record {
  row_is = after_is ∙ ap (row_after p n) through.row_is ∙ sym (through_next p path place n (replicate p.bits false) at.0);
  long = ap length after_is ∙ length_after p is n at.1 row through.long;
}

-- and it begins with the first
pub through_first : (p : Problem) → IsProblem p → (path : List ℕ) (n : ℕ) (after : List Bool) → (slice_get path 0 ≡ Some n) × (n < length p.graph.now.nodes) → after ≡ row_after p n (replicate p.bits false) → IsThrough p path 1 after
through_first p is path n after at after_is = through_more p is path 0 n (replicate p.bits false) after (record { row_is = refl; long = length-replicate p.bits false }) at after_is

-- what comes out of a block where nothing comes to it
pub seed_row_is : (p : Problem) (c : ℕ) → c < length p.blocks.now.lists → row_of (block_seeds p) c ≡ row_through p (orders p c) (replicate p.bits false)
seed_row_is p c h = get_or-map (λ list. row_through p (flow_order p.against list) (replicate p.bits false)) p.blocks.now.lists c [] [] h

-- in these rows of blocks each bit, false at first, has gone through these nodes
pub record ArePassed (count bits : ℕ) (paths : ℕ → List ℕ) (seed stop : ℕ → ℕ → Bool) (rows : List (List Bool)) : Type 0 where
  pub shape : AreRows count bits rows
  pub are : (c b : ℕ) → c < count → b < bits → has_bit rows b c ≡ passed_all (seed b) (stop b) false (paths c)

module _ (p : Problem) (is : IsProblem p) where
  -- all these are nodes of the graph
  abbrev Within : List ℕ → Type 0
  Within path = (i n : ℕ) → slice_get path i ≡ Some n → n < length p.graph.now.nodes

  -- the row keeps its length
  length_through : (path : List ℕ) → Within path → (row : List Bool) → length row ≡ p.bits → length (row_through p path row) ≡ p.bits
  length_through [] within row long = long
  length_through (n ∷ path) within row long = length_through path (λ i m at. within (suc i) m at) (row_after p n row) (length_after p is n (within 0 n refl) row long)

  -- and each bit of it passes the nodes
  bit_through : (path : List ℕ) → Within path → (row : List Bool) → length row ≡ p.bits → (b : ℕ) → b < p.bits → get_or (row_through p path row) b false ≡ passed_all (is_seed p b) (is_barred p b) (get_or row b false) path
  bit_through [] within row long b l = refl
  bit_through (n ∷ path) within row long b l =
      bit_through path (λ i m at. within (suc i) m at) (row_after p n row) (length_after p is n (within 0 n refl) row long) b l
      ∙ ap (λ x. passed_all (is_seed p b) (is_barred p b) x path) (bit_after p is n (within 0 n refl) row long b l)

  -- the nodes of a block are nodes of the graph
  block_within : (c : ℕ) → c < length p.blocks.now.lists → Within (orders p c)
  block_within c h i n at = flow_within p.against p.graph.now.nodes (list_at p.blocks.now.lists c) i n (is.blocks_are.are.blocks c (list_at p.blocks.now.lists c) (slice_get-get_or p.blocks.now.lists c [] h)).chain at

  -- a bit comes out of a block where it comes out of its nodes
  pub seeds_passed : ArePassed (length p.blocks.now.lists) p.bits (orders p) (is_seed p) (is_barred p) (block_seeds p)
  seeds_passed = record {
    shape = record {
      len = length-map p.blocks.now.lists (λ list. row_through p (flow_order p.against list) (replicate p.bits false));
      each = λ c h. ap length (seed_row_is p c h) ∙ length_through (orders p c) (block_within c h) (replicate p.bits false) (length-replicate p.bits false);
    };
    are = λ c b h l.
        ap (λ (r : List Bool). get_or r b false) (seed_row_is p c h)
        ∙ bit_through (orders p c) (block_within c h) (replicate p.bits false) (length-replicate p.bits false) b l
        ∙ ap (λ x. passed_all (is_seed p b) (is_barred p b) x (orders p c)) (get_or-replicate p.bits b false false l);
  }

-- ---- rows of blocks

module _ (count bits : ℕ) (paths : ℕ → List ℕ) (stops : List (List Bool)) where
  -- the last row of blocks says which bits so many nodes of its block bar, and the others are whole
  pub record AreStoppedTo (place : ℕ) (rows : List (List Bool)) : Type 0 where
    pub shape : AreRows (count + 1) bits rows
    pub whole : (c b : ℕ) → c < count → b < bits → has_bit rows b c ≡ list_any (has_bit stops b) (paths c)
    pub part : (b : ℕ) → b < bits → has_bit rows b count ≡ list_any (has_bit stops b) (take place (paths count))

  -- what the nodes up to a place bar, and the one there, the nodes up to the next place bar
  one_more_bars : (b place n : ℕ) → slice_get (paths count) place ≡ Some n → (list_any (has_bit stops b) (take place (paths count)) || has_bit stops b n) ≡ list_any (has_bit stops b) (take (place + 1) (paths count))
  one_more_bars b place n at =
      let one : place + 1 ≡ suc place = omega arith in
      ap (λ v. list_any (has_bit stops b) (take place (paths count)) || v) (sym (or-false (has_bit stops b n)))
      ∙ sym (list_any-append (has_bit stops b) (take place (paths count)) (n ∷ []))
      ∙ sym (ap (list_any (has_bit stops b)) (ap (λ k. take k (paths count)) one ∙ take_next (paths count) place n at))

  -- the row of the first node is put at the end
  module _ (n : ℕ) (rows after : List (List Bool)) (are : AreBarredByPaths count bits paths (has_bit stops) rows) (long : length (row_of stops n) ≡ bits) (is : after ≡ rows ++ row_of stops n ∷ []) where
    last : row_of after count ≡ row_of stops n
    last = pushed_last count bits rows after (row_of stops n) are.shape is

    pub stopped_first : slice_get (paths count) 0 ≡ Some n → AreStoppedTo 1 after
    stopped_first at = record {
      shape = pushed_shape count bits rows after (row_of stops n) are.shape is long;
      whole = λ c b h l. ap (λ (r : List Bool). get_or r b false) (pushed_before count bits rows after (row_of stops n) are.shape is c h) ∙ are.are c b h l;
      part = λ b l. ap (λ (r : List Bool). get_or r b false) last ∙ one_more_bars b 0 n at;
    }

  -- and those of the others are joined to it
  pub stopped_next : (place n : ℕ) (rows after : List (List Bool)) → AreStoppedTo place rows → length (row_of stops n) ≡ bits → slice_get (paths count) place ≡ Some n → after ≡ set rows count (or_bits (row_of rows count) (row_of stops n)) → AreStoppedTo (place + 1) after
  stopped_next place n rows after are long at is =
      let row = or_bits (row_of rows count) (row_of stops n) in
      let here : length (row_of rows count) ≡ bits = are.shape.each count (omega arith) in
      let alike : length (row_of rows count) ≡ length (row_of stops n) = here ∙ sym long in
      let made : Written rows after count row = put rows after count row (rw are.shape.len (omega arith)) is in
      record {
        shape = written_shape (count + 1) bits count rows after row are.shape made (length_or (row_of rows count) (row_of stops n) alike ∙ here);
        whole = λ c b h l. ap (λ (r : List Bool). get_or r b false) (made.others c (λ e. absurd (omega (arith, e, h)))) ∙ are.whole c b h l;
        part = λ b l. ap (λ (r : List Bool). get_or r b false) made.here ∙ or_bit (row_of rows count) (row_of stops n) b alike ∙ ap (λ v. v || has_bit stops b n) (are.part b l) ∙ one_more_bars b place n at;
      }

  -- once all its nodes have come the last row is whole
  pub stopped_all : (place : ℕ) (rows : List (List Bool)) → AreStoppedTo place rows → length (paths count) ≤ place → AreBarredByPaths (count + 1) bits paths (has_bit stops) rows
  stopped_all place rows are late = record {
    shape = are.shape;
    are = λ c b h l. elim (cases_eq c count) as (λ _. has_bit rows b c ≡ list_any (has_bit stops b) (paths c)) [
      | inl e ↦ rw e (are.part b l ∙ ap (list_any (has_bit stops b)) (take_all place (paths count) late))
      | inr d ↦ are.whole c b (omega (arith, h, d)) l
    ];
  }
