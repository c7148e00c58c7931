-- The seeds of a path problem have the shape of its rows. For proofs only.
use Rattle.std.specs.Prelude.{◌≡◌, ℕ, ◌<◌, Bool, true, false, if◌then◌else◌, List, [], length, replicate, refl}
use Rattle.std.proofs.Common.{sym, ◌∙◌, arith, if◌then◌else◌}
use Rattle.std.proofs.lemmas.List.{length-replicate}
use Rattle.std.proofs.lemmas.List.FromFn.{length-map-range_with_len, get_or-map-range_with_len}
use Rattle.bit_rows.specs.BitLaws.{length_minus}
use Rattle.bit_rows.specs.Bits.{row_of}
use Rattle.flow_graph.specs.declared.nodes.Node.{Node}
use Rattle.path_laws.specs.Paths.{AreRows}
use Rattle.path_laws.specs.Seeds.{bars_of, ending_row, is_end, seed_row, seeds_of}

-- a row of stops keeps its length where all bits count
pub length_ending : (b : Bool) (stop : List Bool) → length (if b then replicate (length stop) true else stop) ≡ length stop
length_ending true stop = length-replicate (length stop) true
length_ending false stop = refl

-- the seeds of one node
pub seed_is : (every against : Bool) (nodes : List Node) (born stop : List (List Bool)) (n : ℕ) → n < length nodes
    → row_of (seeds_of every against nodes born stop) n ≡ seed_row every against nodes born stop n
seed_is true against nodes born stop n h = get_or-map-range_with_len (seed_row true against nodes born stop) 0 (length nodes) n n [] h (omega arith)
seed_is false against nodes born stop n h = refl

module _ (against : Bool) (nodes : List Node) (bits : ℕ) (born stop : List (List Bool)) (born_rows : AreRows (length nodes) bits born) (stop_rows : AreRows (length nodes) bits stop) where
  pub length_seed_row : (every : Bool) (n : ℕ) → n < length nodes → length (seed_row every against nodes born stop n) ≡ bits
  length_seed_row true n h =
      let long = length_ending (is_end against nodes n) (row_of stop n) ∙ stop_rows.each n h in
      length_minus (ending_row against nodes (row_of stop n) n) (row_of born n) (long ∙ sym (born_rows.each n h)) ∙ long
  length_seed_row false n h = born_rows.each n h

  pub seed_rows : (every : Bool) → AreRows (length nodes) bits (seeds_of every against nodes born stop)
  seed_rows true = record {
    len = length-map-range_with_len (seed_row true against nodes born stop) 0 (length nodes);
    each = λ n h. rw (seed_is true against nodes born stop n h) (length_seed_row true n h);
  }
  seed_rows false = born_rows

  pub bar_rows : (every : Bool) → AreRows (length nodes) bits (bars_of every born stop)
  bar_rows true = born_rows
  bar_rows false = stop_rows
