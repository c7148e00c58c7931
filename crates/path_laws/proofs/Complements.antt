-- A bit of the seeds that the complements are solved by, and of their answers.
use Rattle.std.proofs.Common.{◌≡◌, ℕ, ◌<◌, Bool, true, false, not, ◌||◌, ◌&&◌, if◌then◌else◌, List, length, get_or, replicate, refl, sym, ap, ◌∙◌}
use Rattle.std.proofs.Math.Bool.{or-true, or-false}
use Rattle.std.proofs.lemmas.List.{get_or-replicate}
use Rattle.bit_rows.specs.BitLaws.{minus_bit}
use Rattle.bit_rows.specs.Bits.{row_of}
use Rattle.flow_graph.specs.declared.nodes.Node.{Node}
use Rattle.path_laws.specs.Paths.{AreRows, has_bit}
use Rattle.path_laws.specs.Seeds.{ending_row, is_end, seeds_of}
use Rattle.path_laws.specs.SeedsLaws.{length_ending, seed_is}

-- a bit of the row of stops, of which all bits count where paths end
ending_bit : (b : Bool) (stop : List Bool) (k : ℕ) → k < length stop → get_or (if b then replicate (length stop) true else stop) k false ≡ (get_or stop k false || b)
ending_bit true stop k h = get_or-replicate (length stop) k true false h ∙ sym (or-true (get_or stop k false))
ending_bit false stop k h = sym (or-false (get_or stop k false))

module _ (against : Bool) (nodes : List Node) (bits : ℕ) (born stop : List (List Bool)) (born_rows : AreRows (length nodes) bits born) (stop_rows : AreRows (length nodes) bits stop) (b : ℕ) (b_in : b < bits) where
  pub seed_bit : (n : ℕ) → n < length nodes → has_bit (seeds_of true against nodes born stop) b n ≡ ((has_bit stop b n || is_end against nodes n) && not (has_bit born b n))
  seed_bit n h =
      let ends = is_end against nodes n in
      let same : length (ending_row against nodes (row_of stop n) n) ≡ length (row_of born n) = length_ending ends (row_of stop n) ∙ stop_rows.each n h ∙ sym (born_rows.each n h) in
      ap (λ (xs : List Bool). get_or xs b false) (seed_is true against nodes born stop n h) ∙ minus_bit (ending_row against nodes (row_of stop n) n) (row_of born n) b same
      ∙ ap (λ x. x && not (has_bit born b n)) (ending_bit ends (row_of stop n) b (rw (stop_rows.each n h) b_in))

-- where a bit of the answer is the other one of the complement's, it tells where the complement's fact does not hold
pub none_from_on : (a c : Bool) (P : Type 0) → a ≡ not c → (P → c ≡ true) → a ≡ true → P → ⊥
none_from_on a true P is given on p = absurd (cc)
none_from_on a false P is given on p = let bad : false ≡ true = given p in absurd (cc)

-- and where its fact fails the bit is true
pub on_from_none : (a c : Bool) (P : Type 0) → a ≡ not c → (c ≡ true → P) → (P → ⊥) → a ≡ true
on_from_none a true P is given none = absurd (none (given refl))
on_from_none a false P is given none = is
