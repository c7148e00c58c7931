-- The flow of bits keeps the laws of flows. Cited by the ghost members of `BitFlow`.
use Rattle.std.specs.Prelude.{◌≡◌, ℕ, suc, ◌<◌, ◌≤◌, Bool, List, length, slice_get, Some}
use Rattle.std.proofs.Common.{sym, ◌∙◌, arith}
use Rattle.std.proofs.lemmas.Option.{slice_get-get_or}
use Rattle.fix_solve.specs.Net.{NetLaws}
use Rattle.bit_rows.specs.BitLaws.{length_minus}
use Rattle.bit_rows.specs.Bits.{row_of}
use Rattle.flow_graph.specs.declared.edges.Edge.{Edge}
use Rattle.flow_graph.specs.FlowEdges.{edge_at}
use Rattle.path_laws.specs.Nets.{IsBitFlow, bit_flow}
use Rattle.path_laws.specs.Order.{BelowBits, trues}
use Rattle.path_laws.specs.OrderLaws.{minus_mono, trues_le}

-- the flow of bits keeps the laws of flows
pub bit_laws : (nodes : ℕ) (edges : List Edge) (out : ℕ → ℕ) (bits : ℕ) (first bar : List (List Bool)) → IsBitFlow nodes edges out bits first bar
    → NetLaws BelowBits length trues (bit_flow nodes edges out bits first bar)
bit_laws nodes edges out bits first bar valid =
    let at : (e : ℕ) → e < length edges → slice_get edges e ≡ Some (edge_at edges e) = λ e h. slice_get-get_or edges e _ h in
    record {
      sources = λ e h. (valid.are.ends e (edge_at edges e) (at e h)).0;
      targets = λ e h. (valid.are.ends e (edge_at edges e) (at e h)).1;
      starts = λ n h. valid.are.starts n;
      stops = λ n h. valid.are.stops n;
      within = λ n e h low high. let h' : e < length edges = let some : out (suc n) ≤ length edges = valid.are.stops n in omega arith in valid.are.only e n (edge_at edges e) (at e h') low high;
      from_start = λ e h. (valid.are.stands e (edge_at edges e) (at e h)).0;
      to_stop = λ e h. (valid.are.stands e (edge_at edges e) (at e h)).1;
      first_size = valid.first_rows.each;
      transfer_size = λ e x h s. length_minus x (row_of bar (edge_at edges e).target) (s ∙ sym (valid.bar_rows.each (edge_at edges e).target (valid.are.ends e (edge_at edges e) (at e h)).1)) ∙ s;
      monotone = λ e x y h s b. minus_mono x y (row_of bar (edge_at edges e).target) b;
      ranks = λ x s. let a : trues x ≤ length x = trues_le x in omega arith;
    }
