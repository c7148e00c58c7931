-- The flow of known slots keeps the laws of flows. Cited by the ghost members of `SlotFlow`.
use Rattle.std.proofs.Common.{◌≡◌, ◌<◌, ◌≤◌, ◌&&◌, ◌||◌, ℕ, suc, Bool, true, false, not, List, [], ◌∷◌, length, slice_get, Some, refl, sym, ap, ◌∙◌, arith}
use Rattle.std.proofs.lemmas.Option.{slice_get-get_or}
use Rattle.std.proofs.lemmas.List.{length-replicate}
use Rattle.bit_rows.specs.Bits.{row_of}
use Rattle.fix_solve.specs.Net.{NetLaws}
use Rattle.flow_graph.specs.FlowEdgeLaws.{flow_edges_are}
use Rattle.flow_graph.specs.FlowEdges.{edge_at, first_out, flow_edges}
use Rattle.path_laws.specs.Order.{BelowBit, BelowBits}
use Rattle.div_move.specs.declared.flow.SlotFlow.{SlotFlow}
use Rattle.div_move.specs.SlotFlow.{IsSlotFlow, arriving, down_bit, down_bits, halts_at, leads_at, slot_net}
use Rattle.div_move.specs.Slots.{BelowSlot, BelowSlots, slots_rank}
use Rattle.div_move.specs.SlotLaws.{slots_rank_le}

-- ---- sizes

-- a bit for each expression
pub length_down : (halt : Bool) (uses kills : List Bool) (known : List (Bool × Bool)) → length uses ≡ length known
    → length kills ≡ length known → length (down_bits halt uses kills known) ≡ length known
length_down halt [] kills [] p q = refl
length_down halt [] kills (k ∷ known) p q = absurd (omega (arith, p))
length_down halt (u ∷ uses) [] [] p q = refl
length_down halt (u ∷ uses) [] (k ∷ known) p q = absurd (omega (arith, q))
length_down halt (u ∷ uses) (c ∷ kills) [] p q = absurd (omega (arith, p))
length_down halt (u ∷ uses) (c ∷ kills) (k ∷ known) p q = ap suc (length_down halt uses kills known (omega (arith, p)) (omega (arith, q)))

-- and what arrives has one for each that is down
pub length_arriving : (first second : Bool) (down : List Bool) → length (arriving first second down) ≡ length down
length_arriving first second [] = refl
length_arriving first second (d ∷ down) = ap suc (length_arriving first second down)

-- ---- monotone

-- more known slots make a node no less down
down_bit_up : (halt used killed : Bool) (x y : Bool × Bool) → BelowSlot x y → BelowBit (down_bit halt used killed x) (down_bit halt used killed y)
down_bit_up halt true killed x y p h = refl
down_bit_up halt false killed x y p h = by x.0 x.1 y.0 y.1 (killed || halt) p.0 p.1 h
  where
    by : (a b c d k : Bool) → BelowBit a c → BelowBit b d → ((a && b) && not k) ≡ true → ((c && d) && not k) ≡ true
    by true true c d k p q h = rw (p refl, q refl) h
    by true false c d k p q h = absurd (cc)
    by false b c d k p q h = absurd (cc)

-- of all expressions
down_up : (halt : Bool) (uses kills : List Bool) (xs ys : List (Bool × Bool)) → BelowSlots xs ys
    → BelowBits (down_bits halt uses kills xs) (down_bits halt uses kills ys)
down_up halt [] kills xs ys p = tt
down_up halt (u ∷ uses) [] xs ys p = tt
down_up halt (u ∷ uses) (c ∷ kills) [] [] p = tt
down_up halt (u ∷ uses) (c ∷ kills) [] (y ∷ ys) p = absurd p
down_up halt (u ∷ uses) (c ∷ kills) (x ∷ xs) [] p = absurd p
down_up halt (u ∷ uses) (c ∷ kills) (x ∷ xs) (y ∷ ys) p = (down_bit_up halt u c x y p.0, down_up halt uses kills xs ys p.1)

-- what arrives grows with what is down
and_up : (b x y : Bool) → BelowBit x y → BelowBit (b && x) (b && y)
and_up true x y p h = p h
and_up false x y p h = h

-- of all expressions
arriving_up : (first second : Bool) (xs ys : List Bool) → BelowBits xs ys → BelowSlots (arriving first second xs) (arriving first second ys)
arriving_up first second [] [] p = tt
arriving_up first second [] (y ∷ ys) p = absurd p
arriving_up first second (x ∷ xs) [] p = absurd p
arriving_up first second (x ∷ xs) (y ∷ ys) p = ((and_up first x y p.0, and_up second x y p.0), arriving_up first second xs ys p.1)

-- ---- the laws

module _ {L : Type 0} (f : SlotFlow L) (is : IsSlotFlow f) where
  -- an edge of the flow leads from node to node
  pub flow_ends : (e : ℕ) → e < length (flow_edges true f.graph.now.nodes)
      → ((edge_at (flow_edges true f.graph.now.nodes) e).source < length f.graph.now.nodes) × ((edge_at (flow_edges true f.graph.now.nodes) e).target < length f.graph.now.nodes)
  flow_ends e h = (flow_edges_are f.graph.now.nodes is.within true).ends e (edge_at (flow_edges true f.graph.now.nodes) e) (slice_get-get_or (flow_edges true f.graph.now.nodes) e _ h)

  -- a row of a node has as many bits as a value of this size
  pub down_long : (n : ℕ) (known : List (Bool × Bool)) → n < length f.graph.now.nodes → length known ≡ f.bits
      → length (down_bits (halts_at f.graph.now.nodes n) (row_of f.uses.now n) (row_of f.kills.now n) known) ≡ f.bits
  down_long n known within size = length_down (halts_at f.graph.now.nodes n) (row_of f.uses.now n) (row_of f.kills.now n) known (is.use_rows.each n within ∙ sym size) (is.kill_rows.each n within ∙ sym size) ∙ size

-- so the flow keeps the laws
pub slot_flow_laws : {L : Type 0} (f : SlotFlow L) → IsSlotFlow f → NetLaws BelowSlots length slots_rank (slot_net f)
slot_flow_laws f is =
    let nodes = f.graph.now.nodes in
    let edges = flow_edges true f.graph.now.nodes in
    let are = flow_edges_are f.graph.now.nodes is.within true in
    let at : (e : ℕ) → e < length edges → slice_get edges e ≡ Some (edge_at edges e) = λ e h. slice_get-get_or edges e _ h in
    record {
      sources = λ e h. (flow_ends f is e h).0;
      targets = λ e h. (flow_ends f is e h).1;
      starts = λ n h. are.starts n;
      stops = λ n h. are.stops n;
      within = λ n e h low high. let h' : e < length edges = let some : first_out true nodes (suc n) ≤ length edges = are.stops n in omega arith in are.only e n (edge_at edges e) (at e h') low high;
      from_start = λ e h. (are.stands e (edge_at edges e) (at e h)).0;
      to_stop = λ e h. (are.stands e (edge_at edges e) (at e h)).1;
      first_size = λ n h. length-replicate f.bits _;
      transfer_size = λ e x h size. length_arriving (leads_at nodes (edge_at edges e).target 0 (edge_at edges e).source) (leads_at nodes (edge_at edges e).target 1 (edge_at edges e).source) _ ∙ down_long f is (edge_at edges e).source x (flow_ends f is e h).0 size;
      monotone = λ e x y h size below. arriving_up _ _ _ _ (down_up (halts_at nodes (edge_at edges e).source) (row_of f.uses.now (edge_at edges e).source) (row_of f.kills.now (edge_at edges e).source) x y below);
      ranks = λ x size. let a = slots_rank_le x in omega (arith, a, size);
    }
