-- What is kept of a unit stays below numbers that solve it, where rows are raised by what is wanted before a block.
use Rattle.std.proofs.Common.{◌≡◌, ◌⊎◌, ℕ, suc, ◌<◌, ◌≤◌, true, inl, inr, List, [], drop, length, replicate, slice_get, slice_set, Option, Some, None, refl, sym, ap, ◌∙◌, arith}
use Rattle.std.proofs.lemmas.Bool.{cases_eq, cases_lt}
use Rattle.std.proofs.lemmas.List.{get_or-replicate, get_or_past, get_or-set_other, get_or-set_same, length-replicate, length-set}
use Rattle.std.proofs.lemmas.Option.{get_or_from_slice_get, slice_get-get_or, slice_get_within}
use Rattle.node_list.specs.Lists.{list_at}
use Rattle.flow_graph.specs.declared.edges.Edge.{Edge}
use Rattle.flow_graph.specs.declared.nodes.Node.TheVariants.{Start}
use Rattle.flow_graph.specs.Blocks.{IsBlocks}
use Rattle.flow_graph.specs.BlockLaws.{chain_inner}
use Rattle.flow_graph.specs.FlowEdges.{edge_at}
use Rattle.flow_graph.specs.Graphs.{CanMake, GraphShape, succs_at, succs_of}
use Rattle.path_laws.specs.Between.{AreBetween}
use Rattle.wanted_bits.specs.declared.picking.Shift.{Shift}
use Rattle.wanted_bits.specs.declared.preparing.Prepared.{Prepared}
use Rattle.wanted_bits.specs.Asks.{ask_past, back_list}
use Rattle.wanted_bits.specs.BitsOrder.{HasFew}
use Rattle.wanted_bits.specs.Found.{NotesFrom}
use Rattle.wanted_bits.specs.JoinedBits.{joined_at}
use Rattle.wanted_bits.specs.KeptRows.{AreLong, AreOut, AreRows, AsksBelow, PassedRows, RaisesBelow, RowsBelow, SpreadFrom, behind_rows, end_node, greatest}
use Rattle.wanted_bits.specs.Walking.{HaveBacks, before_list, bits_at}
use Rattle.wanted_bits.specs.WalkLaws.{AsksFew, FewerEach, list_more}
use Rattle.wanted_bits.specs.Wanted.{AreWantedBy, Asked}
use Rattle.wanted_bits.specs.WantedNet.{capped}
use Rattle.wanted_bits.specs.WantedNetLaws.{below_fewer, capped_at}
use Rattle.wanted_bits.proofs.LeastNumbers.{block_fewer, by_vars_at, drop_none, end_is, ends_at_none, lists_long, others_solve}

-- ---- rows

-- none raised yet
pub spread_none : (prepared : Prepared) (block : ℕ) (room : List ℕ) (rows : List (List ℕ)) → AreLong (length room) rows → SpreadFrom prepared block room rows rows
spread_none prepared block room rows long = record { long = refl; each = long; under = λ tops out under. under }

-- the row at the end of one edge more
pub spread_more : (prepared : Prepared) (block : ℕ) (room : List ℕ) (old now : List (List ℕ)) (e : ℕ) (row : List ℕ) → AreOut prepared block (length old) → e < length prepared.crossed.between.edges.items → (edge_at prepared.crossed.between.edges.items e).source ≡ block
    → SpreadFrom prepared block room old now → RaisesBelow room (list_at now (edge_at prepared.crossed.between.edges.items e).target) row
    → SpreadFrom prepared block room old (slice_set now (edge_at prepared.crossed.between.edges.items e).target row)
spread_more prepared block room old now e row out e_in from so_far raises = record {
  long = length-set now t row ∙ so_far.long;
  each = λ b lt. elim (cases_eq b t) [
    | inl is ↦ ap (λ k. length (list_at (slice_set now t row) k)) is ∙ ap (λ (l : List ℕ). length l) (get_or-set_same now t row [] t_in) ∙ raises.long ∙ so_far.each t t_in
    | inr ne ↦ ap (λ (l : List ℕ). length l) (get_or-set_other now t b row [] ne) ∙ so_far.each b (omega (arith, lt, length-set now t row))
  ];
  under = λ tops along under b x. elim (cases_eq b t) [
    | inl is ↦
        let here = ap (λ k. bits_at (list_at (slice_set now t row) k) x) is ∙ ap (λ (l : List ℕ). bits_at l x) (get_or-set_same now t row [] t_in) in
        let same = ap (λ k. bits_at (tops k) x) is in
        omega (arith, here, same, raises.below x, joined_at (list_at now t) room x (sym (so_far.each t t_in)), along e e_in from x, so_far.under tops along under b x, ap (λ k. bits_at (list_at now k) x) is)
    | inr ne ↦ (let there = ap (λ (l : List ℕ). bits_at l x) (get_or-set_other now t b row [] ne) in omega (arith, there, so_far.under tops along under b x))
  ];
}
  where
    t : ℕ
    t = (edge_at prepared.crossed.between.edges.items e).target

    t_in : (edge_at prepared.crossed.between.edges.items e).target < length now
    t_in = omega (arith, out.target e e_in, so_far.long)

-- the edges from a block
pub out_edges : (graph : GraphShape) (prepared : Prepared) (block rows : ℕ) → AreBetween true graph.nodes prepared.crossed.blocks.lists (length prepared.crossed.blocks.lists) prepared.crossed.between.edges.items prepared.crossed.between.firsts.items
    → block < length prepared.crossed.blocks.lists → rows ≡ length prepared.crossed.blocks.lists → AreOut prepared block rows
out_edges graph prepared block rows between lt long = record {
  first = omega (arith, between.long, lt);
  last = between.under (suc block);
  target = λ e e_in. omega (arith, long, (between.sound e (edge_at prepared.crossed.between.edges.items e) (slice_get-get_or prepared.crossed.between.edges.items e _ e_in)).within);
  source = λ e from to. between.only e block (edge_at prepared.crossed.between.edges.items e) (slice_get-get_or prepared.crossed.between.edges.items e _ (omega (arith, to, between.under (suc block)))) from to;
}

module _ (asked : Asked) (graph : GraphShape) (prepared : Prepared) where
  -- rows that stay
  pub passed_same : (rows : List (List ℕ)) → AreRows graph prepared.crossed.blocks.lists rows → PassedRows asked graph prepared rows rows
  passed_same rows are = record { rows = are; below = λ shifts have wanted is under. under }

  -- rows that are raised twice
  pub passed_then : (old now new : List (List ℕ)) → PassedRows asked graph prepared old now → PassedRows asked graph prepared now new → PassedRows asked graph prepared old new
  passed_then old now new first second = record { rows = second.rows; below = λ shifts have wanted is under. second.below shifts have wanted is (first.below shifts have wanted is under) }

-- no wanted bits
pub rows_none : (graph : GraphShape) (lists : List (List ℕ)) (blocks vars : ℕ) (wanted : ℕ → ℕ → ℕ) → RowsBelow graph lists wanted (replicate blocks (replicate vars 0))
rows_none graph lists blocks vars wanted b x = elim (cases_lt b blocks) [
  | inl lt ↦
      let row = ap (λ (l : List ℕ). bits_at l x) (get_or-replicate {A = List ℕ} blocks b (replicate vars 0) [] lt) in
      elim (cases_lt x vars) [
        | inl x_in ↦ (let zero : bits_at (replicate vars 0) x ≡ 0 = get_or-replicate {A = ℕ} vars x 0 0 x_in in omega (arith, row, zero))
        | inr past ↦ (let zero : bits_at (replicate vars 0) x ≡ 0 = get_or_past (replicate vars 0) x 0 (omega (arith, past, length-replicate {A = ℕ} vars 0)) in omega (arith, row, zero))
      ]
  | inr ge ↦ (let none = ap (λ (l : List ℕ). bits_at l x) (get_or_past (replicate blocks (replicate vars 0)) b [] (omega (arith, ge, length-replicate {A = List ℕ} blocks (replicate vars 0)))) in omega (arith, none))
]

-- nothing
abbrev none_of : Option (List ℕ)
none_of = None

-- an item of a list of nothing
no_item : (count n : ℕ) (l : List ℕ) → slice_get (replicate count none_of) n ≡ Some (Some l) → ⊥
no_item count n l e =
    let lt = slice_get_within (replicate count None) n (Some l) e in
    let first = get_or_from_slice_get (replicate count None) n (Some l) None e in
    let second = get_or-replicate {A = Option (List ℕ)} count n None None (omega (arith, lt, length-replicate {A = Option (List ℕ)} count None)) in
    let both : none_of ≡ Some l = sym second ∙ first in
    cc

-- nothing that is asked for
pub asks_none : (graph : GraphShape) (count : ℕ) (wanted : ℕ → ℕ → ℕ) → AsksBelow graph wanted (replicate count None)
asks_none graph count wanted = record {
  start = λ l e x lt. absurd (no_item count 0 l e);
  calls = λ n into unit operands next l here e. absurd (no_item count n l e);
}

module _ (graph : GraphShape) (asked : Asked) (asks : AsksFew asked) (shifts : ℕ → ℕ → Option Shift) (back : ℕ → Option Shift) (have : HaveBacks graph shifts back) (can : CanMake graph.vars graph.received graph.nodes) (lists : List (List ℕ)) (are : IsBlocks graph.nodes lists) (edges : List Edge) (firsts : List ℕ) (between : AreBetween true graph.nodes lists (length lists) edges firsts)
    (others : ℕ → ℕ → ℕ) (wanted : AreWantedBy asked graph shifts others) (rows : List (List ℕ)) (fit : AreRows graph lists rows) (below : RowsBelow graph lists others rows) where
  -- as long as what is wanted behind the block
  row_long : (b : ℕ) → b < length rows → length (list_at rows b) ≡ length (behind_rows graph lists others b)
  row_long b lt = fit.each b lt ∙ sym (lists_long graph asked asks shifts back have can lists are edges firsts between others wanted b)

  -- over an edge
  pub step_below : (b e : ℕ) → b < length rows → HasFew (before_list graph asked back (list_at lists b) (list_at rows b)) → e < length edges → (edge_at edges e).source ≡ b
      → FewerEach (before_list graph asked back (list_at lists b) (list_at rows b)) (behind_rows graph lists others (edge_at edges e).target)
  step_below b e lt few e_in from x =
      let solve = others_solve graph asked asks shifts back have can lists are edges firsts between others wanted in
      let behind = behind_rows graph lists others in
      let source = (edge_at edges e).source in
      let passed = below_fewer (capped (before_list graph asked back (list_at lists source) (behind source))) (behind (edge_at edges e).target) (solve.above_edges e e_in) x in
      let cap = capped_at (before_list graph asked back (list_at lists source) (behind source)) x in
      let same = ap (λ k. bits_at (before_list graph asked back (list_at lists k) (behind k)) x) from in
      let more = list_more graph asked back (list_at lists b) (list_at rows b) (behind b) (row_long b lt) (below b) x in
      omega (arith, passed, cap, same, more, few x)

  -- behind a node of a block
  behind_fewer : (b i n : ℕ) (list : List ℕ) (x : ℕ) → b < length rows → slice_get lists b ≡ Some list → slice_get list i ≡ Some n → x < length graph.vars
      → bits_at (before_list graph asked back (drop (suc i) list) (list_at rows b)) x ≤ greatest (λ s. others s x) (succs_at graph.nodes n)
  behind_fewer b i n list x lt listed at x_in = go (slice_get list (suc i)) refl
    where
      behind : List ℕ
      behind = behind_rows graph lists others b

      more : bits_at (before_list graph asked back (drop (suc i) list) (list_at rows b)) x ≤ bits_at (before_list graph asked back (drop (suc i) list) (behind_rows graph lists others b)) x
      more = list_more graph asked back (drop (suc i) list) (list_at rows b) (behind_rows graph lists others b) (row_long b lt) (below b) x

      go : (o : Option ℕ) → slice_get list (suc i) ≡ o → bits_at (before_list graph asked back (drop (suc i) list) (list_at rows b)) x ≤ greatest (λ s. others s x) (succs_at graph.nodes n)
      go (Some m) e =
          let before = chain_inner graph.nodes list i m (are.blocks b list listed).chain e in
          let same : before.0 ≡ n = (let both : Some before.0 ≡ Some n = sym before.1 ∙ at in cc) in
          let leads = ap (greatest (λ s. others s x)) (ap (succs_at graph.nodes) (sym same) ∙ before.2.leaves) in
          let few = block_fewer graph asked asks shifts back have can lists are edges firsts between others wanted b (suc i) m list x listed e x_in in
          omega (arith, more, few, leads)
      go None e =
          let empty = ap (λ l. bits_at (before_list graph asked back l (behind_rows graph lists others b)) x) (drop_none list (suc i) e) in
          let end : end_node (list_at lists b) ≡ n = ap end_node (get_or_from_slice_get lists b list [] listed) ∙ end_is list n (ends_at_none list i n at e) in
          let is = by_vars_at (length graph.vars) (λ y. greatest (λ s. others s y) (succs_at graph.nodes (end_node (list_at lists b)))) x x_in in
          let at_end = ap (λ k. greatest (λ s. others s x) (succs_at graph.nodes k)) end in
          omega (arith, more, empty, is, at_end)

  -- what the nodes of a block ask for
  module _ (b : ℕ) (list row : List ℕ) (old new : List (Option (List ℕ))) (lt : b < length rows) (listed : slice_get lists b ≡ Some list) (row_is : row ≡ list_at rows b) (notes : NotesFrom (λ n. ask_past graph.shared) None graph asked back list row 0 old new) (before : AsksBelow graph others old) where
    -- it was asked for before, or is made of the numbers behind the node
    either : (n : ℕ) (l : List ℕ) → slice_get new n ≡ Some (Some l)
        → ((i : ℕ) × (slice_get list i ≡ Some n) × (ask_past graph.shared (slice_get graph.nodes n) (before_list graph asked back (drop (suc i) list) (list_at rows b)) ≡ Some l)) ⊎ (slice_get old n ≡ Some (Some l))
    either n l at = elim (notes.others n) [
      | inl some ↦ inl (some.0, some.1, ap (λ r. ask_past graph.shared (slice_get graph.nodes n) (before_list graph asked back (drop (suc some.0) list) r)) (sym row_is) ∙ sym (notes.noted some.0 n (omega arith) some.1) ∙ get_or_from_slice_get new n (Some l) None at)
      | inr same ↦ inr (slice_get-get_or old n None (omega (arith, slice_get_within new n (Some l) at, notes.long)) ∙ ap Some (sym same ∙ get_or_from_slice_get new n (Some l) None at))
    ]

    pub asks_noted : AsksBelow graph others new
    asks_noted = record {
      start = λ l at x x_in. elim (either 0 l at) [
        | inl c ↦
            let rest = before_list graph asked back (drop (suc c.0) list) (list_at rows b) in
            let here = can.start.1 in
            let both : Some rest ≡ Some l = sym (ap (λ o. ask_past graph.shared o rest) here) ∙ c.2 in
            let is : rest ≡ l = cc in
            let fewer = behind_fewer b c.0 0 list x lt listed c.1 x_in in
            let leads = ap (λ o. greatest (λ s. others s x) (succs_of o)) here in
            let kept = wanted.behind 0 0 can.start.0 x (Start can.start.0) here (ap (λ o. slice_get (succs_of o) 0) here) refl in
            omega (arith, ap (λ k. bits_at k x) is, fewer, leads, kept)
        | inr was ↦ before.start l was x x_in
      ];
      calls = λ n into unit operands next l here at. elim (either n l at) [
        | inl c ↦
            let rest = before_list graph asked back (drop (suc c.0) list) (list_at rows b) in
            let both : Some (back_list graph.shared into (bits_at rest)) ≡ Some l = sym (ap (λ o. ask_past graph.shared o rest) here) ∙ c.2 in
            let is : back_list graph.shared into (bits_at rest) ≡ l = cc in
            record {
              lower = rest;
              is = sym is;
              fewer = λ x x_in.
                  let leads = ap (λ o. greatest (λ s. others s x) (succs_of o)) here in
                  omega (arith, behind_fewer b c.0 n list x lt listed c.1 x_in, leads);
            }
        | inr was ↦ before.calls n into unit operands next l here was
      ];
    }
