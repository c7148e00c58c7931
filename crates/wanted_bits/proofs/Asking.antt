-- What the nodes ask for is what is wanted behind them.
use Rattle.std.proofs.Common.{◌≡◌, ℕ, zero, suc, ◌+◌, true, ◌<◌, ◌≤◌, if◌then◌else◌, List, [], ◌∷◌, ◌++◌, drop, length, map, slice_get, slice_index_or, Option, Some, None, refl, sym, ap, ◌∙◌, arith}
use Rattle.std.specs.List.{range_with_len}
use Rattle.std.proofs.lemmas.List.{ext_get_or}
use Rattle.std.proofs.lemmas.List.FromFn.{get_or-map-range_with_len, length-map-range_with_len}
use Rattle.std.proofs.lemmas.Option.{slice_get-get_or}
use Rattle.fix_solve.specs.Net.{IsLeastSolution}
use Rattle.mir_base.specs.declared.instructions.Operand.{Operand}
use Rattle.mir_base.specs.Frames.{shared_vars}
use Rattle.flow_graph.specs.declared.edges.Edge.{Edge}
use Rattle.flow_graph.specs.declared.nodes.Node.{Node}
use Rattle.flow_graph.specs.declared.nodes.Node.TheVariants.{Call}
use Rattle.flow_graph.specs.Blocks.{IsBlocks}
use Rattle.flow_graph.specs.Graphs.{CanMake, GraphShape, succs_of}
use Rattle.path_laws.specs.Between.{AreBetween}
use Rattle.wanted_bits.specs.Asks.{Ask, ask_past, back_list, into_bits, kept_bits}
use Rattle.wanted_bits.specs.BitsOrder.{BelowLists}
use Rattle.wanted_bits.specs.declared.picking.Shift.{Shift}
use Rattle.wanted_bits.specs.Walking.{HaveBacks, before_list, bits_at, is_into}
use Rattle.wanted_bits.specs.WalkLaws.{AsksFew}
use Rattle.wanted_bits.specs.Wanted.{Asked}
use Rattle.wanted_bits.specs.WantedNet.{wanted_net}
use Rattle.wanted_bits.proofs.LeastNumbers.{bits_by, long_from, start_same, succ_same}

-- one number more
range_more : (a n : ℕ) → range_with_len a (suc n) ≡ range_with_len a n ++ (a + n) ∷ []
range_more a zero = let same : a ≡ a + 0 = omega arith in ap (λ k. k ∷ []) same
range_more a (suc n) =
    let same : a + 1 + n ≡ a + suc n = omega arith in
    ap (λ l. a ∷ l) (range_more (a + 1) n ∙ ap (λ k. range_with_len (a + 1) n ++ k ∷ []) same)

-- of those from 0 on
pub range_push : (n : ℕ) → range_with_len 0 (n + 1) ≡ range_with_len 0 n ++ n ∷ []
range_push n =
    let next : n + 1 ≡ suc n = omega arith in
    let same : 0 + n ≡ n = omega arith in
    ap (range_with_len 0) next ∙ range_more 0 n ∙ ap (λ k. range_with_len 0 n ++ k ∷ []) same

-- of the same numbers the same is asked for
same_back : (shared vars : ℕ) (into : Option ℕ) (f g : ℕ → ℕ) → shared ≤ vars → ((y : ℕ) → into ≡ Some y → y < vars) → ((x : ℕ) → x < vars → f x ≡ g x) → back_list shared into f ≡ back_list shared into g
same_back shared vars into f g least own same =
    ap (λ (l : List ℕ). l ++ into_bits into f ∷ []) globals ∙ ap (λ k. map (kept_bits into g) (shared_vars shared) ++ k ∷ []) (result into own)
  where
    kept : (x : ℕ) → x < shared → kept_bits into f x ≡ kept_bits into g x
    kept x low = ap (λ k. if is_into x into then 0 else k) (same x (omega (arith, low, least)))

    globals : map (kept_bits into f) (shared_vars shared) ≡ map (kept_bits into g) (shared_vars shared)
    globals = ext_get_or 0 (map (kept_bits into f) (shared_vars shared)) (map (kept_bits into g) (shared_vars shared))
        (length-map-range_with_len (kept_bits into f) 0 shared ∙ sym (length-map-range_with_len (kept_bits into g) 0 shared))
        (λ x lt.
        let low : x < shared = omega (arith, lt, length-map-range_with_len (kept_bits into f) 0 shared) in
        get_or-map-range_with_len (kept_bits into f) 0 shared x x 0 low (omega arith) ∙ kept x low ∙ sym (get_or-map-range_with_len (kept_bits into g) 0 shared x x 0 low (omega arith)))

    result : (o : Option ℕ) → ((y : ℕ) → o ≡ Some y → y < vars) → into_bits o f ≡ into_bits o g
    result None own = refl
    result (Some y) own = same y (own y refl)

module _ (graph : GraphShape) (asked : Asked) (few : AsksFew asked) (shifts : ℕ → ℕ → Option Shift) (back : ℕ → Option Shift) (have : HaveBacks graph shifts back) (can : CanMake graph.vars graph.received graph.nodes) (least : graph.shared ≤ length graph.vars) (lists : List (List ℕ)) (are : IsBlocks graph.nodes lists) (edges : List Edge) (firsts : List ℕ) (between : AreBetween true graph.nodes lists (length lists) edges firsts)
    (values : ℕ → List ℕ) (is : IsLeastSolution BelowLists (wanted_net graph asked back lists edges firsts) values) (asks : List (Option (List ℕ))) (long : length asks ≡ length graph.nodes)
    (noted : (b i n : ℕ) (list : List ℕ) → slice_get lists b ≡ Some list → slice_get list i ≡ Some n → slice_index_or asks n None ≡ ask_past graph.shared (slice_get graph.nodes n) (before_list graph asked back (drop (suc i) list) (values b))) where
  abbrev wanted : ℕ → ℕ → ℕ
  wanted = bits_by graph asked few shifts back have can lists are edges firsts between values

  -- a node that asks
  here_ask : (n : ℕ) (lt : n < length graph.nodes) → slice_get asks n ≡ Some (ask_past graph.shared (slice_get graph.nodes n) (before_list graph asked back (drop (suc (are.every n lt).1.place) (are.every n lt).1.list) (values (are.every n lt).0)))
  here_ask n lt =
      let st = are.every n lt in
      slice_get-get_or asks n None (omega (arith, lt, long)) ∙ ap Some (noted st.0 st.1.place n st.1.list st.1.listed st.1.is)

  call_ask : (n : ℕ) (into : Option ℕ) (unit : ℕ) (operands : List Operand) (next : ℕ) → slice_get graph.nodes n ≡ Some (Call into unit operands next) → (lt : n < length graph.nodes) → slice_get asks n ≡ Some (Some (back_list graph.shared into (wanted next)))
  call_ask n into unit operands next here lt =
      let st = are.every n lt in
      let rest = before_list graph asked back (drop (suc st.1.place) st.1.list) (values st.0) in
      here_ask n lt ∙ ap (λ o. Some (ask_past graph.shared o rest)) here
      ∙ ap (λ l. Some (Some l)) (same_back graph.shared (length graph.vars) into (bits_at rest) (wanted next) least own
      (λ x x_in. succ_same graph asked few shifts back have can lists are edges firsts between values is st.0 st.1.place n next st.1.list x st.1.listed st.1.is (0, ap (λ o. slice_get (succs_of o) 0) here) (ap succs_of here) x_in))
    where
      own : (y : ℕ) → into ≡ Some y → y < length graph.vars
      own y e = (can.below n (Call (Some y) unit operands next) (here ∙ ap (λ i. Some (Call i unit operands next)) e)).0

  pub are_asks : (lt : 0 < length graph.nodes) → ((n : ℕ) (node : Node) → slice_get graph.nodes n ≡ Some node → n < length graph.nodes) → Ask graph wanted asks
  are_asks lt within =
      let st = are.every 0 lt in
      let rest = before_list graph asked back (drop (suc st.1.place) st.1.list) (values st.0) in
      record {
        entry = rest;
        at_start = here_ask 0 lt ∙ ap (λ o. Some (ask_past graph.shared o rest)) can.start.1;
        entry_long = long_from graph asked few shifts back have can lists are edges firsts between values is.solves st.0 (suc st.1.place) st.1.list st.1.listed;
        entry_is = λ x x_in. start_same graph asked few shifts back have can lists are edges firsts between values is st.0 st.1.place can.start.0 st.1.list x st.1.listed st.1.is can.start.1 x_in;
        calls = λ n into unit operands next here. call_ask n into unit operands next here (within n (Call into unit operands next) here);
      }
