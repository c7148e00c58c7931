-- Demands that are raised to what is asked for by numbers that lie below all that serve: they stay at most all that serve
-- all units.
use Rattle.std.proofs.Common.{◌≡◌, ℕ, zero, suc, ◌+◌, ◌<◌, ◌≤◌, Bool, inl, inr, List, [], ◌∷◌, ◌++◌, length, map, slice_get, slice_index_or, slice_set, Option, Some, None, refl, sym, ap, ◌∙◌, subst, arith, le_refl}
use Rattle.std.proofs.lemmas.Bool.{cases_eq, cases_lt}
use Rattle.std.proofs.lemmas.List.{get_or_past, get_or-set_other, get_or-set_same, length-map, length-set, length_push}
use Rattle.std.proofs.lemmas.List.FromFn.{get_or-map-range_with_len, length-map-range_with_len}
use Rattle.std.proofs.lemmas.Option.{get_or_from_slice_get, slice_get_within, slice_get-get_or}
use Rattle.mir_base.specs.declared.instructions.Operand.{Operand}
use Rattle.mir_base.specs.Frames.{shared_vars}
use Rattle.node_list.specs.Lists.{list_at}
use Rattle.flow_graph.specs.declared.nodes.Node.{Node}
use Rattle.flow_graph.specs.declared.nodes.Node.TheVariants.{Start, Skip, Assign, Print, Guard, Call, Test, Return}
use Rattle.flow_graph.specs.Graphs.{CanMake, GraphShape, SharesVars}
use Rattle.flow_graph.specs.ListLaws.{get_push}
use Rattle.program_pass.specs.GraphPrograms.{shared_in}
use Rattle.wanted_bits.specs.declared.kept.Kept.{Kept}
use Rattle.wanted_bits.specs.declared.picking.Shift.{Shift}
use Rattle.wanted_bits.specs.declared.preparing.Prepared.{Prepared}
use Rattle.wanted_bits.specs.Asks.{back_list, into_bits, kept_bits}
use Rattle.wanted_bits.specs.BitsOrder.{HasFew, joined_bits}
use Rattle.wanted_bits.specs.KeptRows.{FitsKept, LieBelow, LieLowest, StayBelow}
use Rattle.wanted_bits.specs.MoreWanted.{most_past}
use Rattle.wanted_bits.specs.Preparing.{IsPrepared}
use Rattle.wanted_bits.specs.Walking.{bits_at}
use Rattle.wanted_bits.specs.WalkLaws.{AsksFew, FewerEach, read_most}
use Rattle.wanted_bits.specs.Wanted.{AreWantedBy, Asked, wanted_at}
use Rattle.program_wanted.specs.Demands.{AreServed, AskNoMore, Demands, FewerRows, FitGraphs, IsServed, asked_at}
use Rattle.program_wanted.specs.DemandLaws.{back_most, demands_more, fewer_back, received_low, wanted_less}
use Rattle.program_wanted.specs.Hastening.{AreKeptBelow, IsKept, KeptOf, kept_at}
use Rattle.program_wanted.specs.Sweeps.{CallsFitRows, FitTogether, HaveAsked, IsProgress, RaisesTo}
use Rattle.program_wanted.proofs.Rooms.{Raised, row_least, row_raised}
use Rattle.program_wanted.proofs.UnitServes.{map_at, map_most, rows_few, rows_stay}

-- ---- what is kept

-- at most 64 bits are asked for around a unit
few_asked : (demands : Demands) (shared u : ℕ) → AsksFew (asked_at demands shared u)
few_asked demands shared u = record { globals = λ v x. omega arith; arguments = λ v i. omega arith; left = λ x. omega arith; result = omega arith }

-- 64 bits of each variable solve a unit
all_wanted : (asked : Asked) (graph : GraphShape) (shifts : ℕ → ℕ → Option Shift) → AsksFew asked → AreWantedBy asked graph shifts (λ n x. 64)
all_wanted asked graph shifts few = record { most = λ n x. le_refl 64; here = λ n x node here. at n x node; behind = λ n slot s x node here edge off. le_refl 64 }
  where
    at : (n x : ℕ) (node : Node) → wanted_at graph asked (shifts n) (λ m y. 64) node x ≤ 64
    at n x (Assign y rhs next) = most_past _ rhs 64 x (le_refl 64)
    at n x (Start next) = read_most graph asked (Start next) x few
    at n x (Skip next) = read_most graph asked (Skip next) x few
    at n x (Print a next) = read_most graph asked (Print a next) x few
    at n x (Guard test number next) = read_most graph asked (Guard test number next) x few
    at n x (Call into v operands next) = read_most graph asked (Call into v operands next) x few
    at n x (Test test taken other) = read_most graph asked (Test test taken other) x few
    at n x (Return a) = read_most graph asked (Return a) x few

-- what lies below whatever is wanted
pub kept_first : (graphs : List GraphShape) (u : ℕ) (graph : GraphShape) (ready : Prepared) (kept : Kept) → FitsKept graph ready kept → LieLowest graph ready kept → KeptOf graphs u graph ready kept
kept_first graphs u graph ready kept fits lowest = record { fits = fits; below = λ others served unit. lowest unit.wanted; whole = lowest (λ n x. 64) }

-- what is kept of a unit, raised by what is asked for around it
pub kept_stays : (graphs : List GraphShape) (u : ℕ) (graph : GraphShape) (ready : Prepared) (old new : Kept) (demands : Demands) → IsProgress graphs demands → IsPrepared graph ready → FitsKept graph ready new
    → StayBelow (asked_at demands graph.shared u) graph ready old new → KeptOf graphs u graph ready old → KeptOf graphs u graph ready new
kept_stays graphs u graph ready old new demands progress prepared fits stay of = record {
  fits = fits;
  below = λ others served unit. stay unit.shifts unit.tell unit.wanted
      (wanted_less (asked_at demands graph.shared u) (asked_at others graph.shared u) (demands_more graphs demands others progress.fit served.fit (progress.below others served) graph.shared u) graph unit.shifts unit.wanted unit.are)
      (of.below others served unit);
  whole = stay prepared.backs.shifts prepared.backs.shifts_are (λ n x. 64) (all_wanted (asked_at demands graph.shared u) graph prepared.backs.shifts (few_asked demands graph.shared u)) of.whole;
}

-- one unit more
pub kept_more : (graphs : List GraphShape) (all : List Prepared) (count : ℕ) (one : Kept) (now new : List Kept) → AreKeptBelow graphs all count now → IsKept graphs all count one → new ≡ now ++ one ∷ [] → AreKeptBelow graphs all (count + 1) new
kept_more graphs all count one now new so_far is put = record {
  long = ap (λ (l : List Kept). length l) put ∙ length_push now one ∙ ap (λ n. n + 1) so_far.long;
  each = λ u kept at. elim (get_push now one kept u (sym (ap (λ (l : List Kept). slice_get l u) put) ∙ at)) as (λ _. IsKept graphs all u kept) [
    | inl was ↦ so_far.each u kept was
    | inr here ↦ subst (IsKept graphs all u) here.1 (subst (λ n. IsKept graphs all n one) (sym (here.0 ∙ so_far.long)) is)
  ];
}

-- one unit that is put
pub kept_put : (graphs : List GraphShape) (all : List Prepared) (count u : ℕ) (one : Kept) (now : List Kept) → u < length now → AreKeptBelow graphs all count now → IsKept graphs all u one → AreKeptBelow graphs all count (slice_set now u one)
kept_put graphs all count u one now lt so_far is = record {
  long = length-set now u one ∙ so_far.long;
  each = λ v kept at. elim (cases_eq v u) [
    | inl e ↦
        let here = get_or_from_slice_get (slice_set now u one) v kept one at in
        let there : slice_index_or (slice_set now u one) v one ≡ one = ap (λ k. slice_index_or (slice_set now u one) k one) e ∙ get_or-set_same now u one one lt in
        subst (λ k. IsKept graphs all k kept) (sym e) (subst (IsKept graphs all u) (sym there ∙ here) is)
    | inr ne ↦
        let here = get_or_from_slice_get (slice_set now u one) v kept one at in
        let same = get_or-set_other now u v one one ne in
        so_far.each v kept (slice_get-get_or now v one (omega (arith, slice_get_within (slice_set now u one) v kept at, length-set now u one)) ∙ ap Some (sym same ∙ here))
  ];
}

-- ---- what is raised

-- what is known of Start is at most what is known of its numbers
kept_most : (asks : List (Option (List ℕ))) (x k : ℕ) → ((l : List ℕ) → slice_get asks 0 ≡ Some (Some l) → bits_at l x ≤ k) → kept_at asks x ≤ k
kept_most [] x k few = omega arith
kept_most (None ∷ asks) x k few = omega arith
kept_most (Some l ∷ asks) x k few = omega (arith, few l refl)

-- and at most 64
kept_few : (asks : List (Option (List ℕ))) (x : ℕ) → kept_at asks x ≤ 64
kept_few [] x = omega arith
kept_few (None ∷ asks) x = omega arith
kept_few (Some l ∷ asks) x = omega arith

module _ (graphs : List GraphShape) (fit : FitTogether graphs) (u : ℕ) (graph : GraphShape) (at : slice_get graphs u ≡ Some graph) (can : CanMake graph.vars graph.received graph.nodes) (shares : SharesVars graph.shared graph.vars graph.received)
    (old : Demands) (progress : IsProgress graphs old) (ready : Prepared) (kept : Kept) (of : KeptOf graphs u graph ready kept) where
  abbrev asks : List (Option (List ℕ))
  asks = kept.asks.items

  -- what is asked for of each global and of each argument
  abbrev pub kept_globals : List ℕ
  kept_globals = map (kept_at kept.asks.items) (shared_vars graph.shared)

  abbrev pub kept_arguments : List ℕ
  kept_arguments = map (kept_at kept.asks.items) graph.received

  -- they are as long as the rows
  pub kept_globals_long : length kept_globals ≡ length (list_at old.globals u)
  kept_globals_long = length-map-range_with_len (kept_at asks) 0 graph.shared ∙ sym (progress.fit.globals.each u graph at).0

  pub kept_arguments_long : length kept_arguments ≡ length (list_at old.arguments u)
  kept_arguments_long = length-map graph.received (kept_at asks) ∙ sym (progress.fit.arguments.each u graph at).0

  -- a call's ask by lower numbers than these
  by_lower : (into : Option ℕ) (v : ℕ) (operands : List Operand) (n next : ℕ) (lower : List ℕ) (wanted : ℕ → ℕ) → slice_get graph.nodes n ≡ Some (Call into v operands next) → ((x : ℕ) → x < length graph.vars → bits_at lower x ≤ wanted x)
      → FewerEach (back_list graph.shared into (bits_at lower)) (back_list graph.shared into wanted)
  by_lower into v operands n next lower wanted here fewer =
      fewer_back graph.shared (length graph.vars) into (bits_at lower) wanted shares.count (λ y e. (can.below n (Call (Some y) v operands next) (here ∙ ap (λ i. Some (Call i v operands next)) e)).0) fewer

  back_long : (o : Option ℕ) (f : ℕ → ℕ) → length (back_list graph.shared o f) ≡ suc graph.shared
  back_long o f = length_push (map (kept_bits o f) (shared_vars graph.shared)) (into_bits o f) ∙ ap (λ n. n + 1) (length-map-range_with_len (kept_bits o f) 0 graph.shared) ∙ omega arith

  -- the rows of what units hand back fit what the calls ask for
  pub kept_fit : CallsFitRows graph kept.asks.items old.backs
  kept_fit = record {
    few = rows_few graphs (λ g. suc g.shared) old.backs progress.fit.backs;
    long = of.fits.asks;
    fit = λ n node ask here at_n into v operands next l is asked.
        let call = here ∙ ap Some is in
        let v_in = fit.calls u graph at n into v operands next call in
        let other = slice_get-get_or graphs v graph v_in in
        let made = of.whole.asks.calls n into v operands next l call (at_n ∙ ap Some asked) in
        let row = (progress.fit.backs.each v (slice_index_or graphs v graph) other).0 in
        let alike = fit.share v (slice_index_or graphs v graph) other ∙ sym (fit.share u graph at) in
        let most = back_most graph.shared into (λ x. 64) (λ x. le_refl 64) in
        let fewer = by_lower into v operands n next made.lower (λ x. 64) call made.fewer in (
          omega (arith, v_in, progress.fit.backs.long),
          ap (λ (k : List ℕ). length k) made.is ∙ back_long into (bits_at made.lower) ∙ ap suc (sym alike) ∙ sym row,
          λ x. omega (arith, ap (λ k. bits_at k x) made.is, fewer x, most x),
        );
  }

  module _ (new_globals new_arguments backs : List (List ℕ)) (back : Bool)
      (globals_are : new_globals ≡ slice_set old.globals u (joined_bits (list_at old.globals u) (map (kept_at kept.asks.items) (shared_vars graph.shared))))
      (arguments_are : new_arguments ≡ slice_set old.arguments u (joined_bits (list_at old.arguments u) (map (kept_at kept.asks.items) graph.received)))
      (raises : RaisesTo graph kept.asks.items (length graph.nodes) old.backs backs back) where
    abbrev new : Demands
    new = record { globals = new_globals; arguments = new_arguments; backs = backs }

    lt : u < length graphs
    lt = slice_get_within graphs u graph at

    row_in : u < length old.globals
    row_in = omega (arith, lt, progress.fit.globals.long)

    row_in' : u < length old.arguments
    row_in' = omega (arith, lt, progress.fit.arguments.long)

    few : (v : ℕ) → HasFew (list_at old.globals v)
    few = rows_few graphs (λ g. g.shared) old.globals progress.fit.globals

    few' : (v : ℕ) → HasFew (list_at old.arguments v)
    few' = rows_few graphs (λ g. length g.received) old.arguments progress.fit.arguments

    globals_few : HasFew kept_globals
    globals_few = map_most (kept_at asks) (shared_vars graph.shared) (kept_few asks)

    arguments_few : HasFew kept_arguments
    arguments_few = map_most (kept_at asks) graph.received (kept_few asks)

    first : Raised old.globals new_globals
    first = subst (Raised old.globals) (sym globals_are) (row_raised old.globals u kept_globals row_in kept_globals_long globals_few few)

    second : Raised old.arguments new_arguments
    second = subst (Raised old.arguments) (sym arguments_are) (row_raised old.arguments u kept_arguments row_in' kept_arguments_long arguments_few few')

    fits : FitGraphs graphs new
    fits = record {
      globals = rows_stay graphs (λ g. g.shared) old.globals new_globals progress.fit.globals first.stay;
      arguments = rows_stay graphs (λ g. length g.received) old.arguments new_arguments progress.fit.arguments second.stay;
      backs = rows_stay graphs (λ g. suc g.shared) old.backs backs progress.fit.backs raises.stay;
    }

    module _ (others : Demands) (served : AreServed graphs others) where
      under : AskNoMore old others
      under = progress.below others served

      unit : IsServed others graph u
      unit = served.units u graph at

      lies : LieBelow graph ready unit.wanted kept
      lies = of.below others served unit

      start_fewer : (x : ℕ) → x < length graph.vars → kept_at kept.asks.items x ≤ unit.wanted 0 x
      start_fewer x x_in = kept_most asks x (unit.wanted 0 x) (λ l e. lies.asks.start l e x x_in)

      globals_fewer : FewerEach kept_globals (list_at others.globals u)
      globals_fewer x = elim (cases_lt x graph.shared) [
        | inl low ↦
            let is : bits_at kept_globals x ≡ kept_at asks x = get_or-map-range_with_len (kept_at asks) 0 graph.shared x x 0 low (omega arith) in
            omega (arith, is, start_fewer x (omega (arith, low, shares.count)), unit.globals x low)
        | inr ge ↦ omega (arith, get_or_past kept_globals x 0 (omega (arith, ge, length-map-range_with_len (kept_at asks) 0 graph.shared)))
      ]

      argument_fewer : (i : ℕ) (o : Option ℕ) → slice_get graph.received i ≡ o → bits_at kept_arguments i ≤ bits_at (list_at others.arguments u) i
      argument_fewer i (Some x) at_i =
          let is = map_at (kept_at asks) graph.received i x at_i in
          omega (arith, is, start_fewer x (received_low graph can i x at_i), unit.arguments i x at_i)
      argument_fewer i None at_i = omega (arith, none graph.received i at_i)
        where
          none : (xs : List ℕ) (j : ℕ) → slice_get xs j ≡ None → bits_at (map (kept_at kept.asks.items) xs) j ≡ 0
          none [] j e = refl
          none (y ∷ xs) zero e = cc
          none (y ∷ xs) (suc j) e = none xs j e

      calls_fewer : HaveAsked graph kept.asks.items (length graph.nodes) others.backs
      calls_fewer n into v operands next l n_in here at_n =
          let made = lies.asks.calls n into v operands next l here at_n in
          let less = by_lower into v operands n next made.lower (unit.wanted next) here made.fewer in
          (λ x. omega (arith, ap (λ k. bits_at k x) made.is, less x, unit.calls n into v operands next here x))

      new_below : AskNoMore new others
      new_below = record {
        globals = subst (λ rows. FewerRows rows others.globals) (sym globals_are) (row_least old.globals u kept_globals row_in kept_globals_long globals_few few others.globals under.globals globals_fewer);
        arguments = subst (λ rows. FewerRows rows others.arguments) (sym arguments_are) (row_least old.arguments u kept_arguments row_in' kept_arguments_long arguments_few few' others.arguments under.arguments (λ i. argument_fewer i (slice_get graph.received i) refl));
        backs = raises.least others.backs under.backs calls_fewer;
      }

    pub unit_hastens : IsProgress graphs new
    unit_hastens = record { fit = fits; whole = omega (arith, progress.whole, raises.rise 0 (shared_in graphs)); below = new_below }
