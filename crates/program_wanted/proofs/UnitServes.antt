-- Demands that are raised to what a unit wants by them: they stay at most all that serve all units, and where nothing is
-- raised, they serve the unit.
use Rattle.std.proofs.Common.{◌≡◌, ◌⊎◌, ◌↔◌, ℕ, zero, suc, ◌+◌, ◌<◌, ◌≤◌, Bool, true, false, ◌||◌, inl, inr, List, [], ◌∷◌, length, map, replicate, slice_get, slice_index_or, slice_set, Option, Some, None, refl, sym, ap, ◌∙◌, subst, arith, true≢false}
use Rattle.std.proofs.lemmas.Bool.{cases_eq, cases_lt, or_parts}
use Rattle.std.proofs.lemmas.Grind.{get_or_default_zero}
use Rattle.std.proofs.lemmas.List.{get_or-set_other, get_or_past, length-map, length-replicate, length-set, length_push}
use Rattle.std.proofs.lemmas.List.FromFn.{get_or-map-range_with_len, length-map-range_with_len}
use Rattle.std.proofs.lemmas.Option.{slice_get_within, slice_get-get_or}
use Rattle.mir_base.specs.Frames.{shared_vars}
use Rattle.node_list.specs.Lists.{list_at}
use Rattle.flow_graph.specs.declared.nodes.Node.TheVariants.{Start, Call}
use Rattle.flow_graph.specs.Graphs.{CanMake, GraphShape, SharesVars, succs_of}
use Rattle.program_pass.specs.GraphPrograms.{shared_in}
use Rattle.wanted_bits.specs.Asking.{width_at}
use Rattle.wanted_bits.specs.Asks.{AreAsks, back_list, into_bits, kept_bits}
use Rattle.wanted_bits.specs.BitsOrder.{HasFew, joined_bits}
use Rattle.wanted_bits.specs.Walking.{bits_at}
use Rattle.wanted_bits.specs.WalkLaws.{FewerEach}
use Rattle.wanted_bits.specs.Wanted.{AreWantedBy}
use Rattle.program_wanted.specs.Demands.{AreLeastDemands, AreNumberRows, AreServed, AskNoMore, Demands, FewerRows, FitGraphs, IsServed, asked_at}
use Rattle.program_wanted.specs.DemandLaws.{back_most, demands_more, fewer_back, least_fewer, received_low, wanted_less}
use Rattle.program_wanted.specs.Sweeps.{CallsFitRows, FitTogether, HaveAsked, IsProgress, RaisesTo, Serves, StayLong, Sweeps, SweepsTo, demands_room, entry_at, rows_room}
use Rattle.flow_graph.specs.Numbering.{is_in}
use Rattle.unit_callers.specs.Calling.{AreUnitCallers}
use Rattle.unit_callers.specs.Stale.{CallersMarked, is_stale}
use Rattle.unit_callers.specs.StaleLaws.{all_marked}
use Rattle.program_wanted.specs.Stale.{FreshAreServed, RaisedMarked}
use Rattle.program_wanted.proofs.Fresh.{CalleesStay, served_kept, wanted_kept}
use Rattle.program_wanted.proofs.Rooms.{Raised, row_has, row_least, row_raised}

-- what is asked for at Start
entry_width : (asks : List (Option (List ℕ))) (l : List ℕ) (x : ℕ) → slice_get asks 0 ≡ Some (Some l) → entry_at asks x ≡ width_at l x
entry_width [] l x e = cc
entry_width (None ∷ asks) l x e = cc
entry_width (Some k ∷ asks) l x e = let same : k ≡ l = cc in ap (λ w. width_at w x) same

-- where it has a number
entry_number : (asks : List (Option (List ℕ))) (l : List ℕ) (x k : ℕ) → slice_get asks 0 ≡ Some (Some l) → x < length l → bits_at l x ≡ k → k ≤ 64 → entry_at asks x ≡ k
entry_number asks l x k e lt is most = entry_width asks l x e ∙ omega (arith, get_or_default_zero l x 64 lt, is, most)

-- the number of an item of a list
pub map_at : (f : ℕ → ℕ) (xs : List ℕ) (i x : ℕ) → slice_get xs i ≡ Some x → bits_at (map f xs) i ≡ f x
map_at f [] i x e = cc
map_at f (y ∷ xs) zero x e = let same : y ≡ x = cc in ap f same
map_at f (y ∷ xs) (suc i) x e = map_at f xs i x e

-- and where there is none
pub map_most : (f : ℕ → ℕ) (xs : List ℕ) → ((x : ℕ) → f x ≤ 64) → HasFew (map f xs)
map_most f [] most i = omega arith
map_most f (y ∷ xs) most zero = most y
map_most f (y ∷ xs) most (suc i) = map_most f xs most i

-- at most 64 bits are asked for
entry_most : (asks : List (Option (List ℕ))) (x : ℕ) → entry_at asks x ≤ 64
entry_most [] x = omega arith
entry_most (None ∷ asks) x = omega arith
entry_most (Some l ∷ asks) x = omega arith

-- rows that keep their lengths
pub rows_stay : (graphs : List GraphShape) (count : GraphShape → ℕ) (old new : List (List ℕ)) → AreNumberRows graphs count old → StayLong old new → AreNumberRows graphs count new
rows_stay graphs count old new are stay = record { long = stay.long ∙ are.long; each = λ u graph at. (stay.each u ∙ (are.each u graph at).0, stay.few u) }

-- all rows have few numbers
pub rows_few : (graphs : List GraphShape) (count : GraphShape → ℕ) (rows : List (List ℕ)) → AreNumberRows graphs count rows → (u : ℕ) → HasFew (list_at rows u)
rows_few graphs count rows are u = elim (cases_lt u (length graphs)) [
  | inl lt ↦ (are.each u (slice_index_or graphs u blank) (slice_get-get_or graphs u blank lt)).1
  | inr ge ↦ (λ x. (let none : list_at rows u ≡ [] = get_or_past rows u [] (omega (arith, ge, are.long)) in omega (arith, ap (λ l. bits_at l x) none)))
]
  where
    blank : GraphShape
    blank = record { name = []; shared = 0; vars = []; received = []; nodes = [] }

module _ (graphs : List GraphShape) (fit : FitTogether graphs) (u : ℕ) (graph : GraphShape) (at : slice_get graphs u ≡ Some graph) (can : CanMake graph.vars graph.received graph.nodes) (shares : SharesVars graph.shared graph.vars graph.received)
    (old : Demands) (progress : IsProgress graphs old) (calls : List (Option (List ℕ))) (are : AreAsks (asked_at old graph.shared u) graph calls) where
  abbrev w : ℕ → ℕ → ℕ
  w = are.wanted

  lt : u < length graphs
  lt = slice_get_within graphs u graph at

  -- what is asked for of each global and of each argument
  abbrev pub globals : List ℕ
  globals = map (entry_at calls) (shared_vars graph.shared)

  abbrev pub arguments : List ℕ
  arguments = map (entry_at calls) graph.received

  entry_is : (x : ℕ) → x < length graph.vars → entry_at calls x ≡ w 0 x
  entry_is x x_in = entry_number calls are.ask.entry x (w 0 x) are.ask.at_start (omega (arith, x_in, are.ask.entry_long)) (are.ask.entry_is x x_in) (are.least.are.most 0 x)

  global_is : (x : ℕ) → x < graph.shared → bits_at globals x ≡ w 0 x
  global_is x low = get_or-map-range_with_len (entry_at calls) 0 graph.shared x x 0 low (omega arith) ∙ entry_is x (omega (arith, low, shares.count))

  argument_is : (i x : ℕ) → slice_get graph.received i ≡ Some x → bits_at arguments i ≡ w 0 x
  argument_is i x at_i = map_at (entry_at calls) graph.received i x at_i ∙ entry_is x (received_low graph can i x at_i)

  -- they are as long as the rows
  pub globals_long : length globals ≡ length (list_at old.globals u)
  globals_long = length-map-range_with_len (entry_at calls) 0 graph.shared ∙ sym (progress.fit.globals.each u graph at).0

  pub arguments_long : length arguments ≡ length (list_at old.arguments u)
  arguments_long = length-map graph.received (entry_at calls) ∙ sym (progress.fit.arguments.each u graph at).0

  globals_few : HasFew globals
  globals_few = map_most (entry_at calls) (shared_vars graph.shared) (entry_most calls)

  arguments_few : HasFew arguments
  arguments_few = map_most (entry_at calls) graph.received (entry_most calls)

  -- the rows of what units hand back fit what the calls ask for
  pub calls_fit : CallsFitRows graph calls old.backs
  calls_fit = record {
    few = rows_few graphs (λ graph. suc graph.shared) old.backs progress.fit.backs;
    long = are.long;
    fit = λ n node ask here at_n into v operands next l is asks.
        let call = here ∙ ap Some is in
        let v_in = fit.calls u graph at n into v operands next call in
        let other = slice_get-get_or graphs v graph v_in in
        let both : Some (Some l) ≡ Some (Some (back_list graph.shared into (w next))) = ap Some (sym asks) ∙ sym at_n ∙ are.ask.calls n into v operands next call in
        let l_is : l ≡ back_list graph.shared into (w next) = cc in
        let row = (progress.fit.backs.each v (slice_index_or graphs v graph) other).0 in
        let alike = fit.share v (slice_index_or graphs v graph) other ∙ sym (fit.share u graph at) in (
          omega (arith, v_in, progress.fit.backs.long),
          ap (λ (k : List ℕ). length k) l_is ∙ back_long graph.shared into (w next) ∙ ap suc (sym alike) ∙ sym row,
          subst HasFew (sym l_is) (back_most graph.shared into (w next) (are.least.are.most next)),
        );
  }
    where
      back_long : (shared : ℕ) (o : Option ℕ) (f : ℕ → ℕ) → length (back_list shared o f) ≡ suc shared
      back_long shared o f = length_push (map (kept_bits o f) (shared_vars shared)) (into_bits o f) ∙ ap (λ n. n + 1) (length-map-range_with_len (kept_bits o f) 0 shared) ∙ omega arith

  module _ (new_globals new_arguments backs : List (List ℕ)) (entered given back : Bool)
      (globals_are : new_globals ≡ slice_set old.globals u (joined_bits (list_at old.globals u) globals)) (globals_tell : (entered ≡ false) ↔ (new_globals ≡ old.globals))
      (arguments_are : new_arguments ≡ slice_set old.arguments u (joined_bits (list_at old.arguments u) arguments)) (arguments_tell : (given ≡ false) ↔ (new_arguments ≡ old.arguments))
      (raises : RaisesTo graph calls (length graph.nodes) old.backs backs back) where
    abbrev new : Demands
    new = record { globals = new_globals; arguments = new_arguments; backs = backs }

    row_in : u < length old.globals
    row_in = omega (arith, lt, progress.fit.globals.long)

    row_in' : u < length old.arguments
    row_in' = omega (arith, lt, progress.fit.arguments.long)

    few : (v : ℕ) → HasFew (list_at old.globals v)
    few = rows_few graphs (λ graph. graph.shared) old.globals progress.fit.globals

    few' : (v : ℕ) → HasFew (list_at old.arguments v)
    few' = rows_few graphs (λ graph. length graph.received) old.arguments progress.fit.arguments

    first : Raised old.globals new_globals
    first = subst (Raised old.globals) (sym globals_are) (row_raised old.globals u globals row_in globals_long globals_few few)

    second : Raised old.arguments new_arguments
    second = subst (Raised old.arguments) (sym arguments_are) (row_raised old.arguments u arguments row_in' arguments_long arguments_few few')

    fits : FitGraphs graphs new
    fits = record {
      globals = rows_stay graphs (λ graph. graph.shared) old.globals new_globals progress.fit.globals first.stay;
      arguments = rows_stay graphs (λ graph. length graph.received) old.arguments new_arguments progress.fit.arguments second.stay;
      backs = rows_stay graphs (λ graph. suc graph.shared) old.backs backs progress.fit.backs raises.stay;
    }

    -- ---- the new demands are at most all that serve all units

    module _ (others : Demands) (served : AreServed graphs others) where
      below : AskNoMore old others
      below = progress.below others served

      unit : IsServed others graph u
      unit = served.units u graph at

      -- the least numbers are at most those by which the others serve the unit
      fewer : (n x : ℕ) → n < length graph.nodes → x < length graph.vars → w n x ≤ unit.wanted n x
      fewer = least_fewer (asked_at old graph.shared u) graph can are.shifts unit.shifts w unit.wanted are.tell unit.tell are.least
          (wanted_less (asked_at old graph.shared u) (asked_at others graph.shared u) (demands_more graphs old others progress.fit served.fit below graph.shared u) graph unit.shifts unit.wanted unit.are)

      start_in : 0 < length graph.nodes
      start_in = slice_get_within graph.nodes 0 (Start can.start.0) can.start.1

      globals_fewer : FewerEach globals (list_at others.globals u)
      globals_fewer x = elim (cases_lt x graph.shared) [
        | inl low ↦ omega (arith, global_is x low, fewer 0 x start_in (omega (arith, low, shares.count)), unit.globals x low)
        | inr ge ↦ omega (arith, get_or_past globals x 0 (omega (arith, ge, length-map-range_with_len (entry_at calls) 0 graph.shared)))
      ]

      argument_fewer : (i : ℕ) (o : Option ℕ) → slice_get graph.received i ≡ o → bits_at arguments i ≤ bits_at (list_at others.arguments u) i
      argument_fewer i (Some x) at_i = omega (arith, argument_is i x at_i, fewer 0 x start_in (received_low graph can i x at_i), unit.arguments i x at_i)
      argument_fewer i None at_i = omega (arith, none graph.received i at_i)
        where
          none : (xs : List ℕ) (j : ℕ) → slice_get xs j ≡ None → bits_at (map (entry_at calls) xs) j ≡ 0
          none [] j e = refl
          none (y ∷ xs) zero e = cc
          none (y ∷ xs) (suc j) e = none xs j e

      calls_fewer : HaveAsked graph calls (length graph.nodes) others.backs
      calls_fewer n into v operands next l n_in here at_n =
          let both : Some (Some l) ≡ Some (Some (back_list graph.shared into (w next))) = sym at_n ∙ are.ask.calls n into v operands next here in
          let l_is : l ≡ back_list graph.shared into (w next) = cc in
          let next_in = (can.succs n 0 next (ap (λ o. slice_get (succs_of o) 0) here)).1 in
          let less : FewerEach (back_list graph.shared into (w next)) (back_list graph.shared into (unit.wanted next)) =
          fewer_back graph.shared (length graph.vars) into (w next) (unit.wanted next) shares.count (λ y e. (can.below n (Call (Some y) v operands next) (here ∙ ap (λ i. Some (Call i v operands next)) e)).0) (λ x x_in. fewer next x next_in x_in) in
          (λ x. omega (arith, ap (λ k. bits_at k x) l_is, less x, unit.calls n into v operands next here x))

      new_below : AskNoMore new others
      new_below = record {
        globals = subst (λ rows. FewerRows rows others.globals) (sym globals_are) (row_least old.globals u globals row_in globals_long globals_few few others.globals below.globals globals_fewer);
        arguments = subst (λ rows. FewerRows rows others.arguments) (sym arguments_are) (row_least old.arguments u arguments row_in' arguments_long arguments_few few' others.arguments below.arguments (λ i. argument_fewer i (slice_get graph.received i) refl));
        backs = raises.least others.backs below.backs calls_fewer;
      }

    new_progress : IsProgress graphs new
    new_progress = record { fit = fits; whole = omega (arith, progress.whole, raises.rise 0 (shared_in graphs)); below = new_below }

    -- ---- where nothing is raised, they serve the unit

    -- the row of the unit has what it asks for
    has_globals : FewerEach globals (list_at new_globals u)
    has_globals = subst (λ rows. FewerEach globals (list_at rows u)) (sym globals_are) (row_has old.globals u globals row_in globals_long globals_few few)

    has_arguments : FewerEach arguments (list_at new_arguments u)
    has_arguments = subst (λ rows. FewerEach arguments (list_at rows u)) (sym arguments_are) (row_has old.arguments u arguments row_in' arguments_long arguments_few few')

    serves_by : AreWantedBy (asked_at new graph.shared u) graph are.shifts w → IsServed new graph u
    serves_by wanted = record {
      shifts = are.shifts;
      tell = are.tell;
      wanted = w;
      are = wanted;
      globals = λ x low. omega (arith, global_is x low, has_globals x);
      arguments = λ i x at_i. omega (arith, argument_is i x at_i, has_arguments i);
      calls = λ n into v operands next here. raises.have n into v operands next (back_list graph.shared into (w next)) (slice_get_within graph.nodes n (Call into v operands next) here) here (are.ask.calls n into v operands next here);
    }

    serves : new ≡ old → IsServed new graph u
    serves same = serves_by (subst (λ d. AreWantedBy (asked_at d graph.shared u) graph are.shifts w) (sym same) are.least.are)

    less : (a b : List (List ℕ)) → Raised a b → rows_room b ≤ rows_room a
    less a b r = elim r.moved [
      | inl e ↦ omega (arith, ap rows_room e)
      | inr l ↦ omega (arith, l)
    ]

    strictly : (a b : List (List ℕ)) (c : Bool) → Raised a b → ((c ≡ false) ↔ (b ≡ a)) → c ≡ true → rows_room b < rows_room a
    strictly a b c r tells on = elim r.moved [
      | inl e ↦ absurd (true≢false (sym on ∙ tells.1 e))
      | inr l ↦ l
    ]

    unchanged : entered ≡ false → given ≡ false → back ≡ false → new ≡ old
    unchanged a b c =
        ap (λ (l : List (List ℕ)). record { globals = l; arguments = new_arguments; backs = backs }) (globals_tell.0 a)
        ∙ ap (λ (l : List (List ℕ)). record { globals = old.globals; arguments = l; backs = backs }) (arguments_tell.0 b)
        ∙ ap (λ (l : List (List ℕ)). record { globals = old.globals; arguments = old.arguments; backs = l }) (raises.stays c)

    changed : (a b c : Bool) → entered ≡ a → given ≡ b → back ≡ c → (a || b || c) ≡ true → demands_room new < demands_room old
    changed true b c is is' is'' on = omega (arith, strictly old.globals new_globals entered first globals_tell is, less old.arguments new_arguments second, raises.room)
    changed false true c is is' is'' on = omega (arith, less old.globals new_globals first, strictly old.arguments new_arguments given second arguments_tell is', raises.room)
    changed false false true is is' is'' on = omega (arith, less old.globals new_globals first, less old.arguments new_arguments second, raises.changes is'')
    changed false false false is is' is'' on = absurd (true≢false (sym on))

    none : (a b c : Bool) → entered ≡ a → given ≡ b → back ≡ c → (a || b || c) ≡ false → new ≡ old
    none false false false is is' is'' off = unchanged is is' is''
    none true b c is is' is'' off = absurd (true≢false off)
    none false true c is is' is'' off = absurd (true≢false off)
    none false false true is is' is'' off = absurd (true≢false off)

    pub unit_serves : Serves graphs u old new (entered || given || back)
    unit_serves = record {
      progress = new_progress;
      room = omega (arith, less old.globals new_globals first, less old.arguments new_arguments second, raises.room);
      changes = changed entered given back refl refl refl;
      stays = none entered given back refl refl refl;
      served = λ off other at'.
          let both : Some graph ≡ Some other = sym at ∙ at' in
          let same : graph ≡ other = cc in
          subst (λ g. IsServed new g u) same (serves (none entered given back refl refl refl off));
    }

    -- ---- units that are not marked are served

    rises : AskNoMore old new
    rises = record { globals = first.rise; arguments = second.rise; backs = raises.rise }

    module _ (callers : List (List ℕ)) (known : AreUnitCallers graphs callers) (stale marked after : List Bool) (fresh : FreshAreServed graphs old stale) (mark_callers : CallersMarked (entered || given) (list_at callers u) (slice_set stale u false) marked) (mark_raised : RaisedMarked old.backs backs marked after) where
      -- the rows of another unit, and of the unit where none was raised
      entry_rows : (v : ℕ) → ((v ≡ u) → (entered || given) ≡ false) → (list_at new_globals v ≡ list_at old.globals v) × (list_at new_arguments v ≡ list_at old.arguments v)
      entry_rows v off = elim (cases_eq v u) [
        | inl e ↦ (
          ap (λ (l : List (List ℕ)). list_at l v) (globals_tell.0 (or_parts entered given (off e)).0),
          ap (λ (l : List (List ℕ)). list_at l v) (arguments_tell.0 (or_parts entered given (off e)).1),
        )
        | inr ne ↦ (
          ap (λ (l : List (List ℕ)). list_at l v) globals_are ∙ get_or-set_other old.globals u v (joined_bits (list_at old.globals u) globals) [] ne,
          ap (λ (l : List (List ℕ)). list_at l v) arguments_are ∙ get_or-set_other old.arguments u v (joined_bits (list_at old.arguments u) arguments) [] ne,
        )
      ]

      -- a unit that is not marked calls no unit of which rows were raised
      callees_stay : (v : ℕ) (other : GraphShape) → slice_get graphs v ≡ Some other → is_stale after v ≡ false → CalleesStay old new other
      callees_stay v other at_v off = record {
        rows = λ n into called operands next here. entry_rows called (λ e.
            quiet (entered || given) refl (λ on.
            true≢false (sym (subst (λ k. is_in v (list_at callers k) ≡ true) e (known.calls v other n into called operands next (slice_get_within graphs v other at_v) at_v here)) ∙ (mark_callers.keeps v (mark_raised.keeps v off).0).1 on)));
      }
        where
          quiet : (b : Bool) → (entered || given) ≡ b → (b ≡ true → ⊥) → b ≡ false
          quiet false is off' = refl
          quiet true is off' = absurd (off' refl)

      -- it was not stale, or is the unit that was served
      was_fresh : (v : ℕ) → is_stale after v ≡ false → (v ≡ u → ⊥) → is_stale stale v ≡ false
      was_fresh v off ne = sym (get_or-set_other stale u v false true ne) ∙ (mark_callers.keeps v (mark_raised.keeps v off).0).0

      fresh_served : (v : ℕ) (other : GraphShape) → slice_get graphs v ≡ Some other → is_stale after v ≡ false → IsServed new other v
      fresh_served v other at_v off = elim (cases_eq v u) [
        | inl e ↦
            let both : Some graph ≡ Some other = sym at ∙ ap (slice_get graphs) (sym e) ∙ at_v in
            let same : graph ≡ other = cc in
            let stay : CalleesStay old new graph = subst (CalleesStay old new) (sym same) (callees_stay v other at_v off) in
            let back : list_at backs u ≡ list_at old.backs u = ap (list_at backs) (sym e) ∙ (mark_raised.keeps v off).1 ∙ ap (list_at old.backs) e in
            subst (IsServed new other) (sym e) (subst (λ g. IsServed new g u) same (serves_by (wanted_kept old new graph u back stay are.shifts w are.least.are)))
        | inr ne ↦ served_kept old new other v (mark_raised.keeps v off).1 (callees_stay v other at_v off) rises (fresh.served v other at_v (was_fresh v off ne))
      ]

      pub unit_fresh : FreshAreServed graphs new after
      unit_fresh = record { long = mark_raised.long ∙ mark_callers.long ∙ length-set stale u false ∙ fresh.long; served = fresh_served }

-- ---- units that are not stale

-- such a unit is served already
pub served_already : (graphs : List GraphShape) (u : ℕ) (demands : Demands) (stale : List Bool) → IsProgress graphs demands → FreshAreServed graphs demands stale → is_stale stale u ≡ false → Serves graphs u demands demands false
served_already graphs u demands stale progress fresh off = record {
  progress = progress;
  room = omega arith;
  changes = λ on. absurd (true≢false (sym on));
  stays = λ none. refl;
  served = λ none graph at. fresh.served u graph at off;
}

-- at first all are, so none has to be served
pub all_stale : (graphs : List GraphShape) (demands : Demands) (stale : List Bool) → stale ≡ replicate (length graphs) true → FreshAreServed graphs demands stale
all_stale graphs demands stale is = record {
  long = ap (λ (l : List Bool). length l) is ∙ length-replicate {A = Bool} (length graphs) true;
  served = λ u graph at off. absurd (true≢false (sym (all_marked (length graphs) u) ∙ ap (λ l. is_stale l u) (sym is) ∙ off));
}

-- ---- sweeps

-- no unit yet
pub sweeps_none : (graphs : List GraphShape) (Done : ℕ → Type 0) (demands : Demands) → ((u : ℕ) → Done u → ⊥) → IsProgress graphs demands → SweepsTo graphs Done demands demands false
sweeps_none graphs Done demands none_done progress = record { progress = progress; room = omega arith; changes = λ on. absurd (true≢false (sym on)); stays = λ off. refl; served = λ off u graph done. absurd (none_done u done) }

-- one unit more
pub sweeps_more : (graphs : List GraphShape) (Done More : ℕ → Type 0) (u : ℕ) (old now new : Demands) (raised more : Bool) → ((v : ℕ) → More v → Done v ⊎ (v ≡ u)) → SweepsTo graphs Done old now raised → Serves graphs u now new more → SweepsTo graphs More old new (raised || more)
sweeps_more graphs Done More u old now new raised more either so_far serve = record {
  progress = serve.progress;
  room = omega (arith, so_far.room, serve.room);
  changes = changes raised more refl refl;
  stays = λ off. let parts = or_parts raised more off in serve.stays parts.1 ∙ so_far.stays parts.0;
  served = λ off v graph done at.
      let parts = or_parts raised more off in
      elim (either v done) [
        | inl before ↦ subst (λ d. IsServed d graph v) (sym (serve.stays parts.1)) (so_far.served parts.0 v graph before at)
        | inr same ↦ subst (IsServed new graph) (sym same) (serve.served parts.1 graph (ap (slice_get graphs) (sym same) ∙ at))
      ];
}
  where
    changes : (a b : Bool) → raised ≡ a → more ≡ b → (raised || more) ≡ true → demands_room new < demands_room old
    changes true b is is' on = omega (arith, so_far.changes is, serve.room)
    changes false true is is' on = omega (arith, so_far.room, serve.changes is')
    changes false false is is' on = absurd (true≢false (sym on ∙ ap (λ c. c || more) is ∙ is'))

-- a sweep after a sweep
pub sweeps_both : (graphs : List GraphShape) (old now new : Demands) (down up : Bool) → Sweeps graphs old now down → Sweeps graphs now new up → Sweeps graphs old new (down || up)
sweeps_both graphs old now new down up first second = record {
  progress = second.progress;
  room = omega (arith, first.room, second.room);
  changes = changes down up refl refl;
  stays = λ off. let parts = or_parts down up off in second.stays parts.1 ∙ first.stays parts.0;
  served = λ off u graph lt at. let parts = or_parts down up off in second.served parts.1 u graph lt at;
}
  where
    changes : (a b : Bool) → down ≡ a → up ≡ b → (down || up) ≡ true → demands_room new < demands_room old
    changes true b is is' on = omega (arith, first.changes is, second.room)
    changes false true is is' on = omega (arith, first.room, second.changes is')
    changes false false is is' on = absurd (true≢false (sym on ∙ ap (λ c. c || up) is ∙ is'))

-- where a sweep raises nothing, the demands are the least
pub least_at_rest : (graphs : List GraphShape) (old after : Demands) → Sweeps graphs old after false → AreLeastDemands graphs after
least_at_rest graphs old after s = record {
  served = record { fit = s.progress.fit; whole = s.progress.whole; units = λ u graph at. s.served refl u graph (slice_get_within graphs u graph at) at };
  least = s.progress.below;
}
