-- What is known after a node has handed over something: as little more as serves it, and less room where it is more.
use Rattle.std.proofs.Common.{◌≡◌, ◌≢◌, ℕ, zero, suc, ◌+◌, ◌*◌, ◌-◌, ◌<◌, ◌≤◌, Bool, true, false, ◌||◌, inl, inr, List, [], ◌∷◌, length, slice_get, slice_set, Option, Some, None, refl, sym, ap, ◌∙◌, subst, arith, true≢false}
use Rattle.std.proofs.lemmas.Bool.{cases_eq, or_parts}
use Rattle.std.proofs.lemmas.List.{get_or-set_other, get_or-set_same, length-set}
use Rattle.std.proofs.lemmas.Option.{same_Some}
use Rattle.fix_solve.specs.Order.{IsLeastUpper}
use Rattle.flow_graph.specs.declared.nodes.Node.{Node}
use Rattle.flow_graph.specs.declared.nodes.Node.TheVariants.{Start, Skip, Assign, Print, Guard, Call, Test, Return}
use Rattle.flow_graph.specs.Graphs.{GraphShape}
use Rattle.bounds.specs.declared.facts.Fact.{Fact}
use Rattle.bounds.specs.BoundRuleLaws.{bound_laws}
use Rattle.bounds.specs.Facts.{BelowFact, fact_rank, joined_fact}
use Rattle.cond_flow.specs.StateLaws.{below_refl, below_size, below_trans, rank_bound, state_joins, state_laws}
use Rattle.cond_flow.specs.States.{BelowState, NodeState, Unreached, Knows, joined, size_of, state_rank}
use Rattle.program_bounds.specs.Facts.{AreSurer, BelowRows, ProgramFacts, row_at}
use Rattle.program_bounds.specs.Sweeps.{CanGiveAt, GivesAt, GivesTo, HasGiven, StaySized, facts_room, row_joined, rows_room, state_room}
use Rattle.program_bounds.proofs.Rows.{put_itself}

-- the room of rows of which one is put
set_room : (rows : List (NodeState Fact)) (v : ℕ) (s : NodeState Fact) → v < length rows → rows_room (slice_set rows v s) + state_room (row_at rows v) ≡ rows_room rows + state_room s
set_room [] v s lt = absurd (omega (arith, lt))
set_room (r ∷ rows) zero s lt = omega arith
set_room (r ∷ rows) (suc v) s lt = omega (arith, set_room rows v s (omega (arith, lt)))

-- rows are below themselves
pub rows_refl : (rows : List (NodeState Fact)) → BelowRows rows rows
rows_refl rows u = below_refl bound_laws.order (row_at rows u)

-- and in order
pub rows_trans : (a b c : List (NodeState Fact)) → BelowRows a b → BelowRows b c → BelowRows a c
rows_trans a b c p q u = below_trans bound_laws.order (row_at a u) (row_at b u) (row_at c u) (p u) (q u)

-- what is raised keeps its sizes
pub rows_sized : (a b : List (NodeState Fact)) → length b ≡ length a → BelowRows a b → StaySized a b
rows_sized a b long p = (long, λ u. sym (below_size bound_laws.order (row_at a u) (row_at b u) (p u)))

-- ---- one row

module _ (rows : List (NodeState Fact)) (v : ℕ) (facts : List Fact) (lt : v < length rows) (long : length facts ≡ size_of (row_at rows v)) where
  abbrev made : NodeState Fact
  made = joined joined_fact (row_at rows v) (Knows facts)

  joins : IsLeastUpper (BelowState BelowFact) (row_at rows v) (Knows facts) (joined joined_fact (row_at rows v) (Knows facts))
  joins = state_joins bound_laws.order (row_at rows v) (Knows facts) (sym long)

  here : row_at (row_joined rows v facts) v ≡ joined joined_fact (row_at rows v) (Knows facts)
  here = get_or-set_same rows v (joined joined_fact (row_at rows v) (Knows facts)) (Unreached 0) lt

  other : (u : ℕ) → u ≢ v → row_at (row_joined rows v facts) u ≡ row_at rows u
  other u ne = get_or-set_other rows v u (joined joined_fact (row_at rows v) (Knows facts)) (Unreached 0) ne

  -- it is raised
  pub row_rises : BelowRows rows (row_joined rows v facts)
  row_rises u = elim (cases_eq u v) as (λ _. BelowState BelowFact (row_at rows u) (row_at (row_joined rows v facts) u)) [
    | inl e ↦ subst (λ w. BelowState BelowFact (row_at rows w) (row_at (row_joined rows v facts) w)) (sym e) (subst (BelowState BelowFact (row_at rows v)) (sym here) joins.left)
    | inr ne ↦ subst (BelowState BelowFact (row_at rows u)) (sym (other u ne)) (below_refl bound_laws.order (row_at rows u))
  ]

  -- to what is given
  pub row_has : BelowState BelowFact (Knows facts) (row_at (row_joined rows v facts) v)
  row_has = subst (BelowState BelowFact (Knows facts)) (sym here) joins.right

  -- and no more
  pub row_least : (tops : List (NodeState Fact)) → BelowRows rows tops → BelowState BelowFact (Knows facts) (row_at tops v) → BelowRows (row_joined rows v facts) tops
  row_least tops below given u = elim (cases_eq u v) as (λ _. BelowState BelowFact (row_at (row_joined rows v facts) u) (row_at tops u)) [
    | inl e ↦ subst (λ w. BelowState BelowFact (row_at (row_joined rows v facts) w) (row_at tops w)) (sym e) (subst (λ s. BelowState BelowFact s (row_at tops v)) (sym here) (joins.least (row_at tops v) (below v) given))
    | inr ne ↦ subst (λ s. BelowState BelowFact s (row_at tops u)) (sym (other u ne)) (below u)
  ]

  pub row_sized : StaySized rows (row_joined rows v facts)
  row_sized = rows_sized rows (row_joined rows v facts) (length-set rows v _) row_rises

  -- where it changes there is less room
  pub row_falls : row_joined rows v facts ≢ rows → rows_room (row_joined rows v facts) < rows_room rows
  row_falls differ =
      let apart : row_at rows v ≢ joined joined_fact (row_at rows v) (Knows facts) = λ same. differ (ap (slice_set rows v) (sym same) ∙ put_itself rows v lt) in
      let rank = (state_laws bound_laws.order).rises (row_at rows v) (joined joined_fact (row_at rows v) (Knows facts)) joins.left apart in
      let sizes = below_size bound_laws.order (row_at rows v) (joined joined_fact (row_at rows v) (Knows facts)) joins.left in
      falls (size_of (row_at rows v)) (size_of (joined joined_fact (row_at rows v) (Knows facts))) (state_rank fact_rank (row_at rows v)) (state_rank fact_rank (joined joined_fact (row_at rows v) (Knows facts))) (rows_room (row_joined rows v facts)) (rows_room rows)
      sizes rank (rank_bound bound_laws.order (joined joined_fact (row_at rows v) (Knows facts))) (set_room rows v (joined joined_fact (row_at rows v) (Knows facts)) lt)
    where
      falls : (m n p q a b : ℕ) → m ≡ n → p < q → q ≤ 28 * n + 1 → a + (suc (28 * m) - p) ≡ b + (suc (28 * n) - q) → a < b
      falls m n p q a b same less most sum = omega (arith, ap (λ k. 28 * k) same, less, most, sum)

-- ---- one node

-- the facts are raised as little as serves what is given
pub record NodeRaises (Has : List Fact → ProgramFacts → Type 0) (told : Option (List Fact)) (old new : ProgramFacts) (raised : Bool) : Type 0 where
  pub entries : StaySized old.entries new.entries
  pub backs : StaySized old.backs new.backs
  pub rise : AreSurer old new
  pub has : (facts : List Fact) → told ≡ Some facts → Has facts new
  pub least : (tops : ProgramFacts) → AreSurer old tops → ((facts : List Fact) → told ≡ Some facts → Has facts tops) → AreSurer new tops
  pub room : facts_room new ≤ facts_room old
  pub changes : raised ≡ true → facts_room new < facts_room old
  pub stays : raised ≡ false → new ≡ old

-- nothing is below itself in another way
surer_refl : (known : ProgramFacts) → AreSurer known known
surer_refl known = record { entries = rows_refl known.entries; backs = rows_refl known.backs }

-- where nothing changes
quiet : (Has : List Fact → ProgramFacts → Type 0) (told : Option (List Fact)) (old new : ProgramFacts) (raised : Bool) → new ≡ old → (new ≡ old → raised ≡ false) → ((facts : List Fact) → told ≡ Some facts → Has facts new) → NodeRaises Has told old new raised
quiet Has told old new raised same off has = record {
  entries = subst (λ (k : ProgramFacts). StaySized old.entries k.entries) (sym same) (refl, λ u. refl);
  backs = subst (λ (k : ProgramFacts). StaySized old.backs k.backs) (sym same) (refl, λ u. refl);
  rise = subst (AreSurer old) (sym same) (surer_refl old);
  has = has;
  least = λ tops surer given. subst (λ k. AreSurer k tops) (sym same) surer;
  room = omega (arith, ap facts_room same);
  changes = λ on. absurd (true≢false (sym on ∙ off same));
  stays = λ no. same;
}

-- the room where a row was raised or not
moved : (rows more : List (NodeState Fact)) (raised : Bool) → ((more ≡ rows → ⊥) → rows_room more < rows_room rows) → (raised ≡ false → more ≡ rows) → (more ≡ rows → raised ≡ false) → (b : Bool) → raised ≡ b → (rows_room more ≤ rows_room rows) × (raised ≡ true → rows_room more < rows_room rows)
moved rows more raised falls stays tells true is =
    let less = falls (λ same. true≢false (sym is ∙ tells same)) in
    (omega (arith, less), λ on. less)
moved rows more raised falls stays tells false is = (omega (arith, ap rows_room (stays is)), λ on. absurd (true≢false (sym on ∙ is)))

-- at each node
pub node_raises : (node : Node) (u : ℕ) (told : Option (List Fact)) (old new : ProgramFacts) (raised : Bool) → CanGiveAt node u told old → GivesAt node u told old new raised → NodeRaises (HasGiven node u) told old new raised
node_raises node u None old new raised can g = quiet (HasGiven node u) None old new raised g.given g.changes (λ facts e. none facts e)
  where
    none : (facts : List Fact) → None ≡ Some facts → HasGiven node u facts new
    none facts e = absurd (cc)
node_raises (Start next) u (Some facts) old new raised can g = quiet (HasGiven (Start next) u) (Some facts) old new raised g.given g.changes (λ l e. tt)
node_raises (Skip next) u (Some facts) old new raised can g = quiet (HasGiven (Skip next) u) (Some facts) old new raised g.given g.changes (λ l e. tt)
node_raises (Assign x rhs next) u (Some facts) old new raised can g = quiet (HasGiven (Assign x rhs next) u) (Some facts) old new raised g.given g.changes (λ l e. tt)
node_raises (Print a next) u (Some facts) old new raised can g = quiet (HasGiven (Print a next) u) (Some facts) old new raised g.given g.changes (λ l e. tt)
node_raises (Guard test number next) u (Some facts) old new raised can g = quiet (HasGiven (Guard test number next) u) (Some facts) old new raised g.given g.changes (λ l e. tt)
node_raises (Test test taken other) u (Some facts) old new raised can g = quiet (HasGiven (Test test taken other) u) (Some facts) old new raised g.given g.changes (λ l e. tt)
node_raises (Call into v operands next) u (Some facts) old new raised can g =
    let rows = old.entries in
    let more = row_joined old.entries v facts in
    let kept : new.backs ≡ old.backs = ap (λ (k : ProgramFacts). k.backs) g.given in
    let is : new.entries ≡ row_joined old.entries v facts = ap (λ (k : ProgramFacts). k.entries) g.given in
    let whole : (more ≡ rows → new ≡ old) = λ same. g.given ∙ ap (λ l. record { entries = l; backs = old.backs }) same in
    let room = moved rows more raised (row_falls rows v facts can.0 can.1) (λ off. sym is ∙ ap (λ (k : ProgramFacts). k.entries) (g.stays off)) (λ same. g.changes (whole same)) raised refl in
    record {
      entries = subst (StaySized old.entries) (sym is) (row_sized rows v facts can.0 can.1);
      backs = subst (StaySized old.backs) (sym kept) (refl, λ w. refl);
      rise = record { entries = subst (BelowRows old.entries) (sym is) (row_rises rows v facts can.0 can.1); backs = subst (BelowRows old.backs) (sym kept) (rows_refl old.backs) };
      has = λ l e. subst (λ k. BelowState BelowFact (Knows k) (row_at new.entries v)) (same_Some facts l e) (subst (λ r. BelowState BelowFact (Knows facts) (row_at r v)) (sym is) (row_has rows v facts can.0 can.1));
      least = λ tops surer given. record {
        entries = subst (λ r. BelowRows r tops.entries) (sym is) (row_least rows v facts can.0 can.1 tops.entries surer.entries (given facts refl));
        backs = subst (λ r. BelowRows r tops.backs) (sym kept) surer.backs;
      };
      room = omega (arith, room.0, ap rows_room is, ap rows_room kept);
      changes = λ on. omega (arith, room.1 on, ap rows_room is, ap rows_room kept);
      stays = g.stays;
    }
node_raises (Return a) u (Some facts) old new raised can g =
    let rows = old.backs in
    let more = row_joined old.backs u facts in
    let kept : new.entries ≡ old.entries = ap (λ (k : ProgramFacts). k.entries) g.given in
    let is : new.backs ≡ row_joined old.backs u facts = ap (λ (k : ProgramFacts). k.backs) g.given in
    let whole : (more ≡ rows → new ≡ old) = λ same. g.given ∙ ap (λ l. record { entries = old.entries; backs = l }) same in
    let room = moved rows more raised (row_falls rows u facts can.0 can.1) (λ off. sym is ∙ ap (λ (k : ProgramFacts). k.backs) (g.stays off)) (λ same. g.changes (whole same)) raised refl in
    record {
      backs = subst (StaySized old.backs) (sym is) (row_sized rows u facts can.0 can.1);
      entries = subst (StaySized old.entries) (sym kept) (refl, λ w. refl);
      rise = record { backs = subst (BelowRows old.backs) (sym is) (row_rises rows u facts can.0 can.1); entries = subst (BelowRows old.entries) (sym kept) (rows_refl old.entries) };
      has = λ l e. subst (λ k. BelowState BelowFact (Knows k) (row_at new.backs u)) (same_Some facts l e) (subst (λ r. BelowState BelowFact (Knows facts) (row_at r u)) (sym is) (row_has rows u facts can.0 can.1));
      least = λ tops surer given. record {
        backs = subst (λ r. BelowRows r tops.backs) (sym is) (row_least rows u facts can.0 can.1 tops.backs surer.backs (given facts refl));
        entries = subst (λ r. BelowRows r tops.entries) (sym kept) surer.entries;
      };
      room = omega (arith, room.0, ap rows_room is, ap rows_room kept);
      changes = λ on. omega (arith, room.1 on, ap rows_room is, ap rows_room kept);
      stays = g.stays;
    }

-- ---- several nodes

-- what was given is given still
has_more : (node : Node) (u : ℕ) (facts : List Fact) (a b : ProgramFacts) → AreSurer a b → HasGiven node u facts a → HasGiven node u facts b
has_more (Start next) u facts a b surer h = tt
has_more (Skip next) u facts a b surer h = tt
has_more (Assign x rhs next) u facts a b surer h = tt
has_more (Print x next) u facts a b surer h = tt
has_more (Guard test number next) u facts a b surer h = tt
has_more (Call into v operands next) u facts a b surer h = below_trans bound_laws.order (Knows facts) (row_at a.entries v) (row_at b.entries v) h (surer.entries v)
has_more (Test test taken other) u facts a b surer h = tt
has_more (Return x) u facts a b surer h = below_trans bound_laws.order (Knows facts) (row_at a.backs u) (row_at b.backs u) h (surer.backs u)

-- no node yet
pub gives_none : (graph : GraphShape) (u : ℕ) (all : List (Option (List Fact))) (known : ProgramFacts) → GivesTo graph u all 0 known known false
gives_none graph u all known = record {
  entries = (refl, λ v. refl);
  backs = (refl, λ v. refl);
  rise = surer_refl known;
  have = λ n node facts lt. absurd (omega (arith, lt));
  least = λ tops surer given. surer;
  room = omega arith;
  changes = λ on. absurd (true≢false (sym on));
  stays = λ off. refl;
}

-- one node more
pub gives_more : (graph : GraphShape) (u : ℕ) (all : List (Option (List Fact))) (count : ℕ) (node : Node) (told : Option (List Fact)) (old now new : ProgramFacts) (raised more : Bool) → count < length graph.nodes → GivesTo graph u all count old now raised → slice_get graph.nodes count ≡ Some node → slice_get all count ≡ Some told → NodeRaises (HasGiven node u) told now new more → GivesTo graph u all (count + 1) old new (raised || more)
gives_more graph u all count node told old now new raised more lt so_far here at r = record {
  entries = (r.entries.0 ∙ so_far.entries.0, λ v. r.entries.1 v ∙ so_far.entries.1 v);
  backs = (r.backs.0 ∙ so_far.backs.0, λ v. r.backs.1 v ∙ so_far.backs.1 v);
  rise = record { entries = rows_trans old.entries now.entries new.entries so_far.rise.entries r.rise.entries; backs = rows_trans old.backs now.backs new.backs so_far.rise.backs r.rise.backs };
  have = λ n other facts low there told_there. elim (cases_eq n count) as (λ _. HasGiven other u facts new) [
    | inl e ↦
        let same : node ≡ other = same_Some node other (sym here ∙ ap (slice_get graph.nodes) (sym e) ∙ there) in
        let is : told ≡ Some facts = same_Some told (Some facts) (sym at ∙ ap (slice_get all) (sym e) ∙ told_there) in
        subst (λ m. HasGiven m u facts new) same (r.has facts is)
    | inr ne ↦ has_more other u facts now new r.rise (so_far.have n other facts (omega (arith, low, ne)) there told_there)
  ];
  least = λ tops surer given. r.least tops (so_far.least tops surer given) (λ facts e. given count node facts lt here (at ∙ ap Some e));
  room = omega (arith, so_far.room, r.room);
  changes = changes raised more refl refl;
  stays = λ off. let parts = or_parts raised more off in r.stays parts.1 ∙ so_far.stays parts.0;
}
  where
    changes : (a b : Bool) → raised ≡ a → more ≡ b → (raised || more) ≡ true → facts_room new < facts_room old
    changes true b is is' on = omega (arith, so_far.changes is, r.room)
    changes false true is is' on = omega (arith, so_far.room, r.changes is')
    changes false false is is' on = absurd (true≢false (sym on ∙ ap (λ c. c || more) is ∙ is'))

-- there is a row still for what a node hands over
pub can_more : (node : Node) (u : ℕ) (told : Option (List Fact)) (a b : ProgramFacts) → StaySized a.entries b.entries → StaySized a.backs b.backs → CanGiveAt node u told a → CanGiveAt node u told b
can_more node u None a b entries backs can = tt
can_more (Start next) u (Some facts) a b entries backs can = tt
can_more (Skip next) u (Some facts) a b entries backs can = tt
can_more (Assign x rhs next) u (Some facts) a b entries backs can = tt
can_more (Print x next) u (Some facts) a b entries backs can = tt
can_more (Guard test number next) u (Some facts) a b entries backs can = tt
can_more (Call into v operands next) u (Some facts) a b entries backs can = (omega (arith, can.0, entries.0), can.1 ∙ sym (entries.1 v))
can_more (Test test taken other) u (Some facts) a b entries backs can = tt
can_more (Return x) u (Some facts) a b entries backs can = (omega (arith, can.0, backs.0), can.1 ∙ sym (backs.1 u))
