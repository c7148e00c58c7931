-- What a round inserts is wanted only where what any sinking has put in its place is: a variable that is live behind the
-- round's insertion is live there in the other graph too.
use Rattle.std.proofs.Common.{◌≡◌, ◌⊎◌, ◌<◌, ℕ, suc, true, false, List, [], ◌∷◌, length, slice_get, Option, Some, None, option_map, inl, inr, refl, sym, ap, ◌∙◌, subst}
use Rattle.std.proofs.lemmas.Bool.{cases_Bool, cases_eq, true≢false, false≢true, ne_eqb}
use Rattle.std.proofs.lemmas.Option.{none-some, same_Some}
use Rattle.mir_base.specs.declared.instructions.Rhs.{Rhs}
use Rattle.mir_base.specs.Expressions.{divides}
use Rattle.mir_base.specs.Shapes.{rhs_vars}
use Rattle.mir_base.specs.ItemLaws.{one_item}
use Rattle.flow_graph.specs.declared.nodes.Node.{Node}
use Rattle.flow_graph.specs.declared.nodes.Node.TheVariants.{Assign}
use Rattle.flow_graph.specs.Graphs.{GraphShape, IsGraph, succs_of}
use Rattle.flow_graph.specs.Edges.{IsSplit}
use Rattle.flow_graph.specs.Numbering.{is_in}
use Rattle.flow_graph.specs.Paths.{HasEdge}
use Rattle.graph_edit.specs.ChangeLaws.{changed_not}
use Rattle.graph_edit.specs.Insertions.{Insertion, Unchanged, Removed, Rewriting, changed}
use Rattle.sink_code.specs.Sinking.{put_for}
use Rattle.graph_edit.specs.Accesses.{assigns_var, blocks_at, blocks_pattern, is_occurrence, is_sinkable, reads_var}
use Rattle.sink_code.specs.PutLaws.{put_first, put_later, put_rest}
use Rattle.sink_code.specs.SunkGraphs.{AreInsertions, RisesFrom, emptied, sinking}
use Rattle.sink_code.specs.DelayLaws.{PassedOn, back_to, blocked_put, delayed_apart, lost_put, occurs_on, put_delayed, source_within, target_within}
use Rattle.graph_edit.specs.OccurrenceLaws.{occurrence_sinkable, is_occurrence_of, lets_pass, occurrence_blocks, occurrence_is, sinkable_is}
use Rattle.sink_rounds.proofs.LiveOver.{ContainsLive, LiveOver, ReadsFirst, goes_to, node_after, read_at, read_before}
use Rattle.sink_rounds.specs.Maximal.{late_on, late_too, put_too}
use Rattle.sink_rounds.specs.Steps.{IsSinking}

-- ---- lists of insertions

-- the pattern y <- u assigns or reads x
abbrev pub Involves : ℕ → ℕ → Rhs → Type 0
Involves x y u = (y ≡ x) ⊎ (is_in x (rhs_vars u) ≡ true)

-- one of the insertions reads x first, or none assigns x and none that is put for a variable reads it; where those that
-- assign x read it too
pub touch_cases : (x : ℕ) (puts : List Insertion) → ((u : Rhs) → put_for puts x ≡ Some u → is_in x (rhs_vars u) ≡ true)
    → ReadsFirst x puts ⊎ ((put_for puts x ≡ None) × ((y : ℕ) (u : Rhs) → put_for puts y ≡ Some u → is_in x (rhs_vars u) ≡ true → ⊥))
touch_cases x [] own = inr (refl, λ y u is reads. none-some u is)
touch_cases x (put ∷ puts) own = elim (cases_Bool (is_in x (rhs_vars put.rhs))) [
  | inl reads ↦ inl (inl reads)
  | inr clear ↦ elim (cases_eq x put.var) [
    | inl same ↦ absurd (true≢false (sym (own put.rhs (ap (put_for (put ∷ puts)) same ∙ put_first put puts)) ∙ clear))
    | inr differ ↦ elim (touch_cases x puts (λ u is. own u (put_rest put puts x differ ∙ is))) [
      | inl later ↦ inl (inr (ne_eqb x put.var differ, later))
      | inr none ↦ inr (
        put_rest put puts x differ ∙ none.0,
        λ y u is reads. elim (cases_eq y put.var) [
          | inl same ↦
              let rhs : put.rhs ≡ u = same_Some put.rhs u (sym (put_first put puts) ∙ ap (put_for (put ∷ puts)) (sym same) ∙ is) in
              true≢false (sym reads ∙ ap (λ r. is_in x (rhs_vars r)) (sym rhs) ∙ clear)
          | inr other ↦ none.1 y u (sym (put_rest put puts y other) ∙ is) reads
        ],
      )
    ]
  ]
]

-- where one reads x first, it is put for its variable, if the variables rise
pub first_is : (x low : ℕ) (puts : List Insertion) → RisesFrom low puts → ReadsFirst x puts → (y : ℕ) × (u : Rhs) × (put_for puts y ≡ Some u) × (is_in x (rhs_vars u) ≡ true)
first_is x low [] rises first = absurd first
first_is x low (put ∷ puts) rises (inl reads) = (put.var, put.rhs, put_first put puts, reads)
first_is x low (put ∷ puts) rises (inr later) =
    let w = first_is x (suc put.var) puts rises.1 later.1 in
    (w.0, w.1, put_later put puts w.0 w.1 rises.1 w.2, w.3)

-- ---- nodes

-- a node that does not divide becomes a Skip in the round: it reads nothing and assigns nothing
round_reads : (graph : GraphShape) (x : ℕ) (o : Option Node) → reads_var graph x (option_map (changed (emptied (is_sinkable o))) o) ≡ true → (is_sinkable o ≡ false) × (reads_var graph x o ≡ true)
round_reads graph x None reads = absurd (false≢true reads)
round_reads graph x (Some node) reads = elim (cases_Bool (is_sinkable (Some node))) [
  | inl sinkable ↦
      let w = sinkable_is (Some node) sinkable in
      let skip : reads_var graph x (option_map (changed (emptied (is_sinkable (Some node)))) (Some node)) ≡ false = ap (λ b. reads_var graph x (option_map (changed (emptied b)) (Some node))) sinkable ∙ ap (λ o. reads_var graph x (option_map (changed Removed) o)) w.3 in
      absurd (true≢false (sym reads ∙ skip))
  | inr kept ↦ (kept, sym (ap (λ b. reads_var graph x (option_map (changed (emptied b)) (Some node))) kept ∙ ap (λ (m : Node). reads_var graph x (Some m)) (changed_not node)) ∙ reads)
]

-- a node that stays assigns what it assigned
round_assigns : (graph : GraphShape) (x : ℕ) (o : Option Node) → is_sinkable o ≡ false → assigns_var graph x (option_map (changed (emptied (is_sinkable o))) o) ≡ assigns_var graph x o
round_assigns graph x None kept = refl
round_assigns graph x (Some node) kept = ap (λ b. assigns_var graph x (option_map (changed (emptied b)) (Some node))) kept ∙ ap (λ (m : Node). assigns_var graph x (Some m)) (changed_not node)

-- a node that stays is as it was
pub stays_is : (o : Option Node) → option_map (changed Unchanged) o ≡ o
stays_is None = refl
stays_is (Some node) = ap (λ (m : Node). Some m) (changed_not node)

module _ (graph : GraphShape) (is_graph : IsGraph graph.vars graph.received graph.nodes) (split : IsSplit graph.nodes) (late' : ℕ → ℕ → Option Rhs) (inserts : ℕ → List Insertion) (are : AreInsertions graph late' inserts) (x : ℕ) where
  abbrev round : Rewriting
  round = sinking graph inserts

  -- edges lead from nodes to nodes
  lt_source : (n s : ℕ) → HasEdge graph.nodes n s → n < length graph.nodes
  lt_source n s edge = source_within graph is_graph n s edge

  lt_target : (n s : ℕ) → HasEdge graph.nodes n s → s < length graph.nodes
  lt_target n s edge = target_within graph is_graph n s edge

  -- the variables of what the round puts before a node rise
  rises : (n : ℕ) → n < length graph.nodes → RisesFrom 0 (inserts n)
  rises n lt = (are.inserts_are n lt).in_order

  -- ---- what is delayed, in the round, is not live before it is put, unless it reads its own variable

  module _ (v : Rhs) (clear : is_in x (rhs_vars v) ≡ false) where
    -- nothing that is put beside it reads it first
    not_first : (s : ℕ) → s < length graph.nodes → late' s x ≡ Some v → ReadsFirst x (inserts s) → ⊥
    not_first s lt is first =
        let w = first_is x 0 (inserts s) (rises s lt) first in
        let other = put_delayed graph is_graph split late' inserts are s w.0 w.1 lt w.2 in
        elim (cases_eq w.0 x) [
          | inl same ↦
              let rhs : w.1 ≡ v = same_Some w.1 v (sym other ∙ ap (late' s) same ∙ is) in
              true≢false (sym w.3 ∙ ap (λ r. is_in x (rhs_vars r)) rhs ∙ clear)
          | inr differ ↦ true≢false (sym w.3 ∙ delayed_apart graph is_graph s w.0 x w.1 v lt ((are.delayed_are s w.0 w.1 lt).0 other) ((are.delayed_are s x v lt).0 is) differ)
        ]

    -- where it is delayed and not put
    not_live : (s : ℕ) → s < length graph.nodes → late' s x ≡ Some v → put_for (inserts s) x ≡ None → LiveOver graph round x s → ⊥
    not_live s lt is none live = by s live lt is none
      where
        free_at : (s : ℕ) → s < length graph.nodes → late' s x ≡ Some v → put_for (inserts s) x ≡ None → blocks_at x v graph s ≡ false
        free_at s lt is none = elim (cases_Bool (blocks_at x v graph s)) [
          | inl blocked ↦ absurd (none-some v (sym none ∙ blocked_put graph is_graph split late' inserts are s x v lt is blocked))
          | inr free ↦ free
        ]

        on : (m s : ℕ) → HasEdge graph.nodes m s → late' m x ≡ Some v → put_for (inserts m) x ≡ None → late' s x ≡ Some v
        on m s edge is none = found (late' s x) refl
          where
            found : (o : Option Rhs) → late' s x ≡ o → o ≡ Some v
            found None e = absurd (none-some v (sym (sym is ∙ lost_put graph is_graph split late' inserts are m s x edge e ∙ none)))
            found (Some u) e = elim (back_to graph is_graph split late' inserts are m s x u edge e) [
              | inl o ↦ absurd (true≢false (sym (occurrence_blocks graph x u v (slice_get graph.nodes m) o) ∙ free_at m (lt_source m s edge) is none))
              | inr passed ↦ sym passed.late_there ∙ is
            ]

        unread : (s : ℕ) → s < length graph.nodes → late' s x ≡ Some v → put_for (inserts s) x ≡ None → reads_var graph x (slice_get graph.nodes s) ≡ true → ⊥
        unread s lt is none reads = at (slice_get graph.nodes s) refl reads
          where
            at : (o : Option Node) → slice_get graph.nodes s ≡ o → reads_var graph x o ≡ true → ⊥
            at None e r = false≢true r
            at (Some node) e r =
                let lets = lets_pass graph x v node (sym (ap (blocks_pattern graph x v) e) ∙ free_at s lt is none) in
                true≢false (sym r ∙ lets.reads)

        by : (s : ℕ) → LiveOver graph round x s → s < length graph.nodes → late' s x ≡ Some v → put_for (inserts s) x ≡ None → ⊥
        by s (read_at m reads) lt is none = unread s lt is none (round_reads graph x (slice_get graph.nodes s) reads).1
        by m (read_before m0 s free edge first) lt is none = not_first s (lt_target m s edge) (on m s edge is none) first
        by m (goes_to m0 s free edge clear' live) lt is none = by s live (lt_target m s edge) (on m s edge is none) clear'

  -- ---- along the way of the round's graph

  -- x is live in the round before what is put before node s
  abbrev pub LiveFront : ℕ → Type 0
  LiveFront s = ReadsFirst x (inserts s) ⊎ ((put_for (inserts s) x ≡ None) × LiveOver graph round x s)

  -- so none that does not read its own variable is delayed there
  pub not_live_front : (s : ℕ) (v : Rhs) → s < length graph.nodes → late' s x ≡ Some v → is_in x (rhs_vars v) ≡ false → LiveFront s → ⊥
  not_live_front s v lt is clear (inl first) = not_first v clear s lt is first
  not_live_front s v lt is clear (inr on) = not_live v clear s lt is on.0 on.1

  module _ (r : Rewriting) (late : ℕ → ℕ → Option Rhs) (sinks : IsSinking graph r late) (At Before : ℕ → Type 0) (closed : ContainsLive graph r x At Before) where
    -- behind what is put before node m: of the patterns that the round delays there, each that has to do with x is put
    -- there; or it reads x, and the sinking delays it on
    abbrev pub Behind : ℕ → Type 0
    Behind m = (y : ℕ) (u : Rhs) → late' m y ≡ Some u → Involves x y u
        → (put_for (inserts m) y ≡ Some u) ⊎ ((late m y ≡ Some u) × ((put_for (r.inserts m) y ≡ None) × (is_in x (rhs_vars u) ≡ true)))

    -- in front of it: each reads x, and the sinking delays it too
    abbrev pub InFront : ℕ → Type 0
    InFront s = (y : ℕ) (u : Rhs) → late' s y ≡ Some u → Involves x y u → (late s y ≡ Some u) × (is_in x (rhs_vars u) ≡ true)

    -- past the insertions: the sinking's read x first, or neither side's touch it
    chain_cases : (s : ℕ) → s < length graph.nodes → InFront s → ReadsFirst x (r.inserts s) ⊎ ((put_for (r.inserts s) x ≡ None) × ((ReadsFirst x (inserts s) → ⊥) × Behind s))
    chain_cases s lt front = elim (touch_cases x (r.inserts s) own) [
      | inl first ↦ inl first
      | inr none ↦ inr (none.0, (λ first. both none.1 first, λ y u is involves. (let f = front y u is involves in inr (f.0, (unput none.1 y u f.0 f.1, f.1)))))
    ]
      where
        own : (u : Rhs) → put_for (r.inserts s) x ≡ Some u → is_in x (rhs_vars u) ≡ true
        own u is = (front x u (late_too graph r late sinks late' inserts are s x u lt (sinks.put s x u is)) (inl refl)).1

        both : ((y : ℕ) (u : Rhs) → put_for (r.inserts s) y ≡ Some u → is_in x (rhs_vars u) ≡ true → ⊥) → ReadsFirst x (inserts s) → ⊥
        both none first =
            let w = first_is x 0 (inserts s) (rises s lt) first in
            let f = front w.0 w.1 (put_delayed graph is_graph split late' inserts are s w.0 w.1 lt w.2) (inr w.3) in
            none w.0 w.1 (put_too graph r late sinks late' inserts are s w.0 w.1 lt w.2 f.0) w.3

        unput : ((y : ℕ) (u : Rhs) → put_for (r.inserts s) y ≡ Some u → is_in x (rhs_vars u) ≡ true → ⊥) → (y : ℕ) (u : Rhs) → late s y ≡ Some u → is_in x (rhs_vars u) ≡ true → put_for (r.inserts s) y ≡ None
        unput none y u is reads = found (put_for (r.inserts s) y) refl
          where
            found : (o : Option Rhs) → put_for (r.inserts s) y ≡ o → o ≡ None
            found None e = refl
            found (Some w) e =
                let same : u ≡ w = same_Some u w (sym is ∙ sinks.put s y w e) in
                absurd (none y w e (ap (λ q. is_in x (rhs_vars q)) (sym same) ∙ reads))

    -- what passes a node
    passed_front : (m s y : ℕ) (u : Rhs) → HasEdge graph.nodes m s → Behind m → Involves x y u → PassedOn graph is_graph split late' inserts are m y u → (late s y ≡ Some u) × (is_in x (rhs_vars u) ≡ true)
    passed_front m s y u edge behind involves passed = elim (behind y u passed.late_there involves) [
      | inl put ↦ absurd (none-some u (sym passed.not_put ∙ put))
      | inr b ↦ (late_on graph r late sinks m s y u edge b.0 passed.free b.1.0, b.1.1)
    ]

    -- past a node: it reads x in the other graph, or neither side assigns x there
    past_node : (m s : ℕ) → HasEdge graph.nodes m s → assigns_var graph x (node_after graph round m) ≡ false → Behind m → LiveFront s
        → At m ⊎ (InFront s × (assigns_var graph x (node_after graph r m) ≡ false))
    past_node m s edge free behind live = elim (cases_Bool (is_sinkable (slice_get graph.nodes m))) [
      | inl sinkable ↦ (let w = sinkable_is (slice_get graph.nodes m) sinkable in at_assignment w.0 w.1 w.2 w.3 w.4)
      | inr kept ↦ inr (
        λ y u is involves. elim (back_to graph is_graph split late' inserts are m s y u edge is) [
          | inl o ↦ absurd (true≢false (sym (occurrence_sinkable y u (slice_get graph.nodes m) o) ∙ kept))
          | inr passed ↦ passed_front m s y u edge behind involves passed
        ],
        elim (sinks.only m) [
          | inl unchanged ↦
              ap (λ c. assigns_var graph x (option_map (changed c) (slice_get graph.nodes m))) unchanged
              ∙ ap (assigns_var graph x) (stays_is (slice_get graph.nodes m))
              ∙ sym (round_assigns graph x (slice_get graph.nodes m) kept)
              ∙ free
          | inr gone ↦ absurd (true≢false (sym gone.1 ∙ kept))
        ],
      )
    ]
      where
        at_assignment : (z : ℕ) (v : Rhs) (next : ℕ) → slice_get graph.nodes m ≡ Some (Assign z v next) → divides v ≡ false → At m ⊎ (InFront s × (assigns_var graph x (node_after graph r m) ≡ false))
        at_assignment z v next is sinkable = elim (sinks.only m) [
          | inl unchanged ↦ elim (cases_Bool (is_in x (rhs_vars v))) [
            | inl reads ↦ inl (closed.reads m (ap (reads_var graph x) (as_was unchanged) ∙ reads))
            | inr clear ↦ inr (front (λ involved. absurd (uninvolved clear involved)), ap (assigns_var graph x) (as_was unchanged) ∙ ne_eqb x z (λ e. differs clear (sym e)))
          ]
          | inr gone ↦ inr (front (λ involved. (leads gone.0, reading involved)), ap (assigns_var graph x) (ap (λ c. option_map (changed c) (slice_get graph.nodes m)) gone.0 ∙ ap (option_map (changed Removed)) is))
        ]
          where
            lt_s : s < length graph.nodes
            lt_s = lt_target m s edge

            to_next : next ≡ s
            to_next = one_item next s edge.0 (sym (ap (λ (o : Option Node). slice_get (succs_of o) edge.0) is) ∙ edge.1)

            as_was : r.changes m ≡ Unchanged → node_after graph r m ≡ Some (Assign z v next)
            as_was unchanged = ap (λ c. option_map (changed c) (slice_get graph.nodes m)) unchanged ∙ stays_is (slice_get graph.nodes m) ∙ is

            later : late' s z ≡ Some v
            later = (are.delayed_are s z v lt_s).1 (occurs_on graph is_graph split m s z v edge (ap (is_occurrence z v) is ∙ is_occurrence_of z v next sinkable))

            leads : r.changes m ≡ Removed → late s z ≡ Some v
            leads gone = sinks.removed m s z v (is ∙ ap (λ k. Some (Assign z v k)) to_next) gone

            differs : is_in x (rhs_vars v) ≡ false → (z ≡ x → ⊥)
            differs clear same = not_live_front s v lt_s (ap (late' s) (sym same) ∙ later) clear live

            uninvolved : is_in x (rhs_vars v) ≡ false → Involves x z v → ⊥
            uninvolved clear (inl same) = differs clear same
            uninvolved clear (inr reads) = true≢false (sym reads ∙ clear)

            reading : Involves x z v → is_in x (rhs_vars v) ≡ true
            reading involved = elim (cases_Bool (is_in x (rhs_vars v))) [ inl reads ↦ reads | inr clear ↦ absurd (uninvolved clear involved) ]

            front : (Involves x z v → (late s z ≡ Some v) × (is_in x (rhs_vars v) ≡ true)) → InFront s
            front own y u late_y involves = elim (back_to graph is_graph split late' inserts are m s y u edge late_y) [
              | inl o ↦
                  let w = occurrence_is y u (slice_get graph.nodes m) o in
                  let same : Assign y u w.0 ≡ Assign z v next = same_Some (Assign y u w.0) (Assign z v next) (sym w.1 ∙ is) in
                  let var : y ≡ z = cc in
                  let rhs : u ≡ v = cc in
                  let both = own (subst (λ q. Involves x z q) rhs (subst (λ k. Involves x k u) var involves)) in
                  (ap (late s) var ∙ both.0 ∙ ap (λ (q : Rhs). Some q) (sym rhs), ap (λ q. is_in x (rhs_vars q)) rhs ∙ both.1)
              | inr passed ↦ passed_front m s y u edge behind involves passed
            ]

    -- so what is live in the round is live in the other graph
    pub transfer : (m : ℕ) → LiveOver graph round x m → Behind m → At m
    transfer m (read_at m0 reads) behind =
        let k = round_reads graph x (slice_get graph.nodes m) reads in
        elim (sinks.only m) [
          | inl unchanged ↦ closed.reads m (ap (λ c. reads_var graph x (option_map (changed c) (slice_get graph.nodes m))) unchanged ∙ ap (reads_var graph x) (stays_is (slice_get graph.nodes m)) ∙ k.1)
          | inr gone ↦ absurd (true≢false (sym gone.1 ∙ k.0))
        ]
    transfer m (read_before m0 s free edge first) behind = elim (past_node m s edge free behind (inl first)) [
      | inl at ↦ at
      | inr on ↦ elim (chain_cases s (lt_target m s edge) on.0) [
        | inl first' ↦ closed.back m s edge on.1 (closed.first s (lt_target m s edge) first')
        | inr none ↦ absurd (none.1.0 first)
      ]
    ]
    transfer m (goes_to m0 s free edge clear live) behind = elim (past_node m s edge free behind (inr (clear, live))) [
      | inl at ↦ at
      | inr on ↦ elim (chain_cases s (lt_target m s edge) on.0) [
        | inl first' ↦ closed.back m s edge on.1 (closed.first s (lt_target m s edge) first')
        | inr none ↦ closed.back m s edge on.1 (closed.enter s (lt_target m s edge) none.0 (transfer s live none.1.1))
      ]
    ]

    -- where the round puts an assignment of x, and x is live behind it, x is live there in the other graph
    pub wanted_too : (n : ℕ) (t : Rhs) → n < length graph.nodes → put_for (inserts n) x ≡ Some t → LiveOver graph round x n → At n
    wanted_too n t lt put live = transfer n live (λ y u is involves. elim (cases_eq y x) [
      | inl same ↦ inl (ap (put_for (inserts n)) same ∙ put ∙ sym there ∙ ap (late' n) (sym same) ∙ is)
      | inr differ ↦ elim involves [
        | inl same ↦ absurd (differ same)
        | inr reads ↦ absurd (true≢false (sym reads ∙ delayed_apart graph is_graph n y x u t lt ((are.delayed_are n y u lt).0 is) ((are.delayed_are n x t lt).0 there) differ))
      ]
    ])
      where
        there : late' n x ≡ Some t
        there = put_delayed graph is_graph split late' inserts are n x t lt put
