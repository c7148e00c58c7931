-- A push keeps what the news tell, and a node whose edges are done has none.
use Rattle.std.proofs.Common.{◌≡◌, ◌≢◌, ℕ, ◌+◌, ◌<◌, Bool, false, List, length, set, get_or, sym, ap, inl, inr, arith, ◌∙◌, get_or-set_same, get_or-set_other}
use Rattle.std.proofs.lemmas.Bool.{cases_eq}
use Rattle.std.proofs.lemmas.List.{get_or_default, length-set}
use Rattle.fix_solve.specs.Order.{OrderLaws}
use Rattle.fix_solve.specs.Net.{Net, NetLaws, value_at}
use Rattle.fix_solve.specs.NewsFlows.{NewsLaws, Keeps, NewsFit, AreAllNew, Telling}
use Rattle.fix_solve.specs.Solving.{HasRoom, IsRoomy, Working, Pushed, AllDone, HaveNews}
use Rattle.fix_solve.proofs.Visits.{working_sizes}

-- ---- news that fit

-- a write of news that fit keeps the others
pub fit_set : {N : Type 0} (fits : N → ℕ → Type 0) (nodes size : ℕ) (news : List N) (at : ℕ) (y : N) → at < nodes → fits y size
    → NewsFit fits nodes size news → NewsFit fits nodes size (set news at y)
fit_set fits nodes size news at y within fit f = record {
  long = length-set news at y ∙ f.long;
  each = λ d n h. elim (cases_eq n at) as (λ _. fits (get_or (set news at y) n d) size) [
    | inl e ↦ rw (e, get_or-set_same news at y d (rw f.long within)) fit
    | inr o ↦ rw (get_or-set_other news at n y d o) (f.each d n h)
  ];
}

-- a write of renewed news fits where the news did
pub fit_renewed : {N : Type 0} (fits : N → ℕ → Type 0) (nodes size : ℕ) (news : List N) (at : ℕ) (d y : N) → (fits (get_or news at d) size → fits y size) → NewsFit fits nodes size news → at < length news → NewsFit fits nodes size (set news at y)
fit_renewed fits nodes size news at d y renewed f within =
    fit_set fits nodes size news at y (rw (← f.long) within) (renewed (f.each d at (rw (← f.long) within))) f

-- a write of news that are all to the next place
pub all_set : {N : Type 0} (is_all : N → Type 0) (news : List N) (at : ℕ) (y : N) → at < length news → is_all y
    → ((d : N) (n : ℕ) → n < at → is_all (get_or news n d)) → (d : N) (n : ℕ) → n < at + 1 → is_all (get_or (set news at y) n d)
all_set is_all news at y within is before d n h =
    elim (cases_eq n at) as (λ _. is_all (get_or (set news at y) n d)) [
      | inl e ↦ rw (e, get_or-set_same news at y d within) is
      | inr o ↦ rw (get_or-set_other news at n y d o) (before d n (let o' : n ≢ at = o in let h' : n < at + 1 = h in omega arith))
    ]

-- the news fit the flow's size where they fit the values, which have it, and the other way round
pub fit_from : {V N : Type 0} (fits : N → ℕ → Type 0) (size : V → ℕ) (net : Net V) (values : List V) (news : List N) → length values ≡ net.nodes → length news ≡ length values
    → ((n : ℕ) → n < net.nodes → size (value_at net values n) ≡ net.size)
    → ((d : V) (c : N) (n : ℕ) → n < length values → fits (get_or news n c) (size (get_or values n d)))
    → NewsFit fits net.nodes net.size news
fit_from fits size net values news len long sizes fit = record {
  long = long ∙ len;
  each = λ c n h. rw (sizes n h) at (fit (net.first n) c n (rw len h));
}

-- the other way
pub news_from : {A B : Type 0} (fits : B → ℕ → Type 0) (size : A → ℕ) (net : Net A) (values : List A) (news : List B) → length values ≡ net.nodes
    → ((n : ℕ) → n < net.nodes → size (value_at net values n) ≡ net.size) → NewsFit fits net.nodes net.size news → HaveNews size fits values news
news_from {A = A} fits size net values news len sizes fit =
    let sized : (d : A) (n : ℕ) → n < length values → size (get_or values n d) ≡ net.size = λ d n h. rw (get_or_default values n d (net.first n) h) (sizes n (rw (← len) h)) in
    record {
      long = fit.long ∙ sym len;
      fit = λ d c n h. rw (sized d n h) (fit.each c n (rw (← len) h));
    }

-- the room fits the flow's size where it fits the values, which have it, and the other way round
pub roomy_from : {V R : Type 0} (fits : R → ℕ → Type 0) (size : V → ℕ) (net : Net V) (values : List V) (room : R) → length values ≡ net.nodes
    → ((n : ℕ) → n < net.nodes → size (value_at net values n) ≡ net.size) → HasRoom size fits values room → IsRoomy fits net.nodes net.size room
roomy_from fits size net values room len sizes has n h = rw (sizes n h) at (has.each (net.first n) n (rw len h))

-- the other way
pub room_from : {V R : Type 0} (fits : R → ℕ → Type 0) (size : V → ℕ) (net : Net V) (values : List V) (room : R) → length values ≡ net.nodes
    → ((n : ℕ) → n < net.nodes → size (value_at net values n) ≡ net.size) → IsRoomy fits net.nodes net.size room → HasRoom size fits values room
room_from {V = V} fits size net values room len sizes roomy = record {
  each = λ d n h.
      let low : n < net.nodes = rw (← len) h in
      let sized : size (get_or values n d) ≡ net.size = rw (get_or_default values n d (net.first n) h) (sizes n low) in
      rw sized (roomy n low);
}

module _ {V N : Type 0} (below : V → V → Type 0) (size : V → ℕ) (rank : V → ℕ) (order : OrderLaws below size rank) (net : Net V) (laws : NetLaws below size rank net)
    (fits : N → ℕ → Type 0) (is_all : N → Type 0) (is_none : N → Type 0) (caught : ℕ → N → V → V → Type 0) (tells : NewsLaws below size fits is_all is_none net caught) where
  -- ---- a push

  -- what a push leaves grows, and the news of its target keep what they told
  pub telling_push : (number : ℕ) (values values' : List V) (news : List N) (y : N) (b : Bool) → number < net.edges → length news ≡ net.nodes
      → Pushed below net number values values' b
      → ((d : N) → Keeps net caught (net.target number) (get_or news (net.target number) d) (value_at net values (net.target number)) y (value_at net values' (net.target number)))
      → Telling net caught values news → Telling net caught values' (set news (net.target number) y)
  telling_push number values values' news y b in_range long pushed keeps told =
      let t : ℕ = net.target number in
      let t_in : t < net.nodes = laws.targets number in_range in
      let stays : (n : ℕ) → n ≢ t → value_at net values' n ≡ value_at net values n = λ n o. rw pushed.others (get_or-set_other values t n (value_at net values' t) (net.first n) o) in
      let grows : (n : ℕ) → below (value_at net values n) (value_at net values' n) = λ n.
      elim (cases_eq n t) as (λ _. below (value_at net values n) (value_at net values' n)) [
        | inl e ↦ rw e pushed.joined.left
        | inr o ↦ rw (stays n o) (order.reflexive (value_at net values n))
      ] in
      record {
        along = λ d e h.
            tells.grows e (get_or (set news t y) (net.source e) d) (value_at net values' (net.source e)) (value_at net values (net.target e)) (value_at net values' (net.target e)) h
            (elim (cases_eq (net.source e) t) as (λ _. caught e (get_or (set news t y) (net.source e) d) (value_at net values' (net.source e)) (value_at net values (net.target e))) [
              | inl same ↦ rw (same, get_or-set_same news t y d (rw long t_in)) ((keeps d).along e (value_at net values (net.target e)) h same (rw (← same) (told.along d e h)))
              | inr other ↦ rw (get_or-set_other news t (net.source e) y d other, stays (net.source e) other) (told.along d e h)
            ])
            (grows (net.target e));
      }

  -- the same at the lists that the code holds
  pub told_from : (number t : ℕ) (values after : List V) (z : V) (news news' : List N) (y y0 : N) (x0 : V) (b : Bool) → number < net.edges → t ≡ net.target number → length values ≡ net.nodes
      → length news ≡ net.nodes → Pushed below net number values after b → after ≡ set values t z → news' ≡ set news t y → ((d : N) → y0 ≡ get_or news t d) → x0 ≡ value_at net values t
      → Keeps net caught (net.target number) y0 x0 y z → Telling net caught values news → Telling net caught after news'
  told_from number t values after z news news' y y0 x0 b in_range t_is len long pushed after_is news_is y0_is x0_is keeps told =
      let t_in : t < length values = rw (len, t_is) (laws.targets number in_range) in
      let z_is : value_at net after t ≡ z = rw after_is (get_or-set_same values t z (net.first t) t_in) in
      rw (news_is, t_is) (telling_push number values after news y b in_range long pushed (λ d. rw (← t_is, ← y0_is d, ← x0_is, z_is) (rw (← t_is) at keeps)) told)

  -- what was not news of the source is in the target
  pub caught_from : (number s t : ℕ) (values : List V) (news : List N) (y : N) (x w : V) → number < net.edges → s ≡ net.source number → t ≡ net.target number → y ≡ get_or news s y
      → x ≡ value_at net values s → w ≡ value_at net values t → Telling net caught values news → caught number y x w
  caught_from number s t values news y x w in_range s_is t_is y_is x_is w_is told =
      let there : caught number (get_or news s y) (value_at net values s) (value_at net values t) = rw (s_is, t_is) (told.along y number in_range) in
      rw (x_is, w_is) (rw (← y_is) at there)

  -- ---- the end of a visit

  -- of a node that does not wait nothing needs to be news
  pub telling_settle : (node : ℕ) (values : List V) (news : List N) (y : N) (fl : ℕ → Bool) → node < net.nodes → length news ≡ net.nodes → fl node ≡ false
      → fits y net.size → is_none y → Working below net values fl AllDone → Telling net caught values news → Telling net caught values (set news node y)
  telling_settle node values news y fl within long idle fit none w told = record {
    along = λ d e h.
        elim (cases_eq (net.source e) node) as (λ _. caught e (get_or (set news node y) (net.source e) d) (value_at net values (net.source e)) (value_at net values (net.target e))) [
          | inl same ↦
              let sized = working_sizes below size rank order net laws values fl AllDone w in
              rw (ap (λ n. get_or (set news node y) n d) same ∙ get_or-set_same news node y d (rw long within))
              (tells.none e y (value_at net values (net.source e)) (value_at net values (net.target e)) h fit (sized (net.source e) (laws.sources e h)) (sized (net.target e) (laws.targets e h)) none
              (w.solving.above_done e h (rw same idle) tt))
          | inr other ↦ rw (get_or-set_other news node (net.source e) y d other) (told.along d e h)
        ];
  }

  -- ---- the begin

  -- where all is news nothing is told
  pub telling_starts : (values : List V) (news : List N) → length news ≡ net.nodes → AreAllNew is_all news → Telling net caught values news
  telling_starts values news long new = record {
    along = λ d e h.
        tells.all e (get_or news (net.source e) d) (value_at net values (net.source e)) (value_at net values (net.target e)) h
        (new.each d (net.source e) (rw long (laws.sources e h)));
  }
