-- The demands at first: no bits but those of the result of the first unit. They are at most all that serve all units.
use Rattle.std.proofs.Common.{◌≡◌, ℕ, zero, suc, ◌+◌, ◌<◌, ◌≤◌, max, inl, inr, List, [], ◌∷◌, ◌++◌, length, replicate, slice_get, slice_index_or, slice_set, Some, refl, sym, ap, ◌∙◌, subst, arith}
use Rattle.std.proofs.lemmas.Bool.{cases_eq, cases_lt}
use Rattle.std.proofs.lemmas.List.{get_or-set_other, get_or-set_same, get_or_append_left, get_or_past, get_or_push, length-replicate, length-set}
use Rattle.std.proofs.lemmas.Option.{slice_get-get_or}
use Rattle.node_list.specs.Lists.{list_at}
use Rattle.flow_graph.specs.Graphs.{GraphShape}
use Rattle.program_pass.specs.GraphPrograms.{shared_in}
use Rattle.wanted_bits.specs.BitsOrder.{HasFew}
use Rattle.wanted_bits.specs.Walking.{bits_at}
use Rattle.program_wanted.specs.Demands.{AreNumberRows, AreServed, AskNoMore, Demands, FewerRows}
use Rattle.program_wanted.specs.Sweeps.{AreFirstBacks, AreZeros, IsProgress}
use Rattle.program_wanted.proofs.Rooms.{row_put}

-- zeros are few
zeros_few : (n : ℕ) → HasFew (replicate n 0)
zeros_few zero x = omega arith
zeros_few (suc n) zero = omega arith
zeros_few (suc n) (suc x) = zeros_few n x

-- each is 0
zero_at : (n x : ℕ) → bits_at (replicate n 0) x ≡ 0
zero_at zero x = refl
zero_at (suc n) zero = refl
zero_at (suc n) (suc x) = zero_at n x

-- one row more
pub zeros_more : (graphs : List GraphShape) (count : GraphShape → ℕ) (rows more : List (List ℕ)) (n : ℕ) (graph : GraphShape) (row : List ℕ) → length rows ≡ n → ((u : ℕ) (g : GraphShape) → u < n → slice_get graphs u ≡ Some g → list_at rows u ≡ replicate (count g) 0) → slice_get graphs n ≡ Some graph → row ≡ replicate (count graph) 0 → more ≡ rows ++ row ∷ []
    → (u : ℕ) (g : GraphShape) → u < n + 1 → slice_get graphs u ≡ Some g → list_at more u ≡ replicate (count g) 0
zeros_more graphs count rows more n graph row long are at is put u g lt at_u = ap (λ (l : List (List ℕ)). list_at l u) put ∙ elim (cases_eq u n) as (λ _. list_at (rows ++ row ∷ []) u ≡ replicate (count g) 0) [
  | inl e ↦
      let both : Some graph ≡ Some g = sym at ∙ ap (slice_get graphs) (sym e) ∙ at_u in
      let same : graph ≡ g = cc in
      get_or_push rows row [] u (sym (e ∙ sym long)) ∙ is ∙ ap (λ h. replicate (count h) 0) same
  | inr ne ↦ (let low : u < n = omega (arith, lt, ne) in get_or_append_left rows (row ∷ []) [] u (omega (arith, low, long)) ∙ are u g low at_u)
]

-- rows of zeros are rows
pub zeros_rows : (graphs : List GraphShape) (count : GraphShape → ℕ) (rows : List (List ℕ)) → AreZeros graphs count rows → AreNumberRows graphs count rows
zeros_rows graphs count rows are = record { long = are.long; each = λ u graph at. (ap (λ (l : List ℕ). length l) (are.each u graph at) ∙ length-replicate {A = ℕ} (count graph) 0, subst HasFew (sym (are.each u graph at)) (zeros_few (count graph))) }

-- and at most any others
zeros_fewer : (graphs : List GraphShape) (count : GraphShape → ℕ) (rows others : List (List ℕ)) → AreZeros graphs count rows → FewerRows rows others
zeros_fewer graphs count rows others are u x = elim (cases_lt u (length graphs)) [
  | inl lt ↦ (let at = slice_get-get_or graphs u blank lt in let none : bits_at (list_at rows u) x ≡ 0 = ap (λ l. bits_at l x) (are.each u _ at) ∙ zero_at (count _) x in omega (arith, none))
  | inr ge ↦ (let none : bits_at (list_at rows u) x ≡ 0 = ap (λ l. bits_at l x) (get_or_past rows u [] (omega (arith, ge, are.long))) in omega (arith, none))
]
  where
    blank : GraphShape
    blank = record { name = []; shared = 0; vars = []; received = []; nodes = [] }

-- the number of globals of the first graph
first_shared : (graphs : List GraphShape) (graph : GraphShape) → slice_get graphs 0 ≡ Some graph → shared_in graphs ≡ graph.shared
first_shared [] graph at = cc
first_shared (g ∷ graphs) graph at = let same : g ≡ graph = cc in ap (λ (h : GraphShape). h.shared) same

module _ (graphs : List GraphShape) (some : 0 < length graphs) (demands : Demands) (globals : AreZeros graphs (λ graph. graph.shared) demands.globals) (arguments : AreZeros graphs (λ graph. length graph.received) demands.arguments) (backs : AreFirstBacks graphs demands.backs) where
  abbrev zeros : List (List ℕ)
  zeros = backs.zeros

  abbrev row : List ℕ
  row = slice_set (list_at zeros 0) (shared_in graphs) (max (bits_at (list_at zeros 0) (shared_in graphs)) 64)

  zeros_in : 0 < length zeros
  zeros_in = omega (arith, some, backs.are.long)

  abbrev first : GraphShape
  first = slice_index_or graphs 0 (record { name = []; shared = 0; vars = []; received = []; nodes = [] })

  first_at : slice_get graphs 0 ≡ Some first
  first_at = slice_get-get_or graphs 0 (record { name = []; shared = 0; vars = []; received = []; nodes = [] }) some

  zero_row : list_at zeros 0 ≡ replicate (suc first.shared) 0
  zero_row = backs.are.each 0 first first_at

  shared_is : shared_in graphs ≡ first.shared
  shared_is = first_shared graphs first first_at

  within : shared_in graphs < length (list_at zeros 0)
  within = omega (arith, ap (λ (l : List ℕ). length l) zero_row, length-replicate {A = ℕ} (suc first.shared) 0, shared_is)

  none : bits_at (list_at zeros 0) (shared_in graphs) ≡ 0
  none = ap (λ l. bits_at l (shared_in graphs)) zero_row ∙ zero_at (suc first.shared) (shared_in graphs)

  all : bits_at row (shared_in graphs) ≡ 64
  all = get_or-set_same (list_at zeros 0) (shared_in graphs) (max (bits_at (list_at zeros 0) (shared_in graphs)) 64) 0 within ∙ omega (arith, none)

  others_zero : (x : ℕ) → (x ≡ shared_in graphs → ⊥) → bits_at row x ≡ 0
  others_zero x ne = get_or-set_other (list_at zeros 0) (shared_in graphs) x (max (bits_at (list_at zeros 0) (shared_in graphs)) 64) 0 ne ∙ ap (λ l. bits_at l x) zero_row ∙ zero_at (suc first.shared) x

  row_few : HasFew row
  row_few x = elim (cases_eq x (shared_in graphs)) [
    | inl e ↦ omega (arith, ap (bits_at row) e, all)
    | inr ne ↦ omega (arith, others_zero x ne)
  ]

  backs_are : AreNumberRows graphs (λ graph. suc graph.shared) demands.backs
  backs_are = subst (AreNumberRows graphs (λ graph. suc graph.shared)) (sym backs.is) (record {
    long = length-set zeros 0 row ∙ backs.are.long;
    each = λ u graph at. (
      row_put (λ l. length l ≡ suc graph.shared) zeros 0 u row zeros_in
          (λ e. length-set (list_at zeros 0) (shared_in graphs) (max (bits_at (list_at zeros 0) (shared_in graphs)) 64) ∙ ap (λ k. length (list_at zeros k)) (sym e) ∙ ap (λ (l : List ℕ). length l) (backs.are.each u graph at) ∙ length-replicate {A = ℕ} (suc graph.shared) 0)
          (λ ne. ap (λ (l : List ℕ). length l) (backs.are.each u graph at) ∙ length-replicate {A = ℕ} (suc graph.shared) 0),
      row_put HasFew zeros 0 u row zeros_in (λ e. row_few) (λ ne. subst HasFew (sym (backs.are.each u graph at)) (zeros_few (suc graph.shared))),
    );
  })

  first_row : list_at demands.backs 0 ≡ row
  first_row = ap (λ (l : List (List ℕ)). list_at l 0) backs.is ∙ get_or-set_same zeros 0 row [] zeros_in

  below : (others : Demands) → AreServed graphs others → AskNoMore demands others
  below others served = record {
    globals = zeros_fewer graphs (λ graph. graph.shared) demands.globals others.globals globals;
    arguments = zeros_fewer graphs (λ graph. length graph.received) demands.arguments others.arguments arguments;
    backs = subst (λ rows. FewerRows rows others.backs) (sym backs.is) (λ u. row_put (λ l. (x : ℕ) → bits_at l x ≤ bits_at (list_at others.backs u) x) zeros 0 u row zeros_in
        (λ e x. elim (cases_eq x (shared_in graphs)) [
          | inl is ↦ omega (arith, ap (bits_at row) is, all, served.whole, ap (λ k. bits_at (list_at others.backs k) x) e, ap (bits_at (list_at others.backs 0)) is)
          | inr ne ↦ omega (arith, others_zero x ne)
        ])
        (λ ne. zeros_fewer graphs (λ graph. suc graph.shared) zeros others.backs backs.are u));
  }

  pub first_progress : IsProgress graphs demands
  first_progress = record {
    fit = record { globals = zeros_rows graphs (λ graph. graph.shared) demands.globals globals; arguments = zeros_rows graphs (λ graph. length graph.received) demands.arguments arguments; backs = backs_are };
    whole = omega (arith, ap (λ l. bits_at l (shared_in graphs)) first_row, all);
    below = below;
  }
