-- One sinking of a graph: where what stands after it came from, and that what a node reads is still assigned where it was.
use Rattle.std.proofs.Common.{◌≡◌, ◌⊎◌, ℕ, Bool, true, false, if◌then◌else◌, List, [], ◌∷◌, ◌++◌, length, flat_map, Option, Some, None, inl, inr, refl, sym, ap, ◌∙◌, subst, arith, append_assoc, length-append}
use Rattle.std.proofs.lemmas.List.Concat.{flat_map-append}
use Rattle.std.proofs.lemmas.Bool.{cases_Bool, cases_lt, true≢false}
use Rattle.std.proofs.lemmas.Option.{none-some, same_Some}
use Rattle.std.proofs.lemmas.List.{append_cancel_right}
use Rattle.path_images.specs.Ends.{IsEndOf, cons_first, cons_rest, end_itself, end_length, end_or, end_past, end_rest, end_through, ends_compare, latest, latest_end, latest_here, latest_past, latest_so, longer_end, longer_rest, rest_of}
use Rattle.path_images.specs.Walks.{lift_end, place_of}
use Rattle.path_images.specs.Images.{Acts, Ask, BothFrom, IsImage, Is, Origin, Reads, Sets, from_before, from_behind}
use Rattle.path_images.specs.Order.{Clash, both_set, clash_alike, clash_back, read_set, set_read}

-- where none of a part is so, the nearest is behind it
pub latest_over : (so : ℕ → Bool) (part l : List ℕ) → ((c : ℕ) (rest : List ℕ) → IsEndOf (c ∷ rest) part → so c ≡ false) → latest so (part ++ l) ≡ latest so l
latest_over so [] l none = refl
latest_over so (n ∷ part) l none = latest_past so n (part ++ l) (none n part (end_itself (n ∷ part))) ∙ latest_over so part l (λ c rest at. none c rest (end_past (n ∷ []) (c ∷ rest) part at))

-- the nearest is in this part, or behind it
pub data IsNear (so : ℕ → Bool) (part : List ℕ) : Type 0 where
  near_in : (o : ℕ) (rest : List ℕ) → ((l : List ℕ) → latest so (part ++ l) ≡ (o ∷ rest) ++ l)
      → IsNear so part
  near_behind : ((l : List ℕ) → latest so (part ++ l) ≡ latest so l) → IsNear so part

-- it is one of the two in each part
pub is_near : (so : ℕ → Bool) (part : List ℕ) → IsNear so part
is_near so [] = near_behind (λ l. refl)
is_near so (n ∷ part) = elim (cases_Bool (so n)) [
  | inl is ↦ near_in n part (λ l. latest_here so n (part ++ l) is)
  | inr not ↦ elim (is_near so part) [
    | near_in o rest e ↦ near_in o rest (λ l. latest_past so n (part ++ l) not ∙ e l)
    | near_behind e ↦ near_behind (λ l. latest_past so n (part ++ l) not ∙ e l)
  ]
]

-- a pattern p does this: assigns its variable, reads its operands. `late n y`: the pattern of y that is delayed before
-- node n. `chain n`: what is put before node n, the newest first, and `what` the patterns of it. `does1`: what the nodes
-- of the result do
module _ (P : Type 0) (Walk : List ℕ → Type 0) (does : Ask P → ℕ → Bool) (pat : Ask P → P → Bool)
    (old gone : ℕ → Bool) (late : ℕ → ℕ → Option P) (chain : ℕ → List ℕ) (what : ℕ → P) (does1 : Ask P → ℕ → Bool) where
  -- it is put before the node
  pub record Put (p : P) (n : ℕ) : Type 0 where
    pub node : ℕ
    pub rest : List ℕ
    pub at : IsEndOf (node ∷ rest) (chain n)
    pub is : what node ≡ p

  -- it is delayed past the node
  pub record Passes (p : P) (y n : ℕ) : Type 0 where
    pub free : Clash P (λ q. pat q p) (λ q. does q n) → ⊥
    pub was_late : late n y ≡ Some p
    pub unput : Put p n → ⊥

  -- what goes
  pub record Goes (n : ℕ) : Type 0 where
    pub pattern : P
    pub var : ℕ
    pub is : does (Is pattern) n ≡ true
    pub sets : pat (Sets var) pattern ≡ true
    pub on : (s : ℕ) (path : List ℕ) → Walk (s ∷ n ∷ path) → late s var ≡ Some pattern

  pub record IsOneSinking : Type 0 where
    pub shorter : (f : List ℕ) (n : ℕ) (p : List ℕ) → Walk (f ++ (n ∷ p)) → Walk (n ∷ p)
    pub all_old : (n : ℕ) (path : List ℕ) → Walk (n ∷ path) → old n ≡ true
    pub all_new : (n c : ℕ) (rest : List ℕ) → IsEndOf (c ∷ rest) (chain n) → old c ≡ false
    pub sets_some : (p : P) → (y : ℕ) × (pat (Sets y) p ≡ true)
    pub sets_one : (y z : ℕ) (p : P) → pat (Sets y) p ≡ true → pat (Sets z) p ≡ true → y ≡ z
    pub late_sets : (n y : ℕ) (p : P) → late n y ≡ Some p → pat (Sets y) p ≡ true
    pub occurs : (n : ℕ) (p : P) → does (Is p) n ≡ true → (q : Ask P) → does q n ≡ pat q p
    pub occurs_one : (n : ℕ) (p p' : P) → does (Is p) n ≡ true → does (Is p') n ≡ true → p ≡ p'
    pub goes : (n : ℕ) → gone n ≡ true → Goes n
    pub start : (s y : ℕ) → Walk (s ∷ []) → late s y ≡ None
    pub back : (s n y : ℕ) (path : List ℕ) (p : P) → Walk (s ∷ n ∷ path) → late s y ≡ Some p → ((gone n ≡ true) × (does (Is p) n ≡ true)) ⊎ Passes p y n
    pub lost : (s n y : ℕ) (path : List ℕ) (p : P) → Walk (s ∷ n ∷ path) → late s y ≡ None → late n y ≡ Some p → Put p n
    pub blocked : (n y : ℕ) (path : List ℕ) (p : P) → Walk (n ∷ path) → late n y ≡ Some p → Clash P (λ q. pat q p) (λ q. does q n) → Put p n
    pub put_late : (n c y : ℕ) (rest : List ℕ) → IsEndOf (c ∷ rest) (chain n) → pat (Sets y) (what c) ≡ true → late n y ≡ Some (what c)
    pub does_new : (n c : ℕ) (rest : List ℕ) → IsEndOf (c ∷ rest) (chain n) → (q : Ask P) → does1 q c ≡ pat q (what c)
    pub does_gone : (n : ℕ) (path : List ℕ) → Walk (n ∷ path) → gone n ≡ true → (q : Ask P) → does1 q n ≡ false
    pub does_kept : (n : ℕ) (path : List ℕ) → Walk (n ∷ path) → gone n ≡ false → (q : Ask P) → does1 q n ≡ does q n
    pub apart : (n c d : ℕ) (rest rest' : List ℕ) → IsEndOf (c ∷ rest) (chain n) → IsEndOf (d ∷ rest') rest
        → Clash P (λ q. pat q (what c)) (λ q. pat q (what d)) → ⊥

  -- ---- the graph after it

  abbrev pub over : ℕ → List ℕ
  over n = n ∷ chain n

  -- the old nodes of a path
  abbrev pub olds : List ℕ → List ℕ
  olds [] = []
  olds (k ∷ path) = if old k then k ∷ olds path else olds path

  abbrev pub from : List ℕ → List ℕ
  from [] = []
  from (k ∷ rest) = if old k then k ∷ olds rest else latest (λ n. does (Is (what k)) n) (olds rest)

  module _ (sink : IsOneSinking) where
    abbrev lift : List ℕ → List ℕ
    lift = flat_map over

    abbrev newest : ℕ → ℕ → Bool
    newest y = λ k. does1 (Sets y) k

    -- ---- old and new nodes

    olds_new : (part l : List ℕ) → ((c : ℕ) (rest : List ℕ) → IsEndOf (c ∷ rest) part → old c ≡ false) → olds (part ++ l) ≡ olds l
    olds_new [] l all = refl
    olds_new (c ∷ part) l all = ap (λ b. (if b then c ∷ olds (part ++ l) else olds (part ++ l))) (all c part (end_itself (c ∷ part))) ∙ olds_new part l (λ d rest at. all d rest (end_past (c ∷ []) (d ∷ rest) part at))

    olds_lift : (path : List ℕ) → Walk path → olds (lift path) ≡ path
    olds_lift [] walk = refl
    olds_lift (n ∷ []) walk = ap (λ b. (if b then n ∷ olds (chain n ++ []) else olds (chain n ++ []))) (sink.all_old n [] walk) ∙ ap (λ l. n ∷ l) (olds_new (chain n) [] (sink.all_new n))
    olds_lift (n ∷ m ∷ path) walk = ap (λ b. (if b then n ∷ olds (chain n ++ lift (m ∷ path)) else olds (chain n ++ lift (m ∷ path)))) (sink.all_old n (m ∷ path) walk) ∙ ap (λ l. n ∷ l) (olds_new (chain n) (lift (m ∷ path)) (sink.all_new n) ∙ olds_lift (m ∷ path) (sink.shorter (n ∷ []) m path walk))

    -- before a node
    olds_before : (n : ℕ) (path : List ℕ) → Walk (n ∷ path) → olds (lift path) ≡ path
    olds_before n [] walk = refl
    olds_before n (m ∷ path) walk = olds_lift (m ∷ path) (sink.shorter (n ∷ []) m path walk)

    pub from_old : (n : ℕ) (path : List ℕ) → Walk (n ∷ path) → from (n ∷ (chain n ++ lift path)) ≡ n ∷ path
    from_old n path walk = ap (λ b. (if b then n ∷ olds (chain n ++ lift path) else latest (λ m. does (Is (what n)) m) (olds (chain n ++ lift path)))) (sink.all_old n path walk) ∙ ap (λ l. n ∷ l) (olds_new (chain n) (lift path) (sink.all_new n) ∙ olds_before n path walk)

    pub from_new : (n c : ℕ) (rest path : List ℕ) → Walk (n ∷ path) → IsEndOf (c ∷ rest) (chain n)
        → from (c ∷ (rest ++ lift path)) ≡ latest (λ m. does (Is (what c)) m) path
    from_new n c rest path walk at =
        ap (λ b. (if b then c ∷ olds (rest ++ lift path) else latest (λ m. does (Is (what c)) m) (olds (rest ++ lift path)))) (sink.all_new n c rest at)
        ∙ ap (latest (λ m. does (Is (what c)) m)) (olds_new rest (lift path) (λ d rest' at'. sink.all_new n d rest' (end_through (d ∷ rest') rest (chain n) at' (end_rest c rest (chain n) at))) ∙ olds_before n path walk)

    -- ---- what was last assigned

    -- before node n, on this path: y was last assigned where it was in the old graph; or, where a pattern of y is delayed,
    -- that one is the last assignment there, and y was last assigned where it was before that one
    pub record WhenNone (y : ℕ) (path : List ℕ) : Type 0 where
      pub last : from (latest (newest y) (lift path)) ≡ latest (does (Sets y)) path

    pub record WhenLate (y : ℕ) (p : P) (path : List ℕ) : Type 0 where
      pub node : ℕ
      pub rest : List ℕ
      pub sets : latest (does (Sets y)) path ≡ node ∷ rest
      pub is : latest (does (Is p)) path ≡ node ∷ rest
      pub last : from (latest (newest y) (lift path)) ≡ latest (does (Sets y)) rest

    -- where nothing of y is put, it is as before the chain
    unput_chain : (n y : ℕ) (path : List ℕ)
        → ((c : ℕ) (rest : List ℕ) → IsEndOf (c ∷ rest) (chain n) → pat (Sets y) (what c) ≡ true → ⊥)
        → latest (newest y) (chain n ++ lift path) ≡ latest (newest y) (lift path)
    unput_chain n y path none = latest_over (newest y) (chain n) (lift path) (λ c rest at. elim (cases_Bool (pat (Sets y) (what c))) [
      | inl is ↦ absurd (none c rest at is)
      | inr not ↦ sink.does_new n c rest at (Sets y) ∙ not
    ])

    -- where it is put, that is the last
    put_chain : (n y : ℕ) (path : List ℕ) (p : P) → pat (Sets y) p ≡ true → (put : Put p n)
        → latest (newest y) (chain n ++ lift path) ≡ put.node ∷ (put.rest ++ lift path)
    put_chain n y path p sets put =
        ap (λ l. latest (newest y) (l ++ lift path)) put.at.1 ∙ ap (latest (newest y)) (append_assoc put.at.0 (put.node ∷ put.rest) (lift path))
        ∙ latest_over (newest y) put.at.0 (put.node ∷ (put.rest ++ lift path)) front
        ∙ latest_here (newest y) put.node (put.rest ++ lift path) sets_node
      where
        sets_what : pat (Sets y) (what put.node) ≡ true
        sets_what = ap (pat (Sets y)) put.is ∙ sets

        sets_node : does1 (Sets y) put.node ≡ true
        sets_node = sink.does_new n put.node put.rest put.at (Sets y) ∙ sets_what

        front : (c : ℕ) (rest : List ℕ) → IsEndOf (c ∷ rest) put.at.0 → does1 (Sets y) c ≡ false
        front c rest at =
            let at_c : IsEndOf (c ∷ (rest ++ (put.node ∷ put.rest))) (chain n) = (at.0, put.at.1 ∙ ap (λ l. l ++ (put.node ∷ put.rest)) at.1 ∙ append_assoc at.0 (c ∷ rest) (put.node ∷ put.rest)) in
            elim (cases_Bool (pat (Sets y) (what c))) [
              | inl is ↦ absurd (sink.apart n c put.node (rest ++ (put.node ∷ put.rest)) put.rest at_c (rest, refl) (both_set y is sets_what))
              | inr not ↦ sink.does_new n c (rest ++ (put.node ∷ put.rest)) at_c (Sets y) ∙ not
            ]

    -- a pattern of y that is put is the one that is delayed
    none_put : (n y : ℕ) → late n y ≡ None → (c : ℕ) (rest : List ℕ) → IsEndOf (c ∷ rest) (chain n) → pat (Sets y) (what c) ≡ true → ⊥
    none_put n y none c rest at sets = none-some (what c) (sym none ∙ sink.put_late n c y rest at sets)

    -- behind what is put before a node y was last assigned where it was, if no pattern of y is delayed past the chain
    behind_chain : (n y : ℕ) (path : List ℕ) → Walk (n ∷ path) → (late n y ≡ None → WhenNone y path)
        → ((p : P) → late n y ≡ Some p → WhenLate y p path × Put p n)
        → from (latest (newest y) (chain n ++ lift path)) ≡ latest (does (Sets y)) path
    behind_chain n y path walk none some = by (late n y) refl
      where
        by : (o : Option P) → late n y ≡ o → from (latest (newest y) (chain n ++ lift path)) ≡ latest (does (Sets y)) path
        by None e = ap from (unput_chain n y path (none_put n y e)) ∙ (none e).last
        by (Some p) e =
            let r = some p e in
            ap from (put_chain n y path p (sink.late_sets n y p e) r.1) ∙ from_new n r.1.node r.1.rest path walk r.1.at ∙ ap (λ w. latest (λ m. does (Is w) m) path) r.1.is ∙ r.0.is ∙ sym r.0.sets

    -- from node to node
    module _ (n m y : ℕ) (path : List ℕ) (walk : Walk (n ∷ m ∷ path)) (when_none : late m y ≡ None → WhenNone y path) (when_late : (p : P) → late m y ≡ Some p → WhenLate y p path) where
      walk_m : Walk (m ∷ path)
      walk_m = sink.shorter (n ∷ []) m path walk

      -- where the node does not assign y
      past_node : does (Sets y) m ≡ false → latest (newest y) (lift (m ∷ path)) ≡ latest (newest y) (chain m ++ lift path)
      past_node not = latest_past (newest y) m (chain m ++ lift path) (elim (cases_Bool (gone m)) [
        | inl is ↦ sink.does_gone m path walk_m is (Sets y)
        | inr kept ↦ sink.does_kept m path walk_m kept (Sets y) ∙ not
      ])

      none : late n y ≡ None → WhenNone y (m ∷ path)
      none is = elim (cases_Bool (does (Sets y) m)) [
        | inl sets ↦ record { last = ap from (latest_here (newest y) m (chain m ++ lift path) (sink.does_kept m path walk_m (stays sets) (Sets y) ∙ sets)) ∙ from_old m path walk_m ∙ sym (latest_here (does (Sets y)) m path sets) }
        | inr not ↦ record { last = ap from (past_node not) ∙ behind_chain m y path walk_m when_none (λ p e. (when_late p e, sink.lost n m y path p walk is e)) ∙ sym (latest_past (does (Sets y)) m path not) }
      ]
        where
          -- what goes is delayed, so it assigns another variable
          stays : does (Sets y) m ≡ true → gone m ≡ false
          stays sets = elim (cases_Bool (gone m)) [
            | inl goes ↦
                let g = sink.goes m goes in
                let same = sink.sets_one g.var y g.pattern g.sets (sym (sink.occurs m g.pattern g.is (Sets y)) ∙ sets) in
                absurd (none-some g.pattern (sym is ∙ ap (late n) (sym same) ∙ g.on n path walk))
            | inr kept ↦ kept
          ]

      some : (p : P) → late n y ≡ Some p → WhenLate y p (m ∷ path)
      some p is = elim (sink.back n m y path p walk is) [
        | inl goes ↦
            let sets : does (Sets y) m ≡ true = sink.occurs m p goes.1 (Sets y) ∙ sink.late_sets n y p is in
            record {
              node = m;
              rest = path;
              sets = latest_here (does (Sets y)) m path sets;
              is = latest_here (does (Is p)) m path goes.1;
              last = ap from (latest_past (newest y) m (chain m ++ lift path) (sink.does_gone m path walk_m goes.0 (Sets y)))
                  ∙ behind_chain m y path walk_m when_none (λ u e. (when_late u e, sink.blocked m y path u walk_m e (both_set y (sink.late_sets m y u e) sets)));
            }
        | inr passes ↦
            let w = when_late p passes.was_late in
            let not : does (Sets y) m ≡ false = free passes in
            let not_is : does (Is p) m ≡ false = other passes not in
            record {
              node = w.node;
              rest = w.rest;
              sets = latest_past (does (Sets y)) m path not ∙ w.sets;
              is = latest_past (does (Is p)) m path not_is ∙ w.is;
              last = ap from (past_node not ∙ unput_chain m y path (λ c rest at sets. passes.unput (record { node = c; rest = rest; at = at; is = same_Some (what c) p (sym (sink.put_late m c y rest at sets) ∙ passes.was_late) }))) ∙ w.last;
            }
      ]
        where
          sets_y : pat (Sets y) p ≡ true
          sets_y = sink.late_sets n y p is

          free : Passes p y m → does (Sets y) m ≡ false
          free passes = elim (cases_Bool (does (Sets y) m)) [
            | inl sets ↦ absurd (passes.free (both_set y sets_y sets))
            | inr not ↦ not
          ]

          other : Passes p y m → does (Sets y) m ≡ false → does (Is p) m ≡ false
          other passes not = elim (cases_Bool (does (Is p) m)) [
            | inl o ↦ absurd (true≢false (sym (sink.occurs m p o (Sets y) ∙ sets_y) ∙ not))
            | inr none ↦ none
          ]

    pub when : (n y : ℕ) (path : List ℕ) → Walk (n ∷ path) → (late n y ≡ None → WhenNone y path) × ((p : P) → late n y ≡ Some p → WhenLate y p path)
    when n y [] walk = (λ none. record { last = refl }, λ p is. absurd (none-some p (sym (sink.start n y walk) ∙ is)))
    when n y (m ∷ path) walk =
        let before = when m y path (sink.shorter (n ∷ []) m path walk) in
        (none n m y path walk before.0 before.1, some n m y path walk before.0 before.1)

    -- ---- what is delayed together

    -- of two patterns that are delayed at a node neither blocks the other
    pub one_late : (n x y : ℕ) (path : List ℕ) (p u : P) → Walk (n ∷ path) → late n x ≡ Some p → late n y ≡ Some u
        → Clash P (λ q. pat q p) (λ q. pat q u) → p ≡ u
    one_late n x y [] p u walk is is' clash = absurd (none-some p (sym (sink.start n x walk) ∙ is))
    one_late n x y (m ∷ path) p u walk is is' clash = elim (sink.back n m x path p walk is) [
      | inl o ↦ elim (sink.back n m y path u walk is') [
        | inl o' ↦ sink.occurs_one m p u o.1 o'.1
        | inr passes ↦ absurd (passes.free (clash_alike P (λ q. pat q u) (λ q. pat q p) (λ q. pat q u) (λ q. does q m) (λ q. refl) (sink.occurs m p o.1) (clash_back P (λ q. pat q p) (λ q. pat q u) clash)))
      ]
      | inr passes ↦ elim (sink.back n m y path u walk is') [
        | inl o' ↦ absurd (passes.free (clash_alike P (λ q. pat q p) (λ q. pat q u) (λ q. pat q p) (λ q. does q m) (λ q. refl) (sink.occurs m u o'.1) clash))
        | inr passes' ↦ one_late m x y path p u (sink.shorter (n ∷ []) m path walk) passes.was_late passes'.was_late clash
      ]
    ]

    -- what a delayed pattern reads was last assigned before its last occurrence
    read_before : (n x y : ℕ) (path : List ℕ) (p : P) → Walk (n ∷ path) → late n x ≡ Some p → pat (Reads y) p ≡ true
        → pat (Sets y) p ≡ false → (node : ℕ) (rest : List ℕ) → latest (does (Is p)) path ≡ node ∷ rest
        → latest (does (Sets y)) path ≡ latest (does (Sets y)) rest
    read_before n x y [] p walk is reads not node rest at = absurd (none-some p (sym (sink.start n x walk) ∙ is))
    read_before n x y (m ∷ path) p walk is reads not node rest at = elim (sink.back n m x path p walk is) [
      | inl o ↦
          let here = latest_here (does (Is p)) m path o.1 in
          let tail : path ≡ rest = cons_rest m node path rest (sym here ∙ at) in
          latest_past (does (Sets y)) m path (sink.occurs m p o.1 (Sets y) ∙ not) ∙ ap (latest (does (Sets y))) tail
      | inr passes ↦ elim (cases_Bool (does (Sets y) m)) [
        | inl sets ↦ absurd (passes.free (read_set y reads sets))
        | inr unset ↦ elim (cases_Bool (does (Is p) m)) [
          | inl o ↦ (let s = sink.sets_some p in absurd (passes.free (both_set s.0 s.1 (sink.occurs m p o (Sets s.0) ∙ s.1))))
          | inr none ↦ latest_past (does (Sets y)) m path unset ∙ read_before m x y path p (sink.shorter (n ∷ []) m path walk) passes.was_late reads not node rest (sym (latest_past (does (Is p)) m path none) ∙ at)
        ]
      ]
    ]

    -- ---- where it stands

    -- at an old node, or in the chain before one
    pub data Where (k : ℕ) (rest path : List ℕ) : Type 0 where
      at_node : (before : List ℕ) → IsEndOf (k ∷ before) path → rest ≡ chain k ++ lift before → Where k rest path
      in_chain : (n : ℕ) (before crest : List ℕ) → IsEndOf (n ∷ before) path → IsEndOf (k ∷ crest) (chain n) → rest ≡ crest ++ lift before → Where k rest path

    pub where_it_stands : (k : ℕ) (rest path : List ℕ) → IsEndOf (k ∷ rest) (lift path) → Where k rest path
    where_it_stands k rest path at =
        let pl = place_of over k rest path at in
        let long = pl.placed pl.node pl.before refl in
        let front : pl.node ∷ chain pl.node ≡ pl.at.0 ++ (long.node ∷ long.front) = append_cancel_right (pl.node ∷ chain pl.node) (pl.at.0 ++ (long.node ∷ long.front)) (lift pl.before)
        (pl.at.1 ∙ ap (λ l. pl.at.0 ++ l) long.is ∙ sym (append_assoc pl.at.0 (long.node ∷ long.front) (lift pl.before))) in
        let same : k ≡ long.node = cons_first k long.node rest (long.front ++ lift pl.before) long.is in
        let rest_is : rest ≡ long.front ++ lift pl.before = cons_rest k long.node rest (long.front ++ lift pl.before) long.is in
        by pl.node pl.before pl.part pl.at.0 long.node long.front front same rest_is
      where
        by : (n : ℕ) (before : List ℕ) → IsEndOf (n ∷ before) path → (f : List ℕ) (d : ℕ) (ds : List ℕ)
            → n ∷ chain n ≡ f ++ (d ∷ ds) → k ≡ d → rest ≡ ds ++ lift before → Where k rest path
        by n before part [] d ds e same rest_is =
            let node : k ≡ n = same ∙ sym (cons_first n d (chain n) ds e) in
            at_node before (subst (λ m. IsEndOf (m ∷ before) path) (sym node) part) (rest_is ∙ ap (λ l. l ++ lift before) (sym (cons_rest n d (chain n) ds e)) ∙ ap (λ m. chain m ++ lift before) (sym node))
        by n before part (m ∷ f) d ds e same rest_is = in_chain n before ds part (f, cons_rest n m (chain n) (f ++ (d ∷ ds)) e ∙ ap (λ c. f ++ (c ∷ ds)) (sym same)) rest_is

    -- what is put before a node is delayed there
    put_when : (n c : ℕ) (crest before : List ℕ) → Walk (n ∷ before) → IsEndOf (c ∷ crest) (chain n) → (y : ℕ)
        → pat (Sets y) (what c) ≡ true → WhenLate y (what c) before
    put_when n c crest before walk at y sets = (when n y before walk).1 (what c) (sink.put_late n c y crest at sets)

    -- nothing of y before it in its chain, where it reads or assigns y
    unput_rest : (n c y : ℕ) (crest before : List ℕ) → IsEndOf (c ∷ crest) (chain n)
        → (pat (Reads y) (what c) ≡ true) ⊎ (pat (Sets y) (what c) ≡ true)
        → latest (newest y) (crest ++ lift before) ≡ latest (newest y) (lift before)
    unput_rest n c y crest before at acts = latest_over (newest y) crest (lift before) (λ d rest at_d. elim (cases_Bool (pat (Sets y) (what d))) [
      | inl sets ↦ absurd (sink.apart n c d crest rest at at_d (elim acts [ inl r ↦ read_set y r sets | inr w ↦ both_set y w sets ]))
      | inr not ↦ sink.does_new n d rest (end_through (d ∷ rest) crest (chain n) at_d (end_rest c crest (chain n) at)) (Sets y) ∙ not
    ])

    module _ (firm : ℕ → Bool) (firm_new : (n c : ℕ) (rest : List ℕ) → IsEndOf (c ∷ rest) (chain n) → firm c ≡ false) (firm_occurs : (n : ℕ) (p : P) → does (Is p) n ≡ true → firm n ≡ false)
        (assignment : (k : ℕ) → Acts P Walk does firm does1 k → firm k ≡ false → (y : ℕ) × (does1 (Sets y) k ≡ true)) (firm_alike : (n : ℕ) → firm n ≡ true → (q : Ask P) → does1 q n ≡ does q n) where
      abbrev Acting : ℕ → Type 0
      Acting k = Acts P Walk does firm does1 k

      -- a node that acts does not go
      acts_kept : (k : ℕ) (path : List ℕ) → Walk (k ∷ path) → Acting k → gone k ≡ false
      acts_kept k path walk acts = elim (cases_Bool (gone k)) [
        | inl is ↦ absurd (elim acts.1 [ inl r ↦ true≢false (sym r ∙ sink.does_gone k path walk is (Reads acts.0)) | inr w ↦ true≢false (sym w ∙ sink.does_gone k path walk is (Sets acts.0)) ])
        | inr kept ↦ kept
      ]

      part_walk : (n : ℕ) (before path : List ℕ) → Walk path → IsEndOf (n ∷ before) path → Walk (n ∷ before)
      part_walk n before path walk part = sink.shorter part.0 n before (subst Walk part.1 walk)

      origin : (path : List ℕ) (k : ℕ) (rest : List ℕ) → Walk path → Where k rest path → Acting k → Origin P Walk does firm does1 (from (k ∷ rest)) k path
      origin path k rest walk (at_node before part is) acts =
          let w = part_walk k before path walk part in
          let came : from (k ∷ rest) ≡ k ∷ before = ap (λ l. from (k ∷ l)) is ∙ from_old k before w in
          record { at = subst (λ l. IsEndOf l path) (sym came) part; node = k; before = before; is = came; alike = sink.does_kept k before w (acts_kept k before w acts); firm_same = refl }
      origin path k rest walk (in_chain n before crest part at is) acts =
          let w = part_walk n before path walk part in
          let s = sink.sets_some (what k) in
          let late_w = put_when n k crest before w at s.0 s.1 in
          let came : from (k ∷ rest) ≡ late_w.node ∷ late_w.rest = ap (λ l. from (k ∷ l)) is ∙ from_new n k crest before w at ∙ late_w.is in
          let o : does (Is (what k)) late_w.node ≡ true = latest_so (does (Is (what k))) before late_w.node late_w.rest late_w.is in
          let inside : IsEndOf (late_w.node ∷ late_w.rest) before = subst (λ l. IsEndOf l before) late_w.is (latest_end (does (Is (what k))) before) in
          record {
            at = subst (λ l. IsEndOf l path) (sym came) (end_through (late_w.node ∷ late_w.rest) before path inside (end_rest n before path part));
            node = late_w.node;
            before = late_w.rest;
            is = came;
            alike = λ q. sink.does_new n k crest at q ∙ sym (sink.occurs late_w.node (what k) o q);
            firm_same = firm_new n k crest at ∙ sym (firm_occurs late_w.node (what k) o);
          }

      read : (path : List ℕ) (k : ℕ) (rest : List ℕ) (y : ℕ) → Walk path → Where k rest path
          → does1 (Reads y) k ≡ true
          → from (latest (newest y) rest) ≡ latest (does (Sets y)) (rest_of (from (k ∷ rest)))
      read path k rest y walk (at_node before part is) reads =
          let w = part_walk k before path walk part in
          let reads_old : does (Reads y) k ≡ true = sym (sink.does_kept k before w (acts_kept k before w (y, inl reads)) (Reads y)) ∙ reads in
          let both = when k y before w in
          ap (λ l. from (latest (newest y) l)) is ∙ behind_chain k y before w both.0 (λ p e. (both.1 p e, sink.blocked k y before p w e (set_read y (sink.late_sets k y p e) reads_old)))
          ∙ sym (ap (λ l. latest (does (Sets y)) (rest_of l)) (ap (λ l. from (k ∷ l)) is ∙ from_old k before w))
      read path k rest y walk (in_chain n before crest part at is) reads = elim (cases_Bool (pat (Sets y) (what k))) [
        | inl sets ↦
            let late_w = put_when n k crest before w at y sets in
            first ∙ late_w.last ∙ sym (ap (λ l. latest (does (Sets y)) (rest_of l)) (came ∙ late_w.is))
        | inr not ↦
            let s = sink.sets_some (what k) in
            let late_w = put_when n k crest before w at s.0 s.1 in
            let late_n = sink.put_late n k s.0 crest at s.1 in
            let none = unlate (late n y) refl not s.0 late_n in
            first ∙ ((when n y before w).0 none).last ∙ read_before n s.0 y before (what k) w late_n reads_p not late_w.node late_w.rest late_w.is ∙ sym (ap (λ l. latest (does (Sets y)) (rest_of l)) (came ∙ late_w.is))
      ]
        where
          w : Walk (n ∷ before)
          w = part_walk n before path walk part

          reads_p : pat (Reads y) (what k) ≡ true
          reads_p = sym (sink.does_new n k crest at (Reads y)) ∙ reads

          first : from (latest (newest y) rest) ≡ from (latest (newest y) (lift before))
          first = ap (λ l. from (latest (newest y) l)) is ∙ ap from (unput_rest n k y crest before at (inl reads_p))

          came : from (k ∷ rest) ≡ latest (does (Is (what k))) before
          came = ap (λ l. from (k ∷ l)) is ∙ from_new n k crest before w at

          unlate : (o : Option P) → late n y ≡ o → pat (Sets y) (what k) ≡ false → (x : ℕ) → late n x ≡ Some (what k) → late n y ≡ None
          unlate None e not x is_late = e
          unlate (Some u) e not x is_late =
              let sets_u = sink.late_sets n y u e in
              let same = one_late n x y before (what k) u w is_late e (read_set y reads_p sets_u) in
              absurd (true≢false (sym sets_u ∙ sym (ap (pat (Sets y)) same) ∙ not))

      wrote : (path : List ℕ) (k : ℕ) (rest : List ℕ) (y : ℕ) → Walk path → Where k rest path
          → does1 (Sets y) k ≡ true
          → from (latest (newest y) rest) ≡ latest (does (Sets y)) (rest_of (from (k ∷ rest)))
      wrote path k rest y walk (at_node before part is) sets =
          let w = part_walk k before path walk part in
          let sets_old : does (Sets y) k ≡ true = sym (sink.does_kept k before w (acts_kept k before w (y, inr sets)) (Sets y)) ∙ sets in
          let both = when k y before w in
          ap (λ l. from (latest (newest y) l)) is ∙ behind_chain k y before w both.0 (λ p e. (both.1 p e, sink.blocked k y before p w e (both_set y (sink.late_sets k y p e) sets_old)))
          ∙ sym (ap (λ l. latest (does (Sets y)) (rest_of l)) (ap (λ l. from (k ∷ l)) is ∙ from_old k before w))
      wrote path k rest y walk (in_chain n before crest part at is) sets =
          let w = part_walk n before path walk part in
          let sets_p : pat (Sets y) (what k) ≡ true = sym (sink.does_new n k crest at (Sets y)) ∙ sets in
          let late_w = put_when n k crest before w at y sets_p in
          ap (λ l. from (latest (newest y) l)) is ∙ ap from (unput_rest n k y crest before at (inr sets_p)) ∙ late_w.last
          ∙ sym (ap (λ l. latest (does (Sets y)) (rest_of l)) (ap (λ l. from (k ∷ l)) is ∙ from_new n k crest before w at ∙ late_w.is))

      -- behind a join
      joins : (b b' e : List ℕ) (s k : ℕ) (d : List ℕ) → Walk (e ++ (s ∷ b)) → Walk (e ++ (s ∷ b'))
          → IsEndOf ((k ∷ d) ++ lift b) (lift (e ++ (s ∷ b)))
          → BothFrom P Walk does firm b b' (from ((k ∷ d) ++ lift b)) (from ((k ∷ d) ++ lift b'))
      joins b b' e s k d walk walk' at = by (where_it_stands k (d ++ lift b) (e ++ (s ∷ b)) at)
        where
          -- a node with more than what is over b is behind b
          behind_b : (n : ℕ) (before : List ℕ) → IsEndOf (n ∷ before) (e ++ (s ∷ b)) → IsEndOf ((k ∷ d) ++ lift b) (lift (n ∷ before)) → IsEndOf b before
          behind_b n before part inside = elim (cases_lt (length b) (length (n ∷ before))) [
            | inl less ↦ longer_rest n before b (longer_end (n ∷ before) b (e ++ (s ∷ b)) part (end_past e b (s ∷ b) (s ∷ [], refl)) less)
            | inr ge ↦
                let low = ends_compare (n ∷ before) b (e ++ (s ∷ b)) part (end_past e b (s ∷ b) (s ∷ [], refl)) ge in
                let one = end_length ((k ∷ d) ++ lift b) (lift b) (lift_end over ((k ∷ d) ++ lift b) (n ∷ before) b low inside) in
                let l = length-append d (lift b) in
                absurd (omega (arith, one, l))
          ]

          -- the walk on the other way
          walk_other : (n : ℕ) (g f : List ℕ) → e ++ (s ∷ b) ≡ f ++ (n ∷ (g ++ b)) → Walk (n ∷ (g ++ b'))
          walk_other n g f is =
              let front : e ++ (s ∷ []) ≡ f ++ (n ∷ g) = append_cancel_right (e ++ (s ∷ [])) (f ++ (n ∷ g)) b (append_assoc e (s ∷ []) b ∙ is ∙ sym (append_assoc f (n ∷ g) b)) in
              let whole : e ++ (s ∷ b') ≡ f ++ (n ∷ (g ++ b')) = sym (append_assoc e (s ∷ []) b') ∙ ap (λ l. l ++ b') front ∙ append_assoc f (n ∷ g) b' in
              sink.shorter f n (g ++ b') (subst Walk whole walk')

          -- what is over the part behind b
          cut : (c g : List ℕ) → d ++ lift b ≡ c ++ lift (g ++ b) → (x : List ℕ) → d ++ lift x ≡ c ++ lift (g ++ x)
          cut c g is x =
              let same : d ≡ c ++ lift g = append_cancel_right d (c ++ lift g) (lift b) (is ∙ ap (λ l. c ++ l) (flat_map-append over g b) ∙ sym (append_assoc c (lift g) (lift b))) in
              ap (λ l. l ++ lift x) same ∙ append_assoc c (lift g) (lift x) ∙ ap (λ l. c ++ l) (sym (flat_map-append over g x))

          by : Where k (d ++ lift b) (e ++ (s ∷ b)) → BothFrom P Walk does firm b b' (from ((k ∷ d) ++ lift b)) (from ((k ∷ d) ++ lift b'))
          by (at_node before part is) =
              let at_k : IsEndOf ((k ∷ d) ++ lift b) (lift (k ∷ before)) = ([], ap (λ l. k ∷ l) (sym is)) in
              let g = behind_b k before part at_k in
              let part_is : e ++ (s ∷ b) ≡ part.0 ++ (k ∷ (g.0 ++ b)) = part.1 ∙ ap (λ l. part.0 ++ (k ∷ l)) g.1 in
              let is_g : d ++ lift b ≡ chain k ++ lift (g.0 ++ b) = is ∙ ap (λ l. chain k ++ lift l) g.1 in
              let w : Walk (k ∷ (g.0 ++ b)) = sink.shorter part.0 k (g.0 ++ b) (subst Walk part_is walk) in
              let w' = walk_other k g.0 part.0 part_is in
              from_behind k g.0 (ap (λ l. from (k ∷ l)) is_g ∙ from_old k (g.0 ++ b) w) (ap (λ l. from (k ∷ l)) (cut (chain k) g.0 is_g b') ∙ from_old k (g.0 ++ b') w')
          by (in_chain n before crest part at_c is) =
              let at_n : IsEndOf ((k ∷ d) ++ lift b) (lift (n ∷ before)) = (n ∷ at_c.0, ap (λ l. n ∷ (l ++ lift before)) at_c.1 ∙ ap (λ l. n ∷ l) (append_assoc at_c.0 (k ∷ crest) (lift before)) ∙ ap (λ l. n ∷ (at_c.0 ++ (k ∷ l))) (sym is)) in
              let g = behind_b n before part at_n in
              let part_is : e ++ (s ∷ b) ≡ part.0 ++ (n ∷ (g.0 ++ b)) = part.1 ∙ ap (λ l. part.0 ++ (n ∷ l)) g.1 in
              let is_g : d ++ lift b ≡ crest ++ lift (g.0 ++ b) = is ∙ ap (λ l. crest ++ lift l) g.1 in
              let w : Walk (n ∷ (g.0 ++ b)) = sink.shorter part.0 n (g.0 ++ b) (subst Walk part_is walk) in
              let w' = walk_other n g.0 part.0 part_is in
              let one : from ((k ∷ d) ++ lift b) ≡ latest (does (Is (what k))) (g.0 ++ b) = ap (λ l. from (k ∷ l)) is_g ∙ from_new n k crest (g.0 ++ b) w at_c in
              let other : from ((k ∷ d) ++ lift b') ≡ latest (does (Is (what k))) (g.0 ++ b') = ap (λ l. from (k ∷ l)) (cut crest g.0 is_g b') ∙ from_new n k crest (g.0 ++ b') w' at_c in
              elim (is_near (does (Is (what k))) g.0) [
                | near_in o rest near ↦ from_behind o rest (one ∙ near b) (other ∙ near b')
                | near_behind near ↦ from_before (subst (λ l. IsEndOf l b) (sym (one ∙ near b)) (latest_end (does (Is (what k))) b)) (subst (λ l. IsEndOf l b') (sym (other ∙ near b')) (latest_end (does (Is (what k))) b'))
              ]

      fixed : (path : List ℕ) (k : ℕ) (rest : List ℕ) → Walk path → Where k rest path → firm k ≡ true → IsEndOf (k ∷ rest) (lift (from (k ∷ rest)))
      fixed path k rest walk (at_node before part is) is_firm = ([], ap lift (ap (λ l. from (k ∷ l)) is ∙ from_old k before (part_walk k before path walk part)) ∙ ap (λ l. k ∷ l) (sym is))
      fixed path k rest walk (in_chain n before crest part at is) is_firm = absurd (true≢false (sym is_firm ∙ firm_new n k crest at))

      -- a sinking makes an image
      pub sunk_image : IsImage P Walk does firm over does1 from
      sunk_image = record {
        none = refl;
        itself = λ n. (chain n, refl);
        origin = λ path k rest walk at acts. origin path k rest walk (where_it_stands k rest path at) acts;
        read = λ path k rest y walk at reads. read path k rest y walk (where_it_stands k rest path at) reads;
        wrote = λ path k rest y walk at sets. ([], sym (wrote path k rest y walk (where_it_stands k rest path at) sets));
        joins = λ b b' e s k d walk walk' at acts. joins b b' e s k d walk walk' at;
        assignment = assignment;
        firm_alike = firm_alike;
        fixed = λ path k rest walk at acts is. fixed path k rest walk (where_it_stands k rest path at) is;
      }

    -- ---- where what goes is put, or how far it is delayed

    -- a pattern that is delayed at a node came from its last occurrence, and nothing since blocks it
    pub record Since (p : P) (path : List ℕ) : Type 0 where
      pub node : ℕ
      pub rest : List ℕ
      pub at : IsEndOf (node ∷ rest) path
      pub is : does (Is p) node ≡ true
      pub free : (g : ℕ) (grest : List ℕ) → IsEndOf (g ∷ grest) path → IsEndOf (node ∷ rest) grest → Clash P (λ q. pat q p) (λ q. does q g) → ⊥

    pub late_since : (n x : ℕ) (path : List ℕ) (p : P) → Walk (n ∷ path) → late n x ≡ Some p → Since p path
    late_since n x [] p walk is = absurd (none-some p (sym (sink.start n x walk) ∙ is))
    late_since n x (m ∷ path) p walk is = elim (sink.back n m x path p walk is) [
      | inl o ↦ record {
        node = m;
        rest = path;
        at = end_itself (m ∷ path);
        is = o.1;
        free = λ g grest at_g under clash. (let a = end_length (g ∷ grest) (m ∷ path) at_g in let b = end_length (m ∷ path) grest under in absurd (omega (arith, a, b)));
      }
      | inr passes ↦
          let r = late_since m x path p (sink.shorter (n ∷ []) m path walk) passes.was_late in
          record {
            node = r.node;
            rest = r.rest;
            at = end_past (m ∷ []) (r.node ∷ r.rest) path r.at;
            is = r.is;
            free = λ g grest at_g under clash. elim (end_or g m grest path at_g) [
              | inl same ↦ passes.free (subst (λ k. Clash P (λ q. pat q p) (λ q. does q k)) same clash)
              | inr deeper ↦ r.free g grest deeper under clash
            ];
          }
    ]

    module _ (m : ℕ) (rest : List ℕ) (g : Goes m) where
      -- it is put nowhere on this way on
      abbrev pub Unput : List ℕ → Type 0
      Unput f = (n : ℕ) (before : List ℕ) → IsEndOf (n ∷ before) (f ++ (m ∷ rest)) → IsEndOf (m ∷ rest) before → latest (does (Is g.pattern)) before ≡ m ∷ rest → Put g.pattern n → ⊥

      -- so it is delayed behind it, and nothing on it blocks it
      pub record Pending (f : List ℕ) : Type 0 where
        pub last : latest (does (Is g.pattern)) (f ++ (m ∷ rest)) ≡ m ∷ rest
        pub next : (s : ℕ) → Walk (s ∷ (f ++ (m ∷ rest))) → late s g.var ≡ Some g.pattern
        pub free : (k : ℕ) (krest : List ℕ) → IsEndOf (k ∷ krest) (f ++ (m ∷ rest)) → IsEndOf (m ∷ rest) krest
            → Clash P (λ q. pat q g.pattern) (λ q. does q k) → ⊥

      pub pending : (f : List ℕ) → Walk (f ++ (m ∷ rest)) → Unput f → Pending f
      pending [] walk unput = record {
        last = latest_here (does (Is g.pattern)) m rest g.is;
        next = λ s w. g.on s rest w;
        free = λ k krest at under clash. (let a = end_length (k ∷ krest) (m ∷ rest) at in let b = end_length (m ∷ rest) krest under in absurd (omega (arith, a, b)));
      }
      pending (n ∷ f) walk unput =
          let inner = pending f (shorter_by f walk) (λ k before at under last put. unput k before (end_past (n ∷ []) (k ∷ before) (f ++ (m ∷ rest)) at) under last put) in
          after inner (inner.next n walk)
        where
          shorter_by : (l : List ℕ) → Walk (n ∷ (l ++ (m ∷ rest))) → Walk (l ++ (m ∷ rest))
          shorter_by [] w = sink.shorter (n ∷ []) m rest w
          shorter_by (k ∷ l) w = sink.shorter (n ∷ []) k (l ++ (m ∷ rest)) w

          after : Pending f → late n g.var ≡ Some g.pattern → Pending (n ∷ f)
          after inner is = record {
            last = latest_past (does (Is g.pattern)) n (f ++ (m ∷ rest)) not_is ∙ inner.last;
            next = λ s w. by s w (late s g.var) refl;
            free = λ k krest at under clash. elim (end_or k n krest (f ++ (m ∷ rest)) at) [
              | inl same ↦ unblocked (subst (λ a. Clash P (λ q. pat q g.pattern) (λ q. does q a)) same clash)
              | inr deeper ↦ inner.free k krest deeper under clash
            ];
          }
            where
              no_put : Put g.pattern n → ⊥
              no_put put = unput n (f ++ (m ∷ rest)) (end_itself (n ∷ (f ++ (m ∷ rest)))) (f, refl) inner.last put

              unblocked : Clash P (λ q. pat q g.pattern) (λ q. does q n) → ⊥
              unblocked clash = no_put (sink.blocked n g.var (f ++ (m ∷ rest)) g.pattern walk is clash)

              not_is : does (Is g.pattern) n ≡ false
              not_is = elim (cases_Bool (does (Is g.pattern) n)) [
                | inl o ↦ absurd (unblocked (both_set g.var g.sets (sink.occurs n g.pattern o (Sets g.var) ∙ g.sets)))
                | inr none ↦ none
              ]

              by : (s : ℕ) → Walk (s ∷ n ∷ (f ++ (m ∷ rest))) → (o : Option P) → late s g.var ≡ o → o ≡ Some g.pattern
              by s w None e = absurd (no_put (sink.lost s n g.var (f ++ (m ∷ rest)) g.pattern w e is))
              by s w (Some u) e = elim (sink.back s n g.var (f ++ (m ∷ rest)) u w e) [
                | inl o ↦ absurd (unblocked (both_set g.var g.sets (sink.occurs n u o.1 (Sets g.var) ∙ sink.late_sets s g.var u e)))
                | inr passes ↦ sym passes.was_late ∙ is
              ]
