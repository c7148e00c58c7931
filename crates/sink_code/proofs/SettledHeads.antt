-- Patterns that come into blocks are settled, one after the other.
use Rattle.std.proofs.Common.{◌≡◌, ◌⊎◌, ℕ, zero, suc, ◌+◌, ◌<◌, ◌≤◌, ◌++◌, ◌≢◌, ◌||◌, ◌&&◌, not, Bool, true, false, Contains, List, [], ◌∷◌, length, set, get_or, slice_get, Some, Result, Ok, Err, OnOk, refl, sym, ap, inl, inr, ◌∙◌, subst, arith, true≢false}
use Rattle.std.proofs.Math.Bool.{and-true, or-true}
use Rattle.std.proofs.lemmas.Bool.{and_parts, cases_Bool, cases_eq, cases_lt}
use Rattle.std.proofs.lemmas.List.Folds.{list_any_at}
use Rattle.std.proofs.lemmas.List.Elements.{Contains-append_left, Contains-push}
use Rattle.std.proofs.lemmas.Option.{get_or_from_slice_get, none-some, same_Some, slice_get-get_or, slice_get_within, slice_get_past}
use Rattle.mir_base.specs.declared.instructions.Operand.TheVariants.{Var}
use Rattle.mir_base.specs.declared.instructions.Rhs.TheVariants.{Plain}
use Rattle.flow_graph.specs.ListLaws.{get_push}
use Rattle.key_rows.specs.KeyRowLaws.{bit_beside, bit_elsewhere, bit_set, with_bit_set, with_bit_shape}
use Rattle.path_laws.specs.Paths.{AreRows, has_bit}
use Rattle.path_laws.specs.RowLaws.{Written, put, written_shape}
use Rattle.bit_rows.specs.BitLaws.{length_minus, length_or, minus_bit, or_bit}
use Rattle.bit_rows.specs.Bits.{minus_bits, or_bits, row_of}
use Rattle.sink_code.specs.declared.between.Coming.{Coming}
use Rattle.sink_code.specs.declared.inserting.PutBefore.{PutBefore}
use Rattle.sink_code.specs.declared.over.OverBlocks.{OverBlocks}
use Rattle.sink_code.specs.declared.patterns.Pattern.{Pattern}
use Rattle.sink_code.specs.declared.places.BlockPlaces.{BlockPlaces}
use Rattle.graph_edit.specs.Accesses.{blocks_at}
use Rattle.sink_code.specs.BlockRows.{is_blocked_in}
use Rattle.sink_code.specs.Coming.{ComeInto, HasBlocked}
use Rattle.sink_code.specs.FoundPuts.{ComesInto, IsFromHead, passes_whole}
use Rattle.sink_code.specs.Heads.{AreHeadDone, AreHeadsDone, IsSettled}
use Rattle.sink_code.specs.Inside.{stop_from}
use Rattle.sink_code.specs.Over.{AreFromHeadsOver, HaveShapeOver, lists_of}
use Rattle.sink_code.specs.BlockPlaces.{AreBlockPlaces, AreTakenIn}
use Rattle.sink_code.specs.Puts.{put_at}
use Rattle.sink_code.proofs.Stops.{all_passes, passes_each, stop_is, stopped_passes}

-- none is settled, of none
pub none_settled : (over : OverBlocks) (into leaves : List (List Bool)) (puts : List PutBefore) (done : ℕ → ℕ → Type 0) → HaveShapeOver over leaves → ((b k : ℕ) → done b k → b < length (lists_of over) → ⊥) → AreFromHeadsOver over into leaves puts done leaves puts
none_settled over into leaves puts done shape none = record {
  shape = shape;
  grows = λ put c. c;
  only = λ i put e. inl (i, slice_get_within puts i put e, get_or_at puts i put e);
  all = λ b k n list p d comes at. absurd (none b k d (slice_get_within (lists_of over) b list comes.is_block));
  sound = λ b k list p is_block numbered on. inl on;
  kept = λ b k on. on;
  passed = λ b k list p d comes free. absurd (none b k d (slice_get_within (lists_of over) b list comes.is_block));
}
  where
    get_or_at : (l : List PutBefore) (i : ℕ) (put : PutBefore) → slice_get l i ≡ Some put → get_or l i put ≡ put
    get_or_at l i put e = get_or_from_slice_get l i put put e

-- what is done of more is done of fewer, and of those that do not come into their block
pub heads_weaker : (over : OverBlocks) (into leaves rows : List (List Bool)) (puts now : List PutBefore) (done fewer : ℕ → ℕ → Type 0) → ((b k : ℕ) → fewer b k → has_bit into k b ≡ true → done b k)
    → AreFromHeadsOver over into leaves puts done rows now → AreFromHeadsOver over into leaves puts fewer rows now
heads_weaker over into leaves rows puts now done fewer weaker are = record {
  shape = are.shape;
  grows = are.grows;
  only = are.only;
  all = λ b k n list p d comes at. are.all b k n list p (weaker b k d comes.comes) comes at;
  sound = are.sound;
  kept = are.kept;
  passed = λ b k list p d comes free. are.passed b k list p (weaker b k d comes.comes) comes free;
}

module _ (over : OverBlocks) (into leaves : List (List Bool)) (puts : List PutBefore) (block number : ℕ) (comes : has_bit into number block ≡ true) (rows after : List (List Bool)) (now more : List PutBefore) (settled : IsSettled over block number rows now after more) where
  abbrev p : Pattern
  p = settled.p

  abbrev stop : ℕ
  stop = stop_from over.graph.now settled.list 0 settled.p

  one_list : (list : List ℕ) → slice_get (lists_of over) block ≡ Some list → settled.list ≡ list
  one_list list e = same_Some settled.list list (sym settled.is_block ∙ e)

  one_pattern : (q : Pattern) → slice_get over.table.now number ≡ Some q → settled.p ≡ q
  one_pattern q e = same_Some settled.p q (sym settled.numbered ∙ e)

  block_in : block < length (lists_of over)
  block_in = slice_get_within (lists_of over) block settled.list settled.is_block

  number_in : number < length over.table.now
  number_in = slice_get_within over.table.now number settled.p settled.numbered

  -- this one, and those that were
  abbrev Done : (ℕ → ℕ → Type 0) → ℕ → ℕ → Type 0
  Done done b k = done b k ⊎ ((b ≡ block) × (k ≡ number))

  -- one pattern more is settled
  pub settled_more : (done : ℕ → ℕ → Type 0) → AreFromHeadsOver over into leaves puts done rows now → AreFromHeadsOver over into leaves puts (Done done) after more
  settled_more done are = elim settled.either [
    | inl put ↦
        let n = put.0 in
        let same_rows = put.2 in
        let puts_is = put.3 in
        record {
          shape = subst (HaveShapeOver over) (sym same_rows) are.shape;
          grows = λ q c. grown n puts_is q (are.grows q c);
          only = λ i q e. elim (get_push now (put_at n p) q i (ap (λ l. slice_get l i) (sym puts_is) ∙ e)) [
            | inl was ↦ are.only i q was
            | inr last ↦ inr (subst (IsFromHead over.graph.now (lists_of over) over.table.now into) last.1 (record {
              block = block;
              number = number;
              list = settled.list;
              p = p;
              into_block = record { is_block = settled.is_block; numbered = settled.numbered; comes = comes };
              stops = put.1;
              is = refl;
            }))
          ];
          all = λ b k m list q d into_block at. elim d [
            | inl was ↦ grown n puts_is (put_at m q) (are.all b k m list q was into_block at)
            | inr here ↦
                let is_list = one_list list (ap (slice_get (lists_of over)) (sym here.0) ∙ into_block.is_block) in
                let is_pattern = one_pattern q (ap (slice_get over.table.now) (sym here.1) ∙ into_block.numbered) in
                let there : slice_get settled.list stop ≡ Some m = subst (λ (r : Pattern). slice_get settled.list (stop_from over.graph.now settled.list 0 r) ≡ Some m) (sym is_pattern) (subst (λ l. slice_get l (stop_from over.graph.now l 0 q) ≡ Some m) (sym is_list) at) in
                let same : n ≡ m = same_Some n m (sym put.1 ∙ there) in
                subst (λ (r : Pattern). Contains more (put_at m r)) is_pattern (subst (λ j. Contains more (put_at j p)) same (subst (λ l. Contains l (put_at n p)) (sym puts_is) (Contains-push now (put_at n p))))
          ];
          sound = λ b k list q is_block numbered on. are.sound b k list q is_block numbered (ap (λ (l : List (List Bool)). has_bit l k b) (sym same_rows) ∙ on);
          kept = λ b k on. ap (λ (l : List (List Bool)). has_bit l k b) same_rows ∙ are.kept b k on;
          passed = λ b k list q d into_block free. ap (λ (l : List (List Bool)). has_bit l k b) same_rows ∙ elim d as (λ _. has_bit rows k b ≡ true) [
            | inl was ↦ are.passed b k list q was into_block free
            | inr here ↦
                let is_list = one_list list (ap (slice_get (lists_of over)) (sym here.0) ∙ into_block.is_block) in
                let is_pattern = one_pattern q (ap (slice_get over.table.now) (sym here.1) ∙ into_block.numbered) in
                let free_here : passes_whole over.graph.now settled.list p ≡ true = subst (λ (r : Pattern). passes_whole over.graph.now settled.list r ≡ true) (sym is_pattern) (subst (λ l. passes_whole over.graph.now l q ≡ true) (sym is_list) free) in
                absurd (true≢false (sym ((stop_is over.graph.now settled.list 0 p (omega arith)).stops n put.1) ∙ passes_each over.graph.now settled.list p free_here stop n put.1))
          ];
        }
    | inr left ↦
        let late = left.0 in
        let rows_is = left.1 in
        let same_puts = left.2 in
        record {
          shape = subst (HaveShapeOver over) (sym rows_is) (with_bit_shape (length (lists_of over)) (length over.table.now) rows are.shape block number);
          grows = λ q c. subst (λ l. Contains l q) (sym same_puts) (are.grows q c);
          only = λ i q e. are.only i q (ap (λ l. slice_get l i) (sym same_puts) ∙ e);
          all = λ b k m list q d into_block at. subst (λ l. Contains l (put_at m q)) (sym same_puts) (elim d [
            | inl was ↦ are.all b k m list q was into_block at
            | inr here ↦
                let is_list = one_list list (ap (slice_get (lists_of over)) (sym here.0) ∙ into_block.is_block) in
                let is_pattern = one_pattern q (ap (slice_get over.table.now) (sym here.1) ∙ into_block.numbered) in
                let there : slice_get settled.list stop ≡ Some m = subst (λ (r : Pattern). slice_get settled.list (stop_from over.graph.now settled.list 0 r) ≡ Some m) (sym is_pattern) (subst (λ l. slice_get l (stop_from over.graph.now l 0 q) ≡ Some m) (sym is_list) at) in
                absurd (none-some m (sym (slice_get_past settled.list stop late) ∙ there))
          ]);
          sound = λ b k list q is_block numbered on. elim (cases_eq b block) [
            | inl same ↦ elim (cases_eq k number) [
              | inl one ↦
                  let is_list = one_list list (ap (slice_get (lists_of over)) (sym same) ∙ is_block) in
                  let is_pattern = one_pattern q (ap (slice_get over.table.now) (sym one) ∙ numbered) in
                  let free : passes_whole over.graph.now settled.list p ≡ true = stopped_passes over.graph.now settled.list p late in
                  inr (
                    ap (λ c. has_bit into k c) same ∙ ap (λ j. has_bit into j block) one ∙ comes,
                    subst (λ l. passes_whole over.graph.now l q ≡ true) is_list (subst (λ (r : Pattern). passes_whole over.graph.now settled.list r ≡ true) is_pattern free),
                  )
              | inr beside ↦ are.sound b k list q is_block numbered (ap (λ c. has_bit rows k c) same ∙ sym (bit_beside (length (lists_of over)) (length over.table.now) rows are.shape block number k block_in beside) ∙ ap (λ (l : List (List Bool)). has_bit l k block) (sym rows_is) ∙ ap (λ c. has_bit after k c) (sym same) ∙ on)
            ]
            | inr elsewhere ↦ are.sound b k list q is_block numbered (sym (bit_elsewhere (length (lists_of over)) (length over.table.now) rows are.shape block number b k elsewhere) ∙ ap (λ (l : List (List Bool)). has_bit l k b) (sym rows_is) ∙ on)
          ];
          kept = λ b k on. still rows_is are.shape b k (are.kept b k on);
          passed = λ b k list q d into_block free. elim d as (λ _. has_bit after k b ≡ true) [
            | inl was ↦ still rows_is are.shape b k (are.passed b k list q was into_block free)
            | inr here ↦ ap (λ c. has_bit after k c) here.0 ∙ ap (λ j. has_bit after j block) here.1 ∙ ap (λ (l : List (List Bool)). has_bit l number block) rows_is ∙ bit_set (length (lists_of over)) (length over.table.now) rows are.shape block number block_in number_in
          ];
        }
  ]
    where
      grown : (n : ℕ) → more ≡ now ++ put_at n p ∷ [] → (q : PutBefore) → Contains now q → Contains more q
      grown n puts_is q c = subst (λ l. Contains l q) (sym puts_is) (Contains-append_left now (put_at n p ∷ []) q c)

      still : after ≡ with_bit_set rows block number → AreRows (length (lists_of over)) (length over.table.now) rows → (b k : ℕ) → has_bit rows k b ≡ true → has_bit after k b ≡ true
      still rows_is shape b k on = ap (λ (l : List (List Bool)). has_bit l k b) rows_is ∙ elim (cases_eq b block) as (λ _. has_bit (with_bit_set rows block number) k b ≡ true) [
        | inl same ↦ elim (cases_eq k number) as (λ _. has_bit (with_bit_set rows block number) k b ≡ true) [
          | inl one ↦ ap (λ c. has_bit (with_bit_set rows block number) k c) same ∙ ap (λ j. has_bit (with_bit_set rows block number) j block) one ∙ bit_set (length (lists_of over)) (length over.table.now) rows shape block number block_in number_in
          | inr beside ↦ ap (λ c. has_bit (with_bit_set rows block number) k c) same ∙ bit_beside (length (lists_of over)) (length over.table.now) rows shape block number k block_in beside ∙ ap (λ c. has_bit rows k c) (sym same) ∙ on
        ]
        | inr elsewhere ↦ bit_elsewhere (length (lists_of over)) (length over.table.now) rows shape block number b k elsewhere ∙ on
      ]

-- a bit that is set is one of the row
pub on_within : (row : List Bool) (k : ℕ) → get_or row k false ≡ true → k < length row
on_within [] zero on = absurd (true≢false (sym on))
on_within [] (suc k) on = absurd (true≢false (sym on))
on_within (b ∷ row) zero on = omega arith
on_within (b ∷ row) (suc k) on = let rest = on_within row k on in omega (arith, rest)

-- ---- what nothing blocks

-- what comes into a block, and is not blocked there, passes all its nodes
pub unstopped_passes : (over : OverBlocks) (coming : Coming) → HasBlocked over coming → (b k : ℕ) (list : List ℕ) (p : Pattern) → slice_get (lists_of over) b ≡ Some list → slice_get over.table.now k ≡ Some p
    → has_bit coming.into k b ≡ true → has_bit coming.blocked k b ≡ false → passes_whole over.graph.now list p ≡ true
unstopped_passes over coming has b k list p is_block numbered on off = all_passes over.graph.now list p free
  where
    none_blocks : is_blocked_in over.graph.now p list ≡ false
    none_blocks = sym (and-true (is_blocked_in over.graph.now p list)) ∙ ap (λ o. is_blocked_in over.graph.now p list && o) (sym on) ∙ sym (has.are b k list p is_block numbered) ∙ off

    free : (j n : ℕ) → slice_get list j ≡ Some n → blocks_at p.var p.rhs over.graph.now n ≡ false
    free j n at = elim (cases_Bool (blocks_at p.var p.rhs over.graph.now n)) as (λ _. blocks_at p.var p.rhs over.graph.now n ≡ false) [
      | inl blocks ↦
          let here : blocks_at p.var p.rhs over.graph.now (get_or list j 0) ≡ true = ap (blocks_at p.var p.rhs over.graph.now) (get_or_from_slice_get list j n 0 at) ∙ blocks in
          absurd (true≢false (sym (list_any_at (blocks_at p.var p.rhs over.graph.now) list j 0 (slice_get_within list j n at) here) ∙ none_blocks))
      | inr passes ↦ passes
    ]

module _ (over : OverBlocks) (coming : Coming) (has : HasBlocked over coming) (leaves rows after : List (List Bool)) (puts now : List PutBefore) (block : ℕ) (block_in : block < length (lists_of over)) (shape : HaveShapeOver over rows)
    (is : after ≡ set rows block (or_bits (row_of rows block) (minus_bits (row_of coming.into block) (row_of coming.blocked block)))) where
  abbrev into : List (List Bool)
  into = coming.into

  abbrev gone : List Bool
  gone = minus_bits (row_of coming.into block) (row_of coming.blocked block)

  into_long : length (row_of coming.into block) ≡ length over.table.now
  into_long = has.into_shape.each block block_in

  same_long : length (row_of coming.into block) ≡ length (row_of coming.blocked block)
  same_long = into_long ∙ sym (has.shape.each block block_in)

  gone_long : length gone ≡ length over.table.now
  gone_long = length_minus (row_of coming.into block) (row_of coming.blocked block) same_long ∙ into_long

  row_long : length (row_of rows block) ≡ length gone
  row_long = shape.each block block_in ∙ sym gone_long

  is_written : Written rows after block (or_bits (row_of rows block) gone)
  is_written = put rows after block (or_bits (row_of rows block) gone) (rw shape.len block_in) is

  -- the rows are of one shape
  pub gone_shape : HaveShapeOver over after
  gone_shape = written_shape (length (lists_of over)) (length over.table.now) block rows after (or_bits (row_of rows block) gone) shape is_written (length_or (row_of rows block) gone row_long ∙ shape.each block block_in)

  -- a bit of the block is set where it was, or where its pattern comes into the block and is not blocked there
  bit_here : (k : ℕ) → has_bit after k block ≡ (has_bit rows k block || (has_bit into k block && not (has_bit coming.blocked k block)))
  bit_here k =
      ap (λ (r : List Bool). get_or r k false) is_written.here ∙ or_bit (row_of rows block) gone k row_long
      ∙ ap (λ o. has_bit rows k block || o) (minus_bit (row_of coming.into block) (row_of coming.blocked block) k same_long)

  bit_other : (b k : ℕ) → b ≢ block → has_bit after k b ≡ has_bit rows k b
  bit_other b k differ = ap (λ (r : List Bool). get_or r k false) (is_written.others b differ)

  -- a bit that is set stays set
  still : (b k : ℕ) → has_bit rows k b ≡ true → has_bit after k b ≡ true
  still b k on = elim (cases_eq b block) as (λ _. has_bit after k b ≡ true) [
    | inl same ↦ ap (has_bit after k) same ∙ bit_here k ∙ ap (λ o. o || (has_bit into k block && not (has_bit coming.blocked k block))) (ap (has_bit rows k) (sym same) ∙ on)
    | inr differ ↦ bit_other b k differ ∙ on
  ]

  -- where one of two is true
  either_true : (x y z : Bool) → (x || (y && not z)) ≡ true → (x ≡ true) ⊎ ((y ≡ true) × (z ≡ false))
  either_true true y z e = inl refl
  either_true false true false e = inr (refl, refl)
  either_true false true true e = absurd (true≢false (sym e))
  either_true false false z e = absurd (true≢false (sym e))

  -- those that nothing blocks in the block are settled, all at once
  pub gone_at_once : AreHeadsDone over into leaves puts (suc block) rows now → AreHeadDone over into (row_of coming.blocked block) leaves puts block 0 after now
  gone_at_once are = record {
    shape = gone_shape;
    grows = are.grows;
    only = are.only;
    all = λ b k n list p d comes at. elim d as (λ _. Contains now (put_at n p)) [
      | inl later ↦ are.all b k n list p (omega (arith, later)) comes at
      | inr here ↦ elim here.1 as (λ _. Contains now (put_at n p)) [
        | inl low ↦ absurd (omega (arith, low))
        | inr off ↦ absurd (true≢false (sym ((stop_is over.graph.now list 0 p (omega arith)).stops n at) ∙ passes_each over.graph.now list p (passes b k list p here.0 off comes) (stop_from over.graph.now list 0 p) n at))
      ]
    ];
    sound = λ b k list p is_block numbered on. elim (cases_eq b block) as (λ _. (has_bit leaves k b ≡ true) ⊎ ((has_bit into k b ≡ true) × (passes_whole over.graph.now list p ≡ true))) [
      | inl same ↦ elim (either_true (has_bit rows k block) (has_bit into k block) (has_bit coming.blocked k block) (sym (bit_here k) ∙ ap (has_bit after k) (sym same) ∙ on)) as (λ _. (has_bit leaves k b ≡ true) ⊎ ((has_bit into k b ≡ true) × (passes_whole over.graph.now list p ≡ true))) [
        | inl was ↦ are.sound b k list p is_block numbered (ap (has_bit rows k) same ∙ was)
        | inr new ↦
            let comes : has_bit coming.into k b ≡ true = ap (has_bit into k) same ∙ new.0 in
            inr (comes, unstopped_passes over coming has b k list p is_block numbered comes (ap (has_bit coming.blocked k) same ∙ new.1))
      ]
      | inr differ ↦ are.sound b k list p is_block numbered (sym (bit_other b k differ) ∙ on)
    ];
    kept = λ b k on. still b k (are.kept b k on);
    passed = λ b k list p d comes free. elim d as (λ _. has_bit after k b ≡ true) [
      | inl later ↦ still b k (are.passed b k list p (omega (arith, later)) comes free)
      | inr here ↦ elim here.1 as (λ _. has_bit after k b ≡ true) [
        | inl low ↦ absurd (omega (arith, low))
        | inr off ↦
            ap (has_bit after k) here.0 ∙ bit_here k
            ∙ ap (λ o. has_bit rows k block || (o && not (has_bit coming.blocked k block))) (ap (has_bit into k) (sym here.0) ∙ comes.comes)
            ∙ ap (λ o. has_bit rows k block || not o) off ∙ or-true (has_bit rows k block)
      ]
    ];
  }
    where
      passes : (b k : ℕ) (list : List ℕ) (p : Pattern) → b ≡ block → get_or (row_of coming.blocked block) k false ≡ false → ComesInto (lists_of over) over.table.now into b k list p → passes_whole over.graph.now list p ≡ true
      passes b k list p same off comes = unstopped_passes over coming has b k list p comes.is_block comes.numbered comes.comes (ap (has_bit coming.blocked k) same ∙ off)

-- what is set in the row of the blocked ones comes into its block
pub stopped_comes : (over : OverBlocks) (coming : Coming) → HasBlocked over coming → (block : ℕ) → block < length (lists_of over) → ComeInto coming.into block (row_of coming.blocked block)
stopped_comes over coming has block h k on =
    let long : length (row_of coming.blocked block) ≡ length over.table.now = has.shape.each block h in
    let inside = on_within (row_of coming.blocked block) k on in
    let within : k < length over.table.now = omega (arith, long, inside) in
    let fallback : Pattern = record { var = 0; rhs = Plain (Var 0) } in
    let list = get_or (lists_of over) block [] in
    let p = get_or over.table.now k fallback in
    (and_parts (is_blocked_in over.graph.now p list) (has_bit coming.into k block) (sym (has.are block k list p (slice_get-get_or (lists_of over) block [] h) (slice_get-get_or over.table.now k fallback within)) ∙ on)).1

-- ---- along the patterns of a block

module _ (over : OverBlocks) (into : List (List Bool)) (row : List Bool) (leaves rows : List (List Bool)) (puts now : List PutBefore) (block : ℕ) where
  -- once all whose bits are set are settled
  pub head_done : (from : ℕ) → ((j : ℕ) → from ≤ j → get_or row j false ≡ true → ⊥) → AreHeadDone over into row leaves puts block from rows now → AreHeadsDone over into leaves puts block rows now
  head_done from none are = heads_weaker over into leaves rows puts now (λ b k. (block < b) ⊎ ((b ≡ block) × ((k < from) ⊎ (get_or row k false ≡ false)))) (λ b k. block ≤ b) weaker are
    where
      weaker : (b k : ℕ) → block ≤ b → has_bit into k b ≡ true → (block < b) ⊎ ((b ≡ block) × ((k < from) ⊎ (get_or row k false ≡ false)))
      weaker b k le on = elim (cases_eq b block) [
        | inl same ↦ inr (
          same,
          elim (cases_lt k from) as (λ _. (k < from) ⊎ (get_or row k false ≡ false)) [
            | inl early ↦ inl early
            | inr late ↦ inr (elim (cases_Bool (get_or row k false)) as (λ _. get_or row k false ≡ false) [ inl set ↦ absurd (none k late set) | inr off ↦ off ])
          ],
        )
        | inr differ ↦ inl (omega (arith, le, differ))
      ]

  -- one more, where no bit before it is set
  pub head_next : (from number : ℕ) (after : List (List Bool)) (more : List PutBefore) → from ≤ number → ((j : ℕ) → from ≤ j → j < number → get_or row j false ≡ false) → has_bit into number block ≡ true → IsSettled over block number rows now after more
      → AreHeadDone over into row leaves puts block from rows now → AreHeadDone over into row leaves puts block (number + 1) after more
  head_next from number after more le none comes settled are =
      heads_weaker over into leaves after puts more (λ b k. ((block < b) ⊎ ((b ≡ block) × ((k < from) ⊎ (get_or row k false ≡ false)))) ⊎ ((b ≡ block) × (k ≡ number))) (λ b k. (block < b) ⊎ ((b ≡ block) × ((k < number + 1) ⊎ (get_or row k false ≡ false)))) weaker
      (settled_more over into leaves puts block number comes rows after now more settled (λ b k. (block < b) ⊎ ((b ≡ block) × ((k < from) ⊎ (get_or row k false ≡ false)))) are)
    where
      weaker : (b k : ℕ) → (block < b) ⊎ ((b ≡ block) × ((k < number + 1) ⊎ (get_or row k false ≡ false))) → has_bit into k b ≡ true → ((block < b) ⊎ ((b ≡ block) × ((k < from) ⊎ (get_or row k false ≡ false)))) ⊎ ((b ≡ block) × (k ≡ number))
      weaker b k (inl later) on = inl (inl later)
      weaker b k (inr here) on = elim here.1 as (λ _. ((block < b) ⊎ ((b ≡ block) × ((k < from) ⊎ (get_or row k false ≡ false)))) ⊎ ((b ≡ block) × (k ≡ number))) [
        | inr off ↦ inl (inr (here.0, inr off))
        | inl below ↦ elim (cases_lt k from) as (λ _. ((block < b) ⊎ ((b ≡ block) × ((k < from) ⊎ (get_or row k false ≡ false)))) ⊎ ((b ≡ block) × (k ≡ number))) [
          | inl early ↦ inl (inr (here.0, inl early))
          | inr late ↦ elim (cases_eq k number) as (λ _. ((block < b) ⊎ ((b ≡ block) × ((k < from) ⊎ (get_or row k false ≡ false)))) ⊎ ((b ≡ block) × (k ≡ number))) [
            | inl same ↦ inr (here.0, same)
            | inr differ ↦ inl (inr (here.0, inr (none k late (omega (arith, below, differ)))))
          ]
        ]
      ]

-- what settles a pattern keeps the shape of the rows
pub settled_shape : (over : OverBlocks) (block number : ℕ) (rows after : List (List Bool)) (now more : List PutBefore) → HaveShapeOver over rows → IsSettled over block number rows now after more → HaveShapeOver over after
settled_shape over block number rows after now more shape settled = elim settled.either as (λ _. HaveShapeOver over after) [
  | inl put ↦ subst (HaveShapeOver over) (sym put.2) shape
  | inr left ↦ subst (HaveShapeOver over) (sym left.1) (with_bit_shape (length (lists_of over)) (length over.table.now) rows shape block number)
]

-- the places of a block are places of it and of later ones
pub places_taken : (over : OverBlocks) (block index : ℕ) (list : List ℕ) (places : BlockPlaces) → AreTakenIn over.graph.now block index list places → AreBlockPlaces over.graph.now block places
places_taken over block index list places taken = record { access_long = taken.access_long; assign_long = taken.assign_long; access_from = taken.access_from; assign_from = taken.assign_from }

-- and so are those of later blocks
pub places_earlier : (over : OverBlocks) (block : ℕ) (places : BlockPlaces) → AreBlockPlaces over.graph.now (suc block) places → AreBlockPlaces over.graph.now block places
places_earlier over block places are = record {
  access_long = are.access_long;
  assign_long = are.assign_long;
  access_from = λ x p is. (let later = are.access_from x p is in omega (arith, later));
  assign_from = λ x p is. (let later = are.assign_from x p is in omega (arith, later));
}

-- what is so in any case is so of a success
pub on_ok_any : {T E P : Type 0} (r : Result T E) → P → OnOk r P
on_ok_any (Ok x) p = p
on_ok_any (Err e) p = tt
