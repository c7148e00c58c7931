-- What follows of a plan.
use Rattle.std.proofs.Common.{◌≡◌, ℕ, zero, suc, ◌+◌, ◌<◌, Bool, true, false, cond, eqb, ◌||◌, List, [], ◌∷◌, ◌++◌, map, length, drop, slice_get, Option, Some, None, option_map, ◌⊎◌, inl, inr, refl, sym, ap, ◌∙◌, subst, arith, append-nil, append_assoc, length-append, eqb-true}
use Rattle.std.proofs.lemmas.Bool.{eq-eqb}
use Rattle.std.proofs.lemmas.List.{length-map}
use Rattle.mir_base.specs.declared.instructions.Inst.{Inst}
use Rattle.mir_base.specs.declared.instructions.Inst.TheVariants as insts
use Rattle.mir_base.specs.Shapes.{receives_in}
use Rattle.flow_graph.specs.declared.plan.Item.{Item}
use Rattle.flow_graph.specs.declared.plan.Item.TheVariants.{Placed, Jump}
use Rattle.flow_graph.specs.declared.nodes.Node.{Node}
use Rattle.flow_graph.specs.declared.nodes.Node.TheVariants.{Start, Skip, Assign, Print, Guard, Call, Test, Return}
use Rattle.flow_graph.specs.Graphs.{following}
use Rattle.std.specs.Option.{option_or}
use Rattle.flow_graph.specs.Plans.{IsPlan, after_node, first_open, is_placed, next_item, open_at}
use Rattle.flow_graph.specs.Layouts.{emitted, emitted_by, item_insts, item_size, place_in, size}
use Rattle.flow_graph.specs.ListLaws.{get_seam}
use Rattle.std.proofs.Math.Bool.{or-true}
use Rattle.mir_base.specs.ItemLaws.{none_or}

-- there is an item before one that is not the first
pub one_newer : {A : Type 0} (j : ℕ) (xs : List A) (y : A) (ys : List A) → drop (suc j) xs ≡ y ∷ ys → (x : A) × (drop j xs ≡ x ∷ y ∷ ys)
one_newer zero [] y ys e = cc
one_newer zero (x ∷ xs) y ys e = (x, ap (λ l. x ∷ l) e)
one_newer (suc j) [] y ys e = cc
one_newer (suc j) (x ∷ xs) y ys e = one_newer j xs y ys e

-- the items after an item
pub one_older : {A : Type 0} (i : ℕ) (xs : List A) (y : A) (ys : List A) → drop i xs ≡ y ∷ ys → drop (suc i) xs ≡ ys
one_older zero [] y ys e = cc
one_older zero (x ∷ xs) y ys e = cc
one_older (suc i) [] y ys e = cc
one_older (suc i) (x ∷ xs) y ys e = one_older i xs y ys e

-- no receive is emitted
pub receives_append : (xs ys : List Inst) → receives_in xs ≡ 0 → receives_in ys ≡ 0 → receives_in (xs ++ ys) ≡ 0
receives_append [] ys e e' = e'
receives_append (insts.Receive x ∷ xs) ys e e' = absurd (omega (arith, e))
receives_append (insts.Assign x rhs ∷ xs) ys e e' = refl
receives_append (insts.Goto place ∷ xs) ys e e' = refl
receives_append (insts.If test place ∷ xs) ys e e' = refl
receives_append (insts.Call into unit operands ∷ xs) ys e e' = refl
receives_append (insts.Print a ∷ xs) ys e e' = refl
receives_append (insts.TrapIf test number ∷ xs) ys e e' = refl
receives_append (insts.Return a ∷ xs) ys e e' = refl

-- what a node emits: no receive, and equally many instructions whatever the places are
emits : (place : ℕ → ℕ) (o : Option Node) → (receives_in (emitted_by place o) ≡ 0) × (length (emitted_by place o) ≡ length (emitted_by (λ n. n) o))
emits place None = (refl, refl)
emits place (Some (Start next)) = (refl, refl)
emits place (Some (Skip next)) = (refl, refl)
emits place (Some (Assign x rhs next)) = (refl, refl)
emits place (Some (Print a next)) = (refl, refl)
emits place (Some (Guard test number next)) = (refl, refl)
emits place (Some (Call into unit operands next)) = (refl, refl)
emits place (Some (Test test taken other)) = (refl, refl)
emits place (Some (Return a)) = (refl, refl)

-- what is emitted for an item begins with no Receive
item_no_receive : (nodes : List Node) (place : ℕ → ℕ) (item : Item) → receives_in (item_insts nodes place item) ≡ 0
item_no_receive nodes place (Placed n) = (emits place (slice_get nodes n)).0
item_no_receive nodes place (Jump n) = refl

-- a plan emits no receive
pub no_receive : (nodes : List Node) (place : ℕ → ℕ) (plan : List Item) → receives_in (emitted nodes place plan) ≡ 0
no_receive nodes place [] = refl
no_receive nodes place (item ∷ older) = receives_append (emitted nodes place older) (item_insts nodes place item) (no_receive nodes place older) (item_no_receive nodes place item)

-- the receives of a body are those that stand first
pub all_received : (xs : List ℕ) (ys : List Inst) → receives_in ys ≡ 0 → receives_in (map insts.Receive xs ++ ys) ≡ length xs
all_received [] ys e = e
all_received (x ∷ xs) ys e = ap suc (all_received xs ys e)

module _ (nodes : List Node) (first : ℕ) where
  pub is_plan_drop : (k : ℕ) (plan : List Item) → IsPlan nodes first plan → IsPlan nodes first (drop k plan)
  is_plan_drop zero plan p = p
  is_plan_drop (suc k) [] p = tt
  is_plan_drop (suc k) (item ∷ older) p = is_plan_drop k older p.1

  -- an item is the last, or the next item follows
  pub data Next (plan : List Item) (items : List Item) : ℕ → Type 0 where
    last : next_item nodes first items ≡ None → Next plan items 0
    then_ : (j : ℕ) (item : Item) → drop j plan ≡ item ∷ items → next_item nodes first items ≡ Some item → Next plan items (suc j)

  pub next_of : (z : ℕ) (plan : List Item) (item : Item) (older : List Item) → IsPlan nodes first plan → next_item nodes first plan ≡ None → drop z plan ≡ item ∷ older → Next plan (item ∷ older) z
  next_of zero plan item older p done e = last (subst (λ l. next_item nodes first l ≡ None) e done)
  next_of (suc j) plan item older p done e =
      let n = one_newer j plan item older e in
      then_ j n.0 n.1 (subst (IsPlan nodes first) n.1 (is_plan_drop j plan p)).0

  open_at_fresh : (plan : List Item) (o : Option Node) (t : ℕ) → open_at plan o ≡ Some t → is_placed t plan ≡ false
  open_at_fresh plan None t e = cc
  open_at_fresh plan (Some (Start next)) t e = cc
  open_at_fresh plan (Some (Skip next)) t e = cc
  open_at_fresh plan (Some (Assign x rhs next)) t e = cc
  open_at_fresh plan (Some (Print a next)) t e = cc
  open_at_fresh plan (Some (Guard test number next)) t e = cc
  open_at_fresh plan (Some (Call into unit operands next)) t e = cc
  open_at_fresh plan (Some (Return a)) t e = cc
  open_at_fresh plan (Some (Test test taken other)) t e = chosen (is_placed taken plan) refl e
    where
      chosen : (b : Bool) → is_placed taken plan ≡ b → cond b None (Some taken) ≡ Some t → is_placed t plan ≡ false
      chosen true is q = cc
      chosen false is q = let same : taken ≡ t = cc in subst (λ n. is_placed n plan ≡ false) same is

  option_or_some : (a b : Option ℕ) (t : ℕ) → option_or a b ≡ Some t → (a ≡ Some t) ⊎ (b ≡ Some t)
  option_or_some None b t e = inr e
  option_or_some (Some n) b t e = inl e

  open_fresh : (plan items : List Item) (t : ℕ) → first_open nodes plan items ≡ Some t → is_placed t plan ≡ false
  open_fresh plan [] t e = cc
  open_fresh plan (Placed n ∷ older) t e =
      elim (option_or_some (first_open nodes plan older) (open_at plan (slice_get nodes n)) t e) [
        | inl q ↦ open_fresh plan older t q
        | inr q ↦ open_at_fresh plan (slice_get nodes n) t q
      ]
  open_fresh plan (Jump n ∷ older) t e = open_fresh plan older t e

  new_fresh : (plan : List Item) (o : Option ℕ) (m : ℕ) → first_open nodes plan plan ≡ o → option_map Placed o ≡ Some (Placed m) → is_placed m plan ≡ false
  new_fresh plan None m is e = cc
  new_fresh plan (Some t) m is e = let same : t ≡ m = cc in open_fresh plan plan m (is ∙ ap Some same)

  after_fresh : (plan : List Item) (o : Option ℕ) (m : ℕ) → after_node nodes plan o ≡ Some (Placed m) → is_placed m plan ≡ false
  after_fresh plan None m e = new_fresh plan (first_open nodes plan plan) m refl e
  after_fresh plan (Some s) m e = chosen (is_placed s plan) refl e
    where
      chosen : (b : Bool) → is_placed s plan ≡ b → Some (cond b (Jump s) (Placed s)) ≡ Some (Placed m) → is_placed m plan ≡ false
      chosen true is q = cc
      chosen false is q = let same : s ≡ m = cc in subst (λ n. is_placed n plan ≡ false) same is

  -- no node is placed twice
  pub fresh : (items : List Item) (m : ℕ) → next_item nodes first items ≡ Some (Placed m) → is_placed m items ≡ false
  fresh [] m e = refl
  fresh (Placed n ∷ older) m e = after_fresh (Placed n ∷ older) (following (slice_get nodes n)) m e
  fresh (Jump n ∷ older) m e = new_fresh (Jump n ∷ older) (first_open nodes (Jump n ∷ older) (Jump n ∷ older)) m refl e

  pub placed_at : (n : ℕ) (plan : List Item) → is_placed n plan ≡ true → (k : ℕ) × (older : List Item) × (drop k plan ≡ Placed n ∷ older)
  placed_at n [] e = cc
  placed_at n (Jump m ∷ older) e = let r = placed_at n older e in (suc r.0, r.1, r.2)
  placed_at n (Placed m ∷ older) e = chosen (eqb m n) refl (λ q. placed_at n older q) e
    where
      chosen : (b : Bool) → eqb m n ≡ b → (is_placed n older ≡ true → (k : ℕ) × (older' : List Item) × (drop k older ≡ Placed n ∷ older')) → b || is_placed n older ≡ true → (k : ℕ) × (older' : List Item) × (drop k (Placed m ∷ older) ≡ Placed n ∷ older')
      chosen true is later q = (0, older, ap (λ i. Placed i ∷ older) (eqb-true m n is))
      chosen false is later q = let r = later q in (suc r.0, r.1, r.2)

  pub is_placed_drop : (k n : ℕ) (plan : List Item) → is_placed n (drop k plan) ≡ true → is_placed n plan ≡ true
  is_placed_drop zero n plan e = e
  is_placed_drop (suc k) n [] e = e
  is_placed_drop (suc k) n (Placed m ∷ older) e = ap (λ b. eqb m n || b) (is_placed_drop k n older e) ∙ or-true (eqb m n)
  is_placed_drop (suc k) n (Jump m ∷ older) e = is_placed_drop k n older e

  pub at_placed : (k n : ℕ) (plan older : List Item) → drop k plan ≡ Placed n ∷ older → is_placed n plan ≡ true
  at_placed zero n plan older e = rw e (ap (λ b. b || is_placed n older) (eq-eqb n n refl))
  at_placed (suc k) n [] older e = cc
  at_placed (suc k) n (Placed m ∷ items) older e = ap (λ b. eqb m n || b) (at_placed k n items older e) ∙ or-true (eqb m n)
  at_placed (suc k) n (Jump m ∷ items) older e = at_placed k n items older e

  pub place_at : (receives k n : ℕ) (plan older : List Item) → IsPlan nodes first plan → drop k plan ≡ Placed n ∷ older → place_in nodes receives plan n ≡ size nodes receives older
  place_at receives zero n plan older p e = rw e (ap (λ b. cond b (size nodes receives older) (place_in nodes receives older n)) (eq-eqb n n refl))
  place_at receives (suc k) n [] older p e = cc
  place_at receives (suc k) n (Jump m ∷ items) older p e = place_at receives k n items older p.1 e
  place_at receives (suc k) n (Placed m ∷ items) older p e = chosen (eqb m n) refl (place_at receives k n items older p.1 e)
    where
      chosen : (b : Bool) → eqb m n ≡ b → place_in nodes receives items n ≡ size nodes receives older → cond b (size nodes receives items) (place_in nodes receives items n) ≡ size nodes receives older
      chosen true is later =
          let new : is_placed m items ≡ false = fresh items m p.0 in
          let same : m ≡ n = eqb-true m n is in
          let old : is_placed m items ≡ true = subst (λ i. is_placed i items ≡ true) (sym same) (at_placed k n items older e) in
          cc
      chosen false is later = later

  no_new : (plan : List Item) (o : Option ℕ) → first_open nodes plan plan ≡ o → option_map Placed o ≡ None → first_open nodes plan plan ≡ None
  no_new plan None is e = is
  no_new plan (Some t) is e = cc

  none_after : (plan : List Item) (o : Option ℕ) → after_node nodes plan o ≡ None → first_open nodes plan plan ≡ None
  none_after plan None e = no_new plan (first_open nodes plan plan) refl e
  none_after plan (Some s) e = cc

  no_open : (plan : List Item) → next_item nodes first plan ≡ None → first_open nodes plan plan ≡ None
  no_open [] e = cc
  no_open (Placed n ∷ older) e = none_after (Placed n ∷ older) (following (slice_get nodes n)) e
  no_open (Jump n ∷ older) e = no_new (Jump n ∷ older) (first_open nodes (Jump n ∷ older) (Jump n ∷ older)) refl e

  taken_in : (plan items : List Item) (k n : ℕ) (older : List Item) (test : _) (taken other : ℕ) → first_open nodes plan items ≡ None → drop k items ≡ Placed n ∷ older → slice_get nodes n ≡ Some (Test test taken other) → is_placed taken plan ≡ true
  taken_in plan [] zero n older test taken other e here is = cc
  taken_in plan [] (suc k) n older test taken other e here is = cc
  taken_in plan (Jump m ∷ items) zero n older test taken other e here is = cc
  taken_in plan (Jump m ∷ items) (suc k) n older test taken other e here is = taken_in plan items k n older test taken other e here is
  taken_in plan (Placed m ∷ items) (suc k) n older test taken other e here is = taken_in plan items k n older test taken other (none_or _ _ e).0 here is
  taken_in plan (Placed m ∷ items) zero n older test taken other e here is =
      let same : m ≡ n = cc in
      let none = (none_or (first_open nodes plan items) (open_at plan (slice_get nodes m)) e).1 in
      chosen (is_placed taken plan) refl (sym (ap (open_at plan) (ap (slice_get nodes) same ∙ is)) ∙ none)
    where
      chosen : (b : Bool) → is_placed taken plan ≡ b → cond b None (Some taken) ≡ None → is_placed taken plan ≡ true
      chosen true is' q = is'
      chosen false is' q = cc

  -- the `taken` successor of each placed Test is placed
  pub taken_placed : (plan : List Item) (k n : ℕ) (older : List Item) (test : _) (taken other : ℕ) → next_item nodes first plan ≡ None → drop k plan ≡ Placed n ∷ older → slice_get nodes n ≡ Some (Test test taken other) → is_placed taken plan ≡ true
  taken_placed plan k n older test taken other done here is = taken_in plan plan k n older test taken other (no_open plan done) here is

  pub bottom : (plan : List Item) → IsPlan nodes first plan → next_item nodes first plan ≡ None → (k : ℕ) × (drop k plan ≡ Placed first ∷ [])
  bottom plan p done = go plan p (some plan done)
    where
      some : (plan : List Item) → next_item nodes first plan ≡ None → 0 < length plan
      some [] e = cc
      some (i ∷ plan) e = omega arith

      go : (plan : List Item) → IsPlan nodes first plan → 0 < length plan → (k : ℕ) × (drop k plan ≡ Placed first ∷ [])
      go [] p lt = absurd (omega (arith, lt))
      go (i ∷ []) p lt = let same : Placed first ≡ i = cc (p.0) in (0, ap (λ x. x ∷ []) (sym same))
      go (i ∷ j ∷ plan) p lt = let r = go (j ∷ plan) p.1 (omega arith) in (suc r.0, r.1)

  -- ---- what is emitted

  pub same_item_size : (place : ℕ → ℕ) (item : Item) → length (item_insts nodes place item) ≡ item_size nodes item
  same_item_size place (Placed n) = (emits place (slice_get nodes n)).1
  same_item_size place (Jump n) = refl

  pub size_is : (receives : ℕ) (place : ℕ → ℕ) (items : List Item) → size nodes receives items ≡ receives + length (emitted nodes place items)
  size_is receives place [] = omega arith
  size_is receives place (item ∷ older) = omega (arith, size_is receives place older, same_item_size place item, length-append (emitted nodes place older) (item_insts nodes place item))

  pub emitted_drop : (place : ℕ → ℕ) (k : ℕ) (plan : List Item) → (rest : List Inst) × (emitted nodes place plan ≡ emitted nodes place (drop k plan) ++ rest)
  emitted_drop place zero plan = ([], sym (append-nil (emitted nodes place plan)))
  emitted_drop place (suc k) [] = ([], refl)
  emitted_drop place (suc k) (item ∷ older) =
      let r = emitted_drop place k older in
      (r.0 ++ item_insts nodes place item, ap (λ l. l ++ item_insts nodes place item) r.1 ∙ append_assoc (emitted nodes place (drop k older)) r.0 (item_insts nodes place item))

  -- the instruction that an item emits stands at the size of the items before it
  pub item_inst_at : (received : List ℕ) (place : ℕ → ℕ) (plan : List Item) (k : ℕ) (item : Item) (older : List Item) (inst : Inst) → drop k plan ≡ item ∷ older → item_insts nodes place item ≡ inst ∷ [] → slice_get (map insts.Receive received ++ emitted nodes place plan) (size nodes (length received) older) ≡ Some inst
  item_inst_at received place plan k item older inst e is =
      let r = emitted_drop place k plan in
      let before = map insts.Receive received ++ emitted nodes place older in
      let whole : emitted nodes place plan ≡ emitted nodes place older ++ (inst ∷ r.0) =
      r.1 ∙ ap (λ l. emitted nodes place l ++ r.0) e ∙ ap (λ l. (emitted nodes place older ++ l) ++ r.0) is ∙ append_assoc (emitted nodes place older) (inst ∷ []) r.0 in
      let body : map insts.Receive received ++ emitted nodes place plan ≡ before ++ (inst ∷ r.0) =
      ap (λ l. map insts.Receive received ++ l) whole ∙ sym (append_assoc (map insts.Receive received) (emitted nodes place older) (inst ∷ r.0)) in
      let long : length before ≡ size nodes (length received) older =
      length-append (map insts.Receive received) (emitted nodes place older) ∙ ap (λ n. n + length (emitted nodes place older)) (length-map received insts.Receive) ∙ sym (size_is (length received) place older) in
      ap (λ l. slice_get l (size nodes (length received) older)) body ∙ ap (slice_get (before ++ (inst ∷ r.0))) (sym long) ∙ get_seam before r.0 inst
