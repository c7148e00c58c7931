-- To number the variables of a body by their first occurrence changes nothing, and makes it tidy.
use Rattle.std.proofs.Common.{◌≡◌, ℕ, zero, suc, ◌+◌, ◌<◌, ◌≤◌, Bool, true, false, not, int_eq, cond, eqb, nat_eq, ◌||◌, List, [], ◌∷◌, ◌++◌, map, flat_map, length, take, slice_get, slice_index_or, ℤ, pos, Option, Some, None, option_map, inl, inr, refl, sym, ap, ◌∙◌, subst, arith, le_refl, append_assoc, append-nil, length-append, eqb-true, zero-add}
use Rattle.std.proofs.lemmas.Bool.{eq-eqb, lt-ltb, le-ltb, cases_lt}
use Rattle.std.proofs.lemmas.Bool.Decides.{eqb_tells}
use Rattle.std.proofs.lemmas.Option.{slice_get-map, slice_get-get_or, slice_get_within, get_or_from_slice_get}
use Rattle.std.proofs.lemmas.List.{length-map, map-append, take_more}
use Rattle.std.proofs.lemmas.Grind.{flat_map-append}
use Rattle.mir_base.specs.declared.instructions.Operand.{Operand}
use Rattle.mir_base.specs.declared.instructions.Operand.TheVariants.{Var, Const}
use Rattle.mir_base.specs.declared.instructions.Rhs.{Rhs}
use Rattle.mir_base.specs.declared.instructions.Rhs.TheVariants.{Plain, Unary, Binary}
use Rattle.mir_base.specs.declared.operators.Op.{Op}
use Rattle.mir_base.specs.declared.instructions.Test.{Test}
use Rattle.mir_base.specs.declared.instructions.Test.TheVariants.{Rel, Holds, Fails}
use Rattle.mir_base.specs.declared.operators.Trap.TheVariants.{ZeroDivisor, Raised}
use Rattle.mir_base.specs.declared.instructions.Inst.{Inst}
use Rattle.mir_base.specs.declared.instructions.Inst.TheVariants.{Receive, Assign, Goto, If, Call, Print, TrapIf, Return}
use Rattle.mir_base.specs.Numbers.{relation_holds, traps, value_of_op, value_of_un_op}
use Rattle.mir_base.specs.Frames.{Answer, Frame, Values, first_frame, shared_values, shared_vars, with_first, with_value, resumed, Continues, Traps, all_zero}
use Rattle.mir_base.specs.Units.{operand_value, test_holds, at, assigned, assign_transition, inst_transition, body_code}
use Rattle.mir_base.specs.UnitRuns.{UnitSame, UnitCheaper, body_machine}
use Rattle.mir_base.specs.SharedLaws.{body_hands, shared_below, shared_equal, shared_long, with_first_other, with_first_same}
use Rattle.mir_base.specs.BelowLaws.{all_below_append, all_below_at}
use Rattle.mir_base.specs.Shapes.{receives_in, operand_vars, rhs_vars, test_vars, into_vars, inst_vars, numbered_from, AllDiffer, AllBelow, IsTidy}
use Rattle.mir_base.specs.Locksteps.{Alike, Lockstep}
use Rattle.mir_base.specs.LockstepLaws.{lockstep_same, lockstep_cheaper}
use Rattle.flow_graph.specs.Numbering.{is_in, first_index, renamed, renamed_operand, renamed_rhs, renamed_test, renumbered, seen_after, seen_in}
use Rattle.flow_graph.specs.ListLaws.{get_seam, get_left, listed_in}
use Rattle.flow_graph.specs.SeenGlobals.{shared_count, shared_differ, shared_in, shared_index, shared_misses, shared_names}
use Rattle.std.proofs.lemmas.List.FromFn.{map-range_with_len_more}
use Rattle.flow_graph.specs.NumberingLaws.{is_in_first, is_in_last, seen_grows}

-- ---- the list of the variables seen

-- all are in the list
abbrev pub AllIn : List ℕ → List ℕ → Type 0
AllIn seen [] = Unit {0}
AllIn seen (x ∷ xs) = (is_in x seen ≡ true) × AllIn seen xs

-- what was seen stays seen
stays_in : (x : ℕ) (seen xs : List ℕ) → is_in x seen ≡ true → is_in x (seen_after seen xs) ≡ true
stays_in x seen xs e = let g = seen_grows seen xs in ap (is_in x) g.1 ∙ is_in_first x seen g.0 e

-- all are in the list once they are seen
pub all_seen : (seen xs : List ℕ) → AllIn (seen_after seen xs) xs
all_seen seen [] = tt
all_seen seen (x ∷ xs) = chosen (is_in x seen) refl (all_seen seen xs) (all_seen (seen ++ x ∷ []) xs)
  where
    chosen : (b : Bool) → is_in x seen ≡ b → AllIn (seen_after seen xs) xs → AllIn (seen_after (seen ++ x ∷ []) xs) xs → (is_in x (cond b (seen_after seen xs) (seen_after (seen ++ x ∷ []) xs)) ≡ true) × AllIn (cond b (seen_after seen xs) (seen_after (seen ++ x ∷ []) xs)) xs
    chosen true e p q = (stays_in x seen xs e, p)
    chosen false e p q = (stays_in x (seen ++ x ∷ []) xs (is_in_last x seen), q)

-- where all of two lists were seen, those of the first were
all_first : (seen xs ys : List ℕ) → AllIn seen (xs ++ ys) → AllIn seen xs
all_first seen [] ys h = tt
all_first seen (x ∷ xs) ys h = (h.0, all_first seen xs ys h.1)

-- and those of the second
all_back : (seen xs ys : List ℕ) → AllIn seen (xs ++ ys) → AllIn seen ys
all_back seen [] ys h = h
all_back seen (x ∷ xs) ys h = all_back seen xs ys h.1

-- so are those of each instruction
pub inst_in : (seen : List ℕ) (body : List Inst) (place : ℕ) (inst : Inst) → AllIn seen (flat_map inst_vars body) → slice_get body place ≡ Some inst → AllIn seen (inst_vars inst)
inst_in seen [] place inst h e = cc
inst_in seen (i ∷ body) zero inst h e = let same : i ≡ inst = cc in subst (λ j. AllIn seen (inst_vars j)) same (all_first seen (inst_vars i) (flat_map inst_vars body) h)
inst_in seen (i ∷ body) (suc place) inst h e = inst_in seen body place inst (all_back seen (inst_vars i) (flat_map inst_vars body) h) e

-- the number at the place of x is x
pub position_holds : (seen : List ℕ) (x : ℕ) → is_in x seen ≡ true → slice_get seen (first_index seen x) ≡ Some x
position_holds [] x e = cc
position_holds (y ∷ ys) x e = chosen (eqb y x) refl e (position_holds ys x)
  where
    chosen : (b : Bool) → eqb y x ≡ b → b || is_in x ys ≡ true → (is_in x ys ≡ true → slice_get ys (first_index ys x) ≡ Some x) → slice_get (y ∷ ys) (cond b 0 (suc (first_index ys x))) ≡ Some x
    chosen true is e' ih = ap Some (eqb-true y x is)
    chosen false is e' ih = ih e'

-- variables in the list have different positions
pub positions_differ : (seen : List ℕ) (x y : ℕ) → is_in x seen ≡ true → is_in y seen ≡ true → first_index seen x ≡ first_index seen y → x ≡ y
positions_differ seen x y e e' same =
    let a = position_holds seen x e in
    let b = position_holds seen y e' in
    let c : slice_get seen (first_index seen x) ≡ slice_get seen (first_index seen y) = ap (slice_get seen) same in
    cc

-- ---- the same runs

-- renumbering changes no receive
pub renamed_receives : (to : ℕ → ℕ) (body : List Inst) → receives_in (map (renamed to) body) ≡ receives_in body
renamed_receives to [] = refl
renamed_receives to (Receive x ∷ body) = ap suc (renamed_receives to body)
renamed_receives to (Assign x rhs ∷ body) = refl
renamed_receives to (Goto place ∷ body) = refl
renamed_receives to (If test place ∷ body) = refl
renamed_receives to (Call into unit operands ∷ body) = refl
renamed_receives to (Print a ∷ body) = refl
renamed_receives to (TrapIf test number ∷ body) = refl
renamed_receives to (Return a ∷ body) = refl

module _ (shared : ℕ) (seen more : List ℕ) (begins : seen ≡ shared_vars shared ++ more) (body : List Inst) (all : AllIn seen (flat_map inst_vars body)) where
  abbrev to : ℕ → ℕ
  to = first_index seen

  abbrev SameValues : Values → Values → Type 0
  SameValues v w = (x : ℕ) → is_in x seen ≡ true → w (to x) ≡ v x

  record Renamed (f g : Frame) : Type 0 where
    values : Values
    is : g ≡ record f { values = values }
    same : SameValues f.values values

  set_same : (v w : Values) (x : ℕ) (a b : ℤ) → is_in x seen ≡ true → b ≡ a → SameValues v w → SameValues (with_value x a v) (with_value (to x) b w)
  set_same v w x a b in_ e same y iny =
      elim (eqb_tells y x) [
        | inl s ↦
            let p : eqb (to y) (to x) ≡ true = eq-eqb (to y) (to x) (ap to s.1) in
            ap (λ c. cond c b (w (to y))) p ∙ e ∙ sym (ap (λ c. cond c a (v y)) s.0)
        | inr n ↦
            elim (eqb_tells (to y) (to x)) [
              | inl t ↦ absurd (n.1 (positions_differ seen y x iny in_ t.1))
              | inr t ↦ ap (λ c. cond c b (w (to y))) t.0 ∙ same y iny ∙ sym (ap (λ c. cond c a (v y)) n.0)
            ]
      ]

  -- the globals keep their numbers, and no other variable gets one of theirs
  kept_in : (x : ℕ) → x < shared → is_in x seen ≡ true
  kept_in x lt = ap (is_in x) begins ∙ shared_in shared x more lt

  kept_index : (x : ℕ) → x < shared → to x ≡ x
  kept_index x lt = ap (λ l. first_index l x) begins ∙ shared_index shared x more lt

  kept_from : (x : ℕ) → is_in x seen ≡ true → to x < shared → x < shared
  kept_from x in_ lt = let same : to x ≡ x = positions_differ seen (to x) x (kept_in (to x) lt) in_ (kept_index (to x) lt) in omega (arith, lt, same)

  -- where the globals get the same values on both sides, all values stay the same
  same_first : (globals : List ℤ) (v w : Values) → length globals ≡ shared → SameValues v w → SameValues (with_first globals v) (with_first globals w)
  same_first globals v w long same x in_ = elim (cases_lt x shared) [
    | inl lt ↦ ap (with_first globals w) (kept_index x lt) ∙ with_first_same globals w v x (omega (arith, lt, long))
    | inr ge ↦ elim (cases_lt (to x) shared) [
      | inl lt ↦ (let low = kept_from x in_ lt in absurd (omega (arith, low, ge)))
      | inr ge' ↦ with_first_other globals w (to x) (omega (arith, ge', long)) ∙ same x in_ ∙ sym (with_first_other globals v x (omega (arith, ge, long)))
    ]
  ]

  same_shared : (v w : Values) → SameValues v w → shared_values shared w ≡ shared_values shared v
  same_shared v w same = shared_equal shared shared w v (le_refl shared) (λ x lt. ap w (sym (kept_index x lt)) ∙ same x (kept_in x lt))

  same_operand : (v w : Values) (a : Operand) → SameValues v w → AllIn seen (operand_vars a) → operand_value w (renamed_operand to a) ≡ operand_value v a
  same_operand v w (Var x) same h = same x h.0
  same_operand v w (Const c) same h = refl

  same_operands : (v w : Values) (operands : List Operand) → SameValues v w → AllIn seen (flat_map operand_vars operands) → map (operand_value w) (map (renamed_operand to) operands) ≡ map (operand_value v) operands
  same_operands v w [] same h = refl
  same_operands v w (a ∷ operands) same h =
      ap (λ z. z ∷ map (operand_value w) (map (renamed_operand to) operands)) (same_operand v w a same (all_first seen (operand_vars a) (flat_map operand_vars operands) h)) ∙ ap (λ l. operand_value v a ∷ l) (same_operands v w operands same (all_back seen (operand_vars a) (flat_map operand_vars operands) h))

  same_test : (v w : Values) (t : Test) → SameValues v w → AllIn seen (test_vars t) → test_holds w (renamed_test to t) ≡ test_holds v t
  same_test v w (Rel op a b) same h =
      ap (λ z. relation_holds op z (operand_value w (renamed_operand to b))) (same_operand v w a same (all_first seen (operand_vars a) (operand_vars b) h)) ∙ ap (λ z. relation_holds op (operand_value v a) z) (same_operand v w b same (all_back seen (operand_vars a) (operand_vars b) h))
  same_test v w (Holds a) same h = ap (λ z. not (int_eq z (pos 0))) (same_operand v w a same h)
  same_test v w (Fails a) same h = ap (λ z. int_eq z (pos 0)) (same_operand v w a same h)

  record_renamed : (v w : Values) (place : ℕ) (arguments : List ℤ) → SameValues v w → Renamed (record { place = place; arguments = arguments; values = v }) (record { place = place; arguments = arguments; values = w })
  record_renamed v w place arguments same = record { values = w; is = refl; same = same }

  sets : (f : Frame) (w : Values) (x : ℕ) (a b : ℤ) (p : ℕ) → is_in x seen ≡ true → b ≡ a → SameValues f.values w → Renamed (assigned x a p f) (assigned (to x) b p (record f { values = w }))
  sets f w x a b p in_ e same = record_renamed (with_value x a f.values) (with_value (to x) b w) p f.arguments (set_same f.values w x a b in_ e same)

  binary : (f : Frame) (w : Values) (x : ℕ) (op : Op) (a b a' b' : ℤ) (p : ℕ) (c c' : Bool) → is_in x seen ≡ true → a' ≡ a → b' ≡ b → c' ≡ c → SameValues f.values w → Alike Renamed (cond c (Traps ZeroDivisor 1) (Continues 1 (assigned x (value_of_op op a b) p f))) (cond c' (Traps ZeroDivisor 1) (Continues 1 (assigned (to x) (value_of_op op a' b') p (record f { values = w }))))
  binary f w x op a b a' b' p true true in_ ea eb ec same = refl
  binary f w x op a b a' b' p false false in_ ea eb ec same = (le_refl 1, sets f w x (value_of_op op a b) (value_of_op op a' b') p in_ (ap (λ z. value_of_op op z b') ea ∙ ap (value_of_op op a) eb) same)
  binary f w x op a b a' b' p true false in_ ea eb ec same = cc
  binary f w x op a b a' b' p false true in_ ea eb ec same = cc

  assigns : (f : Frame) (w : Values) (x : ℕ) (rhs : Rhs) (p : ℕ) → is_in x seen ≡ true → AllIn seen (rhs_vars rhs) → SameValues f.values w → Alike Renamed (assign_transition x rhs p f) (assign_transition (to x) (renamed_rhs to rhs) p (record f { values = w }))
  assigns f w x (Plain a) p in_ h same = (le_refl 0, sets f w x _ _ p in_ (same_operand f.values w a same h) same)
  assigns f w x (Unary op a) p in_ h same = (le_refl 1, sets f w x _ _ p in_ (ap (value_of_un_op op) (same_operand f.values w a same h)) same)
  assigns f w x (Binary op a b) p in_ h same =
      let ea = same_operand f.values w a same (all_first seen (operand_vars a) (operand_vars b) h) in
      let eb = same_operand f.values w b same (all_back seen (operand_vars a) (operand_vars b) h) in
      binary f w x op _ _ _ _ p _ _ in_ ea eb (ap (traps op) eb) same

  resumes : (f : Frame) (w : Values) (into : Option ℕ) (a : Answer) (p : ℕ) → AllIn seen (into_vars into) → length a.globals ≡ shared → SameValues f.values w → Renamed (resumed into a (at p f)) (resumed (option_map to into) a (at p (record f { values = w })))
  resumes f w None a p h long same = record_renamed (with_first a.globals f.values) (with_first a.globals w) p f.arguments (same_first a.globals f.values w long same)
  resumes f w (Some x) a p h long same =
      record_renamed (with_value x a.value (with_first a.globals f.values)) (with_value (to x) a.value (with_first a.globals w)) p f.arguments (set_same (with_first a.globals f.values) (with_first a.globals w) x a.value a.value h.0 refl (same_first a.globals f.values w long same))

  inst_alike : (f : Frame) (w : Values) (inst : Inst) → AllIn seen (inst_vars inst) → SameValues f.values w → Alike Renamed (inst_transition shared (Some inst) f) (inst_transition shared (Some (renamed to inst)) (record f { values = w }))
  inst_alike f w (Receive x) h same = (le_refl 0, sets f w x _ _ (f.place + 1) h.0 refl same)
  inst_alike f w (Assign x rhs) h same = assigns f w x rhs (f.place + 1) h.0 h.1 same
  inst_alike f w (Goto place) h same = (le_refl 0, record_renamed f.values w place f.arguments same)
  inst_alike f w (If test place) h same = (le_refl 0, chosen (test_holds f.values test) (test_holds w (renamed_test to test)) (same_test f.values w test same h))
    where
      chosen : (b c : Bool) → c ≡ b → Renamed (at (cond b place (f.place + 1)) f) (at (cond c place (f.place + 1)) (record f { values = w }))
      chosen true true e = record_renamed f.values w place f.arguments same
      chosen false false e = record_renamed f.values w (f.place + 1) f.arguments same
      chosen true false e = cc
      chosen false true e = cc
  inst_alike f w (Call into unit operands) h same = (
    refl,
    ap (λ l. record { arguments = l; globals = shared_values shared f.values }) (sym (same_operands f.values w operands same (all_back seen (into_vars into) (flat_map operand_vars operands) h)))
        ∙ ap (λ l. record { arguments = map (operand_value w) (map (renamed_operand to) operands); globals = l }) (sym (same_shared f.values w same)),
    λ a fits. resumes f w into a (f.place + 1) (all_first seen (into_vars into) (flat_map operand_vars operands) h) (fits.globals.long ∙ shared_long shared f.values) same,
  )
  inst_alike f w (Print a) h same = (sym (same_operand f.values w a same h), record_renamed f.values w (f.place + 1) f.arguments same)
  inst_alike f w (TrapIf test number) h same = chosen (test_holds f.values test) (test_holds w (renamed_test to test)) (same_test f.values w test same h)
    where
      chosen : (b c : Bool) → c ≡ b → Alike Renamed (cond b (Traps (Raised number) 0) (Continues 0 (at (f.place + 1) f))) (cond c (Traps (Raised number) 0) (Continues 0 (at (f.place + 1) (record f { values = w }))))
      chosen true true e = refl
      chosen false false e = (le_refl 0, record_renamed f.values w (f.place + 1) f.arguments same)
      chosen true false e = cc
      chosen false true e = cc
  inst_alike f w (Return a) h same =
      ap (λ v. record { value = v; globals = shared_values shared f.values }) (sym (same_operand f.values w a same h)) ∙ ap (λ l. record { value = operand_value w (renamed_operand to a); globals = l }) (sym (same_shared f.values w same))

  at_alike : (f : Frame) (w : Values) (o : Option Inst) → slice_get body f.place ≡ o → SameValues f.values w → Alike Renamed (inst_transition shared o f) (inst_transition shared (option_map (renamed to) o) (record f { values = w }))
  at_alike f w None e same = ap (λ l. record { value = pos 0; globals = l }) (sym (same_shared f.values w same))
  at_alike f w (Some inst) e same = inst_alike f w inst (inst_in seen body f.place inst all e) same

  steps : (f g : Frame) → Renamed f g → Alike Renamed (body_code shared body f) (body_code shared (map (renamed to) body) g)
  steps f g s =
      let a = at_alike f s.values (slice_get body f.place) refl s.same in
      let b = subst (λ o. Alike Renamed (body_code shared body f) (inst_transition shared o (record f { values = s.values }))) (sym (slice_get-map (renamed to) body f.place)) a in
      subst (λ h. Alike Renamed (body_code shared body f) (body_code shared (map (renamed to) body) h)) (sym s.is) b

  lockstep : Lockstep (body_machine shared body) (body_machine shared (map (renamed to) body)) Renamed
  lockstep = record {
    receives = sym (renamed_receives to body);
    shared = refl;
    hands = body_hands shared body;
    starts = λ entry is. record_renamed (first_frame entry).values (first_frame entry).values 0 entry.arguments (same_first entry.globals all_zero all_zero is.globals.long (λ x in_. refl));
    steps = steps;
  }

  pub seen_same : UnitSame (body_machine shared body) (body_machine shared (map (renamed to) body))
  seen_same = lockstep_same _ _ Renamed lockstep

  pub seen_cheaper : UnitCheaper (body_machine shared body) (body_machine shared (map (renamed to) body))
  seen_cheaper = lockstep_cheaper _ _ Renamed lockstep

-- a renumbered body does the same
pub renumbered_same : (shared : ℕ) (body : List Inst) → UnitSame (body_machine shared body) (body_machine shared (renumbered shared body))
renumbered_same shared body =
    let grows = seen_grows (shared_vars shared) (flat_map inst_vars body) in seen_same shared (seen_in shared body) grows.0 grows.1 body (all_seen (shared_vars shared) (flat_map inst_vars body))

-- and evaluates no more operators
pub renumbered_cheaper : (shared : ℕ) (body : List Inst) → UnitCheaper (body_machine shared body) (body_machine shared (renumbered shared body))
renumbered_cheaper shared body =
    let grows = seen_grows (shared_vars shared) (flat_map inst_vars body) in seen_cheaper shared (seen_in shared body) grows.0 grows.1 body (all_seen (shared_vars shared) (flat_map inst_vars body))

-- ---- tidy

-- the variables of a renamed operand are its variables renamed
renamed_operand_vars : (to : ℕ → ℕ) (a : Operand) → operand_vars (renamed_operand to a) ≡ map to (operand_vars a)
renamed_operand_vars to (Var x) = refl
renamed_operand_vars to (Const c) = refl

-- so for two operands
two_vars : (to : ℕ → ℕ) (a b : Operand) → operand_vars (renamed_operand to a) ++ operand_vars (renamed_operand to b) ≡ map to (operand_vars a ++ operand_vars b)
two_vars to (Var x) (Var y) = refl
two_vars to (Var x) (Const d) = refl
two_vars to (Const c) (Var y) = refl
two_vars to (Const c) (Const d) = refl

-- for a right-hand side
renamed_rhs_vars : (to : ℕ → ℕ) (rhs : Rhs) → rhs_vars (renamed_rhs to rhs) ≡ map to (rhs_vars rhs)
renamed_rhs_vars to (Plain a) = renamed_operand_vars to a
renamed_rhs_vars to (Unary op a) = renamed_operand_vars to a
renamed_rhs_vars to (Binary op a b) = two_vars to a b

-- for a test
renamed_test_vars : (to : ℕ → ℕ) (t : Test) → test_vars (renamed_test to t) ≡ map to (test_vars t)
renamed_test_vars to (Rel op a b) = two_vars to a b
renamed_test_vars to (Holds a) = renamed_operand_vars to a
renamed_test_vars to (Fails a) = renamed_operand_vars to a

-- for a list of operands
renamed_operands_vars : (to : ℕ → ℕ) (operands : List Operand) → flat_map operand_vars (map (renamed_operand to) operands) ≡ map to (flat_map operand_vars operands)
renamed_operands_vars to [] = refl
renamed_operands_vars to (Var x ∷ operands) = ap (λ l. to x ∷ l) (renamed_operands_vars to operands)
renamed_operands_vars to (Const c ∷ operands) = renamed_operands_vars to operands

-- and for an instruction
renamed_inst_vars : (to : ℕ → ℕ) (inst : Inst) → inst_vars (renamed to inst) ≡ map to (inst_vars inst)
renamed_inst_vars to (Receive x) = refl
renamed_inst_vars to (Assign x rhs) = ap (λ l. to x ∷ l) (renamed_rhs_vars to rhs)
renamed_inst_vars to (Goto place) = refl
renamed_inst_vars to (If test place) = renamed_test_vars to test
renamed_inst_vars to (Call None unit operands) = renamed_operands_vars to operands
renamed_inst_vars to (Call (Some x) unit operands) = ap (λ l. to x ∷ l) (renamed_operands_vars to operands)
renamed_inst_vars to (Print a) = renamed_operand_vars to a
renamed_inst_vars to (TrapIf test number) = renamed_test_vars to test
renamed_inst_vars to (Return a) = renamed_operand_vars to a

-- the variables of a renamed body are its variables renamed
renamed_vars : (to : ℕ → ℕ) (body : List Inst) → flat_map inst_vars (map (renamed to) body) ≡ map to (flat_map inst_vars body)
renamed_vars to [] = refl
renamed_vars to (inst ∷ body) =
    ap (λ l. l ++ flat_map inst_vars (map (renamed to) body)) (renamed_inst_vars to inst) ∙ ap (λ l. map to (inst_vars inst) ++ l) (renamed_vars to body) ∙ sym (map-append to (inst_vars inst) (flat_map inst_vars body))

-- one that stands in the front has its place there
position_first : (s rest : List ℕ) (x : ℕ) → is_in x s ≡ true → first_index (s ++ rest) x < length s
position_first [] rest x e = cc
position_first (y ∷ s) rest x e = chosen (eqb y x) e (position_first s rest x)
  where
    chosen : (b : Bool) → b || is_in x s ≡ true → (is_in x s ≡ true → first_index (s ++ rest) x < length s) → cond b 0 (suc (first_index (s ++ rest) x)) < suc (length s)
    chosen true e' ih = omega arith
    chosen false e' ih = omega (arith, ih e')

-- an item that is new after a list stands at the length of that list
position_next : (s rest : List ℕ) (x : ℕ) → is_in x s ≡ false → first_index (s ++ x ∷ rest) x ≡ length s
position_next [] rest x e = ap (λ b. cond b 0 (suc (first_index rest x))) (eq-eqb x x refl)
position_next (y ∷ s) rest x e = chosen (eqb y x) e (position_next s rest x)
  where
    chosen : (b : Bool) → b || is_in x s ≡ false → (is_in x s ≡ false → first_index (s ++ x ∷ rest) x ≡ length s) → cond b 0 (suc (first_index (s ++ x ∷ rest) x)) ≡ suc (length s)
    chosen true e' ih = cc
    chosen false e' ih = ap suc (ih e')

-- numbered by first occurrence, the numbers follow each other from the count of those seen before
numbered_seen : (s xs F : List ℕ) → F ≡ seen_after s xs → numbered_from (length s) (map (first_index F) xs) ≡ Some (length F)
numbered_seen s [] F e = ap (λ l. Some (length l)) (sym e)
numbered_seen s (x ∷ xs) F e = chosen (is_in x s) refl e (numbered_seen s xs F) (numbered_seen (s ++ x ∷ []) xs F)
  where
    chosen : (b : Bool) → is_in x s ≡ b → F ≡ cond b (seen_after s xs) (seen_after (s ++ x ∷ []) xs) → (F ≡ seen_after s xs → numbered_from (length s) (map (first_index F) xs) ≡ Some (length F)) → (F ≡ seen_after (s ++ x ∷ []) xs → numbered_from (length (s ++ x ∷ [])) (map (first_index F) xs) ≡ Some (length F)) → numbered_from (length s) (first_index F x ∷ map (first_index F) xs) ≡ Some (length F)
    chosen true is e' ih ih' =
        let g = seen_grows s xs in
        let lt : first_index F x < length s = subst (λ l. first_index l x < length s) (sym (e' ∙ g.1)) (position_first s g.0 x is) in
        ap (λ b. cond b (numbered_from (length s) (map (first_index F) xs)) (cond (nat_eq (first_index F x) (length s)) (numbered_from (suc (length s)) (map (first_index F) xs)) None)) (lt-ltb (first_index F x) (length s) lt) ∙ ih e'
    chosen false is e' ih ih' =
        let g = seen_grows (s ++ x ∷ []) xs in
        let whole : F ≡ s ++ (x ∷ g.0) = e' ∙ g.1 ∙ append_assoc s (x ∷ []) g.0 in
        let here : first_index F x ≡ length s = ap (λ l. first_index l x) whole ∙ position_next s g.0 x is in
        let long : length (s ++ x ∷ []) ≡ suc (length s) = omega (arith, length-append s (x ∷ [])) in
        ap (λ b. cond b (numbered_from (length s) (map (first_index F) xs)) (cond (nat_eq (first_index F x) (length s)) (numbered_from (suc (length s)) (map (first_index F) xs)) None)) (le-ltb (first_index F x) (length s) (omega (arith, here))) ∙ ap (λ b. cond b (numbered_from (suc (length s)) (map (first_index F) xs)) None) (eq-eqb (first_index F x) (length s) here) ∙ ap (λ n. numbered_from n (map (first_index F) xs)) (sym long) ∙ ih' e'

-- its variables are numbered by their first occurrence
pub renumbered_numbered : (shared : ℕ) (body : List Inst) → numbered_from shared (flat_map inst_vars (renumbered shared body)) ≡ Some (length (seen_in shared body))
renumbered_numbered shared body =
    ap (numbered_from shared) (renamed_vars (first_index (seen_in shared body)) body)
    ∙ ap (λ n. numbered_from n (map (first_index (seen_in shared body)) (flat_map inst_vars body))) (sym (shared_count shared))
    ∙ numbered_seen (shared_vars shared) (flat_map inst_vars body) (seen_in shared body) refl

-- an item that is not found in a list stands nowhere in it
not_there : (s : List ℕ) (y i : ℕ) → is_in y s ≡ false → slice_get s i ≡ Some y → ⊥
not_there s y i new e = let old = listed_in s i y e in cc

-- a list with one more that is new
differ_more : (s : List ℕ) (y : ℕ) → is_in y s ≡ false → AllDiffer s → AllDiffer (s ++ y ∷ [])
differ_more s y new h i j li lj e =
    let long = length-append s (y ∷ []) in
    elim (cases_lt i (length s)) [
      | inl a ↦
          elim (cases_lt j (length s)) [
            | inl b ↦ h i j a b (sym (get_left s (y ∷ []) i a) ∙ e ∙ get_left s (y ∷ []) j b)
            | inr b ↦
                let at_ : j ≡ length s = omega arith in
                absurd (not_there s y i new (sym (get_left s (y ∷ []) i a) ∙ e ∙ ap (slice_get (s ++ y ∷ [])) at_ ∙ get_seam s [] y))
          ]
      | inr a ↦
          let at_ : i ≡ length s = omega arith in
          elim (cases_lt j (length s)) [
            | inl b ↦ absurd (not_there s y j new (sym (get_left s (y ∷ []) j b) ∙ sym e ∙ ap (slice_get (s ++ y ∷ [])) at_ ∙ get_seam s [] y))
            | inr b ↦ omega arith
          ]
    ]

-- the list of what was seen has distinct items
seen_differ : (s xs : List ℕ) → AllDiffer s → AllDiffer (seen_after s xs)
seen_differ s [] h = h
seen_differ s (y ∷ ys) h = chosen (is_in y s) refl (seen_differ s ys) (seen_differ (s ++ y ∷ []) ys)
  where
    chosen : (b : Bool) → is_in y s ≡ b → (AllDiffer s → AllDiffer (seen_after s ys)) → (AllDiffer (s ++ y ∷ []) → AllDiffer (seen_after (s ++ y ∷ []) ys)) → AllDiffer (cond b (seen_after s ys) (seen_after (s ++ y ∷ []) ys))
    chosen true is p q = p h
    chosen false is p q = q (differ_more s y is h)

-- the variables seen are in range
pub seen_below : (m : ℕ) (s xs : List ℕ) → AllBelow m s → AllBelow m xs → AllBelow m (seen_after s xs)
seen_below m s [] h h' = h
seen_below m s (y ∷ ys) h h' = chosen (is_in y s) (seen_below m s ys h h'.1) (seen_below m (s ++ y ∷ []) ys (all_below_append m s (y ∷ []) h (h'.0, tt)) h'.1)
  where
    chosen : (b : Bool) → AllBelow m (seen_after s ys) → AllBelow m (seen_after (s ++ y ∷ []) ys) → AllBelow m (cond b (seen_after s ys) (seen_after (s ++ y ∷ []) ys))
    chosen true p q = p
    chosen false p q = q

-- the names of distinct variables are distinct
names_differ : (vars : List (List ℕ)) (seen : List ℕ) → AllDiffer vars → AllDiffer seen → AllBelow (length vars) seen → AllDiffer (map (λ x. slice_index_or vars x []) seen)
names_differ vars seen h h' below i j li lj e =
    let name : (ℕ → List ℕ) = λ x. slice_index_or vars x [] in
    let long = length-map seen name in
    let a : slice_get seen i ≡ Some (slice_index_or seen i 0) = slice_get-get_or seen i 0 (omega (arith, li, long)) in
    let b : slice_get seen j ≡ Some (slice_index_or seen j 0) = slice_get-get_or seen j 0 (omega (arith, lj, long)) in
    let x = slice_index_or seen i 0 in
    let y = slice_index_or seen j 0 in
    let bx = all_below_at (length vars) seen i x below a in
    let by = all_below_at (length vars) seen j y below b in
    let same : option_map name (Some x) ≡ option_map name (Some y) = ap (option_map name) (sym a) ∙ sym (slice_get-map name seen i) ∙ e ∙ slice_get-map name seen j ∙ ap (option_map name) b in
    let p : slice_get vars x ≡ Some (name x) = slice_get-get_or vars x [] bx in
    let q : slice_get vars y ≡ Some (name y) = slice_get-get_or vars y [] by in
    let xy : x ≡ y = h x y bx by (p ∙ same ∙ sym q) in
    h' i j (omega (arith, li, long)) (omega (arith, lj, long)) (a ∙ ap Some xy ∙ sym b)

-- so it is tidy
pub renumbered_tidy : (shared : ℕ) (vars : List (List ℕ)) (body : List Inst) → shared ≤ length vars → AllDiffer vars → AllBelow (length vars) (flat_map inst_vars body) → IsTidy shared (map (λ x. slice_index_or vars x []) (seen_in shared body)) (renumbered shared body)
renumbered_tidy shared vars body least differ below = record {
  numbered = renumbered_numbered shared body ∙ ap Some (sym (length-map (seen_in shared body) (λ x. slice_index_or vars x [])));
  differ = names_differ vars (seen_in shared body) differ (seen_differ (shared_vars shared) (flat_map inst_vars body) (shared_differ shared)) (seen_below (length vars) (shared_vars shared) (flat_map inst_vars body) (shared_below (length vars) shared least) below);
}

-- the names of the globals are its first ones
pub renumbered_names : (shared : ℕ) (vars : List (List ℕ)) (body : List Inst) → shared ≤ length vars → take shared (map (λ x. slice_index_or vars x []) (seen_in shared body)) ≡ take shared vars
renumbered_names shared vars body least =
    let grows = seen_grows (shared_vars shared) (flat_map inst_vars body) in ap (λ l. take shared (map (λ x. slice_index_or vars x []) l)) grows.1 ∙ shared_names shared vars grows.0 least

-- one more of the globals is seen
pub shared_more : (x : ℕ) (seen seen' : List ℕ) → seen ≡ shared_vars x → seen' ≡ seen_after seen (x ∷ []) → seen' ≡ shared_vars (x + 1)
shared_more x seen seen' e e' =
    e' ∙ ap (λ l. seen_after l (x ∷ [])) e ∙ ap (λ b. cond b (shared_vars x) (shared_vars x ++ x ∷ [])) (shared_misses x) ∙ sym (shared_push x)
  where
    itself : (xs : List ℕ) → map (λ y. y) xs ≡ xs
    itself [] = refl
    itself (y ∷ ys) = ap (λ l. y ∷ l) (itself ys)

    shared_push : (n : ℕ) → shared_vars (n + 1) ≡ shared_vars n ++ n ∷ []
    shared_push n = sym (itself (shared_vars (n + 1))) ∙ map-range_with_len_more (λ y. y) 0 n n (zero-add n) ∙ ap (λ l. l ++ n ∷ []) (itself (shared_vars n))

-- seeing one list and then another is seeing them joined
seen_append : (s xs ys : List ℕ) → seen_after (seen_after s xs) ys ≡ seen_after s (xs ++ ys)
seen_append s [] ys = refl
seen_append s (x ∷ xs) ys = chosen (is_in x s) (seen_append s xs ys) (seen_append (s ++ x ∷ []) xs ys)
  where
    chosen : (b : Bool) → seen_after (seen_after s xs) ys ≡ seen_after s (xs ++ ys) → seen_after (seen_after (s ++ x ∷ []) xs) ys ≡ seen_after (s ++ x ∷ []) (xs ++ ys) → seen_after (cond b (seen_after s xs) (seen_after (s ++ x ∷ []) xs)) ys ≡ cond b (seen_after s (xs ++ ys)) (seen_after (s ++ x ∷ []) (xs ++ ys))
    chosen true p q = p
    chosen false p q = q

-- flat_map of one item is the list of that item
one_flat : {A : Type 0} (f : A → List ℕ) (x : A) → flat_map f (x ∷ []) ≡ f x
one_flat f x = append-nil (f x)

-- the variables of one more item are seen
pub seen_more : {A : Type 0} (f : A → List ℕ) (s seen seen' : List ℕ) (xs : List A) (i : ℕ) (x : A) → slice_get xs i ≡ Some x → seen ≡ seen_after s (flat_map f (take i xs)) → seen' ≡ seen_after seen (f x) → seen' ≡ seen_after s (flat_map f (take (i + 1) xs))
seen_more f s seen seen' xs i x here e e' =
    let more : take (i + 1) xs ≡ take i xs ++ x ∷ [] = take_more xs i x (slice_get_within xs i x here) ∙ ap (λ y. take i xs ++ y ∷ []) (get_or_from_slice_get xs i x x here) in
    e' ∙ ap (λ l. seen_after l (f x)) e ∙ seen_append s (flat_map f (take i xs)) (f x) ∙ ap (seen_after s) (ap (λ l. flat_map f (take i xs) ++ l) (sym (one_flat f x)) ∙ sym (flat_map-append f (take i xs) (x ∷ [])) ∙ sym (ap (flat_map f) more))

-- one more item at the end adds its list at the end
mapped_append : (f : ℕ → List ℕ) (xs : List ℕ) (x : ℕ) → map f (xs ++ x ∷ []) ≡ map f xs ++ f x ∷ []
mapped_append f [] x = refl
mapped_append f (y ∷ ys) x = ap (λ l. f y ∷ l) (mapped_append f ys x)

-- one more name is copied
pub names_more : (vars : List (List ℕ)) (seen : List ℕ) (names names' : List (List ℕ)) (i x : ℕ) (name copied : List ℕ) → slice_get seen i ≡ Some x → slice_get vars x ≡ Some name → copied ≡ name → names' ≡ names ++ copied ∷ [] → names ≡ map (λ y. slice_index_or vars y []) (take i seen) → names' ≡ map (λ y. slice_index_or vars y []) (take (i + 1) seen)
names_more vars seen names names' i x name copied here is same e e' =
    let f : (ℕ → List ℕ) = λ y. slice_index_or vars y [] in
    let more : take (i + 1) seen ≡ take i seen ++ x ∷ [] = take_more seen i x (slice_get_within seen i x here) ∙ ap (λ y. take i seen ++ y ∷ []) (get_or_from_slice_get seen i x x here) in
    let named : copied ≡ f x = same ∙ sym (get_or_from_slice_get vars x name [] is) in
    e ∙ ap (λ l. l ++ copied ∷ []) e' ∙ ap (λ n. map f (take i seen) ++ n ∷ []) named ∙ sym (mapped_append f (take i seen) x) ∙ sym (ap (map f) more)
