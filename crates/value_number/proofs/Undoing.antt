-- Numbers that are changed, and the steps that undo it: one change, changes one after the other, and those of a call.
use Rattle.std.proofs.Common.{◌≡◌, ℕ, suc, ◌+◌, ◌<◌, ◌≤◌, Bool, true, false, if◌then◌else◌, nat_eq, nat_lt, eq-eqb, eqb-true, List, [], ◌∷◌, ◌++◌, length, slice_get, slice_index_or, slice_set, Option, Some, None, Result, Ok, Err, OnOk, inl, inr, refl, sym, ap, ◌∙◌, subst, arith, append-nil}
use Rattle.std.proofs.lemmas.Bool.{false≢true, ltb-false, ltb-true}
use Rattle.std.proofs.lemmas.List.{length-set, set-get_or, set-set}
use Rattle.mir_base.specs.declared.instructions.Operand.{Operand}
use Rattle.flow_graph.specs.declared.nodes.Node.{Node}
use Rattle.flow_graph.specs.declared.nodes.Node.TheVariants as kinds
use Rattle.flow_graph.specs.Graphs.{is_start}
use Rattle.key_table.specs.Keys.{IsWithKey}
use Rattle.value_number.specs.declared.finding.NewTerm.{NewTerm}
use Rattle.value_number.specs.declared.finding.AtNode.{AtNode}
use Rattle.value_number.specs.declared.terms.TermKey.{TermKey}
use Rattle.value_number.specs.declared.terms.TermKey.TheVariants as keys
use Rattle.value_number.specs.declared.walk.Step.{Step}
use Rattle.value_number.specs.Entries.{GainsEntries, IsTermOf}
use Rattle.value_number.specs.Terms.{Terms, Opaque, with_term, renewed_terms, node_terms, own_terms, with_globals}
use Rattle.value_number.specs.Table.{Represent, RepresentsAt, Stay, variable_number}
use Rattle.value_number.specs.TermWalks.{AreReady, Finds, IsLeafBelow, NewTermWithin, Passes, Renews, RenewsGlobals, RenewsOne, Undoes, changed_numbers, undoing}
use Rattle.value_number.proofs.Entries.{grows_both, grows_more, leaf_renewed, put_grows}
use Rattle.value_number.proofs.Holders.{represent_changed}
use Rattle.value_number.proofs.Stands.{all_with, represent_on, stands_on}
use Rattle.value_number.proofs.TermWalks.{put_restore, visit_stays}
use Rattle.value_number.proofs.Weights.{undoing_light, weight_append}

module _ (shared : ℕ) (nodes : List Node) (table : List TermKey) where
  -- a change, and the step that undoes it
  change_ready : (steps : List Step) (numbers : List (Option ℕ)) (change : Option NewTerm) → NewTermWithin (length numbers) change → AreReady shared nodes table numbers steps → AreReady shared nodes table (changed_numbers numbers change) (steps ++ undoing steps numbers change)
  change_ready steps numbers None within h = subst (AreReady shared nodes table numbers) (sym (append-nil steps)) h
  change_ready [] numbers (Some change) within h = tt
  change_ready (first ∷ rest) numbers (Some change) within h =
      let steps = first ∷ rest in
      let v = change.variable in
      let old = slice_index_or numbers v None in
      let back : slice_set (slice_set numbers v (Some change.number)) v old ≡ numbers = set-set numbers v (Some change.number) old ∙ set-get_or numbers v None in
      put_restore shared nodes table steps v old (slice_set numbers v (Some change.number)) (subst (λ k. v < k) (sym (length-set numbers v (Some change.number))) within) (subst (λ l. AreReady shared nodes table l steps) (sym back) h)

-- ---- changes

-- the numbers keep their length
pub changed_long : (numbers : List (Option ℕ)) (change : Option NewTerm) → length (changed_numbers numbers change) ≡ length numbers
changed_long numbers None = refl
changed_long numbers (Some change) = length-set numbers change.variable (Some change.number)

-- the steps that undo one change
pub undo_one : (numbers : List (Option ℕ)) (steps : List Step) (change : Option NewTerm) → NewTermWithin (length numbers) change → Undoes 1 numbers steps (changed_numbers numbers change) (steps ++ undoing steps numbers change)
undo_one numbers steps change within = record {
  long = changed_long numbers change;
  ready = λ shared nodes table h. change_ready shared nodes table steps numbers change within h;
  visits = λ n v. visit_stays n steps (undoing steps numbers change) v;
  light = λ shared. omega (arith, weight_append shared steps (undoing steps numbers change), undoing_light shared steps numbers change);
}

-- where nothing changes, nothing is to be undone
pub undo_none : (count : ℕ) (numbers : List (Option ℕ)) (steps : List Step) → Undoes count numbers steps numbers steps
undo_none count numbers steps = record { long = refl; ready = λ shared nodes table h. h; visits = λ n v. v; light = λ shared. omega arith }

-- changes after others are undone by the steps for both
pub undo_both : (a b : ℕ) (numbers : List (Option ℕ)) (steps : List Step) (mid : List (Option ℕ)) (put : List Step) (numbers' : List (Option ℕ)) (steps' : List Step) → Undoes a numbers steps mid put → Undoes b mid put numbers' steps' → Undoes (b + a) numbers steps numbers' steps'
undo_both a b numbers steps mid put numbers' steps' p q = record {
  long = q.long ∙ p.long;
  ready = λ shared nodes table h. q.ready shared nodes table (p.ready shared nodes table h);
  visits = λ n v. q.visits n (p.visits n v);
  light = λ shared. omega (arith, p.light shared, q.light shared);
}

-- ---- the globals

-- numbers that represent terms represent those that are the same of each variable
represent_same : (table : List TermKey) (numbers : List (Option ℕ)) (root : ℕ) (t u : Terms) → ((v : ℕ) → t v ≡ u v) → Represent table numbers root t → Represent table numbers root u
represent_same table numbers root t u same r = record { each = λ v lt. subst (RepresentsAt table root v (variable_number numbers v)) (same v) (r.each v lt) }

-- where the variables below 0 are renewed, none is
renewed_none : (n : ℕ) (terms : Terms) (v : ℕ) → terms v ≡ renewed_terms n 0 terms v
renewed_none n terms v = by (nat_lt v 0) refl
  where
    by : (b : Bool) → nat_lt v 0 ≡ b → terms v ≡ (if b then Opaque n v else terms v)
    by true e = absurd (let lt : v < 0 = ltb-true v 0 e in omega (arith, lt))
    by false e = refl

-- renewing variable x after those below x renews those below x + 1
renewed_more : (n x : ℕ) (terms : Terms) (v : ℕ) → with_term x (Opaque n x) (renewed_terms n x terms) v ≡ renewed_terms n (x + 1) terms v
renewed_more n x terms v = by (nat_eq v x) (nat_lt v x) (nat_lt v (x + 1)) refl refl refl
  where
    by : (a b c : Bool) → nat_eq v x ≡ a → nat_lt v x ≡ b → nat_lt v (x + 1) ≡ c → (if a then Opaque n x else (if b then Opaque n v else terms v)) ≡ (if c then Opaque n v else terms v)
    by true b true e f g = ap (Opaque n) (sym (eqb-true v x e))
    by true b false e f g = absurd (let same : v ≡ x = eqb-true v x e in let past : x + 1 ≤ v = ltb-false v (x + 1) g in omega (arith, same, past))
    by false true true e f g = refl
    by false true false e f g = absurd (let lt : v < x = ltb-true v x f in let past : x + 1 ≤ v = ltb-false v (x + 1) g in omega (arith, lt, past))
    by false false true e f g = absurd (let lt : v < x + 1 = ltb-true v (x + 1) g in let past : x ≤ v = ltb-false v x f in false≢true (sym e ∙ eq-eqb v x (let same : v ≡ x = omega (arith, lt, past) in same)))
    by false false false e f g = refl

-- one variable gets a leaf
pub renews_one : (n x number : ℕ) (old new : List TermKey) (numbers numbers' : List (Option ℕ)) (steps steps' : List Step) (change : NewTerm) → change ≡ record { variable = x; number = number } → x < length numbers → Stay old new → IsWithKey old (keys.Opaque n x) new → slice_get new number ≡ Some (keys.Opaque n x)
    → numbers' ≡ changed_numbers numbers (Some change) → steps' ≡ steps ++ undoing steps numbers (Some change) → RenewsOne n x old new numbers numbers' steps steps'
renews_one n x number old new numbers numbers' steps steps' change is lt stay put here numbers_are steps_are = record {
  stay = stay;
  undoes = subst (λ l. Undoes 1 numbers steps l steps') (sym numbers_are) (subst (λ l. Undoes 1 numbers steps (changed_numbers numbers (Some change)) l) (sym steps_are) (undo_one numbers steps (Some change) (subst (λ (k : NewTerm). k.variable < length numbers) (sym is) lt)));
  terms = λ root terms r. subst (λ l. Represent new l root (with_term x (Opaque n x) terms)) (sym (numbers_are ∙ ap (λ (k : NewTerm). slice_set numbers k.variable (Some k.number)) is))
      (represent_changed new numbers root terms x number (Opaque n x) (represent_on old new numbers root terms stay r) lt here);
  all = all_with old (keys.Opaque n x) new (Opaque n x) put (λ k at. at);
  grows = λ nodes n_lt. put_grows (length numbers) nodes (IsLeafBelow new n (suc x)) old (keys.Opaque n x) new put (n_lt, lt) (λ k at. (x, omega arith, at));
}

-- no variable does
pub renews_none : (n : ℕ) (table : List TermKey) (numbers : List (Option ℕ)) (steps : List Step) → Renews n 0 table table numbers numbers steps steps
renews_none n table numbers steps = record { stay = λ i key at. at; undoes = undo_none 0 numbers steps; terms = λ root terms r. represent_same table numbers root terms (renewed_terms n 0 terms) (renewed_none n terms) r; all = λ all. all; grows = λ nodes n_lt k key at. inl at }

-- one more does
pub renews_more : (n x : ℕ) (old mid new : List TermKey) (numbers between numbers' : List (Option ℕ)) (steps put steps' : List Step) → Renews n x old mid numbers between steps put → RenewsOne n x mid new between numbers' put steps' → Renews n (x + 1) old new numbers numbers' steps steps'
renews_more n x old mid new numbers between numbers' steps put steps' p q = record {
  stay = λ i key at. q.stay i key (p.stay i key at);
  undoes = subst (λ k. Undoes k numbers steps numbers' steps') (let e : 1 + x ≡ x + 1 = omega arith in e) (undo_both x 1 numbers steps between put numbers' steps' p.undoes q.undoes);
  terms = λ root terms r. represent_same new numbers' root (with_term x (Opaque n x) (renewed_terms n x terms)) (renewed_terms n (x + 1) terms) (renewed_more n x terms) (q.terms root (renewed_terms n x terms) (p.terms root terms r));
  all = λ all. q.all (p.all all);
  grows = λ nodes n_lt. grows_both (length numbers) nodes (IsLeafBelow mid n x) (IsLeafBelow new n (x + 1)) old mid new q.stay
      (λ k leaf. inr (leaf.0, omega (arith, leaf.1), q.stay k (keys.Opaque n leaf.0) leaf.2)) (p.grows nodes n_lt)
      (subst (λ c. GainsEntries c nodes (IsLeafBelow new n (x + 1)) mid new) p.undoes.long
      (grows_more (length between) nodes (IsLeafBelow new n (suc x)) (IsLeafBelow new n (x + 1)) mid new (λ k leaf. (leaf.0, omega (arith, leaf.1), leaf.2)) (q.grows nodes n_lt)));
}

-- where the terms of the globals stay, nothing changes
pub globals_stay : (shared n : ℕ) (node : Node) (table : List TermKey) (numbers : List (Option ℕ)) (steps : List Step) → ((terms : Terms) → with_globals shared n node terms ≡ terms) → RenewsGlobals shared n node table table numbers numbers steps steps
globals_stay shared n node table numbers steps same = record { stay = λ i key at. at; undoes = undo_none shared numbers steps; terms = λ root terms r. subst (Represent table numbers root) (sym (same terms)) r; all = λ all. all; grows = λ nodes terms n_lt k key at. inl at }

-- and after a call they are renewed
pub globals_renewed : {E : Type 0} (shared n : ℕ) (into : Option ℕ) (unit : ℕ) (operands : List Operand) (next : ℕ) (old new : List TermKey) (numbers numbers' : List (Option ℕ)) (steps steps' : List Step) (r : Result (Unit {0}) E) → shared ≤ length numbers
    → OnOk r (Renews n shared old new numbers numbers' steps steps') → OnOk r (RenewsGlobals shared n (kinds.Call into unit operands next) old new numbers numbers' steps steps')
globals_renewed shared n into unit operands next old new numbers numbers' steps steps' (Ok done) few renews = record {
  stay = renews.stay;
  undoes = renews.undoes;
  terms = renews.terms;
  all = renews.all;
  grows = λ nodes terms n_lt. grows_more (length numbers) nodes (IsLeafBelow new n shared) (IsTermOf new (length numbers) (renewed_terms n shared terms)) old new (leaf_renewed new n shared (length numbers) terms few) (renews.grows nodes n_lt);
}
globals_renewed shared n into unit operands next old new numbers numbers' steps steps' (Err e) few renews = tt

-- ---- a node

-- a Start has no globals to renew
start_keeps : (shared n : ℕ) (node : Node) (terms : Terms) → is_start node ≡ true → with_globals shared n node terms ≡ terms
start_keeps shared n node terms is = by node is
  where
    by : (m : Node) → is_start m ≡ true → with_globals shared n m terms ≡ terms
    by (kinds.Start next) e = refl
    by (kinds.Skip next) e = cc
    by (kinds.Assign x rhs next) e = cc
    by (kinds.Print a next) e = cc
    by (kinds.Guard test number next) e = cc
    by (kinds.Call into unit operands next) e = cc
    by (kinds.Test test taken other) e = cc
    by (kinds.Return a) e = cc

-- what was found, the change that it makes, and then the globals
pub node_passes : (shared root n : ℕ) (node : Node) (old mid new : List TermKey) (numbers between numbers' : List (Option ℕ)) (steps put steps' : List Step) (found : AtNode) → Finds old mid numbers root n node found
    → between ≡ changed_numbers numbers found.change → put ≡ steps ++ undoing steps numbers found.change → RenewsGlobals shared n node mid new between numbers' put steps' → Passes shared root n node old new numbers numbers' steps steps' found.holder
node_passes shared root n node old mid new numbers between numbers' steps put steps' found f between_are put_are r = record {
  stay = λ i key at. r.stay i key (f.stay i key at);
  undoes = subst (λ k. Undoes k numbers steps numbers' steps') (let e : shared + 1 ≡ suc shared = omega arith in e) (undo_both 1 shared numbers steps between put numbers' steps'
      (subst (λ l. Undoes 1 numbers steps l put) (sym between_are) (subst (λ l. Undoes 1 numbers steps (changed_numbers numbers found.change) l) (sym put_are) (undo_one numbers steps found.change f.within))) r.undoes);
  holds = f.holder;
  after = λ terms represent other. r.terms root (own_terms n node terms) (subst (λ l. Represent mid l root (own_terms n node terms)) (sym between_are) (f.change terms represent other));
  start = λ terms represent is. subst (Represent new numbers' root) (start_keeps shared n node terms is)
      (r.terms root terms (subst (λ l. Represent mid l root terms) (sym (between_are ∙ ap (changed_numbers numbers) (f.start is))) (represent_on old mid numbers root terms f.stay represent)));
  all = λ terms represent all. r.all (f.all terms represent all);
  grows = λ nodes terms root_lt n_lt represent.
      grows_both (length numbers) nodes (IsTermOf mid (length numbers) (node_terms shared n node terms)) (IsTermOf new (length numbers) (node_terms shared n node terms)) old mid new r.stay
      (λ k t. inr (t.0, t.1, stands_on mid new r.stay (node_terms shared n node terms t.0) k t.2)) (f.grows shared nodes terms root_lt n_lt represent)
      (subst (λ c. GainsEntries c nodes (IsTermOf new c (node_terms shared n node terms)) mid new) (ap length between_are ∙ changed_long numbers found.change) (r.grows nodes (own_terms n node terms) n_lt));
}
