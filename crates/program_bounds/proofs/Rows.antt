-- Rows of what is known: how they are raised.
use Rattle.std.proofs.Common.{◌≡◌, ◌↔◌, ℕ, zero, suc, ◌+◌, ◌<◌, Bool, true, false, List, [], ◌∷◌, ◌++◌, length, map, replicate, slice_get, slice_index_or, slice_set, take, Some, refl, sym, ap, ◌∙◌, arith}
use Rattle.std.proofs.lemmas.List.{get_or-set_same, map-set, set-get_or, length-set, length-replicate}
use Rattle.std.proofs.lemmas.Option.{same_Some}
use Rattle.bounds.specs.declared.facts.Fact.TheVariants.{Never}
use Rattle.bounds.specs.declared.facts.Fact.{Fact}
use Rattle.bounds.specs.Facts.{joined_fact}
use Rattle.cond_flow.specs.States.{NodeState, Unreached, Knows, is_reached, joined, joined_each}
use Rattle.program_bounds.specs.Facts.{ProgramFacts, facts_in, row_at}
use Rattle.mir_base.specs.declared.instructions.Operand.{Operand}
use Rattle.flow_graph.specs.declared.nodes.Node.TheVariants.{Return}
use Rattle.program_bounds.specs.Sweeps.{GivesAt, row_joined}

-- the row of a list of facts
pub row_of : (items : List (List Fact)) (u : ℕ) (facts : List Fact) → u < length items → facts ≡ slice_index_or items u [] → row_at (map Knows items) u ≡ Knows facts
row_of [] u facts lt is = absurd (omega (arith, lt))
row_of (x ∷ items) zero facts lt is = ap Knows (sym is)
row_of (x ∷ items) (suc u) facts lt is = row_of items u facts (omega (arith, lt)) is

-- a row that is put where it stands
pub put_itself : (rows : List (NodeState Fact)) (u : ℕ) → u < length rows → slice_set rows u (row_at rows u) ≡ rows
put_itself [] u lt = absurd (omega (arith, lt))
put_itself (x ∷ rows) zero lt = refl
put_itself (x ∷ rows) (suc u) lt = ap (λ l. x ∷ l) (put_itself rows u (omega (arith, lt)))

-- facts joined to one of these lists
pub backs_joined : (items : List (List Fact)) (u : ℕ) (old facts new : List Fact) → u < length items → old ≡ slice_index_or items u [] → new ≡ joined_each joined_fact old facts → map Knows (slice_set items u new) ≡ row_joined (map Knows items) u facts
backs_joined items u old facts new lt is joins =
    map-set Knows items u new
    ∙ ap (slice_set (map Knows items) u) (ap Knows joins ∙ sym (ap (λ s. joined joined_fact s (Knows facts)) (row_of items u old lt is)))

-- what a return hands back is given
pub backs_given : (a : Operand) (entries : List (NodeState Fact)) (items : List (List Fact)) (u : ℕ) (old facts new : List Fact) (raised : Bool) → u < length items → old ≡ slice_index_or items u [] → new ≡ joined_each joined_fact old facts → ((raised ≡ false) ↔ (new ≡ old)) → GivesAt (Return a) u (Some facts) (record { entries = entries; backs = map Knows items }) (record { entries = entries; backs = map Knows (slice_set items u new) }) raised
backs_given a entries items u old facts new raised lt is joins same = record {
  given = ap (λ rows. record { entries = entries; backs = rows }) (backs_joined items u old facts new lt is joins);
  stays = λ off. ap (λ l. record { entries = entries; backs = map Knows l }) (ap (slice_set items u) (same.0 off ∙ is) ∙ set-get_or items u []);
  changes = λ still.
      let here : row_at (map Knows (slice_set items u new)) u ≡ row_at (map Knows items) u = ap (λ (k : ProgramFacts). row_at k.backs u) still in
      let there : row_at (map Knows (slice_set items u new)) u ≡ Knows new = row_of (slice_set items u new) u new (omega (arith, lt, length-set items u new)) (sym (get_or-set_same items u new [] lt)) in
      let both : Knows new ≡ Knows old = sym there ∙ here ∙ row_of items u old lt is in
      same.1 (known_same new old both);
}
  where
    known_same : (xs ys : List Fact) → Knows xs ≡ Knows ys → xs ≡ ys
    known_same xs ys e = cc

-- facts that are known
pub map_known : (items : List (List Fact)) → map facts_in (map Knows items) ≡ items
map_known [] = refl
map_known (x ∷ items) = ap (λ l. x ∷ l) (map_known items)

-- a state that is reached
pub reached_known : (s : NodeState Fact) → is_reached s ≡ true → (facts : List Fact) × (s ≡ Knows facts)
reached_known (Unreached n) on = absurd (cc)
reached_known (Knows facts) on = (facts, refl)

-- one that is not
pub unreached_known : (s : NodeState Fact) (facts : List Fact) → is_reached s ≡ false → s ≡ Knows facts → ⊥
unreached_known (Unreached n) facts off is = cc
unreached_known (Knows ks) facts off is = cc

-- one more of the same
pub replicate_more : {A : Type 0} (n : ℕ) (a : A) → replicate n a ++ a ∷ [] ≡ replicate (n + 1) a
replicate_more zero a = refl
replicate_more (suc n) a =
    let more : suc n + 1 ≡ suc (n + 1) = omega arith in
    ap (λ l. a ∷ l) (replicate_more n a) ∙ sym (ap (λ k. replicate k a) more)

-- one more item that is taken, put through a function
pub map_more : {A B : Type 0} (f : A → B) (xs : List A) (i : ℕ) (x : A) → slice_get xs i ≡ Some x → map f (take (i + 1) xs) ≡ map f (take i xs) ++ f x ∷ []
map_more f [] i x at = absurd (cc)
map_more f (y ∷ xs) zero x at = let same : y ≡ x = same_Some y x at in ap (λ k. f k ∷ []) same
map_more f (y ∷ xs) (suc i) x at =
    let next : suc i + 1 ≡ suc (i + 1) = omega arith in
    ap (λ n. map f (take n (y ∷ xs))) next ∙ ap (λ l. f y ∷ l) (map_more f xs i x at)

-- no facts but "never"
pub never_itself : (n : ℕ) (list : List Fact) → list ≡ replicate n Never → list ≡ replicate (length list) Never
never_itself n list is = is ∙ ap (λ k. replicate k Never) (sym (ap (λ l. length l) is ∙ length-replicate n Never))
