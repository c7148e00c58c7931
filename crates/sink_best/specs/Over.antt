-- The one path of a graph after a sinking over a full path is what stands over the path. For proofs only.
use Rattle.std.proofs.Common.{◌≡◌, ◌+◌, ◌≤◌, ℕ, zero, suc, nat_lt, filter, List, [], ◌∷◌, ◌++◌, length, flat_map, reverse, refl, sym, ap, ◌∙◌, arith, append_assoc, inl, inr}
use Rattle.std.proofs.lemmas.Bool.{cases_lt}
use Rattle.std.proofs.lemmas.List.{reverse-append}
use Rattle.flow_graph.specs.declared.nodes.Node.{Node}
use Rattle.flow_graph.specs.BoundLaws.{edge_within}
use Rattle.flow_graph.specs.Paths.{IsPath}
use Rattle.graph_edit.specs.InsertionPaths.{keep_old, skip_new}
use Rattle.graph_edit.specs.Insertions.{Insertion, Rewriting, put_below}
use Rattle.graph_edit.specs.Over.{over_path, through}
use Rattle.sink_best.specs.Chains.{chain_before, down}

-- so many numbers from k on
abbrev ups : ℕ → ℕ → List ℕ
ups k zero = []
ups k (suc j) = k ∷ ups (suc k) j

-- one number more stands at the end
ups_last : (k j : ℕ) → ups k (suc j) ≡ ups k j ++ (k + j) ∷ []
ups_last k zero = ap (λ n. n ∷ []) (let e : k ≡ k + 0 = omega arith in e)
ups_last k (suc j) = ap (λ l. k ∷ l) (ups_last (suc k) j) ∙ ap (λ n. k ∷ (ups (suc k) j ++ n ∷ [])) (let e : suc k + j ≡ k + suc j = omega arith in e)

-- numbers in descending order, read the other way round, ascend
down_ups : (k j : ℕ) → reverse (down k j) ≡ ups k j
down_ups k zero = refl
down_ups k (suc j) = reverse-append ((k + j) ∷ []) (down k j) ∙ ap (λ l. l ++ (k + j) ∷ []) (down_ups k j) ∙ sym (ups_last k j)

-- the way through a chain of insertions is their numbers in ascending order
through_ups : (k : ℕ) (puts : List Insertion) (path : List ℕ) → through k puts path ≡ ups k (length puts) ++ path
through_ups k [] path = refl
through_ups k (put ∷ puts) path = ap (λ l. k ∷ l) (through_ups (suc k) puts path)

-- the path over two paths one after the other is that over the first and then that over the second
over_append : (inserts : ℕ → List Insertion) (old : ℕ) (a b : List ℕ) → over_path inserts old (a ++ b) ≡ over_path inserts old a ++ over_path inserts old b
over_append inserts old [] b = refl
over_append inserts old (n ∷ a) b =
    let k = old + put_below inserts n in
    through_ups k (inserts n) (n ∷ over_path inserts old (a ++ b))
    ∙ ap (λ l. ups k (length (inserts n)) ++ (n ∷ l)) (over_append inserts old a b)
    ∙ sym (append_assoc (ups k (length (inserts n))) (n ∷ over_path inserts old a) (over_path inserts old b))
    ∙ ap (λ l. l ++ over_path inserts old b) (sym (through_ups k (inserts n) (n ∷ over_path inserts old a)))

-- the path over a path read backwards
pub over_backwards : (r : Rewriting) (nodes : List Node) (q : List ℕ)
    → over_path r.inserts (length nodes) (reverse q) ≡ reverse (flat_map (λ n. n ∷ chain_before r nodes n) q)
over_backwards r nodes [] = refl
over_backwards r nodes (n ∷ q) =
    let k = length nodes + put_below r.inserts n in
    let c = length (r.inserts n) in
    let rest = flat_map (λ m. m ∷ chain_before r nodes m) q in
    ap (over_path r.inserts (length nodes)) (reverse-append (n ∷ []) q)
    ∙ over_append r.inserts (length nodes) (reverse q) (n ∷ [])
    ∙ ap (λ l. l ++ through k (r.inserts n) (n ∷ [])) (over_backwards r nodes q)
    ∙ ap (λ l. reverse rest ++ l) (through_ups k (r.inserts n) (n ∷ []) ∙ ap (λ l. l ++ n ∷ []) (sym (down_ups k c)) ∙ sym (reverse-append (n ∷ []) (down k c)))
    ∙ sym (reverse-append (n ∷ down k c) rest)

-- ---- the old nodes of a path

-- those below a number are among those below a greater one
pub filter_both : (a b : ℕ) → a ≤ b → (l : List ℕ) → filter (λ n. nat_lt n a) (filter (λ n. nat_lt n b) l) ≡ filter (λ n. nat_lt n a) l
filter_both a b le [] = refl
filter_both a b le (n ∷ l) = elim (cases_lt n b) [
  | inl lt ↦ ap (filter (λ m. nat_lt m a)) (keep_old b n l lt) ∙ elim (cases_lt n a) [
    | inl less ↦ keep_old a n (filter (λ m. nat_lt m b) l) less ∙ ap (λ q. n ∷ q) (filter_both a b le l) ∙ sym (keep_old a n l less)
    | inr more ↦ skip_new a n (filter (λ m. nat_lt m b) l) more ∙ filter_both a b le l ∙ sym (skip_new a n l more)
  ]
  | inr ge ↦ ap (filter (λ m. nat_lt m a)) (skip_new b n l ge) ∙ filter_both a b le l ∙ sym (skip_new a n l (omega (arith, ge, le)))
]

-- a path has old nodes alone
pub filter_path : (nodes : List Node) (path : List ℕ) → IsPath nodes path → filter (λ n. nat_lt n (length nodes)) path ≡ path
filter_path nodes [] is = refl
filter_path nodes (n ∷ []) is = keep_old (length nodes) n [] is
filter_path nodes (n ∷ m ∷ path) is = keep_old (length nodes) n (m ∷ path) (edge_within nodes n m is.0) ∙ ap (λ l. n ∷ l) (filter_path nodes (m ∷ path) is.1)
