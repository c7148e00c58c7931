-- What comes out of a list of nodes that are passed one after the other. For proofs only, here and above.
use Rattle.std.proofs.Common.{◌≡◌, ℕ, suc, Bool, true, false, not, ◌||◌, ◌&&◌, List, [], ◌∷◌, ◌++◌, take, slice_get, Some, refl, sym, ap, ◌∙◌}
use Rattle.std.proofs.Math.Bool.{and-true}
use Rattle.std.specs.List.{list_any}
use Rattle.flow_graph.specs.ListLaws.{take_next}
use Rattle.path_laws.specs.Blockwise.{passed, passed_all}

-- what a block does as a whole: its seeds, and what comes to it where none of its nodes bars that
apart : (r s x k a : Bool) → (r || ((s || (x && not k)) && not a)) ≡ ((r || ((s || (false && not k)) && not a)) || (x && not (k || a)))
apart true s x k a = refl
apart false true x k true = and_not x k
  where
    and_not : (x k : Bool) → false ≡ (x && not (k || true))
    and_not true true = refl
    and_not true false = refl
    and_not false k = refl
apart false true x k false = refl
apart false false true true a = refl
apart false false true false true = refl
apart false false true false false = refl
apart false false false k a = refl

-- what comes out of a path: what it seeds itself, and what comes to it where none of its nodes bars that
pub passed_apart : (seed bar : ℕ → Bool) (path : List ℕ) (x : Bool)
    → passed_all seed bar x path ≡ (passed_all seed bar false path || (x && not (list_any bar path)))
passed_apart seed bar [] x = sym (and-true x)
passed_apart seed bar (n ∷ path) x =
    let first = passed_apart seed bar path (passed seed bar n x) in
    let empty = passed_apart seed bar path (passed seed bar n false) in
    first ∙ apart (passed_all seed bar false path) (seed n) x (bar n) (list_any bar path) ∙ ap (λ r. r || (x && not (bar n || list_any bar path))) (sym empty)

-- a path that goes on is passed in two steps
pub passed_append : (seed bar : ℕ → Bool) (xs ys : List ℕ) (x : Bool) → passed_all seed bar x (xs ++ ys) ≡ passed_all seed bar (passed_all seed bar x xs) ys
passed_append seed bar [] ys x = refl
passed_append seed bar (n ∷ xs) ys x = passed_append seed bar xs ys (passed seed bar n x)

-- what comes out of the first i + 1 nodes is what comes out of the first i, passed on by the next one
pub passed_next : (seed bar : ℕ → Bool) (xs : List ℕ) (i n : ℕ) (x : Bool) → slice_get xs i ≡ Some n
    → passed_all seed bar x (take (suc i) xs) ≡ passed seed bar n (passed_all seed bar x (take i xs))
passed_next seed bar xs i n x e = ap (passed_all seed bar x) (take_next xs i n e) ∙ passed_append seed bar (take i xs) (n ∷ []) x

-- ---- the complement

-- past a node a bit is not there exactly where it is stopped and not born there, or did not come and is not born; s, k
-- and x say whether it is born, is stopped, and did not come
unpassed : (s k x : Bool) → ((k && not s) || (x && not s)) ≡ not (s || (not x && not k))
unpassed true true x = both x
  where
    both : (x : Bool) → (x && false) ≡ false
    both true = refl
    both false = refl
unpassed true false x = both x
  where
    both : (x : Bool) → (x && false) ≡ false
    both true = refl
    both false = refl
unpassed false true true = refl
unpassed false true false = refl
unpassed false false true = refl
unpassed false false false = refl

-- what is denied twice is as it was
twice : (a : Bool) → a ≡ not (not a)
twice true = refl
twice false = refl

-- past a list of nodes the complement is passed on in the same way: its seeds are the stops without the births, and
-- births bar it
pub passed_complement : (born stop : ℕ → Bool) (path : List ℕ) (x : Bool)
    → passed_all (λ n. stop n && not (born n)) born x path ≡ not (passed_all born stop (not x) path)
passed_complement born stop [] x = twice x
passed_complement born stop (n ∷ path) x =
    let here = unpassed (born n) (stop n) x in
    ap (λ y. passed_all (λ m. stop m && not (born m)) born y path) here
    ∙ passed_complement born stop path (not (passed born stop n (not x)))
    ∙ ap (λ y. not (passed_all born stop y path)) (sym (twice (passed born stop n (not x))))
