-- A graph that steps have made of a source, seen from the paths of the source: before each node of the source stand some
-- nodes of the graph, and what stands on a path came from somewhere on this path.
use Rattle.std.proofs.Common.{◌≡◌, ◌⊎◌, ℕ, Bool, true, false, List, [], ◌∷◌, ◌++◌, flat_map}
use Rattle.path_images.specs.Ends.{IsEndOf, latest, rest_of}
use Rattle.path_images.specs.Walks.{IsLoose, IsPlaced}

-- what can be asked of a node: whether it reads the variable, assigns it, or is an assignment of this pattern
pub data Ask (P : Type 0) : Type 0 where
  Reads : ℕ → Ask P
  Sets : ℕ → Ask P
  Is : P → Ask P

-- Paths of the source are lists with the newest node first. `does` answers for its nodes. `firm n`: it is no Skip and no
-- assignment that may be moved
module _ (P : Type 0) (Walk : List ℕ → Type 0) (does : Ask P → ℕ → Bool) (firm : ℕ → Bool) where
  -- node k reads or assigns some variable
  abbrev pub Acts : (Ask P → ℕ → Bool) → ℕ → Type 0
  Acts does' k = (y : ℕ) × ((does' (Reads y) k ≡ true) ⊎ (does' (Sets y) k ≡ true))

  -- where on the path of the source this came from: a node that does the same
  pub record Origin (does' : Ask P → ℕ → Bool) (origin : List ℕ) (k : ℕ) (path : List ℕ) : Type 0 where
    pub at : IsEndOf origin path
    pub node : ℕ
    pub before : List ℕ
    pub is : origin ≡ node ∷ before
    pub alike : (q : Ask P) → does' q k ≡ does q node
    pub firm_same : firm k ≡ firm node

  -- both came from behind b and b', from one place; or both from b and b'
  pub data BothFrom (b b' : List ℕ) (one other : List ℕ) : Type 0 where
    from_behind : (g : ℕ) (front : List ℕ) → one ≡ (g ∷ front) ++ b → other ≡ (g ∷ front) ++ b' → BothFrom b b' one other
    from_before : IsEndOf one b → IsEndOf other b' → BothFrom b b' one other

  -- `over n`: the nodes of the graph that stand for node n of the source, itself first, and then what is before it.
  -- `from`: of a path of the graph up to some node the path of the source up to where that node came from
  pub record IsImage (over : ℕ → List ℕ) (does' : Ask P → ℕ → Bool) (from : List ℕ → List ℕ) : Type 0 where
    pub none : from [] ≡ []
    pub itself : (n : ℕ) → (chain : List ℕ) × (over n ≡ n ∷ chain)
    pub origin : (path : List ℕ) (k : ℕ) (rest : List ℕ) → Walk path → IsEndOf (k ∷ rest) (flat_map over path) → Acts does' k
        → Origin does' (from (k ∷ rest)) k path
    -- what a node reads was assigned where the source assigns it
    pub read : (path : List ℕ) (k : ℕ) (rest : List ℕ) (y : ℕ) → Walk path → IsEndOf (k ∷ rest) (flat_map over path) → does' (Reads y) k ≡ true
        → from (latest (does' (Sets y)) rest) ≡ latest (does (Sets y)) (rest_of (from (k ∷ rest)))
    -- and what it assigns was last assigned there or sooner
    pub wrote : (path : List ℕ) (k : ℕ) (rest : List ℕ) (y : ℕ) → Walk path → IsEndOf (k ∷ rest) (flat_map over path) → does' (Sets y) k ≡ true
        → IsEndOf (from (latest (does' (Sets y)) rest)) (latest (does (Sets y)) (rest_of (from (k ∷ rest))))
    -- behind a join stands what came from behind it, or from before it along each way
    pub joins : (b b' e : List ℕ) (s k : ℕ) (d : List ℕ) → Walk (e ++ (s ∷ b)) → Walk (e ++ (s ∷ b'))
        → IsEndOf ((k ∷ d) ++ flat_map over b) (flat_map over (e ++ (s ∷ b))) → Acts does' k
        → BothFrom b b' (from ((k ∷ d) ++ flat_map over b)) (from ((k ∷ d) ++ flat_map over b'))
    -- what is not firm and reads or assigns is an assignment
    pub assignment : (k : ℕ) → Acts does' k → firm k ≡ false → (y : ℕ) × (does' (Sets y) k ≡ true)
    -- a firm node does what it does in the source, and stays where it is
    pub firm_alike : (n : ℕ) → firm n ≡ true → (q : Ask P) → does' q n ≡ does q n
    pub fixed : (path : List ℕ) (k : ℕ) (rest : List ℕ) → Walk path → IsEndOf (k ∷ rest) (flat_map over path) → Acts does' k → firm k ≡ true
        → IsEndOf (k ∷ rest) (flat_map over (from (k ∷ rest)))

  -- what this assigns is read, on some path on from it
  pub record IsRead (over : ℕ → List ℕ) (does' : Ask P → ℕ → Bool) (path : List ℕ) (k : ℕ) (rest : List ℕ) (y : ℕ) : Type 0 where
    pub on : List ℕ
    pub walk : Walk (on ++ path)
    pub node : ℕ
    pub before : List ℕ
    pub at : IsEndOf (node ∷ before) (flat_map over (on ++ path))
    pub placed : IsPlaced over (node ∷ before) (on ++ path)
    pub reads_it : does' (Reads y) node ≡ true
    pub last : latest (does' (Sets y)) before ≡ k ∷ rest

  -- no assignment that may be moved is dead
  abbrev pub NoneDead : (ℕ → List ℕ) → (Ask P → ℕ → Bool) → Type 0
  NoneDead over does' = (path : List ℕ) (k : ℕ) (rest : List ℕ) (y : ℕ) → Walk path → IsEndOf (k ∷ rest) (flat_map over path) → IsPlaced over (k ∷ rest) path → firm k ≡ false → does' (Sets y) k ≡ true
      → (IsRead over does' path k rest y → ⊥) → ⊥

  -- what came from there stands on the path too, or before the next firm node
  pub record Stands (over : ℕ → List ℕ) (does' : Ask P → ℕ → Bool) (from : List ℕ → List ℕ) (doesZ : Ask P → ℕ → Bool) (origin : List ℕ) (zk : ℕ) (path : List ℕ) : Type 0 where
    pub on : List ℕ
    pub walk : Walk (on ++ path)
    pub loose : IsLoose firm on path
    pub node : ℕ
    pub before : List ℕ
    pub at : IsEndOf (node ∷ before) (flat_map over (on ++ path))
    pub same : from (node ∷ before) ≡ origin
    pub alike : (q : Ask P) → does' q node ≡ doesZ q zk
    pub firm_same : firm node ≡ firm zk

  -- of each that stands in Z its origin stands in the graph too
  abbrev pub IsAbove : (ℕ → List ℕ) → (Ask P → ℕ → Bool) → (List ℕ → List ℕ) → (ℕ → List ℕ) → (Ask P → ℕ → Bool) → (List ℕ → List ℕ) → Type 0
  IsAbove over does' from overZ doesZ fromZ = (path : List ℕ) (k : ℕ) (rest : List ℕ) → Walk path → IsEndOf (k ∷ rest) (flat_map overZ path) → Acts doesZ k
      → (Stands over does' from doesZ (fromZ (k ∷ rest)) k path → ⊥) → ⊥
