-- What a loop has shown of each item of a prefix of a list.
use Rattle.std.proofs.Common.{◌≡◌, ℕ, ◌+◌, ◌<◌, ◌≤◌, List, length, get_or, take, subst}
use Rattle.std.specs.List.{All}
use Rattle.std.proofs.lemmas.List.{take_all}
use Rattle.std.proofs.lemmas.List.Elements.{All-more}

-- the first items and one more
pub prefix_more : {A : Type 0} (P : A → Type 0) (xs : List A) (i : ℕ) (x : A) → i < length xs → All P (take i xs) → x ≡ get_or xs i x → P x → All P (take (i + 1) xs)
prefix_more P xs i x low front at holds = All-more P xs i x low front (subst P at holds)

-- the first items, where they are all
pub prefix_whole : {A : Type 0} (P : A → Type 0) (xs : List A) (i : ℕ) → length xs ≤ i → All P (take i xs) → All P xs
prefix_whole P xs i end front = subst (All P) (take_all i xs end) front
