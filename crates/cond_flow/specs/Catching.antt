-- What is not news before a block has passed along its edges: what passed is what passes of a state that agrees with its
-- own but for the variables that were raised since. Cited by contracts of private functions and by the ghost members of
-- `StateFlow`.
use Rattle.std.specs.Prelude.{◌≡◌, ℕ, false, List, length}
use Rattle.cond_flow.specs.NewsShapes.{NewsShape, is_among}
use Rattle.cond_flow.specs.Rules.{Rules, known_at}
use Rattle.cond_flow.specs.States.{NodeState, Unreached, Knows, BelowState}

-- the same is known of all variables but these
pub record AgreeOff {K : Type 0} (rules : Rules K) (raised : List ℕ) (xs ys : List K) : Type 0 where
  pub long : length xs ≡ length ys
  pub each : (k : ℕ) → is_among raised k ≡ false → known_at rules xs k ≡ known_at rules ys k

-- the same of states, both reached or both not
abbrev pub AreOff : {K : Type 0} → Rules K → List ℕ → NodeState K → NodeState K → Type 0
AreOff rules raised (Unreached n) (Unreached m) = n ≡ m
AreOff rules raised (Unreached n) (Knows ys) = ⊥
AreOff rules raised (Knows xs) (Unreached m) = ⊥
AreOff rules raised (Knows xs) (Knows ys) = AgreeOff rules raised xs ys

-- what passes of such a state is in the state at the target
pub record HasPassed {K : Type 0} (below : K → K → Type 0) (rules : Rules K)
    (transfer : NodeState K → NodeState K)
    (raised : List ℕ) (x w : NodeState K) : Type 0 where
  pub before : NodeState K
  pub off : AreOff rules raised before x
  pub passed : BelowState below (transfer before) w

-- that is so unless all is news
pub record IsCaught {K : Type 0} (below : K → K → Type 0) (rules : Rules K)
    (transfer : NodeState K → NodeState K)
    (news : NewsShape) (x w : NodeState K) : Type 0 where
  pub passed : news.whole ≡ false → HasPassed below rules transfer news.raised x w
