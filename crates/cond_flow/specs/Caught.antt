-- The news of states keep the laws of news. Cited by the ghost members of `StateFlow`.
use Rattle.std.proofs.Common.{◌≡◌, ℕ, true, false, List, refl, sym, ◌∙◌}
use Rattle.fix_solve.specs.NewsFlows.{NewsLaws}
use Rattle.cond_flow.specs.declared.flow.StateFlow.{StateFlow}
use Rattle.cond_flow.specs.Catching.{AreOff, IsCaught}
use Rattle.cond_flow.specs.Flows.{IsStateFlow, net_of}
use Rattle.cond_flow.specs.NewsShapes.{NewsShape, FitsAny, IsAllNew, IsNoneNew}
use Rattle.cond_flow.specs.Rules.{Rules, OrderRules}
use Rattle.cond_flow.specs.StateLaws.{below_trans}
use Rattle.cond_flow.specs.States.{NodeState, Unreached, Knows, BelowState, size_of}

-- along an edge of the flow
abbrev pub caught_in : {K : Type 0} → {L : Type 0} → (K → K → Type 0) → Rules K → StateFlow K L → ℕ
    → NewsShape
    → NodeState K → NodeState K → Type 0
caught_in below rules f e news x w = IsCaught below rules ((net_of rules f).transfer e) news x w

-- a state agrees with itself
off_none : {K : Type 0} (rules : Rules K) (raised : List ℕ) (s : NodeState K) → AreOff rules raised s s
off_none rules raised (Unreached n) = refl
off_none rules raised (Knows xs) = record { long = refl; each = λ k out. refl }

-- where all is news anything is caught
pub caught_all : {K : Type 0} (below : K → K → Type 0) (rules : Rules K) (transfer : NodeState K → NodeState K) (news : NewsShape)
    (x w : NodeState K) → news.whole ≡ true → IsCaught below rules transfer news x w
caught_all below rules transfer news x w all = record {
  passed = λ off. let bad : true ≡ false = sym all ∙ off in absurd (cc);
}

-- all laws
pub caught_laws : {K : Type 0} {below : K → K → Type 0} {rules : Rules K} (order : OrderRules below rules) {L : Type 0}
    (f : StateFlow K L) → IsStateFlow rules f
    → NewsLaws (BelowState below) size_of FitsAny IsAllNew IsNoneNew (net_of rules f) (caught_in below rules f)
caught_laws {below = below} {rules = rules} order f valid = record {
  all = λ e news x w h all. caught_all below rules ((net_of rules f).transfer e) news x w all;
  none = λ e news x w h fit sized long none passed. record {
    passed = λ off. record { before = x; off = off_none rules news.raised x; passed = passed };
  };
  grows = λ e news x w w' h caught up. record {
    passed = λ off.
        let was = caught.passed off in
        record { before = was.before; off = was.off; passed = below_trans order _ w w' was.passed up };
  };
}
