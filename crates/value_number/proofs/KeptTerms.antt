-- The terms that are kept of nodes stay known while the walk goes on, and at its end those of all nodes are.
use Rattle.std.proofs.Common.{◌≡◌, ◌≢◌, ◌⊎◌, inl, inr, ℕ, ◌<◌, Bool, List, [], ◌∷◌, ◌++◌, length, slice_get, Option, Some, None, sym, ap, ◌∙◌, subst}
use Rattle.std.proofs.lemmas.Bool.{cases_eq}
use Rattle.std.proofs.lemmas.List.{length-set}
use Rattle.std.proofs.lemmas.Option.{same_Some, slice_get_within}
use Rattle.flow_graph.specs.Graphs.{GraphShape, IsGraph}
use Rattle.flow_graph.specs.ListLaws.{set_elsewhere, set_here}
use Rattle.value_number.specs.declared.all_terms.TermsAt.{TermsAt}
use Rattle.value_number.specs.declared.terms.TermKey.{TermKey}
use Rattle.value_number.specs.declared.walk.Step.{Step}
use Rattle.value_number.specs.declared.walk.Step.TheVariants.{Visit, Restore}
use Rattle.value_number.specs.AllTerms.{AreTermsOfAll}
use Rattle.value_number.specs.KeptTerms.{AreKeptOrLeft, IsNodeKept, KeepsAt}
use Rattle.value_number.specs.NodeTerms.{AreTermsBefore}
use Rattle.value_number.specs.Roots.{terms_before}
use Rattle.value_number.specs.Table.{AllStand, Stay}
use Rattle.value_number.specs.TermWalks.{IsUnderWay, IsUnvisited, LeavesUnvisited}
use Rattle.value_number.proofs.Stands.{represent_on}
use Rattle.value_number.proofs.TermWalks.{all_listed, at_visit, known_at}
use Rattle.value_number.proofs.Unvisited.{none_left}

-- more entries of the table leave the terms before a node
pub terms_on : (graph : GraphShape) (n root : ℕ) (old new : List TermKey) (numbers : List (Option ℕ)) → Stay old new
    → AllStand new → AreTermsBefore graph n root old numbers → AreTermsBefore graph n root new numbers
terms_on graph n root old new numbers stay stand are = record {
  long = are.long;
  before = are.before;
  path = are.path;
  represent = represent_on old new numbers root (terms_before graph.shared graph.nodes root are.before) stay are.represent;
  stand = stand;
}

-- no node is lost or new
pub keeps_long : (step : Step) (numbers : List (Option ℕ)) (old new : List TermsAt) → KeepsAt step numbers old new
    → length new ≡ length old
keeps_long (Visit n root) numbers old new keeps = ap length keeps.3 ∙ length-set old n keeps.0
keeps_long (Restore v number) numbers old new keeps = ap length keeps

-- what is kept of a node stays known
kept_on : (graph : GraphShape) (old new : List TermKey) (nodes : List TermsAt) (n : ℕ) → Stay old new → AllStand new
    → IsNodeKept graph old nodes n → IsNodeKept graph new nodes n
kept_on graph old new nodes n stay stand kept = λ at there. terms_on graph n at.root old new at.numbers.items stay stand (kept at there)

module _ (graph : GraphShape) (table table' : List TermKey) (numbers : List (Option ℕ)) (listed listed' : List Bool)
    (steps steps' : List Step) (holders : List (Option ℕ)) (nodes nodes' : List TermsAt)
    (long : length nodes ≡ length graph.nodes) (stay : Stay table table') (stand : AllStand table') where
  -- once a node is visited
  visit_kept : (n root : ℕ) → IsUnderWay graph table numbers listed (steps ++ Visit n root ∷ []) holders None
      → KeepsAt (Visit n root) numbers nodes nodes' → LeavesUnvisited (Visit n root) listed steps listed' steps'
      → AreKeptOrLeft graph table listed (steps ++ Visit n root ∷ []) nodes
      → AreKeptOrLeft graph table' listed' steps' nodes'
  visit_kept n root walk keeps leaves before m = elim (cases_eq n m) as (λ _. Where m) [ inl same ↦ inr (subst (IsNodeKept graph table' nodes') same own) | inr apart ↦ other apart (before m) ]
    where
      Where : ℕ → Type 0
      Where k = IsUnvisited k listed' steps' ⊎ IsNodeKept graph table' nodes' k

      here : slice_get nodes' n ≡ Some keeps.0
      here = subst (λ l. slice_get l n ≡ Some keeps.0) (sym keeps.3) (set_here nodes n keeps.0 (subst (λ k. n < k) (sym long) (at_visit steps root walk)))

      known : AreTermsBefore graph n keeps.0.root table' keeps.0.numbers.items
      known = subst (λ r. AreTermsBefore graph n r table' keeps.0.numbers.items) (sym keeps.1) (subst (AreTermsBefore graph n root table') (sym keeps.2) (terms_on graph n root table table' numbers stay stand (known_at steps root walk)))

      own : IsNodeKept graph table' nodes' n
      own = λ at there. subst (λ (a : TermsAt). AreTermsBefore graph n a.root table' a.numbers.items) (same_Some keeps.0 at (sym here ∙ there)) known

      there_before : (n ≢ m) → (at : TermsAt) → slice_get nodes' m ≡ Some at → slice_get nodes m ≡ Some at
      there_before apart at there = sym (set_elsewhere nodes n m keeps.0 (λ e. apart (sym e))) ∙ subst (λ l. slice_get l m ≡ Some at) keeps.3 there

      other : (n ≢ m) → IsUnvisited m listed (steps ++ Visit n root ∷ []) ⊎ IsNodeKept graph table nodes m → Where m
      other apart (inl unvisited) = inl (leaves m apart unvisited)
      other apart (inr kept) = inr (λ at there. terms_on graph m at.root table table' at.numbers.items stay stand (kept at (there_before apart at there)))

  -- once a number is restored
  restore_kept : (v : ℕ) (number : Option ℕ) → KeepsAt (Restore v number) numbers nodes nodes'
      → LeavesUnvisited (Restore v number) listed steps listed' steps'
      → AreKeptOrLeft graph table listed (steps ++ Restore v number ∷ []) nodes
      → AreKeptOrLeft graph table' listed' steps' nodes'
  restore_kept v number keeps leaves before m = by (before m)
    where
      by : IsUnvisited m listed (steps ++ Restore v number ∷ []) ⊎ IsNodeKept graph table nodes m → IsUnvisited m listed' steps' ⊎ IsNodeKept graph table' nodes' m
      by (inl unvisited) = inl (leaves m tt unvisited)
      by (inr kept) = inr (subst (λ l. IsNodeKept graph table' l m) (sym keeps) (kept_on graph table table' nodes m stay stand kept))

  -- so once a step is taken
  pub step_kept : (step : Step) → IsUnderWay graph table numbers listed (steps ++ step ∷ []) holders None
      → KeepsAt step numbers nodes nodes' → LeavesUnvisited step listed steps listed' steps'
      → AreKeptOrLeft graph table listed (steps ++ step ∷ []) nodes → AreKeptOrLeft graph table' listed' steps' nodes'
  step_kept (Visit n root) walk keeps leaves before = visit_kept n root walk keeps leaves before
  step_kept (Restore v number) walk keeps leaves before = restore_kept v number keeps leaves before

-- and where no step is left, the terms of all nodes are kept
pub all_kept : (graph : GraphShape) → IsGraph graph.vars graph.received graph.nodes → (table : List TermKey)
    (numbers : List (Option ℕ)) (listed : List Bool) (holders : List (Option ℕ)) (nodes : List TermsAt)
    → IsUnderWay graph table numbers listed [] holders None → length nodes ≡ length graph.nodes
    → AreKeptOrLeft graph table listed [] nodes → AreTermsOfAll graph table nodes
all_kept graph is_graph table numbers listed holders nodes walk long kept = λ n at there. by n at there (kept n)
  where
    by : (n : ℕ) (at : TermsAt) → slice_get nodes n ≡ Some at → IsUnvisited n listed [] ⊎ IsNodeKept graph table nodes n
        → AreTermsBefore graph n at.root table at.numbers.items
    by n at there (inr known) = known at there
    by n at there (inl unvisited) = absurd (none_left n listed unvisited (all_listed graph is_graph table numbers listed holders walk n (subst (λ k. n < k) long (slice_get_within nodes n at there))))
