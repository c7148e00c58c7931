-- What numbers of terms say: of roots, of the table, and of the values in runs.
use Rattle.std.proofs.Common.{◌≡◌, ℕ, List, slice_get, Option, None, Some, subst}
use Rattle.std.proofs.lemmas.Option.{get_or_from_slice_get, slice_get_within}
use Rattle.mir_base.specs.Shapes.{AllDiffer}
use Rattle.flow_graph.specs.Graphs.{GraphShape}
use Rattle.value_number.specs.declared.terms.TermKey.{TermKey}
use Rattle.value_number.specs.NodeTerms.{AreTermsBefore, IsOnlyRoot, StandOneToOne}
use Rattle.value_number.specs.OneValue.{NumbersHold}
use Rattle.value_number.specs.RootLaws.{one_way}
use Rattle.value_number.specs.Roots.{terms_before}
use Rattle.value_number.specs.Table.{RepresentsAt, Stands}
use Rattle.value_number.proofs.Lockstep.{one_value}
use Rattle.value_number.proofs.Stands.{one_number, one_term}

-- in a table of distinct entries a number is that of one term, which has no other
pub one_to_one : (table : List TermKey) → AllDiffer table → StandOneToOne table
one_to_one table differ = record { term = λ n t u p q. one_term table t u n p q; number = λ t n m p q. one_number table differ t n m p q }

module _ (graph : GraphShape) (n root : ℕ) (table : List TermKey) (numbers : List (Option ℕ)) (are : AreTermsBefore graph n root table numbers) where
  -- a node has one way from a root, so one root
  pub only_root : IsOnlyRoot graph.nodes n root
  only_root = λ other before path. (one_way graph.nodes n other root before are.before path are.path).0

  -- one number stands for one term, and variables with one term have one value
  pub numbers_hold : NumbersHold graph n numbers
  numbers_hold = λ x y k at at'.
      let terms = terms_before graph.shared graph.nodes root are.before in
      let stands : (v : ℕ) → slice_get numbers v ≡ Some (Some k) → Stands table k (terms v) = λ v here.
      let within = slice_get_within numbers v (Some k) here in
      let kept = get_or_from_slice_get numbers v (Some k) None here in
      subst (λ o. RepresentsAt table root v o (terms v)) kept (are.represent.each v within) in
      one_value graph.shared graph.received graph.nodes n root are.before are.path x y (one_term table (terms x) (terms y) k (stands x at) (stands y at'))
