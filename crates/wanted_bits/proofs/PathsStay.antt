-- The paths of a graph stay where it is narrowed, and on none of them are more operators evaluated.
use Rattle.std.proofs.Common.{◌≡◌, ℕ, ◌≤◌, Bool, true, false, if◌then◌else◌, List, [], ◌∷◌, length, slice_get, Option, Some, None, option_map, refl, sym, ap, ◌∙◌, arith, le_refl}
use Rattle.mir_base.specs.declared.instructions.Rhs.{Rhs}
use Rattle.mir_base.specs.Expressions.{rhs_count}
use Rattle.flow_graph.specs.declared.nodes.Node.{Node}
use Rattle.flow_graph.specs.declared.nodes.Node.TheVariants.{Start, Skip, Assign, Print, Guard, Call, Test, Return}
use Rattle.flow_graph.specs.Graphs.{GraphShape, succs_at}
use Rattle.flow_graph.specs.Paths.{IsFullPath, IsPath, is_return}
use Rattle.graph_edit.specs.Over.{weigh}
use Rattle.wanted_bits.specs.declared.picking.Shift.{Shift}
use Rattle.wanted_bits.specs.Narrowed.{AreNarrowed, goes, narrowed_node, narrowed_rhs}
use Rattle.wanted_bits.specs.NarrowedPaths.{KeepsPaths, evaluated_on}
use Rattle.wanted_bits.specs.NarrowedValues.{narrowed_count}
use Rattle.wanted_bits.specs.Wanted.{Asked}
use Rattle.wanted_bits.proofs.Shapes.{narrowed_length, narrowed_succs}

-- ---- paths

-- a path of these nodes is one of those, where these are as many and have the same successors
path_by : (these those : List Node) → length these ≡ length those → ((n : ℕ) → succs_at those n ≡ succs_at these n) → (path : List ℕ) → IsPath these path → IsPath those path
path_by these those many succs [] is = absurd is
path_by these those many succs (n ∷ []) is = omega (arith, is, many)
path_by these those many succs (m ∷ n ∷ path) is = ((is.0.0, ap (λ l. slice_get l is.0.0) (succs m) ∙ is.0.1), path_by these those many succs (n ∷ path) is.1)

-- and a full path is a full one, where besides the same of them are Returns
full_by : (these those : List Node) → length these ≡ length those → ((n : ℕ) → succs_at those n ≡ succs_at these n) → ((n : ℕ) → is_return (slice_get those n) ≡ is_return (slice_get these n)) → (path : List ℕ) → IsFullPath these path → IsFullPath those path
full_by these those many succs returns path full = record {
  is_path = path_by these those many succs path full.is_path;
  begins = full.begins;
  last = full.last;
  ends = full.ends;
  returns = returns full.last ∙ full.returns;
}

-- ---- nodes

-- an assignment becomes no Return
chosen_return : (gone : Bool) (x : ℕ) (rhs : Rhs) (next : ℕ) → is_return (Some (if gone then Skip next else Assign x rhs next)) ≡ false
chosen_return true x rhs next = refl
chosen_return false x rhs next = refl

-- and evaluates no more operators
chosen_count : (gone : Bool) (x k : ℕ) (rhs : Rhs) (next : ℕ) → rhs_count rhs ≤ k → weigh (λ y t. rhs_count t) (Some (if gone then Skip next else Assign x rhs next)) ≤ k
chosen_count true x k rhs next le = omega arith
chosen_count false x k rhs next le = le

module _ (asked : Asked) (shifts : ℕ → Option Shift) (wanted : ℕ → ℕ → ℕ) where
  -- a node is a Return as before
  stays_return : (o : Option Node) → is_return (option_map (narrowed_node asked shifts wanted) o) ≡ is_return o
  stays_return None = refl
  stays_return (Some (Start next)) = refl
  stays_return (Some (Skip next)) = refl
  stays_return (Some (Assign x rhs next)) = chosen_return (goes x rhs (narrowed_rhs shifts rhs (wanted next x)) (wanted next x)) x (narrowed_rhs shifts rhs (wanted next x)) next
  stays_return (Some (Print a next)) = refl
  stays_return (Some (Guard test number next)) = refl
  stays_return (Some (Call into unit operands next)) = refl
  stays_return (Some (Test test taken other)) = refl
  stays_return (Some (Return a)) = refl

  -- it evaluates no more operators
  counts_less : (o : Option Node) → weigh (λ x rhs. rhs_count rhs) (option_map (narrowed_node asked shifts wanted) o) ≤ weigh (λ x rhs. rhs_count rhs) o
  counts_less None = le_refl 0
  counts_less (Some (Start next)) = le_refl 0
  counts_less (Some (Skip next)) = le_refl 0
  counts_less (Some (Assign x rhs next)) =
      chosen_count (goes x rhs (narrowed_rhs shifts rhs (wanted next x)) (wanted next x)) x (rhs_count rhs) (narrowed_rhs shifts rhs (wanted next x)) next (narrowed_count shifts rhs (wanted next x))
  counts_less (Some (Print a next)) = le_refl 0
  counts_less (Some (Guard test number next)) = le_refl 0
  counts_less (Some (Call into unit operands next)) = le_refl 0
  counts_less (Some (Test test taken other)) = le_refl 0
  counts_less (Some (Return a)) = le_refl 0

-- ---- the graph

module _ (asked : Asked) (graph : GraphShape) (nodes : List Node) (are : AreNarrowed asked graph nodes) where
  -- the same nodes are Returns
  returns_same : (n : ℕ) → is_return (slice_get nodes n) ≡ is_return (slice_get graph.nodes n)
  returns_same n = ap is_return (are.nodes_are n) ∙ stays_return asked (are.shifts n) are.wanted (slice_get graph.nodes n)

  -- on no path are more operators evaluated
  evaluates_less : (path : List ℕ) → evaluated_on nodes path ≤ evaluated_on graph.nodes path
  evaluates_less [] = le_refl 0
  evaluates_less (n ∷ path) =
      let same = ap (weigh (λ x rhs. rhs_count rhs)) (are.nodes_are n) in
      omega (arith, same, counts_less asked (are.shifts n) are.wanted (slice_get graph.nodes n), evaluates_less path)

-- so the narrowed graph keeps its paths
pub paths_keep : (asked : Asked) (graph narrowed : GraphShape) → AreNarrowed asked graph narrowed.nodes → KeepsPaths graph narrowed
paths_keep asked graph narrowed are =
    let long = narrowed_length asked graph narrowed.nodes are in
    let succs = narrowed_succs asked graph narrowed.nodes are in
    let returns = returns_same asked graph narrowed.nodes are in
    record {
      full = λ path. (
        full_by graph.nodes narrowed.nodes (sym long) succs returns path,
        full_by narrowed.nodes graph.nodes long (λ n. sym (succs n)) (λ n. sym (returns n)) path,
      );
      fewer = evaluates_less asked graph narrowed.nodes are;
    }
