-- Laws of the nodes where some assignments are removed: there are as many, with the same full paths. For proofs only,
-- those of sink_rounds too.
use Rattle.std.proofs.Common.{◌≡◌, ℕ, suc, Bool, true, false, List, [], ◌∷◌, length, slice_get, Option, Some, None, option_map, refl, ap, ◌∙◌, arith}
use Rattle.flow_graph.specs.declared.nodes.Node.{Node}
use Rattle.flow_graph.specs.declared.nodes.Node.TheVariants.{Start, Skip, Assign, Print, Guard, Call, Test, Return}
use Rattle.flow_graph.specs.Graphs.{succs_at}
use Rattle.flow_graph.specs.Paths.{IsFullPath, IsPath, is_return}
use Rattle.graph_edit.specs.Insertions.{changed}
use Rattle.dead_code.specs.Pruned.{pruned_from, removed_if}

-- there are as many nodes as before
pub pruned_length : (dead : ℕ → Bool) (k : ℕ) (nodes : List Node) → length (pruned_from dead k nodes) ≡ length nodes
pruned_length dead k [] = refl
pruned_length dead k (node ∷ nodes) = ap suc (pruned_length dead (suc k) nodes)

-- a node stays a Return, removed or not
pub return_stays : (gone : Bool) (o : Option Node) → is_return (option_map (changed (removed_if gone)) o) ≡ is_return o
return_stays gone None = refl
return_stays gone (Some (Start next)) = refl
return_stays gone (Some (Skip next)) = refl
return_stays true (Some (Assign x rhs next)) = refl
return_stays false (Some (Assign x rhs next)) = refl
return_stays gone (Some (Print a next)) = refl
return_stays gone (Some (Guard test number next)) = refl
return_stays gone (Some (Call into unit operands next)) = refl
return_stays gone (Some (Test test taken other)) = refl
return_stays gone (Some (Return a)) = refl

-- a path of these nodes is one of those, where these are as many and have the same successors
path_by : (these those : List Node) → length these ≡ length those
    → ((n : ℕ) → succs_at those n ≡ succs_at these n) → (path : List ℕ) → IsPath these path
    → IsPath those path
path_by these those many succs [] is = absurd is
path_by these those many succs (n ∷ []) is = omega (arith, is, many)
path_by these those many succs (m ∷ n ∷ path) is = ((is.0.0, ap (λ l. slice_get l is.0.0) (succs m) ∙ is.0.1), path_by these those many succs (n ∷ path) is.1)

-- and a full path is a full one, where besides the same of them are Returns
pub full_by : (these those : List Node) → length these ≡ length those
    → ((n : ℕ) → succs_at those n ≡ succs_at these n)
    → ((n : ℕ) → is_return (slice_get those n) ≡ is_return (slice_get these n)) → (path : List ℕ)
    → IsFullPath these path → IsFullPath those path
full_by these those many succs returns path full = record {
  is_path = path_by these those many succs path full.is_path;
  begins = full.begins;
  last = full.last;
  ends = full.ends;
  returns = returns full.last ∙ full.returns;
}
