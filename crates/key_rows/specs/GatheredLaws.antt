-- Laws of the keys of nodes that are taken into a list. For proofs only, here and above.
use Rattle.std.proofs.Common.{◌≡◌, ℕ, ◌+◌, ◌<◌, List, [], ◌∷◌, ◌++◌, get_or, length, take, Option, refl, sym, ap, ◌∙◌, subst, None, Some}
use Rattle.std.proofs.lemmas.List.{take_more}
use Rattle.flow_graph.specs.declared.nodes.Node.{Node}
use Rattle.mir_base.specs.Shapes.{AllDiffer}
use Rattle.key_table.specs.Keys.{IsWithSome}
use Rattle.key_rows.specs.Gathered.{TakesKeys}
use Rattle.key_table.specs.KeyLaws.{put_differs}

module _ {K : Type 0} (key_of : Node → Option K) where
  -- one node more at the end
  takes_last : (nodes : List Node) (node : Node) (old keys new : List K) → TakesKeys key_of nodes old keys
      → IsWithSome keys (key_of node) new → TakesKeys key_of (nodes ++ node ∷ []) old new
  takes_last [] node old keys new same put = (new, subst (λ l. IsWithSome l (key_of node) new) same put, refl)
  takes_last (first ∷ nodes) node old keys new taken put = (taken.0, taken.1, takes_last nodes node taken.0 keys new taken.2 put)

  -- the keys of the first nodes, and of one more
  pub takes_more : (nodes : List Node) (i : ℕ) (node : Node) (found : Option K) (old keys new : List K)
      → i < length nodes → node ≡ get_or nodes i node → found ≡ key_of node
      → IsWithSome keys found new → TakesKeys key_of (take i nodes) old keys → TakesKeys key_of (take (i + 1) nodes) old new
  takes_more nodes i node found old keys new i_in is f put taken =
      subst (λ l. TakesKeys key_of l old new) (sym (take_more nodes i node i_in ∙ ap (λ n. take i nodes ++ n ∷ []) (sym is)))
      (takes_last (take i nodes) node old keys new taken (subst (λ o. IsWithSome keys o new) f put))

  -- distinct keys stay distinct
  pub takes_differ : (nodes : List Node) (old new : List K) → TakesKeys key_of nodes old new → AllDiffer old → AllDiffer new
  takes_differ [] old new same differ = subst AllDiffer (sym same) differ
  takes_differ (node ∷ nodes) old new taken differ = takes_differ nodes taken.0 new taken.2 (one (key_of node) taken.1)
    where
      one : (found : Option K) → IsWithSome old found taken.0 → AllDiffer taken.0
      one None put = subst AllDiffer (sym put) differ
      one (Some key) put = put_differs old key taken.0 put differ
