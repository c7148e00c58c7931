-- A list of nodes of which every one is reached is retained as it is.
use Rattle.std.proofs.Common.{◌≡◌, ℕ, zero, suc, ◌<◌, true, List, [], ◌∷◌, length, map, slice_get, Some, refl, ap, ◌∙◌, arith}
use Rattle.flow_graph.specs.declared.nodes.Node.{Node}
use Rattle.flow_graph.specs.Graphs.{AllWithin, Reached, SuccsBelow}
use Rattle.flow_graph.specs.declared.nodes.Node.TheVariants.{Start, Skip, Assign, Print, Guard, Call, Test, Return}
use Rattle.flow_graph.specs.Retained.{AreAllSet, AreRetained, marked, marked_below, redirected, retained_nodes}
use Rattle.std.specs.Prelude.{Bool, false}
use Rattle.flow_graph.specs.BoundLaws.{succs_below}

-- where all items are marked, the marked ones are the list
all_marked : {A : Type 0} (marks : List Bool) (xs : List A) → length marks ≡ length xs → ((n : ℕ) → n < length xs → slice_get marks n ≡ Some true) → marked marks xs ≡ xs
all_marked [] [] long all = refl
all_marked [] (x ∷ xs) long all = absurd (omega (arith, long))
all_marked (b ∷ marks) [] long all = absurd (omega (arith, long))
all_marked (true ∷ marks) (x ∷ xs) long all = ap (λ l. x ∷ l) (all_marked marks xs (omega (arith, long)) (λ n lt. all (suc n) (omega (arith, lt))))
all_marked (false ∷ marks) (x ∷ xs) long all = let first = all 0 (omega arith) in cc

-- and the new number of each is its old one
full_rank : (marks : List Bool) (n : ℕ) → ((k : ℕ) → k < length marks → slice_get marks k ≡ Some true) → n < length marks → marked_below marks n ≡ n
full_rank [] n all lt = absurd (omega (arith, lt))
full_rank (true ∷ marks) zero all lt = refl
full_rank (false ∷ marks) zero all lt = refl
full_rank (true ∷ marks) (suc n) all lt = ap suc (full_rank marks n (λ k h. all (suc k) (omega (arith, h))) (omega (arith, lt)))
full_rank (false ∷ marks) (suc n) all lt = let first = all 0 (omega arith) in cc

module _ (size : ℕ) (to : ℕ → ℕ) (same : (n : ℕ) → n < size → to n ≡ n) where
  unmoved : (node : Node) → SuccsBelow size node → redirected to node ≡ node
  unmoved (Start next) h = ap Start (same next h)
  unmoved (Skip next) h = ap Skip (same next h)
  unmoved (Assign x rhs next) h = ap (Assign x rhs) (same next h)
  unmoved (Print a next) h = ap (Print a) (same next h)
  unmoved (Guard test number next) h = ap (Guard test number) (same next h)
  unmoved (Call into unit operands next) h = ap (Call into unit operands) (same next h)
  unmoved (Test test taken other) h = ap (λ n. Test test n (to other)) (same taken h.0) ∙ ap (Test test taken) (same other h.1)
  unmoved (Return a) h = refl

  all_unmoved : (nodes : List Node) → ((n : ℕ) (node : Node) → slice_get nodes n ≡ Some node → SuccsBelow size node) → map (redirected to) nodes ≡ nodes
  all_unmoved [] below = refl
  all_unmoved (node ∷ nodes) below = ap (λ l. redirected to node ∷ l) (all_unmoved nodes (λ n. below (suc n))) ∙ ap (λ m. m ∷ nodes) (unmoved node (below 0 node refl))

-- where every node is marked, all nodes are retained, with their numbers
pub all_retained : (raw : List Node) (marks : List Bool) → AllWithin raw → length marks ≡ length raw → AreAllSet marks → retained_nodes marks raw ≡ raw
all_retained raw marks within long all =
    ap (map (redirected (marked_below marks))) (all_marked marks raw long (λ n lt. all n (omega (arith, lt, long))))
    ∙ all_unmoved (length raw) (marked_below marks) (λ n lt. full_rank marks n all (omega (arith, lt, long))) raw (λ n node here. succs_below raw n node within here)

-- so they are where every node is reached
pub whole_retained : (raw nodes : List Node) → AllWithin raw → AreRetained raw nodes → ((n : ℕ) → n < length raw → Reached raw n) → nodes ≡ raw
whole_retained raw nodes within retained reached =
    let long = retained.are_marks.long in
    retained.are ∙ all_retained raw retained.marks within long (λ n lt. let below : n < length raw = omega (arith, lt, long) in (retained.are_marks.exact n below).1 (reached n below))
