-- The calls of leaves among the first nodes, and how one node is told to be one.
use Rattle.std.proofs.Common.{◌≡◌, ℕ, ◌≤◌, List, [], ◌∷◌, length, slice_get, Option, Some, None, refl, sym, ap, ◌∙◌, arith}
use Rattle.std.proofs.lemmas.Option.{slice_get_within}
use Rattle.mir_base.specs.declared.instructions.Operand.{Operand}
use Rattle.flow_graph.specs.declared.nodes.Node.{Node}
use Rattle.flow_graph.specs.declared.nodes.Node.TheVariants.{Start, Skip, Assign, Print, Guard, Call, Test, Return}
use Rattle.flow_graph.specs.Graphs.{GraphShape}
use Rattle.unit_join.specs.Joins.{AreLeafCalls, IsLeafCall, if_leaf, leaf_at, leaf_called}
use Rattle.flow_graph.specs.MemberLaws.{AreFoundBelow}

-- all of them
pub found_all : (leaves : List (Option GraphShape)) (nodes : List Node) (n : ℕ) (calls : List ℕ) → AreFoundBelow (IsLeafCall leaves nodes) n calls → length nodes ≤ n → AreLeafCalls leaves nodes calls
found_all leaves nodes n calls f late = record {
  ordered = f.ordered;
  are = λ m there. (f.are m there).1;
  all = λ m has. let within = slice_get_within nodes m (Call has.into has.unit has.operands has.next) has.is in f.all m (omega (arith, within, late)) has;
}

-- ---- one node

-- a call of a leaf is told
call_told : (leaves : List (Option GraphShape)) (node : Node) (unit : ℕ) → unit ∷ [] ≡ leaf_called leaves node → (into : Option ℕ) × (operands : List Operand) × (next : ℕ) × (leaf : GraphShape) × (node ≡ Call into unit operands next) × (leaf_at leaves unit ≡ Some leaf)
call_told leaves (Start next) unit e = cc
call_told leaves (Skip next) unit e = cc
call_told leaves (Assign x rhs next) unit e = cc
call_told leaves (Print a next) unit e = cc
call_told leaves (Guard test number next) unit e = cc
call_told leaves (Call into called operands next) unit e = go (leaf_at leaves called) refl e
  where
    go : (o : Option GraphShape) → leaf_at leaves called ≡ o → unit ∷ [] ≡ if_leaf called o → (i : Option ℕ) × (os : List Operand) × (s : ℕ) × (leaf : GraphShape) × (Call into called operands next ≡ Call i unit os s) × (leaf_at leaves unit ≡ Some leaf)
    go None is f = cc
    go (Some leaf) is f = let same : unit ≡ called = cc in (into, operands, next, leaf, ap (λ u. Call into u operands next) (sym same), ap (leaf_at leaves) same ∙ is)
call_told leaves (Test test taken other) unit e = cc
call_told leaves (Return a) unit e = cc

-- so a node that is told to call a leaf does
pub calls_one : (leaves : List (Option GraphShape)) (nodes : List Node) (n : ℕ) (node : Node) (unit : ℕ) → slice_get nodes n ≡ Some node → unit ∷ [] ≡ leaf_called leaves node → IsLeafCall leaves nodes n
calls_one leaves nodes n node unit here told =
    let c = call_told leaves node unit told in
    record { into = c.0; unit = unit; operands = c.1; next = c.2; leaf = c.3; is = here ∙ ap Some c.4; leaf_is = c.5 }

-- and any other does not
pub calls_no : (leaves : List (Option GraphShape)) (nodes : List Node) (n : ℕ) (node : Node) → slice_get nodes n ≡ Some node → [] ≡ leaf_called leaves node → IsLeafCall leaves nodes n → ⊥
calls_no leaves nodes n node here told c =
    let both : Some node ≡ Some (Call c.into c.unit c.operands c.next) = sym here ∙ c.is in
    let same : node ≡ Call c.into c.unit c.operands c.next = cc in
    let e : [] ≡ c.unit ∷ [] = told ∙ ap (leaf_called leaves) same ∙ ap (if_leaf c.unit) c.leaf_is in
    none e
  where
    none : {unit : ℕ} → [] ≡ unit ∷ [] → ⊥
    none f = cc
