-- The self tail calls among the first nodes, and how one node is told to be one.
use Rattle.std.proofs.Common.{◌≡◌, ◌⊎◌, inl, inr, ℕ, zero, suc, ◌+◌, ◌<◌, ◌≤◌, ◌↔◌, Bool, true, false, if◌then◌else◌, nat_eq, nat_lt, List, [], ◌∷◌, ◌++◌, length, slice_get, Option, Some, None, refl, sym, ap, ◌∙◌, subst, arith}
use Rattle.std.proofs.lemmas.Bool.{eq-eqb, eqb-true, le-ltb, ltb-false}
use Rattle.std.proofs.lemmas.Option.{slice_get_within}
use Rattle.mir_base.specs.declared.instructions.Operand.{Operand}
use Rattle.mir_base.specs.declared.instructions.Operand.TheVariants.{Var, Const}
use Rattle.flow_graph.specs.declared.nodes.Node.{Node}
use Rattle.flow_graph.specs.declared.nodes.Node.TheVariants.{Start, Skip, Assign, Print, Guard, Call, Test, Return}
use Rattle.flow_graph.specs.Graphs.{AllWithin, succs_of}
use Rattle.flow_graph.specs.ListLaws.{get_push, some_at}
use Rattle.flow_graph.specs.Numbering.{IsIn}
use Rattle.jump_clean.specs.Chains.{IsEnd, Skips, SkipsTo}
use Rattle.jump_clean.specs.ChainLaws.{one_leads_on}
use Rattle.tail_loop.specs.declared.calls.Answered.{Answered}
use Rattle.tail_loop.specs.Answered.{answered_at, answered_call, returned_at, returned_var}
use Rattle.tail_loop.specs.Tails.{AreTailCalls, HasTailCall, ReturnsNext}
use Rattle.flow_graph.specs.MemberLaws.{AreFoundBelow}

-- all of them
pub found_all : (shared : ℕ) (nodes : List Node) (unit n : ℕ) (calls : List ℕ) → AreFoundBelow (HasTailCall shared nodes unit) n calls → length nodes ≤ n → AreTailCalls shared nodes unit calls
found_all shared nodes unit n calls f late = record {
  ordered = f.ordered;
  are = λ m there. (f.are m there).1;
  all = λ m has. let within = slice_get_within nodes m (Call (Some has.1.into) unit has.0 has.1.next) has.1.is in f.all m (omega (arith, within, late)) has;
}

-- ---- one node

-- a call of the unit whose answer goes to a variable that is no global
answered_is : (shared unit : ℕ) (node : Node) (a : Answered) → answered_call shared unit node ≡ Some a → (operands : List Operand) × (node ≡ Call (Some a.into) unit operands a.next) × (shared ≤ a.into)
answered_is shared unit (Start next) a e = cc
answered_is shared unit (Skip next) a e = cc
answered_is shared unit (Assign x rhs next) a e = cc
answered_is shared unit (Print b next) a e = cc
answered_is shared unit (Guard test number next) a e = cc
answered_is shared unit (Call None called operands next) a e = cc
answered_is shared unit (Call (Some x) called operands next) a e = go (nat_eq called unit) refl (nat_lt x shared) refl e
  where
    go : (t : Bool) → nat_eq called unit ≡ t → (g : Bool) → nat_lt x shared ≡ g → (if t then (if g then None else Some (record { into = x; next = next })) else None) ≡ Some a
        → (others : List Operand) × (Call (Some x) called operands next ≡ Call (Some a.into) unit others a.next) × (shared ≤ a.into)
    go true is true low f = cc
    go true is false low f =
        let same : called ≡ unit = eqb-true called unit is in
        let all : record { into = x; next = next } ≡ a = cc in (
          operands,
          ap (λ u. Call (Some x) u operands next) same ∙ ap (λ (b : Answered). Call (Some b.into) unit operands b.next) all,
          subst (λ (b : Answered). shared ≤ b.into) all (ltb-false x shared low),
        )
    go false is g low f = cc
answered_is shared unit (Test test taken other) a e = cc
answered_is shared unit (Return b) a e = cc

-- each such call is told
is_answered : (shared unit x next : ℕ) (operands : List Operand) → shared ≤ x → answered_call shared unit (Call (Some x) unit operands next) ≡ Some (record { into = x; next = next })
is_answered shared unit x next operands own =
    ap (λ t. if t then (if nat_lt x shared then None else Some (record { into = x; next = next })) else None) (eq-eqb unit unit refl)
    ∙ ap (λ g. if g then None else Some (record { into = x; next = next })) (le-ltb x shared own)

-- nothing is something
none_is_some : (a : Answered) → None ≡ Some a → ⊥
none_is_some a e = cc

-- where it is none of these, it is no self tail call
pub no_tail_call : (shared : ℕ) (nodes : List Node) (unit n : ℕ) (node : Node) → slice_get nodes n ≡ Some node → answered_call shared unit node ≡ None → HasTailCall shared nodes unit n → ⊥
no_tail_call shared nodes unit n node here none has =
    let both : Some node ≡ Some (Call (Some has.1.into) unit has.0 has.1.next) = sym here ∙ has.1.is in
    let same : node ≡ Call (Some has.1.into) unit has.0 has.1.next = cc in
    let e : None ≡ Some (record { into = has.1.into; next = has.1.next }) = sym none ∙ ap (answered_call shared unit) same ∙ is_answered shared unit has.1.into has.1.next has.0 has.1.own in
    none_is_some (record { into = has.1.into; next = has.1.next }) e

-- where it is, it is one exactly if its answer is returned next
pub tail_call_where : (shared : ℕ) (nodes : List Node) (unit n : ℕ) (node : Node) (a : Answered) → slice_get nodes n ≡ Some node → answered_call shared unit node ≡ Some a → ReturnsNext nodes a.next a.into ↔ HasTailCall shared nodes unit n
tail_call_where shared nodes unit n node a here answered =
    let is = answered_is shared unit node a answered in (
      λ returned. (is.0, record { into = a.into; next = a.next; is = here ∙ ap Some is.1; own = is.2; returned = returned }),
      λ has.
          let both : Some (Call (Some a.into) unit is.0 a.next) ≡ Some (Call (Some has.1.into) unit has.0 has.1.next) = ap Some (sym is.1) ∙ sym here ∙ has.1.is in
          let same : answered_call shared unit (Call (Some a.into) unit is.0 a.next) ≡ answered_call shared unit (Call (Some has.1.into) unit has.0 has.1.next) = let one : Call (Some a.into) unit is.0 a.next ≡ Call (Some has.1.into) unit has.0 has.1.next = cc in ap (answered_call shared unit) one in
          let pairs : Some (record { into = a.into; next = a.next }) ≡ Some (record { into = has.1.into; next = has.1.next }) = sym (is_answered shared unit a.into a.next is.0 is.2) ∙ same ∙ is_answered shared unit has.1.into has.1.next has.0 has.1.own in
          let all : a ≡ record { into = has.1.into; next = has.1.next } = cc in
          subst (λ (b : Answered). ReturnsNext nodes b.next b.into) (sym all) has.1.returned,
    )

-- ---- the end of a chain

-- a node that returns is the end of each chain that comes to it
pub end_returns : (nodes : List Node) (n e there x : ℕ) → IsEnd nodes n e → SkipsTo nodes n there → slice_get nodes there ≡ Some (Return (Var x)) → there ≡ e
end_returns nodes n e there x is skips returns = elim (one_leads_on nodes n there e skips is.leads) [
  | inl on ↦ stays on.count on.skips
  | inr back ↦ let on = is.ends.back there back in stays on.count on.skips
]
  where
    stays : (count : ℕ) → Skips nodes count there e → there ≡ e
    stays zero s = s
    stays (suc count) s = let both : Some (Return (Var x)) ≡ Some (Skip s.0) = sym returns ∙ s.1 in cc

-- the variable that a node returns
returned_is : (node : Node) (x : ℕ) → returned_var node ≡ Some x → node ≡ Return (Var x)
returned_is (Start next) x e = cc
returned_is (Skip next) x e = cc
returned_is (Assign y rhs next) x e = cc
returned_is (Print b next) x e = cc
returned_is (Guard test number next) x e = cc
returned_is (Call into called operands next) x e = cc
returned_is (Test test taken other) x e = cc
returned_is (Return (Var y)) x e = let same : y ≡ x = cc in ap (λ z. Return (Var z)) same
returned_is (Return (Const c)) x e = cc

-- Skips lead to a Return of the variable exactly where the end of the chain is one
pub returns_where : (nodes : List Node) (n e x : ℕ) (node : Node) (found : Option ℕ) → IsEnd nodes n e → slice_get nodes e ≡ Some node → returned_var node ≡ found → (found ≡ Some x) ↔ ReturnsNext nodes n x
returns_where nodes n e x node found is here told = (
  λ same. record { there = e; skips = is.leads; returns = here ∙ ap Some (returned_is node x (told ∙ same)) },
  λ r.
      let at = end_returns nodes n e r.there x is r.skips r.returns in
      let both : Some node ≡ Some (Return (Var x)) = sym here ∙ ap (slice_get nodes) (sym at) ∙ r.returns in
      let one : node ≡ Return (Var x) = cc in
      sym told ∙ ap returned_var one,
)

-- Skips do not lead out of a graph
skips_within : (nodes : List Node) → AllWithin nodes → (k n m : ℕ) → n < length nodes → Skips nodes k n m → m < length nodes
skips_within nodes within zero n m lt s = subst (λ i. i < length nodes) s lt
skips_within nodes within (suc k) n m lt s = skips_within nodes within k s.0 m (within n 0 s.0 (ap (λ o. slice_get (succs_of o) 0) s.1)) s.2

-- nor does a chain end outside
pub end_within : (nodes : List Node) → AllWithin nodes → (n e : ℕ) → n < length nodes → IsEnd nodes n e → e < length nodes
end_within nodes within n e lt is = skips_within nodes within is.leads.count n e lt is.leads.skips

-- ---- as the code tells it

-- the answer of `returns_next`: by the end of the chain
pub returns_told : (nodes : List Node) (n e x : ℕ) (found : Option ℕ) → e < length nodes → IsEnd nodes n e → found ≡ returned_at (slice_get nodes e) → (found ≡ Some x) ↔ ReturnsNext nodes n x
returns_told nodes n e x found lt is told =
    let node = some_at nodes e lt in
    returns_where nodes n e x node.0 found is node.1 (sym (told ∙ ap returned_at node.1))

-- that of `is_tail_call`
pub none_told : (shared : ℕ) (nodes : List Node) (unit n : ℕ) → n < length nodes → None ≡ answered_at shared unit (slice_get nodes n) → HasTailCall shared nodes unit n → ⊥
none_told shared nodes unit n lt told = let node = some_at nodes n lt in no_tail_call shared nodes unit n node.0 node.1 (sym (told ∙ ap (answered_at shared unit) node.1))

-- and where it is a call of the unit
pub call_told : (shared : ℕ) (nodes : List Node) (unit n : ℕ) (a : Answered) → n < length nodes → Some a ≡ answered_at shared unit (slice_get nodes n) → ReturnsNext nodes a.next a.into ↔ HasTailCall shared nodes unit n
call_told shared nodes unit n a lt told = let node = some_at nodes n lt in tail_call_where shared nodes unit n node.0 a node.1 (sym (told ∙ ap (answered_at shared unit) node.1))

-- its successor is a node
pub call_next : (shared : ℕ) (nodes : List Node) (unit n : ℕ) (a : Answered) → AllWithin nodes → n < length nodes → Some a ≡ answered_at shared unit (slice_get nodes n) → a.next < length nodes
call_next shared nodes unit n a within lt told =
    let node = some_at nodes n lt in
    let is = answered_is shared unit node.0 a (sym (told ∙ ap (answered_at shared unit) node.1)) in
    within n 0 a.next (ap (λ o. slice_get (succs_of o) 0) (node.1 ∙ ap Some is.1))
