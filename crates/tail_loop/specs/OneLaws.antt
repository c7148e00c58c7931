-- A graph has one result of `tail`, and a program one program of its units through a pass that has one result. For
-- proofs only, those of unit_join too.
use Rattle.std.proofs.Common.{◌≡◌, ◌<◌, ◌⊎◌, inl, inr, ℕ, zero, suc, List, [], ◌∷◌, ◌++◌, length, slice_get, Some, refl, sym, ap, ◌∙◌, subst, arith}
use Rattle.std.proofs.lemmas.Option.{slice_get_within}
use Rattle.mir_base.specs.declared.instructions.Operand.{Operand}
use Rattle.mir_base.specs.Shapes.{ProgramShape, UnitShape}
use Rattle.flow_graph.specs.declared.nodes.Node.{Node}
use Rattle.flow_graph.specs.declared.nodes.Node.TheVariants.{Call}
use Rattle.flow_graph.specs.Graphs.{GraphShape}
use Rattle.flow_graph.specs.Retained.{IsMade}
use Rattle.flow_graph.specs.Layouts.{IsLayout}
use Rattle.flow_graph.specs.ListLaws.{ascending_same, cons_same, some_at}
use Rattle.flow_graph.specs.Numbering.{IsIn}
use Rattle.flow_graph.specs.OneLaws.{layout_is_one, lowered_is_one, made_is_one}
use Rattle.flow_graph.specs.Plans.{start_succ}
use Rattle.fresh_names.specs.FreshNames.{AreTemporaryNames}
use Rattle.fresh_names.specs.FreshNameLaws.{names_are_one}
use Rattle.jump_clean.specs.Cleaned.{IsClean}
use Rattle.jump_clean.specs.CleanLaws.{clean_is_one}
use Rattle.program_pass.specs.Chains.{stood}
use Rattle.program_pass.specs.PassPrograms.{AllPassed, IsPassedProgram, IsPassedUnit, PassRelation, UnitPassed}
use Rattle.tail_loop.specs.Tails.{AreLooped, AreTailCalls, IsTailed, Tailed, loop_assignments, temporaries}
use Rattle.flow_graph.specs.MemberLaws.{members_same}

-- ---- one graph

-- a graph has one list of self tail calls
tail_calls_one : (shared : ℕ) (nodes : List Node) (unit : ℕ) (a b : List ℕ) → AreTailCalls shared nodes unit a → AreTailCalls shared nodes unit b → a ≡ b
tail_calls_one shared nodes unit a b p q = members_same a b p.ordered q.ordered (λ n is. q.all n (p.are n is)) (λ n is. p.all n (q.are n is))

-- these become one list of loops, since a node has one list of arguments
looped_one : (graph : GraphShape) (unit : ℕ) (calls : List ℕ) (nodes a b : List Node)
    → AreLooped graph unit calls nodes a → AreLooped graph unit calls nodes b → a ≡ b
looped_one graph unit [] nodes a b p q = p ∙ sym q
looped_one graph unit (n ∷ calls) nodes a b p q =
    let both : Some (Call (Some p.1.into) unit p.0 p.1.next) ≡ Some (Call (Some q.1.into) unit q.0 q.1.next) = sym p.1.is ∙ q.1.is in
    let same : p.0 ≡ q.0 = cc in
    looped_one graph unit calls (after q.0) a b (subst (λ operands. AreLooped graph unit calls (after operands) a) same p.2) q.2
  where
    after : List Operand → List Node
    after operands = stood nodes n (loop_assignments graph.shared (length graph.vars) graph.received operands) (start_succ (slice_get graph.nodes 0))

-- so a graph has one result
pub tailed_one : (unit : ℕ) (graph a b : GraphShape) → Tailed unit graph a → Tailed unit graph b → a ≡ b
tailed_one unit graph a b p q =
    let calls : p.calls ≡ q.calls = tail_calls_one graph.shared graph.nodes unit p.calls q.calls p.are_calls q.are_calls in
    let names : p.names ≡ q.names = names_are_one graph.vars (temporaries graph p.calls) p.names q.names p.are_names (subst (λ c. AreTemporaryNames graph.vars (temporaries graph c) q.names) (sym calls) q.are_names) in
    let nodes : p.nodes ≡ q.nodes = looped_one graph unit p.calls graph.nodes p.nodes q.nodes p.are_looped (subst (λ c. AreLooped graph unit c graph.nodes q.nodes) (sym calls) q.are_looped) in
    made_is_one graph.name graph.shared (graph.vars ++ p.names) graph.received p.nodes a b p.made
    (subst (λ l. IsMade graph.name graph.shared (graph.vars ++ p.names) graph.received l b) (sym nodes) (subst (λ l. IsMade graph.name graph.shared (graph.vars ++ l) graph.received q.nodes b) (sym names) q.made))
