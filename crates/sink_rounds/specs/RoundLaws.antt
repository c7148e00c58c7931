-- Laws of rounds: a graph has one round and one list of rounds; each round keeps the graph; and what a loop knows that
-- has made some of them. For proofs only, those of mir_opt too.
use Rattle.std.proofs.Common.{◌≡◌, ◌⊎◌, ℕ, zero, suc, ◌≤◌, List, [], ◌∷◌, ◌++◌, length, map, inl, inr, refl, sym, ap, ◌∙◌, subst, arith}
use Rattle.std.specs.Prelude.{All}
use Rattle.std.proofs.lemmas.List.Elements.{All-cons, All-nil}
use Rattle.mir_base.specs.Shapes.{UnitShape}
use Rattle.flow_graph.specs.DividingLaws.{unchanged_trans}
use Rattle.flow_graph.specs.Edges.{IsSplit}
use Rattle.flow_graph.specs.Graphs.{AllWithin, GraphShape}
use Rattle.flow_graph.specs.Keeps.{AsGraph, KeepInTurn}
use Rattle.flow_graph.specs.KeepsLaws.{keeps_trans}
use Rattle.flow_graph.specs.Layouts.{IsLayout}
use Rattle.flow_graph.specs.ListLaws.{cons_same}
use Rattle.flow_graph.specs.OneLaws.{layout_is_one}
use Rattle.graph_edit.specs.NoMoreLaws.{no_more_trans}
use Rattle.dead_code.specs.Pruned.{IsPruned, KeepsHandedOn}
use Rattle.dead_code.specs.PrunedLaws.{handed_stays, pruned_is_one}
use Rattle.sink_rounds.specs.RoundGraphs.{AreRounds, AreRoundsFrom, HaveOneLayout, IsRound, KeepsGlobals, last_round}
use Rattle.sink_code.specs.RoundKept.{RoundKeeps}
use Rattle.sink_rounds.specs.RoundsKept.{RoundsKeep}
use Rattle.sink_code.specs.SunkLaws.{sunk_is_one}

-- ---- one result

-- a graph has one round
pub round_is_one : (graph a b : GraphShape) → IsRound graph a → IsRound graph b → a ≡ b
round_is_one graph a b p q =
    let same = sunk_is_one graph q.sunk p.sunk q.is_sunk p.is_sunk in
    pruned_is_one p.sunk a b p.is_pruned (subst (λ g. IsPruned g b) same q.is_pruned)

-- and so it has one list of rounds, once it is known how many there may be
rounds_from_are_one : (more : ℕ) (graph next next' : GraphShape) (rest rest' : List GraphShape)
    → AreRoundsFrom more graph next rest → AreRoundsFrom more graph next' rest'
    → next ∷ rest ≡ next' ∷ rest'
rounds_from_are_one more graph next next' [] [] p q = ap (λ (g : GraphShape). g ∷ []) (round_is_one graph next next' p.0 q.0)
rounds_from_are_one zero graph next next' [] (later ∷ rest') p q = absurd q
rounds_from_are_one (suc more) graph next next' [] (later ∷ rest') p q = elim p.1 [
  | inl none ↦ absurd (omega (arith, none))
  | inr one ↦ absurd (q.1.0 (subst (HaveOneLayout graph) (round_is_one graph next next' p.0 q.0) one))
]
rounds_from_are_one zero graph next next' (later ∷ rest) rest' p q = absurd p
rounds_from_are_one (suc more) graph next next' (later ∷ rest) [] p q = elim q.1 [
  | inl none ↦ absurd (omega (arith, none))
  | inr one ↦ absurd (p.1.0 (subst (HaveOneLayout graph) (sym (round_is_one graph next next' p.0 q.0)) one))
]
rounds_from_are_one (suc more) graph next next' (later ∷ rest) (later' ∷ rest') p q =
    let same = round_is_one graph next next' p.0 q.0 in
    cons_same same (rounds_from_are_one more next later later' rest rest' p.1.1 (subst (λ g. AreRoundsFrom more g later' rest') (sym same) q.1.1))

-- a graph has one list of rounds
pub rounds_are_one : (graph : GraphShape) (a b : List GraphShape) → AreRounds graph a → AreRounds graph b → a ≡ b
rounds_are_one graph [] b p q = absurd p
rounds_are_one graph (next ∷ rest) [] p q = absurd q
rounds_are_one graph (next ∷ rest) (next' ∷ rest') p q = rounds_from_are_one 15 graph next next' rest rest' p q

-- ---- layouts

-- where two graphs have one layout, the units that are laid out of them are equal
pub one_layout_is : (first second : GraphShape) (a b : UnitShape) → IsLayout first a
    → IsLayout second b → HaveOneLayout first second → a ≡ b
one_layout_is first second a b p q one = layout_is_one first a one.unit p one.of_first ∙ layout_is_one second one.unit b one.of_second q

-- and where these units are equal, the graphs have one layout
pub is_one_layout : (first second : GraphShape) (a b : UnitShape) → IsLayout first a
    → IsLayout second b → a ≡ b → HaveOneLayout first second
is_one_layout first second a b p q same = record { unit = a; of_first = p; of_second = subst (IsLayout second) (sym same) q }

-- ---- what a loop knows

-- these graphs lead from the one graph to the other: each is a round of the graph before it, with another layout
abbrev pub LeadBy : GraphShape → List GraphShape → GraphShape → Type 0
LeadBy graph [] last = graph ≡ last
LeadBy graph (round ∷ rounds) last = IsRound graph round
    × (¬ (HaveOneLayout graph round) × LeadBy round rounds last)

-- one round more
pub lead_on : (graph : GraphShape) (rounds : List GraphShape) (last next : GraphShape)
    → LeadBy graph rounds last → IsRound last next → ¬ (HaveOneLayout last next)
    → LeadBy graph (rounds ++ next ∷ []) next
lead_on graph [] last next same is differ = (subst (λ g. IsRound g next) (sym same) is, (subst (λ g. ¬ (HaveOneLayout g next)) (sym same) differ, refl))
lead_on graph (round ∷ rounds) last next leads is differ = (leads.0, (leads.1.0, lead_on round rounds last next leads.1.1 is differ))

-- these are rounds of the graph, with at most so many more after the first
abbrev AreRoundsUpTo : ℕ → GraphShape → List GraphShape → Type 0
AreRoundsUpTo more graph [] = ⊥
AreRoundsUpTo more graph (next ∷ rest) = AreRoundsFrom more graph next rest

-- a last round after these makes the whole list, where it changes no layout or as many are made as may be
ends_from : (more : ℕ) (graph : GraphShape) (rounds : List GraphShape) (last next : GraphShape)
    → LeadBy graph rounds last → IsRound last next → length rounds ≤ more
    → ((length rounds ≡ more) ⊎ HaveOneLayout last next)
    → AreRoundsUpTo more graph (rounds ++ next ∷ [])
ends_from more graph [] last next leads is few ends = (subst (λ g. IsRound g next) (sym leads) is, elim ends [ inl all ↦ inl (sym all) | inr one ↦ inr (subst (λ g. HaveOneLayout g next) (sym leads) one) ])
ends_from zero graph (round ∷ rounds) last next leads is few ends = absurd (omega (arith, few))
ends_from (suc more) graph (round ∷ []) last next leads is few ends = (leads.0, (leads.1.0, ends_from more round [] last next leads.1.1 is (omega arith) (fewer more 0 ends)))
  where
    fewer : (m k : ℕ) → ((suc k ≡ suc m) ⊎ HaveOneLayout last next) → (k ≡ m) ⊎ HaveOneLayout last next
    fewer m k e = elim e [ inl all ↦ inl (omega (arith, all)) | inr one ↦ inr one ]
ends_from (suc more) graph (round ∷ later ∷ rounds) last next leads is few ends = (leads.0, (leads.1.0, ends_from more round (later ∷ rounds) last next leads.1.1 is (omega (arith, few)) (fewer more (length (later ∷ rounds)) ends)))
  where
    fewer : (m k : ℕ) → ((suc k ≡ suc m) ⊎ HaveOneLayout last next) → (k ≡ m) ⊎ HaveOneLayout last next
    fewer m k e = elim e [ inl all ↦ inl (omega (arith, all)) | inr one ↦ inr one ]

-- so it is of the rounds of a graph, of which there are sixteen at most: 15 that change the layout, and a last one
pub rounds_end : (graph : GraphShape) (rounds : List GraphShape) (last next : GraphShape)
    → LeadBy graph rounds last → IsRound last next → length rounds ≤ 15
    → ((length rounds ≡ 15) ⊎ HaveOneLayout last next) → AreRounds graph (rounds ++ next ∷ [])
rounds_end graph rounds last next leads is few ends = all (rounds ++ next ∷ []) (ends_from 15 graph rounds last next leads is few ends)
  where
    all : (list : List GraphShape) → AreRoundsUpTo 15 graph list → AreRounds graph list
    all [] are = are
    all (first ∷ rest) are = are

-- ---- what is kept

-- no last assignment of a global before a call or a return is removed
pub round_keeps_globals : (graph round : GraphShape) → IsRound graph round → KeepsGlobals graph round
round_keeps_globals graph round r = λ sunk is_sunk. subst (λ g. KeepsHandedOn g round) (sunk_is_one graph r.sunk sunk r.is_sunk is_sunk) (handed_stays r.sunk round r.is_pruned)

-- one round more keeps what it should
pub keep_on : (graph : GraphShape) (rounds : List GraphShape) (last next : GraphShape)
    → LeadBy graph rounds last → RoundsKeep graph rounds → RoundKeeps last next
    → RoundsKeep graph (rounds ++ next ∷ [])
keep_on graph [] last next leads kept keeps = (subst (λ g. RoundKeeps g next) (sym leads) keeps, tt)
keep_on graph (round ∷ rounds) last next leads kept keeps = (kept.0, keep_on round rounds last next leads.1.1 kept.1 keeps)

-- the rounds as forms of the unit, each of which keeps the one before
pub rounds_in_turn : (graph : GraphShape) (rounds : List GraphShape) → RoundsKeep graph rounds
    → KeepInTurn (AsGraph graph) (map AsGraph rounds)
rounds_in_turn graph [] kept = tt
rounds_in_turn graph (round ∷ rounds) kept = (kept.0.keeps, rounds_in_turn round rounds kept.1)

-- each of the rounds is split, and its edges lead to nodes
pub rounds_split : (graph : GraphShape) (rounds : List GraphShape) → RoundsKeep graph rounds
    → All (λ round. IsSplit round.nodes × AllWithin round.nodes) rounds
rounds_split graph [] kept = All-nil (λ (round : GraphShape). IsSplit round.nodes × AllWithin round.nodes)
rounds_split graph (round ∷ rounds) kept =
    All-cons (λ (round : GraphShape). IsSplit round.nodes × AllWithin round.nodes) round rounds (kept.0.is_split, kept.0.within) (rounds_split round rounds kept.1)

-- two rounds, or more, keep of the graph what each keeps of the one before
pub round_keeps_trans : (a b c : GraphShape) → RoundKeeps a b → RoundKeeps b c → RoundKeeps a c
round_keeps_trans a b c p q = record {
  keeps = keeps_trans (AsGraph a) (AsGraph b) (AsGraph c) p.keeps q.keeps;
  divides = unchanged_trans a.nodes b.nodes c.nodes p.divides q.divides;
  no_more = no_more_trans a b c p.no_more q.no_more;
  is_split = q.is_split;
  within = q.within;
}

-- so does the last of one round and more
last_keeps_from : (graph round : GraphShape) (rounds : List GraphShape) → RoundKeeps graph round
    → RoundsKeep round rounds → RoundKeeps graph (last_round round rounds)
last_keeps_from graph round [] first kept = first
last_keeps_from graph round (next ∷ rounds) first kept =
    round_keeps_trans graph round (last_round next rounds) first (last_keeps_from round next rounds kept.0 kept.1)

-- and of the rounds of a graph
pub last_keeps : (graph : GraphShape) (rounds : List GraphShape) → AreRounds graph rounds
    → RoundsKeep graph rounds → RoundKeeps graph (last_round graph rounds)
last_keeps graph [] are kept = absurd are
last_keeps graph (round ∷ rounds) are kept = last_keeps_from graph round rounds kept.0 kept.1
