-- A chain of two lists of passes is that of the second on that of the first, so a turn is its second half on its first.
-- A turn that changes the program leaves one turn fewer, and after one that changes nothing, or after the last, nothing
-- is left but to take the program.
use Rattle.std.proofs.Common.{◌≡◌, inl, inr, ℕ, suc, List, [], ◌∷◌, ◌++◌, refl, sym, ◌∙◌, subst}
use Rattle.mir_base.specs.Shapes.{ProgramShape}
use Rattle.pass_chain.specs.declared.passes.Pass.{Pass}
use Rattle.pass_chain.specs.Passes.{IsChained}
use Rattle.pass_chain.specs.ChainLaws.{HasCome, at_first, at_last, one_more}
use Rattle.program_pass.specs.KeepsLaws.{keeps_trans}
use Rattle.program_pass.specs.PassPrograms.{Rewrites}
use Rattle.program_turns.specs.Turns.{IsTurn, TurnsMake, first_half, second_half, turn}

-- ---- halves of a turn

-- a chain of two lists has a program in between
chain_parts : (passes others : List Pass) (source target : ProgramShape) → IsChained (passes ++ others) source target → (middle : ProgramShape) × (IsChained passes source middle × IsChained others middle target)
chain_parts [] others source target chain = (source, (refl, chain))
chain_parts (pass ∷ passes) others source target chain =
    let rest = chain_parts passes others chain.0 target chain.1.1 in
    (rest.0, ((chain.0, (chain.1.0, rest.1.0)), rest.1.1))

-- and of two chains, one on what the other makes, a chain is made
chain_whole : (passes others : List Pass) (source middle target : ProgramShape) → IsChained passes source middle → IsChained others middle target → IsChained (passes ++ others) source target
chain_whole [] others source middle target none chain = subst (λ p. IsChained others p target) none chain
chain_whole (pass ∷ passes) others source middle target first chain =
    (first.0, (first.1.0, chain_whole passes others first.0 middle target first.1.1 chain))

-- where each of the two has one result, so has the whole
chains_rewrite : (passes others : List Pass) (source middle target : ProgramShape) → Rewrites (IsChained passes) source middle → Rewrites (IsChained others) middle target → Rewrites (IsChained (passes ++ others)) source target
chains_rewrite passes others source middle target first second = record {
  exact = chain_whole passes others source middle target first.exact second.exact;
  only = λ other chain.
      let parts = chain_parts passes others source other chain in
      second.only other (subst (λ p. IsChained others p other) (sym (first.only parts.0 parts.1.0)) parts.1.1);
  keeps = keeps_trans source middle target first.keeps second.keeps;
}

-- the second half of a turn on what its first half makes
pub halves_turn : (source half begun whole : ProgramShape) → Rewrites (IsChained first_half) source half → begun ≡ half → Rewrites (IsChained second_half) half whole → IsTurn source begun whole
halves_turn source half begun whole first same second = record {
  first = subst (λ p. Rewrites (IsChained first_half) source p) (sym same) first;
  second = subst (λ p. Rewrites (IsChained second_half) p whole) (sym same) second;
}

-- a turn is its second half on its first
pub turn_rewrites : (source half whole : ProgramShape) → IsTurn source half whole → Rewrites (IsChained turn) source whole
turn_rewrites source half whole turned = chains_rewrite first_half second_half source half whole turned.first turned.second

-- ---- turn by turn

module _ (Whole : ProgramShape → Type 0) (source last next : ProgramShape) (left : ℕ) (come : HasCome Whole source last (TurnsMake (suc left) last)) (turned : Rewrites (IsChained turn) last next) where
  -- one turn more, which changes the program
  pub turn_changes : (next ≡ last → ⊥) → HasCome Whole source next (TurnsMake left next)
  turn_changes differ = one_more Whole source last next (TurnsMake (suc left) last) (TurnsMake left next) come
      (λ target m. (next, (turned.exact, inr (differ, m))))
      (λ target made.
      let same : next ≡ made.0 = turned.only made.0 made.1.0 in
      elim made.1.1 [
        | inl stays ↦ absurd (differ (same ∙ stays.0))
        | inr goes ↦ subst (λ p. TurnsMake left p target) (sym same) goes.1
      ])
      turned.keeps

-- one turn more, which changes nothing
pub turn_stays : (Exact : ProgramShape → ProgramShape → Type 0) (source last : ProgramShape) (left : ℕ) → HasCome (Exact source) source last (TurnsMake (suc left) last) → Rewrites (IsChained turn) last last → Rewrites Exact source last
turn_stays Exact source last left come turned = at_last Exact source last (TurnsMake (suc left) last) come (last, (turned.exact, inl (refl, refl)))
    (λ other made.
    let same : last ≡ made.0 = turned.only made.0 made.1.0 in
    elim made.1.1 [
      | inl stays ↦ sym stays.1
      | inr goes ↦ absurd (goes.0 (sym same))
    ])

-- no turn is left
pub turns_end : (Exact : ProgramShape → ProgramShape → Type 0) (source last : ProgramShape) → HasCome (Exact source) source last (TurnsMake 0 last) → Rewrites Exact source last
turns_end Exact source last come = at_last Exact source last (TurnsMake 0 last) come refl (λ other m. sym m)

-- the first turn changes the program, and the others are made of it
pub turns_follow : (source first target : ProgramShape) (left : ℕ) → Rewrites (IsChained turn) source first → (first ≡ source → ⊥) → Rewrites (TurnsMake left) first target → Rewrites (TurnsMake (suc left)) source target
turns_follow source first target left turned differ others =
    let come = turn_changes (TurnsMake (suc left) source) source source first left (at_first (TurnsMake (suc left) source) source) turned differ in
    record {
      exact = come.forth target others.exact;
      only = λ other made. others.only other (come.back other made);
      keeps = keeps_trans source first target turned.keeps others.keeps;
    }
