-- Laws: what a loop knows that makes one program of another, step by step. For proofs, but that a contract of a private
-- function may cite `HasCome`.
use Rattle.std.proofs.Common.{List, [], ◌∷◌, refl, sym, subst}
use Rattle.mir_base.specs.Shapes.{ProgramShape}
use Rattle.program_pass.specs.KeepsLaws.{keeps_refl, keeps_trans}
use Rattle.program_pass.specs.PassPrograms.{IsOnly, KeepsRuns, Rewrites}
use Rattle.pass_chain.specs.declared.passes.Pass.{Pass}
use Rattle.pass_chain.specs.Passes.{IsChained, IsPassedBy}

-- A loop has come from the source to this program: what the steps that are left make of the program is what is to be
-- made of the source, and nothing else is
pub record HasCome (Whole : ProgramShape → Type 0) (source last : ProgramShape)
    (Left : ProgramShape → Type 0) : Type 0 where
  pub forth : (target : ProgramShape) → Left target → Whole target
  pub back : (target : ProgramShape) → Whole target → Left target
  pub keeps : KeepsRuns source last

-- at first it has come to the source itself
pub at_first : (Whole : ProgramShape → Type 0) (source : ProgramShape) → HasCome Whole source source Whole
at_first Whole source = record { forth = λ target m. m; back = λ target m. m; keeps = keeps_refl source }

-- one step more, which is the only one
pub one_more : (Whole : ProgramShape → Type 0) (source last next : ProgramShape) (Left Fewer : ProgramShape → Type 0) → HasCome Whole source last Left
    → ((target : ProgramShape) → Fewer target → Left target) → ((target : ProgramShape) → Left target → Fewer target) → KeepsRuns last next → HasCome Whole source next Fewer
one_more Whole source last next Left Fewer come on off keeps = record {
  forth = λ target m. come.forth target (on target m);
  back = λ target m. off target (come.back target m);
  keeps = keeps_trans source last next come.keeps keeps;
}

-- nothing is left but to take the program
pub at_last : (Exact : ProgramShape → ProgramShape → Type 0) (source last : ProgramShape) (Left : ProgramShape → Type 0) → HasCome (Exact source) source last Left → Left last → IsOnly Left last → Rewrites Exact source last
at_last Exact source last Left come is only = record {
  exact = come.forth last is;
  only = λ other m. only other (come.back other m);
  keeps = come.keeps;
}

-- ---- chains

-- a pass that is the only one leaves the passes after it
pub chain_on : (Whole : ProgramShape → Type 0) (source last next : ProgramShape) (pass : Pass) (passes : List Pass) → HasCome Whole source last (IsChained (pass ∷ passes) last) → IsPassedBy pass last next → IsOnly (IsPassedBy pass last) next → KeepsRuns last next → HasCome Whole source next (IsChained passes next)
chain_on Whole source last next pass passes come is only keeps = one_more Whole source last next (IsChained (pass ∷ passes) last) (IsChained passes next) come
    (λ target others. (next, (is, others)))
    (λ target chain. subst (λ p. IsChained passes p target) (sym (only chain.0 chain.1.0)) chain.1.1)
    keeps

-- after the last pass nothing is left but to take the program
pub chain_ends : (passes : List Pass) (source last : ProgramShape) → HasCome (IsChained passes source) source last (IsChained [] last) → Rewrites (IsChained passes) source last
chain_ends passes source last come = at_last (IsChained passes) source last (IsChained [] last) come refl (λ other is. sym is)
