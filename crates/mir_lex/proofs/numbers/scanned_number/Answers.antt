use Rattle.std.proofs.Common.{◌∙◌, subst, inl, inr, ℕ, List, w64}
use Rattle.std.specs.Str.Parse.{ParsesSigned}
use Rattle.mir_lex.proofs.NumberLemmas.{number_plus, number_read, no_number_unless_text}
use Rattle.mir_lex.proofs.numbers.scanned_number.Goals as goal

pub returns-in-Some : goal.returns-in-Some
returns-in-Some c =
    let read = subst (λ (bytes : List ℕ). ParsesSigned w64 10 bytes c.parse.result) c.in-Some.ensures.some.0 c.parse.ensures.value.0 in
    c.ok.ensures.value ∙ number_read c.args.bytes.now c.parse.result c.in-Some.ensures.some.1 read

pub returns-in-None : goal.returns-in-None
returns-in-None c = elim c.in-None.ensures.none [
  | inl plus ↦ number_plus c.args.bytes.now plus
  | inr no_text ↦ no_number_unless_text c.args.bytes.now no_text
]
