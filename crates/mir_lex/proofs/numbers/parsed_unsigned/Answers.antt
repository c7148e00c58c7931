use Rattle.std.proofs.Common.{◌∙◌, subst, inl, inr, ℕ, List}
use Rattle.std.specs.Str.Parse.{ParsesUnsigned}
use Rattle.mir_lex.proofs.NumberLemmas.{unsigned_plus, unsigned_read, unsigned_text}
use Rattle.mir_lex.proofs.numbers.parsed_unsigned.Goals as goal

pub returns-in-Some : goal.returns-in-Some
returns-in-Some c =
    let read = subst (λ (bytes : List ℕ). ParsesUnsigned 64 10 bytes c.parse.result) c.in-Some.ensures.some.0 c.parse.ensures.value.0 in
    c.ok.ensures.value ∙ unsigned_read c.args.bytes.now c.parse.result c.in-Some.ensures.some.1 read

pub returns-in-None : goal.returns-in-None
returns-in-None c = elim c.in-None.ensures.none [
  | inl plus ↦ unsigned_plus c.args.bytes.now plus
  | inr no_text ↦ unsigned_text c.args.bytes.now no_text
]
