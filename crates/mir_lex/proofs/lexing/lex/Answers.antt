use Rattle.std.proofs.Common.{List, sym, ◌∙◌, subst, inl, inr}
use Rattle.mir_lex.specs.declared.tokens.Token.{Token}
use Rattle.mir_lex.specs.Tokens.{AreTokens}
use Rattle.mir_lex.specs.Spelling.{IsTokens}
use Rattle.mir_lex.proofs.Placed.{tokens_each}
use Rattle.mir_lex.proofs.LexLaws.{going_found, going_only, going_refusal, stopped_refusal, stopped_tokens, stopped_same, tokens_same}
use Rattle.mir_lex.proofs.lexing.lex.Goals as goal

pub tokens-requires : goal.tokens-requires
tokens-requires c =
    let scanned = rw c.in-Ok-Going.field-0-is at c.in-Ok-Going.ensures in
    subst (λ text. AreTokens text c.in-Ok-Going.scan.items) (sym c.in-Ok.ensures)
    (tokens_each c.args.text.now c.in-Ok-Going.scan.items (going_found c.args.text.now c.in-Ok-Going.scan scanned))

pub returns-in-Ok-clause-found : goal.returns-in-Ok-clause-found
returns-in-Ok-clause-found c =
    let scanned = rw c.in-Ok-Going.field-0-is at c.in-Ok-Going.ensures in (
      c.tokens.ensures.text ∙ c.in-Ok.ensures,
      subst (λ (items : List Token). IsTokens c.args.text.now items) (sym c.tokens.ensures.items) (going_found c.args.text.now c.in-Ok-Going.scan scanned),
    )

pub returns-in-Ok-clause-only : goal.returns-in-Ok-clause-only
returns-in-Ok-clause-only c =
    let scanned = rw c.in-Ok-Going.field-0-is at c.in-Ok-Going.ensures in
    λ items are. c.tokens.ensures.items ∙ going_only c.args.text.now c.in-Ok-Going.scan scanned items are

pub returns-in-Ok-clause-refused_only : goal.returns-in-Ok-clause-refused_only
returns-in-Ok-clause-refused_only c =
    let scanned = rw c.in-Ok-Going.field-0-is at c.in-Ok-Going.ensures in
    λ fault refusal. going_refusal c.args.text.now c.in-Ok-Going.scan scanned fault refusal

pub returns-in-Ok-Stopped-clause-only : goal.returns-in-Ok-Stopped-clause-only
returns-in-Ok-Stopped-clause-only c =
    let scanned = rw c.in-Ok-Stopped.field-0-is at c.in-Ok-Stopped.ensures in
    λ items are. absurd (stopped_tokens c.args.text.now c.in-Ok-Stopped.fault scanned items are)

pub returns-in-Ok-Stopped-clause-refused : goal.returns-in-Ok-Stopped-clause-refused
returns-in-Ok-Stopped-clause-refused c =
    let scanned = rw c.in-Ok-Stopped.field-0-is at c.in-Ok-Stopped.ensures in
    inr (stopped_refusal c.args.text.now c.in-Ok-Stopped.fault scanned)

pub returns-in-Ok-Stopped-clause-refused_only : goal.returns-in-Ok-Stopped-clause-refused_only
returns-in-Ok-Stopped-clause-refused_only c =
    let scanned = rw c.in-Ok-Stopped.field-0-is at c.in-Ok-Stopped.ensures in
    λ fault refusal. inl (stopped_same c.args.text.now c.in-Ok-Stopped.fault scanned fault refusal)

pub returns-in-Ok-clause-unique : goal.returns-in-Ok-clause-unique
returns-in-Ok-clause-unique c = tokens_same c.args.text.now

pub returns-in-Err-clause-unique : goal.returns-in-Err-clause-unique
returns-in-Err-clause-unique c = tokens_same c.args.text.now

pub returns-in-Ok-Stopped-clause-unique : goal.returns-in-Ok-Stopped-clause-unique
returns-in-Ok-Stopped-clause-unique c = tokens_same c.args.text.now

pub returns-in-Err-copy-clause-unique : goal.returns-in-Err-copy-clause-unique
returns-in-Err-copy-clause-unique c = tokens_same c.args.text.now
