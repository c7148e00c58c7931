use Rattle.std.proofs.Common.{◌≡◌, ◌⊎◌, inr}
use Rattle.mir_parse.specs.declared.faults.ParseFault.TheVariants.{Unexpected, Unfinished}
use Rattle.mir_parse.specs.declared.faults.TextFault.TheVariants.{Lex, Parse}
use Rattle.mir_parse.specs.Grammar.{IsText, IsUnexpected, IsUnfinished}
use Rattle.mir_parse.specs.Spells.{IsTextMemory}
use Rattle.mir_parse.proofs.Texts.{moved, spells_same, by_cause, same_parse, same_lex}
use Rattle.mir_parse.proofs.reading.read_text.Goals as goal

-- the text is read

pub returns-in-Ok-parse-clause-only : goal.returns-in-Ok-parse-clause-only
returns-in-Ok-parse-clause-only c =
    λ raw h. c.in-Ok-parse.ensures.only raw
    (moved (λ ts. IsText ts raw) c.args.text.now c.in-Ok.tokens.text h.items c.in-Ok.tokens.items c.in-Ok.ensures.found.0 (c.in-Ok.ensures.only h.items h.tokens) h.text)

pub returns-in-Ok-parse-clause-unique : goal.returns-in-Ok-parse-clause-unique
returns-in-Ok-parse-clause-unique c = spells_same c.args.text.now c.in-Ok.ensures.unique

pub returns-in-Ok-parse-clause-refused_only : goal.returns-in-Ok-parse-clause-refused_only
returns-in-Ok-parse-clause-refused_only c =
    by_cause c.args.text.now (λ fault. ⊥) c.in-Ok.ensures.refused_only
    (λ line items tokens h. c.in-Ok-parse.ensures.unexpected_only line
    (moved (λ ts. IsUnexpected ts line) c.args.text.now c.in-Ok.tokens.text items c.in-Ok.tokens.items c.in-Ok.ensures.found.0 (c.in-Ok.ensures.only items tokens) h))
    (λ items tokens h. c.in-Ok-parse.ensures.unfinished_only
    (moved IsUnfinished c.args.text.now c.in-Ok.tokens.text items c.in-Ok.tokens.items c.in-Ok.ensures.found.0 (c.in-Ok.ensures.only items tokens) h))

-- its tokens are refused

pub returns-in-Ok-clause-only : goal.returns-in-Ok-clause-only
returns-in-Ok-clause-only c =
    λ raw h. c.in-Err-parse.ensures.only raw
    (moved (λ ts. IsText ts raw) c.args.text.now c.in-Ok.tokens.text h.items c.in-Ok.tokens.items c.in-Ok.ensures.found.0 (c.in-Ok.ensures.only h.items h.tokens) h.text)

pub returns-in-Ok-clause-unique : goal.returns-in-Ok-clause-unique
returns-in-Ok-clause-unique c = spells_same c.args.text.now c.in-Ok.ensures.unique

pub returns-in-Ok-clause-refused_only : goal.returns-in-Ok-clause-refused_only
returns-in-Ok-clause-refused_only c =
    by_cause c.args.text.now (λ fault. (Parse c.in-Err-parse.fault ≡ fault) ⊎ IsTextMemory (Parse c.in-Err-parse.fault)) (λ fault h. absurd (c.in-Ok.ensures.refused_only fault h))
    (λ line items tokens h. same_parse c.in-Err-parse.fault (Unexpected line) (c.in-Err-parse.ensures.unexpected_only line
    (moved (λ ts. IsUnexpected ts line) c.args.text.now c.in-Ok.tokens.text items c.in-Ok.tokens.items c.in-Ok.ensures.found.0 (c.in-Ok.ensures.only items tokens) h)))
    (λ items tokens h. same_parse c.in-Err-parse.fault Unfinished (c.in-Err-parse.ensures.unfinished_only
    (moved IsUnfinished c.args.text.now c.in-Ok.tokens.text items c.in-Ok.tokens.items c.in-Ok.ensures.found.0 (c.in-Ok.ensures.only items tokens) h)))

-- it has no tokens

pub returns-clause-only : goal.returns-clause-only
returns-clause-only c = λ raw h. c.in-Err.ensures.only h.items h.tokens

pub returns-clause-unique : goal.returns-clause-unique
returns-clause-unique c = spells_same c.args.text.now c.in-Err.ensures.unique

pub returns-clause-refused_only : goal.returns-clause-refused_only
returns-clause-refused_only c =
    by_cause c.args.text.now (λ fault. (Lex c.in-Err.fault ≡ fault) ⊎ IsTextMemory (Lex c.in-Err.fault)) (λ fault h. same_lex c.in-Err.fault fault (c.in-Err.ensures.refused_only fault h))
    (λ line items tokens h. inr (c.in-Err.ensures.only items tokens)) (λ items tokens h. inr (c.in-Err.ensures.only items tokens))
