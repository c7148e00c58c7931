use Rattle.std.proofs.Common.{sym, ap, subst, ◌≡◌, inl, ℕ}
use Rattle.mir_parse.specs.Grammar.{IsUnexpected}
use Rattle.mir_lex.specs.Terminals.{terminals}
use Rattle.mir_parse.specs.declared.faults.ParseFault.TheVariants.{Unexpected}
use Rattle.mir_parse.proofs.Exact.{outside_text, stopped_unexpected, inside_unfinished, outside_only, outside_unexpected, outside_unfinished, stopped_only, stopped_line, stopped_unfinished, in_only, in_unexpected, line_only, line_unexpected, line_unfinished, text_same}
use Rattle.mir_parse.proofs.parsing.parse.Goals as goal

pub returns-in-Ok-Outside-clause-found : goal.returns-in-Ok-Outside-clause-found
returns-in-Ok-Outside-clause-found c = let e = rw c.in-Ok-Outside.field-0-is at c.in-Ok-Outside.ensures in outside_text _ _ (sym e)

pub returns-in-Ok-Outside-clause-only : goal.returns-in-Ok-Outside-clause-only
returns-in-Ok-Outside-clause-only c = let e = rw c.in-Ok-Outside.field-0-is at c.in-Ok-Outside.ensures in λ us text. outside_only _ _ e us text

pub returns-in-Ok-Outside-clause-unexpected_only : goal.returns-in-Ok-Outside-clause-unexpected_only
returns-in-Ok-Outside-clause-unexpected_only c = let e = rw c.in-Ok-Outside.field-0-is at c.in-Ok-Outside.ensures in λ line is. outside_unexpected _ _ e line is

pub returns-in-Ok-Outside-clause-unfinished_only : goal.returns-in-Ok-Outside-clause-unfinished_only
returns-in-Ok-Outside-clause-unfinished_only c = let e = rw c.in-Ok-Outside.field-0-is at c.in-Ok-Outside.ensures in λ is. outside_unfinished _ _ e is

pub returns-in-Ok-Stopped-clause-only : goal.returns-in-Ok-Stopped-clause-only
returns-in-Ok-Stopped-clause-only c = let e = rw c.in-Ok-Stopped.field-0-is at c.in-Ok-Stopped.ensures in λ us text. stopped_only _ _ e us text

pub returns-in-Ok-Stopped-clause-unexpected : goal.returns-in-Ok-Stopped-clause-unexpected
returns-in-Ok-Stopped-clause-unexpected c =
    let e = rw c.in-Ok-Stopped.field-0-is at c.in-Ok-Stopped.ensures in
    λ line same. let is : c.in-Ok-Stopped.line ≡ line = cc in
    let ls = terminals c.args.tokens.now.text c.args.tokens.now.items in
    subst (λ (n : ℕ). IsUnexpected ls n) is (stopped_unexpected ls c.in-Ok-Stopped.line (sym e))

pub returns-in-Ok-Stopped-clause-unexpected_only : goal.returns-in-Ok-Stopped-clause-unexpected_only
returns-in-Ok-Stopped-clause-unexpected_only c = let e = rw c.in-Ok-Stopped.field-0-is at c.in-Ok-Stopped.ensures in λ line is. inl (ap (λ (n : ℕ). Unexpected n) (stopped_line _ _ e line is))

pub returns-in-Ok-Stopped-clause-unfinished_only : goal.returns-in-Ok-Stopped-clause-unfinished_only
returns-in-Ok-Stopped-clause-unfinished_only c = let e = rw c.in-Ok-Stopped.field-0-is at c.in-Ok-Stopped.ensures in λ is. absurd (stopped_unfinished _ _ e is)

pub returns-in-Ok-In-clause-only : goal.returns-in-Ok-In-clause-only
returns-in-Ok-In-clause-only c = let e = rw c.in-Ok-In.field-0-is at c.in-Ok-In.ensures in λ us text. in_only _ _ _ e us text

pub returns-in-Ok-In-clause-unexpected_only : goal.returns-in-Ok-In-clause-unexpected_only
returns-in-Ok-In-clause-unexpected_only c = let e = rw c.in-Ok-In.field-0-is at c.in-Ok-In.ensures in λ line is. absurd (in_unexpected _ _ _ e line is)

pub returns-in-Ok-In-clause-unfinished : goal.returns-in-Ok-In-clause-unfinished
returns-in-Ok-In-clause-unfinished c = let e = rw c.in-Ok-In.field-0-is at c.in-Ok-In.ensures in λ same. inside_unfinished _ _ _ (sym e)

pub returns-in-Ok-Outside-clause-unique : goal.returns-in-Ok-Outside-clause-unique
returns-in-Ok-Outside-clause-unique c = text_same (terminals c.args.tokens.now.text c.args.tokens.now.items)

pub returns-in-Ok-Stopped-clause-unique : goal.returns-in-Ok-Stopped-clause-unique
returns-in-Ok-Stopped-clause-unique c = text_same (terminals c.args.tokens.now.text c.args.tokens.now.items)

pub returns-in-Ok-In-clause-unique : goal.returns-in-Ok-In-clause-unique
returns-in-Ok-In-clause-unique c = text_same (terminals c.args.tokens.now.text c.args.tokens.now.items)

pub returns-in-Err-clause-unique : goal.returns-in-Err-clause-unique
returns-in-Err-clause-unique c = text_same (terminals c.args.tokens.now.text c.args.tokens.now.items)

pub returns-in-Ok-Global-clause-only : goal.returns-in-Ok-Global-clause-only
returns-in-Ok-Global-clause-only c = let e = rw c.in-Ok-Global.field-0-is at c.in-Ok-Global.ensures in λ us text. line_only _ _ _ _ e us text

pub returns-in-Ok-Global-clause-unexpected_only : goal.returns-in-Ok-Global-clause-unexpected_only
returns-in-Ok-Global-clause-unexpected_only c = let e = rw c.in-Ok-Global.field-0-is at c.in-Ok-Global.ensures in λ line is. absurd (line_unexpected _ _ _ _ e line is)

pub returns-in-Ok-Global-clause-unfinished : goal.returns-in-Ok-Global-clause-unfinished
returns-in-Ok-Global-clause-unfinished c = let e = rw c.in-Ok-Global.field-0-is at c.in-Ok-Global.ensures in λ same. line_unfinished _ _ _ _ (sym e)

pub returns-in-Ok-Global-clause-unique : goal.returns-in-Ok-Global-clause-unique
returns-in-Ok-Global-clause-unique c = text_same (terminals c.args.tokens.now.text c.args.tokens.now.items)
