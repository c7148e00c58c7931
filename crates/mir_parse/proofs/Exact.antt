-- Where the reader goes on, and where it stops.
use Rattle.std.proofs.Common.{◌≡◌, ℕ, Bool, true, false, List, [], ◌∷◌, ◌++◌, map, codes, Option, None, Some, refl, sym, ◌∙◌, ap, subst, append_assoc, pos}
use Rattle.std.specs.List.{fold}
use Rattle.std.proofs.lemmas.List.Sums.{fold-append}
use Rattle.mir_lex.specs.declared.terminals.Symbol.{Symbol}
use Rattle.mir_lex.specs.declared.terminals.Symbol.TheVariants.{Name as NAME, Word as WORD, Number as NUMBER, Mark as MARK, LineEnd as NL}
use Rattle.mir_lex.specs.declared.terminals.Terminal.{Terminal}
use Rattle.mir_lex.specs.declared.words.Mark.TheVariants.{Colon, Comma, LeftParen, RightParen, Arrow}
use Rattle.mir_base.specs.declared.words.Word.TheVariants.{Begin as BeginWord, End as EndWord, Goto as GotoWord, Return as ReturnWord, Global as GlobalWord}
use Rattle.mir_parse.specs.declared.raw.RawOperand.TheVariants.{Var, Const}
use Rattle.mir_parse.specs.declared.raw.RawRhs.TheVariants.{Plain, Unary, Binary}
use Rattle.mir_parse.specs.declared.raw.RawTest.TheVariants.{Rel, Holds, Fails}
use Rattle.mir_parse.specs.declared.raw.RawForm.{RawForm}
use Rattle.mir_parse.specs.declared.raw.RawForm.TheVariants.{Receive, Assign, Goto, If, TrapIf, Call, Print, Return}
use Rattle.mir_parse.specs.declared.raw.RawGlobal.{RawGlobal}
use Rattle.mir_parse.specs.declared.raw.Raw.{Raw}
use Rattle.mir_parse.specs.RawParts.{globals_alone, raw_with_unit}
use Rattle.mir_parse.specs.RawUnit.{RawUnitShape}
use Rattle.mir_parse.specs.declared.so_far.Hole.{Hole}
use Rattle.mir_parse.specs.declared.so_far.Hole.TheVariants.{Unary as OfUnary, Binary as OfBinary, Arg as OfArg, Fails as OfFails, Rel as OfRel, Print as OfPrint}
use Rattle.mir_parse.specs.declared.so_far.Part.{Part}
use Rattle.mir_parse.specs.declared.so_far.Part.TheVariants.{Fresh, Receive as PReceive, ReceiveName, ReceiveOpen, ReceiveVal, Named, Arrowed, PlainName, PlainNumber, Wants, Call as PCall, Callee, Opening, FirstArg, Given, Typing, Typed, Goto as PGoto, If as PIf, IfOperand, Tested, IfGoto, IfTrap, Return as PReturn, Full}
use Rattle.mir_parse.specs.Reader.{Next, No, Go, Done, Label}
use Rattle.mir_parse.specs.declared.so_far.Spot.{Spot}
use Rattle.mir_parse.specs.declared.so_far.Spot.TheVariants.{Named as UnitNamed, Headed, Begun, Inside, Mid, AfterEnd}
use Rattle.mir_parse.specs.declared.so_far.Reading.{Reading}
use Rattle.mir_parse.specs.declared.so_far.ReadSoFar.{ReadSoFar}
use Rattle.mir_parse.specs.declared.so_far.ReadSoFar.TheVariants.{Outside, Global as InGlobal, In, Stopped}
use Rattle.mir_parse.specs.Grammar.{symbols, IsText, IsTextPrefix, IsUnexpected, IsUnfinished}
use Rattle.mir_parse.specs.Reader.{fresh, part_step, with_inst, reading_after, global_word, outside, in_global, unit_named, headed, begun, inside, after_end, spot_step, read_step, reads}
use Rattle.mir_parse.proofs.Complete.{part_run, after_run, text_run}
use Rattle.mir_parse.proofs.Sound.{IsReadFrom, reads_keeps}

-- the remainder of an instruction
pub record Finishes (p : Part) : Type 0 where
  pub ss : List Symbol
  pub form : RawForm
  pub run : part_run (Go p) ss ≡ Done form

-- an awaited operand may be 0, then the shortest remainder of its instruction
hole_finishes : (hole : Hole) → Finishes (Wants hole)
hole_finishes (OfUnary x op) = record { ss = NUMBER (pos 0) ∷ NL ∷ []; form = Assign x (Unary op (Const (pos 0))); run = refl }
hole_finishes (OfBinary x op b) = record { ss = NUMBER (pos 0) ∷ NL ∷ []; form = Assign x (Binary op b (Const (pos 0))); run = refl }
hole_finishes (OfArg x f args) = record { ss = NUMBER (pos 0) ∷ MARK Comma ∷ NAME (codes "int") ∷ MARK RightParen ∷ NL ∷ []; form = Call x f (args ++ Const (pos 0) ∷ []); run = refl }
hole_finishes OfFails = record { ss = NUMBER (pos 0) ∷ WORD GotoWord ∷ NAME (codes "a") ∷ NL ∷ []; form = If (Fails (Const (pos 0))) (codes "a"); run = refl }
hole_finishes (OfRel op b) = record { ss = NUMBER (pos 0) ∷ WORD GotoWord ∷ NAME (codes "a") ∷ NL ∷ []; form = If (Rel op b (Const (pos 0))) (codes "a"); run = refl }
hole_finishes OfPrint = record { ss = NUMBER (pos 0) ∷ NL ∷ []; form = Print (Const (pos 0)); run = refl }

-- each unfinished instruction can be finished: the shortest remainder is written down
part_finishes : (p : Part) → Finishes p
part_finishes Fresh = record { ss = WORD ReturnWord ∷ NL ∷ []; form = Return None; run = refl }
part_finishes PReceive = record { ss = NAME (codes "a") ∷ MARK LeftParen ∷ NAME (codes "val") ∷ MARK RightParen ∷ NL ∷ []; form = Receive (codes "a"); run = refl }
part_finishes (ReceiveName x) = record { ss = MARK LeftParen ∷ NAME (codes "val") ∷ MARK RightParen ∷ NL ∷ []; form = Receive x; run = refl }
part_finishes (ReceiveOpen x) = record { ss = NAME (codes "val") ∷ MARK RightParen ∷ NL ∷ []; form = Receive x; run = refl }
part_finishes (ReceiveVal x) = record { ss = MARK RightParen ∷ NL ∷ []; form = Receive x; run = refl }
part_finishes (Named x) = record { ss = MARK Arrow ∷ NUMBER (pos 0) ∷ NL ∷ []; form = Assign x (Plain (Const (pos 0))); run = refl }
part_finishes (Arrowed x) = record { ss = NUMBER (pos 0) ∷ NL ∷ []; form = Assign x (Plain (Const (pos 0))); run = refl }
part_finishes (PlainName x y) = record { ss = NL ∷ []; form = Assign x (Plain (Var y)); run = refl }
part_finishes (PlainNumber x z) = record { ss = NL ∷ []; form = Assign x (Plain (Const z)); run = refl }
part_finishes (Wants hole) = hole_finishes hole
part_finishes (PCall x) = record { ss = NAME (codes "a") ∷ MARK Comma ∷ MARK LeftParen ∷ MARK RightParen ∷ NL ∷ []; form = Call x (codes "a") []; run = refl }
part_finishes (Callee x f) = record { ss = MARK Comma ∷ MARK LeftParen ∷ MARK RightParen ∷ NL ∷ []; form = Call x f []; run = refl }
part_finishes (Opening x f) = record { ss = MARK LeftParen ∷ MARK RightParen ∷ NL ∷ []; form = Call x f []; run = refl }
part_finishes (FirstArg x f) = record { ss = MARK RightParen ∷ NL ∷ []; form = Call x f []; run = refl }
part_finishes (Given x f args) = record { ss = MARK Comma ∷ NAME (codes "int") ∷ MARK RightParen ∷ NL ∷ []; form = Call x f args; run = refl }
part_finishes (Typing x f args) = record { ss = NAME (codes "int") ∷ MARK RightParen ∷ NL ∷ []; form = Call x f args; run = refl }
part_finishes (Typed x f args) = record { ss = MARK RightParen ∷ NL ∷ []; form = Call x f args; run = refl }
part_finishes PGoto = record { ss = NAME (codes "a") ∷ NL ∷ []; form = Goto (codes "a"); run = refl }
part_finishes PIf = record { ss = NUMBER (pos 0) ∷ WORD GotoWord ∷ NAME (codes "a") ∷ NL ∷ []; form = If (Holds (Const (pos 0))) (codes "a"); run = refl }
part_finishes (IfOperand a) = record { ss = WORD GotoWord ∷ NAME (codes "a") ∷ NL ∷ []; form = If (Holds a) (codes "a"); run = refl }
part_finishes (Tested t) = record { ss = WORD GotoWord ∷ NAME (codes "a") ∷ NL ∷ []; form = If t (codes "a"); run = refl }
part_finishes (IfGoto t) = record { ss = NAME (codes "a") ∷ NL ∷ []; form = If t (codes "a"); run = refl }
part_finishes (IfTrap t) = record { ss = NUMBER (pos 0) ∷ NL ∷ []; form = TrapIf t (pos 0); run = refl }
part_finishes PReturn = record { ss = NL ∷ []; form = Return None; run = refl }
part_finishes (Full f) = record { ss = NL ∷ []; form = f; run = refl }

-- tokens with these symbols, all on line 0
abbrev at_zero : List Symbol → List Terminal
at_zero ss = map (λ s. record { symbol = s; line = 0 }) ss

-- and these are their symbols
at_zero_symbols : (ss : List Symbol) → symbols (at_zero ss) ≡ ss
at_zero_symbols [] = refl
at_zero_symbols (s ∷ ss) = ap (λ (l : List Symbol). s ∷ l) (at_zero_symbols ss)

-- tokens that bring the reader out of the unit or the global line
pub record Goes (st : ReadSoFar) : Type 0 where
  pub remainder : List Terminal
  pub raw : Raw
  pub run : fold read_step st remainder ≡ Outside raw

-- between two instructions, `end` closes the unit
ends : (b : Reading) → Goes (In b (Inside false))
ends b = record { remainder = at_zero (WORD EndWord ∷ NL ∷ []); raw = raw_with_unit b.whole b.unit; run = refl }

-- after a label too
ends_colon : (b : Reading) (colon : Bool) → Goes (In b (Inside colon))
ends_colon b colon = record { remainder = at_zero (WORD EndWord ∷ NL ∷ []); raw = raw_with_unit b.whole b.unit; run = refl }

-- within an instruction, finish it, then close the unit
mid_goes : (b : Reading) (line : ℕ) (p : Part) → Goes (In b (Mid line p))
mid_goes b line p =
    let finishes = part_finishes p in
    let out = ends (with_inst b line finishes.form) in
    record {
      remainder = at_zero finishes.ss ++ out.remainder;
      raw = out.raw;
      run = fold-append read_step (In b (Mid line p)) (at_zero finishes.ss) out.remainder
          ∙ ap (λ (st : ReadSoFar). fold read_step st out.remainder) (after_run b line finishes.form (Go p) (at_zero finishes.ss) 0 (ap (λ (l : List Symbol). part_run (Go p) l) (at_zero_symbols finishes.ss) ∙ finishes.run)) ∙ out.run;
    }

-- before `begin`, open the body and close it at once
headed_goes : (b : Reading) (broken : Bool) → Goes (In b (Headed broken))
headed_goes b true = record { remainder = at_zero (WORD BeginWord ∷ NL ∷ WORD EndWord ∷ NL ∷ []); raw = raw_with_unit b.whole b.unit; run = refl }
headed_goes b false = record { remainder = at_zero (WORD BeginWord ∷ NL ∷ WORD EndWord ∷ NL ∷ []); raw = raw_with_unit b.whole b.unit; run = refl }

-- at every place in a unit, some tokens close it
spot_goes : (b : Reading) (spot : Spot) → Goes (In b spot)
spot_goes b UnitNamed = record { remainder = at_zero (MARK Colon ∷ WORD BeginWord ∷ NL ∷ WORD EndWord ∷ NL ∷ []); raw = raw_with_unit b.whole b.unit; run = refl }
spot_goes b (Headed broken) = headed_goes b broken
spot_goes b Begun = record { remainder = at_zero (NL ∷ WORD EndWord ∷ NL ∷ []); raw = raw_with_unit b.whole b.unit; run = refl }
spot_goes b (Inside colon) = ends_colon b colon
spot_goes b (Mid line p) = mid_goes b line p
spot_goes b AfterEnd = record { remainder = at_zero (NL ∷ []); raw = raw_with_unit b.whole b.unit; run = refl }

-- in a global line, its name and the end of the line close it
global_goes : (globals : List RawGlobal) (line : ℕ) (name : Option (List ℕ)) → Goes (InGlobal globals line name)
global_goes globals line None = record { remainder = at_zero (NAME (codes "a") ∷ NL ∷ []); raw = globals_alone (globals ++ record { name = codes "a"; line = line } ∷ []); run = refl }
global_goes globals line (Some x) = record { remainder = at_zero (NL ∷ []); raw = globals_alone (globals ++ record { name = x; line = line } ∷ []); run = refl }

-- no token changes the state behind a token that cannot stand there
pub stopped_run : (line : ℕ) (ts : List Terminal) → fold read_step (Stopped line) ts ≡ Stopped line
stopped_run line [] = refl
stopped_run line (t ∷ ts) = stopped_run line ts

-- a token was read that cannot stand where it stands
abbrev HasBadToken : ReadSoFar → Type 0
HasBadToken (Outside units) = ⊥
HasBadToken (InGlobal globals line name) = ⊥
HasBadToken (In b spot) = ⊥
HasBadToken (Stopped line) = Unit {0}

-- tokens that lead out are a prefix of a text
goes_prefix : (ts : List Terminal) → Goes (reads ts) → IsTextPrefix ts
goes_prefix ts goes = (
  goes.remainder,
  goes.raw,
  subst (λ (st : ReadSoFar). IsReadFrom st (ts ++ goes.remainder)) (fold-append read_step (Outside (globals_alone [])) ts goes.remainder ∙ goes.run) (reads_keeps (ts ++ goes.remainder)),
)

-- so where each token so far can stand, some lead out
state_goes : (st : ReadSoFar) → (HasBadToken st → ⊥) → Goes st
state_goes (Outside raw) good = record { remainder = []; raw = raw; run = refl }
state_goes (InGlobal globals line name) good = global_goes globals line name
state_goes (In b spot) good = spot_goes b spot
state_goes (Stopped line) good = absurd (good tt)

-- tokens each of which can stand where it stands are a prefix of a text
good_prefix : (ts : List Terminal) → (HasBadToken (reads ts) → ⊥) → IsTextPrefix ts
good_prefix ts good = goes_prefix ts (state_goes (reads ts) good)

-- in a prefix of a text each token can stand where it stands
prefix_good : (ts : List Terminal) (line : ℕ) → IsTextPrefix ts → reads ts ≡ Stopped line → ⊥
prefix_good ts line prefix stopped =
    let out = text_run (ts ++ prefix.0) prefix.1 prefix.2 in
    let same = sym (fold-append read_step (Outside (globals_alone [])) ts prefix.0 ∙ ap (λ (st : ReadSoFar). fold read_step st prefix.0) stopped ∙ stopped_run line prefix.0) ∙ out in cc

-- the first of the tokens that cannot stand where it stands is one of this line
pub record StopsAt (st : ReadSoFar) (ts : List Terminal) (line : ℕ) : Type 0 where
  pub prefix : List Terminal
  pub bad : Terminal
  pub remainder : List Terminal
  pub tokens : ts ≡ prefix ++ bad ∷ remainder
  pub good : HasBadToken (fold read_step st prefix) → ⊥
  pub stopped : fold read_step st (prefix ++ bad ∷ []) ≡ Stopped line
  pub at : bad.line ≡ line

-- the reader stops on the line of the token that it was given: within an instruction
after_stops : (b : Reading) (line at : ℕ) (n : Next) (last : ℕ) → reading_after b line at n ≡ Stopped last → at ≡ last
after_stops b line at No last h = cc
after_stops b line at (Go p) last h = absurd (cc)
after_stops b line at (Done f) last h = absurd (cc)
after_stops b line at (Label x) last h = absurd (cc)

-- outside units, the word of a global line
global_word_stops : (globals : List RawGlobal) (units : List RawUnitShape) (at last : ℕ) → global_word globals units at ≡ Stopped last → at ≡ last
global_word_stops globals [] at last h = absurd (cc)
global_word_stops globals (unit ∷ units) at last h = cc

-- outside units, any token
outside_stops : (units : Raw) (s : Symbol) (at last : ℕ) → outside units s at ≡ Stopped last → at ≡ last
outside_stops units (NAME x) at last h = absurd (cc)
outside_stops units (WORD GlobalWord) at last h = global_word_stops units.globals units.units at last h
outside_stops units s at last h = cc

-- in a global line
in_global_stops : (globals : List RawGlobal) (line : ℕ) (name : Option (List ℕ)) (s : Symbol) (at last : ℕ) → in_global globals line name s at ≡ Stopped last → at ≡ last
in_global_stops globals line None (NAME x) at last h = absurd (cc)
in_global_stops globals line (Some x) NL at last h = absurd (cc)
in_global_stops globals line name s at last h = cc

-- after the name of a unit
unit_named_stops : (b : Reading) (s : Symbol) (at last : ℕ) → unit_named b s at ≡ Stopped last → at ≡ last
unit_named_stops b (MARK Colon) at last h = absurd (cc)
unit_named_stops b s at last h = cc

-- after its colon
headed_stops : (b : Reading) (broken : Bool) (s : Symbol) (at last : ℕ) → headed b broken s at ≡ Stopped last → at ≡ last
headed_stops b broken (WORD BeginWord) at last h = absurd (cc)
headed_stops b true NL at last h = absurd (cc)
headed_stops b broken s at last h = cc

-- after `begin`
begun_stops : (b : Reading) (s : Symbol) (at last : ℕ) → begun b s at ≡ Stopped last → at ≡ last
begun_stops b NL at last h = absurd (cc)
begun_stops b s at last h = cc

-- between two instructions
inside_stops : (b : Reading) (colon : Bool) (s : Symbol) (at last : ℕ) → inside b colon s at ≡ Stopped last → at ≡ last
inside_stops b colon (WORD EndWord) at last h = absurd (cc)
inside_stops b true NL at last h = absurd (cc)
inside_stops b colon s at last h = after_stops b at at (fresh s) last h

-- after `end`
after_end_stops : (b : Reading) (s : Symbol) (at last : ℕ) → after_end b s at ≡ Stopped last → at ≡ last
after_end_stops b NL at last h = absurd (cc)
after_end_stops b s at last h = cc

-- at each place in a unit
spot_stops : (b : Reading) (spot : Spot) (s : Symbol) (at last : ℕ) → spot_step b spot s at ≡ Stopped last → at ≡ last
spot_stops b UnitNamed s at last h = unit_named_stops b s at last h
spot_stops b (Headed broken) s at last h = headed_stops b broken s at last h
spot_stops b Begun s at last h = begun_stops b s at last h
spot_stops b (Inside colon) s at last h = inside_stops b colon s at last h
spot_stops b (Mid line p) s at last h = after_stops b line at (part_step p s) last h
spot_stops b AfterEnd s at last h = after_end_stops b s at last h

-- in every state
step_stops : (st : ReadSoFar) (t : Terminal) (last : ℕ) → (HasBadToken st → ⊥) → read_step st t ≡ Stopped last → t.line ≡ last
step_stops (Outside units) t last good h = outside_stops units t.symbol t.line last h
step_stops (InGlobal globals line name) t last good h = in_global_stops globals line name t.symbol t.line last h
step_stops (In b spot) t last good h = spot_stops b spot t.symbol t.line last h
step_stops (Stopped line) t last good h = absurd (good tt)

-- a token that can stand there does not change which token is the first that cannot
stops_later : (t : Terminal) (ts : List Terminal) (st next : ReadSoFar) (line : ℕ) → read_step st t ≡ next → StopsAt (read_step st t) ts line → StopsAt st (t ∷ ts) line
stops_later t ts st next line is found = record {
  prefix = t ∷ found.prefix;
  bad = found.bad;
  remainder = found.remainder;
  tokens = ap (λ (l : List Terminal). t ∷ l) found.tokens;
  good = found.good;
  stopped = found.stopped;
  at = found.at;
}

-- the first token, where it cannot stand there, or one of the others
stops_at : (t : Terminal) (ts : List Terminal) (st next : ReadSoFar) (line : ℕ) → (HasBadToken st → ⊥) → read_step st t ≡ next → fold read_step (read_step st t) ts ≡ Stopped line → ((HasBadToken (read_step st t) → ⊥) → StopsAt (read_step st t) ts line) → StopsAt st (t ∷ ts) line
stops_at t ts st (Outside units) line good is h later = stops_later t ts st (Outside units) line is (later (λ stopped. subst HasBadToken is stopped))
stops_at t ts st (InGlobal globals n name) line good is h later = stops_later t ts st (InGlobal globals n name) line is (later (λ stopped. subst HasBadToken is stopped))
stops_at t ts st (In b spot) line good is h later = stops_later t ts st (In b spot) line is (later (λ stopped. subst HasBadToken is stopped))
stops_at t ts st (Stopped n) line good is h later =
    let same : n ≡ line = let e = sym (ap (λ (s : ReadSoFar). fold read_step s ts) is ∙ stopped_run n ts) ∙ h in cc in
    record {
      prefix = [];
      bad = t;
      remainder = ts;
      tokens = refl;
      good = good;
      stopped = is ∙ ap (λ (n : ℕ). Stopped n) same;
      at = step_stops st t line good (is ∙ ap (λ (n : ℕ). Stopped n) same);
    }

-- the first token that cannot stand where it stands
first_stopped : (ts : List Terminal) (st : ReadSoFar) (line : ℕ) → (HasBadToken st → ⊥) → fold read_step st ts ≡ Stopped line → StopsAt st ts line
first_stopped [] st line good h = absurd (good (subst HasBadToken (sym h) tt))
first_stopped (t ∷ ts) st line good h = stops_at t ts st (read_step st t) line good refl h (λ good. first_stopped ts (read_step st t) line good h)

-- where the reader stopped, its line is that of the first token that no text has there
pub stopped_unexpected : (ts : List Terminal) (line : ℕ) → reads ts ≡ Stopped line → IsUnexpected ts line
stopped_unexpected ts line h =
    let d = first_stopped ts (Outside (globals_alone [])) line (λ stopped. stopped) h in
    record {
      prefix = d.prefix;
      bad = d.bad;
      remainder = d.remainder;
      tokens = d.tokens;
      good = good_prefix d.prefix d.good;
      no_prefix = λ prefix. prefix_good (d.prefix ++ d.bad ∷ []) line prefix d.stopped;
      at = d.at;
    }

-- and the other way
pub unexpected_stopped : (ts : List Terminal) (line : ℕ) → IsUnexpected ts line → reads ts ≡ Stopped line
unexpected_stopped ts line h = now (fold read_step (Outside (globals_alone [])) (h.prefix ++ h.bad ∷ [])) refl
  where
    whole : h.prefix ++ h.bad ∷ h.remainder ≡ (h.prefix ++ h.bad ∷ []) ++ h.remainder
    whole = sym (append_assoc h.prefix (h.bad ∷ []) h.remainder)

    now : (st : ReadSoFar) → reads (h.prefix ++ h.bad ∷ []) ≡ st → reads ts ≡ Stopped line
    now (Outside units) is = absurd (h.no_prefix (good_prefix (h.prefix ++ h.bad ∷ []) (λ stopped. subst HasBadToken is stopped)))
    now (InGlobal globals line name) is = absurd (h.no_prefix (good_prefix (h.prefix ++ h.bad ∷ []) (λ stopped. subst HasBadToken is stopped)))
    now (In b spot) is = absurd (h.no_prefix (good_prefix (h.prefix ++ h.bad ∷ []) (λ stopped. subst HasBadToken is stopped)))
    now (Stopped n) is =
        let last : read_step (reads h.prefix) h.bad ≡ Stopped n = sym (fold-append read_step (Outside (globals_alone [])) h.prefix (h.bad ∷ [])) ∙ is in
        let same : h.bad.line ≡ n = step_stops (reads h.prefix) h.bad n (λ stopped. prefix_stands (reads h.prefix) refl stopped) last in
        ap reads (h.tokens ∙ whole) ∙ fold-append read_step (Outside (globals_alone [])) (h.prefix ++ h.bad ∷ []) h.remainder ∙ ap (λ (st : ReadSoFar). fold read_step st h.remainder) is ∙ stopped_run n h.remainder
        ∙ ap (λ (n : ℕ). Stopped n) (sym same ∙ h.at)
      where
        prefix_stands : (st : ReadSoFar) → reads h.prefix ≡ st → HasBadToken st → ⊥
        prefix_stands (Outside units) is stopped = stopped
        prefix_stands (InGlobal globals line name) is stopped = stopped
        prefix_stands (In b spot) is stopped = stopped
        prefix_stands (Stopped n) is stopped = prefix_good h.prefix n h.good is

-- what is read to the end of a unit is a text
pub outside_text : (ts : List Terminal) (units : Raw) → reads ts ≡ Outside units → IsText ts units
outside_text ts units h = subst (λ (st : ReadSoFar). IsReadFrom st ts) h (reads_keeps ts)

-- what is read to a place in a unit ends there
pub inside_unfinished : (ts : List Terminal) (b : Reading) (spot : Spot) → reads ts ≡ In b spot → IsUnfinished ts
inside_unfinished ts b spot h = (
  good_prefix ts (λ stopped. subst HasBadToken h stopped),
  λ units text. let same = sym h ∙ text_run ts units text in absurd (cc),
)

-- and so is what is read to a place in a global line
pub line_unfinished : (ts : List Terminal) (globals : List RawGlobal) (line : ℕ) (name : Option (List ℕ)) → reads ts ≡ InGlobal globals line name → IsUnfinished ts
line_unfinished ts globals line name h = (
  good_prefix ts (λ stopped. subst HasBadToken h stopped),
  λ raw text. let same = sym h ∙ text_run ts raw text in absurd (cc),
)

-- ---- the state after all tokens, as each clause of `parse` asks: outside a unit, stopped, or in one

-- the units that were read are all that the tokens spell
pub outside_only : (ts : List Terminal) (units : Raw) → Outside units ≡ reads ts → (us : Raw) → IsText ts us → units ≡ us
outside_only ts units h us text = let same = h ∙ text_run ts us text in cc

-- a state outside a unit has read no unexpected token
pub outside_unexpected : (ts : List Terminal) (units : Raw) → Outside units ≡ reads ts → (line : ℕ) → IsUnexpected ts line → ⊥
outside_unexpected ts units h line is = let same = h ∙ unexpected_stopped ts line is in absurd (cc)

-- nor do the tokens end in a unit
pub outside_unfinished : (ts : List Terminal) (units : Raw) → Outside units ≡ reads ts → IsUnfinished ts → ⊥
outside_unfinished ts units h is = is.1 units (outside_text ts units (sym h))

-- tokens at which the reader stops are no text
pub stopped_only : (ts : List Terminal) (line : ℕ) → Stopped line ≡ reads ts → (us : Raw) → IsText ts us → ⊥
stopped_only ts line h us text = let same = h ∙ text_run ts us text in absurd (cc)

-- the line at which the reader stops is that of the unexpected token
pub stopped_line : (ts : List Terminal) (line : ℕ) → Stopped line ≡ reads ts → (other : ℕ) → IsUnexpected ts other → line ≡ other
stopped_line ts line h other is = let same = h ∙ unexpected_stopped ts other is in cc

-- such tokens do not end in a unit
pub stopped_unfinished : (ts : List Terminal) (line : ℕ) → Stopped line ≡ reads ts → IsUnfinished ts → ⊥
stopped_unfinished ts line h is = prefix_good ts line is.0 (sym h)

-- tokens that leave the state in a unit are no text
pub in_only : (ts : List Terminal) (b : Reading) (spot : Spot) → In b spot ≡ reads ts → (us : Raw) → IsText ts us → ⊥
in_only ts b spot h us text = let same = h ∙ text_run ts us text in absurd (cc)

-- and none of them is unexpected
pub in_unexpected : (ts : List Terminal) (b : Reading) (spot : Spot) → In b spot ≡ reads ts → (line : ℕ) → IsUnexpected ts line → ⊥
in_unexpected ts b spot h line is = let same = h ∙ unexpected_stopped ts line is in absurd (cc)

-- no tokens spell two raw programs
pub text_same : (ts : List Terminal) (one other : Raw) → IsText ts one → IsText ts other → one ≡ other
text_same ts one other is also = let same = sym (text_run ts one is) ∙ text_run ts other also in cc

-- tokens that leave the state in a global line are no text
pub line_only : (ts : List Terminal) (globals : List RawGlobal) (line : ℕ) (name : Option (List ℕ)) → InGlobal globals line name ≡ reads ts → (us : Raw) → IsText ts us → ⊥
line_only ts globals line name h us text = let same = h ∙ text_run ts us text in absurd (cc)

-- and none of them is unexpected
pub line_unexpected : (ts : List Terminal) (globals : List RawGlobal) (line : ℕ) (name : Option (List ℕ)) → InGlobal globals line name ≡ reads ts → (other : ℕ) → IsUnexpected ts other → ⊥
line_unexpected ts globals line name h other is = let same = h ∙ unexpected_stopped ts other is in absurd (cc)
