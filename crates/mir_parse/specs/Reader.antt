-- The reader: what each token makes of what was read before it. A comment names what stands before the token. Cited by
-- contracts of functions that are not public.
use Rattle.std.specs.Prelude.{◌≡◌, slice_get, Result, IfOk, ℕ, ℤ, Bool, true, false, List, [], ◌∷◌, ◌++◌, fold, codes, option_map, Option, None, Some, if◌then◌else◌}
use Rattle.mir_base.specs.declared.operators.Op.{Op}
use Rattle.mir_base.specs.declared.operators.Op.TheVariants.{Add, Sub, Mul, Div, Mod, Min, Max, Shl, Shr, Shra, And, Or, Xor}
use Rattle.mir_base.specs.Operators.{op_of_relation}
use Rattle.mir_base.specs.declared.operators.UnOp.TheVariants.{Neg, Not}
use Rattle.mir_base.specs.declared.operators.RelOp.{RelOp}
use Rattle.mir_base.specs.declared.operators.RelOp.TheVariants.{Eq as IsEq, Ne as IsNe, Lt as IsLt, Le as IsLe, Gt as IsGt, Ge as IsGe}
use Rattle.mir_lex.specs.declared.terminals.Symbol.{Symbol}
use Rattle.mir_lex.specs.declared.terminals.Symbol.TheVariants.{Name as NAME, Word as WORD, Number as NUMBER, Mark as MARK, LineEnd as NL}
use Rattle.mir_lex.specs.declared.terminals.Terminal.{Terminal}
use Rattle.mir_lex.specs.declared.words.Mark.{Mark}
use Rattle.mir_lex.specs.declared.words.Mark.TheVariants.{Colon, Comma, Semicolon, LeftParen, RightParen, Plus, Minus, Star, Slash, Equal, NotEqual, Less, LessEqual, Greater, GreaterEqual, Bang, Arrow}
use Rattle.mir_base.specs.Words.{is_text}
use Rattle.mir_base.specs.declared.words.Word.{Word}
use Rattle.mir_base.specs.declared.words.Word.TheVariants.{Begin as BeginWord, End as EndWord, Receive as ReceiveWord, Goto as GotoWord, If as IfWord, Trap as TrapWord, Global as GlobalWord, Call as CallWord, Return as ReturnWord, Print as PrintWord, Mod as ModWord, Min as MinWord, Max as MaxWord, Shl as ShlWord, Shr as ShrWord, Shra as ShraWord, And as AndWord, Or as OrWord, Xor as XorWord}
use Rattle.mir_parse.specs.declared.raw.RawOperand.{RawOperand}
use Rattle.mir_parse.specs.declared.raw.RawOperand.TheVariants.{Var, Const}
use Rattle.mir_parse.specs.declared.raw.RawRhs.TheVariants.{Plain, Unary, Binary}
use Rattle.mir_parse.specs.declared.raw.RawTest.{RawTest}
use Rattle.mir_parse.specs.declared.raw.RawTest.TheVariants.{Rel, Holds, Fails}
use Rattle.mir_parse.specs.declared.raw.RawForm.{RawForm}
use Rattle.mir_parse.specs.declared.raw.RawForm.TheVariants.{Receive, Assign, Goto, If, TrapIf, Call, Print, Return}
use Rattle.mir_parse.specs.declared.raw.RawGlobal.{RawGlobal}
use Rattle.mir_parse.specs.declared.raw.Raw.{Raw}
use Rattle.mir_parse.specs.RawParts.{globals_alone, raw_with_unit}
use Rattle.mir_parse.specs.RawUnit.{RawUnitShape, empty_unit, unit_with_inst, unit_with_label}
use Rattle.mir_parse.specs.declared.so_far.Hole.{Hole}
use Rattle.mir_parse.specs.declared.so_far.Hole.TheVariants.{Unary as OfUnary, Binary as OfBinary, Arg as OfArg, Fails as OfFails, Rel as OfRel, Print as OfPrint}
use Rattle.mir_parse.specs.declared.so_far.Part.{Part}
use Rattle.mir_parse.specs.declared.so_far.Part.TheVariants.{Fresh, Receive as PReceive, ReceiveName, ReceiveOpen, ReceiveVal, Named, Arrowed, PlainName, PlainNumber, Wants, Call as PCall, Callee, Opening, FirstArg, Given, Typing, Typed, Goto as PGoto, If as PIf, IfOperand, Tested, IfGoto, IfTrap, Return as PReturn, Full}
use Rattle.mir_parse.specs.declared.so_far.Spot.{Spot}
use Rattle.mir_parse.specs.declared.so_far.Spot.TheVariants.{Named as UnitNamed, Headed, Begun, Inside, Mid, AfterEnd}
use Rattle.mir_parse.specs.declared.so_far.Reading.{Reading}
use Rattle.mir_parse.specs.declared.so_far.ReadSoFar.{ReadSoFar}
use Rattle.mir_parse.specs.declared.so_far.Progress.{Progress}
use Rattle.mir_parse.specs.declared.so_far.Progress.TheVariants.{Goes, Ends, Stops}
use Rattle.mir_parse.specs.declared.so_far.ReadSoFar.TheVariants.{Outside, Global as InGlobal, In, Stopped}

-- what a token makes of a part of an instruction
pub data Next : Type 0 where
  -- it cannot stand there
  No : Next
  -- a longer part
  Go : (part : Part) → Next
  -- the whole instruction
  Done : (form : RawForm) → Next
  -- the part was a name and is a label
  Label : (name : List ℕ) → Next

-- the same of a part that is changed where it stands, by its progress
abbrev pub next_by : Progress → Part → Next
next_by Goes part = Go part
next_by Ends (Full form) = Done form
next_by Ends (Named name) = Label name
next_by Ends part = No
next_by Stops part = No

-- a token by which the part progressed made this of it
abbrev pub PartBecomes : Part → Next → Progress → Type 0
PartBecomes part next progress = next_by progress part ≡ next

-- the part that the first token of an instruction makes
abbrev pub first_part : Option Part → Next
first_part None = No
first_part (Some part) = Go part

-- the relation that a mark names in a test
abbrev pub relop_of_mark : Mark → Option RelOp
relop_of_mark Equal = Some IsEq
relop_of_mark NotEqual = Some IsNe
relop_of_mark Less = Some IsLt
relop_of_mark LessEqual = Some IsLe
relop_of_mark Greater = Some IsGt
relop_of_mark GreaterEqual = Some IsGe
relop_of_mark mark = None

-- the operator on two operands that a mark names
abbrev pub op_of_mark : Mark → Option Op
op_of_mark Plus = Some Add
op_of_mark Minus = Some Sub
op_of_mark Star = Some Mul
op_of_mark Slash = Some Div
op_of_mark mark = option_map op_of_relation (relop_of_mark mark)

-- the operator on two operands that a reserved word names
abbrev pub op_of_word : Word → Option Op
op_of_word ModWord = Some Mod
op_of_word MinWord = Some Min
op_of_word MaxWord = Some Max
op_of_word ShlWord = Some Shl
op_of_word ShrWord = Some Shr
op_of_word ShraWord = Some Shra
op_of_word AndWord = Some And
op_of_word OrWord = Some Or
op_of_word XorWord = Some Xor
op_of_word word = None

-- the part with the operand in the place that waited for one
abbrev pub filled : Hole → RawOperand → Part
filled (OfUnary x op) operand = Full (Assign x (Unary op operand))
filled (OfBinary x op left) operand = Full (Assign x (Binary op left operand))
filled (OfArg x f args) operand = Given x f (args ++ operand ∷ [])
filled OfFails operand = Tested (Fails operand)
filled (OfRel op left) operand = Tested (Rel op left operand)
filled OfPrint operand = Full (Print operand)

-- a place where only an operand may stand
abbrev pub wants : Hole → Symbol → Next
wants hole (NAME x) = Go (filled hole (Var x))
wants hole (NUMBER z) = Go (filled hole (Const z))
wants hole symbol = No

-- a place where only this mark, which is `,`, `(` or `)`, may stand
abbrev pub mark_then : Mark → Part → Symbol → Next
mark_then Comma part (MARK Comma) = Go part
mark_then LeftParen part (MARK LeftParen) = Go part
mark_then RightParen part (MARK RightParen) = Go part
mark_then mark part symbol = No

-- a place where only this name may stand
abbrev pub name_then : List ℕ → Part → Symbol → Next
name_then x part (NAME y) = if is_text y x then Go part else No
name_then x part symbol = No

-- nothing: the first token of an instruction
abbrev pub fresh : Symbol → Next
fresh (NAME x) = Go (Named x)
fresh (WORD ReceiveWord) = Go PReceive
fresh (WORD GotoWord) = Go PGoto
fresh (WORD IfWord) = Go PIf
fresh (WORD CallWord) = Go (PCall None)
fresh (WORD PrintWord) = Go (Wants OfPrint)
fresh (WORD ReturnWord) = Go PReturn
fresh symbol = No

-- after `receive`
abbrev pub receive_word : Symbol → Next
receive_word (NAME x) = Go (ReceiveName x)
receive_word symbol = No

-- after a name at the start: it is a label or is assigned to
abbrev pub named : List ℕ → Symbol → Next
named x (MARK Colon) = Label x
named x (MARK Arrow) = Go (Arrowed x)
named x symbol = No

-- after `x <-`
abbrev pub arrowed : List ℕ → Symbol → Next
arrowed x (NAME y) = Go (PlainName x y)
arrowed x (NUMBER z) = Go (PlainNumber x z)
arrowed x (MARK Minus) = Go (Wants (OfUnary x Neg))
arrowed x (MARK Bang) = Go (Wants (OfUnary x Not))
arrowed x (WORD CallWord) = Go (PCall (Some x))
arrowed x symbol = No

-- an operator behind the first of two operands
abbrev pub binary_with : List ℕ → RawOperand → Option Op → Next
binary_with x a None = No
binary_with x a (Some op) = Go (Wants (OfBinary x op a))

-- after `x <- y`, where y may also be a unit that is called
abbrev pub plain_name : List ℕ → List ℕ → Symbol → Next
plain_name x y (MARK Comma) = Go (Opening (Some x) y)
plain_name x y (MARK mark) = binary_with x (Var y) (op_of_mark mark)
plain_name x y (WORD word) = binary_with x (Var y) (op_of_word word)
plain_name x y NL = Done (Assign x (Plain (Var y)))
plain_name x y symbol = No

-- after `x <- 1`
abbrev pub plain_number : List ℕ → ℤ → Symbol → Next
plain_number x z (MARK mark) = binary_with x (Const z) (op_of_mark mark)
plain_number x z (WORD word) = binary_with x (Const z) (op_of_word word)
plain_number x z NL = Done (Assign x (Plain (Const z)))
plain_number x z symbol = No

-- after `call`
abbrev pub call_word : Option (List ℕ) → Symbol → Next
call_word x (NAME f) = Go (Callee x f)
call_word x symbol = No

-- after the `(` of a call: its end, or the first argument
abbrev pub first_arg : Option (List ℕ) → List ℕ → Symbol → Next
first_arg x f (MARK RightParen) = Go (Full (Call x f []))
first_arg x f symbol = wants (OfArg x f []) symbol

-- after an argument and its type: one more argument, or the end of the call
abbrev pub typed : Option (List ℕ) → List ℕ → List RawOperand → Symbol → Next
typed x f args (MARK Semicolon) = Go (Wants (OfArg x f args))
typed x f args (MARK RightParen) = Go (Full (Call x f args))
typed x f args symbol = No

-- after `goto`
abbrev pub goto_word : Symbol → Next
goto_word (NAME label) = Go (Full (Goto label))
goto_word symbol = No

-- after `if`
abbrev pub if_word : Symbol → Next
if_word (NAME x) = Go (IfOperand (Var x))
if_word (NUMBER z) = Go (IfOperand (Const z))
if_word (MARK Bang) = Go (Wants OfFails)
if_word symbol = No

-- a relation behind the first operand of a test
abbrev pub rel_with : RawOperand → Option RelOp → Next
rel_with a None = No
rel_with a (Some op) = Go (Wants (OfRel op a))

-- after `if a`: the test is the operand, or a relation
abbrev pub if_operand : RawOperand → Symbol → Next
if_operand a (WORD GotoWord) = Go (IfGoto (Holds a))
if_operand a (WORD TrapWord) = Go (IfTrap (Holds a))
if_operand a (MARK mark) = rel_with a (relop_of_mark mark)
if_operand a symbol = No

-- after a whole test
abbrev pub tested : RawTest → Symbol → Next
tested test (WORD GotoWord) = Go (IfGoto test)
tested test (WORD TrapWord) = Go (IfTrap test)
tested test symbol = No

-- after `if test goto`
abbrev pub if_goto : RawTest → Symbol → Next
if_goto test (NAME label) = Go (Full (If test label))
if_goto test symbol = No

-- after `if test trap`
abbrev pub if_trap : RawTest → Symbol → Next
if_trap test (NUMBER n) = Go (Full (TrapIf test n))
if_trap test symbol = No

-- after `return`: an operand, or the end of the line
abbrev pub return_word : Symbol → Next
return_word (NAME x) = Go (Full (Return (Some (Var x))))
return_word (NUMBER z) = Go (Full (Return (Some (Const z))))
return_word NL = Done (Return None)
return_word symbol = No

-- after a whole instruction
abbrev pub full : RawForm → Symbol → Next
full f NL = Done f
full f symbol = No

-- what a token makes of each part of an instruction
abbrev pub part_step : Part → Symbol → Next
part_step Fresh symbol = fresh symbol
part_step PReceive symbol = receive_word symbol
part_step (ReceiveName x) symbol = mark_then LeftParen (ReceiveOpen x) symbol
part_step (ReceiveOpen x) symbol = name_then (codes "val") (ReceiveVal x) symbol
part_step (ReceiveVal x) symbol = mark_then RightParen (Full (Receive x)) symbol
part_step (Named x) symbol = named x symbol
part_step (Arrowed x) symbol = arrowed x symbol
part_step (PlainName x y) symbol = plain_name x y symbol
part_step (PlainNumber x z) symbol = plain_number x z symbol
part_step (Wants hole) symbol = wants hole symbol
part_step (PCall x) symbol = call_word x symbol
part_step (Callee x f) symbol = mark_then Comma (Opening x f) symbol
part_step (Opening x f) symbol = mark_then LeftParen (FirstArg x f) symbol
part_step (FirstArg x f) symbol = first_arg x f symbol
part_step (Given x f args) symbol = mark_then Comma (Typing x f args) symbol
part_step (Typing x f args) symbol = name_then (codes "int") (Typed x f args) symbol
part_step (Typed x f args) symbol = typed x f args symbol
part_step PGoto symbol = goto_word symbol
part_step PIf symbol = if_word symbol
part_step (IfOperand a) symbol = if_operand a symbol
part_step (Tested test) symbol = tested test symbol
part_step (IfGoto test) symbol = if_goto test symbol
part_step (IfTrap test) symbol = if_trap test symbol
part_step PReturn symbol = return_word symbol
part_step (Full f) symbol = full f symbol

-- what was read whole, and a unit of which only the name was read
abbrev pub begin_unit : Raw → List ℕ → ℕ → Reading
begin_unit whole name line = record { whole = whole; unit = empty_unit name line }

-- the unit that is read, with one more instruction
abbrev pub with_inst : Reading → ℕ → RawForm → Reading
with_inst reading line form = record reading { unit = unit_with_inst reading.unit line form }

-- the unit that is read, with one more label
abbrev pub with_label : Reading → ℕ → List ℕ → Reading
with_label reading line name = record reading { unit = unit_with_label reading.unit line name }

-- what a token on line `at` made of an instruction that began on `line`
abbrev pub reading_after : Reading → ℕ → ℕ → Next → ReadSoFar
reading_after reading line at No = Stopped at
reading_after reading line at (Go part) = In reading (Mid line part)
reading_after reading line at (Done form) = In (with_inst reading line form) (Inside false)
reading_after reading line at (Label name) = In (with_label reading line name) (Inside true)

-- the word `global`, which stands only where no unit was read yet
abbrev pub global_word : List RawGlobal → List RawUnitShape → ℕ → ReadSoFar
global_word globals [] at = InGlobal globals at None
global_word globals (unit ∷ units) at = Stopped at

-- between two global lines or units
abbrev pub outside : Raw → Symbol → ℕ → ReadSoFar
outside whole (NAME x) at = In (begin_unit whole x at) UnitNamed
outside whole (WORD GlobalWord) at = global_word whole.globals whole.units at
outside whole symbol at = Stopped at

-- in a global line that began on `line`, after `global` or after its name
abbrev pub in_global : List RawGlobal → ℕ → Option (List ℕ) → Symbol → ℕ → ReadSoFar
in_global globals line None (NAME x) at = InGlobal globals line (Some x)
in_global globals line (Some x) NL at =
    Outside (globals_alone (globals ++ record { name = x; line = line } ∷ []))
in_global globals line name symbol at = Stopped at

-- after the name of a unit
abbrev pub unit_named : Reading → Symbol → ℕ → ReadSoFar
unit_named reading (MARK Colon) at = In reading (Headed true)
unit_named reading symbol at = Stopped at

-- after the name and the colon of a unit
abbrev pub headed : Reading → Bool → Symbol → ℕ → ReadSoFar
headed reading after_colon (WORD BeginWord) at = In reading Begun
headed reading true NL at = In reading (Headed false)
headed reading after_colon symbol at = Stopped at

-- after `begin`
abbrev pub begun : Reading → Symbol → ℕ → ReadSoFar
begun reading NL at = In reading (Inside false)
begun reading symbol at = Stopped at

-- between two instructions
abbrev pub inside : Reading → Bool → Symbol → ℕ → ReadSoFar
inside reading after_colon (WORD EndWord) at = In reading AfterEnd
inside reading true NL at = In reading (Inside false)
inside reading after_colon symbol at = reading_after reading at at (fresh symbol)

-- after `end`
abbrev pub after_end : Reading → Symbol → ℕ → ReadSoFar
after_end reading NL at = Outside (raw_with_unit reading.whole reading.unit)
after_end reading symbol at = Stopped at

-- what a token makes of the unit that is read
abbrev pub spot_step : Reading → Spot → Symbol → ℕ → ReadSoFar
spot_step reading UnitNamed symbol at = unit_named reading symbol at
spot_step reading (Headed after_colon) symbol at = headed reading after_colon symbol at
spot_step reading Begun symbol at = begun reading symbol at
spot_step reading (Inside after_colon) symbol at = inside reading after_colon symbol at
spot_step reading (Mid line part) symbol at = reading_after reading line at (part_step part symbol)
spot_step reading AfterEnd symbol at = after_end reading symbol at

-- the state after a token by which the unit progressed so, with what was read and the place in it after the token
abbrev pub unit_progressed : Progress → Reading → Spot → ℕ → ReadSoFar
unit_progressed Goes reading spot at = In reading spot
unit_progressed Ends reading spot at = Outside (raw_with_unit reading.whole reading.unit)
unit_progressed Stops reading spot at = Stopped at

-- the unit progressed by the token so that this is the state after it, unless memory runs out
abbrev pub Progresses : {E : Type 0} → ReadSoFar → Reading → Spot → ℕ → Result Progress E → Type 0
Progresses state reading spot at result =
    IfOk result (λ progress. unit_progressed progress reading spot at ≡ state)

-- the same for a token that leaves what was read as it is
abbrev pub ProgressesEach : (Reading → ℕ → ReadSoFar) → Spot → Progress → Type 0
ProgressesEach step spot progress = (reading : Reading) → (at : ℕ)
    → unit_progressed progress reading spot at ≡ step reading at

-- what the progress of an instruction that began on a line made of its unit
abbrev pub AfterPart : {E : Type 0} → Progress → Reading → Spot → Reading → Spot → Result Progress E
    → Type 0
AfterPart progress reading (Mid line part) reading' spot' result =
    (at : ℕ)
    → Progresses (reading_after reading line at (next_by progress part))
    reading' spot' at result
AfterPart progress reading spot reading' spot' result = Unit {0}

-- the second state is what a token made of the first one, in a unit
abbrev pub state_progressed : Progress → ReadSoFar → ℕ → ReadSoFar → Type 0
state_progressed progress (In reading spot) at next = next
    ≡ unit_progressed progress reading spot at
state_progressed progress state at next = Unit {0}

-- what a token makes of what was read
abbrev pub read_step : ReadSoFar → Terminal → ReadSoFar
read_step (Outside whole) token = outside whole token.symbol token.line
read_step (InGlobal globals line name) token = in_global globals line name token.symbol token.line
read_step (In reading spot) token = spot_step reading spot token.symbol token.line
read_step (Stopped line) token = Stopped line

-- what was read after these tokens
abbrev pub reads : List Terminal → ReadSoFar
reads ts = fold read_step (Outside (globals_alone [])) ts

-- the second state is what the token of this number makes of the first one
abbrev pub HasStepped : List Terminal → ℕ → ReadSoFar → ReadSoFar → Type 0
HasStepped ts number state next = (terminal : Terminal) × (slice_get ts number ≡ Some terminal)
    × (next ≡ read_step state terminal)
