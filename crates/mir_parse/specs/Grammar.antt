-- The grammar. Each rule stands above the definition that says it; `NL` is a line end, quoted words are reserved words
-- or marks, braces mean any number of times and brackets at most once. Cited by contracts.
use Rattle.std.specs.Prelude.{ℕ, ◌≡◌, ◌⊎◌, List, [], ◌∷◌, ◌++◌, length, map, codes, Option, None, Some}
use Rattle.mir_base.specs.declared.operators.Op.{Op}
use Rattle.mir_base.specs.declared.operators.Op.TheVariants.{Add, Sub, Mul, Div, Mod, Min, Max, Eq, Ne, Lt, Le, Gt, Ge, Shl, Shr, Shra, And, Or, Xor}
use Rattle.mir_base.specs.declared.operators.UnOp.{UnOp}
use Rattle.mir_base.specs.declared.operators.UnOp.TheVariants.{Neg, Not}
use Rattle.mir_base.specs.declared.operators.RelOp.{RelOp}
use Rattle.mir_base.specs.Operators.{op_of_relation}
use Rattle.mir_lex.specs.declared.terminals.Symbol.{Symbol}
use Rattle.mir_lex.specs.declared.terminals.Symbol.TheVariants.{Name as NAME, Word as WORD, Number as NUMBER, Mark as MARK, LineEnd as NL}
use Rattle.mir_lex.specs.declared.terminals.Terminal.{Terminal}
use Rattle.mir_lex.specs.Terminals.{terminals}
use Rattle.mir_lex.specs.Tokens.{TokensShape}
use Rattle.mir_lex.specs.declared.words.Mark.TheVariants.{Colon, Comma, Semicolon, LeftParen, RightParen, Plus, Minus, Star, Slash, Equal, NotEqual, Less, LessEqual, Greater, GreaterEqual, Bang, Arrow}
use Rattle.mir_base.specs.declared.words.Word.TheVariants.{Begin as BeginWord, End as EndWord, Receive as ReceiveWord, Goto as GotoWord, If as IfWord, Trap as TrapWord, Global as GlobalWord, Call as CallWord, Return as ReturnWord, Print as PrintWord, Mod as ModWord, Min as MinWord, Max as MaxWord, Shl as ShlWord, Shr as ShrWord, Shra as ShraWord, And as AndWord, Or as OrWord, Xor as XorWord}
use Rattle.mir_parse.specs.declared.raw.RawOperand.{RawOperand}
use Rattle.mir_parse.specs.declared.raw.RawOperand.TheVariants.{Var, Const}
use Rattle.mir_parse.specs.declared.raw.RawRhs.{RawRhs}
use Rattle.mir_parse.specs.declared.raw.RawRhs.TheVariants.{Plain, Unary, Binary}
use Rattle.mir_parse.specs.declared.raw.RawTest.{RawTest}
use Rattle.mir_parse.specs.declared.raw.RawTest.TheVariants.{Rel, Holds, Fails}
use Rattle.mir_parse.specs.declared.raw.RawForm.{RawForm}
use Rattle.mir_parse.specs.declared.raw.RawForm.TheVariants.{Receive, Assign, Goto, If, TrapIf, Call, Print, Return}
use Rattle.mir_parse.specs.declared.raw.RawInst.{RawInst}
use Rattle.mir_parse.specs.declared.raw.RawLabel.{RawLabel}
use Rattle.mir_parse.specs.declared.raw.RawGlobal.{RawGlobal}
use Rattle.mir_parse.specs.declared.raw.Raw.{Raw}
use Rattle.mir_parse.specs.RawParts.{globals_alone, raw_with_unit}
use Rattle.mir_parse.specs.RawUnit.{RawUnitShape}

-- ---- operands and operators

-- operand = NAME | NUMBER
abbrev pub operand_symbol : RawOperand → Symbol
operand_symbol (Var x) = NAME x
operand_symbol (Const z) = NUMBER z

-- binop = relop | "+" | "-" | "*" | "/" | "mod" | "min" | "max" | "shl" | "shr" | "shra" | "and" | "or" | "xor"
abbrev pub binop_symbol : Op → Symbol
binop_symbol Add = MARK Plus
binop_symbol Sub = MARK Minus
binop_symbol Mul = MARK Star
binop_symbol Div = MARK Slash
binop_symbol Mod = WORD ModWord
binop_symbol Min = WORD MinWord
binop_symbol Max = WORD MaxWord
binop_symbol Eq = MARK Equal
binop_symbol Ne = MARK NotEqual
binop_symbol Lt = MARK Less
binop_symbol Le = MARK LessEqual
binop_symbol Gt = MARK Greater
binop_symbol Ge = MARK GreaterEqual
binop_symbol Shl = WORD ShlWord
binop_symbol Shr = WORD ShrWord
binop_symbol Shra = WORD ShraWord
binop_symbol And = WORD AndWord
binop_symbol Or = WORD OrWord
binop_symbol Xor = WORD XorWord

-- relop = "=" | "!=" | "<" | "<=" | ">" | ">="; a relation is spelled as the operator of the same name
abbrev pub relop_symbol : RelOp → Symbol
relop_symbol relation = binop_symbol (op_of_relation relation)

-- the mark of an operator on one operand
abbrev pub unop_symbol : UnOp → Symbol
unop_symbol Neg = MARK Minus
unop_symbol Not = MARK Bang

-- ---- instructions

-- rhs = operand | "-" operand | "!" operand | operand binop operand
abbrev pub rhs_symbols : RawRhs → List Symbol
rhs_symbols (Plain a) = operand_symbol a ∷ []
rhs_symbols (Unary op a) = unop_symbol op ∷ operand_symbol a ∷ []
rhs_symbols (Binary op a b) = operand_symbol a ∷ binop_symbol op ∷ operand_symbol b ∷ []

-- test = operand relop operand | operand | "!" operand
abbrev pub test_symbols : RawTest → List Symbol
test_symbols (Rel op a b) = operand_symbol a ∷ relop_symbol op ∷ operand_symbol b ∷ []
test_symbols (Holds a) = operand_symbol a ∷ []
test_symbols (Fails a) = MARK Bang ∷ operand_symbol a ∷ []

-- { ";" operand "," int }
abbrev pub more_symbols : List RawOperand → List Symbol
more_symbols [] = []
more_symbols (a ∷ args) =
    MARK Semicolon ∷ operand_symbol a ∷ MARK Comma ∷ NAME (codes "int") ∷ more_symbols args

-- args = "(" [ operand "," int { ";" operand "," int } ] ")", here without the last token
abbrev pub open_args : List RawOperand → List Symbol
open_args [] = MARK LeftParen ∷ []
open_args (a ∷ args) =
    MARK LeftParen ∷ operand_symbol a ∷ MARK Comma ∷ NAME (codes "int") ∷ more_symbols args

-- the arguments of a call with their types, and the end of the call
abbrev pub args_symbols : List RawOperand → List Symbol
args_symbols args = open_args args ++ MARK RightParen ∷ []

-- what stands before the name of the called unit: "call" | NAME arrow ["call"]
abbrev pub IsCallStart : List Symbol → Option (List ℕ) → Type 0
IsCallStart ss None = ss ≡ WORD CallWord ∷ []
IsCallStart ss (Some x) = (ss ≡ NAME x ∷ MARK Arrow ∷ [])
    ⊎ (ss ≡ NAME x ∷ MARK Arrow ∷ WORD CallWord ∷ [])

-- inst = "receive" NAME "(" val ")"
--      | NAME arrow rhs
--      | "goto" NAME
--      | "if" test "goto" NAME
--      | "if" test "trap" NUMBER
--      | NAME arrow ["call"] NAME "," args
--      | "call" NAME "," args
--      | "print" operand
--      | "return" [operand]
abbrev pub IsForm : List Symbol → RawForm → Type 0
IsForm ss (Receive x) = ss
    ≡ WORD ReceiveWord ∷ NAME x ∷ MARK LeftParen ∷ NAME (codes "val") ∷ MARK RightParen ∷ []
IsForm ss (Assign x rhs) = ss ≡ NAME x ∷ MARK Arrow ∷ rhs_symbols rhs
IsForm ss (Goto l) = ss ≡ WORD GotoWord ∷ NAME l ∷ []
IsForm ss (If test l) = ss ≡ WORD IfWord ∷ test_symbols test ++ WORD GotoWord ∷ NAME l ∷ []
IsForm ss (TrapIf test n) = ss ≡ WORD IfWord ∷ test_symbols test ++ WORD TrapWord ∷ NUMBER n ∷ []
IsForm ss (Call x f args) = (start : List Symbol) × IsCallStart start x
    × (ss ≡ start ++ NAME f ∷ MARK Comma ∷ args_symbols args)
IsForm ss (Print a) = ss ≡ WORD PrintWord ∷ operand_symbol a ∷ []
IsForm ss (Return None) = ss ≡ WORD ReturnWord ∷ []
IsForm ss (Return (Some a)) = ss ≡ WORD ReturnWord ∷ operand_symbol a ∷ []

-- ---- tokens with lines

-- the tokens of a text as the grammar reads them
abbrev pub terminals_of : TokensShape → List Terminal
terminals_of tokens = terminals tokens.text tokens.items

-- the terminal symbols of tokens
abbrev pub symbols : List Terminal → List Symbol
symbols ts = map (λ t. t.symbol) ts

-- the first token stands on this line
abbrev pub StartsAt : List Terminal → ℕ → Type 0
StartsAt [] line = ⊥
StartsAt (t ∷ ts) line = t.line ≡ line

-- the tokens are these symbols, the first of them on this line
pub record Are (ts : List Terminal) (line : ℕ) (ss : List Symbol) : Type 0 where
  pub spelled : symbols ts ≡ ss
  pub starts : StartsAt ts line

-- [NL]
abbrev pub IsBreak : List Symbol → Type 0
IsBreak ss = (ss ≡ []) ⊎ (ss ≡ NL ∷ [])

-- label = NAME ":" [NL]
pub record IsLabel (ts : List Terminal) (label : RawLabel) : Type 0 where
  pub «break» : List Symbol
  pub is_break : IsBreak «break»
  pub are : Are ts label.line (NAME label.name ∷ MARK Colon ∷ «break»)

-- inst NL
pub record IsInst (ts : List Terminal) (inst : RawInst) : Type 0 where
  pub form : List Symbol
  pub is_form : IsForm form inst.form
  pub are : Are ts inst.line (form ++ NL ∷ [])

-- ---- units

-- body = { {label} inst NL } {label}: labels and instructions in any order, here with the last one last; a label stands
-- at the place of the next instruction
pub data Body : List Terminal → List RawLabel → List RawInst → Type 0 where
  bare : Body [] [] []
  label : {ts us : List Terminal} {labels : List RawLabel} {body : List RawInst} (l : RawLabel)
      → Body ts labels body
      → IsLabel us l → l.place ≡ length body → Body (ts ++ us) (labels ++ l ∷ []) body
  inst : {ts us : List Terminal} {labels : List RawLabel} {body : List RawInst} (i : RawInst)
      → Body ts labels body
      → IsInst us i → Body (ts ++ us) labels (body ++ i ∷ [])

-- NAME ":" [NL] "begin" NL
pub record IsHead (ts : List Terminal) (name : List ℕ) (line : ℕ) : Type 0 where
  pub «break» : List Symbol
  pub is_break : IsBreak «break»
  pub are : Are ts line (NAME name ∷ MARK Colon ∷ «break» ++ WORD BeginWord ∷ NL ∷ [])

-- unit = NAME ":" [NL] "begin" NL body "end" NL
pub record IsUnit (ts : List Terminal) (unit : RawUnitShape) : Type 0 where
  pub head : List Terminal
  pub body : List Terminal
  pub tail : List Terminal
  pub is_head : IsHead head unit.name unit.line
  pub is_body : Body body unit.labels unit.body
  pub is_tail : symbols tail ≡ WORD EndWord ∷ NL ∷ []
  pub text : ts ≡ head ++ body ++ tail

-- "global" NAME NL
abbrev pub IsGlobal : List Terminal → RawGlobal → Type 0
IsGlobal ts global = Are ts global.line (WORD GlobalWord ∷ NAME global.name ∷ NL ∷ [])

-- text = { "global" NAME NL } { unit }, here with the last global line and the last unit last
pub data IsText : List Terminal → Raw → Type 0 where
  no_unit : IsText [] (globals_alone [])
  global_line : {ts us : List Terminal} {globals : List RawGlobal} (g : RawGlobal)
      → IsText ts (globals_alone globals)
      → IsGlobal us g → IsText (ts ++ us) (globals_alone (globals ++ g ∷ []))
  more : {ts us : List Terminal} {raw : Raw} (u : RawUnitShape) → IsText ts raw → IsUnit us u
      → IsText (ts ++ us) (raw_with_unit raw u)

-- ---- refusals

-- the tokens are a prefix of a text of the grammar
abbrev pub IsTextPrefix : List Terminal → Type 0
IsTextPrefix ts = (remainder : List Terminal) × (raw : Raw) × IsText (ts ++ remainder) raw

-- the first token that makes the tokens up to it no prefix of a text stands on this line
pub record IsUnexpected (ts : List Terminal) (line : ℕ) : Type 0 where
  pub prefix : List Terminal
  pub bad : Terminal
  pub remainder : List Terminal
  pub tokens : ts ≡ prefix ++ bad ∷ remainder
  pub good : IsTextPrefix prefix
  pub no_prefix : IsTextPrefix (prefix ++ bad ∷ []) → ⊥
  pub at : bad.line ≡ line

-- the tokens are a prefix of a text, and no text
abbrev pub IsUnfinished : List Terminal → Type 0
IsUnfinished ts = IsTextPrefix ts × ((raw : Raw) → IsText ts raw → ⊥)

-- ---- laws

-- the tokens spell at most one raw program
abbrev pub TextIsUnique : List Terminal → Type 0
TextIsUnique ts = (one other : Raw) → IsText ts one → IsText ts other → one ≡ other
