-- What a part of an instruction has read, and that each token keeps it.
use Rattle.std.proofs.Common.{option_map, ◌≡◌, ℕ, ℤ, Bool, List, [], ◌∷◌, ◌++◌, codes, Option, None, Some, refl, sym, ◌∙◌, ap, subst, append_assoc, inl, inr, if◌then◌else◌}
use Rattle.std.specs.Cmp.Lexicographic.{same_text}
use Rattle.std.proofs.lemmas.Bool.{cases_Bool}
use Rattle.mir_base.specs.declared.operators.Op.{Op}
use Rattle.mir_base.specs.declared.operators.RelOp.{RelOp}
use Rattle.mir_base.specs.Operators.{op_of_relation}
use Rattle.mir_lex.specs.declared.terminals.Symbol.{Symbol}
use Rattle.mir_lex.specs.declared.terminals.Symbol.TheVariants.{Name as NAME, Word as WORD, Number as NUMBER, Mark as MARK, LineEnd as NL}
use Rattle.mir_lex.specs.declared.words.Mark.{Mark}
use Rattle.mir_lex.specs.declared.words.Mark.TheVariants.{Colon, Comma, Semicolon, LeftParen, RightParen, Plus, Minus, Star, Slash, Equal, NotEqual, Less, LessEqual, Greater, GreaterEqual, Bang, Arrow}
use Rattle.mir_base.specs.Words.{is_text}
use Rattle.mir_base.specs.declared.words.Word.{Word}
use Rattle.mir_base.specs.declared.words.Word.TheVariants.{Receive as ReceiveWord, Goto as GotoWord, If as IfWord, Trap as TrapWord, Call as CallWord, Return as ReturnWord, Print as PrintWord, Mod as ModWord, Min as MinWord, Max as MaxWord, Shl as ShlWord, Shr as ShrWord, Shra as ShraWord, And as AndWord, Or as OrWord, Xor as XorWord}
use Rattle.mir_parse.specs.declared.raw.RawOperand.{RawOperand}
use Rattle.mir_parse.specs.declared.raw.RawOperand.TheVariants.{Var, Const}
use Rattle.mir_parse.specs.declared.raw.RawTest.{RawTest}
use Rattle.mir_parse.specs.declared.raw.RawForm.{RawForm}
use Rattle.mir_parse.specs.declared.raw.RawForm.TheVariants.{Receive}
use Rattle.mir_parse.specs.declared.so_far.Hole.{Hole}
use Rattle.mir_parse.specs.declared.so_far.Hole.TheVariants.{Unary as OfUnary, Binary as OfBinary, Arg as OfArg, Fails as OfFails, Rel as OfRel, Print as OfPrint}
use Rattle.mir_parse.specs.declared.so_far.Part.{Part}
use Rattle.mir_parse.specs.declared.so_far.Part.TheVariants.{Fresh, Receive as PReceive, ReceiveName, ReceiveOpen, ReceiveVal, Named, Arrowed, PlainName, PlainNumber, Wants, Call as PCall, Callee, Opening, FirstArg, Given, Typing, Typed, Goto as PGoto, If as PIf, IfOperand, Tested, IfGoto, IfTrap, Return as PReturn, Full}
use Rattle.mir_parse.specs.Reader.{Next, No, Go, Done, Label}
use Rattle.mir_parse.specs.Grammar.{operand_symbol, relop_symbol, binop_symbol, unop_symbol, test_symbols, more_symbols, open_args, IsCallStart, IsForm}
use Rattle.mir_parse.specs.Reader.{relop_of_mark, op_of_mark, op_of_word, filled, wants, mark_then, name_then, fresh, receive_word, named, arrowed, binary_with, plain_name, plain_number, call_word, first_arg, typed, goto_word, if_word, rel_with, if_operand, tested, if_goto, if_trap, return_word, full, part_step}

-- what stands before an argument, after those before it
abbrev pub until : List RawOperand → List Symbol
until [] = MARK LeftParen ∷ []
until (a ∷ args) = open_args (a ∷ args) ++ MARK Semicolon ∷ []

-- the symbols that were read before the operand in this place
abbrev pub ReadHole : Hole → List Symbol → Type 0
ReadHole (OfUnary x op) ss = ss ≡ NAME x ∷ MARK Arrow ∷ unop_symbol op ∷ []
ReadHole (OfBinary x op b) ss = ss ≡ NAME x ∷ MARK Arrow ∷ operand_symbol b ∷ binop_symbol op ∷ []
ReadHole (OfArg x f args) ss = (start : List Symbol) × IsCallStart start x × (ss ≡ start ++ (NAME f ∷ MARK Comma ∷ until args))
ReadHole OfFails ss = ss ≡ WORD IfWord ∷ MARK Bang ∷ []
ReadHole (OfRel op b) ss = ss ≡ WORD IfWord ∷ operand_symbol b ∷ relop_symbol op ∷ []
ReadHole OfPrint ss = ss ≡ WORD PrintWord ∷ []

-- the tokens up to an argument, and some after it
pub record Args (x : Option (List ℕ)) (f : List ℕ) (args : List RawOperand) (end : List Symbol) (ss : List Symbol) : Type 0 where
  pub start : List Symbol
  pub is_start : IsCallStart start x
  pub before : List RawOperand
  pub last : RawOperand
  pub args_are : args ≡ before ++ last ∷ []
  pub read : ss ≡ start ++ (NAME f ∷ MARK Comma ∷ until before ++ operand_symbol last ∷ end)

-- the symbols that were read up to this part
abbrev pub Read : Part → List Symbol → Type 0
Read Fresh ss = ss ≡ []
Read PReceive ss = ss ≡ WORD ReceiveWord ∷ []
Read (ReceiveName x) ss = ss ≡ WORD ReceiveWord ∷ NAME x ∷ []
Read (ReceiveOpen x) ss = ss ≡ WORD ReceiveWord ∷ NAME x ∷ MARK LeftParen ∷ []
Read (ReceiveVal x) ss = ss ≡ WORD ReceiveWord ∷ NAME x ∷ MARK LeftParen ∷ NAME (codes "val") ∷ []
Read (Named x) ss = ss ≡ NAME x ∷ []
Read (Arrowed x) ss = ss ≡ NAME x ∷ MARK Arrow ∷ []
Read (PlainName x y) ss = ss ≡ NAME x ∷ MARK Arrow ∷ NAME y ∷ []
Read (PlainNumber x z) ss = ss ≡ NAME x ∷ MARK Arrow ∷ NUMBER z ∷ []
Read (Wants h) ss = ReadHole h ss
Read (PCall x) ss = IsCallStart ss x
Read (Callee x f) ss = (start : List Symbol) × IsCallStart start x × (ss ≡ start ++ NAME f ∷ [])
Read (Opening x f) ss = (start : List Symbol) × IsCallStart start x × (ss ≡ start ++ NAME f ∷ MARK Comma ∷ [])
Read (FirstArg x f) ss = (start : List Symbol) × IsCallStart start x × (ss ≡ start ++ NAME f ∷ MARK Comma ∷ MARK LeftParen ∷ [])
Read (Given x f args) ss = Args x f args [] ss
Read (Typing x f args) ss = Args x f args (MARK Comma ∷ []) ss
Read (Typed x f args) ss = Args x f args (MARK Comma ∷ NAME (codes "int") ∷ []) ss
Read PGoto ss = ss ≡ WORD GotoWord ∷ []
Read PIf ss = ss ≡ WORD IfWord ∷ []
Read (IfOperand a) ss = ss ≡ WORD IfWord ∷ operand_symbol a ∷ []
Read (Tested t) ss = ss ≡ WORD IfWord ∷ test_symbols t
Read (IfGoto t) ss = ss ≡ WORD IfWord ∷ test_symbols t ++ WORD GotoWord ∷ []
Read (IfTrap t) ss = ss ≡ WORD IfWord ∷ test_symbols t ++ WORD TrapWord ∷ []
Read PReturn ss = ss ≡ WORD ReturnWord ∷ []
Read (Full f) ss = IsForm ss f

-- what a token made of a part says which symbols were read, that token last
abbrev pub KeepsSymbols : Next → List Symbol → Type 0
KeepsSymbols No ss = Unit {0}
KeepsSymbols (Go p) ss = Read p ss
KeepsSymbols (Done f) ss = (form : List Symbol) × IsForm form f × (ss ≡ form ++ NL ∷ [])
KeepsSymbols (Label x) ss = ss ≡ NAME x ∷ MARK Colon ∷ []

-- one more token
pub on : (ss l : List Symbol) (s : Symbol) → ss ≡ l → ss ++ s ∷ [] ≡ l ++ s ∷ []
on ss l s h = ap (λ (m : List Symbol). m ++ s ∷ []) h

-- one more token after a start
pub on_start : (ss start l : List Symbol) (s : Symbol) → ss ≡ start ++ l → ss ++ s ∷ [] ≡ start ++ (l ++ s ∷ [])
on_start ss start l s h = on ss (start ++ l) s h ∙ append_assoc start l (s ∷ [])

-- the part that follows a symbol says which symbols were read: at the start of an instruction
pub fresh_keeps : (s : Symbol) → KeepsSymbols (fresh s) (s ∷ [])
fresh_keeps (NAME x) = refl
fresh_keeps (WORD ReceiveWord) = refl
fresh_keeps (WORD GotoWord) = refl
fresh_keeps (WORD IfWord) = refl
fresh_keeps (WORD CallWord) = refl
fresh_keeps (WORD PrintWord) = refl
fresh_keeps (WORD ReturnWord) = refl
fresh_keeps s = tt

-- after `receive`
receive_word_keeps : (s : Symbol) (ss : List Symbol) → Read PReceive ss → KeepsSymbols (receive_word s) (ss ++ s ∷ [])
receive_word_keeps (NAME x) ss h = on ss _ (NAME x) h
receive_word_keeps s ss h = tt

-- after a name at the start: a result or a label
named_keeps : (x : List ℕ) (s : Symbol) (ss : List Symbol) → Read (Named x) ss → KeepsSymbols (named x s) (ss ++ s ∷ [])
named_keeps x (MARK Colon) ss h = on ss _ (MARK Colon) h
named_keeps x (MARK Arrow) ss h = on ss _ (MARK Arrow) h
named_keeps x s ss h = tt

-- after the arrow
arrowed_keeps : (x : List ℕ) (s : Symbol) (ss : List Symbol) → Read (Arrowed x) ss → KeepsSymbols (arrowed x s) (ss ++ s ∷ [])
arrowed_keeps x (NAME y) ss h = on ss _ (NAME y) h
arrowed_keeps x (NUMBER z) ss h = on ss _ (NUMBER z) h
arrowed_keeps x (MARK Minus) ss h = on ss _ (MARK Minus) h
arrowed_keeps x (MARK Bang) ss h = on ss _ (MARK Bang) h
arrowed_keeps x (WORD CallWord) ss h = inr (on ss _ (WORD CallWord) h)
arrowed_keeps x s ss h = tt

-- a token is the symbol of what was found for it, if anything was
abbrev pub IsFoundFor : {A : Type 0} → (A → Symbol) → Option A → Symbol → Type 0
IsFoundFor symbol_of None s = Unit {0}
IsFoundFor symbol_of (Some op) s = s ≡ symbol_of op

-- the relation that was found for a mark is spelled by this mark
mark_rel : (m : Mark) → IsFoundFor relop_symbol (relop_of_mark m) (MARK m)
mark_rel Equal = refl
mark_rel NotEqual = refl
mark_rel Less = refl
mark_rel LessEqual = refl
mark_rel Greater = refl
mark_rel GreaterEqual = refl
mark_rel m = tt

-- and so is its operator
relation_op : (o : Option RelOp) (s : Symbol) → IsFoundFor relop_symbol o s → IsFoundFor binop_symbol (option_map op_of_relation o) s
relation_op None s is = tt
relation_op (Some relation) s is = is

-- the operator that was found for a symbol is spelled by this symbol: for marks
mark_op : (m : Mark) → IsFoundFor binop_symbol (op_of_mark m) (MARK m)
mark_op Plus = refl
mark_op Minus = refl
mark_op Star = refl
mark_op Slash = refl
mark_op m = relation_op (relop_of_mark m) (MARK m) (mark_rel m)

-- for words
word_op : (w : Word) → IsFoundFor binop_symbol (op_of_word w) (WORD w)
word_op ModWord = refl
word_op MinWord = refl
word_op MaxWord = refl
word_op ShlWord = refl
word_op ShrWord = refl
word_op ShraWord = refl
word_op AndWord = refl
word_op OrWord = refl
word_op XorWord = refl
word_op w = tt

-- a first operand and the operator found
binary_with_keeps : (x : List ℕ) (a : RawOperand) (o : Option Op) (s : Symbol) (ss : List Symbol) → IsFoundFor binop_symbol o s → ss ≡ NAME x ∷ MARK Arrow ∷ operand_symbol a ∷ [] → KeepsSymbols (binary_with x a o) (ss ++ s ∷ [])
binary_with_keeps x a None s ss is h = tt
binary_with_keeps x a (Some op) s ss is h = on ss _ s h ∙ ap (λ (t : Symbol). NAME x ∷ MARK Arrow ∷ operand_symbol a ∷ t ∷ []) is

-- after a variable that may be a first operand
plain_name_keeps : (x y : List ℕ) (s : Symbol) (ss : List Symbol) → Read (PlainName x y) ss → KeepsSymbols (plain_name x y s) (ss ++ s ∷ [])
plain_name_keeps x y (MARK Comma) ss h = (NAME x ∷ MARK Arrow ∷ [], inl refl, on ss _ (MARK Comma) h)
plain_name_keeps x y (MARK m) ss h = binary_with_keeps x (Var y) (op_of_mark m) (MARK m) ss (mark_op m) h
plain_name_keeps x y (WORD w) ss h = binary_with_keeps x (Var y) (op_of_word w) (WORD w) ss (word_op w) h
plain_name_keeps x y NL ss h = (ss, h, refl)
plain_name_keeps x y s ss h = tt

-- after a number that may be one
plain_number_keeps : (x : List ℕ) (z : ℤ) (s : Symbol) (ss : List Symbol) → Read (PlainNumber x z) ss → KeepsSymbols (plain_number x z s) (ss ++ s ∷ [])
plain_number_keeps x z (MARK m) ss h = binary_with_keeps x (Const z) (op_of_mark m) (MARK m) ss (mark_op m) h
plain_number_keeps x z (WORD w) ss h = binary_with_keeps x (Const z) (op_of_word w) (WORD w) ss (word_op w) h
plain_number_keeps x z NL ss h = (ss, h, refl)
plain_number_keeps x z s ss h = tt

-- the operand that was awaited is the next symbol
filled_keeps : (hole : Hole) (a : RawOperand) (ss : List Symbol) → ReadHole hole ss → Read (filled hole a) (ss ++ operand_symbol a ∷ [])
filled_keeps (OfUnary x op) a ss h = on ss _ (operand_symbol a) h
filled_keeps (OfBinary x op b) a ss h = on ss _ (operand_symbol a) h
filled_keeps (OfArg x f args) a ss h = record { start = h.0; is_start = h.1; before = args; last = a; args_are = refl; read = on_start ss h.0 _ (operand_symbol a) h.2 }
filled_keeps OfFails a ss h = on ss _ (operand_symbol a) h
filled_keeps (OfRel op b) a ss h = on ss _ (operand_symbol a) h
filled_keeps OfPrint a ss h = on ss _ (operand_symbol a) h

-- where an operand is awaited
wants_keeps : (hole : Hole) (s : Symbol) (ss : List Symbol) → ReadHole hole ss → KeepsSymbols (wants hole s) (ss ++ s ∷ [])
wants_keeps hole (NAME x) ss h = filled_keeps hole (Var x) ss h
wants_keeps hole (NUMBER z) ss h = filled_keeps hole (Const z) ss h
wants_keeps hole s ss h = tt

-- after `call`
call_word_keeps : (x : Option (List ℕ)) (s : Symbol) (ss : List Symbol) → IsCallStart ss x → KeepsSymbols (call_word x s) (ss ++ s ∷ [])
call_word_keeps x (NAME f) ss h = (ss, h, refl)
call_word_keeps x s ss h = tt

-- at the first argument, or the closing parenthesis
first_arg_keeps : (x : Option (List ℕ)) (f : List ℕ) (s : Symbol) (ss : List Symbol) → Read (FirstArg x f) ss → KeepsSymbols (first_arg x f s) (ss ++ s ∷ [])
first_arg_keeps x f (MARK RightParen) ss h = (h.0, h.1, on_start ss h.0 _ (MARK RightParen) h.2)
first_arg_keeps x f s ss h = wants_keeps (OfArg x f []) s ss h

-- the arguments, with one more
more_last : (args : List RawOperand) (a : RawOperand) → more_symbols (args ++ a ∷ []) ≡ more_symbols args ++ (MARK Semicolon ∷ operand_symbol a ∷ MARK Comma ∷ NAME (codes "int") ∷ [])
more_last [] a = refl
more_last (b ∷ args) a = ap (λ (l : List Symbol). MARK Semicolon ∷ operand_symbol b ∷ MARK Comma ∷ NAME (codes "int") ∷ l) (more_last args a)

-- one more argument follows what is written before it
open_last : (args : List RawOperand) (a : RawOperand) → open_args (args ++ a ∷ []) ≡ until args ++ (operand_symbol a ∷ MARK Comma ∷ NAME (codes "int") ∷ [])
open_last [] a = refl
open_last (b ∷ args) a = ap (λ (l : List Symbol). MARK LeftParen ∷ operand_symbol b ∷ MARK Comma ∷ NAME (codes "int") ∷ l) (more_last args a ∙ sym (append_assoc (more_symbols args) (MARK Semicolon ∷ []) (operand_symbol a ∷ MARK Comma ∷ NAME (codes "int") ∷ [])))

-- and the semicolon after it
until_last : (args : List RawOperand) (a : RawOperand) → until (args ++ a ∷ []) ≡ open_args (args ++ a ∷ []) ++ MARK Semicolon ∷ []
until_last [] a = refl
until_last (b ∷ args) a = refl

-- the arguments with their type, from the tokens of the last
args_open : (x : Option (List ℕ)) (f : List ℕ) (args : List RawOperand) (ss : List Symbol) (h : Args x f args (MARK Comma ∷ NAME (codes "int") ∷ []) ss) → ss ≡ h.start ++ (NAME f ∷ MARK Comma ∷ open_args args)
args_open x f args ss h =
    h.read ∙ ap (λ (l : List Symbol). h.start ++ (NAME f ∷ MARK Comma ∷ l)) (sym (open_last h.before h.last))
    ∙ ap (λ (l : List RawOperand). h.start ++ (NAME f ∷ MARK Comma ∷ open_args l)) (sym h.args_are)

-- after an argument's type: its end, or one more argument
typed_keeps : (x : Option (List ℕ)) (f : List ℕ) (args : List RawOperand) (s : Symbol) (ss : List Symbol) → Read (Typed x f args) ss → KeepsSymbols (typed x f args s) (ss ++ s ∷ [])
typed_keeps x f args (MARK Semicolon) ss h = (
  h.start,
  h.is_start,
  on_start ss h.start _ (MARK Semicolon) (args_open x f args ss h)
      ∙ ap (λ (l : List Symbol). h.start ++ (NAME f ∷ MARK Comma ∷ l))
      (ap (λ (l : List RawOperand). open_args l ++ MARK Semicolon ∷ []) h.args_are ∙ sym (until_last h.before h.last) ∙ ap until (sym h.args_are)),
)
typed_keeps x f args (MARK RightParen) ss h = (h.start, h.is_start, on_start ss h.start _ (MARK RightParen) (args_open x f args ss h))
typed_keeps x f args s ss h = tt

-- after `goto`
goto_word_keeps : (s : Symbol) (ss : List Symbol) → Read PGoto ss → KeepsSymbols (goto_word s) (ss ++ s ∷ [])
goto_word_keeps (NAME l) ss h = on ss _ (NAME l) h
goto_word_keeps s ss h = tt

-- after `if`
if_word_keeps : (s : Symbol) (ss : List Symbol) → Read PIf ss → KeepsSymbols (if_word s) (ss ++ s ∷ [])
if_word_keeps (NAME x) ss h = on ss _ (NAME x) h
if_word_keeps (NUMBER z) ss h = on ss _ (NUMBER z) h
if_word_keeps (MARK Bang) ss h = on ss _ (MARK Bang) h
if_word_keeps s ss h = tt

-- a first operand and the comparison found
rel_with_keeps : (a : RawOperand) (o : Option RelOp) (s : Symbol) (ss : List Symbol) → IsFoundFor relop_symbol o s → Read (IfOperand a) ss → KeepsSymbols (rel_with a o) (ss ++ s ∷ [])
rel_with_keeps a None s ss is h = tt
rel_with_keeps a (Some op) s ss is h = on ss _ s h ∙ ap (λ (t : Symbol). WORD IfWord ∷ operand_symbol a ∷ t ∷ []) is

-- after the first operand of a test
if_operand_keeps : (a : RawOperand) (s : Symbol) (ss : List Symbol) → Read (IfOperand a) ss → KeepsSymbols (if_operand a s) (ss ++ s ∷ [])
if_operand_keeps a (WORD GotoWord) ss h = on ss _ (WORD GotoWord) h
if_operand_keeps a (WORD TrapWord) ss h = on ss _ (WORD TrapWord) h
if_operand_keeps a (MARK m) ss h = rel_with_keeps a (relop_of_mark m) (MARK m) ss (mark_rel m) h
if_operand_keeps a s ss h = tt

-- after a whole test
tested_keeps : (t : RawTest) (s : Symbol) (ss : List Symbol) → Read (Tested t) ss → KeepsSymbols (tested t s) (ss ++ s ∷ [])
tested_keeps t (WORD GotoWord) ss h = on ss _ (WORD GotoWord) h
tested_keeps t (WORD TrapWord) ss h = on ss _ (WORD TrapWord) h
tested_keeps t s ss h = tt

-- after the `goto` of a test
if_goto_keeps : (t : RawTest) (s : Symbol) (ss : List Symbol) → Read (IfGoto t) ss → KeepsSymbols (if_goto t s) (ss ++ s ∷ [])
if_goto_keeps t (NAME l) ss h = on ss _ (NAME l) h ∙ append_assoc (WORD IfWord ∷ test_symbols t) (WORD GotoWord ∷ []) (NAME l ∷ [])
if_goto_keeps t s ss h = tt

-- after the `trap` of a test
if_trap_keeps : (t : RawTest) (s : Symbol) (ss : List Symbol) → Read (IfTrap t) ss → KeepsSymbols (if_trap t s) (ss ++ s ∷ [])
if_trap_keeps t (NUMBER n) ss h = on ss _ (NUMBER n) h ∙ append_assoc (WORD IfWord ∷ test_symbols t) (WORD TrapWord ∷ []) (NUMBER n ∷ [])
if_trap_keeps t s ss h = tt

-- after `return`
return_word_keeps : (s : Symbol) (ss : List Symbol) → Read PReturn ss → KeepsSymbols (return_word s) (ss ++ s ∷ [])
return_word_keeps (NAME x) ss h = on ss _ (NAME x) h
return_word_keeps (NUMBER z) ss h = on ss _ (NUMBER z) h
return_word_keeps NL ss h = (ss, h, refl)
return_word_keeps s ss h = tt

-- after all of an instruction but its line end
full_keeps : (f : RawForm) (s : Symbol) (ss : List Symbol) → IsForm ss f → KeepsSymbols (full f s) (ss ++ s ∷ [])
full_keeps f NL ss h = (ss, h, refl)
full_keeps f s ss h = tt

-- where one mark alone may follow
mark_then_keeps : (mark : Mark) (p : Part) (s : Symbol) (ss : List Symbol) → Read p (ss ++ MARK mark ∷ []) → KeepsSymbols (mark_then mark p s) (ss ++ s ∷ [])
mark_then_keeps Comma p (MARK Comma) ss h = h
mark_then_keeps LeftParen p (MARK LeftParen) ss h = h
mark_then_keeps RightParen p (MARK RightParen) ss h = h
mark_then_keeps mark p s ss h = tt

-- where one name alone may follow
name_keeps : (x : List ℕ) (p : Part) (s : Symbol) (ss : List Symbol) → Read p (ss ++ NAME x ∷ []) → KeepsSymbols (name_then x p s) (ss ++ s ∷ [])
name_keeps x p (NAME y) ss h = elim (cases_Bool (is_text y x)) [
  | inl is ↦ subst (λ (b : Bool). KeepsSymbols (if b then Go p else No) (ss ++ NAME y ∷ [])) (sym is) (subst (λ (z : List ℕ). Read p (ss ++ NAME z ∷ [])) (sym (same_text y x (sym is))) h)
  | inr other ↦ subst (λ (b : Bool). KeepsSymbols (if b then Go p else No) (ss ++ NAME y ∷ [])) (sym other) tt
]
name_keeps x p s ss h = tt

-- a symbol after the arguments does not change them
args_on : (x : Option (List ℕ)) (f : List ℕ) (args : List RawOperand) (end ss : List Symbol) (s : Symbol) → Args x f args end ss → Args x f args (end ++ s ∷ []) (ss ++ s ∷ [])
args_on x f args end ss s h = record {
  start = h.start;
  is_start = h.is_start;
  before = h.before;
  last = h.last;
  args_are = h.args_are;
  read = on_start ss h.start _ s h.read ∙ ap (λ (l : List Symbol). h.start ++ (NAME f ∷ MARK Comma ∷ l)) (append_assoc (until h.before) (operand_symbol h.last ∷ end) (s ∷ []));
}

-- each part keeps the symbols that were read, by its own step
pub part_keeps : (p : Part) (s : Symbol) (ss : List Symbol) → Read p ss → KeepsSymbols (part_step p s) (ss ++ s ∷ [])
part_keeps Fresh s ss h = subst (λ (l : List Symbol). KeepsSymbols (fresh s) (l ++ s ∷ [])) (sym h) (fresh_keeps s)
part_keeps PReceive s ss h = receive_word_keeps s ss h
part_keeps (ReceiveName x) s ss h = mark_then_keeps LeftParen (ReceiveOpen x) s ss (on ss _ (MARK LeftParen) h)
part_keeps (ReceiveOpen x) s ss h = name_keeps (codes "val") (ReceiveVal x) s ss (on ss _ (NAME (codes "val")) h)
part_keeps (ReceiveVal x) s ss h = mark_then_keeps RightParen (Full (Receive x)) s ss (on ss _ (MARK RightParen) h)
part_keeps (Named x) s ss h = named_keeps x s ss h
part_keeps (Arrowed x) s ss h = arrowed_keeps x s ss h
part_keeps (PlainName x y) s ss h = plain_name_keeps x y s ss h
part_keeps (PlainNumber x z) s ss h = plain_number_keeps x z s ss h
part_keeps (Wants hole) s ss h = wants_keeps hole s ss h
part_keeps (PCall x) s ss h = call_word_keeps x s ss h
part_keeps (Callee x f) s ss h = mark_then_keeps Comma (Opening x f) s ss (h.0, h.1, on_start ss h.0 _ (MARK Comma) h.2)
part_keeps (Opening x f) s ss h = mark_then_keeps LeftParen (FirstArg x f) s ss (h.0, h.1, on_start ss h.0 _ (MARK LeftParen) h.2)
part_keeps (FirstArg x f) s ss h = first_arg_keeps x f s ss h
part_keeps (Given x f args) s ss h = mark_then_keeps Comma (Typing x f args) s ss (args_on x f args [] ss (MARK Comma) h)
part_keeps (Typing x f args) s ss h = name_keeps (codes "int") (Typed x f args) s ss (args_on x f args (MARK Comma ∷ []) ss (NAME (codes "int")) h)
part_keeps (Typed x f args) s ss h = typed_keeps x f args s ss h
part_keeps PGoto s ss h = goto_word_keeps s ss h
part_keeps PIf s ss h = if_word_keeps s ss h
part_keeps (IfOperand a) s ss h = if_operand_keeps a s ss h
part_keeps (Tested t) s ss h = tested_keeps t s ss h
part_keeps (IfGoto t) s ss h = if_goto_keeps t s ss h
part_keeps (IfTrap t) s ss h = if_trap_keeps t s ss h
part_keeps PReturn s ss h = return_word_keeps s ss h
part_keeps (Full f) s ss h = full_keeps f s ss h
