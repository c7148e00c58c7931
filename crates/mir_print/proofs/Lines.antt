-- The line of an instruction: its pieces, their text, and what the grammar makes of it.
use Rattle.std.proofs.Common.{◌≡◌, ℕ, ℤ, List, [], ◌∷◌, ◌++◌, map, codes, Option, None, Some, FitsSigned, w64, refl, sym, ap, ◌∙◌, inl, append_assoc}
use Rattle.std.specs.List.{join_with_byte}
use Rattle.std.proofs.lemmas.List.{append-nil}
use Rattle.mir_base.specs.declared.operators.Op.{Op}
use Rattle.mir_base.specs.declared.operators.Op.TheVariants.{Add}
use Rattle.mir_base.specs.declared.operators.UnOp.{UnOp}
use Rattle.mir_base.specs.declared.operators.UnOp.TheVariants.{Neg}
use Rattle.mir_base.specs.declared.operators.RelOp.{RelOp}
use Rattle.mir_base.specs.declared.operators.RelOp.TheVariants.{Eq as IsEq}
use Rattle.mir_base.specs.declared.instructions.Operand.{Operand}
use Rattle.mir_base.specs.declared.instructions.Operand.TheVariants.{Var, Const}
use Rattle.mir_base.specs.declared.instructions.Rhs.{Rhs}
use Rattle.mir_base.specs.declared.instructions.Rhs.TheVariants.{Plain, Unary, Binary}
use Rattle.mir_base.specs.declared.instructions.Test.{Test}
use Rattle.mir_base.specs.declared.instructions.Test.TheVariants.{Rel, Holds, Fails}
use Rattle.mir_base.specs.declared.instructions.Inst.{Inst}
use Rattle.mir_base.specs.declared.instructions.Inst.TheVariants.{Receive, Assign, Goto, If, TrapIf, Call, Print, Return}
use Rattle.mir_base.specs.Names.{IsName, is_reserved}
use Rattle.mir_base.specs.Text.{op_text, un_op_text, rel_op_text, Naming, var_text, called_text, operand_text, rhs_text, test_text, args_text, inst_text}
use Rattle.mir_lex.specs.declared.terminals.Symbol.{Symbol}
use Rattle.mir_lex.specs.declared.terminals.Symbol.TheVariants.{Name as NAME, Word as WORD, Number as NUMBER, Mark as MARK}
use Rattle.mir_lex.specs.declared.scan.Previous.{Previous}
use Rattle.mir_lex.specs.declared.scan.Previous.TheVariants.{Operand as AfterOperand, Other as AfterOther}
use Rattle.mir_lex.specs.declared.words.Mark.TheVariants.{Comma, Semicolon, LeftParen, RightParen, Bang, Arrow}
use Rattle.mir_base.specs.declared.words.Word.TheVariants.{Receive as ReceiveWord, Goto as GotoWord, If as IfWord, Trap as TrapWord, Call as CallWord, Return as ReturnWord, Print as PrintWord}
use Rattle.mir_lex.specs.Spelling.{BeginsWith}
use Rattle.mir_parse.specs.declared.raw.RawOperand.{RawOperand}
use Rattle.mir_parse.specs.declared.raw.RawOperand.TheVariants.{Var as RawVar, Const as RawConst}
use Rattle.mir_parse.specs.declared.raw.RawRhs.{RawRhs}
use Rattle.mir_parse.specs.declared.raw.RawRhs.TheVariants.{Plain as RawPlain, Unary as RawUnary, Binary as RawBinary}
use Rattle.mir_parse.specs.declared.raw.RawTest.{RawTest}
use Rattle.mir_parse.specs.declared.raw.RawTest.TheVariants.{Rel as RawRel, Holds as RawHolds, Fails as RawFails}
use Rattle.mir_parse.specs.declared.raw.RawForm.{RawForm}
use Rattle.mir_parse.specs.declared.raw.RawForm.TheVariants.{Receive as RawReceive, Assign as RawAssign, Goto as RawGoto, If as RawIf, TrapIf as RawTrapIf, Call as RawCall, Print as RawPrint, Return as RawReturn}
use Rattle.mir_parse.specs.Grammar.{operand_symbol, relop_symbol, binop_symbol, unop_symbol, rhs_symbols, more_symbols, args_symbols, IsForm}
use Rattle.mir_print.proofs.Ends.{is_separator}
use Rattle.mir_print.proofs.Pieces.{Piece, Blank, Shown, symbol_text, pieces_text, symbols_of, AreSpaced}
use Rattle.mir_print.proofs.Raws.{raw_operand, raw_rhs, raw_test, raw_form}

-- ---- pieces

-- an operand
abbrev operand_piece : RawOperand → Piece
operand_piece a = Shown (operand_symbol a)

-- a right side
abbrev rhs_pieces : RawRhs → List Piece
rhs_pieces (RawPlain a) = operand_piece a ∷ []
rhs_pieces (RawUnary op a) = Shown (unop_symbol op) ∷ Blank ∷ operand_piece a ∷ []
rhs_pieces (RawBinary op a b) = operand_piece a ∷ Blank ∷ Shown (binop_symbol op) ∷ Blank ∷ operand_piece b ∷ []

-- the end of a jump
abbrev goto_pieces : List ℕ → List Piece
goto_pieces l = Blank ∷ Shown (WORD GotoWord) ∷ Blank ∷ Shown (NAME l) ∷ []

-- the end of a trap instruction
abbrev trap_pieces : ℤ → List Piece
trap_pieces z = Blank ∷ Shown (WORD TrapWord) ∷ Blank ∷ Shown (NUMBER z) ∷ []

-- a test, and what follows it
abbrev test_pieces : RawTest → List Piece → List Piece
test_pieces (RawRel op a b) more = operand_piece a ∷ Blank ∷ Shown (relop_symbol op) ∷ Blank ∷ operand_piece b ∷ more
test_pieces (RawHolds a) more = operand_piece a ∷ more
test_pieces (RawFails a) more = Shown (MARK Bang) ∷ Blank ∷ operand_piece a ∷ more

-- the arguments of a call after the first, and the closing bracket
abbrev more_pieces : List RawOperand → List Piece
more_pieces [] = Shown (MARK RightParen) ∷ []
more_pieces (a ∷ args) = Shown (MARK Semicolon) ∷ operand_piece a ∷ Shown (MARK Comma) ∷ Shown (NAME (codes "int")) ∷ more_pieces args

-- the arguments of a call
abbrev args_pieces : List RawOperand → List Piece
args_pieces [] = Shown (MARK LeftParen) ∷ Shown (MARK RightParen) ∷ []
args_pieces (a ∷ args) = Shown (MARK LeftParen) ∷ operand_piece a ∷ Shown (MARK Comma) ∷ Shown (NAME (codes "int")) ∷ more_pieces args

-- a called unit with its arguments
abbrev called_pieces : List ℕ → List RawOperand → List Piece
called_pieces f args = Shown (NAME f) ∷ Shown (MARK Comma) ∷ args_pieces args

-- the first symbol of an instruction
abbrev pub first_symbol : RawForm → Symbol
first_symbol (RawReceive x) = WORD ReceiveWord
first_symbol (RawAssign x rhs) = NAME x
first_symbol (RawGoto l) = WORD GotoWord
first_symbol (RawIf test l) = WORD IfWord
first_symbol (RawTrapIf test z) = WORD IfWord
first_symbol (RawCall None f args) = WORD CallWord
first_symbol (RawCall (Some x) f args) = NAME x
first_symbol (RawPrint a) = WORD PrintWord
first_symbol (RawReturn a) = WORD ReturnWord

-- the pieces behind it
abbrev pub rest_pieces : RawForm → List Piece
rest_pieces (RawReceive x) = Blank ∷ Shown (NAME x) ∷ Shown (MARK LeftParen) ∷ Shown (NAME (codes "val")) ∷ Shown (MARK RightParen) ∷ []
rest_pieces (RawAssign x rhs) = Blank ∷ Shown (MARK Arrow) ∷ Blank ∷ rhs_pieces rhs
rest_pieces (RawGoto l) = Blank ∷ Shown (NAME l) ∷ []
rest_pieces (RawIf test l) = Blank ∷ test_pieces test (goto_pieces l)
rest_pieces (RawTrapIf test z) = Blank ∷ test_pieces test (trap_pieces z)
rest_pieces (RawCall None f args) = Blank ∷ called_pieces f args
rest_pieces (RawCall (Some x) f args) = Blank ∷ Shown (MARK Arrow) ∷ Blank ∷ called_pieces f args
rest_pieces (RawPrint a) = Blank ∷ operand_piece a ∷ []
rest_pieces (RawReturn None) = []
rest_pieces (RawReturn (Some a)) = Blank ∷ operand_piece a ∷ []

-- an instruction
abbrev pub form_pieces : RawForm → List Piece
form_pieces form = Shown (first_symbol form) ∷ rest_pieces form

-- ---- the grammar

-- the arguments of a call after the first, to the closing bracket, have the symbols that the grammar asks for
more_symbols_is : (args : List RawOperand) → symbols_of (more_pieces args) ≡ more_symbols args ++ MARK RightParen ∷ []
more_symbols_is [] = refl
more_symbols_is (a ∷ args) = ap (λ (ss : List Symbol). MARK Semicolon ∷ operand_symbol a ∷ MARK Comma ∷ NAME (codes "int") ∷ ss) (more_symbols_is args)

-- and so have all the arguments
args_symbols_is : (args : List RawOperand) → symbols_of (args_pieces args) ≡ args_symbols args
args_symbols_is [] = refl
args_symbols_is (a ∷ args) = ap (λ (ss : List Symbol). MARK LeftParen ∷ operand_symbol a ∷ MARK Comma ∷ NAME (codes "int") ∷ ss) (more_symbols_is args)

-- a right side has the symbols that the grammar asks for
rhs_symbols_is : (rhs : RawRhs) → symbols_of (rhs_pieces rhs) ≡ rhs_symbols rhs
rhs_symbols_is (RawPlain a) = refl
rhs_symbols_is (RawUnary op a) = refl
rhs_symbols_is (RawBinary op a b) = refl

-- its symbols are those of the instruction
pub is_form_same : (form : RawForm) → IsForm (symbols_of (form_pieces form)) form
is_form_same (RawReceive x) = refl
is_form_same (RawAssign x rhs) = ap (λ (ss : List Symbol). NAME x ∷ MARK Arrow ∷ ss) (rhs_symbols_is rhs)
is_form_same (RawGoto l) = refl
is_form_same (RawIf (RawRel op a b) l) = refl
is_form_same (RawIf (RawHolds a) l) = refl
is_form_same (RawIf (RawFails a) l) = refl
is_form_same (RawTrapIf (RawRel op a b) z) = refl
is_form_same (RawTrapIf (RawHolds a) z) = refl
is_form_same (RawTrapIf (RawFails a) z) = refl
is_form_same (RawCall None f args) = (WORD CallWord ∷ [], refl, ap (λ (ss : List Symbol). WORD CallWord ∷ NAME f ∷ MARK Comma ∷ ss) (args_symbols_is args))
is_form_same (RawCall (Some x) f args) = (NAME x ∷ MARK Arrow ∷ [], inl refl, ap (λ (ss : List Symbol). NAME x ∷ MARK Arrow ∷ NAME f ∷ MARK Comma ∷ ss) (args_symbols_is args))
is_form_same (RawPrint a) = refl
is_form_same (RawReturn None) = refl
is_form_same (RawReturn (Some a)) = refl

-- ---- the text

module _ (naming : Naming) where
  operand_text_is : (a : Operand) → symbol_text (operand_symbol (raw_operand naming a)) ≡ operand_text naming a
  operand_text_is (Var x) = refl
  operand_text_is (Const z) = refl

  op_text_is : (op : Op) → symbol_text (binop_symbol op) ≡ op_text op
  op_text_is Add = refl
  op_text_is op = refl

  un_op_text_is : (op : UnOp) → symbol_text (unop_symbol op) ≡ un_op_text op
  un_op_text_is Neg = refl
  un_op_text_is op = refl

  rel_op_text_is : (op : RelOp) → symbol_text (relop_symbol op) ≡ rel_op_text op
  rel_op_text_is IsEq = refl
  rel_op_text_is op = refl

  rhs_text_is : (rhs : Rhs) → pieces_text (rhs_pieces (raw_rhs naming rhs)) ≡ rhs_text naming rhs
  rhs_text_is (Plain a) = append-nil (symbol_text (operand_symbol (raw_operand naming a))) ∙ operand_text_is a
  rhs_text_is (Unary op a) = simp (append_assoc, append-nil, un_op_text_is, operand_text_is)
  rhs_text_is (Binary op a b) = simp (append_assoc, append-nil, op_text_is, operand_text_is)

  test_text_is : (test : Test) (more : List Piece) → pieces_text (test_pieces (raw_test naming test) more) ≡ test_text naming test ++ pieces_text more
  test_text_is (Rel op a b) more = simp (append_assoc, rel_op_text_is, operand_text_is)
  test_text_is (Holds a) more = ap (λ (t : List ℕ). t ++ pieces_text more) (operand_text_is a)
  test_text_is (Fails a) more = ap (λ (t : List ℕ). codes "! " ++ (t ++ pieces_text more)) (operand_text_is a)

  -- an argument with its type
  abbrev arg_text : Operand → List ℕ
  arg_text a = operand_text naming a ++ codes ",int"

  join_text : (a : Operand) (operands : List Operand)
      → symbol_text (operand_symbol (raw_operand naming a)) ++ (codes ",int" ++ pieces_text (more_pieces (map (raw_operand naming) operands))) ≡ join_with_byte 59 (map arg_text (a ∷ operands)) ++ codes ")"
  join_text a [] = simp (append_assoc, operand_text_is)
  join_text a (b ∷ operands) =
      let behind : List ℕ = symbol_text (operand_symbol (raw_operand naming b)) ++ (codes ",int" ++ pieces_text (more_pieces (map (raw_operand naming) operands))) in
      ap (λ (t : List ℕ). t ++ (codes ",int" ++ 59 ∷ behind)) (operand_text_is a)
      ∙ ap (λ (t : List ℕ). operand_text naming a ++ (codes ",int" ++ 59 ∷ t)) (join_text b operands)
      ∙ pieced (operand_text naming a) (codes ",int") (join_with_byte 59 (map arg_text (b ∷ operands))) (codes ")")
    where
      pieced : (t int j close : List ℕ) → t ++ (int ++ 59 ∷ (j ++ close)) ≡ ((t ++ int) ++ 59 ∷ j) ++ close
      pieced t int j close = simp append_assoc

  args_text_is : (operands : List Operand) → pieces_text (args_pieces (map (raw_operand naming) operands)) ≡ args_text naming operands
  args_text_is [] = refl
  args_text_is (a ∷ operands) = ap (λ (t : List ℕ). 40 ∷ t) (join_text a operands)

  call_shape : (x f args : List ℕ) → x ++ (codes " <- " ++ (f ++ (codes "," ++ args))) ≡ x ++ codes " <- " ++ f ++ codes "," ++ args
  call_shape x f args = simp append_assoc

  pub inst_text_is : (inst : Inst) → pieces_text (form_pieces (raw_form naming inst)) ≡ inst_text naming inst
  inst_text_is (Receive x) = simp (append_assoc, append-nil)
  inst_text_is (Assign x rhs) = simp (append_assoc, rhs_text_is)
  inst_text_is (Goto place) = simp (append_assoc, append-nil)
  inst_text_is (If test place) = simp (append_assoc, append-nil, test_text_is)
  inst_text_is (TrapIf test number) = simp (append_assoc, append-nil, test_text_is)
  inst_text_is (Call None unit operands) =
      ap (λ (t : List ℕ). codes "call " ++ (called_text naming unit ++ (codes "," ++ t))) (args_text_is operands)
      ∙ ap (λ (t : List ℕ). codes "call " ++ t) (sym (append_assoc (called_text naming unit) (codes ",") (args_text naming operands)))
  inst_text_is (Call (Some x) unit operands) =
      ap (λ (t : List ℕ). var_text naming x ++ (codes " <- " ++ (called_text naming unit ++ (codes "," ++ t)))) (args_text_is operands) ∙ call_shape (var_text naming x) (called_text naming unit) (args_text naming operands)
  inst_text_is (Print a) = simp (append-nil, operand_text_is)
  inst_text_is (Return a) = simp (append-nil, operand_text_is)

-- ---- tokens stand apart

-- each name is spelled as one, and each number is one of 64 bits with a sign
abbrev pub OperandFits : RawOperand → Type 0
OperandFits (RawVar x) = IsName x
OperandFits (RawConst z) = FitsSigned w64 z

-- those of a right side
abbrev pub RhsFits : RawRhs → Type 0
RhsFits (RawPlain a) = OperandFits a
RhsFits (RawUnary op a) = OperandFits a
RhsFits (RawBinary op a b) = OperandFits a × OperandFits b

-- of a test
abbrev pub TestFits : RawTest → Type 0
TestFits (RawRel op a b) = OperandFits a × OperandFits b
TestFits (RawHolds a) = OperandFits a
TestFits (RawFails a) = OperandFits a

-- of the variable for a call's result
abbrev pub IntoFits : Option (List ℕ) → Type 0
IntoFits None = Unit {0}
IntoFits (Some x) = IsName x

-- of arguments
abbrev pub ArgsFit : List RawOperand → Type 0
ArgsFit [] = Unit {0}
ArgsFit (a ∷ args) = OperandFits a × ArgsFit args

-- of an instruction
abbrev pub FormFits : RawForm → Type 0
FormFits (RawReceive x) = IsName x
FormFits (RawAssign x rhs) = IsName x × RhsFits rhs
FormFits (RawGoto l) = IsName l
FormFits (RawIf test l) = TestFits test × IsName l
FormFits (RawTrapIf test z) = TestFits test × FitsSigned w64 z
FormFits (RawCall into f args) = IntoFits into × IsName f × ArgsFit args
FormFits (RawPrint a) = OperandFits a
FormFits (RawReturn None) = Unit {0}
FormFits (RawReturn (Some a)) = OperandFits a

-- an operand that no name or number stands before
operand_spaced : (a : RawOperand) (more : List Piece) (after : List ℕ) → OperandFits a → BeginsWith is_separator (pieces_text more ++ after) → AreSpaced AfterOperand more after → AreSpaced AfterOther (operand_piece a ∷ more) after
operand_spaced (RawVar x) more after fits begins spaced = (fits, begins, spaced)
operand_spaced (RawConst z) more after fits begins spaced = ((fits, tt), begins, spaced)

-- an operator of one operand, and the blank behind it, stand apart from what follows
un_op_spaced : (previous : Previous) (op : UnOp) (more : List Piece) (after : List ℕ) → AreSpaced AfterOther more after → AreSpaced previous (Shown (unop_symbol op) ∷ Blank ∷ more) after
un_op_spaced previous Neg more after spaced = (tt, refl, spaced)
un_op_spaced previous op more after spaced = (tt, refl, spaced)

-- and so do one of two operands and its blank
op_spaced : (previous : Previous) (op : Op) (more : List Piece) (after : List ℕ) → AreSpaced AfterOther more after → AreSpaced previous (Shown (binop_symbol op) ∷ Blank ∷ more) after
op_spaced previous Add more after spaced = (tt, refl, spaced)
op_spaced previous op more after spaced = (tt, refl, spaced)

-- a comparison
rel_op_spaced : (previous : Previous) (op : RelOp) (more : List Piece) (after : List ℕ) → AreSpaced AfterOther more after → AreSpaced previous (Shown (relop_symbol op) ∷ Blank ∷ more) after
rel_op_spaced previous IsEq more after spaced = (tt, refl, spaced)
rel_op_spaced previous op more after spaced = (tt, refl, spaced)

-- a right side stands apart up to the line feed
rhs_spaced : (rhs : RawRhs) (after : List ℕ) → RhsFits rhs → AreSpaced AfterOther (rhs_pieces rhs) (10 ∷ after)
rhs_spaced (RawPlain a) after fits = operand_spaced a [] (10 ∷ after) fits refl tt
rhs_spaced (RawUnary op a) after fits = un_op_spaced AfterOther op (operand_piece a ∷ []) (10 ∷ after) (operand_spaced a [] (10 ∷ after) fits refl tt)
rhs_spaced (RawBinary op a b) after fits =
    operand_spaced a (Blank ∷ Shown (binop_symbol op) ∷ Blank ∷ operand_piece b ∷ []) (10 ∷ after) fits.0 refl
    (op_spaced AfterOperand op (operand_piece b ∷ []) (10 ∷ after) (operand_spaced b [] (10 ∷ after) fits.1 refl tt))

-- and so does the end of a jump
goto_spaced : (l : List ℕ) (after : List ℕ) → IsName l → AreSpaced AfterOperand (goto_pieces l) (10 ∷ after)
goto_spaced l after name = (tt, refl, (name, refl, tt))

-- the end of a trap instruction
trap_spaced : (z : ℤ) (after : List ℕ) → FitsSigned w64 z → AreSpaced AfterOperand (trap_pieces z) (10 ∷ after)
trap_spaced z after fits = (tt, refl, ((fits, tt), refl, tt))

-- a test with what follows it
test_spaced : (test : RawTest) (more : List Piece) (after : List ℕ) → TestFits test → BeginsWith is_separator (pieces_text more ++ 10 ∷ after) → AreSpaced AfterOperand more (10 ∷ after)
    → AreSpaced AfterOther (test_pieces test more) (10 ∷ after)
test_spaced (RawRel op a b) more after fits begins spaced =
    operand_spaced a (Blank ∷ Shown (relop_symbol op) ∷ Blank ∷ operand_piece b ∷ more) (10 ∷ after) fits.0 refl
    (rel_op_spaced AfterOperand op (operand_piece b ∷ more) (10 ∷ after) (operand_spaced b more (10 ∷ after) fits.1 begins spaced))
test_spaced (RawHolds a) more after fits begins spaced = operand_spaced a more (10 ∷ after) fits begins spaced
test_spaced (RawFails a) more after fits begins spaced = (tt, refl, operand_spaced a more (10 ∷ after) fits begins spaced)

-- `int` is spelled as a name
int_name : IsName (codes "int")
unfolding is_reserved
int_name = refl

-- and so is `val`
val_name : IsName (codes "val")
unfolding is_reserved
val_name = refl

-- an argument of a call with those behind it
arg_spaced : (a : RawOperand) (args : List RawOperand) (after : List ℕ) → OperandFits a → ArgsFit args → AreSpaced AfterOther (operand_piece a ∷ Shown (MARK Comma) ∷ Shown (NAME (codes "int")) ∷ more_pieces args) (10 ∷ after)
arg_spaced a [] after fits all = operand_spaced a (Shown (MARK Comma) ∷ Shown (NAME (codes "int")) ∷ more_pieces []) (10 ∷ after) fits refl (tt, tt, (int_name, refl, (tt, refl, tt)))
arg_spaced a (b ∷ args) after fits all =
    operand_spaced a (Shown (MARK Comma) ∷ Shown (NAME (codes "int")) ∷ more_pieces (b ∷ args)) (10 ∷ after) fits refl (tt, tt, (int_name, refl, (tt, tt, arg_spaced b args after all.0 all.1)))

-- all arguments of a call
args_spaced : (args : List RawOperand) (after : List ℕ) → ArgsFit args → AreSpaced AfterOther (args_pieces args) (10 ∷ after)
args_spaced [] after fits = (tt, tt, (tt, refl, tt))
args_spaced (a ∷ args) after fits = (tt, tt, arg_spaced a args after fits.0 fits.1)

-- a called unit with its arguments
called_spaced : (f : List ℕ) (args : List RawOperand) (after : List ℕ) → IsName f → ArgsFit args → AreSpaced AfterOther (called_pieces f args) (10 ∷ after)
called_spaced f args after name fits = (name, refl, (tt, tt, args_spaced args after fits))

-- the tokens of an instruction stand apart, whatever stands before it
pub form_spaced : (previous : Previous) (form : RawForm) (after : List ℕ) → FormFits form → AreSpaced previous (form_pieces form) (10 ∷ after)
form_spaced previous (RawReceive x) after fits = (tt, refl, (fits, refl, (tt, tt, (val_name, refl, (tt, refl, tt)))))
form_spaced previous (RawAssign x rhs) after fits = (fits.0, refl, (tt, refl, rhs_spaced rhs after fits.1))
form_spaced previous (RawGoto l) after fits = (tt, refl, (fits, refl, tt))
form_spaced previous (RawIf test l) after fits = (tt, refl, test_spaced test (goto_pieces l) after fits.0 refl (goto_spaced l after fits.1))
form_spaced previous (RawTrapIf test z) after fits = (tt, refl, test_spaced test (trap_pieces z) after fits.0 refl (trap_spaced z after fits.1))
form_spaced previous (RawCall None f args) after fits = (tt, refl, called_spaced f args after fits.1 fits.2)
form_spaced previous (RawCall (Some x) f args) after fits = (fits.0, refl, (tt, refl, called_spaced f args after fits.1 fits.2))
form_spaced previous (RawPrint a) after fits = (tt, refl, operand_spaced a [] (10 ∷ after) fits refl tt)
form_spaced previous (RawReturn None) after fits = (tt, refl, tt)
form_spaced previous (RawReturn (Some a)) after fits = (tt, refl, operand_spaced a [] (10 ∷ after) fits refl tt)
