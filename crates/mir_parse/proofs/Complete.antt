-- What is a text is read as its units.
use Rattle.std.proofs.Common.{◌≡◌, ℕ, ℤ, Bool, true, false, List, [], ◌∷◌, ◌++◌, length, codes, Option, None, Some, refl, sym, ◌∙◌, ap, append_assoc, append-nil, inl, inr}
use Rattle.std.specs.List.{fold}
use Rattle.std.proofs.lemmas.List.Sums.{fold-append}
use Rattle.mir_base.specs.declared.operators.Op.{Op}
use Rattle.mir_base.specs.declared.operators.Op.TheVariants.{Add}
use Rattle.mir_base.specs.declared.operators.UnOp.TheVariants.{Neg, Not}
use Rattle.mir_base.specs.declared.operators.RelOp.{RelOp}
use Rattle.mir_base.specs.declared.operators.RelOp.TheVariants.{Eq as IsEq}
use Rattle.mir_lex.specs.declared.terminals.Symbol.{Symbol}
use Rattle.mir_lex.specs.declared.terminals.Symbol.TheVariants.{Name as NAME, Word as WORD, Number as NUMBER, Mark as MARK, LineEnd as NL}
use Rattle.mir_lex.specs.declared.terminals.Terminal.{Terminal}
use Rattle.mir_lex.specs.declared.words.Mark.TheVariants.{Colon, Comma, RightParen}
use Rattle.mir_base.specs.declared.words.Word.TheVariants.{Begin as BeginWord, End as EndWord, Goto as GotoWord, Trap as TrapWord, Global as GlobalWord}
use Rattle.mir_parse.specs.declared.raw.RawOperand.{RawOperand}
use Rattle.mir_parse.specs.declared.raw.RawOperand.TheVariants.{Var, Const}
use Rattle.mir_parse.specs.declared.raw.RawRhs.{RawRhs}
use Rattle.mir_parse.specs.declared.raw.RawRhs.TheVariants.{Plain, Unary, Binary}
use Rattle.mir_parse.specs.declared.raw.RawTest.{RawTest}
use Rattle.mir_parse.specs.declared.raw.RawTest.TheVariants.{Rel, Holds, Fails}
use Rattle.mir_parse.specs.declared.raw.RawForm.{RawForm}
use Rattle.mir_parse.specs.declared.raw.RawForm.TheVariants.{Receive, Assign, Goto, If, TrapIf, Call, Print, Return}
use Rattle.mir_parse.specs.declared.raw.RawInst.{RawInst}
use Rattle.mir_parse.specs.declared.raw.RawLabel.{RawLabel}
use Rattle.mir_parse.specs.declared.raw.RawGlobal.{RawGlobal}
use Rattle.mir_parse.specs.declared.raw.Raw.{Raw}
use Rattle.mir_parse.specs.RawParts.{globals_alone, raw_with_unit}
use Rattle.mir_parse.specs.RawUnit.{RawUnitShape}
use Rattle.mir_parse.specs.declared.so_far.Hole.{Hole}
use Rattle.mir_parse.specs.declared.so_far.Hole.TheVariants.{Unary as OfUnary, Binary as OfBinary, Arg as OfArg, Fails as OfFails, Rel as OfRel, Print as OfPrint}
use Rattle.mir_parse.specs.declared.so_far.Part.TheVariants.{Fresh, Named, Arrowed, Wants, Opening, FirstArg, Given, Typed, If as PIf, IfOperand}
use Rattle.mir_parse.specs.Reader.{Next, No, Go, Done, Label}
use Rattle.mir_parse.specs.declared.so_far.Spot.TheVariants.{Named as UnitNamed, Headed, Begun, Inside, Mid, AfterEnd}
use Rattle.mir_parse.specs.declared.so_far.Reading.{Reading}
use Rattle.mir_parse.specs.declared.so_far.ReadSoFar.{ReadSoFar}
use Rattle.mir_parse.specs.declared.so_far.ReadSoFar.TheVariants.{Outside, Global as InGlobal, In}
use Rattle.mir_parse.specs.Grammar.{operand_symbol, relop_symbol, binop_symbol, rhs_symbols, test_symbols, more_symbols, open_args, args_symbols, IsCallStart, IsForm, symbols, IsBreak, IsLabel, IsInst, Body, IsHead, IsUnit, IsGlobal, IsText, bare, label, inst, no_unit, global_line, more}
use Rattle.mir_parse.specs.Reader.{filled, wants, fresh, named, plain_name, plain_number, first_arg, if_operand, part_step, begin_unit, with_inst, with_label, reading_after, outside, inside, read_step, reads}

-- the parts of one instruction, token by token
abbrev pub next_step : Next → Symbol → Next
next_step (Go p) s = part_step p s
next_step n s = No

-- the part after these symbols
abbrev pub part_run : Next → List Symbol → Next
part_run n ss = fold next_step n ss

-- once refused, more symbols do not help
no_run : (ss : List Symbol) (n : Next) → part_run No ss ≡ n → n ≡ No
no_run [] n h = sym h
no_run (s ∷ ss) n h = no_run ss n h

-- the reader keeps an instruction that its parts make whole
pub after_run : (b : Reading) (line : ℕ) (form : RawForm) (n : Next) (ts : List Terminal) (at : ℕ) → part_run n (symbols ts) ≡ Done form → fold read_step (reading_after b line at n) ts ≡ In (with_inst b line form) (Inside false)
after_run b line form No ts at h = absurd (let e = no_run (symbols ts) (Done form) h in cc)
after_run b line form (Go p) [] at h = absurd (cc)
after_run b line form (Go p) (t ∷ ts) at h = after_run b line form (part_step p t.symbol) ts t.line h
after_run b line form (Done f) [] at h = let e : f ≡ form = cc in ap (λ (g : RawForm). In (with_inst b line g) (Inside false)) e
after_run b line form (Done f) (t ∷ ts) at h = absurd (let e = no_run (symbols ts) (Done form) h in cc)
after_run b line form (Label x) [] at h = absurd (cc)
after_run b line form (Label x) (t ∷ ts) at h = absurd (let e = no_run (symbols ts) (Done form) h in cc)

-- the first symbol of an instruction, read between two instructions, begins it
inside_run : (b : Reading) (colon : Bool) (form : RawForm) (s : Symbol) (ts : List Terminal) (at : ℕ) → part_run (fresh s) (symbols ts) ≡ Done form → fold read_step (inside b colon s at) ts ≡ In (with_inst b at form) (Inside false)
inside_run b colon form (WORD EndWord) ts at h = absurd (let e = no_run (symbols ts) (Done form) h in cc)
inside_run b true form NL ts at h = absurd (let e = no_run (symbols ts) (Done form) h in cc)
inside_run b colon form s ts at h = after_run b at form (fresh s) ts at h

-- an operator after a first operand makes the reader wait for the second one: after a variable
plain_op : (x y : List ℕ) (op : Op) → plain_name x y (binop_symbol op) ≡ Go (Wants (OfBinary x op (Var y)))
plain_op x y Add = refl
plain_op x y op = refl

-- after a number
number_op : (x : List ℕ) (z : ℤ) (op : Op) → plain_number x z (binop_symbol op) ≡ Go (Wants (OfBinary x op (Const z)))
number_op x y Add = refl
number_op x y op = refl

-- after the first operand of a test
rel_op : (a : RawOperand) (op : RelOp) → if_operand a (relop_symbol op) ≡ Go (Wants (OfRel op a))
rel_op a IsEq = refl
rel_op a op = refl

-- where an operand is awaited, each operand is taken
wants_operand : (hole : Hole) (a : RawOperand) → wants hole (operand_symbol a) ≡ Go (filled hole a)
wants_operand hole (Var x) = refl
wants_operand hole (Const z) = refl

-- an operand where one is wanted, and then the rest
hole_run : (hole : Hole) (a : RawOperand) (rest : List Symbol) → part_run (Go (Wants hole)) (operand_symbol a ∷ rest) ≡ part_run (Go (filled hole a)) rest
hole_run hole a rest = ap (λ (n : Next). part_run n rest) (wants_operand hole a)

-- both operands of a binary operator are read in turn
binary_run : (x : List ℕ) (op : Op) (a b : RawOperand) → part_run (Go (Arrowed x)) (operand_symbol a ∷ binop_symbol op ∷ operand_symbol b ∷ NL ∷ []) ≡ Done (Assign x (Binary op a b))
binary_run x op (Var y) b = ap (λ (n : Next). part_run n (operand_symbol b ∷ NL ∷ [])) (plain_op x y op) ∙ hole_run (OfBinary x op (Var y)) b (NL ∷ [])
binary_run x op (Const z) b = ap (λ (n : Next). part_run n (operand_symbol b ∷ NL ∷ [])) (number_op x z op) ∙ hole_run (OfBinary x op (Const z)) b (NL ∷ [])

-- each right-hand side is read as itself after its arrow
rhs_run : (x : List ℕ) (r : RawRhs) → part_run (Go (Arrowed x)) (rhs_symbols r ++ NL ∷ []) ≡ Done (Assign x r)
rhs_run x (Plain (Var y)) = refl
rhs_run x (Plain (Const z)) = refl
rhs_run x (Unary Neg a) = hole_run (OfUnary x Neg) a (NL ∷ [])
rhs_run x (Unary Not a) = hole_run (OfUnary x Not) a (NL ∷ [])
rhs_run x (Binary op a b) = binary_run x op a b

-- what follows each test: `goto` and its label
goto_tail : List ℕ → List Symbol
goto_tail l = WORD GotoWord ∷ NAME l ∷ NL ∷ []

-- an operand right after `if` may be a whole test
first_test : (a : RawOperand) → part_step PIf (operand_symbol a) ≡ Go (IfOperand a)
first_test (Var x) = refl
first_test (Const z) = refl

-- each test is read as itself, with its goto
test_run : (t : RawTest) (l : List ℕ) → part_run (Go PIf) (test_symbols t ++ (WORD GotoWord ∷ NAME l ∷ NL ∷ [])) ≡ Done (If t l)
test_run (Rel op a b) l =
    ap (λ (n : Next). part_run n (relop_symbol op ∷ operand_symbol b ∷ WORD GotoWord ∷ NAME l ∷ NL ∷ [])) (first_test a)
    ∙ ap (λ (n : Next). part_run n (operand_symbol b ∷ WORD GotoWord ∷ NAME l ∷ NL ∷ [])) (rel_op a op)
    ∙ hole_run (OfRel op a) b (WORD GotoWord ∷ NAME l ∷ NL ∷ [])
test_run (Holds a) l = ap (λ (n : Next). part_run n (WORD GotoWord ∷ NAME l ∷ NL ∷ [])) (first_test a)
test_run (Fails a) l = hole_run OfFails a (WORD GotoWord ∷ NAME l ∷ NL ∷ [])

-- and so with its trap
trap_run : (t : RawTest) (n : ℤ) → part_run (Go PIf) (test_symbols t ++ (WORD TrapWord ∷ NUMBER n ∷ NL ∷ [])) ≡ Done (TrapIf t n)
trap_run (Rel op a b) n =
    ap (λ (m : Next). part_run m (relop_symbol op ∷ operand_symbol b ∷ WORD TrapWord ∷ NUMBER n ∷ NL ∷ [])) (first_test a)
    ∙ ap (λ (m : Next). part_run m (operand_symbol b ∷ WORD TrapWord ∷ NUMBER n ∷ NL ∷ [])) (rel_op a op)
    ∙ hole_run (OfRel op a) b (WORD TrapWord ∷ NUMBER n ∷ NL ∷ [])
trap_run (Holds a) n = ap (λ (m : Next). part_run m (WORD TrapWord ∷ NUMBER n ∷ NL ∷ [])) (first_test a)
trap_run (Fails a) n = hole_run OfFails a (WORD TrapWord ∷ NUMBER n ∷ NL ∷ [])

-- the arguments after the first ones
more_run : (x : Option (List ℕ)) (f : List ℕ) (args done : List RawOperand) → part_run (Go (Typed x f done)) (more_symbols args ++ (MARK RightParen ∷ NL ∷ [])) ≡ Done (Call x f (done ++ args))
more_run x f [] done = ap (λ (l : List RawOperand). Done (Call x f l)) (sym (append-nil done))
more_run x f (a ∷ args) done =
    hole_run (OfArg x f done) a (MARK Comma ∷ NAME (codes "int") ∷ (more_symbols args ++ (MARK RightParen ∷ NL ∷ [])))
    ∙ more_run x f args (done ++ a ∷ []) ∙ ap (λ (l : List RawOperand). Done (Call x f l)) (append_assoc done (a ∷ []) args)

-- the first argument is taken where the parenthesis may also close
first_arg_is : (x : Option (List ℕ)) (f : List ℕ) (a : RawOperand) → first_arg x f (operand_symbol a) ≡ Go (Given x f (a ∷ []))
first_arg_is x f (Var y) = refl
first_arg_is x f (Const z) = refl

-- all arguments are read, to the line end
args_run : (x : Option (List ℕ)) (f : List ℕ) (args : List RawOperand) → part_run (Go (Opening x f)) ((open_args args ++ MARK RightParen ∷ []) ++ NL ∷ []) ≡ Done (Call x f args)
args_run x f [] = refl
args_run x f (a ∷ args) =
    ap (λ (l : List Symbol). part_run (Go (FirstArg x f)) (operand_symbol a ∷ MARK Comma ∷ NAME (codes "int") ∷ l)) (append_assoc (more_symbols args) (MARK RightParen ∷ []) (NL ∷ []))
    ∙ ap (λ (n : Next). part_run n (MARK Comma ∷ NAME (codes "int") ∷ (more_symbols args ++ (MARK RightParen ∷ NL ∷ [])))) (first_arg_is x f a)
    ∙ more_run x f args (a ∷ [])

-- the words before a call's callee are read, with or without a result
call_run : (x : Option (List ℕ)) (f : List ℕ) (start rest : List Symbol) → IsCallStart start x → part_run (Go Fresh) (start ++ (NAME f ∷ MARK Comma ∷ rest)) ≡ part_run (Go (Opening x f)) rest
call_run None f start rest h = ap (λ (l : List Symbol). part_run (Go Fresh) (l ++ (NAME f ∷ MARK Comma ∷ rest))) h
call_run (Some x) f start rest (inl h) = ap (λ (l : List Symbol). part_run (Go Fresh) (l ++ (NAME f ∷ MARK Comma ∷ rest))) h
call_run (Some x) f start rest (inr h) = ap (λ (l : List Symbol). part_run (Go Fresh) (l ++ (NAME f ∷ MARK Comma ∷ rest))) h

-- the symbols of each form are read as this form
form_run : (ss : List Symbol) (form : RawForm) → IsForm ss form → part_run (Go Fresh) (ss ++ NL ∷ []) ≡ Done form
form_run ss (Receive x) h = ap (λ (l : List Symbol). part_run (Go Fresh) (l ++ NL ∷ [])) h
form_run ss (Assign x r) h = ap (λ (l : List Symbol). part_run (Go Fresh) (l ++ NL ∷ [])) h ∙ rhs_run x r
form_run ss (Goto l) h = ap (λ (l : List Symbol). part_run (Go Fresh) (l ++ NL ∷ [])) h
form_run ss (If t l) h =
    ap (λ (l : List Symbol). part_run (Go Fresh) (l ++ NL ∷ [])) h
    ∙ ap (λ (l : List Symbol). part_run (Go PIf) l) (append_assoc (test_symbols t) (WORD GotoWord ∷ NAME l ∷ []) (NL ∷ [])) ∙ test_run t l
form_run ss (TrapIf t n) h =
    ap (λ (l : List Symbol). part_run (Go Fresh) (l ++ NL ∷ [])) h
    ∙ ap (λ (l : List Symbol). part_run (Go PIf) l) (append_assoc (test_symbols t) (WORD TrapWord ∷ NUMBER n ∷ []) (NL ∷ [])) ∙ trap_run t n
form_run ss (Call x f args) h =
    ap (λ (l : List Symbol). part_run (Go Fresh) (l ++ NL ∷ [])) h.2
    ∙ ap (λ (l : List Symbol). part_run (Go Fresh) l) (append_assoc h.0 (NAME f ∷ MARK Comma ∷ args_symbols args) (NL ∷ []))
    ∙ call_run x f h.0 (args_symbols args ++ NL ∷ []) h.1 ∙ args_run x f args
form_run ss (Print a) h = ap (λ (l : List Symbol). part_run (Go Fresh) (l ++ NL ∷ [])) h ∙ hole_run OfPrint a (NL ∷ [])
form_run ss (Return None) h = ap (λ (l : List Symbol). part_run (Go Fresh) (l ++ NL ∷ [])) h
form_run ss (Return (Some (Var x))) h = ap (λ (l : List Symbol). part_run (Go Fresh) (l ++ NL ∷ [])) h
form_run ss (Return (Some (Const z))) h = ap (λ (l : List Symbol). part_run (Go Fresh) (l ++ NL ∷ [])) h

-- so the tokens of an instruction add it to the body
inst_run : (b : Reading) (colon : Bool) (us : List Terminal) (i : RawInst) → IsInst us i → fold read_step (In b (Inside colon)) us ≡ In (with_inst b i.line i.form) (Inside false)
inst_run b colon [] i h = absurd h.are.starts
inst_run b colon (t ∷ us) i h =
    inside_run b colon i.form t.symbol us t.line (ap (λ (l : List Symbol). part_run (Go Fresh) l) h.are.spelled ∙ form_run h.form i.form h.is_form)
    ∙ ap (λ (line : ℕ). In (with_inst b line i.form) (Inside false)) h.are.starts

-- a name with a colon is a label, whether a line end follows or not
label_start : (b : Reading) (colon : Bool) (x : List ℕ) (line : ℕ) (ss : List Symbol) (us : List Terminal) → symbols us ≡ MARK Colon ∷ ss → IsBreak ss → (after_colon : Bool) × (fold read_step (In b (Mid line (Named x))) us ≡ In (with_label b line x) (Inside after_colon))
label_start b colon x line ss [] h break = absurd (cc)
label_start b colon x line ss (t ∷ []) h (inl nothing) = (true, let is : t.symbol ≡ MARK Colon = cc in ap (λ (s : Symbol). reading_after b line t.line (named x s)) is)
label_start b colon x line ss (t ∷ []) h (inr end) = absurd (cc)
label_start b colon x line ss (t ∷ u ∷ us) h (inl nothing) = absurd (cc)
label_start b colon x line ss (t ∷ u ∷ []) h (inr end) = (
  false,
  let is : t.symbol ≡ MARK Colon = cc in
      let ends : u.symbol ≡ NL = cc in
      ap (λ (s : Symbol). read_step (reading_after b line t.line (named x s)) u) is ∙ ap (λ (s : Symbol). inside (with_label b line x) true s u.line) ends,
)
label_start b colon x line ss (t ∷ u ∷ v ∷ us) h (inr end) = absurd (cc)

-- so the tokens of a label add it to the labels
label_run : (b : Reading) (colon : Bool) (us : List Terminal) (l : RawLabel) → IsLabel us l → l.place ≡ length b.unit.body → (after_colon : Bool) × (fold read_step (In b (Inside colon)) us ≡ In (record b { unit = record b.unit { labels = b.unit.labels ++ l ∷ [] } }) (Inside after_colon))
label_run b colon [] l h at = absurd h.are.starts
label_run b colon (t ∷ us) l h at =
    let spelled : t.symbol ∷ symbols us ≡ NAME l.name ∷ MARK Colon ∷ h.«break» = h.are.spelled in
    let is : t.symbol ≡ NAME l.name = cc in
    let rest : symbols us ≡ MARK Colon ∷ h.«break» = cc in
    let run = label_start b colon l.name t.line h.«break» us rest h.is_break in (
      run.0,
      ap (λ (s : Symbol). fold read_step (inside b colon s t.line) us) is ∙ run.1
          ∙ ap (λ (line : ℕ). In (with_label b line l.name) (Inside run.0)) h.are.starts
          ∙ ap (λ (place : ℕ). In (record b { unit = record b.unit { labels = b.unit.labels ++ record { name = l.name; place = place; line = l.line } ∷ [] } }) (Inside run.0)) (sym at),
    )

-- the unit that is read, with these labels and instructions
abbrev grown : Reading → List RawLabel → List RawInst → Reading
grown b labels body = record { whole = b.whole; unit = record { name = b.unit.name; line = b.unit.line; labels = labels; body = body } }

-- so the tokens of a body add all of its labels and instructions
rows_run : (b : Reading) (ts : List Terminal) (labels : List RawLabel) (body : List RawInst) → Body ts labels body → (colon : Bool) × (fold read_step (In (grown b [] []) (Inside false)) ts ≡ In (grown b labels body) (Inside colon))
rows_run b _ _ _ bare = (false, refl)
rows_run b _ _ _ (label {ts} {us} {labels} {body} l rows is at) =
    let front = rows_run b ts labels body rows in
    let run = label_run (grown b labels body) front.0 us l is at in (
      run.0,
      fold-append read_step (In (grown b [] []) (Inside false)) ts us ∙ ap (λ (st : ReadSoFar). fold read_step st us) front.1 ∙ run.1,
    )
rows_run b _ _ _ (inst {ts} {us} {labels} {body} i rows is) =
    let front = rows_run b ts labels body rows in (
      false,
      fold-append read_step (In (grown b [] []) (Inside false)) ts us ∙ ap (λ (st : ReadSoFar). fold read_step st us) front.1 ∙ inst_run (grown b labels body) front.0 us i is,
    )

-- tokens with these symbols, one by one
run_on : (st next : ReadSoFar) (s : Symbol) (ss : List Symbol) (ts : List Terminal) → symbols ts ≡ s ∷ ss → ((at : ℕ) → read_step st (record { symbol = s; line = at }) ≡ next) → (us : List Terminal) × (symbols us ≡ ss) × (fold read_step st ts ≡ fold read_step next us)
run_on st next s ss [] h goes = absurd (cc)
run_on st next s ss (t ∷ ts) h goes =
    let is : t.symbol ≡ s = cc in
    let rest : symbols ts ≡ ss = cc in
    (ts, rest, ap (λ (st : ReadSoFar). fold read_step st ts) (ap (λ (s : Symbol). read_step st (record { symbol = s; line = t.line })) is ∙ goes t.line))

-- no symbols, no step
run_end : (st : ReadSoFar) (ts : List Terminal) → symbols ts ≡ [] → fold read_step st ts ≡ st
run_end st [] h = refl
run_end st (t ∷ ts) h = absurd (cc)

-- the remainder of a head leads into the unit: from `begin` on
begin_run : (b : Reading) (broken : Bool) (ts : List Terminal) → symbols ts ≡ WORD BeginWord ∷ NL ∷ [] → fold read_step (In b (Headed broken)) ts ≡ In b (Inside false)
begin_run b true ts h =
    let one = run_on (In b (Headed true)) (In b Begun) (WORD BeginWord) (NL ∷ []) ts h (λ at. refl) in
    let two = run_on (In b Begun) (In b (Inside false)) NL [] one.0 one.1 (λ at. refl) in one.2 ∙ two.2 ∙ run_end (In b (Inside false)) two.0 two.1
begin_run b false ts h =
    let one = run_on (In b (Headed false)) (In b Begun) (WORD BeginWord) (NL ∷ []) ts h (λ at. refl) in
    let two = run_on (In b Begun) (In b (Inside false)) NL [] one.0 one.1 (λ at. refl) in one.2 ∙ two.2 ∙ run_end (In b (Inside false)) two.0 two.1

-- from what may stand between the colon and `begin`
colon_run : (b : Reading) (ss : List Symbol) (ts : List Terminal) → symbols ts ≡ ss ++ (WORD BeginWord ∷ NL ∷ []) → IsBreak ss → fold read_step (In b (Headed true)) ts ≡ In b (Inside false)
colon_run b ss ts h (inl nothing) = begin_run b true ts (h ∙ ap (λ (l : List Symbol). l ++ (WORD BeginWord ∷ NL ∷ [])) nothing)
colon_run b ss ts h (inr end) =
    let one = run_on (In b (Headed true)) (In b (Headed false)) NL (WORD BeginWord ∷ NL ∷ []) ts (h ∙ ap (λ (l : List Symbol). l ++ (WORD BeginWord ∷ NL ∷ [])) end) (λ at. refl) in
    one.2 ∙ begin_run b false one.0 one.1

-- from the colon of a unit's name
named_run : (b : Reading) (ss : List Symbol) (ts : List Terminal) → symbols ts ≡ MARK Colon ∷ ss ++ (WORD BeginWord ∷ NL ∷ []) → IsBreak ss → fold read_step (In b UnitNamed) ts ≡ In b (Inside false)
named_run b ss ts h break =
    let one = run_on (In b UnitNamed) (In b (Headed true)) (MARK Colon) (ss ++ (WORD BeginWord ∷ NL ∷ [])) ts h (λ at. refl) in
    one.2 ∙ colon_run b ss one.0 one.1 break

-- the head of a unit opens it with no label and no instruction
head_run : (units : Raw) (name : List ℕ) (line : ℕ) (ts : List Terminal) → IsHead ts name line → fold read_step (Outside units) ts ≡ In (begin_unit units name line) (Inside false)
head_run units name line [] h = absurd h.are.starts
head_run units name line (t ∷ ts) h =
    let spelled : t.symbol ∷ symbols ts ≡ NAME name ∷ MARK Colon ∷ h.«break» ++ (WORD BeginWord ∷ NL ∷ []) = h.are.spelled in
    let is : t.symbol ≡ NAME name = cc in
    let rest : symbols ts ≡ MARK Colon ∷ h.«break» ++ (WORD BeginWord ∷ NL ∷ []) = cc in
    ap (λ (s : Symbol). fold read_step (outside units s t.line) ts) is ∙ named_run (begin_unit units name t.line) h.«break» ts rest h.is_break
    ∙ ap (λ (l : ℕ). In (begin_unit units name l) (Inside false)) h.are.starts

-- `end` closes the unit, also after a label
tail_run : (b : Reading) (colon : Bool) (ts : List Terminal) → symbols ts ≡ WORD EndWord ∷ NL ∷ [] → fold read_step (In b (Inside colon)) ts ≡ Outside (raw_with_unit b.whole b.unit)
tail_run b colon ts h =
    let one = run_on (In b (Inside colon)) (In b AfterEnd) (WORD EndWord) (NL ∷ []) ts h (λ at. refl) in
    let two = run_on (In b AfterEnd) (Outside (raw_with_unit b.whole b.unit)) NL [] one.0 one.1 (λ at. refl) in
    one.2 ∙ two.2 ∙ run_end (Outside (raw_with_unit b.whole b.unit)) two.0 two.1

-- the tokens of a unit add it to the units read so far
unit_run : (units : Raw) (u : RawUnitShape) (ts : List Terminal) → IsUnit ts u → fold read_step (Outside units) ts ≡ Outside (raw_with_unit units u)
unit_run units u ts h =
    let rows = rows_run (begin_unit units u.name u.line) h.body u.labels u.body h.is_body in
    ap (λ (l : List Terminal). fold read_step (Outside units) l) (h.text ∙ append_assoc h.head h.body h.tail) ∙ fold-append read_step (Outside units) h.head (h.body ++ h.tail)
    ∙ ap (λ (st : ReadSoFar). fold read_step st (h.body ++ h.tail)) (head_run units u.name u.line h.head h.is_head)
    ∙ fold-append read_step (In (begin_unit units u.name u.line) (Inside false)) h.body h.tail ∙ ap (λ (st : ReadSoFar). fold read_step st h.tail) rows.1
    ∙ tail_run (grown (begin_unit units u.name u.line) u.labels u.body) rows.0 h.tail h.is_tail

-- the tokens of a global line add it to those read so far
line_run : (globals : List RawGlobal) (g : RawGlobal) (ts : List Terminal) → IsGlobal ts g → fold read_step (Outside (globals_alone globals)) ts ≡ Outside (globals_alone (globals ++ g ∷ []))
line_run globals g [] h = absurd h.starts
line_run globals g (t ∷ ts) h =
    let spelled : t.symbol ∷ symbols ts ≡ WORD GlobalWord ∷ NAME g.name ∷ NL ∷ [] = h.spelled in
    let is : t.symbol ≡ WORD GlobalWord = cc in
    let rest : symbols ts ≡ NAME g.name ∷ NL ∷ [] = cc in
    let one = run_on (InGlobal globals t.line None) (InGlobal globals t.line (Some g.name)) (NAME g.name) (NL ∷ []) ts rest (λ at. refl) in
    let last : Raw = globals_alone (globals ++ record { name = g.name; line = t.line } ∷ []) in
    let two = run_on (InGlobal globals t.line (Some g.name)) (Outside last) NL [] one.0 one.1 (λ at. refl) in
    ap (λ (s : Symbol). fold read_step (outside (globals_alone globals) s t.line) ts) is ∙ one.2 ∙ two.2 ∙ run_end (Outside last) two.0 two.1
    ∙ ap (λ (line : ℕ). Outside (globals_alone (globals ++ record { name = g.name; line = line } ∷ []))) h.starts

-- a text is read as its raw program
pub text_run : (ts : List Terminal) (raw : Raw) → IsText ts raw → reads ts ≡ Outside raw
text_run _ _ no_unit = refl
text_run _ _ (global_line {ts} {us} {globals} g text is) =
    fold-append read_step (Outside (globals_alone [])) ts us ∙ ap (λ (st : ReadSoFar). fold read_step st us) (text_run ts (globals_alone globals) text) ∙ line_run globals g us is
text_run _ _ (more {ts} {us} {raw} u text is) = fold-append read_step (Outside (globals_alone [])) ts us ∙ ap (λ (st : ReadSoFar). fold read_step st us) (text_run ts raw text) ∙ unit_run raw u us is
