-- The operators: how each is spelled, and the operator that gives 1 where a relation holds. Cited by contracts.
use Rattle.std.specs.Prelude.{ℕ, List, codes}
use Rattle.mir_base.specs.declared.operators.Op.{Op}
use Rattle.mir_base.specs.declared.operators.Op.TheVariants.{Add, Sub, Mul, Div, Mod, Min, Max, Eq, Ne, Lt, Le, Gt, Ge, Shl, Shr, Shra, And, Or, Xor}
use Rattle.mir_base.specs.declared.operators.UnOp.{UnOp}
use Rattle.mir_base.specs.declared.operators.UnOp.TheVariants.{Neg, Not}
use Rattle.mir_base.specs.declared.operators.RelOp.{RelOp}
use Rattle.mir_base.specs.declared.operators.RelOp.TheVariants.{Eq as Equal, Ne as Differ, Lt as Below, Le as AtMost, Gt as Above, Ge as AtLeast}
use Rattle.mir_base.specs.declared.words.Word.TheVariants.{Mod as ModWord, Min as MinWord, Max as MaxWord, Shl as ShlWord, Shr as ShrWord, Shra as ShraWord, And as AndWord, Or as OrWord, Xor as XorWord}
use Rattle.mir_base.specs.Words.{word_text}

-- the text of an operator on two numbers: of some a reserved word
abbrev pub op_text : Op → List ℕ
op_text Add = codes "+"
op_text Sub = codes "-"
op_text Mul = codes "*"
op_text Div = codes "/"
op_text Mod = word_text ModWord
op_text Min = word_text MinWord
op_text Max = word_text MaxWord
op_text Eq = codes "="
op_text Ne = codes "!="
op_text Lt = codes "<"
op_text Le = codes "<="
op_text Gt = codes ">"
op_text Ge = codes ">="
op_text Shl = word_text ShlWord
op_text Shr = word_text ShrWord
op_text Shra = word_text ShraWord
op_text And = word_text AndWord
op_text Or = word_text OrWord
op_text Xor = word_text XorWord

-- the text of an operator on one number
abbrev pub un_op_text : UnOp → List ℕ
un_op_text Neg = codes "-"
un_op_text Not = codes "!"

-- the operator of the same name, which gives 1 where the relation holds, else 0
abbrev pub op_of_relation : RelOp → Op
op_of_relation Equal = Eq
op_of_relation Differ = Ne
op_of_relation Below = Lt
op_of_relation AtMost = Le
op_of_relation Above = Gt
op_of_relation AtLeast = Ge

-- the text of a relation is that of its operator
abbrev pub rel_op_text : RelOp → List ℕ
rel_op_text relation = op_text (op_of_relation relation)
