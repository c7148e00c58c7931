-- The lines of the terms of the variables. Cited by contracts.
use Rattle.std.specs.Prelude.{◌≡◌, ℕ, zero, suc, List, [], ◌++◌, codes, decimal, flat_map, length, slice_get, Option, Some, None}
use Rattle.std.specs.Fmt.{signed_decimal}
use Rattle.mir_base.specs.Operators.{op_text, un_op_text}
use Rattle.flow_graph.specs.Graphs.{GraphShape}
use Rattle.value_number.specs.declared.all_terms.TermsAt.{TermsAt}
use Rattle.value_number.specs.declared.terms.TermKey.{TermKey}
use Rattle.value_number.specs.declared.terms.TermKey.TheVariants as keys
use Rattle.value_number.specs.AllTerms.{AreAllTerms}
use Rattle.table_text.specs.Lines.{field, name_field}

-- ---- lines

-- a leaf: its kind, its variable and its node
abbrev pub leaf_text : List ℕ → List (List ℕ) → ℕ → ℕ → List ℕ
leaf_text kind vars x node = field kind ++ name_field vars x ++ field (decimal node)

-- what a term is: a variable before a root, a variable behind a node, a number, or an operator on other terms
abbrev pub term_text : List (List ℕ) → TermKey → List ℕ
term_text vars (keys.Initial x root) = leaf_text (codes "leaf") vars x root
term_text vars (keys.Opaque node x) = leaf_text (codes "node") vars x node
term_text vars (keys.Number number) = codes " number" ++ field (signed_decimal number)
term_text vars (keys.Unary op a) = field (un_op_text op) ++ field (decimal a)
term_text vars (keys.Binary op a b) = field (op_text op) ++ field (decimal a) ++ field (decimal b)

-- the line of the term of this number, where there is one
abbrev pub term_line : List (List ℕ) → ℕ → Option TermKey → List ℕ
term_line vars number None = []
term_line vars number (Some key) =
    codes "term" ++ field (decimal number) ++ term_text vars key ++ codes "\n"

-- the lines of the first terms of a table, of which there are so many
abbrev pub terms_below : List (List ℕ) → List TermKey → ℕ → List ℕ
terms_below vars table zero = []
terms_below vars table (suc n) = terms_below vars table n ++ term_line vars n (slice_get table n)

-- the number of a term, or `-`
abbrev pub number_field : Option ℕ → List ℕ
number_field None = field (codes "-")
number_field (Some number) = field (decimal number)

-- the line of a node with this root and these numbers
abbrev pub numbers_line : ℕ → ℕ → List (Option ℕ) → List ℕ
numbers_line node root numbers =
    codes "terms" ++ field (decimal node) ++ field (decimal root) ++ flat_map number_field numbers
    ++ codes "\n"

-- the line of the node of this number, where there is one
abbrev pub terms_line : ℕ → Option TermsAt → List ℕ
terms_line node None = []
terms_line node (Some at) = numbers_line node at.root at.numbers.items

-- the lines of the first nodes, of which there are so many
abbrev pub nodes_below : List TermsAt → ℕ → List ℕ
nodes_below nodes zero = []
nodes_below nodes (suc n) = nodes_below nodes n ++ terms_line n (slice_get nodes n)

-- ---- the whole

-- the text is that of the table, in which no term stands that nothing needs and each stands behind its operands, and of
-- the numbers before each node
pub record IsTermsText (graph : GraphShape) (text : List ℕ) : Type 0 where
  pub table : List TermKey
  pub nodes : List TermsAt
  pub are : AreAllTerms graph table nodes
  pub text_is : text
      ≡ terms_below graph.vars table (length table) ++ nodes_below nodes (length nodes)
