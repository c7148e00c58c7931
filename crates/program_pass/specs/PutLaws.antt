-- Laws: what is pushed of a list of assignments, and what is still to come, are all of it. For proofs only.
use Rattle.std.proofs.Common.{◌≡◌, List, [], ◌∷◌, ◌++◌, append_assoc, append-nil, refl, sym, ap, ◌∙◌}
use Rattle.graph_edit.specs.Insertions.{Insertion}
use Rattle.program_pass.specs.declared.standing.Put.{Put}
use Rattle.program_pass.specs.Puts.{insertions}

-- an assignment as an insertion
abbrev pub insertion : Put → Insertion
insertion put = record { var = put.var; rhs = put.rhs }

-- one more
insertions_push : (puts : List Put) (put : Put) → insertions (puts ++ put ∷ []) ≡ insertions puts ++ insertion put ∷ []
insertions_push [] put = refl
insertions_push (p ∷ puts) put = ap (λ l. insertion p ∷ l) (insertions_push puts put)

-- what is pushed was the first of what is still to come
pub pushed : (puts puts' : List Put) (put : Put) (rest rest' all : List Insertion) → puts' ≡ puts ++ put ∷ []
    → rest ≡ insertion put ∷ rest' → insertions puts ++ rest ≡ all → insertions puts' ++ rest' ≡ all
pushed puts puts' put rest rest' all is first before =
    ap (λ l. insertions l ++ rest') is ∙ ap (λ l. l ++ rest') (insertions_push puts put) ∙ append_assoc (insertions puts) (insertion put ∷ []) rest' ∙ ap (λ l. insertions puts ++ l) (sym first) ∙ before

-- nothing is still to come
pub pushed_all : (puts : List Put) (rest all : List Insertion) → rest ≡ [] → insertions puts ++ rest ≡ all → insertions puts ≡ all
pushed_all puts rest all none is = sym (append-nil (insertions puts)) ∙ ap (λ l. insertions puts ++ l) (sym none) ∙ is
