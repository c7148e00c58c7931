-- Laws of bytes that are appended to a sink in pieces, where a later piece may fail. For proofs only.
use Rattle.std.proofs.Common.{ℕ, ◌≡◌, ◌+◌, List, ◌++◌, length, take, Option, None, Some, sym, ◌∙◌, ap, subst, arith, append_assoc, length-append}
use Rattle.std.proofs.lemmas.List.{take-append-le}
use Rattle.std.proofs.Math.Seq.{take-append-add}
use Rattle.std.specs.Io.KnownBytes.{Appends}
use Rattle.mir_outside.specs.Transfer.{AppendsPart}

-- two appends are one
pub appends_on : (old mid new : Option (List ℕ)) (xs ys zs : List ℕ) → Appends old mid xs → Appends mid new ys → zs ≡ xs ++ ys → Appends old new zs
appends_on None mid new xs ys zs first second is = tt
appends_on (Some a) None new xs ys zs first second is = absurd first
appends_on (Some a) (Some b) None xs ys zs first second is = absurd second
appends_on (Some a) (Some b) (Some c) xs ys zs first second is = second ∙ ap (λ (l : List ℕ). l ++ ys) first ∙ append_assoc a xs ys ∙ ap (λ (l : List ℕ). a ++ l) (sym is)

-- a whole piece and a proper prefix of the next are a proper prefix of both
pub appends_then_part : (old mid new : Option (List ℕ)) (xs ys : List ℕ) → Appends old mid xs → AppendsPart mid new ys → AppendsPart old new (xs ++ ys)
appends_then_part old mid new xs ys first (n, short, second) =
    (length xs + n, omega (arith, short, length-append xs ys), appends_on old mid new xs (take n ys) _ first second (take-append-add xs ys n))

-- a proper prefix of the first piece is one of both
pub part_of_first : (old new : Option (List ℕ)) (xs ys : List ℕ) → AppendsPart old new xs → AppendsPart old new (xs ++ ys)
part_of_first old new xs ys (n, short, appends) =
    (n, omega (arith, short, length-append xs ys), subst (Appends old new) (sym (take-append-le n xs ys (omega (arith, short)))) appends)
