-- The text of where temporaries are held is the only one, and it grows by that of one more unit; a linked trail has the
-- lazy placements that it asks for; and an expression is inserted where its insertions are not none.
use Rattle.std.proofs.Common.{◌≡◌, ◌≢◌, ◌+◌, ℕ, zero, suc, Bool, true, false, if◌then◌else◌, ◌||◌, Option, None, List, [], ◌∷◌, ◌++◌, Some, take, length, slice_get, refl, sym, ◌∙◌, ap, subst, append_assoc, add-one, arith}
use Rattle.std.specs.List.{AllZip}
use Rattle.std.specs.Prelude.{All}
use Rattle.std.proofs.lemmas.List.{append-nil}
use Rattle.std.proofs.lemmas.List.Elements.{All-cons, All-nil}
use Rattle.mir_base.specs.declared.instructions.Expr.{Expr}
use Rattle.mir_base.specs.Shapes.{UnitShape}
use Rattle.flow_graph.specs.ListLaws.{take_one}
use Rattle.flow_graph.specs.Sums.{one_if}
use Rattle.path_laws.specs.Paths.{has_bit}
use Rattle.motion_rewrite.specs.Placements.{IsAnticipatable}
use Rattle.motion_rewrite.specs.Temporaries.{has_insertion}
use Rattle.div_move.specs.MustCome.{MustComeTo}
use Rattle.live_range.specs.Counts.{count_below, rows_with}
use Rattle.live_range.specs.HeldLaws.{held_is_one}
use Rattle.mir_opt.specs.declared.trails.MoveUnit.{MoveUnit}
use Rattle.mir_opt.specs.Links.{LinksDivision, LinksMove}
use Rattle.mir_top.specs.RangeTexts.{IsLazilyPlaced, IsRangeText, ShowsRanges, line_at, range_line, range_text, temporary_at, temporary_of}

-- ---- one text

-- a unit has one text, since the rows are the only ones
range_same : (unit : MoveUnit) (a b : List ℕ) → IsRangeText unit a → IsRangeText unit b → a ≡ b
range_same unit a b p q = p.text_is ∙ ap (range_text unit) (held_is_one unit.split unit.table unit.placement p.held q.held p.are_held q.are_held) ∙ sym q.text_is

-- so units in turn have one text
pub ranges_same : (units : List MoveUnit) (a b : List ℕ) → ShowsRanges units a → ShowsRanges units b → a ≡ b
ranges_same [] a b p q = p ∙ sym q
ranges_same (unit ∷ units) a b p q =
    p.4 ∙ ap (λ (l : List ℕ). l ++ p.1) (range_same unit p.0 q.0 p.2 q.2) ∙ ap (λ (l : List ℕ). q.0 ++ l) (ranges_same units p.1 q.1 p.3 q.3) ∙ sym q.4

-- ---- one more unit

-- at the end of units that are shown
push_ranges : (units : List MoveUnit) (unit : MoveUnit) (text piece : List ℕ) → ShowsRanges units text → IsRangeText unit piece → ShowsRanges (units ++ unit ∷ []) (text ++ piece)
push_ranges [] unit text piece shown is = (piece, [], is, refl, ap (λ (l : List ℕ). l ++ piece) shown ∙ sym (append-nil piece))
push_ranges (first ∷ units) unit text piece shown is =
    (shown.0, shown.1 ++ piece, shown.2, push_ranges units unit shown.1 piece shown.3 is, ap (λ (l : List ℕ). l ++ piece) shown.4 ∙ append_assoc shown.0 shown.1 piece)

-- of a list of which some are shown
pub next_range : (units : List MoveUnit) (n : ℕ) (unit : MoveUnit) (text piece : List ℕ) → ShowsRanges (take n units) text → slice_get units n ≡ Some unit → IsRangeText unit piece → ShowsRanges (take (n + 1) units) (text ++ piece)
next_range units n unit text piece shown at is =
    subst (λ (l : List MoveUnit). ShowsRanges l (text ++ piece)) (sym (take_one units n unit at)) (push_ranges (take n units) unit text piece shown is)

-- ---- linked trails

-- what is true of the second of related items
of_zip : {A B : Type 0} (R : A → B → Type 0) (P : B → Type 0) → ((x : A) (y : B) → R x y → P y) → (xs : List A) (ys : List B) → AllZip R xs ys → All P ys
of_zip R P holds [] [] z = All-nil P
of_zip R P holds [] (y ∷ ys) z = absurd z
of_zip R P holds (x ∷ xs) [] z = absurd z
of_zip R P holds (x ∷ xs) (y ∷ ys) z = All-cons P y ys (holds x y z.0) (of_zip R P holds xs ys z.1)

-- by the rule of code motion
pub moves_placed : (sources : List UnitShape) (units : List MoveUnit) → AllZip LinksMove sources units → All (IsLazilyPlaced IsAnticipatable) units
moves_placed = of_zip LinksMove (IsLazilyPlaced IsAnticipatable) (λ source unit links. record { splits = links.motion.splits; placed = links.motion.placed })

-- and by that of divisions
pub divisions_placed : (sources : List UnitShape) (units : List MoveUnit) → AllZip LinksDivision sources units → All (IsLazilyPlaced MustComeTo) units
divisions_placed = of_zip LinksDivision (IsLazilyPlaced MustComeTo) (λ source unit links. record { splits = links.motion.splits; placed = links.motion.placed })

-- ---- insertions

-- the first number counts by itself
count_shift : (f : ℕ → Bool) (n : ℕ) → count_below f (suc n) ≡ one_if (f 0) + count_below (λ k. f (suc k)) n
count_shift f zero = omega arith
count_shift f (suc n) = omega (arith, count_shift f n)

-- so does the first row
rows_shift : (row : List Bool) (rows : List (List Bool)) (i : ℕ) → rows_with (row ∷ rows) i ≡ one_if (has_bit (row ∷ []) i 0) + rows_with rows i
rows_shift row rows i = count_shift (has_bit (row ∷ rows) i) (length rows)

-- where the first row has no bit that counts, it has none, and the others decide
none_by : (row : List Bool) (rows : List (List Bool)) (i : ℕ) (b : Bool) → has_bit (row ∷ []) i 0 ≡ b → rows_with (row ∷ rows) i ≡ 0 → (rows_with rows i ≡ 0 → has_insertion rows i ≡ false) → has_insertion (row ∷ rows) i ≡ false
none_by row rows i true is none rest = absurd (let one : one_if (has_bit (row ∷ []) i 0) ≡ 1 = ap one_if is in omega (arith, rows_shift row rows i, none, one))
none_by row rows i false is none rest =
    let zero : one_if (has_bit (row ∷ []) i 0) ≡ 0 = ap one_if is in
    ap (λ (x : Bool). x || has_insertion rows i) is ∙ rest (omega (arith, rows_shift row rows i, none, zero))

-- where no row has the bit, there is no insertion
pub none_inserted : (rows : List (List Bool)) (i : ℕ) → rows_with rows i ≡ 0 → has_insertion rows i ≡ false
none_inserted [] i none = refl
none_inserted (row ∷ rows) i none = none_by row rows i (has_bit (row ∷ []) i 0) refl none (none_inserted rows i)

-- where the first row has the bit, it is inserted, and else the others decide
some_by : (row : List Bool) (rows : List (List Bool)) (i : ℕ) (b : Bool) → has_bit (row ∷ []) i 0 ≡ b → rows_with (row ∷ rows) i ≢ 0 → (rows_with rows i ≢ 0 → has_insertion rows i ≡ true) → has_insertion (row ∷ rows) i ≡ true
some_by row rows i true is some rest = ap (λ (x : Bool). x || has_insertion rows i) is
some_by row rows i false is some rest =
    let none : one_if (has_bit (row ∷ []) i 0) ≡ 0 = ap one_if is in
    ap (λ (x : Bool). x || has_insertion rows i) is ∙ rest (λ zero. some (omega (arith, rows_shift row rows i, none, zero)))

-- and where some has it, there is one
pub some_inserted : (rows : List (List Bool)) (i : ℕ) → rows_with rows i ≢ 0 → has_insertion rows i ≡ true
some_inserted [] i some = absurd (some refl)
some_inserted (row ∷ rows) i some = some_by row rows i (has_bit (row ∷ []) i 0) refl some (some_inserted rows i)

-- ---- lines

-- the number of the temporary of the next expression is 1 more where this one is inserted, and else the same
next_temporary : (unit : MoveUnit) (i : ℕ) (b : Bool) → has_insertion unit.placement.insert i ≡ b → temporary_at unit (i + 1) ≡ temporary_at unit i + one_if b
next_temporary unit i b is =
    let step : one_if (has_insertion unit.placement.insert i) ≡ one_if b = ap one_if is in
    ap (temporary_at unit) (add-one i) ∙ omega (arith, step)

-- so it stays where the expression is not inserted
pub same_next : (unit : MoveUnit) (i : ℕ) → rows_with unit.placement.insert i ≡ 0 → temporary_at unit i ≡ temporary_at unit (i + 1)
same_next unit i none = omega (arith, next_temporary unit i false (none_inserted unit.placement.insert i none))

-- and is 1 more where it is
pub one_next : (unit : MoveUnit) (i : ℕ) → rows_with unit.placement.insert i ≢ 0 → temporary_at unit (i + 1) ≡ temporary_at unit i + 1
one_next unit i some = next_temporary unit i true (some_inserted unit.placement.insert i some)

-- there is no line where the expression is not inserted
pub no_line : (unit : MoveUnit) (held : List (List Bool)) (i : ℕ) (o : Option Expr) → rows_with unit.placement.insert i ≡ 0 → line_at unit held i o ≡ []
no_line unit held i None none = refl
no_line unit held i (Some e) none =
    ap (λ (b : Bool). if b then range_line (temporary_of unit i) unit.split.vars e (rows_with unit.placement.insert i) (rows_with unit.placement.replace i) (rows_with held i) else []) (none_inserted unit.placement.insert i none)

-- and its line where it is
pub one_line : (unit : MoveUnit) (held : List (List Bool)) (i : ℕ) (e : Expr) (name : List ℕ) (vars : List (List ℕ)) (x r h : ℕ) → slice_get unit.table i ≡ Some e → rows_with unit.placement.insert i ≢ 0
    → name ≡ temporary_of unit i → vars ≡ unit.split.vars → x ≡ rows_with unit.placement.insert i → r ≡ rows_with unit.placement.replace i → h ≡ rows_with held i
    → range_line name vars e x r h ≡ line_at unit held i (slice_get unit.table i)
one_line unit held i e name vars x r h at some name_is vars_are x_is r_is h_is =
    let own = range_line (temporary_of unit i) unit.split.vars e (rows_with unit.placement.insert i) (rows_with unit.placement.replace i) (rows_with held i) in
    let line : line_at unit held i (slice_get unit.table i) ≡ own = ap (line_at unit held i) at ∙ ap (λ (b : Bool). if b then own else []) (some_inserted unit.placement.insert i some) in
    ap (λ (n : List ℕ). range_line n vars e x r h) name_is
    ∙ ap (λ (v : List (List ℕ)). range_line (temporary_of unit i) v e x r h) vars_are
    ∙ ap (λ (k : ℕ). range_line (temporary_of unit i) unit.split.vars e k r h) x_is
    ∙ ap (λ (k : ℕ). range_line (temporary_of unit i) unit.split.vars e (rows_with unit.placement.insert i) k h) r_is
    ∙ ap (λ (k : ℕ). range_line (temporary_of unit i) unit.split.vars e (rows_with unit.placement.insert i) (rows_with unit.placement.replace i) k) h_is
    ∙ sym line
