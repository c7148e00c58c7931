-- Laws: a program keeps its own heads, and what keeps the heads of a program that keeps those of a third keeps those of
-- the third; and units that take the places of others have their heads. For proofs only.
use Rattle.std.proofs.Common.{◌≡◌, ℕ, suc, Bool, true, false, List, [], ◌∷◌, length, map, slice_get, Some, refl, sym, ap, ◌∙◌, arith}
use Rattle.std.proofs.lemmas.List.{length-map}
use Rattle.mir_base.specs.Shapes.{ProgramShape, UnitShape, receives_in}
use Rattle.flow_graph.specs.ListLaws.{cons_same}
use Rattle.flow_graph.specs.Retained.{marked}
use Rattle.program_pass.specs.PassPrograms.{KeepsHeads, head_of, heads_of}

-- ---- marks

-- a mark for each item, all of them set
abbrev all_marks : {A : Type 0} → List A → List Bool
all_marks [] = []
all_marks (x ∷ xs) = true ∷ all_marks xs

-- there is one mark for each entry
all_marks_long : {A : Type 0} → (xs : List A) → length (all_marks xs) ≡ length xs
all_marks_long [] = refl
all_marks_long (x ∷ xs) = ap suc (all_marks_long xs)

-- and mark all items
marked_all : {A : Type 0} → (xs : List A) → marked (all_marks xs) xs ≡ xs
marked_all [] = refl
marked_all (x ∷ xs) = ap (λ l. x ∷ l) (marked_all xs)

-- of no items none is marked
none_marked : {A : Type 0} → (marks : List Bool) → marked {A = A} marks [] ≡ []
none_marked [] = refl
none_marked (true ∷ marks) = refl
none_marked (false ∷ marks) = refl

-- the marks of the items that are marked, and then marked again among the marked ones
abbrev marked_twice : List Bool → List Bool → List Bool
marked_twice [] later = []
marked_twice (false ∷ marks) later = false ∷ marked_twice marks later
marked_twice (true ∷ marks) [] = false ∷ marked_twice marks []
marked_twice (true ∷ marks) (mark ∷ later) = mark ∷ marked_twice marks later

-- they are as many
twice_long : (marks later : List Bool) → length (marked_twice marks later) ≡ length marks
twice_long [] later = refl
twice_long (false ∷ marks) later = ap suc (twice_long marks later)
twice_long (true ∷ marks) [] = ap suc (twice_long marks [])
twice_long (true ∷ marks) (mark ∷ later) = ap suc (twice_long marks later)

-- and mark what is marked among the marked ones
twice_marked : {A : Type 0} → (marks later : List Bool) (xs : List A) → marked later (marked marks xs) ≡ marked (marked_twice marks later) xs
twice_marked [] later xs = none_marked later
twice_marked (false ∷ marks) later [] = none_marked later
twice_marked (false ∷ marks) later (x ∷ xs) = twice_marked marks later xs
twice_marked (true ∷ marks) [] [] = refl
twice_marked (true ∷ marks) [] (x ∷ xs) = twice_marked marks [] xs
twice_marked (true ∷ marks) (mark ∷ later) [] = none_marked (mark ∷ later) ∙ sym (none_marked (mark ∷ marked_twice marks later))
twice_marked (true ∷ marks) (true ∷ later) (x ∷ xs) = ap (λ l. x ∷ l) (twice_marked marks later xs)
twice_marked (true ∷ marks) (false ∷ later) (x ∷ xs) = twice_marked marks later xs

-- ---- heads

-- programs of the same globals and heads
pub heads_stay : (first second : ProgramShape) → second.globals ≡ first.globals → heads_of second ≡ heads_of first → KeepsHeads first second
heads_stay first second globals same = record {
  globals = globals;
  stay = all_marks (heads_of first);
  long = all_marks_long (heads_of first) ∙ length-map first.units head_of;
  heads = same ∙ sym (marked_all (heads_of first));
  entry = ap (λ l. slice_get l 0) same;
}

-- a program keeps its own globals and heads
pub heads_refl : (program : ProgramShape) → KeepsHeads program program
heads_refl program = heads_stay program program refl refl

-- what a second program keeps of the first, and a third of the second, the third keeps of the first
pub heads_trans : (first second third : ProgramShape) → KeepsHeads first second → KeepsHeads second third → KeepsHeads first third
heads_trans first second third one two = record {
  globals = two.globals ∙ one.globals;
  stay = marked_twice one.stay two.stay;
  long = twice_long one.stay two.stay ∙ one.long;
  heads = two.heads ∙ ap (marked two.stay) one.heads ∙ twice_marked one.stay two.stay (heads_of first);
  entry = two.entry ∙ one.entry;
}

-- ---- units by number

-- a unit with the name of another, which receives as many arguments, has its head
pub head_same : (source target : UnitShape) → target.name ≡ source.name → receives_in target.body ≡ receives_in source.body → head_of target ≡ head_of source
head_same source target name receives =
    ap (λ (n : List ℕ). record { name = n; receives = receives_in target.body }) name ∙ ap (λ (k : ℕ). record { name = source.name; receives = k }) receives

-- so of all units
pub heads_same : (sources targets : List UnitShape) → length targets ≡ length sources
    → ((u : ℕ) (source target : UnitShape) → slice_get sources u ≡ Some source → slice_get targets u ≡ Some target → head_of target ≡ head_of source)
    → map head_of targets ≡ map head_of sources
heads_same [] [] long each = refl
heads_same [] (t ∷ targets) long each = absurd (omega (arith, long))
heads_same (s ∷ sources) [] long each = absurd (omega (arith, long))
heads_same (s ∷ sources) (t ∷ targets) long each = cons_same (each 0 s t refl refl) (heads_same sources targets (omega (arith, long)) (λ u. each (suc u)))
