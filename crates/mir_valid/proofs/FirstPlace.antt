-- The least place of a label tells whether some label stands before a place.
use Rattle.std.proofs.Common.{◌≡◌, ℕ, min, ◌||◌, nat_le, List, [], ◌∷◌, map, fold, Option, None, Some, refl, ap, sym, ◌∙◌, arith}
use Rattle.std.proofs.Math.Bool.{or-false, or_assoc}
use Rattle.std.proofs.lemmas.Bool.Decides.{nat_tests}
use Rattle.mir_parse.specs.declared.raw.RawLabel.{RawLabel}
use Rattle.mir_valid.specs.Rules.{has_label_before}
use Rattle.mir_valid.specs.Refusals.{lesser, least}
use Rattle.mir_valid.specs.NameTables.{is_at_most}

-- the lesser of two is at most a place where one of them is
min_le : (m n place : ℕ) → nat_le (min m n) place ≡ (nat_le m place || nat_le n place)
min_le m n place = grind (arith, nat_tests)

-- one place more
reaches_lesser : (place : ℕ) (first : Option ℕ) (n : ℕ) → is_at_most (lesser first n) place ≡ (is_at_most first place || nat_le n place)
reaches_lesser place None n = refl
reaches_lesser place (Some m) n = min_le m n place

-- the least place, from that of the labels before, reaches a place where some label stands before it
reaches_fold : (place : ℕ) (labels : List RawLabel) (first : Option ℕ)
    → is_at_most (fold lesser first (map (λ label. label.place) labels)) place ≡ (is_at_most first place || has_label_before labels place)
reaches_fold place [] first = sym (or-false (is_at_most first place))
reaches_fold place (label ∷ labels) first =
    reaches_fold place labels (lesser first label.place)
    ∙ ap (λ b. b || has_label_before labels place) (reaches_lesser place first label.place)
    ∙ or_assoc (is_at_most first place) (nat_le label.place place) (has_label_before labels place)

-- the least place of a label is at most a place where some label stands before it
pub first_place_reaches : (place : ℕ) (labels : List RawLabel) → is_at_most (least (map (λ label. label.place) labels)) place ≡ has_label_before labels place
first_place_reaches place labels = reaches_fold place labels None
