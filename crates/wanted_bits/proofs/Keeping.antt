-- What is news of numbers that were raised, and whether any was.
use Rattle.std.proofs.Common.{◌≡◌, ◌↔◌, inl, inr, ℕ, ◌≤◌, max, Bool, true, false, ◌||◌, if◌then◌else◌, nat_eq, List, [], ◌∷◌, length, slice_set, Option, refl, sym, ap, ◌∙◌, subst, arith}
use Rattle.std.proofs.lemmas.Bool.{cases_Bool, cases_lt, or_parts}
use Rattle.std.proofs.lemmas.List.{ext_get_or, get_or-set_same, get_or_past, length-set, set-get_or}
use Rattle.flow_graph.specs.Graphs.{GraphShape}
use Rattle.flow_graph.specs.Numbering.{is_in}
use Rattle.wanted_bits.specs.declared.picking.Shift.{Shift}
use Rattle.wanted_bits.specs.NewsShapes.{AreNoted, KeepsRaised, VariablesShape, is_meant}
use Rattle.wanted_bits.specs.TouchLaws.{set_apart}
use Rattle.wanted_bits.specs.Touching.{IsCaught, raised_bits}
use Rattle.wanted_bits.specs.Walking.{bits_at, raised_at}
use Rattle.wanted_bits.specs.WalkLaws.{FewerEach}
use Rattle.wanted_bits.proofs.NewsJoins.{raised_is, raised_one}

-- nothing has changed
pub keeps_none : (news : VariablesShape) (bits : List ℕ) → KeepsRaised news bits news bits
keeps_none news bits = record { long = refl; same = λ k out. (out, refl) }

-- one number was set whose variable was noted
pub keeps_set : (news news' : VariablesShape) (bits new : List ℕ) (x v : ℕ) → AreNoted (x ∷ []) news news' → new ≡ slice_set bits x v → KeepsRaised news bits news' new
keeps_set news news' bits new x v noted set = record {
  long = ap length set ∙ length-set bits x v;
  same = λ k out. (was k out, ap (λ l. bits_at l k) set ∙ set_apart bits x v k (other k out));
}
  where
    was : (k : ℕ) → is_meant news' k ≡ false → is_meant news k ≡ false
    was k out = elim (cases_Bool (is_meant news k)) [
      | inl on ↦ (let bad : true ≡ false = sym (noted.kept k on) ∙ out in absurd (cc))
      | inr off ↦ off
    ]

    other : (k : ℕ) → is_meant news' k ≡ false → nat_eq x k ≡ false
    other k out = elim (cases_Bool (nat_eq x k)) [
      | inl on ↦ (let bad : true ≡ false = sym (noted.noted k (ap (λ b. b || false) on)) ∙ out in absurd (cc))
      | inr off ↦ off
    ]

-- one after the other
pub keeps_then : (news news' news'' : VariablesShape) (xs ys zs : List ℕ) → KeepsRaised news xs news' ys → KeepsRaised news' ys news'' zs → KeepsRaised news xs news'' zs
keeps_then news news' news'' xs ys zs first second = record {
  long = second.long ∙ first.long;
  same = λ k out.
      let later = second.same k out in
      let sooner = first.same k later.0 in
      (sooner.0, later.1 ∙ sooner.1);
}

-- ---- whether any rose

-- a list with one number raised is above the one before it
pub one_above : (others bits new : List ℕ) (x : ℕ) → length others ≡ length bits → new ≡ raised_at bits x (bits_at others x) → FewerEach bits new
one_above others bits new x long is k = by (nat_eq x k) (ap (λ l. bits_at l k) is ∙ raised_one others bits x k long)
  where
    by : (b : Bool) → bits_at new k ≡ (if b then max (bits_at bits k) (bits_at others k) else bits_at bits k) → bits_at bits k ≤ bits_at new k
    by true e = omega (arith, e)
    by false e = omega (arith, e)

-- and is another one if it rose
pub one_tells : (others bits new : List ℕ) (x : ℕ) (rose : Bool) → length others ≡ length bits → new ≡ raised_at bits x (bits_at others x) → ((rose ≡ false) ↔ (bits_at others x ≤ bits_at bits x)) → (rose ≡ false) ↔ (new ≡ bits)
one_tells others bits new x rose long is tells = (
  λ off.
      let le = tells.0 off in
      let stays : max (bits_at bits x) (bits_at others x) ≡ bits_at bits x = omega (arith, le) in
      is ∙ ap (slice_set bits x) stays ∙ set-get_or bits x 0,
  λ same. tells.1 (few (ap (λ l. bits_at l x) (sym is ∙ same))),
)
  where
    few : bits_at (raised_at bits x (bits_at others x)) x ≡ bits_at bits x → bits_at others x ≤ bits_at bits x
    few e = elim (cases_lt x (length bits)) [
      | inl lt ↦ omega (arith, e, get_or-set_same bits x (max (bits_at bits x) (bits_at others x)) 0 lt)
      | inr ge ↦ omega (arith, get_or_past others x 0 (omega (arith, ge, long)))
    ]

-- lists that are above one another are equal
above_same : (xs ys : List ℕ) → length xs ≡ length ys → FewerEach xs ys → FewerEach ys xs → xs ≡ ys
above_same xs ys long le ge = ext_get_or 0 xs ys long (λ k lt. omega (arith, le k, ge k))

-- one after the other
pub tells_then : (old ys zs : List ℕ) (changed rose : Bool) → length zs ≡ length ys → length ys ≡ length old → FewerEach old ys → FewerEach ys zs
    → ((changed ≡ false) ↔ (ys ≡ old)) → ((rose ≡ false) ↔ (zs ≡ ys)) → ((changed || rose) ≡ false) ↔ (zs ≡ old)
tells_then old ys zs changed rose long was_long above more tells one = (to, back)
  where
    to : (changed || rose) ≡ false → zs ≡ old
    to off = let parts = or_parts changed rose off in one.0 parts.1 ∙ tells.0 parts.0

    back : zs ≡ old → (changed || rose) ≡ false
    back same =
        let first : ys ≡ old = above_same ys old was_long (subst (FewerEach ys) same more) above in
        ap (λ b. b || rose) (tells.1 first) ∙ one.1 (same ∙ sym first)

-- a list with several numbers raised is above the one before it
pub listed_above : (others xs bits new : List ℕ) → length others ≡ length bits → new ≡ raised_bits others xs bits → FewerEach bits new
listed_above others xs bits new long is k = by (is_in k xs) (ap (λ l. bits_at l k) is ∙ raised_is others xs bits k long)
  where
    by : (b : Bool) → bits_at new k ≡ (if b then max (bits_at bits k) (bits_at others k) else bits_at bits k) → bits_at bits k ≤ bits_at new k
    by true e = omega (arith, e)
    by false e = omega (arith, e)

-- ---- what was caught

-- stays so
pub keeps_caught : (graph : GraphShape) (back : ℕ → Option Shift) (list : List ℕ) (news news' : VariablesShape) (xs ys target : List ℕ) → KeepsRaised news xs news' ys → IsCaught graph back list news xs target → IsCaught graph back list news' ys target
keeps_caught graph back list news news' xs ys target keeps caught = record {
  wanted = λ k out apart.
      let both = keeps.same k out in
      omega (arith, caught.wanted k both.0 apart, both.1);
}
