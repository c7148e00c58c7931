-- A flow of the tests: levels up to 255 that run along a chain of joins, with one more node between each two. As in a
-- graph whose edges were split, these nodes have the highest numbers. Cited by contracts of the tests.
use Rattle.std.specs.Prelude.{◌≡◌, ◌≢◌, ℕ, ◌+◌, ◌-◌, ◌*◌, ◌/◌, ◌%◌, ◌<◌, ◌≤◌, nat_lt, if◌then◌else◌, refl}
use Rattle.std.proofs.Common.{arith, inl, inr, if◌then◌else◌, nat_lt}
use Rattle.std.proofs.lemmas.Bool.{cases_lt, lt-ltb, le-ltb}
use Rattle.fix_solve.specs.Order.{OrderLaws}
use Rattle.fix_solve.specs.Net.{Net, NetLaws}

-- numbers in one block of 256, the first at most the second: the order of the levels of this test
pub record Under (x y : ℕ) : Type 0 where
  pub le : x ≤ y
  pub same : x / 256 ≡ y / 256

-- the block that a number stands in
abbrev pub level_size : ℕ → ℕ
level_size x = x / 256

-- the level of a number: its place in its block
abbrev pub level : ℕ → ℕ
level x = x % 256

-- each join has an edge to a node between, and that one leads to the next join
abbrev pub ladder : ℕ → Net ℕ
ladder joins = record {
  nodes = 2 * joins + 1;
  edges = 2 * joins;
  source = λ e. if nat_lt e joins then e else e + 1;
  target = λ e. if nat_lt e joins then joins + 1 + e else e - joins + 1;
  start = λ n. if nat_lt joins n then n - 1 else n;
  stop = λ n. if nat_lt n joins then n + 1 else n;
  size = 0;
  height = 255;
  first = λ n. joins - n;
  transfer = λ e x. x;
}

-- so these are values that can be solved for
pub level_laws : OrderLaws Under level_size level
level_laws = record {
  reflexive = λ x. record { le = omega arith; same = refl };
  transitive = λ x y z p q. let a : x ≤ y = p.le in let b : y ≤ z = q.le in let c : x / 256 ≡ y / 256 = p.same in let d : y / 256 ≡ z / 256 = q.same in record { le = omega arith; same = omega arith };
  antisymmetric = λ x y p q. let a : x ≤ y = p.le in let b : y ≤ x = q.le in omega arith;
  same_size = λ x y p. p.same;
  rises = λ x y p d. let a : x ≤ y = p.le in let b : x / 256 ≡ y / 256 = p.same in let c : x ≢ y = d in omega arith;
}

-- ---- the laws of the flow

module _ (joins : ℕ) (few : joins < 256) where
  source_in : (e : ℕ) → e < 2 * joins → (if nat_lt e joins then e else e + 1) < 2 * joins + 1
  source_in e h = elim (cases_lt e joins) as (λ _. (if nat_lt e joins then e else e + 1) < 2 * joins + 1) [
    | inl low ↦ rw (lt-ltb e joins low) (omega arith)
    | inr high ↦ rw (le-ltb e joins high) (omega arith)
  ]

  target_in : (e : ℕ) → e < 2 * joins → (if nat_lt e joins then joins + 1 + e else e - joins + 1) < 2 * joins + 1
  target_in e h = elim (cases_lt e joins) as (λ _. (if nat_lt e joins then joins + 1 + e else e - joins + 1) < 2 * joins + 1) [
    | inl low ↦ rw (lt-ltb e joins low) (omega arith)
    | inr high ↦ rw (le-ltb e joins high) (omega arith)
  ]

  start_in : (n : ℕ) → n < 2 * joins + 1 → (if nat_lt joins n then n - 1 else n) ≤ 2 * joins
  start_in n h = elim (cases_lt joins n) as (λ _. (if nat_lt joins n then n - 1 else n) ≤ 2 * joins) [
    | inl high ↦ rw (lt-ltb joins n high) (omega arith)
    | inr low ↦ rw (le-ltb joins n low) (omega arith)
  ]

  stop_in : (n : ℕ) → n < 2 * joins + 1 → (if nat_lt n joins then n + 1 else n) ≤ 2 * joins
  stop_in n h = elim (cases_lt n joins) as (λ _. (if nat_lt n joins then n + 1 else n) ≤ 2 * joins) [
    | inl low ↦ rw (lt-ltb n joins low) (omega arith)
    | inr high ↦ rw (le-ltb n joins high) (omega arith)
  ]

  within : (n e : ℕ) → n < 2 * joins + 1 → (if nat_lt joins n then n - 1 else n) ≤ e
      → e < (if nat_lt n joins then n + 1 else n) → (if nat_lt e joins then e else e + 1) ≡ n
  within n e h late early = elim (cases_lt n joins) as (λ _. (if nat_lt e joins then e else e + 1) ≡ n) [
    | inl low ↦
        let late' : n ≤ e = rw (le-ltb joins n (omega arith)) at late in
        let early' : e < n + 1 = rw (lt-ltb n joins low) at early in
        rw (lt-ltb e joins (omega arith)) (omega arith)
    | inr high ↦ elim (cases_lt joins n) as (λ _. (if nat_lt e joins then e else e + 1) ≡ n) [
      | inl above ↦
          let late' : n - 1 ≤ e = rw (lt-ltb joins n above) at late in
          let early' : e < n = rw (le-ltb n joins high) at early in
          rw (le-ltb e joins (omega arith)) (omega arith)
      | inr at_end ↦
          let late' : n ≤ e = rw (le-ltb joins n at_end) at late in
          let early' : e < n = rw (le-ltb n joins high) at early in
          absurd (omega arith)
    ]
  ]

  from_start : (e : ℕ) → e < 2 * joins
      → (if nat_lt joins (if nat_lt e joins then e else e + 1) then (if nat_lt e joins then e else e + 1) - 1 else (if nat_lt e joins then e else e + 1)) ≤ e
  from_start e h = elim (cases_lt e joins) as (λ _. (if nat_lt joins (if nat_lt e joins then e else e + 1) then (if nat_lt e joins then e else e + 1) - 1 else (if nat_lt e joins then e else e + 1)) ≤ e) [
    | inl low ↦ rw (lt-ltb e joins low, le-ltb joins e (omega arith)) (omega arith)
    | inr high ↦ rw (le-ltb e joins high, lt-ltb joins (e + 1) (omega arith)) (omega arith)
  ]

  to_stop : (e : ℕ) → e < 2 * joins
      → e < (if nat_lt (if nat_lt e joins then e else e + 1) joins then (if nat_lt e joins then e else e + 1) + 1 else (if nat_lt e joins then e else e + 1))
  to_stop e h = elim (cases_lt e joins) as (λ _. e < (if nat_lt (if nat_lt e joins then e else e + 1) joins then (if nat_lt e joins then e else e + 1) + 1 else (if nat_lt e joins then e else e + 1))) [
    | inl low ↦ rw (lt-ltb e joins low, lt-ltb e joins low) (omega arith)
    | inr high ↦ rw (le-ltb e joins high, le-ltb (e + 1) joins (omega arith)) (omega arith)
  ]

  pub ladder_laws : NetLaws Under level_size level (ladder joins)
  ladder_laws = record {
    first_size = λ n h. omega arith;
    transfer_size = λ e x h s. s;
    sources = source_in;
    targets = target_in;
    monotone = λ e x y h s p. p;
    starts = start_in;
    stops = stop_in;
    ranks = λ x s. omega arith;
    within = within;
    from_start = from_start;
    to_stop = to_stop;
  }
