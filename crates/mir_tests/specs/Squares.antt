-- A flow of the tests: three truth values along the 15 edges of a loop's graph. The nodes 0 to 3 follow one another, 3
-- leads to 4 and to 10, the nodes 4 to 9 follow one another and lead back to 3, 10 to 13 follow one another, and 13
-- leads to itself. Cited by the tests.
use Rattle.std.specs.Prelude.{◌≡◌, ℕ, ◌+◌, ◌-◌, ◌<◌, ◌≤◌, min, Bool, true, false, nat_eq, if◌then◌else◌, refl}
use Rattle.std.proofs.Common.{arith, inl, inr, if◌then◌else◌, nat_eq}
use Rattle.std.proofs.lemmas.Bool.{cases_cond, cases_lt}
use Rattle.fix_solve.specs.Order.{OrderLaws}
use Rattle.fix_solve.specs.Net.{Net, NetLaws}
use Rattle.flow_graph.specs.Sums.{one_if}
use Rattle.path_laws.specs.Order.{BelowBit}

-- three truth values
abbrev pub Three : Type 0
Three = Bool × Bool × Bool

-- each of the first lies below that of the second
pub record EachImplies (x y : Three) : Type 0 where
  pub first : BelowBit x.0 y.0
  pub second : BelowBit x.1 y.1
  pub third : BelowBit x.2 y.2

-- all are of one size
abbrev pub size_of_three : Three → ℕ
size_of_three x = 0

-- how many are true
abbrev pub trues_of : Three → ℕ
trues_of x = one_if x.0 + (one_if x.1 + one_if x.2)

-- the edges are numbered by their sources, of which 3 has two; the third value stops on the edge 8, and each begins at
-- one node
abbrev pub squares : Net Three
squares = record {
  nodes = 14;
  edges = 15;
  source = λ e. e - min 1 (e - 3);
  target = λ e. if nat_eq e 4 then 10
      else (if nat_eq e 10 then 3 else min 13 (e - min 1 (e - 3) + 1));
  start = λ n. n + min 1 (n - 3);
  stop = λ n. n + 1 + min 1 (n - 2);
  size = 0;
  height = 3;
  first = λ n. (nat_eq n 5, nat_eq n 6, nat_eq n 8);
  transfer = λ e x. (x.0, x.1, (if nat_eq e 8 then false else x.2));
}

-- a truth value that lies below another is it, or ranks lower
same_or_lower : (x y : Bool) → BelowBit x y → one_if y ≤ one_if x → x ≡ y
same_or_lower true true h l = refl
same_or_lower true false h l = absurd (let e : false ≡ true = h refl in cc)
same_or_lower false true h l = absurd (let l' : 1 ≤ 0 = l in omega arith)
same_or_lower false false h l = refl

-- a truth value that lies below another ranks no higher
implied_rank : (x y : Bool) → BelowBit x y → one_if x ≤ one_if y
implied_rank true true h = omega arith
implied_rank true false h = absurd (let e : false ≡ true = h refl in cc)
implied_rank false y h = omega arith

-- no truth value ranks above 1
low_rank : (x : Bool) → one_if x ≤ 1
low_rank true = omega arith
low_rank false = omega arith

-- three and three that are the same one by one are the same
same_three : (a b c x y z : Bool) → a ≡ x → b ≡ y → c ≡ z → ◌≡◌ {A = Three} (a, b, c) (x, y, z)
same_three a b c x y z p q r = rw (p, q, r) refl

-- three that lie below others, of which no more are true, are the others, as none ranks lower than its own
below_same : (x y : Three) → EachImplies x y → trues_of y ≤ trues_of x → x ≡ y
below_same (a, b, c) (x, y, z) p l =
    let i = implied_rank a x p.first in
    let j = implied_rank b y p.second in
    let k = implied_rank c z p.third in
    let l' : one_if x + (one_if y + one_if z) ≤ one_if a + (one_if b + one_if c) = l in
    same_three a b c x y z (same_or_lower a x p.first (omega (arith, i, j, k, l'))) (same_or_lower b y p.second (omega (arith, i, j, k, l'))) (same_or_lower c z p.third (omega (arith, i, j, k, l')))

-- of three that lie below others no more are true
ranks_rise : (x y : Three) → EachImplies x y → trues_of x ≤ trues_of y
ranks_rise x y p =
    let i = implied_rank x.0 y.0 p.first in
    let j = implied_rank x.1 y.1 p.second in
    let k = implied_rank x.2 y.2 p.third in
    omega (arith, i, j, k)

-- so these are values that can be solved for
pub three_laws : OrderLaws EachImplies size_of_three trues_of
three_laws = record {
  reflexive = λ x. record { first = λ h. h; second = λ h. h; third = λ h. h };
  transitive = λ x y z p q. record { first = λ h. q.first (p.first h); second = λ h. q.second (p.second h); third = λ h. q.third (p.third h) };
  antisymmetric = λ x y p q. below_same x y p (ranks_rise y x q);
  same_size = λ x y p. refl;
  rises = λ x y p d. elim (cases_lt (trues_of x) (trues_of y)) as (λ _. trues_of x < trues_of y) [
    | inl lower ↦ lower
    | inr not_lower ↦ absurd (d (below_same x y p not_lower))
  ];
}

-- ---- the laws of the flow

-- each edge leads to one of the 14 nodes: to 10, to 3, or to one of at most 13
end_of : (e : ℕ) → e < 15 → (if nat_eq e 4 then 10 else (if nat_eq e 10 then 3 else min 13 (e - min 1 (e - 3) + 1))) < 14
end_of e h = elim (cases_cond (nat_eq e 4) 10 (if nat_eq e 10 then 3 else min 13 (e - min 1 (e - 3) + 1)) (if nat_eq e 4 then 10 else (if nat_eq e 10 then 3 else min 13 (e - min 1 (e - 3) + 1))) refl) [
  | inl out ↦ omega arith
  | inr on ↦ elim (cases_cond (nat_eq e 10) 3 (min 13 (e - min 1 (e - 3) + 1)) (if nat_eq e 10 then 3 else min 13 (e - min 1 (e - 3) + 1)) refl) [
    | inl back ↦ omega arith
    | inr next ↦ omega arith
  ]
]

-- a value that stops on an edge is false there, so the order is kept
stops_at : (b x y : Bool) → BelowBit x y → BelowBit (if b then false else x) (if b then false else y)
stops_at true x y h = λ e. e
stops_at false x y h = h

-- so it can be solved
pub squares_laws : NetLaws EachImplies size_of_three trues_of squares
squares_laws = record {
  sources = λ e h. omega arith;
  targets = end_of;
  starts = λ n h. omega arith;
  stops = λ n h. omega arith;
  within = λ n e h late early. omega arith;
  from_start = λ e h. omega arith;
  to_stop = λ e h. omega arith;
  first_size = λ n h. refl;
  transfer_size = λ e x h s. s;
  monotone = λ e x y h s p. record { first = p.first; second = p.second; third = stops_at (nat_eq e 8) x.2 y.2 p.third };
  ranks = λ x s. let i = low_rank x.0 in let j = low_rank x.1 in let k = low_rank x.2 in omega (arith, i, j, k);
}
