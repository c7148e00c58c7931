-- Rows of nodes to which bits of the answers are joined.
use Rattle.std.proofs.Common.{◌≡◌, ◌⊎◌, ℕ, ◌+◌, ◌<◌, ◌≤◌, Bool, true, false, not, ◌||◌, ◌&&◌, List, length, get_or, set, refl, sym, ap, inl, inr, arith, ◌∙◌}
use Rattle.std.proofs.Math.Bool.{or-false, or_assoc, or_comm}
use Rattle.std.proofs.lemmas.Bool.{cases_eq, or_cases, or_left, or_right}
use Rattle.bit_rows.specs.BitLaws.{and_bit, length_and, length_minus, length_not, length_or, minus_bit, not_bit, or_bit}
use Rattle.bit_rows.specs.Bits.{and_bits, minus_bits, not_bits, or_bits, row_of}
use Rattle.flow_graph.specs.declared.nodes.Node.{Node}
use Rattle.path_laws.specs.Blockwise.{AreGrowing, HasAnswer, brought, handed_on}
use Rattle.path_laws.specs.Paths.{AreRows, has_bit}
use Rattle.path_laws.specs.RowLaws.{Joined, Written, put}
use Rattle.path_laws.specs.Seeds.{is_end, seeds_of}
use Rattle.path_laws.proofs.Complements.{seed_bit}

-- ---- bits joined to a row

-- a row that became its disjunction with another
pub joined_or : (bits : ℕ) (rows after : List (List Bool)) (node : ℕ) (more : List Bool) → node < length rows → length (row_of rows node) ≡ length more → after ≡ set rows node (or_bits (row_of rows node) more) → Joined bits rows after node (λ b. get_or more b false)
joined_or bits rows after node more h same is =
    let made = put rows after node (or_bits (row_of rows node) more) h is in
    record {
      len = made.len;
      long = ap length made.here ∙ length_or (row_of rows node) more same;
      here = λ b l. ap (λ (r : List Bool). get_or r b false) made.here ∙ or_bit (row_of rows node) more b same;
      others = made.others;
    }

-- the same of bits that are told otherwise
pub joined_same : (bits : ℕ) (rows after : List (List Bool)) (node : ℕ) (bit other : ℕ → Bool) → ((b : ℕ) → b < bits → bit b ≡ other b) → Joined bits rows after node bit → Joined bits rows after node other
joined_same bits rows after node bit other same made = record {
  len = made.len;
  long = made.long;
  here = λ b l. made.here b l ∙ ap (λ x. has_bit rows b node || x) (same b l);
  others = made.others;
}

-- and of what another row has and a third has not
pub joined_minus : (bits : ℕ) (rows after : List (List Bool)) (node : ℕ) (from less : List Bool) → node < length rows → length (row_of rows node) ≡ length from → length (row_of rows node) ≡ length less
    → after ≡ set rows node (or_bits (row_of rows node) (minus_bits from less)) → Joined bits rows after node (λ b. get_or from b false && not (get_or less b false))
joined_minus bits rows after node from less h same apart is =
    let alike : length from ≡ length less = sym same ∙ apart in
    joined_same bits rows after node (λ b. get_or (minus_bits from less) b false) (λ b. get_or from b false && not (get_or less b false)) (λ b l. minus_bit from less b alike)
    (joined_or bits rows after node (minus_bits from less) h (same ∙ sym (length_minus from less alike)) is)

-- bits joined one after the other
pub joined_twice : (bits : ℕ) (rows mid after : List (List Bool)) (node : ℕ) (first second : ℕ → Bool) → Joined bits rows mid node first → Joined bits mid after node second → Joined bits rows after node (λ b. second b || first b)
joined_twice bits rows mid after node first second made more = record {
  len = more.len ∙ made.len;
  long = more.long ∙ made.long;
  here = λ b l. more.here b l ∙ ap (λ x. x || second b) (made.here b l) ∙ or_assoc (has_bit rows b node) (first b) (second b) ∙ ap (λ x. has_bit rows b node || x) (or_comm (first b) (second b));
  others = λ n d. more.others n d ∙ made.others n d;
}

-- rows keep their shape
pub joined_shape : (nodes bits : ℕ) (rows after : List (List Bool)) (node : ℕ) (bit : ℕ → Bool) → AreRows nodes bits rows → Joined bits rows after node bit → AreRows nodes bits after
joined_shape nodes bits rows after node bit shape made = record {
  len = made.len ∙ shape.len;
  each = λ n h. elim (cases_eq n node) as (λ _. length (row_of after n) ≡ bits) [
    | inl e ↦ rw e (made.long ∙ rw e at (shape.each n h))
    | inr d ↦ rw (made.others n d) (shape.each n h)
  ];
}

module _ (bits : ℕ) (rows after : List (List Bool)) (node : ℕ) (bit : ℕ → Bool) (made : Joined bits rows after node bit) (b : ℕ) (b_in : b < bits) where
  -- what was true stays so
  pub joined_stays : (n : ℕ) → has_bit rows b n ≡ true → has_bit after b n ≡ true
  joined_stays n on = elim (cases_eq n node) as (λ _. has_bit after b n ≡ true) [
    | inl e ↦ rw e (made.here b b_in ∙ or_left (has_bit rows b node) (bit b) (rw e at on))
    | inr d ↦ ap (λ (r : List Bool). get_or r b false) (made.others n d) ∙ on
  ]

  -- what is joined is true
  pub joined_on : bit b ≡ true → has_bit after b node ≡ true
  joined_on on = made.here b b_in ∙ or_right (has_bit rows b node) (bit b) on

  -- and what is true was so, or was joined
  pub joined_from : (n : ℕ) → has_bit after b n ≡ true → (has_bit rows b n ≡ true) ⊎ ((n ≡ node) × (bit b ≡ true))
  joined_from n on = elim (cases_eq n node) as (λ _. (has_bit rows b n ≡ true) ⊎ ((n ≡ node) × (bit b ≡ true))) [
    | inl e ↦ elim (or_cases (has_bit rows b node) (bit b) (sym (made.here b b_in) ∙ rw e at on)) as (λ _. (has_bit rows b n ≡ true) ⊎ ((n ≡ node) × (bit b ≡ true))) [
      | inl was ↦ inl (rw e was)
      | inr now ↦ inr (e, now)
    ]
    | inr d ↦ inl (sym (ap (λ (r : List Bool). get_or r b false) (made.others n d)) ∙ on)
  ]

-- ---- the seeds of a node

-- the opposite of a row's opposite and another's bit
not_and : (x k s : Bool) → not (not x && k) ≡ (x || ((s || true) && not k))
not_and true k s = refl
not_and false true true = refl
not_and false true false = refl
not_and false false true = refl
not_and false false false = refl

-- what is stopped and not born, with all that is stopped or comes where paths end
with_ends : (s e k : Bool) → ((s && k) || ((s || e) && k)) ≡ ((s || e) && k)
with_ends true e true = refl
with_ends true e false = refl
with_ends false e k = refl

module _ (every against : Bool) (nodes : List Node) (bits : ℕ) (born stop : List (List Bool)) (born_rows : AreRows (length nodes) bits born) (stop_rows : AreRows (length nodes) bits stop) where
  -- the bit of a seed, for every path
  pub every_bit : every ≡ true → (b n : ℕ) → b < bits → n < length nodes → has_bit (seeds_of every against nodes born stop) b n ≡ ((has_bit stop b n || is_end against nodes n) && not (has_bit born b n))
  every_bit is b n l h = ap (λ way. has_bit (seeds_of way against nodes born stop) b n) is ∙ seed_bit against nodes bits born stop born_rows stop_rows b l n h

  module _ (node : ℕ) (n_in : node < length nodes) (rows after : List (List Bool)) (row : ℕ) where
    -- what is born there, for some path
    pub seeds_some : every ≡ false → Joined bits rows after row (λ b. has_bit born b node) → Joined bits rows after row (λ b. has_bit (seeds_of every against nodes born stop) b node)
    seeds_some is = joined_same bits rows after row (λ b. has_bit born b node) (λ b. has_bit (seeds_of every against nodes born stop) b node) (λ b l. ap (λ way. has_bit (seeds_of way against nodes born stop) b node) (sym is))

    -- what is stopped there and not born, where paths do not end
    pub seeds_inside : every ≡ true → is_end against nodes node ≡ false → Joined bits rows after row (λ b. has_bit stop b node && not (has_bit born b node)) → Joined bits rows after row (λ b. has_bit (seeds_of every against nodes born stop) b node)
    seeds_inside is inside = joined_same bits rows after row (λ b. has_bit stop b node && not (has_bit born b node)) (λ b. has_bit (seeds_of every against nodes born stop) b node)
        (λ b l. ap (λ x. x && not (has_bit born b node)) (sym (or-false (has_bit stop b node)) ∙ ap (λ e. has_bit stop b node || e) (sym inside)) ∙ sym (every_bit is b node l n_in))

    -- and all that is not born where they do
    pub seeds_at_end : every ≡ true → is_end against nodes node ≡ true → length (row_of rows row) ≡ bits → Written rows after row (not_bits (and_bits (not_bits (row_of rows row)) (row_of born node)))
        → Joined bits rows after row (λ b. has_bit (seeds_of every against nodes born stop) b node)
    seeds_at_end is ends long made =
        let was = row_of rows row in
        let out = not_bits (row_of rows row) in
        let out_long : length (not_bits (row_of rows row)) ≡ bits = length_not (row_of rows row) ∙ long in
        let same : length (not_bits (row_of rows row)) ≡ length (row_of born node) = out_long ∙ sym (born_rows.each node n_in) in
        let both_long : length (and_bits (not_bits (row_of rows row)) (row_of born node)) ≡ bits = length_and out (row_of born node) same ∙ out_long in
        record {
          len = made.len;
          long = ap length made.here ∙ length_not (and_bits out (row_of born node)) ∙ both_long ∙ sym long;
          here = λ b l.
              ap (λ (r : List Bool). get_or r b false) made.here ∙ not_bit (and_bits out (row_of born node)) b (rw both_long l) ∙ ap not (and_bit out (row_of born node) b same ∙ ap (λ x. x && has_bit born b node) (not_bit was b (rw long l)))
              ∙ not_and (has_bit rows b row) (has_bit born b node) (has_bit stop b node)
              ∙ ap (λ e. has_bit rows b row || ((has_bit stop b node || e) && not (has_bit born b node))) (sym ends)
              ∙ ap (λ x. has_bit rows b row || x) (sym (every_bit is b node l n_in));
          others = made.others;
        }

  -- ---- the rows of stops without births, node by node

  module _ (is : every ≡ true) (node : ℕ) (n_in : node < length nodes) (rows after : List (List Bool))
      (done : (n b : ℕ) → n < length nodes → n < node → b < bits → has_bit rows b n ≡ has_bit (seeds_of every against nodes born stop) b n)
      (rest : (n b : ℕ) → n < length nodes → node ≤ n → b < bits → has_bit rows b n ≡ (has_bit stop b n && not (has_bit born b n))) where
    -- a node where paths end
    pub ends_done : Joined bits rows after node (λ b. has_bit (seeds_of every against nodes born stop) b node) → (n b : ℕ) → n < length nodes → n < node + 1 → b < bits → has_bit after b n ≡ has_bit (seeds_of every against nodes born stop) b n
    ends_done made n b h low l = elim (cases_eq n node) as (λ _. has_bit after b n ≡ has_bit (seeds_of every against nodes born stop) b n) [
      | inl e ↦ rw e (made.here b l ∙ ap (λ x. x || has_bit (seeds_of every against nodes born stop) b node) (rest node b n_in (omega arith) l)
          ∙ ap (λ x. (has_bit stop b node && not (has_bit born b node)) || x) (every_bit is b node l n_in)
          ∙ with_ends (has_bit stop b node) (is_end against nodes node) (not (has_bit born b node)) ∙ sym (every_bit is b node l n_in))
      | inr d ↦ ap (λ (r : List Bool). get_or r b false) (made.others n d) ∙ done n b h (omega (arith, low, d)) l
    ]

    -- the rows of the nodes after it are as before
    pub ends_rest : Joined bits rows after node (λ b. has_bit (seeds_of every against nodes born stop) b node) → (n b : ℕ) → n < length nodes → node + 1 ≤ n → b < bits → has_bit after b n ≡ (has_bit stop b n && not (has_bit born b n))
    ends_rest made n b h late l = ap (λ (r : List Bool). get_or r b false) (made.others n (λ e. absurd (omega (arith, late, e)))) ∙ rest n b h (omega (arith, late)) l

    -- and a node where they do not
    pub inside_done : is_end against nodes node ≡ false → (n b : ℕ) → n < length nodes → n < node + 1 → b < bits → has_bit rows b n ≡ has_bit (seeds_of every against nodes born stop) b n
    inside_done inside n b h low l = elim (cases_eq n node) as (λ _. has_bit rows b n ≡ has_bit (seeds_of every against nodes born stop) b n) [
      | inl e ↦ rw e (rest node b n_in (omega arith) l ∙ ap (λ x. x && not (has_bit born b node)) (sym (or-false (has_bit stop b node)) ∙ ap (λ e'. has_bit stop b node || e') (sym inside)) ∙ sym (every_bit is b node l n_in))
      | inr d ↦ done n b h (omega (arith, low, d)) l
    ]

-- ---- rows that grow to the answers

-- bits that belong to the answer at a node are joined to its row
pub growing_more : (against : Bool) (nodes : List Node) (bits : ℕ) (seed stop : ℕ → ℕ → Bool) (rows after : List (List Bool)) (node : ℕ) (bit : ℕ → Bool) → AreGrowing against nodes bits seed stop rows → Joined bits rows after node bit
    → ((b : ℕ) → b < bits → bit b ≡ true → HasAnswer against nodes (seed b) (stop b) node) → AreGrowing against nodes bits seed stop after
growing_more against nodes bits seed stop rows after node bit grow made answer = record {
  shape = joined_shape (length nodes) bits rows after node bit grow.shape made;
  sound = λ n b h l on. elim (joined_from bits rows after node bit made b l n on) as (λ _. HasAnswer against nodes (seed b) (stop b) n) [
    | inl was ↦ grow.sound n b h l was
    | inr now ↦ rw now.0 (answer b l now.1)
  ];
  initial = λ n b h l on. joined_stays bits rows after node bit made b l n (grow.initial n b h l on);
}

-- what a node hands on, by the direction of the flow
pub handed_against : (against : Bool) (bits : ℕ) (seed stop : ℕ → ℕ → Bool) (rows after : List (List Bool)) (before n : ℕ) → against ≡ true → Joined bits rows after n (λ b. has_bit rows b before && not (stop b n))
    → Joined bits rows after n (λ b. handed_on against (seed b) (stop b) before n (has_bit rows b before))
handed_against true bits seed stop rows after before n is made = made
handed_against false bits seed stop rows after before n is made = absurd (cc)

-- and along the edges
pub handed_along : (against : Bool) (bits : ℕ) (seed stop : ℕ → ℕ → Bool) (rows after : List (List Bool)) (before n : ℕ) → against ≡ false → Joined bits rows after n (λ b. seed b before || (has_bit rows b before && not (stop b before)))
    → Joined bits rows after n (λ b. handed_on against (seed b) (stop b) before n (has_bit rows b before))
handed_along true bits seed stop rows after before n is made = absurd (cc)
handed_along false bits seed stop rows after before n is made = made

-- what an edge between blocks brings, by the direction of the flow
pub brought_against : (against : Bool) (bits : ℕ) (stop : ℕ → ℕ → Bool) (rows after : List (List Bool)) (n : ℕ) (out : ℕ → Bool) → against ≡ true → Joined bits rows after n (λ b. out b && not (stop b n)) → Joined bits rows after n (λ b. brought against (stop b) n (out b))
brought_against true bits stop rows after n out is made = made
brought_against false bits stop rows after n out is made = absurd (cc)

-- and along the edges
pub brought_along : (against : Bool) (bits : ℕ) (stop : ℕ → ℕ → Bool) (rows after : List (List Bool)) (n : ℕ) (out : ℕ → Bool) → against ≡ false → Joined bits rows after n out → Joined bits rows after n (λ b. brought against (stop b) n (out b))
brought_along true bits stop rows after n out is made = absurd (cc)
brought_along false bits stop rows after n out is made = made
