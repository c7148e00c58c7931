-- The flags tell what they are meant to.
use Rattle.std.proofs.Common.{◌≡◌, ℕ, zero, suc, ◌+◌, ◌<◌, ◌↔◌, ◌&&◌, not, Bool, true, false, List, [], ◌∷◌, ◌++◌, length, replicate, slice_get, Option, Some, inl, inr, refl, sym, ap, ◌∙◌, subst, arith}
use Rattle.std.proofs.lemmas.Bool.{and_parts, cases_eq, true≢false}
use Rattle.std.proofs.lemmas.List.{get_or-replicate, length-append, length-replicate}
use Rattle.std.proofs.lemmas.Option.{same_Some, slice_get-get_or, slice_get_within}
use Rattle.mir_base.specs.declared.instructions.Operand.{Operand}
use Rattle.mir_base.specs.declared.instructions.Rhs.{Rhs}
use Rattle.mir_base.specs.declared.instructions.Rhs.TheVariants.{Plain, Unary, Binary}
use Rattle.mir_base.specs.declared.operators.Op.{Op}
use Rattle.mir_base.specs.Numbers.{is_dividing}
use Rattle.mir_base.specs.Shapes.{AllBelow}
use Rattle.flow_graph.specs.declared.nodes.Node.{Node}
use Rattle.flow_graph.specs.declared.nodes.Node.TheVariants.{Start, Skip, Assign, Print, Guard, Call, Test, Return}
use Rattle.flow_graph.specs.Graphs.{CanMake, GraphShape, node_vars, succs_of}
use Rattle.flow_graph.specs.ListLaws.{get_left, get_seam}
use Rattle.flow_graph.specs.PathLaws.{assign_edge}
use Rattle.path_laws.specs.Paths.{HaveShape, has_bit}
use Rattle.path_laws.specs.Says.{not_says, off_says}
use Rattle.dead_code.specs.LiveRows.{TellLive}
use Rattle.dead_code.specs.Liveness.{IsLiveAfter, IsLiveBefore}
use Rattle.unread_div.specs.Flags.{AreFlagsBelow, HaveLiveBit, NoDivision, NoFlag, TellDeadDivisions, TellUnread, divisor_in, is_dead_division_by, is_quotient}
use Rattle.cond_flow.specs.KnownBefore.{IsKnownBefore, IsOnlyKnownBefore}
use Rattle.cond_flow.specs.Rules.{Rules}
use Rattle.graph_edit.specs.Flagged.{flag_at, graph_flagged}
use Rattle.unread_div.specs.Unread.{IsDeadDivision, IsNeverZero, IsRuledOut, IsUnread, IsUnreadAt}

-- ---- one flag after the other

-- one more
pub flags_more : (Holds : ℕ → Type 0) (n : ℕ) (flag : Bool) (flags new : List Bool) → (flag ≡ true) ↔ Holds n
    → new ≡ flags ++ flag ∷ []
    → AreFlagsBelow Holds n flags → AreFlagsBelow Holds (n + 1) new
flags_more Holds n flag flags new says put before = rw put (record {
  long = length-append flags (flag ∷ []) ∙ ap (λ k. k + 1) before.long;
  are = λ m other at. elim (cases_eq m n) as (λ _. (other ≡ true) ↔ Holds m) [
    | inl same ↦
        let here : slice_get (flags ++ flag ∷ []) n ≡ Some flag = ap (slice_get (flags ++ flag ∷ [])) (sym before.long) ∙ get_seam flags [] flag in
        let is : flag ≡ other = same_Some flag other (sym here ∙ ap (slice_get (flags ++ flag ∷ [])) (sym same) ∙ at) in
        subst (λ b. (b ≡ true) ↔ Holds m) is (subst (λ k. (flag ≡ true) ↔ Holds k) (sym same) says)
    | inr apart ↦
        let within = slice_get_within (flags ++ flag ∷ []) m other at in
        let low : m < length flags = omega (arith, within, apart, before.long, length-append flags (flag ∷ [])) in
        before.are m other (sym (get_left flags (flag ∷ []) m low) ∙ at)
  ];
})

-- none yet
pub flags_none : (Holds : ℕ → Type 0) → AreFlagsBelow Holds 0 []
flags_none Holds = record { long = refl; are = λ n flag at. absurd (omega (arith, slice_get_within [] n flag at)) }

-- ---- dead divisions

-- what is live behind an assignment is live before its successor
live_next : (graph : GraphShape) (n x next : ℕ) (rhs : Rhs) → slice_get graph.nodes n ≡ Some (Assign x rhs next)
    → IsLiveAfter graph x n → IsLiveBefore graph x next
live_next graph n x next rhs here live =
    by live.1.0 (sym (ap (λ o. slice_get (succs_of o) live.1.0) here) ∙ live.1.1)
  where
    by : (slot : ℕ) → slice_get (next ∷ []) slot ≡ Some live.0 → IsLiveBefore graph x next
    by zero e = subst (IsLiveBefore graph x) (sym (same_Some next live.0 e)) live.2
    by (suc slot) e = absurd (omega (arith, slice_get_within (next ∷ []) (suc slot) live.0 e))

-- a dead division is one node
division_is : (graph : GraphShape) (n : ℕ) (node : Node) → slice_get graph.nodes n ≡ Some node
    → (d : IsDeadDivision graph n) → node ≡ Assign d.var (Binary d.op d.left d.right) d.next
division_is graph n node here d =
    same_Some node (Assign d.var (Binary d.op d.left d.right) d.next) (sym here ∙ d.is)

-- a right side that divides is binary
binary_of : (rhs : Rhs) → is_quotient rhs ≡ true
    → (op : Op) × (a : Operand) × (b : Operand) × (rhs ≡ Binary op a b) × (is_dividing op ≡ true)
binary_of (Plain a) e = cc
binary_of (Unary op a) e = cc
binary_of (Binary op a b) e = (op, a, b, refl, e)

module _ (graph : GraphShape) (can : CanMake graph.vars graph.received graph.nodes) (rows : List (List Bool))
    (shape : HaveShape graph (length graph.vars) rows) (tells : TellLive graph rows) where
  module _ (n x next : ℕ) (rhs : Rhs) (here : slice_get graph.nodes n ≡ Some (Assign x rhs next)) where
    -- the successor and the variable are in range
    next_low : next < length graph.nodes
    next_low = let edge = assign_edge graph.nodes n x next rhs here in (can.succs n edge.0 next edge.1).1

    var_low : x < length graph.vars
    var_low =
        let below : AllBelow (length graph.vars) (node_vars (Assign x rhs next)) = can.below n (Assign x rhs next) here in below.0

    -- the row of the successor tells whether the variable is live behind the node
    dead_then : has_bit rows x next ≡ false → ¬ (IsLiveAfter graph x n)
    dead_then off live =
        true≢false (sym ((tells next x next_low var_low).1 (live_next graph n x next rhs here live)) ∙ off)

    dead_only : ¬ (IsLiveAfter graph x n) → has_bit rows x next ≡ false
    dead_only dead =
        (off_says (has_bit rows x next)).1 (λ on. dead (next, assign_edge graph.nodes n x next rhs here, (tells next x next_low var_low).0 on))

    assign_says : (is_dead_division_by rows (Assign x rhs next) ≡ true) ↔ IsDeadDivision graph n
    assign_says = (
      λ e.
          let parts = and_parts (is_quotient rhs) (not (has_bit rows x next)) e in
          let binary = binary_of rhs parts.0 in
          record {
            var = x;
            op = binary.0;
            left = binary.1;
            right = binary.2;
            next = next;
            is = here ∙ ap (λ r. Some (Assign x r next)) binary.3;
            divides = binary.4;
            dead = dead_then ((not_says (has_bit rows x next)).0 parts.1);
          },
      λ d.
          let same : Assign x rhs next ≡ Assign d.var (Binary d.op d.left d.right) d.next = division_is graph n (Assign x rhs next) here d in
          let same_var : d.var ≡ x = cc in
          let same_rhs : rhs ≡ Binary d.op d.left d.right = cc in
          let free : ¬ (IsLiveAfter graph x n) = subst (λ y. ¬ (IsLiveAfter graph y n)) same_var d.dead in
          ap (λ b. b && not (has_bit rows x next)) (ap is_quotient same_rhs ∙ d.divides) ∙ ap not (dead_only free),
    )

  -- the rows have what is asked of them
  pub fits_rows : (n : ℕ) (node : Node) → slice_get graph.nodes n ≡ Some node → HaveLiveBit rows node
  fits_rows n (Start next) here = tt
  fits_rows n (Skip next) here = tt
  fits_rows n (Assign x rhs next) here =
      let low = next_low n x next rhs here in
      (subst (λ k. next < k) (sym shape.len) low, subst (λ k. x < k) (sym (shape.each next low)) (var_low n x next rhs here))
  fits_rows n (Print a next) here = tt
  fits_rows n (Guard test number next) here = tt
  fits_rows n (Call into unit operands next) here = tt
  fits_rows n (Test test taken other) here = tt
  fits_rows n (Return a) here = tt

  -- a node that is no assignment is no division
  pub dead_says : (n : ℕ) (node : Node) → slice_get graph.nodes n ≡ Some node
      → (is_dead_division_by rows node ≡ true) ↔ IsDeadDivision graph n
  dead_says n (Start next) here = (λ e. cc, λ d. (let same = division_is graph n (Start next) here d in cc))
  dead_says n (Skip next) here = (λ e. cc, λ d. (let same = division_is graph n (Skip next) here d in cc))
  dead_says n (Assign x rhs next) here = assign_says n x next rhs here
  dead_says n (Print a next) here = (λ e. cc, λ d. (let same = division_is graph n (Print a next) here d in cc))
  dead_says n (Guard test number next) here =
      (λ e. cc, λ d. (let same = division_is graph n (Guard test number next) here d in cc))
  dead_says n (Call into unit operands next) here =
      (λ e. cc, λ d. (let same = division_is graph n (Call into unit operands next) here d in cc))
  dead_says n (Test test taken other) here =
      (λ e. cc, λ d. (let same = division_is graph n (Test test taken other) here d in cc))
  dead_says n (Return a) here = (λ e. cc, λ d. (let same = division_is graph n (Return a) here d in cc))

-- where no node divides none is a dead division
pub none_divides : (graph : GraphShape) → NoDivision graph.nodes
    → TellDeadDivisions graph (replicate (length graph.nodes) false)
none_divides graph none = record {
  long = length-replicate (length graph.nodes) false;
  are = λ n flag at.
      let within = slice_get_within (replicate (length graph.nodes) false) n flag at in
      let low : n < length graph.nodes = omega (arith, within, length-replicate (length graph.nodes) false) in
      let off : false ≡ flag = same_Some false flag (ap Some (sym (get_or-replicate (length graph.nodes) n false false low)) ∙ sym (slice_get-get_or (replicate (length graph.nodes) false) n false within) ∙ at) in (
        λ on. absurd (true≢false (sym on ∙ sym off)),
        λ d. absurd (true≢false (sym d.divides ∙ none n (Assign d.var (Binary d.op d.left d.right) d.next) d.is)),
      );
}

-- ---- of these, those that go

-- where none is dead none goes
pub none_dead : (graph : GraphShape) (flags : List Bool) → TellDeadDivisions graph flags → NoFlag flags
    → TellUnread graph flags
none_dead graph flags tells none = record {
  long = tells.long;
  are = λ n flag at.
      let within = slice_get_within flags n flag at in
      let off : false ≡ flag = same_Some false flag (ap Some (sym (none n within)) ∙ sym (slice_get-get_or flags n false within) ∙ at) in (
        λ on. absurd (true≢false (sym on ∙ sym off)),
        λ u. absurd (true≢false (sym ((tells.are n flag at).1 u.division) ∙ sym off)),
      );
}

-- the divisor of a dead division
divisor_is : (graph : GraphShape) (n : ℕ) (node : Node) → slice_get graph.nodes n ≡ Some node
    → (d : IsDeadDivision graph n) → divisor_in node ≡ Some d.right
divisor_is graph n node here d = ap divisor_in (division_is graph n node here d)

-- a division goes where its divisor is not 0
pub unread_says : (graph : GraphShape) (n : ℕ) (node : Node) (b : Operand) (never : Bool)
    → slice_get graph.nodes n ≡ Some node → divisor_in node ≡ Some b
    → IsDeadDivision graph n → (never ≡ true) ↔ IsNeverZero graph n b → (never ≡ true) ↔ IsUnreadAt graph n
unread_says graph n node b never here divides d says = (
  λ on. record { division = d; safe = subst (IsNeverZero graph n) (sym (right_is d)) (says.0 on) },
  λ u. says.1 (subst (IsNeverZero graph n) (right_is u.division) u.safe),
)
  where
    right_is : (e : IsDeadDivision graph n) → e.right ≡ b
    right_is e = same_Some e.right b (sym (divisor_is graph n node here e) ∙ divides)

-- whether the divisor may be 0 by what is known tells whether that is ruled out
pub ruled_out_says : {K : Type 0} (below : K → K → Type 0) (rules : Rules K) (may_be : Option (List K) → Operand → Bool)
    (graph : GraphShape) (n : ℕ) (b : Operand) (known : Option (List K)) → IsKnownBefore below rules graph n known
    → IsOnlyKnownBefore below rules graph n known
    → (not (may_be known b) ≡ true) ↔ IsRuledOut below rules may_be graph n b
ruled_out_says below rules may_be graph n b known is only = (
  λ e. record { known = known; is_known = is; never = (not_says (may_be known b)).0 e },
  λ u. ap not (subst (λ k. may_be k b ≡ false) (only u.known u.is_known) u.never),
)

-- ---- the whole

-- the graph in which the flagged nodes are Skips is the one without the divisions that nothing reads
pub flagged_unread : (graph : GraphShape) (flags : List Bool) → TellUnread graph flags
    → IsUnread graph (graph_flagged flags graph)
flagged_unread graph flags tells = record {
  gone = flag_at flags;
  gone_are =
      λ n lt. tells.are n (flag_at flags n) (slice_get-get_or flags n false (let long = tells.long in omega (arith, lt, long)));
  is = refl;
}
