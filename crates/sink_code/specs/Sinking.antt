-- Law: assignments may be moved along the edges to places where they are put anew, if no node in between reads or
-- assigns what they assign, or assigns what they read. `put_for` and `AreApart` are cited by contracts, those of
-- sink_rounds too, the others by proofs.
use Rattle.std.proofs.Common.{◌≡◌, ℕ, ℤ, Bool, true, false, not, ◌&&◌, if◌then◌else◌, nat_eq, List, [], ◌∷◌, slice_get, Option, Some, None, ◌⊎◌, inl, inr, refl, sym, ap, ◌∙◌, eq-eqb}
use Rattle.std.proofs.lemmas.Bool.{cases_Bool, true≢false, eqb-true}
use Rattle.std.proofs.lemmas.Option.{same_Some}
use Rattle.mir_base.specs.declared.instructions.Rhs.{Rhs}
use Rattle.mir_base.specs.Frames.{Values, with_value}
use Rattle.mir_base.specs.Expressions.{rhs_traps, rhs_value}
use Rattle.mir_base.specs.Shapes.{rhs_vars}
use Rattle.mir_base.specs.UnitRuns.{UnitSame, UnitCheaper}
use Rattle.flow_graph.specs.declared.nodes.Node.{Node}
use Rattle.flow_graph.specs.declared.nodes.Node.TheVariants.{Assign}
use Rattle.mir_base.specs.EqualValues.{EqualOn, rhs_equal}
use Rattle.flow_graph.specs.Graphs.{GraphShape, IsGraph, node_reads, assigns, succs_of}
use Rattle.graph_edit.specs.InsertionRunLaws.{rewritten_same, rewritten_cheaper}
use Rattle.graph_edit.specs.InsertionRuns.{values_after, none_traps, BothAssign, Preserves, CountsNoMore}
use Rattle.graph_edit.specs.Insertions.{Insertion, Unchanged, Replaced, Removed, Rewriting, CanRewrite, rewritten_nodes}
use Rattle.flow_graph.specs.Machines.{graph_machine}
use Rattle.flow_graph.specs.Paths.{HasEdge}
use Rattle.graph_edit.specs.VarLaws.{NoneAssigned}

-- ---- insertions that leave each other alone

-- what is put for a variable
abbrev pub put_for : List Insertion → ℕ → Option Rhs
put_for [] x = None
put_for (put ∷ puts) x = if nat_eq x put.var then Some put.rhs else put_for puts x

-- none of the variables is this one
abbrev pub AllOthers : ℕ → List ℕ → Type 0
AllOthers x [] = Unit {0}
AllOthers x (y ∷ ys) = (nat_eq y x ≡ false) × AllOthers x ys

-- none of these assigns or reads x
abbrev pub LeaveAlone : ℕ → List Insertion → Type 0
LeaveAlone x [] = Unit {0}
LeaveAlone x (put ∷ puts) = ((nat_eq x put.var ≡ false) × AllOthers x (rhs_vars put.rhs))
    × LeaveAlone x puts

-- none assigns or reads what an earlier one assigns
abbrev pub AreApart : List Insertion → Type 0
AreApart [] = Unit {0}
AreApart (put ∷ puts) = LeaveAlone put.var puts × AreApart puts

-- none of the right sides ever traps
abbrev pub NeverTrap : List Insertion → Type 0
NeverTrap [] = Unit {0}
NeverTrap (put ∷ puts) = ((v : Values) → rhs_traps v put.rhs ≡ false) × NeverTrap puts

-- the value of a variable of which this right side is delayed, or none is
abbrev pub delayed_value : Values → ℕ → Option Rhs → ℤ
delayed_value w x None = w x
delayed_value w x (Some rhs) = rhs_value w rhs

-- a new value of x is not seen by other variables
equal_but : (w : Values) (x : ℕ) (c : ℤ) (ys : List ℕ) → AllOthers x ys → EqualOn ys (with_value x c w) w
equal_but w x c [] others = tt
equal_but w x c (y ∷ ys) others = (ap (λ b. (if b then c else w y)) others.0, equal_but w x c ys others.1)

-- nor by the delayed value of another variable, where no insertion reads or assigns x
unread : (x : ℕ) (c : ℤ) (w : Values) (puts : List Insertion) → LeaveAlone x puts → (y : ℕ) → nat_eq y x ≡ false
    → delayed_value (with_value x c w) y (put_for puts y) ≡ delayed_value w y (put_for puts y)
unread x c w [] alone y differ = ap (λ b. (if b then c else w y)) differ
unread x c w (put ∷ puts) alone y differ = chosen (nat_eq y put.var) (unread x c w puts alone.1 y differ)
  where
    chosen : (b : Bool) → delayed_value (with_value x c w) y (put_for puts y) ≡ delayed_value w y (put_for puts y)
        → delayed_value (with_value x c w) y (if b then Some put.rhs else put_for puts y) ≡ delayed_value w y
        (if b then Some put.rhs else put_for puts y)
    chosen true rest = rhs_equal (with_value x c w) w put.rhs (equal_but w x c (rhs_vars put.rhs) alone.0.1)
    chosen false rest = rest

-- insertions that leave x alone put no assignment to it
unassigned : (x : ℕ) (puts : List Insertion) → LeaveAlone x puts → put_for puts x ≡ None
unassigned x [] alone = refl
unassigned x (put ∷ puts) alone =
    ap (λ b. (if b then Some put.rhs else put_for puts x)) alone.0.0 ∙ unassigned x puts alone.1

-- after them each variable has the value of what is put for it, as it was before all of them
pub after_apart : (puts : List Insertion) → AreApart puts → (w : Values) (x : ℕ)
    → values_after puts w x ≡ delayed_value w x (put_for puts x)
after_apart [] apart w x = refl
after_apart (put ∷ puts) apart w x =
    let c = rhs_value w put.rhs in
    let rest = after_apart puts apart.1 (with_value put.var c w) x in
    elim (cases_Bool (nat_eq x put.var)) [
      | inl is ↦
          let same : x ≡ put.var = eqb-true x put.var is in
          let none : put_for puts x ≡ None = ap (put_for puts) same ∙ unassigned put.var puts apart.0 in
          rest ∙ ap (delayed_value (with_value put.var c w) x) none ∙ ap (λ b. (if b then c else w x)) is ∙ sym
          (ap (λ b. delayed_value w x (if b then Some put.rhs else put_for puts x)) is)
      | inr differ ↦ rest ∙ unread put.var c w puts apart.0 x differ ∙ sym
          (ap (λ b. delayed_value w x (if b then Some put.rhs else put_for puts x)) differ)
    ]

-- insertions that can never trap do not trap at any values
puts_never_trap : (puts : List Insertion) → NeverTrap puts → (w : Values) → none_traps puts w ≡ true
puts_never_trap [] never w = refl
puts_never_trap (put ∷ puts) never w =
    ap (λ b. not b && none_traps puts (with_value put.var (rhs_value w put.rhs) w))
    (never.0 w) ∙ puts_never_trap puts never.1 (with_value put.var (rhs_value w put.rhs) w)

-- ---- what is delayed

-- nothing is put for these
abbrev pub NonePut : List Insertion → List ℕ → Type 0
NonePut puts [] = Unit {0}
NonePut puts (x ∷ xs) = (put_for puts x ≡ None) × NonePut puts xs

-- what is delayed of these is put
abbrev pub AllPut : (ℕ → Option Rhs) → List Insertion → List ℕ → Type 0
AllPut late puts [] = Unit {0}
AllPut late puts (x ∷ xs) = (late x ≡ put_for puts x) × AllPut late puts xs

-- `late n x`: the right side of x that is delayed before node n, where one is. It comes from a node that assigned it
-- and is removed, or it was delayed before: then the node neither reads nor assigns x, assigns nothing that the right
-- side reads, and it is not put there
pub record Sinks (graph : GraphShape) (r : Rewriting) (late : ℕ → ℕ → Option Rhs) : Type 0 where
  pub apart : (n : ℕ) → AreApart (r.inserts n)
  pub never : (n : ℕ) → NeverTrap (r.inserts n)
  pub only : (n : ℕ) (node : Node) → slice_get graph.nodes n ≡ Some node
      → (r.changes n ≡ Unchanged) ⊎ ((r.changes n ≡ Removed)
      × ((x : ℕ) × (rhs : Rhs) × (next : ℕ) × (node ≡ Assign x rhs next)))
  -- nothing is delayed after Start, and what is delayed of a variable that a node reads is put
  -- before it
  pub starts : (s x : ℕ) → HasEdge graph.nodes 0 s → late s x ≡ None
  pub reads : (n : ℕ) (node : Node) → slice_get graph.nodes n ≡ Some node
      → AllPut (late n) (r.inserts n) (node_reads graph node)
  -- what is delayed no longer was put
  pub lost : (n s x : ℕ) → HasEdge graph.nodes n s → late s x ≡ None
      → late n x ≡ put_for (r.inserts n) x
  pub back : (n s x : ℕ) (rhs : Rhs) (node : Node) → slice_get graph.nodes n ≡ Some node
      → HasEdge graph.nodes n s
      → late s x ≡ Some rhs
      → ((r.changes n ≡ Removed) × ((next : ℕ) × (node ≡ Assign x rhs next)))
      ⊎ ((assigns graph x node ≡ false)
      × (NoneAssigned graph node (rhs_vars rhs)
      × ((late n x ≡ Some rhs) × NonePut (r.inserts n) (rhs_vars rhs))))
  -- what is removed never traps, and is delayed from there
  pub removed : (n s x : ℕ) (rhs : Rhs) → slice_get graph.nodes n ≡ Some (Assign x rhs s)
      → r.changes n ≡ Removed
      → (late s x ≡ Some rhs) × ((v : Values) → rhs_traps v rhs ≡ false)

module _ (r : Rewriting) (extra : List (List ℕ)) (graph : GraphShape) (late : ℕ → ℕ → Option Rhs)
    (fits : CanRewrite r extra graph) (is_graph : IsGraph graph.vars graph.received graph.nodes)
    (sinks : Sinks graph r late) where
  -- each variable of the graph has the value of what is delayed of it
  pub record AreDelayed (n : ℕ) (before : List ℕ) (v w : Values) : Type 0 where
    pub each : (x : ℕ) → v x ≡ delayed_value w x (late n x)

  module _ (n : ℕ) (before : List ℕ) (v w : Values) (delayed : AreDelayed n before v w) where
    abbrev w' : Values
    w' = values_after (r.inserts n) w

    -- where what is delayed is put, both sides agree
    put_equal : (x : ℕ) → late n x ≡ put_for (r.inserts n) x → w' x ≡ v x
    put_equal x is = after_apart (r.inserts n) (sinks.apart n) w x ∙ sym (delayed.each x ∙ ap (delayed_value w x) is)

    reads_equal : (xs : List ℕ) → AllPut (late n) (r.inserts n) xs → EqualOn xs w' v
    reads_equal [] all = tt
    reads_equal (x ∷ xs) all = (put_equal x all.0, reads_equal xs all.1)

    -- what is still delayed reads nothing that the insertions assign
    none_equal : (xs : List ℕ) → NonePut (r.inserts n) xs → EqualOn xs w' w
    none_equal [] none = tt
    none_equal (x ∷ xs) none =
        (after_apart (r.inserts n) (sinks.apart n) w x ∙ ap (delayed_value w x) none.0, none_equal xs none.1)

    delayed_equal : (x : ℕ) (rhs : Rhs) → late n x ≡ Some rhs → NonePut (r.inserts n) (rhs_vars rhs)
        → v x ≡ rhs_value w' rhs
    delayed_equal x rhs is none =
        delayed.each x ∙ ap (delayed_value w x) is ∙ sym (rhs_equal w' w rhs (none_equal (rhs_vars rhs) none))

    set_equal : (node : Node) (v1 w1 : Values) → ((x : ℕ) → assigns graph x node ≡ false → w1 x ≡ w' x) → (xs : List ℕ)
        → NoneAssigned graph node xs → EqualOn xs w1 w'
    set_equal node v1 w1 keeps [] none = tt
    set_equal node v1 w1 keeps (x ∷ xs) none = (keeps x none.0, set_equal node v1 w1 keeps xs none.1)

    unchanged_each : (s : ℕ) (node : Node) → slice_get graph.nodes n ≡ Some node → HasEdge graph.nodes n s
        → r.changes n ≡ Unchanged → (v1 w1 : Values) → BothAssign (λ x. assigns graph x node) v w' v1 w1
        → (x : ℕ) (o : Option Rhs) → late s x ≡ o → v1 x ≡ delayed_value w1 x o
    unchanged_each s node is edge unchanged v1 w1 both x None none = elim (cases_Bool (assigns graph x node)) [
      | inl assigned ↦ both.same x assigned
      | inr stays ↦ both.first_keeps x stays ∙ sym (put_equal x (sinks.lost n s x edge none)) ∙ sym
          (both.second_keeps x stays)
    ]
    unchanged_each s node is edge unchanged v1 w1 both x (Some rhs) some =
        elim (sinks.back n s x rhs node is edge some) [
          | inl occurs ↦ (let never = sym unchanged ∙ occurs.0 in absurd (cc))
          | inr on ↦ both.first_keeps x on.0 ∙ delayed_equal x rhs on.1.1.0 on.1.1.1 ∙ sym
              (rhs_equal w1 w' rhs (set_equal node v1 w1 both.second_keeps (rhs_vars rhs) on.1.0))
        ]

    removed_each : (s y : ℕ) (t : Rhs) → slice_get graph.nodes n ≡ Some (Assign y t s) → HasEdge graph.nodes n s
        → r.changes n ≡ Removed → (x : ℕ) (o : Option Rhs) → late s x ≡ o
        → with_value y (rhs_value v t) v x ≡ delayed_value w' x o
    removed_each s y t is edge change x None none = elim (cases_Bool (nat_eq x y)) [
      | inl same ↦
          let late_y = (sinks.removed n s y t is change).0 in
          let never : Some t ≡ None = sym late_y ∙ ap (late s) (sym (eqb-true x y same)) ∙ none in
          absurd (cc)
      | inr differ ↦ ap (λ b. (if b then rhs_value v t else v x)) differ ∙ sym
          (put_equal x (sinks.lost n s x edge none))
    ]
    removed_each s y t is edge change x (Some rhs) some = elim (cases_Bool (nat_eq x y)) [
      | inl same ↦
          let late_y = (sinks.removed n s y t is change).0 in
          let alike : t ≡ rhs = same_Some t rhs (sym late_y ∙ ap (late s) (sym (eqb-true x y same)) ∙ some) in
          ap (λ b. (if b then rhs_value v t else v x)) same ∙ sym
          (rhs_equal w' v t (reads_equal (rhs_vars t) (sinks.reads n (Assign y t s) is))) ∙ ap (rhs_value w') alike
      | inr differ ↦ elim (sinks.back n s x rhs (Assign y t s) is edge some) [
        | inl occurs ↦
            let same_var : Assign y t s ≡ Assign x rhs occurs.1.0 = occurs.1.1 in
            let never : y ≡ x = cc in
            absurd (true≢false (sym (eq-eqb x y (sym never)) ∙ differ))
        | inr on ↦ ap (λ b. (if b then rhs_value v t else v x)) differ ∙ delayed_equal x rhs on.1.1.0 on.1.1.1
      ]
    ]

  sinks_preserves : Preserves graph r AreDelayed
  sinks_preserves = record {
    changes = λ n node is. elim (sinks.only n node is) [ inl unchanged ↦ inl unchanged | inr removed ↦ inr removed.1 ];
    starts = λ s values edge. record { each = λ x. sym (ap (delayed_value values x) (sinks.starts s x edge)) };
    traps = λ n before arguments v w trace delayed trap. absurd
        (true≢false (sym (puts_never_trap (r.inserts n) (sinks.never n) w) ∙ trap));
    reads = λ n node before v w trace is unchanged delayed untrapped. reads_equal n before v w delayed
        (node_reads graph node) (sinks.reads n node is);
    keeps = λ n s node before v w v1 w1 trace is edge unchanged delayed untrapped both. record
        { each = λ x. unchanged_each n before v w delayed s node is edge unchanged v1 w1 both x (late s x) refl };
    replaces = λ n s x rhs other before v w trace is change delayed untrapped. absurd
        (never_replaced n (Assign x rhs s) other is change);
    removes = λ n s x rhs before v w trace is change delayed untrapped. (
      (sinks.removed n s x rhs is change).1 v,
      record {
        each = λ y. removed_each n before v w delayed s x rhs is
            (0, ap (λ o. slice_get (succs_of o) 0) is) change y (late s y) refl;
      },
    );
  }
    where
      never_replaced : (n : ℕ) (node : Node) (rhs : Rhs) → slice_get graph.nodes n ≡ Some node
          → r.changes n ≡ Replaced rhs → ⊥
      never_replaced n node rhs is e =
          elim (sinks.only n node is) [
            | inl unchanged ↦ (let never = sym e ∙ unchanged in absurd (cc))
            | inr removed ↦
                (let never = sym e ∙ removed.0 in absurd (cc))
          ]

  -- the graph with the assignments where they are put does the same
  pub sinking_same : UnitSame (graph_machine graph.shared graph.received graph.nodes)
      (graph_machine graph.shared graph.received (rewritten_nodes r graph.nodes))
  sinking_same = rewritten_same r extra graph AreDelayed fits is_graph sinks_preserves

  -- and evaluates no more operators, where it does so on each full path
  pub sinking_cheaper : CountsNoMore r graph.nodes
      → UnitCheaper (graph_machine graph.shared graph.received graph.nodes)
      (graph_machine graph.shared graph.received (rewritten_nodes r graph.nodes))
  sinking_cheaper cheap = rewritten_cheaper r extra graph AreDelayed fits is_graph sinks_preserves cheap
