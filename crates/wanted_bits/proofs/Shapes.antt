-- The narrowed graph has the shape of the graph: the same edges, no other variables and calls, and each division in its
-- place, as it is.
use Rattle.std.proofs.Common.{◌≡◌, ℕ, suc, ◌<◌, Bool, true, false, ◌&&◌, ◌||◌, not, nat_eq, if◌then◌else◌, List, [], ◌∷◌, flat_map, length, slice_get, pos, Option, Some, None, option_map, inl, inr, refl, sym, ap, ◌∙◌, subst, true≢false, ℤ}
use Rattle.std.proofs.lemmas.Bool.{and_parts}
use Rattle.std.proofs.lemmas.Option.{slice_get_within}
use Rattle.mir_base.specs.declared.operators.Op.{Op}
use Rattle.mir_base.specs.declared.operators.Op.TheVariants.{Div, Mod}
use Rattle.mir_base.specs.declared.instructions.Operand.{Operand}
use Rattle.mir_base.specs.declared.instructions.Operand.TheVariants.{Var, Const}
use Rattle.mir_base.specs.declared.instructions.Rhs.{Rhs}
use Rattle.mir_base.specs.declared.instructions.Rhs.TheVariants.{Plain, Unary, Binary}
use Rattle.mir_base.specs.Numbers.{distance, is_dividing, wrapped}
use Rattle.mir_base.specs.Expressions.{divides, may_be_zero}
use Rattle.mir_base.specs.Shapes.{AllBelow, into_vars, operand_vars, rhs_vars}
use Rattle.mir_base.specs.BelowLaws.{all_below_append, all_below_left, all_below_right}
use Rattle.flow_graph.specs.declared.nodes.Node.{Node}
use Rattle.flow_graph.specs.declared.nodes.Node.TheVariants.{Start, Skip, Assign, Print, Guard, Call, Test, Return}
use Rattle.flow_graph.specs.Calls.{NodesCall, node_call}
use Rattle.flow_graph.specs.Dividing.{DividesOf, DividesUnchanged}
use Rattle.flow_graph.specs.Edges.{IsSplit, edges_from, preds_among, preds_of}
use Rattle.flow_graph.specs.EdgeLaws.{edges_alike}
use Rattle.flow_graph.specs.Graphs.{AllReached, CanMake, GraphShape, IsEdge, Reached, at_start, along, node_succs, node_vars, succs_at, succs_of}
use Rattle.flow_graph.specs.NodeLaws.{mapped_from}
use Rattle.flow_graph.specs.PathLaws.{reached_trace}
use Rattle.flow_graph.specs.Paths.{Trace, from_start, goes_on}
use Rattle.wanted_bits.specs.declared.picking.Shift.{Shift}
use Rattle.wanted_bits.specs.Wanted.{Asked, is_right_shift, is_undone, shift_by, shifted_back}
use Rattle.wanted_bits.specs.NarrowedSteps.{handed_long}
use Rattle.wanted_bits.specs.Narrowed.{AreNarrowed, all_handed, goes, handed, is_neutral, is_neutral_left, narrowed_node, narrowed_past, narrowed_rhs, without_neutral}

-- ---- one node

-- an assignment and a Skip in its place have one successor
chosen_succs : (b : Bool) (x : ℕ) (rhs : Rhs) (next : ℕ) → node_succs (if b then Skip next else Assign x rhs next) ≡ next ∷ []
chosen_succs true x rhs next = refl
chosen_succs false x rhs next = refl

-- neither calls
chosen_call : (b : Bool) (x : ℕ) (rhs : Rhs) (next : ℕ) → node_call (if b then Skip next else Assign x rhs next) ≡ None
chosen_call true x rhs next = refl
chosen_call false x rhs next = refl

-- neither is Start
chosen_start : (b : Bool) (x : ℕ) (rhs : Rhs) (next s : ℕ) → (if b then Skip next else Assign x rhs next) ≡ Start s → ⊥
chosen_start true x rhs next s e = cc
chosen_start false x rhs next s e = cc

-- an operand that is handed over has no other variables
one_below : (k bits : ℕ) (a : Operand) → AllBelow k (operand_vars a) → AllBelow k (operand_vars (handed bits a))
one_below k bits a below = by (nat_eq bits 0)
  where
    by : (b : Bool) → AllBelow k (operand_vars (if b then Const (pos 0) else a))
    by true = tt
    by false = below

-- nor have the arguments
handed_below : (k : ℕ) (widths : ℕ → ℕ) (i : ℕ) (operands : List Operand) → AllBelow k (flat_map operand_vars operands) → AllBelow k (flat_map operand_vars (all_handed widths i operands))
handed_below k widths i [] below = tt
handed_below k widths i (a ∷ operands) below =
    all_below_append k (operand_vars (handed (widths i) a)) (flat_map operand_vars (all_handed widths (suc i) operands))
    (one_below k (widths i) a (all_below_left k (operand_vars a) (flat_map operand_vars operands) below))
    (handed_below k widths (suc i) operands (all_below_right k (operand_vars a) (flat_map operand_vars operands) below))

module _ (asked : Asked) (shifts : ℕ → Option Shift) (wanted : ℕ → ℕ → ℕ) where
  -- whether an assignment goes
  abbrev gone : ℕ → Rhs → ℕ → Bool
  gone x rhs next = goes x rhs (narrowed_rhs shifts rhs (wanted next x)) (wanted next x)

  -- the successors of a node stay
  pub stays_succs : (node : Node) → node_succs (narrowed_node asked shifts wanted node) ≡ node_succs node
  stays_succs (Start next) = refl
  stays_succs (Skip next) = refl
  stays_succs (Assign x rhs next) = chosen_succs (gone x rhs next) x (narrowed_rhs shifts rhs (wanted next x)) next
  stays_succs (Print a next) = refl
  stays_succs (Guard test number next) = refl
  stays_succs (Call into unit operands next) = refl
  stays_succs (Test test taken other) = refl
  stays_succs (Return a) = refl

  -- its call stays
  stays_call : (node : Node) → node_call (narrowed_node asked shifts wanted node) ≡ node_call node
  stays_call (Start next) = refl
  stays_call (Skip next) = refl
  stays_call (Assign x rhs next) = chosen_call (gone x rhs next) x (narrowed_rhs shifts rhs (wanted next x)) next
  stays_call (Print a next) = refl
  stays_call (Guard test number next) = refl
  stays_call (Call into unit operands next) = ap (λ n. Some (unit, n)) (handed_long (asked.arguments unit) 0 operands)
  stays_call (Test test taken other) = refl
  stays_call (Return a) = refl

  -- only Start becomes Start
  pub narrowed_start : (node : Node) (s : ℕ) → narrowed_node asked shifts wanted node ≡ Start s → node ≡ Start s
  narrowed_start (Start next) s e = e
  narrowed_start (Skip next) s e = cc
  narrowed_start (Assign x rhs next) s e = absurd (chosen_start (gone x rhs next) x (narrowed_rhs shifts rhs (wanted next x)) next s e)
  narrowed_start (Print a next) s e = cc
  narrowed_start (Guard test number next) s e = cc
  narrowed_start (Call into unit operands next) s e = cc
  narrowed_start (Test test taken other) s e = cc
  narrowed_start (Return a) s e = cc

  -- ---- variables of a node

  module _ (k : ℕ) (low : (t : ℕ) (shift : Shift) → shifts t ≡ Some shift → shift.source < k) where
    -- a right side without a neutral operand
    without_below : (rhs : Rhs) (bits : ℕ) → AllBelow k (rhs_vars rhs) → AllBelow k (rhs_vars (without_neutral rhs bits))
    without_below (Plain a) bits below = below
    without_below (Unary op a) bits below = below
    without_below (Binary op a b) bits below = by (is_neutral op bits b) (is_neutral_left op bits a)
      where
        by : (t u : Bool) → AllBelow k (rhs_vars (if t then Plain a else (if u then Plain b else Binary op a b)))
        by true u = all_below_left k (operand_vars a) (operand_vars b) below
        by false true = all_below_right k (operand_vars a) (operand_vars b) below
        by false false = below

    -- what is shifted back is of the shifts
    by_some : (o : Option Shift) (b : Operand) (shift : Shift) → shift_by o b ≡ Some shift → o ≡ Some shift
    by_some None b shift e = absurd (cc)
    by_some (Some s) (Var y) shift e = absurd (cc)
    by_some (Some s) (Const c) shift e = by (shift_far s c) e
      where
        shift_far : Shift → ℤ → Bool
        shift_far s c = nat_eq s.distance (distance (wrapped c))

        by : (t : Bool) → (if t then Some s else None) ≡ Some shift → Some s ≡ Some shift
        by true e = e
        by false e = absurd (cc)

    back_low : (rhs : Rhs) (shift : Shift) → shifted_back shifts rhs ≡ Some shift → shift.source < k
    back_low (Plain a) shift e = absurd (cc)
    back_low (Unary op a) shift e = absurd (cc)
    back_low (Binary op (Const c) b) shift e = absurd (cc)
    back_low (Binary op (Var t) b) shift e = by (is_right_shift op) e
      where
        by : (r : Bool) → (if r then shift_by (shifts t) b else None) ≡ Some shift → shift.source < k
        by true e = low t shift (by_some (shifts t) b shift e)
        by false e = absurd (cc)

    rhs_below : (rhs : Rhs) (bits : ℕ) → AllBelow k (rhs_vars rhs) → AllBelow k (rhs_vars (narrowed_rhs shifts rhs bits))
    rhs_below rhs bits below = by (shifted_back shifts rhs) refl
      where
        by : (o : Option Shift) → shifted_back shifts rhs ≡ o → AllBelow k (rhs_vars (narrowed_past o rhs bits))
        by None e = without_below rhs bits below
        by (Some shift) e = chosen (is_undone shift bits)
          where
            chosen : (t : Bool) → AllBelow k (rhs_vars (if t then Plain (Var shift.source) else rhs))
            chosen true = (back_low rhs shift e, tt)
            chosen false = below

    chosen_below : (b : Bool) (x : ℕ) (rhs : Rhs) (next : ℕ) → x < k → AllBelow k (rhs_vars rhs) → AllBelow k (node_vars (if b then Skip next else Assign x rhs next))
    chosen_below true x rhs next x_in below = tt
    chosen_below false x rhs next x_in below = (x_in, below)

    pub narrowed_below : (node : Node) → AllBelow k (node_vars node) → AllBelow k (node_vars (narrowed_node asked shifts wanted node))
    narrowed_below (Start next) below = below
    narrowed_below (Skip next) below = below
    narrowed_below (Assign x rhs next) below = chosen_below (gone x rhs next) x (narrowed_rhs shifts rhs (wanted next x)) next below.0 (rhs_below rhs (wanted next x) below.1)
    narrowed_below (Print a next) below = below
    narrowed_below (Guard test number next) below = below
    narrowed_below (Call into unit operands next) below =
        all_below_append k (into_vars into) (flat_map operand_vars (all_handed (asked.arguments unit) 0 operands)) (all_below_left k (into_vars into) (flat_map operand_vars operands) below)
        (handed_below k (asked.arguments unit) 0 operands (all_below_right k (into_vars into) (flat_map operand_vars operands) below))
    narrowed_below (Test test taken other) below = below
    narrowed_below (Return a) below = one_below k asked.result a below

  -- ---- divisions

  -- a division becomes itself
  division_same : (op : Op) (a b : Operand) (bits : ℕ) → is_dividing op ≡ true → narrowed_rhs shifts (Binary op a b) bits ≡ Binary op a b
  division_same Div (Var x) b bits is = refl
  division_same Div (Const c) b bits is = refl
  division_same Mod (Var x) b bits is = refl
  division_same Mod (Const c) b bits is = refl
  division_same _ a b bits is = absurd (true≢false (sym is))

  pub division_stays : (x : ℕ) (op : Op) (a b : Operand) (next : ℕ) → divides (Binary op a b) ≡ true → narrowed_node asked shifts wanted (Assign x (Binary op a b) next) ≡ Assign x (Binary op a b) next
  division_stays x op a b next may =
      let parts = and_parts (is_dividing op) (may_be_zero b) may in
      let same = division_same op a b (wanted next x) parts.0 in
      subst (λ r. (if goes x (Binary op a b) r (wanted next x) then Skip next else Assign x r next) ≡ Assign x (Binary op a b) next) (sym same)
      (by (nat_eq (wanted next x) 0) (divides (Binary op a b)) may)
    where
      by : (z d : Bool) → d ≡ true → (if (z && not d) || false then Skip next else Assign x (Binary op a b) next) ≡ Assign x (Binary op a b) next
      by true true e = refl
      by true false e = absurd (true≢false (sym e))
      by false d e = refl

-- ---- lists of nodes

-- lists of which one is made of the other place by place are equally long
same_length : (xs ys : List Node) (f : ℕ → Node → Node) → ((n : ℕ) → slice_get xs n ≡ option_map (f n) (slice_get ys n)) → length xs ≡ length ys
same_length [] [] f are = refl
same_length [] (y ∷ ys) f are = let e : None ≡ Some (f 0 y) = are 0 in cc
same_length (x ∷ xs) [] f are = let e : Some x ≡ None = are 0 in cc
same_length (x ∷ xs) (y ∷ ys) f are = ap suc (same_length xs ys (λ n. f (suc n)) (λ n. are (suc n)))

-- ---- the narrowed nodes

module _ (asked : Asked) (graph : GraphShape) (nodes : List Node) (are : AreNarrowed asked graph nodes) where
  pub narrowed_length : length nodes ≡ length graph.nodes
  narrowed_length = same_length nodes graph.nodes (λ n. narrowed_node asked (are.shifts n) are.wanted) are.nodes_are

  succs_of_narrowed : (n : ℕ) (o : Option Node) → succs_of (option_map (narrowed_node asked (are.shifts n) are.wanted) o) ≡ succs_of o
  succs_of_narrowed n None = refl
  succs_of_narrowed n (Some node) = stays_succs asked (are.shifts n) are.wanted node

  pub narrowed_succs : (n : ℕ) → succs_at nodes n ≡ succs_at graph.nodes n
  narrowed_succs n = ap succs_of (are.nodes_are n) ∙ succs_of_narrowed n (slice_get graph.nodes n)

  -- an edge stays
  edge_on : (m slot s : ℕ) → IsEdge graph.nodes m slot s → IsEdge nodes m slot s
  edge_on m slot s edge = ap (λ l. slice_get l slot) (narrowed_succs m) ∙ edge

  -- and none is new
  pub edge_back : (m slot s : ℕ) → IsEdge nodes m slot s → IsEdge graph.nodes m slot s
  edge_back m slot s edge = ap (λ l. slice_get l slot) (sym (narrowed_succs m)) ∙ edge

  -- so all nodes stay reached
  pub narrowed_reached : (n : ℕ) → Reached graph.nodes n → Reached nodes n
  narrowed_reached n at_start = at_start
  narrowed_reached n (along m slot s reached edge) = along m slot n (narrowed_reached m reached) (edge_on m slot n edge)

  -- what stands at a place came from the node there
  pub came_from : (n : ℕ) (node : Node) → slice_get nodes n ≡ Some node → (before : Node) × (slice_get graph.nodes n ≡ Some before) × (narrowed_node asked (are.shifts n) are.wanted before ≡ node)
  came_from n node e = let from = mapped_from (narrowed_node asked (are.shifts n) are.wanted) (slice_get graph.nodes n) node (sym (are.nodes_are n) ∙ e) in (from.0, from.1, from.2)

  pub narrowed_calls : (called count : ℕ) → NodesCall nodes called count → NodesCall graph.nodes called count
  narrowed_calls called count c =
      let from = came_from c.number c.node c.here in
      record { number = c.number; node = from.0; here = from.1; calls = sym (stays_call asked (are.shifts c.number) are.wanted from.0) ∙ ap node_call from.2 ∙ c.calls }

  -- ---- splitness: the edges are the same, and Skips stay

  narrowed_edges : edges_from 0 nodes ≡ edges_from 0 graph.nodes
  narrowed_edges = edges_alike 0 nodes graph.nodes narrowed_length narrowed_succs

  narrowed_preds : (s : ℕ) → preds_of nodes s ≡ preds_of graph.nodes s
  narrowed_preds s = ap (preds_among s) narrowed_edges

  skip_stays : (n s : ℕ) → slice_get graph.nodes n ≡ Some (Skip s) → slice_get nodes n ≡ Some (Skip s)
  skip_stays n s here = are.nodes_are n ∙ ap (option_map (narrowed_node asked (are.shifts n) are.wanted)) here

  pub narrowed_split : IsSplit graph.nodes → IsSplit nodes
  narrowed_split split = record {
    by_skips = λ s i n s_in many at.
        skip_stays n s (split.by_skips s i n (subst (λ l. s < l) narrowed_length s_in) (subst (λ l. 1 < length l) (narrowed_preds s) many) (sym (ap (λ l. slice_get l i) (narrowed_preds s)) ∙ at));
    once = λ s i j n s_in many at at'.
        split.once s i j n (subst (λ l. s < l) narrowed_length s_in) (subst (λ l. 1 < length l) (narrowed_preds s) many) (sym (ap (λ l. slice_get l i) (narrowed_preds s)) ∙ at) (sym (ap (λ l. slice_get l j) (narrowed_preds s)) ∙ at');
  }

  -- ---- divisions

  division_on : (n x : ℕ) (op : Op) (left right : Operand) → DividesOf graph.nodes n x op left right → DividesOf nodes n x op left right
  division_on n x op left right at = record {
    next = at.next;
    is = are.nodes_are n ∙ ap (option_map (narrowed_node asked (are.shifts n) are.wanted)) at.is ∙ ap Some (division_stays asked (are.shifts n) are.wanted x op left right at.next at.may_trap);
    may_trap = at.may_trap;
  }

  pub narrowed_divides : DividesUnchanged graph.nodes nodes
  narrowed_divides = record { place = λ n. n; stays = division_on; in_order = λ n m x y op other at at' lt. lt }

  -- ---- the graph that is made

  module _ (can : CanMake graph.vars graph.received graph.nodes) where
    -- the source of a shift is a variable of the graph
    source_low : (n : ℕ) (before : List ℕ) → Trace graph.nodes n before → (t : ℕ) (shift : Shift) → are.shifts n t ≡ Some shift → shift.source < length graph.vars
    source_low n before from_start t shift e = let none = are.shifts_hold.start t in absurd (cc)
    source_low n before (goes_on m k earlier trace edge) t shift e = by (slice_get graph.nodes m) refl (source_low m earlier trace)
      where
        by : (o : Option Node) → slice_get graph.nodes m ≡ o → ((t : ℕ) (shift : Shift) → are.shifts m t ≡ Some shift → shift.source < length graph.vars) → shift.source < length graph.vars
        by None here earlier_low = let leads : slice_get (succs_of None) edge.0 ≡ Some n = ap (λ o. slice_get (succs_of o) edge.0) (sym here) ∙ edge.1 in absurd (cc)
        by (Some node) here earlier_low = elim (are.shifts_hold.arise m edge.0 n t shift node edge.1 here e) [
          | inl is ↦ (subst (λ x. AllBelow (length graph.vars) (node_vars x)) is.is (can.below m node here)).1.0
          | inr old ↦ earlier_low t shift old.0
        ]

    vars_below : AllReached graph.nodes → (n : ℕ) (node : Node) → slice_get nodes n ≡ Some node → AllBelow (length graph.vars) (node_vars node)
    vars_below reached n node here =
        let from = came_from n node here in
        let lt = slice_get_within graph.nodes n from.0 from.1 in
        let path = reached_trace graph.nodes n (reached n lt) in
        subst (λ x. AllBelow (length graph.vars) (node_vars x)) from.2
        (narrowed_below asked (are.shifts n) are.wanted (length graph.vars) (source_low n path.0 path.1) from.0 (can.below n from.0 from.1))

    pub narrowed_can_make : AllReached graph.nodes → CanMake graph.vars graph.received nodes
    narrowed_can_make reached = record {
      start = (can.start.0, are.nodes_are 0 ∙ ap (option_map (narrowed_node asked (are.shifts 0) are.wanted)) can.start.1);
      only = λ n s here. let from = came_from n (Start s) here in can.only n s (from.1 ∙ ap Some (narrowed_start asked (are.shifts n) are.wanted from.0 s from.2));
      succs = λ m slot s edge. let low = can.succs m slot s (edge_back m slot s edge) in (low.0, subst (λ n. s < n) (sym narrowed_length) low.1);
      below = vars_below reached;
      received_below = can.received_below;
      received_differ = can.received_differ;
      names = can.names;
    }

    pub all_reached : AllReached graph.nodes → AllReached nodes
    all_reached reached n lt = narrowed_reached n (reached n (subst (λ k. n < k) narrowed_length lt))
