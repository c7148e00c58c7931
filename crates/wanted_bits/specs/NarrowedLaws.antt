-- Laws: a graph has one narrowed graph, and that is without the most assignments. For proofs only, of the crates above
-- too.
use Rattle.std.proofs.Common.{◌≡◌, ℕ, ◌-◌, ◌<◌, ◌≤◌, min, Bool, true, false, not, ◌&&◌, ◌||◌, nat_eq, if◌then◌else◌, length, slice_get, Option, Some, None, option_map, refl, sym, ap, ◌∙◌, subst, arith, true≢false}
use Rattle.std.proofs.Math.Path.{fun_ext}
use Rattle.std.proofs.lemmas.Option.{slice_get_within}
use Rattle.mir_base.specs.declared.operators.Op.{Op}
use Rattle.mir_base.specs.declared.operators.Op.TheVariants.{Div, Mod, Shl, Shr, Shra, And}
use Rattle.mir_base.specs.declared.operators.UnOp.TheVariants.{Neg, Not}
use Rattle.mir_base.specs.declared.instructions.Operand.{Operand}
use Rattle.mir_base.specs.declared.instructions.Operand.TheVariants.{Var, Const}
use Rattle.mir_base.specs.declared.instructions.Rhs.{Rhs}
use Rattle.mir_base.specs.declared.instructions.Rhs.TheVariants.{Plain, Unary, Binary}
use Rattle.mir_base.specs.Expressions.{divides}
use Rattle.flow_graph.specs.declared.nodes.Node.{Node}
use Rattle.flow_graph.specs.declared.nodes.Node.TheVariants.{Start, Skip, Assign, Print, Guard, Call, Test, Return}
use Rattle.flow_graph.specs.Graphs.{CanMake, GraphShape, succs_of}
use Rattle.flow_graph.specs.OneLaws.{same_graphs, same_places}
use Rattle.wanted_bits.specs.declared.picking.Shift.{Shift}
use Rattle.wanted_bits.specs.Wanted.{AreLeastWantedBy, AreWantedBy, Asked, is_undone, length_of, shifted_back, wanted_at, wanted_by, wanted_left, wanted_of, wanted_past, wanted_rhs, wanted_right}
use Rattle.wanted_bits.specs.Narrowed.{IsNarrowedBy, is_itself, narrowed_assign, narrowed_node, narrowed_rhs}
use Rattle.wanted_bits.specs.MostRemoved.{KeepsTaken, TellShifts}

-- two that say the same of each shift are one
pub same_option : (a b : Option Shift) → ((s : Shift) → a ≡ Some s → b ≡ Some s) → ((s : Shift) → b ≡ Some s → a ≡ Some s) → a ≡ b
same_option None None to from = refl
same_option None (Some s) to from = from s refl
same_option (Some s) b to from = sym (to s refl)

module _ (asked : Asked) (graph : GraphShape) (can : CanMake graph.vars graph.received graph.nodes) where
  -- what is wanted by equal shifts
  pub wanted_on : (shifts others : ℕ → ℕ → Option Shift) (wanted : ℕ → ℕ → ℕ) → ((n t : ℕ) → n < length graph.nodes → shifts n t ≡ others n t) → AreWantedBy asked graph shifts wanted → AreWantedBy asked graph others wanted
  wanted_on shifts others wanted same are = record {
    most = are.most;
    here = λ n x node here.
        let lt = slice_get_within graph.nodes n node here in
        subst (λ (s : ℕ → Option Shift). wanted_at graph asked s wanted node x ≤ wanted n x) (fun_ext (λ t. same n t lt)) (are.here n x node here);
    behind = are.behind;
  }

  -- so the least are equal
  least_same : (shifts others : ℕ → ℕ → Option Shift) (wanted more : ℕ → ℕ → ℕ) → ((n t : ℕ) → n < length graph.nodes → shifts n t ≡ others n t) → AreLeastWantedBy asked graph shifts wanted → AreLeastWantedBy asked graph others more
      → (n x : ℕ) → n < length graph.nodes → x < length graph.vars → wanted n x ≡ more n x
  least_same shifts others wanted more same p q n x n_in x_in =
      let up = p.least more (wanted_on others shifts more (λ m t lt. sym (same m t lt)) q.are) n x n_in x_in in
      let down = q.least wanted (wanted_on shifts others wanted same p.are) n x n_in x_in in
      omega (arith, up, down)

  -- a node becomes one node
  node_same : (s : ℕ → Option Shift) (wanted more : ℕ → ℕ → ℕ) (n : ℕ) (node : Node) → slice_get graph.nodes n ≡ Some node → ((m x : ℕ) → m < length graph.nodes → x < length graph.vars → wanted m x ≡ more m x)
      → narrowed_node asked s wanted node ≡ narrowed_node asked s more node
  node_same s wanted more n (Start next) here same = refl
  node_same s wanted more n (Skip next) here same = refl
  node_same s wanted more n (Assign x rhs next) here same =
      let next_in = (can.succs n 0 next (ap (λ o. slice_get (succs_of o) 0) here)).1 in
      let x_in = (can.below n (Assign x rhs next) here).0 in
      ap (narrowed_assign s x rhs next) (same next x next_in x_in)
  node_same s wanted more n (Print a next) here same = refl
  node_same s wanted more n (Guard test number next) here same = refl
  node_same s wanted more n (Call into unit operands next) here same = refl
  node_same s wanted more n (Test test taken other) here same = refl
  node_same s wanted more n (Return a) here same = refl

  -- and the graph one graph
  pub narrowed_is_one : (a b : GraphShape) → IsNarrowedBy asked graph a → IsNarrowedBy asked graph b → a ≡ b
  narrowed_is_one a b p q =
      same_graphs a b (p.name_is ∙ sym q.name_is) (p.shared_is ∙ sym q.shared_is) (p.vars_are ∙ sym q.vars_are) (p.received_are ∙ sym q.received_are)
      (same_places a.nodes b.nodes (λ n. p.nodes_are n ∙ by n (slice_get graph.nodes n) refl ∙ sym (q.nodes_are n)))
    where
      shifts_same : (n t : ℕ) → n < length graph.nodes → p.shifts n t ≡ q.shifts n t
      shifts_same n t lt = same_option (p.shifts n t) (q.shifts n t) (λ s e. (q.shifts_are n t s lt).1 ((p.shifts_are n t s lt).0 e)) (λ s e. (p.shifts_are n t s lt).1 ((q.shifts_are n t s lt).0 e))

      by : (n : ℕ) (o : Option Node) → slice_get graph.nodes n ≡ o → option_map (narrowed_node asked (p.shifts n) p.wanted) o ≡ option_map (narrowed_node asked (q.shifts n) q.wanted) o
      by n None here = refl
      by n (Some node) here =
          let lt = slice_get_within graph.nodes n node here in
          let shifts : p.shifts n ≡ q.shifts n = fun_ext (λ t. shifts_same n t lt) in
          ap (λ (s : ℕ → Option Shift). Some (narrowed_node asked s p.wanted node)) shifts
          ∙ ap Some (node_same (q.shifts n) p.wanted q.wanted n node here (least_same p.shifts q.shifts p.wanted q.wanted shifts_same p.least q.least))

-- ---- the most assignments are removed

-- of an operand of which nothing is wanted
none_of : (a : Operand) (x : ℕ) → wanted_of a 0 x ≡ 0
none_of (Const c) x = refl
none_of (Var y) x = by (nat_eq x y) 0 refl
  where
    by : (b : Bool) (k : ℕ) → k ≡ 0 → (if b then k else 0) ≡ 0
    by true k none = none
    by false k none = refl

-- of a right side of which nothing is wanted nothing is of the left operand
none_left : (op : Op) (b : Operand) → wanted_left op b 0 ≡ 0
none_left Shl (Var y) = refl
none_left Shl (Const c) = omega arith
none_left Shr (Var y) = refl
none_left Shr (Const c) = refl
none_left Shra (Var y) = refl
none_left Shra (Const c) = refl
none_left And b = omega arith
none_left _ b = refl

-- nor of the right one, where it is no divisor
none_right : (op : Op) (a b : Operand) (x : ℕ) → divides (Binary op a b) ≡ false → wanted_of b (wanted_right op a 0) x ≡ 0
none_right Div a (Const c) x never = refl
none_right Div a (Var y) x never = absurd (true≢false never)
none_right Mod a (Const c) x never = refl
none_right Mod a (Var y) x never = absurd (true≢false never)
none_right And a b x never = let none : min 0 (length_of a) ≡ 0 = omega arith in ap (λ k. wanted_of b k x) none ∙ none_of b x
none_right _ a b x never = none_of b x

-- so it wants nothing, unless it divides
none_by : (rhs : Rhs) (x : ℕ) → divides rhs ≡ false → wanted_by rhs 0 x ≡ 0
none_by (Plain a) x never = none_of a x
none_by (Unary Neg a) x never = none_of a x
none_by (Unary Not a) x never = none_of a x
none_by (Binary op a b) x never =
    let left = ap (λ k. wanted_of a k x) (none_left op b) ∙ none_of a x in
    omega (arith, left, none_right op a b x never)

-- also where it shifts back
none_past : (o : Option Shift) (rhs : Rhs) (x : ℕ) → divides rhs ≡ false → wanted_past o rhs 0 x ≡ 0
none_past None rhs x never = none_by rhs x never
none_past (Some shift) rhs x never =
    let least : min 0 (64 - shift.distance) ≡ 0 = omega arith in
    let source = ap (λ k. wanted_of (Var shift.source) k x) least ∙ none_of (Var shift.source) x in
    omega (arith, source, by (is_undone shift 0))
  where
    by : (b : Bool) → (if b then 0 else wanted_by rhs 0 x) ≡ 0
    by true = refl
    by false = none_by rhs x never

module _ (asked : Asked) (graph : GraphShape) (can : CanMake graph.vars graph.received graph.nodes) (shifts : ℕ → ℕ → Option Shift) (removed : ℕ → Bool) (taken : ℕ → ℕ → ℕ) (keeps : KeepsTaken asked graph shifts removed taken) where
  -- what is taken for wanted is wanted: an assignment that is removed wants nothing
  taken_here : (n x : ℕ) (node : Node) → slice_get graph.nodes n ≡ Some node → (b : Bool) → removed n ≡ b → wanted_at graph asked (shifts n) taken node x ≤ taken n x
  taken_here n x node here false is = keeps.stays n x node here is
  taken_here n x node here true is =
      let gone = keeps.gone n node here is in
      subst (λ m. wanted_at graph asked (shifts n) taken m x ≤ taken n x) (sym gone.3)
      (let none = none_past (shifted_back (shifts n) gone.1) gone.1 x gone.4 in
      omega (arith, ap (λ k. wanted_rhs (shifts n) gone.1 k x) gone.5, none))

  pub taken_wanted : AreWantedBy asked graph shifts taken
  taken_wanted = record { most = keeps.most; here = λ n x node here. taken_here n x node here (removed n) refl; behind = keeps.behind }

  -- so each that is removed goes
  pub most_removed : (narrowed : GraphShape) → IsNarrowedBy asked graph narrowed → TellShifts graph shifts → (n x next : ℕ) (rhs : Rhs) → slice_get graph.nodes n ≡ Some (Assign x rhs next) → removed n ≡ true → slice_get narrowed.nodes n ≡ Some (Skip next)
  most_removed narrowed p tell n x next rhs here is =
      let gone = keeps.gone n (Assign x rhs next) here is in
      let rhs_is : rhs ≡ gone.1 = cc (gone.3) in
      let x_is : x ≡ gone.0 = cc (gone.3) in
      let next_is : next ≡ gone.2 = cc (gone.3) in
      let never : divides rhs ≡ false = ap divides rhs_is ∙ gone.4 in
      let next_in = (can.succs n 0 next (ap (λ o. slice_get (succs_of o) 0) here)).1 in
      let x_in = (can.below n (Assign x rhs next) here).0 in
      let same : (m t : ℕ) → m < length graph.nodes → shifts m t ≡ p.shifts m t = λ m t lt. same_option (shifts m t) (p.shifts m t) (λ s e. (p.shifts_are m t s lt).1 ((tell m t s lt).0 e)) (λ s e. (tell m t s lt).1 ((p.shifts_are m t s lt).0 e)) in
      let less = p.least.least taken (wanted_on asked graph can shifts p.shifts taken same taken_wanted) next x next_in x_in in
      let none : p.wanted next x ≡ 0 = omega (arith, less, ap (λ m. taken m x) next_is, ap (taken gone.2) x_is, gone.5) in
      p.nodes_are n ∙ ap (option_map (narrowed_node asked (p.shifts n) p.wanted)) here
      ∙ ap (λ k. Some (narrowed_assign (p.shifts n) x rhs next k)) none
      ∙ ap (λ d. Some (if (true && not d) || is_itself x (narrowed_rhs (p.shifts n) rhs 0) then Skip next else Assign x (narrowed_rhs (p.shifts n) rhs 0) next)) never
