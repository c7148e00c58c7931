-- Units that stay served while others are: where what is asked for around them has not changed.
use Rattle.std.proofs.Common.{◌≡◌, ℕ, max, List, slice_get, Option, Some, refl, ap, ◌∙◌, arith}
use Rattle.mir_base.specs.declared.instructions.Operand.{Operand}
use Rattle.node_list.specs.Lists.{list_at}
use Rattle.flow_graph.specs.declared.nodes.Node.{Node}
use Rattle.flow_graph.specs.declared.nodes.Node.TheVariants.{Start, Skip, Assign, Print, Guard, Call, Test, Return}
use Rattle.flow_graph.specs.Graphs.{GraphShape}
use Rattle.wanted_bits.specs.Asking.{width_at}
use Rattle.wanted_bits.specs.declared.picking.Shift.{Shift}
use Rattle.wanted_bits.specs.Wanted.{AreWantedBy, wanted_among, wanted_at, wanted_global, wanted_of}
use Rattle.program_wanted.specs.Demands.{AskNoMore, Demands, IsServed, asked_at}

-- what a graph calls is asked for as before where it is entered
pub record CalleesStay (old new : Demands) (graph : GraphShape) : Type 0 where
  pub rows : (n : ℕ) (into : Option ℕ) (v : ℕ) (operands : List Operand) (next : ℕ) → slice_get graph.nodes n ≡ Some (Call into v operands next)
      → (list_at new.globals v ≡ list_at old.globals v) × (list_at new.arguments v ≡ list_at old.arguments v)

module _ (old new : Demands) (graph : GraphShape) (w : ℕ) (back : list_at new.backs w ≡ list_at old.backs w) (callees : CalleesStay old new graph) where
  -- so a node wants as much
  at_same : (n : ℕ) (s : ℕ → Option Shift) (wanted : ℕ → ℕ → ℕ) (node : Node) (x : ℕ) → slice_get graph.nodes n ≡ Some node → wanted_at graph (asked_at new graph.shared w) s wanted node x ≡ wanted_at graph (asked_at old graph.shared w) s wanted node x
  at_same n s wanted (Start next) x here = refl
  at_same n s wanted (Skip next) x here = refl
  at_same n s wanted (Assign y rhs next) x here = refl
  at_same n s wanted (Print a next) x here = refl
  at_same n s wanted (Guard test number next) x here = refl
  at_same n s wanted (Call into v operands next) x here =
      let rows = callees.rows n into v operands next here in
      ap (λ (l : List ℕ). max (wanted_global graph.shared (width_at l) x) (wanted_among (width_at (list_at new.arguments v)) 0 operands x)) rows.0
      ∙ ap (λ (l : List ℕ). max (wanted_global graph.shared (width_at (list_at old.globals v)) x) (wanted_among (width_at l) 0 operands x)) rows.1
  at_same n s wanted (Test test taken other) x here = refl
  at_same n s wanted (Return a) x here = ap (λ (l : List ℕ). max (wanted_global graph.shared (width_at l) x) (wanted_of a (width_at l graph.shared) x)) back

  -- and what is wanted is wanted
  pub wanted_kept : (shifts : ℕ → ℕ → Option Shift) (wanted : ℕ → ℕ → ℕ) → AreWantedBy (asked_at old graph.shared w) graph shifts wanted → AreWantedBy (asked_at new graph.shared w) graph shifts wanted
  wanted_kept shifts wanted are = record {
    most = are.most;
    here = λ n x node here. omega (arith, at_same n (shifts n) wanted node x here, are.here n x node here);
    behind = are.behind;
  }

  -- what serves the unit serves it where more is asked for elsewhere
  pub served_kept : AskNoMore old new → IsServed old graph w → IsServed new graph w
  served_kept more served = record {
    shifts = served.shifts;
    tell = served.tell;
    wanted = served.wanted;
    are = wanted_kept served.shifts served.wanted served.are;
    globals = λ x low. omega (arith, served.globals x low, more.globals w x);
    arguments = λ i x at. omega (arith, served.arguments i x at, more.arguments w i);
    calls = λ n into v operands next here x. omega (arith, served.calls n into v operands next here x, more.backs v x);
  }
