-- Laws of programs of machines: no rewriting, rewritings one after the other, and what is so of the machines of two
-- programs' units is so of the programs. For proofs only, of the crates above too.
use Rattle.std.proofs.Common.{◌≡◌, ◌≤◌, List, [], ℤ, refl, sym, ◌∙◌, subst, arith, append-nil, le_refl}
use Rattle.mir_base.specs.Shapes.{ProgramShape}
use Rattle.mir_base.specs.Runs.{Cheaper, Control, Running, Ended, Stopped, IsMatched, IsOverAs, Same, State, first_state}
use Rattle.mir_base.specs.SilentLaws.{prefix_trans}
use Rattle.mir_base.specs.UnitRuns.{machine_at}
use Rattle.mir_sim.specs.Machines.{AreInputs, Machines, MachinesFollow, MachinesKeep, Shallower, codes_in, machines_run}
use Rattle.mir_sim.specs.StackLaws.{IsFinished, one_over}

-- ---- no rewriting

-- a run that is over is over as itself
over_itself : (s : State) (c : Control) → s.control ≡ c → IsOverAs s s c
over_itself s (Running u f callers) is = tt
over_itself s (Ended r) is = (is, refl)
over_itself s (Stopped k) is = (is, refl)

-- each run matches itself
follow_refl : (a : Machines) → MachinesFollow a a
follow_refl a = record {
  follows = λ inputs are n.
      let s = machines_run a inputs n in
      (n, record { prints = ([], sym (append-nil s.printed)); over = over_itself s s.control refl });
}

-- a program keeps itself
pub keep_refl : (a : Machines) → MachinesKeep a a
keep_refl a = record {
  same = record { inputs = refl; forth = follow_refl a; back = follow_refl a };
  cheaper = record {
    cheaper = λ inputs are n m v w ends ends'.
        let last = one_over (codes_in a) n m (first_state (a 0).shared inputs) (subst IsFinished (sym ends) tt) (subst IsFinished (sym ends') tt) in
        subst (λ x. x.counted ≤ (machines_run a inputs n).counted) last (le_refl (machines_run a inputs n).counted);
  };
  shallower = record { shallower = λ inputs are n. (n, le_refl (machines_run a inputs n).depth) };
}

-- ---- one rewriting after the other

-- what is over as what is over
over_trans : (s t r : State) (c : Control) → IsOverAs s t c → IsOverAs t r t.control → IsOverAs s r c
over_trans s t r (Running u f callers) o p = tt
over_trans s t r (Ended v) o p = let q = subst (IsOverAs t r) o.0 p in (q.0, q.1 ∙ o.1)
over_trans s t r (Stopped k) o p = let q = subst (IsOverAs t r) o.0 p in (q.0, q.1 ∙ o.1)

-- what matches what matches
matched_trans : (s t r : State) → IsMatched s t → IsMatched t r → IsMatched s r
matched_trans s t r m k = record {
  prints = prefix_trans s.printed t.printed r.printed m.prints k.prints;
  over = over_trans s t r s.control m.over k.over;
}

-- inputs of the one are inputs of what receives as many
inputs_too : (a b : Machines) → (a 0).receives ≡ (b 0).receives → (inputs : List ℤ) → AreInputs a inputs → AreInputs b inputs
inputs_too a b same inputs are = record { long = are.long ∙ same; numbers = are.numbers }

-- what follows what follows a third
follow_trans : (a b c : Machines) → (a 0).receives ≡ (b 0).receives → MachinesFollow a b → MachinesFollow b c → MachinesFollow a c
follow_trans a b c same first then = record {
  follows = λ inputs are n.
      let m = first.follows inputs are n in
      let k = then.follows inputs (inputs_too a b same inputs are) m.0 in
      (k.0, matched_trans (machines_run a inputs n) (machines_run b inputs m.0) (machines_run c inputs k.0) m.1 k.1);
}

-- where the first has ended, so has what follows it
ended_too : (s t : State) (v : ℤ) → s.control ≡ Ended v → IsMatched s t → t.control ≡ Ended v
ended_too s t v is m = let o : IsOverAs s t (Ended v) = subst (IsOverAs s t) is m.over in o.0

-- a program that keeps one that keeps a third
pub keep_trans : (a b c : Machines) → MachinesKeep a b → MachinesKeep b c → MachinesKeep a c
keep_trans a b c first then = record {
  same = record {
    inputs = first.same.inputs ∙ then.same.inputs;
    forth = follow_trans a b c first.same.inputs first.same.forth then.same.forth;
    back = follow_trans c b a (sym then.same.inputs) then.same.back first.same.back;
  };
  cheaper = record {
    cheaper = λ inputs are n m v w ends ends'.
        let k = first.same.forth.follows inputs are n in
        let middle = ended_too (machines_run a inputs n) (machines_run b inputs k.0) v ends k.1 in
        let one = first.cheaper.cheaper inputs are n k.0 v v ends middle in
        let two = then.cheaper.cheaper inputs (inputs_too a b first.same.inputs inputs are) k.0 m v w middle ends' in
        omega (arith, one, two);
  };
  shallower = record {
    shallower = λ inputs are n.
        let k = then.shallower.shallower inputs (inputs_too a b first.same.inputs inputs are) n in
        let m = first.shallower.shallower inputs are k.0 in
        (m.0, omega (arith, k.1, m.1));
  };
}

-- ---- programs of units

module _ (first second : ProgramShape) (keep : MachinesKeep (machine_at first) (machine_at second)) where
  pub programs_same : Same first second
  programs_same = record {
    inputs = keep.same.inputs;
    forth = record { follows = λ inputs long numbers n. keep.same.forth.follows inputs (record { long = long; numbers = numbers }) n };
    back = record { follows = λ inputs long numbers n. keep.same.back.follows inputs (record { long = long; numbers = numbers }) n };
  }

  pub programs_cheaper : Cheaper first second
  programs_cheaper = record { cheaper = λ inputs long numbers n m v w ends ends'. keep.cheaper.cheaper inputs (record { long = long; numbers = numbers }) n m v w ends ends' }

  pub programs_shallower : Shallower first second
  programs_shallower = record { shallower = λ inputs long numbers n. keep.shallower.shallower inputs (record { long = long; numbers = numbers }) n }
