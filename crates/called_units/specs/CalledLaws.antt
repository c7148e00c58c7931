-- Laws: the program of the units that calls lead to is the only one, and keeps the runs of the source. For proofs only.
use Rattle.std.proofs.Common.{◌≡◌, ℕ, suc, ◌+◌, ◌<◌, Bool, true, false, if◌then◌else◌, List, [], ◌∷◌, length, map, slice_get, Option, Some, None, option_map, inl, refl, sym, ap, ◌∙◌, subst, arith, le_refl}
use Rattle.std.proofs.lemmas.List.{length-map}
use Rattle.std.proofs.lemmas.Option.{slice_get-map}
use Rattle.mir_base.specs.declared.instructions.Inst.{Inst}
use Rattle.mir_base.specs.declared.instructions.Inst.TheVariants.{Receive, Assign, Goto, If, TrapIf, Call, Print, Return}
use Rattle.mir_base.specs.declared.instructions.Operand.{Operand}
use Rattle.mir_base.specs.declared.instructions.Rhs.{Rhs}
use Rattle.mir_base.specs.declared.instructions.Rhs.TheVariants.{Plain, Unary, Binary}
use Rattle.mir_base.specs.Frames.{Answer, Frame, Transition, Continues, Prints, Calls, Returns, Traps}
use Rattle.mir_base.specs.Numbers.{traps}
use Rattle.mir_base.specs.Runs.{Caller, Ended, Stopped, codes_of, returned}
use Rattle.mir_base.specs.Shapes.{IsProgram, ProgramShape, UnitShape, body_at, body_or_empty, receives_in}
use Rattle.mir_base.specs.UnitRuns.{machine_at}
use Rattle.mir_base.specs.Units.{assign_transition, body_code, inst_transition, operand_value, test_holds}
use Rattle.mir_sim.specs.Machines.{MachinesKeep}
use Rattle.mir_sim.specs.StackLaws.{control_after, leads_step, stacks_keep}
use Rattle.mir_sim.specs.StackSimulations.{MeetsAgain, Stack, StackRelation, StacksSimulate}
use Rattle.flow_graph.specs.Retained.{marked, marked_below}
use Rattle.flow_graph.specs.RetainedLaws.{at_rank}
use Rattle.called_units.specs.CalledUnits.{IsCalled, MarkCalled, at_first, by_call, only_marked, redirected_call, with_calls}

-- ---- one transition

-- the transition with another number of the unit that it calls
abbrev pub redirected_transition : (ℕ → ℕ) → Transition → Transition
redirected_transition to (Continues counted next) = Continues counted next
redirected_transition to (Prints value next) = Prints value next
redirected_transition to (Calls unit entry into next) = Calls (to unit) entry into next
redirected_transition to (Returns answer) = Returns answer
redirected_transition to (Traps kind counted) = Traps kind counted

module _ (to : ℕ → ℕ) (shared : ℕ) (frame : Frame) where
  -- either transition of a branch
  either : (b : Bool) (one other : Transition) → redirected_transition to one ≡ one
      → redirected_transition to other ≡ other
      → (if b then one else other) ≡ redirected_transition to (if b then one else other)
  either true one other e f = sym e
  either false one other e f = sym f

  -- an assignment calls nothing
  assigns : (x : ℕ) (rhs : Rhs) (place : ℕ) → assign_transition x rhs place frame ≡ redirected_transition to (assign_transition x rhs place frame)
  assigns x (Plain a) place = refl
  assigns x (Unary op a) place = refl
  assigns x (Binary op a b) place = either (traps op (operand_value frame.values b)) _ _ refl refl

  -- an instruction with another number does what it did, with this number
  inst_redirected : (inst : Option Inst)
      → inst_transition shared (option_map (redirected_call to) inst) frame ≡ redirected_transition to (inst_transition shared inst frame)
  inst_redirected None = refl
  inst_redirected (Some (Receive x)) = refl
  inst_redirected (Some (Assign x rhs)) = assigns x rhs (frame.place + 1)
  inst_redirected (Some (Goto place)) = refl
  inst_redirected (Some (If test place)) = refl
  inst_redirected (Some (TrapIf test number)) = either (test_holds frame.values test) _ _ refl refl
  inst_redirected (Some (Call into called operands)) = refl
  inst_redirected (Some (Print a)) = refl
  inst_redirected (Some (Return a)) = refl

-- the unit that a transition calls, where it does, is one of these
abbrev pub CallIs : (ℕ → Type 0) → Transition → Type 0
CallIs Is (Continues counted next) = Unit {0}
CallIs Is (Prints value next) = Unit {0}
CallIs Is (Calls unit entry into next) = Is unit
CallIs Is (Returns answer) = Unit {0}
CallIs Is (Traps kind counted) = Unit {0}

module _ (Is : ℕ → Type 0) (frame : Frame) where
  -- either transition of a branch
  call_either : (b : Bool) (one other : Transition) → CallIs Is one → CallIs Is other → CallIs Is (if b then one else other)
  call_either true one other h k = h
  call_either false one other h k = k

  call_assigns : (x : ℕ) (rhs : Rhs) (place : ℕ) → CallIs Is (assign_transition x rhs place frame)
  call_assigns x (Plain a) place = tt
  call_assigns x (Unary op a) place = tt
  call_assigns x (Binary op a b) place = call_either (traps op (operand_value frame.values b)) _ _ tt tt

  -- of all instructions only a call has to be looked at
  inst_calls : (shared : ℕ) (inst : Option Inst)
      → ((into : Option ℕ) (called : ℕ) (operands : List Operand) → inst ≡ Some (Call into called operands) → Is called)
      → CallIs Is (inst_transition shared inst frame)
  inst_calls shared None calls = tt
  inst_calls shared (Some (Receive x)) calls = tt
  inst_calls shared (Some (Assign x rhs)) calls = call_assigns x rhs (frame.place + 1)
  inst_calls shared (Some (Goto place)) calls = tt
  inst_calls shared (Some (If test place)) calls = tt
  inst_calls shared (Some (TrapIf test number)) calls = call_either (test_holds frame.values test) _ _ tt tt
  inst_calls shared (Some (Call into called operands)) calls = calls into called operands refl
  inst_calls shared (Some (Print a)) calls = tt
  inst_calls shared (Some (Return a)) calls = tt

-- ---- bodies

-- as many receives
pub receives_stay : (to : ℕ → ℕ) (body : List Inst) → receives_in (map (redirected_call to) body) ≡ receives_in body
receives_stay to [] = refl
receives_stay to (Receive x ∷ body) = ap suc (receives_stay to body)
receives_stay to (Assign x rhs ∷ body) = refl
receives_stay to (Goto place ∷ body) = refl
receives_stay to (If test place ∷ body) = refl
receives_stay to (TrapIf test number ∷ body) = refl
receives_stay to (Call into unit operands ∷ body) = refl
receives_stay to (Print a ∷ body) = refl
receives_stay to (Return a ∷ body) = refl

-- the body of no unit is none
body_of : (to : ℕ → ℕ) (unit : Option UnitShape) → body_or_empty (option_map (with_calls to) unit) ≡ map (redirected_call to) (body_or_empty unit)
body_of to None = refl
body_of to (Some unit) = refl

-- ---- the program of the marked units

module _ (source : ProgramShape) (is : IsProgram source.globals source.units) (marks : List Bool) (are : MarkCalled source marks) where
  abbrev rank : ℕ → ℕ
  rank = marked_below marks

  abbrev target : ProgramShape
  target = only_marked marks source

  -- a unit of the source that calls lead to
  abbrev IsThere : ℕ → Type 0
  IsThere u = (u < length source.units) × IsCalled source u

  -- the body of a unit, by its new number
  pub body_is : (u : ℕ) → IsThere u → body_at target.units (rank u) ≡ map (redirected_call rank) (body_at source.units u)
  body_is u there =
      ap body_or_empty (slice_get-map (with_calls rank) (marked marks source.units) (rank u) ∙ ap (option_map (with_calls rank)) (at_rank marks source.units u ((are.exact u there.0).1 there.1) are.long))
      ∙ body_of rank (slice_get source.units u)

  -- it does what it did, with new numbers in its calls
  code_is : (u : ℕ) (f : Frame) → IsThere u → codes_of target (rank u) f ≡ redirected_transition rank (codes_of source u f)
  code_is u f there =
      ap (λ body. body_code (length source.globals) body f) (body_is u there)
      ∙ ap (λ inst. inst_transition (length source.globals) inst f) (slice_get-map (redirected_call rank) (body_at source.units u) f.place)
      ∙ inst_redirected rank (length source.globals) f (slice_get (body_at source.units u) f.place)

  -- a call in a unit of the program is of a unit of it
  called_there : (u place called : ℕ) (unit : Option UnitShape) (into : Option ℕ) (operands : List Operand)
      → slice_get source.units u ≡ unit → slice_get (body_or_empty unit) place ≡ Some (Call into called operands)
      → called < length source.units
  called_there u place called None into operands at call = cc
  called_there u place called (Some unit) into operands at call = ((is.bodies u unit at).insts place (Call into called operands) call).0

  -- it calls units that calls lead to
  calls_there : (u : ℕ) (f : Frame) → IsThere u → CallIs IsThere (codes_of source u f)
  calls_there u f there = inst_calls IsThere f (length source.globals) (slice_get (body_at source.units u) f.place) (λ into called operands at.
      (called_there u f.place called (slice_get source.units u) into operands refl at, by_call u called there.1 (record { place = f.place; into = into; operands = operands; at = at })))

  -- ---- stacks

  -- the caller and the stack by the new numbers
  abbrev new_caller : Caller → Caller
  new_caller caller = record caller { unit = rank caller.unit }

  abbrev new_stack : Stack → Stack
  new_stack stack = record { unit = rank stack.unit; frame = stack.frame; callers = map new_caller stack.callers }

  abbrev AllThere : List Caller → Type 0
  AllThere [] = Unit {0}
  AllThere (caller ∷ callers) = IsThere caller.unit × AllThere callers

  -- the second stack is the first by the new numbers, and all its units are called
  abbrev Renamed : StackRelation
  Renamed z from from' = (from' ≡ new_stack from) × (IsThere from.unit × AllThere from.callers)

  -- after a return
  abbrev AfterReturn : ℕ → Answer → List Caller → Type 0
  AfterReturn z answer [] = Unit {0}
  AfterReturn z answer (caller ∷ callers) = IsThere caller.unit × AllThere callers

  -- one step of each leads to where they are related again
  step_meets : (z u : ℕ) (f : Frame) (callers : List Caller) (t : Transition) → codes_of source u f ≡ t
      → codes_of target (rank u) f ≡ redirected_transition rank t → CallIs IsThere t → IsThere u → AllThere callers
      → MeetsAgain Renamed (codes_of source) (codes_of target) z (record { unit = u; frame = f; callers = callers }) (record { unit = rank u; frame = f; callers = map new_caller callers })
  step_meets z u f callers (Continues counted next) e e' calls there all = record {
    steps = 1;
    steps' = 1;
    to = control_after u callers (Continues counted next);
    to' = control_after (rank u) (map new_caller callers) (Continues counted next);
    prints = [];
    counted = counted;
    counted' = counted;
    frames = 0;
    frames' = 0;
    leads = leads_step (codes_of source) u f callers (Continues counted next) e;
    leads' = leads_step (codes_of target) (rank u) f (map new_caller callers) (Continues counted next) e';
    cheaper = le_refl counted;
    shallower = le_refl 0;
    measure = 0;
    abreast = (refl, (there, all));
    moves = inl (omega arith);
    moves' = inl (omega arith);
  }
  step_meets z u f callers (Prints value next) e e' calls there all = record {
    steps = 1;
    steps' = 1;
    to = control_after u callers (Prints value next);
    to' = control_after (rank u) (map new_caller callers) (Prints value next);
    prints = value ∷ [];
    counted = 0;
    counted' = 0;
    frames = 0;
    frames' = 0;
    leads = leads_step (codes_of source) u f callers (Prints value next) e;
    leads' = leads_step (codes_of target) (rank u) f (map new_caller callers) (Prints value next) e';
    cheaper = le_refl 0;
    shallower = le_refl 0;
    measure = 0;
    abreast = (refl, (there, all));
    moves = inl (omega arith);
    moves' = inl (omega arith);
  }
  step_meets z u f callers (Calls called entry into next) e e' calls there all = record {
    steps = 1;
    steps' = 1;
    to = control_after u callers (Calls called entry into next);
    to' = control_after (rank u) (map new_caller callers) (Calls (rank called) entry into next);
    prints = [];
    counted = 0;
    counted' = 0;
    frames = suc (suc (length callers));
    frames' = suc (suc (length (map new_caller callers)));
    leads = leads_step (codes_of source) u f callers (Calls called entry into next) e;
    leads' = leads_step (codes_of target) (rank u) f (map new_caller callers) (Calls (rank called) entry into next) e';
    cheaper = le_refl 0;
    shallower = omega (arith, length-map callers new_caller);
    measure = 0;
    abreast = (refl, (calls, (there, all)));
    moves = inl (omega arith);
    moves' = inl (omega arith);
  }
  step_meets z u f [] (Returns answer) e e' calls there all = record {
    steps = 1;
    steps' = 1;
    to = Ended answer.value;
    to' = Ended answer.value;
    prints = [];
    counted = 0;
    counted' = 0;
    frames = 0;
    frames' = 0;
    leads = leads_step (codes_of source) u f [] (Returns answer) e;
    leads' = leads_step (codes_of target) (rank u) f [] (Returns answer) e';
    cheaper = le_refl 0;
    shallower = le_refl 0;
    measure = 0;
    abreast = refl;
    moves = inl (omega arith);
    moves' = inl (omega arith);
  }
  step_meets z u f (caller ∷ callers) (Returns answer) e e' calls there all = record {
    steps = 1;
    steps' = 1;
    to = returned answer (caller ∷ callers);
    to' = returned answer (map new_caller (caller ∷ callers));
    prints = [];
    counted = 0;
    counted' = 0;
    frames = 0;
    frames' = 0;
    leads = leads_step (codes_of source) u f (caller ∷ callers) (Returns answer) e;
    leads' = leads_step (codes_of target) (rank u) f (map new_caller (caller ∷ callers)) (Returns answer) e';
    cheaper = le_refl 0;
    shallower = le_refl 0;
    measure = 0;
    abreast = (refl, (all.0, all.1));
    moves = inl (omega arith);
    moves' = inl (omega arith);
  }
  step_meets z u f callers (Traps kind counted) e e' calls there all = record {
    steps = 1;
    steps' = 1;
    to = Stopped kind;
    to' = Stopped kind;
    prints = [];
    counted = counted;
    counted' = counted;
    frames = 0;
    frames' = 0;
    leads = leads_step (codes_of source) u f callers (Traps kind counted) e;
    leads' = leads_step (codes_of target) (rank u) f (map new_caller callers) (Traps kind counted) e';
    cheaper = le_refl counted;
    shallower = le_refl 0;
    measure = 0;
    abreast = refl;
    moves = inl (omega arith);
    moves' = inl (omega arith);
  }

  -- the rule for stacks
  simulates : StacksSimulate (machine_at source) (machine_at target) Renamed
  simulates = record {
    receives = sym (ap receives_in (body_is 0 (is.some_unit, at_first)) ∙ receives_stay rank (body_at source.units 0));
    shared = refl;
    starts = λ entry is_entry zero. (0, (refl, ((is.some_unit, at_first), tt)));
    meets = λ z from from' r. subst (MeetsAgain Renamed (codes_of source) (codes_of target) z from) (sym r.0)
        (step_meets z from.unit from.frame from.callers (codes_of source from.unit from.frame) refl (code_is from.unit from.frame r.1.0) (calls_there from.unit from.frame r.1.0) r.1.0 r.1.1);
  }

  -- the program of the marked units keeps the runs of the source
  pub marked_keep : MachinesKeep (machine_at source) (machine_at target)
  marked_keep = stacks_keep (machine_at source) (machine_at target) Renamed simulates
