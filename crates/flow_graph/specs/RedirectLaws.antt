-- Laws: a node with other numbers for its successors does the same, step for step, at the other numbers. For proofs
-- only, of edge_split and jump_clean too.
use Rattle.std.proofs.Common.{◌≡◌, ℕ, Bool, true, false, if◌then◌else◌, List, slice_get, ℤ, Option, Some, None, option_map, refl, sym, ap, ◌∙◌, subst, le_refl}
use Rattle.mir_base.specs.declared.instructions.Rhs.{Rhs}
use Rattle.mir_base.specs.declared.instructions.Rhs.TheVariants.{Plain, Unary, Binary}
use Rattle.mir_base.specs.declared.operators.Trap.TheVariants.{ZeroDivisor, Raised}
use Rattle.mir_base.specs.declared.instructions.Test.{Test as MirTest}
use Rattle.mir_base.specs.Numbers.{traps, value_of_op}
use Rattle.mir_base.specs.Frames.{Answer, Frame, resumed, Continues, Traps}
use Rattle.mir_base.specs.Units.{operand_value, test_holds, at, assigned, assign_transition, guard_transition}
use Rattle.mir_base.specs.Locksteps.{Alike}
use Rattle.flow_graph.specs.declared.nodes.Node.{Node}
use Rattle.flow_graph.specs.declared.nodes.Node.TheVariants.{Start, Skip, Assign, Print, Guard, Call, Test, Return}
use Rattle.flow_graph.specs.Graphs.{succs_of}
use Rattle.flow_graph.specs.Machines.{node_transition}
use Rattle.flow_graph.specs.Retained.{redirected}

-- the second frame is the first at another place
pub record Shifted (to : ℕ → ℕ) (P : ℕ → Type 0) (f g : Frame) : Type 0 where
  pub good : P f.place
  pub is : g ≡ at (to f.place) f

-- a frame that a call returns to may be moved to another place before that or after it
pub resumed_at : (into : Option ℕ) (a : Answer) (p q : ℕ) (f : Frame) → resumed into a (at q f) ≡ at q (resumed into a (at p f))
resumed_at None a p q f = refl
resumed_at (Some x) a p q f = refl

-- the return of a call changes no place
pub resumed_place : (into : Option ℕ) (a : Answer) (f : Frame) → (resumed into a f).place ≡ f.place
resumed_place None a f = refl
resumed_place (Some x) a f = refl

-- an assignment that goes on at another place
pub assigns_alike : (S : Frame → Frame → Type 0) (x : ℕ) (rhs : Rhs) (p p' q : ℕ) (f : Frame)
    → ((v : ℤ) → S (assigned x v p f) (assigned x v p' f))
    → Alike S (assign_transition x rhs p f) (assign_transition x rhs p' (at q f))
assigns_alike S x (Plain a) p p' q f s = (le_refl 0, s _)
assigns_alike S x (Unary op a) p p' q f s = (le_refl 1, s _)
assigns_alike S x (Binary op a b) p p' q f s = binary (traps op (operand_value f.values b))
  where
    binary : (b' : Bool)
        → Alike S (if b' then Traps ZeroDivisor 1 else Continues 1 (assigned x (value_of_op op (operand_value f.values a) (operand_value f.values b)) p f)) (if b' then Traps ZeroDivisor 1 else Continues 1 (assigned x (value_of_op op (operand_value f.values a) (operand_value f.values b)) p' f))
    binary true = refl
    binary false = (le_refl 1, s _)

-- a trap instruction that goes on at another place
pub guards_alike : (S : Frame → Frame → Type 0) (test : MirTest) (number p p' q : ℕ) (f : Frame)
    → S (at p f) (at p' f) → Alike S (guard_transition test number p f) (guard_transition test number p' (at q f))
guards_alike S test number p p' q f s = by (test_holds f.values test)
  where
    by : (b : Bool) → Alike S (if b then Traps (Raised number) 0 else Continues 0 (at p f)) (if b then Traps (Raised number) 0 else Continues 0 (at p' f))
    by true = refl
    by false = (le_refl 0, s)

-- a frame at place s, and the same frame at the place to which s goes
pub shifted_to : (to : ℕ → ℕ) (P : ℕ → Type 0) (s : ℕ) (f g : Frame) → f.place ≡ s → P s → g ≡ at (to s) f → Shifted to P f g
shifted_to to P s f g e p is = record { good = subst P (sym e) p; is = is ∙ ap (λ n. at (to n) f) (sym e) }

-- a redirected node does what the node does, at corresponding places
pub redirects_alike : (shared : ℕ) (received : List ℕ) (to : ℕ → ℕ) (P : ℕ → Type 0) (o : Option Node)
    → ((slot s : ℕ) → slice_get (succs_of o) slot ≡ Some s → P s) → (f : Frame) (q : ℕ)
    → Alike (Shifted to P) (node_transition shared received o f) (node_transition shared received (option_map (redirected to) o) (at q f))
redirects_alike shared received to P None good f q = refl
redirects_alike shared received to P (Some (Start next)) good f q = (le_refl 0, record { good = good 0 next refl; is = refl })
redirects_alike shared received to P (Some (Skip next)) good f q = (le_refl 0, record { good = good 0 next refl; is = refl })
redirects_alike shared received to P (Some (Assign x rhs next)) good f q = assigns_alike (Shifted to P) x rhs next (to next) q f (λ v. record { good = good 0 next refl; is = refl })
redirects_alike shared received to P (Some (Print a next)) good f q = (refl, record { good = good 0 next refl; is = refl })
redirects_alike shared received to P (Some (Guard test number next)) good f q = guards_alike (Shifted to P) test number next (to next) q f (record { good = good 0 next refl; is = refl })
redirects_alike shared received to P (Some (Call into unit operands next)) good f q = (refl, refl, λ a fits. shifted_to to P next (resumed into a (at next f)) (resumed into a (at (to next) f)) (resumed_place into a (at next f)) (good 0 next refl) (resumed_at into a next (to next) f))
redirects_alike shared received to P (Some (Test test taken other)) good f q = (le_refl 0, chosen (test_holds f.values test))
  where
    chosen : (b : Bool) → Shifted to P (at (if b then taken else other) f) (at (if b then to taken else to other) (at q f))
    chosen true = record { good = good 0 taken refl; is = refl }
    chosen false = record { good = good 1 other refl; is = refl }
redirects_alike shared received to P (Some (Return a)) good f q = refl
