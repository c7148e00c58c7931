-- Beside one another run the program and the one in which no unit computes what no other needs of it: in each frame
-- each variable agrees with what it was in the bits that are wanted. Cited by contracts.
use Rattle.std.specs.Prelude.{◌≡◌, ℕ, ◌≤◌, false, List, [], ◌∷◌, ℤ, Option}
use Rattle.mir_base.specs.Frames.{Frame}
use Rattle.mir_base.specs.Runs.{Caller, Control, Running, Ended, Stopped, State}
use Rattle.mir_base.specs.Shapes.{ProgramShape}
use Rattle.flow_graph.specs.Graphs.{GraphShape}
use Rattle.mir_sim.specs.Machines.{AreInputs, machines_run}
use Rattle.program_pass.specs.GraphPrograms.{graph_machines, shared_in}
use Rattle.wanted_bits.specs.Agreement.{AgreeBelow}
use Rattle.wanted_bits.specs.declared.picking.Shift.{Shift}
use Rattle.wanted_bits.specs.Walking.{is_into}
use Rattle.program_wanted.specs.NarrowedUnits.{AreNarrowedUnits, AreUnitNumbers}

-- two running frames stand at one node, and each variable agrees in as many of the lowest bits as are wanted there
pub record FramesAgree (wanted : ℕ → ℕ → ℕ) (f g : Frame) : Type 0 where
  pub place : g.place ≡ f.place
  pub values : (x : ℕ) → AgreeBelow (wanted f.place x) (f.values x) (g.values x)

-- two frames of one unit wait to go on at one node, and so does each variable agree that the answer does not set: all
-- but the globals and the one that the result goes to
pub record CallersAgree (shared : ℕ) (wanted : ℕ → ℕ → ℕ → ℕ) (p q : Caller) : Type 0 where
  pub unit : q.unit ≡ p.unit
  pub into : q.into ≡ p.into
  pub place : q.frame.place ≡ p.frame.place
  pub values : (x : ℕ) → shared ≤ x → is_into x p.into ≡ false
      → AgreeBelow (wanted p.unit p.frame.place x) (p.frame.values x) (q.frame.values x)

-- as many wait, each beside the one of its height
abbrev pub AllCallersAgree : ℕ → (ℕ → ℕ → ℕ → ℕ) → List Caller → List Caller → Type 0
AllCallersAgree shared wanted [] [] = Unit {0}
AllCallersAgree shared wanted (p ∷ ps) (q ∷ qs) =
    CallersAgree shared wanted p q × AllCallersAgree shared wanted ps qs
AllCallersAgree shared wanted _ _ = ⊥

-- frames of one unit run, and all frames agree; or both runs are over, with one result or by one trap
abbrev pub ControlsAgree : ℕ → (ℕ → ℕ → ℕ → ℕ) → Control → Control → Type 0
ControlsAgree shared wanted (Running u f ps) (Running v g qs) =
    (v ≡ u) × FramesAgree (wanted u) f g × AllCallersAgree shared wanted ps qs
ControlsAgree shared wanted (Ended result) (Ended result') = result' ≡ result
ControlsAgree shared wanted (Stopped kind) (Stopped kind') = kind' ≡ kind
ControlsAgree shared wanted _ _ = ⊥

-- they have printed the same, the second has evaluated no more operators, each has had as many frames, and their frames
-- agree
pub record StatesAgree (shared : ℕ) (wanted : ℕ → ℕ → ℕ → ℕ) (first second : State) : Type 0 where
  pub printed : second.printed ≡ first.printed
  pub counted : second.counted ≤ first.counted
  pub depth : second.depth ≡ first.depth
  pub control : ControlsAgree shared wanted first.control second.control

-- by the least numbers of wanted bits, after every number of steps of the graphs of the source and of those that they
-- are narrowed to, from the same inputs
pub record ProgramRunsAgree (source target : ProgramShape) : Type 0 where
  pub graphs : List GraphShape
  pub narrowed : List GraphShape
  pub units : AreNarrowedUnits source target graphs narrowed
  pub shifts : ℕ → ℕ → ℕ → Option Shift
  pub wanted : ℕ → ℕ → ℕ → ℕ
  pub least : AreUnitNumbers graphs units.demands shifts wanted
  pub agree : (inputs : List ℤ) (n : ℕ) → AreInputs (graph_machines graphs) inputs
      → StatesAgree (shared_in graphs) wanted (machines_run (graph_machines graphs) inputs n)
      (machines_run (graph_machines narrowed) inputs n)
