-- What terms say of the runs of a graph: variables with one term have one value. Cited by contracts.
use Rattle.std.specs.Prelude.{◌≡◌, ℕ, List, slice_get, Option, Some}
use Rattle.mir_base.specs.Frames.{Frame}
use Rattle.flow_graph.specs.Graphs.{GraphShape}
use Rattle.flow_graph.specs.Machines.{machine_of}
use Rattle.flow_graph.specs.RunFrames.{IsRunFrame}
use Rattle.value_number.specs.Roots.{FromRoot, terms_before}

-- wherever a run of the graph comes to node n, the variables x and y have one value
abbrev pub HaveOneValue : GraphShape → ℕ → ℕ → ℕ → Type 0
HaveOneValue graph n x y = (frame : Frame) → IsRunFrame (machine_of graph) frame → frame.place ≡ n
    → frame.values x ≡ frame.values y

-- any two variables that have one term before a node have one value wherever a run comes to it
abbrev pub TermsHold : GraphShape → Type 0
TermsHold graph = (n root : ℕ) (before : List ℕ) → FromRoot graph.nodes root n before
    → (x y : ℕ) → terms_before graph.shared graph.nodes root before x
    ≡ terms_before graph.shared graph.nodes root before y → HaveOneValue graph n x y

-- any two variables that have one number have one value wherever a run comes to node n
abbrev pub NumbersHold : GraphShape → ℕ → List (Option ℕ) → Type 0
NumbersHold graph n numbers = (x y k : ℕ) → slice_get numbers x ≡ Some (Some k)
    → slice_get numbers y ≡ Some (Some k)
    → HaveOneValue graph n x y
