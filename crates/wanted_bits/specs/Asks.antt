-- What a unit asks for: of what it is handed, and of what the units that it calls hand back. Cited by contracts.
use Rattle.std.specs.Prelude.{◌≡◌, ◌<◌, ℕ, if◌then◌else◌, List, [], ◌∷◌, ◌++◌, map, length, slice_get, Option, Some, None}
use Rattle.mir_base.specs.declared.instructions.Operand.{Operand}
use Rattle.mir_base.specs.Frames.{shared_vars}
use Rattle.flow_graph.specs.declared.nodes.Node.{Node}
use Rattle.flow_graph.specs.declared.nodes.Node.TheVariants.{Start, Call}
use Rattle.flow_graph.specs.Graphs.{GraphShape}
use Rattle.wanted_bits.specs.declared.picking.Shift.{Shift}
use Rattle.wanted_bits.specs.MostRemoved.{TellShifts}
use Rattle.wanted_bits.specs.Walking.{HaveBacks, back_in, bits_at, is_into}
use Rattle.wanted_bits.specs.Wanted.{AreLeastWantedBy, AreShifts, Asked}

-- how many bits of the global x are wanted behind a call, where so many of each variable are: none where the result
-- goes to it
abbrev pub kept_bits : Option ℕ → (ℕ → ℕ) → ℕ → ℕ
kept_bits into behind x = if is_into x into then 0 else behind x

-- how many bits of the result
abbrev pub into_bits : Option ℕ → (ℕ → ℕ) → ℕ
into_bits None behind = 0
into_bits (Some y) behind = behind y

-- what is asked for of what a call hands back: of each of so many globals, and then of the result
abbrev pub back_list : ℕ → Option ℕ → (ℕ → ℕ) → List ℕ
back_list shared into behind =
    map (kept_bits into behind) (shared_vars shared) ++ into_bits into behind ∷ []

-- what a node asks for, where these are behind it
abbrev pub ask_past : ℕ → Option Node → List ℕ → Option (List ℕ)
ask_past shared None bits = None
ask_past shared (Some (Start next)) bits = Some bits
ask_past shared (Some (Call into unit operands next)) bits =
    Some (back_list shared into (bits_at bits))
ask_past shared (Some node) bits = None

-- by these numbers of wanted bits: at Start those of each variable, and at each call what is asked for behind it
pub record Ask (graph : GraphShape) (wanted : ℕ → ℕ → ℕ) (asks : List (Option (List ℕ)))
    : Type 0 where
  pub entry : List ℕ
  pub at_start : slice_get asks 0 ≡ Some (Some entry)
  pub entry_long : length entry ≡ length graph.vars
  pub entry_is : (x : ℕ) → x < length graph.vars → bits_at entry x ≡ wanted 0 x
  pub calls : (n : ℕ) (into : Option ℕ) (unit : ℕ) (operands : List Operand) (next : ℕ)
      → slice_get graph.nodes n ≡ Some (Call into unit operands next)
      → slice_get asks n ≡ Some (Some (back_list graph.shared into (wanted next)))

-- by the least numbers
pub record AreAsks (asked : Asked) (graph : GraphShape) (asks : List (Option (List ℕ)))
    : Type 0 where
  pub long : length asks ≡ length graph.nodes
  pub shifts : ℕ → ℕ → Option Shift
  pub tell : TellShifts graph shifts
  pub hold : AreShifts graph shifts
  pub wanted : ℕ → ℕ → ℕ
  pub least : AreLeastWantedBy asked graph shifts wanted
  pub ask : Ask graph wanted asks

-- where each right side shifts back what this list has for its node
pub record AreAsksBy (asked : Asked) (graph : GraphShape) (backs : List (Option Shift))
    (asks : List (Option (List ℕ))) : Type 0 where
  pub long : length asks ≡ length graph.nodes
  pub are : (shifts : ℕ → ℕ → Option Shift) → HaveBacks graph shifts (back_in backs)
      → (wanted : ℕ → ℕ → ℕ) × AreLeastWantedBy asked graph shifts wanted × Ask graph wanted asks
