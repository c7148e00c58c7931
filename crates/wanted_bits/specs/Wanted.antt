-- How many of the lowest bits of each variable are wanted before each node: the others change nothing that a run shows.
-- Cited by contracts.
use Rattle.std.specs.Prelude.{◌≡◌, ◌≢◌, ℕ, suc, ◌+◌, ◌-◌, ◌<◌, ◌≤◌, ◌⊎◌, min, max, Bool, true, false, not, nat_eq, nat_lt, if◌then◌else◌, List, [], ◌∷◌, length, slice_get, Option, Some, None, ℤ}
use Rattle.mir_base.specs.declared.operators.Op.{Op}
use Rattle.mir_base.specs.declared.operators.Op.TheVariants.{Add, Sub, Mul, Div, Mod, Shl, Shr, Shra, And, Or, Xor}
use Rattle.mir_base.specs.declared.operators.UnOp.TheVariants.{Neg, Not}
use Rattle.mir_base.specs.declared.instructions.Operand.{Operand}
use Rattle.mir_base.specs.declared.instructions.Operand.TheVariants.{Var, Const}
use Rattle.mir_base.specs.declared.instructions.Rhs.{Rhs}
use Rattle.mir_base.specs.declared.instructions.Rhs.TheVariants.{Plain, Unary, Binary}
use Rattle.mir_base.specs.Numbers.{wrapped, distance}
use Rattle.flow_graph.specs.declared.nodes.Node.{Node}
use Rattle.flow_graph.specs.declared.nodes.Node.TheVariants.{Assign, Call, Return}
use Rattle.flow_graph.specs.Graphs.{GraphShape, IsEdge, assigns, node_reads}
use Rattle.flow_graph.specs.Numbering.{is_in}
use Rattle.wanted_bits.specs.declared.picking.Shift.{Shift}
use Rattle.wanted_bits.specs.Agreement.{bit_length}

-- ---- operands, of which the result's k lowest bits are wanted

-- so many bits, where any bit of the result is wanted
abbrev pub if_any : ℕ → ℕ → ℕ
if_any k bits = if nat_eq k 0 then 0 else bits

-- the bits of an operand that may be 1
abbrev pub length_of : Operand → ℕ
length_of (Var y) = 64
length_of (Const c) = bit_length (wrapped c)

-- what a shift by this operand to the left wants of what it shifts: the bits that stay among the k lowest
abbrev pub wanted_shl : Operand → ℕ → ℕ
wanted_shl (Var y) k = k
wanted_shl (Const c) k = k - distance (wrapped c)

-- and to the right: the bits that come down to the k lowest, all where the highest does
abbrev pub wanted_shr : Operand → ℕ → ℕ
wanted_shr (Var y) k = if_any k 64
wanted_shr (Const c) k = if_any k (min 64 (k + distance (wrapped c)))

-- the bits wanted of the left operand, where this is the right one
abbrev pub wanted_left : Op → Operand → ℕ → ℕ
wanted_left Add b k = k
wanted_left Sub b k = k
wanted_left Mul b k = k
wanted_left And b k = min k (length_of b)
wanted_left Or b k = k
wanted_left Xor b k = k
wanted_left Shl b k = wanted_shl b k
wanted_left Shr b k = wanted_shr b k
wanted_left Shra b k = wanted_shr b k
wanted_left _ b k = if_any k 64

-- of the right operand, where this is the left one: a divisor is wanted always, and of a shift's distance 6 bits
abbrev pub wanted_right : Op → Operand → ℕ → ℕ
wanted_right Add a k = k
wanted_right Sub a k = k
wanted_right Mul a k = k
wanted_right And a k = min k (length_of a)
wanted_right Or a k = k
wanted_right Xor a k = k
wanted_right Shl a k = if_any k 6
wanted_right Shr a k = if_any k 6
wanted_right Shra a k = if_any k 6
wanted_right Div a k = 64
wanted_right Mod a k = 64
wanted_right _ a k = if_any k 64

-- as many bits are wanted of both operands as of the result, whatever they are
abbrev pub wants_both : Op → Bool
wants_both Add = true
wants_both Sub = true
wants_both Mul = true
wants_both Or = true
wants_both Xor = true
wants_both _ = false

-- the variable x by an operand of which so many bits are wanted
abbrev pub wanted_of : Operand → ℕ → ℕ → ℕ
wanted_of (Var y) bits x = if nat_eq x y then bits else 0
wanted_of (Const c) bits x = 0

-- the bits of x that a right side wants
abbrev pub wanted_by : Rhs → ℕ → ℕ → ℕ
wanted_by (Plain a) k x = wanted_of a k x
wanted_by (Unary Neg a) k x = wanted_of a k x
wanted_by (Unary Not a) k x = wanted_of a (if_any k 64) x
wanted_by (Binary op a b) k x =
    max (wanted_of a (wanted_left op b k) x) (wanted_of b (wanted_right op a k) x)

-- ---- shifts to the left that a shift to the right undoes

-- the node assigns this shift of another variable to t
pub record IsShift (t : ℕ) (shift : Shift) (node : Node) : Type 0 where
  pub by : ℤ
  pub next : ℕ
  pub is : node ≡ Assign t (Binary Shl (Var shift.source) (Const by)) next
  pub far : shift.distance ≡ distance (wrapped by)
  pub apart : shift.source ≢ t

-- Shifts by nodes and variables that hold wherever they are told: behind no Start, and before a node only what the node
-- before it assigns, or what holds before that and is not assigned there
pub record AreShifts (graph : GraphShape) (shifts : ℕ → ℕ → Option Shift) : Type 0 where
  pub start : (t : ℕ) → shifts 0 t ≡ None
  pub arise : (m slot n t : ℕ) (shift : Shift) (node : Node) → IsEdge graph.nodes m slot n
      → slice_get graph.nodes m ≡ Some node → shifts n t ≡ Some shift
      → IsShift t shift node
      ⊎ ((shifts m t ≡ Some shift) × (assigns graph t node ≡ false)
      × (assigns graph shift.source node ≡ false))

-- the operator shifts to the right
abbrev pub is_right_shift : Op → Bool
is_right_shift Shr = true
is_right_shift Shra = true
is_right_shift _ = false

-- the shift, if it is by this distance
abbrev pub shift_by : Option Shift → Operand → Option Shift
shift_by None b = None
shift_by (Some shift) (Var y) = None
shift_by (Some shift) (Const c) =
    if nat_eq shift.distance (distance (wrapped c)) then Some shift else None

-- the shift that a right side shifts back
abbrev pub shifted_back : (ℕ → Option Shift) → Rhs → Option Shift
shifted_back shifts (Plain a) = None
shifted_back shifts (Unary op a) = None
shifted_back shifts (Binary op (Const c) b) = None
shifted_back shifts (Binary op (Var t) b) =
    if is_right_shift op then shift_by (shifts t) b else None

-- the k lowest bits of what is shifted back are those of the source
abbrev pub is_undone : Shift → ℕ → Bool
is_undone shift k = not (nat_lt 64 (k + shift.distance))

-- the bits of x that a right side wants: where it shifts back, those of the source in the place of its own operand
abbrev pub wanted_past : Option Shift → Rhs → ℕ → ℕ → ℕ
wanted_past None rhs k x = wanted_by rhs k x
wanted_past (Some shift) rhs k x =
    max (wanted_of (Var shift.source) (min k (64 - shift.distance)) x)
    (if is_undone shift k then 0 else wanted_by rhs k x)

-- by the shifts that hold before the node
abbrev pub wanted_rhs : (ℕ → Option Shift) → Rhs → ℕ → ℕ → ℕ
wanted_rhs shifts rhs k x = wanted_past (shifted_back shifts rhs) rhs k x

-- ---- around a unit

-- How many bits are wanted around a unit: for each unit that it calls, of each global and of each argument where that
-- is entered; and of each global that the unit itself hands back, and of its result
pub record Asked : Type 0 where
  pub globals : (unit x : ℕ) → ℕ
  pub arguments : (unit i : ℕ) → ℕ
  pub left : (x : ℕ) → ℕ
  pub result : ℕ

-- all 64, whatever stands around the unit
abbrev pub all_asked : Asked
all_asked = record {
  globals = λ unit x. 64;
  arguments = λ unit i. 64;
  left = λ x. 64;
  result = 64;
}

-- the bits of x among so many globals, of which so many each are wanted
abbrev pub wanted_global : ℕ → (ℕ → ℕ) → ℕ → ℕ
wanted_global shared widths x = if nat_lt x shared then widths x else 0

-- among these arguments from number i on, of which so many each are wanted
abbrev pub wanted_among : (ℕ → ℕ) → ℕ → List Operand → ℕ → ℕ
wanted_among widths i [] x = 0
wanted_among widths i (a ∷ operands) x =
    max (wanted_of a (widths i) x) (wanted_among widths (suc i) operands x)

-- ---- nodes

-- the bits of x that a node wants: an assignment by the bits that are wanted of its variable behind it, a call and a
-- return by what is asked of what they hand over, and any other node all bits of what it reads
abbrev pub wanted_at : GraphShape → Asked → (ℕ → Option Shift) → (ℕ → ℕ → ℕ) → Node → ℕ → ℕ
wanted_at graph asked shifts wanted (Assign y rhs next) x = wanted_rhs shifts rhs (wanted next y) x
wanted_at graph asked shifts wanted (Call into unit operands next) x =
    max (wanted_global graph.shared (asked.globals unit) x)
    (wanted_among (asked.arguments unit) 0 operands x)
wanted_at graph asked shifts wanted (Return a) x =
    max (wanted_global graph.shared asked.left x) (wanted_of a asked.result x)
wanted_at graph asked shifts wanted node x = if is_in x (node_reads graph node) then 64 else 0

-- a number of bits for each node and variable, where so many are asked for around the unit: at most 64, at least what
-- the node wants, and at least what is wanted behind it, unless the node assigns the variable
pub record AreWantedBy (asked : Asked) (graph : GraphShape) (shifts : ℕ → ℕ → Option Shift)
    (wanted : ℕ → ℕ → ℕ) : Type 0 where
  pub most : (n x : ℕ) → wanted n x ≤ 64
  pub here : (n x : ℕ) (node : Node) → slice_get graph.nodes n ≡ Some node
      → wanted_at graph asked (shifts n) wanted node x ≤ wanted n x
  pub behind : (n slot s x : ℕ) (node : Node) → slice_get graph.nodes n ≡ Some node
      → IsEdge graph.nodes n slot s
      → assigns graph x node ≡ false → wanted s x ≤ wanted n x

-- the least such numbers
pub record AreLeastWantedBy (asked : Asked) (graph : GraphShape) (shifts : ℕ → ℕ → Option Shift)
    (wanted : ℕ → ℕ → ℕ) : Type 0 where
  pub are : AreWantedBy asked graph shifts wanted
  pub least : (others : ℕ → ℕ → ℕ) → AreWantedBy asked graph shifts others
      → (n x : ℕ) → n < length graph.nodes
      → x < length graph.vars → wanted n x ≤ others n x

-- where all bits are asked for around the unit
abbrev pub AreLeastWanted : GraphShape → (ℕ → ℕ → Option Shift) → (ℕ → ℕ → ℕ) → Type 0
AreLeastWanted = AreLeastWantedBy all_asked
