-- What each pass makes of a program, in one table, and what a list of passes makes, one after another. Cited by
-- contracts.
use Rattle.std.specs.Prelude.{◌≡◌, List, [], ◌∷◌}
use Rattle.mir_base.specs.Shapes.{ProgramShape}
use Rattle.flow_graph.specs.Graphs.{GraphShape}
use Rattle.cond_const.specs.Folded.{IsFolded}
use Rattle.value_number.specs.Numbered.{IsNumbered}
use Rattle.copy_flow.specs.Copied.{IsCopied}
use Rattle.compare_flow.specs.Compared.{IsCompared}
use Rattle.term_flow.specs.Termed.{IsTermed}
use Rattle.edge_split.specs.Split.{IsEdgeSplit}
use Rattle.sink_rounds.specs.RoundGraphs.{AreRounds, last_round}
use Rattle.value_bounds.specs.Bounded.{IsBounded}
use Rattle.extend_flow.specs.Extended.{IsExtended}
use Rattle.unread_div.specs.Unread.{IsUnread}
use Rattle.wanted_bits.specs.Narrowed.{IsNarrowed}
use Rattle.program_pass.specs.PassPrograms.{IsPassedProgram}
use Rattle.tail_loop.specs.Tails.{Tailed}
use Rattle.unit_join.specs.JoinPrograms.{IsJoinedProgram}
use Rattle.constant_args.specs.ConstantArguments.{HasConstantArguments}
use Rattle.mir_opt.specs.declared.trails.MoveTrail.{MoveTrail}
use Rattle.mir_opt.specs.declared.trails.Trail.{Trail}
use Rattle.mir_opt.specs.Links.{IsDivisionLinked, IsLinked, IsMoveLinked}
use Rattle.called_units.specs.CalledUnits.{HasCalledUnits}
use Rattle.program_bounds.specs.Programs.{IsBoundedProgram}
use Rattle.program_wanted.specs.WantedPrograms.{IsWantedProgram}
use Rattle.pass_chain.specs.declared.passes.Pass.{Pass}
use Rattle.pass_chain.specs.declared.passes.Pass.TheVariants.{Tails, Join, Arguments, Optimise, Clean, Fold, Number, Copies, Motion, Divisions, Sink, Comparisons, Terms, Bounds, Extensions, Unread, Wanted, Demanded, Known, Called}

-- ---- passes on graphs

-- each unit is lowered, cleaned, put through a pass on graphs, cleaned and laid out
abbrev pub PassesGraphs : (GraphShape → GraphShape → Type 0) → ProgramShape → ProgramShape → Type 0
PassesGraphs Exact = IsPassedProgram (λ number. Exact)

-- the graph stays as it is
abbrev pub IsUnchanged : GraphShape → GraphShape → Type 0
IsUnchanged graph result = result ≡ graph

-- the last of the rounds of sinking that are made of the split graph
pub record SunkInRounds (graph result : GraphShape) : Type 0 where
  pub split : GraphShape
  pub rounds : List GraphShape
  pub splits : IsEdgeSplit graph split
  pub are_rounds : AreRounds split rounds
  pub last : result ≡ last_round split rounds

-- ---- passes over whole programs

-- there is such a trail from the source to the target
pub record HasTrail {T : Type 0} (source_of target_of : T → ProgramShape) (Linked : T → Type 0)
    (source target : ProgramShape) : Type 0 where
  pub trail : T
  pub linked : Linked trail
  pub from_source : source_of trail ≡ source
  pub to_target : target_of trail ≡ target

-- the target of all passes of `optimise`
abbrev pub IsOptimised : ProgramShape → ProgramShape → Type 0
IsOptimised = HasTrail {T = Trail} (λ trail. trail.source) (λ trail. trail.target) IsLinked

-- the target of code motion alone
abbrev pub IsMoved : ProgramShape → ProgramShape → Type 0
IsMoved = HasTrail {T = MoveTrail} (λ trail. trail.source) (λ trail. trail.target) IsMoveLinked

-- the target of the motion of divisions alone
abbrev pub HasDivisionsMoved : ProgramShape → ProgramShape → Type 0
HasDivisionsMoved =
    HasTrail {T = MoveTrail} (λ trail. trail.source) (λ trail. trail.target) IsDivisionLinked

-- ---- all passes

-- the target is the exact result of the pass on the source
abbrev pub IsPassedBy : Pass → ProgramShape → ProgramShape → Type 0
IsPassedBy Tails = IsPassedProgram Tailed
IsPassedBy Join = IsJoinedProgram
IsPassedBy Arguments = HasConstantArguments
IsPassedBy Optimise = IsOptimised
IsPassedBy Clean = PassesGraphs IsUnchanged
IsPassedBy Fold = PassesGraphs IsFolded
IsPassedBy Number = PassesGraphs IsNumbered
IsPassedBy Copies = PassesGraphs IsCopied
IsPassedBy Motion = IsMoved
IsPassedBy Divisions = HasDivisionsMoved
IsPassedBy Sink = PassesGraphs SunkInRounds
IsPassedBy Comparisons = PassesGraphs IsCompared
IsPassedBy Terms = PassesGraphs IsTermed
IsPassedBy Bounds = PassesGraphs IsBounded
IsPassedBy Extensions = PassesGraphs IsExtended
IsPassedBy Unread = PassesGraphs IsUnread
IsPassedBy Wanted = PassesGraphs IsNarrowed
IsPassedBy Demanded = IsWantedProgram
IsPassedBy Known = IsBoundedProgram
IsPassedBy Called = HasCalledUnits

-- the target is the exact result of these passes on the source one after another, from the first to the last
abbrev pub IsChained : List Pass → ProgramShape → ProgramShape → Type 0
IsChained [] source target = target ≡ source
IsChained (pass ∷ passes) source target =
    (next : ProgramShape) × (IsPassedBy pass source next × IsChained passes next target)
