-- A program has one linked trail, one linked move trail and one linked division trail: the graphs of a trail that is a
-- value lead to nodes. For proofs only, and by `UnitSteps`.
use Rattle.std.proofs.Common.{◌≡◌, ℕ, List, [], ◌∷◌, refl, sym, ap, ◌∙◌, subst}
use Rattle.std.specs.List.{AllZip}
use Rattle.mir_base.specs.declared.instructions.Expr.{Expr}
use Rattle.mir_base.specs.Shapes.{ProgramShape, UnitShape}
use Rattle.flow_graph.specs.declared.nodes.Node.{Node}
use Rattle.flow_graph.specs.Graphs.{AllWithin, GraphShape}
use Rattle.flow_graph.specs.Layouts.{IsLayout}
use Rattle.flow_graph.specs.ListLaws.{cons_same}
use Rattle.flow_graph.specs.OneLaws.{layout_is_one, lowered_is_one, same_graphs}
use Rattle.jump_clean.specs.Cleaned.{IsClean}
use Rattle.jump_clean.specs.CleanLaws.{clean_is_one}
use Rattle.edge_split.specs.Split.{IsEdgeSplit}
use Rattle.cond_const.specs.Folded.{IsFolded}
use Rattle.cond_const.specs.FoldLaws.{folded_is_one}
use Rattle.value_number.specs.Numbered.{IsNumbered}
use Rattle.value_number.specs.NumberedLaws.{numbered_is_one}
use Rattle.copy_flow.specs.Copied.{IsCopied}
use Rattle.copy_flow.specs.CopiedLaws.{copied_is_one}
use Rattle.sink_rounds.specs.RoundGraphs.{AreRounds, last_round}
use Rattle.sink_rounds.specs.RoundLaws.{rounds_are_one}
use Rattle.motion_rewrite.specs.declared.placement.Placement.{Placement}
use Rattle.motion_rewrite.specs.Flatten.{IsFlattened}
use Rattle.motion_rewrite.specs.FlattenLaws.{flattened_is_one}
use Rattle.motion_rewrite.specs.Placements.{IsAnticipatable}
use Rattle.motion_rewrite.specs.ExprTables.{dividing_exprs, movable_exprs}
use Rattle.latest_place.specs.Lazy.{IsLazyPlacement}
use Rattle.latest_place.specs.LazyLaws.{lazy_is_one}
use Rattle.div_move.specs.MustCome.{MustComeTo}
use Rattle.mir_opt.specs.declared.trails.MoveUnit.{MoveUnit}
use Rattle.mir_opt.specs.declared.trails.UnitTrail.{UnitTrail}
use Rattle.mir_opt.specs.Links.{AllLinked, HasOneLink, IsMotion, IsStart, LinksDivision, LinksMove, LinksUnit}
use Rattle.mir_opt.specs.Stages.{AreLaid, CleansWithin, MotionCleansWithin}

-- ---- single passes

-- a graph has one split graph
split_is_one : (graph a b : GraphShape) → IsEdgeSplit graph a → IsEdgeSplit graph b → a ≡ b
split_is_one graph a b p q =
    same_graphs a b (p.name_is ∙ sym q.name_is) (p.shared_is ∙ sym q.shared_is) (p.vars_are ∙ sym q.vars_are) (p.received_are ∙ sym q.received_are) (p.nodes_are ∙ sym q.nodes_are)

-- and a split graph one lazy placement
placement_is_one : (Down : GraphShape → Expr → ℕ → Type 0) (graph : GraphShape) (table : List Expr) (p q : Placement)
    → IsLazyPlacement Down graph table p → IsLazyPlacement Down graph table q → p ≡ q
placement_is_one Down graph table p q lazy lazy' =
    lazy_is_one graph table (Down graph) p q lazy.insert_rows lazy.replace_rows lazy'.insert_rows lazy'.replace_rows lazy.lazy lazy'.lazy

-- a pass on equal graphs
after_same : (IsPass : GraphShape → GraphShape → Type 0)
    → ((graph a b : GraphShape) → AllWithin graph.nodes → IsPass graph a → IsPass graph b → a ≡ b)
    → (graph graph' a b : GraphShape) → AllWithin graph.nodes → graph ≡ graph' → IsPass graph a → IsPass graph' b → a ≡ b
after_same IsPass one graph graph' a b within same p q = one graph a b within p (subst (λ g. IsPass g b) (sym same) q)

-- of cleaning
clean_same : (graph graph' a b : GraphShape) → AllWithin graph.nodes → graph ≡ graph'
    → IsClean graph a → IsClean graph' b → a ≡ b
clean_same = after_same IsClean clean_is_one

-- of one that asks nothing of the nodes
after_same_any : (IsPass : GraphShape → GraphShape → Type 0)
    → ((graph a b : GraphShape) → IsPass graph a → IsPass graph b → a ≡ b)
    → (graph graph' a b : GraphShape) → graph ≡ graph' → IsPass graph a → IsPass graph' b → a ≡ b
after_same_any IsPass one graph graph' a b same p q = one graph a b p (subst (λ g. IsPass g b) (sym same) q)

-- of folding
folded_same : (graph graph' a b : GraphShape) → graph ≡ graph' → IsFolded graph a → IsFolded graph' b → a ≡ b
folded_same = after_same_any IsFolded folded_is_one

-- of numbering
numbered_same : (graph graph' a b : GraphShape) → graph ≡ graph' → IsNumbered graph a → IsNumbered graph' b → a ≡ b
numbered_same = after_same_any IsNumbered numbered_is_one

-- of replacing copies
copied_same : (graph graph' a b : GraphShape) → graph ≡ graph' → IsCopied graph a → IsCopied graph' b → a ≡ b
copied_same = after_same_any IsCopied copied_is_one

-- ---- code motion

-- the parts of two motions
pub record SameMotion (split split' : GraphShape) (table table' : List Expr)
    (placement placement' : Placement) (moved moved' : GraphShape) : Type 0 where
  pub splits : split ≡ split'
  pub tables : table ≡ table'
  pub placements : placement ≡ placement'
  pub moves : moved ≡ moved'

-- the motion of equal graphs has equal parts
pub motion_is_one : (exprs : List Node → List Expr) (Down : GraphShape → Expr → ℕ → Type 0) (graph graph' split split' : GraphShape) (table table' : List Expr) (placement placement' : Placement) (moved moved' : GraphShape)
    → graph ≡ graph' → IsMotion exprs Down graph split table placement moved → IsMotion exprs Down graph' split' table' placement' moved' → SameMotion split split' table table' placement placement' moved moved'
motion_is_one exprs Down graph graph' split split' table table' placement placement' moved moved' same p q = record {
  splits = splits;
  tables = tables;
  placements = placements;
  moves = moves;
}
  where
    splits : split ≡ split'
    splits = split_is_one graph split split' p.splits (subst (λ g. IsEdgeSplit g split') (sym same) q.splits)

    tables : table ≡ table'
    tables = p.table_is ∙ ap (λ (g : GraphShape). exprs g.nodes) splits ∙ sym q.table_is

    placements : placement ≡ placement'
    placements =
        placement_is_one Down split table placement placement' p.placed (subst (λ g. IsLazyPlacement Down g table placement') (sym splits) (subst (λ t. IsLazyPlacement Down split' t placement') (sym tables) q.placed))

    moves : moved ≡ moved'
    moves = flattened_is_one split table placement moved moved' p.flattened
        (subst (λ g. IsFlattened g table placement moved') (sym splits) (subst (λ t. IsFlattened split' t placement moved') (sym tables) (subst (λ pl. IsFlattened split' table' pl moved') (sym placements) q.flattened)))

-- ---- one unit

-- trails with equal parts are equal
same_trails : (a b : UnitTrail) → a.lowered ≡ b.lowered → a.cleaned ≡ b.cleaned
    → a.folded ≡ b.folded → a.numbered ≡ b.numbered → a.copied ≡ b.copied → a.split ≡ b.split
    → a.table ≡ b.table → a.placement ≡ b.placement → a.moved ≡ b.moved → a.recopied ≡ b.recopied
    → a.rounds.graphs ≡ b.rounds.graphs → a.swept ≡ b.swept → a ≡ b
same_trails a b lowered cleaned folded numbered copied split table placement moved recopied rounds swept =
    let same : ◌≡◌ {A = UnitTrail}
    (record {
      lowered = a.lowered;
      cleaned = a.cleaned;
      folded = a.folded;
      numbered = a.numbered;
      copied = a.copied;
      split = a.split;
      table = a.table;
      placement = a.placement;
      moved = a.moved;
      recopied = a.recopied;
      rounds = record { graphs = a.rounds.graphs };
      swept = a.swept;
    })
    (record {
      lowered = b.lowered;
      cleaned = b.cleaned;
      folded = b.folded;
      numbered = b.numbered;
      copied = b.copied;
      split = b.split;
      table = b.table;
      placement = b.placement;
      moved = b.moved;
      recopied = b.recopied;
      rounds = record { graphs = b.rounds.graphs };
      swept = b.swept;
    }) = cc in
    same

-- so are move trails
same_moves : (a b : MoveUnit) → a.lowered ≡ b.lowered → a.cleaned ≡ b.cleaned → a.split ≡ b.split
    → a.table ≡ b.table → a.placement ≡ b.placement → a.moved ≡ b.moved → a.swept ≡ b.swept → a ≡ b
same_moves a b lowered cleaned split table placement moved swept =
    let same : ◌≡◌ {A = MoveUnit}
    (record {
      lowered = a.lowered;
      cleaned = a.cleaned;
      split = a.split;
      table = a.table;
      placement = a.placement;
      moved = a.moved;
      swept = a.swept;
    })
    (record {
      lowered = b.lowered;
      cleaned = b.cleaned;
      split = b.split;
      table = b.table;
      placement = b.placement;
      moved = b.moved;
      swept = b.swept;
    }) = cc in
    same

-- the first steps of two trails
pub record SameStart (lowered lowered' cleaned cleaned' : GraphShape) : Type 0 where
  pub lowers : lowered ≡ lowered'
  pub cleans : cleaned ≡ cleaned'

-- a unit has one pair of them
start_is_one : (source : UnitShape) (lowered lowered' cleaned cleaned' : GraphShape)
    → AllWithin lowered.nodes → IsStart source lowered cleaned → IsStart source lowered' cleaned'
    → SameStart lowered lowered' cleaned cleaned'
start_is_one source lowered lowered' cleaned cleaned' within p q = record {
  lowers = same;
  cleans = clean_same lowered lowered' cleaned cleaned' within same p.cleans q.cleans;
}
  where
    same : lowered ≡ lowered'
    same = lowered_is_one source lowered lowered' p.lowers q.lowers

-- a unit has one trail
module _ (source : UnitShape) (a b : UnitTrail) (within : CleansWithin a) (p : LinksUnit source a)
    (q : LinksUnit source b) where
  start : SameStart a.lowered b.lowered a.cleaned b.cleaned
  start = start_is_one source a.lowered b.lowered a.cleaned b.cleaned within.0 p.start q.start

  folded : a.folded ≡ b.folded
  folded = folded_same a.cleaned b.cleaned a.folded b.folded start.cleans p.front.folds q.front.folds

  numbered : a.numbered ≡ b.numbered
  numbered = numbered_same a.folded b.folded a.numbered b.numbered folded p.front.numbers q.front.numbers

  copied : a.copied ≡ b.copied
  copied = copied_same a.numbered b.numbered a.copied b.copied numbered p.front.copies q.front.copies

  motion : SameMotion a.split b.split a.table b.table a.placement b.placement a.moved b.moved
  motion =
      motion_is_one movable_exprs IsAnticipatable a.copied b.copied a.split b.split a.table b.table a.placement b.placement a.moved b.moved copied p.motion q.motion

  recopied : a.recopied ≡ b.recopied
  recopied = copied_same a.moved b.moved a.recopied b.recopied motion.moves p.back.copies q.back.copies

  rounds : a.rounds.graphs ≡ b.rounds.graphs
  rounds = rounds_are_one a.recopied a.rounds.graphs b.rounds.graphs p.back.sinks (subst (λ g. AreRounds g b.rounds.graphs) (sym recopied) q.back.sinks)

  swept : a.swept ≡ b.swept
  swept =
      clean_same (last_round a.recopied a.rounds.graphs) (last_round b.recopied b.rounds.graphs) a.swept b.swept within.1 (ap (λ g. last_round g a.rounds.graphs) recopied ∙ ap (last_round b.recopied) rounds) p.back.sweeps q.back.sweeps

  pub unit_is_one : a ≡ b
  unit_is_one = same_trails a b start.lowers start.cleans folded numbered copied motion.splits motion.tables motion.placements motion.moves recopied rounds swept

-- the steps of code motion alone have one value, whatever expressions are moved by whatever rule
module _ (exprs : List Node → List Expr) (Down : GraphShape → Expr → ℕ → Type 0) (source : UnitShape) (a b : MoveUnit) (within : MotionCleansWithin a)
    (a_start : IsStart source a.lowered a.cleaned) (b_start : IsStart source b.lowered b.cleaned)
    (a_motion : IsMotion exprs Down a.cleaned a.split a.table a.placement a.moved) (b_motion : IsMotion exprs Down b.cleaned b.split b.table b.placement b.moved)
    (a_sweeps : IsClean a.moved a.swept) (b_sweeps : IsClean b.moved b.swept) where
  move_start : SameStart a.lowered b.lowered a.cleaned b.cleaned
  move_start = start_is_one source a.lowered b.lowered a.cleaned b.cleaned within.0 a_start b_start

  move_motion : SameMotion a.split b.split a.table b.table a.placement b.placement a.moved b.moved
  move_motion =
      motion_is_one exprs Down a.cleaned b.cleaned a.split b.split a.table b.table a.placement b.placement a.moved b.moved move_start.cleans a_motion b_motion

  move_swept : a.swept ≡ b.swept
  move_swept = clean_same a.moved b.moved a.swept b.swept within.1 move_motion.moves a_sweeps b_sweeps

  moves_are_one : a ≡ b
  moves_are_one = same_moves a b move_start.lowers move_start.cleans move_motion.splits move_motion.tables move_motion.placements move_motion.moves move_swept

-- so a unit has one move trail
pub move_is_one : (source : UnitShape) (a b : MoveUnit) → MotionCleansWithin a → LinksMove source a
    → LinksMove source b → a ≡ b
move_is_one source a b within p q = moves_are_one movable_exprs IsAnticipatable source a b within p.start q.start p.motion q.motion p.sweeps q.sweeps

-- and one trail of the motion of divisions, as `divisions` makes it
pub division_is_one : (source : UnitShape) (a b : MoveUnit) → MotionCleansWithin a
    → LinksDivision source a → LinksDivision source b → a ≡ b
division_is_one source a b within p q = moves_are_one dividing_exprs MustComeTo source a b within p.start q.start p.motion q.motion p.sweeps q.sweeps

-- ---- all units

-- where each item has one partner, a list has one list of partners
pub zip_is_one : {A B : Type 0} (R S : A → B → Type 0)
    → ((x : A) (y y' : B) → R x y → S x y' → y ≡ y') → (xs : List A) (ys ys' : List B)
    → AllZip R xs ys → AllZip S xs ys' → ys ≡ ys'
zip_is_one R S one [] [] [] z z' = refl
zip_is_one R S one [] [] (y' ∷ ys') z z' = absurd z'
zip_is_one R S one [] (y ∷ ys) ys' z z' = absurd z
zip_is_one R S one (x ∷ xs) [] ys' z z' = absurd z
zip_is_one R S one (x ∷ xs) (y ∷ ys) [] z z' = absurd z'
zip_is_one R S one (x ∷ xs) (y ∷ ys) (y' ∷ ys') z z' = cons_same (one x y y' z.0 z'.0) (zip_is_one R S one xs ys ys' z.1 z'.1)

-- where a unit has one trail, a program has one list of trails, and one target
pub record OneTrail {T : Type 0} (units units' : List T)
    (target target' : ProgramShape) : Type 0 where
  pub units_are : units ≡ units'
  pub target_is : target ≡ target'

-- so it is
pub linked_is_one : {T S : Type 0} (graph_of : T → S → GraphShape) (last : S) (Within : T → Type 0) (Links : UnitShape → T → Type 0)
    → HasOneLink Within Links
    → (source : ProgramShape) (units units' : List T) (target target' : ProgramShape) → AllZip (λ source unit. Within unit × Links source unit) source.units units → AreLaid graph_of last units target.units → target.globals ≡ source.globals
    → AllLinked graph_of last Links source units' target' → OneTrail units units' target target'
linked_is_one {T = T} graph_of last Within Links one source units units' target target' steps laid globals other = record {
  units_are = same;
  target_is = same_target;
}
  where
    same : units ≡ units'
    same =
        zip_is_one (λ source unit. Within unit × Links source unit) Links (λ source a b p q. one source a b p.0 p.1 q) source.units units units' steps other.steps

    same_targets : target.units ≡ target'.units
    same_targets =
        zip_is_one (λ unit target. IsLayout (graph_of unit last) target) (λ unit target. IsLayout (graph_of unit last) target) (λ unit target target' p q. layout_is_one (graph_of unit last) target target' p q) units target.units target'.units laid
        (subst (λ (l : List T). AreLaid graph_of last l target'.units) (sym same) other.laid)

    same_target : target ≡ target'
    same_target = ap (λ x. record target { globals = x }) (globals ∙ sym other.globals) ∙ ap (λ x. record target' { units = x }) same_targets
