use Rattle.std.proofs.Common.{◌≡◌, ℕ, slice_get, Some}
use Rattle.mir_base.specs.declared.instructions.Expr.{Expr}
use Rattle.flow_graph.specs.Graphs.{IsGraph}
use Rattle.path_laws.specs.Paths.{has_bit}
use Rattle.motion_rewrite.specs.Placements.{IsAvailable, places_of}
use Rattle.down_safe.specs.Busy.{IsBusy}
use Rattle.down_safe.specs.BusyPlaces.{placement_of}
use Rattle.down_safe.proofs.Admit.{busy_admissible, either_decided}
use Rattle.down_safe.proofs.placement.busy_admits.Goals as goal
use Rattle.down_safe.proofs.placement.busy_admits.Goals.{After-nodes-nodes}

-- the rows say what the busy placement says
busy_is : (g : _) (c : After-nodes-nodes g) (i : ℕ) (e : Expr) → slice_get c.args.table.now i ≡ Some e
    → IsBusy c.args.graph.now e (g.R.DownRule.is_down c.args.rule.now c.args.graph.now e) (places_of (placement_of c.args.busy.now) i)
busy_is g c i e there = record {
  inserts_at = λ n h. c.requires.busy.earliest.bits n i e h there;
  replaces_at = λ n h. c.requires.busy.uses.bits n i e h there;
}

pub returns-clause-busy : goal.returns-clause-busy
returns-clause-busy g c = busy_is g c

pub returns-clause-admissible : goal.returns-clause-admissible
returns-clause-admissible g c = λ i e there.
    let busy = c.args.busy.now in
    let is_graph : IsGraph c.args.graph.now.vars c.args.graph.now.received c.args.graph.now.nodes = rw (← c.nodes-nodes.ensures.value) c.nodes-nodes.ensures.graph in
    let Down : ℕ → Type 0 = g.R.DownRule.is_down c.args.rule.now c.args.graph.now e in
    let laws = g.met.R.DownRule.laws c.args.rule.now c.args.graph.now is_graph c.requires.split e in
    busy_admissible c.args.graph.now is_graph e Down laws (places_of (placement_of busy) i) (busy_is g c i e there)
    (λ m h. either_decided (has_bit busy.available i m) (has_bit busy.anticipatable i m) (IsAvailable c.args.graph.now e m) (Down m) (c.requires.busy.available.bits m i e h there) (c.requires.busy.anticipatable.bits m i e h there))
