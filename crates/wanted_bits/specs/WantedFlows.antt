-- The flow of wanted bits as `WantedFlow` has it. Cited by contracts and by the ghost members of `WantedFlow`.
use Rattle.std.proofs.Common.{◌≡◌, ℕ, ◌<◌, ◌^◌, ◌||◌, true, false, List, length, Option, sym, ap, ◌∙◌, arith}
use Rattle.fix_solve.specs.Net.{AreOfSize, HoldsLeast, Net, NetLaws}
use Rattle.fix_solve.specs.NewsFlows.{NewsLaws}
use Rattle.node_list.specs.Lists.{list_at}
use Rattle.flow_graph.specs.Blocks.{AreBlocksOf}
use Rattle.flow_graph.specs.FlowEdges.{edge_at}
use Rattle.flow_graph.specs.Graphs.{CanMake, GraphShape}
use Rattle.flow_graph.specs.Numbering.{is_in}
use Rattle.path_laws.specs.Between.{AreBlockEdges}
use Rattle.wanted_bits.specs.declared.flow.WantedFlow.{WantedFlow}
use Rattle.wanted_bits.specs.declared.solving.Crossed.{Crossed}
use Rattle.wanted_bits.specs.declared.picking.Shift.{Shift}
use Rattle.wanted_bits.specs.Asking.{asked_by}
use Rattle.wanted_bits.specs.Wanted.{Asked}
use Rattle.wanted_bits.specs.BitsOrder.{BelowLists, lists_rank}
use Rattle.wanted_bits.specs.NewsShapes.{FitsAny, IsAllNew, IsNoneNew, VariablesShape, is_meant}
use Rattle.wanted_bits.specs.Touching.{AreTouched, IsCaught}
use Rattle.wanted_bits.specs.TouchLaws.{list_apart}
use Rattle.wanted_bits.specs.Walking.{back_in, before_list}
use Rattle.wanted_bits.specs.WantedNet.{capped, wanted_net}
use Rattle.wanted_bits.specs.WantedNetLaws.{below_fewer, capped_at, wanted_laws}

-- the blocks of a graph, and the edges between them, the other way round
pub record AreCrossed (graph : GraphShape) (crossed : Crossed) : Type 0 where
  pub blocks : AreBlocksOf graph.nodes crossed.blocks
  pub between : AreBlockEdges true graph.nodes crossed.blocks.lists crossed.between

-- the parts of the flow fit together
pub record IsWantedFlow {L : Type 0} (f : WantedFlow L) : Type 0 where
  pub can : CanMake f.graph.now.vars f.graph.now.received f.graph.now.nodes
  pub blocks : AreBlocksOf f.graph.now.nodes f.blocks.now
  pub between : AreBlockEdges true f.graph.now.nodes f.blocks.now.lists f.between.now
  pub few : length f.graph.now.vars < 2 ^ 56
  pub backs : length f.backs.now ≡ length f.graph.now.nodes
  pub touched : AreTouched f.graph.now (back_in f.backs.now) f.blocks.now.lists f.touched.now

-- the flow as the solver sees it
abbrev pub wanted_net_of : {L : Type 0} → WantedFlow L → Net (List ℕ)
wanted_net_of f = wanted_net f.graph.now (asked_by f.graph.now.shared f.around.now)
    (back_in f.backs.now) f.blocks.now.lists
    f.between.now.edges.items f.between.now.firsts.items

-- it keeps the laws of flows
pub flow_laws : {L : Type 0} (f : WantedFlow L) → IsWantedFlow f
    → NetLaws BelowLists length lists_rank (wanted_net_of f)
flow_laws f is = wanted_laws f.graph.now (asked_by f.graph.now.shared f.around.now) (back_in f.backs.now) f.blocks.now.lists
    f.between.now.edges.items f.between.now.firsts.items is.between

-- ---- what a push has to look at

-- the nodes of the block that an edge leaves
abbrev pub list_left : {L : Type 0} → WantedFlow L → ℕ → List ℕ
list_left f e = list_at f.blocks.now.lists (edge_at f.between.now.edges.items e).source

-- the numbers before it, from those behind it
abbrev pub passed_back : {L : Type 0} → WantedFlow L → ℕ → List ℕ → List ℕ
passed_back f e behind =
    before_list f.graph.now (asked_by f.graph.now.shared f.around.now) (back_in f.backs.now)
    (list_left f e) behind

-- along an edge, what is no news is there already, but for what the block touches
abbrev pub caught_in : {L : Type 0} → WantedFlow L → ℕ → VariablesShape → List ℕ → List ℕ → Type 0
caught_in f e news behind target =
    IsCaught f.graph.now (back_in f.backs.now) (list_left f e) news behind target

-- which keeps the laws of news
pub caught_laws : {L : Type 0} (f : WantedFlow L) → IsWantedFlow f
    → NewsLaws BelowLists length FitsAny IsAllNew IsNoneNew (wanted_net_of f) (caught_in f)
caught_laws f is = record {
  all = λ e news x w h all. record {
    wanted = λ k out apart. let bad : true ≡ false = sym (whole_among news k all) ∙ out in absurd (cc);
  };
  none = λ e news x w h fit sized long none passed. record {
    wanted = λ k out apart.
        let asked = asked_by f.graph.now.shared f.around.now in
        let back = back_in f.backs.now in
        let stays = list_apart f.graph.now asked back (list_left f e) x k apart in
        let below = below_fewer (capped (passed_back f e x)) w passed k in
        omega (arith, below, stays, capped_at (passed_back f e x) k);
  };
  grows = λ e news x w w' h caught up. record {
    wanted = λ k out apart. omega (arith, caught.wanted k out apart, below_fewer w w' up k);
  };
}
  where
    whole_among : (news : VariablesShape) (k : ℕ) → news.whole ≡ true → is_meant news k ≡ true
    whole_among news k on = ap (λ b. b || is_in k news.listed) on

-- ---- its least solution

-- the flow over the blocks of a graph, where each right side shifts back what this says of its node
abbrev pub net_over : GraphShape → Asked → Crossed → (ℕ → Option Shift) → Net (List ℕ)
net_over graph asked crossed back = wanted_net graph asked back crossed.blocks.lists
    crossed.between.edges.items crossed.between.firsts.items

-- a list for each block, the least solution
pub record AreLeastBehind (graph : GraphShape) (asked : Asked) (crossed : Crossed)
    (back : ℕ → Option Shift)
    (values : List (List ℕ)) : Type 0 where
  pub long : length values ≡ length crossed.blocks.lists
  pub sizes : AreOfSize length (net_over graph asked crossed back) values
  pub least : HoldsLeast BelowLists (net_over graph asked crossed back) values
