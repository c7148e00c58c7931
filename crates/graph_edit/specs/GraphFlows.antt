-- The edges and the blocks of a graph, and that they depend on the successors of its nodes alone. `IsFlowOf` is cited by
-- contracts, the laws by proofs.
use Rattle.std.proofs.Common.{◌≡◌, ℕ, suc, ◌<◌, ◌++◌, List, [], ◌∷◌, length, refl, sym, ap, ◌∙◌, subst, arith}
use Rattle.flow_graph.specs.declared.edges.Edge.{Edge}
use Rattle.flow_graph.specs.declared.nodes.Node.{Node}
use Rattle.flow_graph.specs.Blocks.{AreBlocksOf, BlocksShape, IsBlock, IsChain, IsGlued}
use Rattle.flow_graph.specs.Edges.{EdgesShape, edges_from, edges_of, leaving, preds_among}
use Rattle.flow_graph.specs.Graphs.{succs_at}
use Rattle.graph_edit.specs.declared.flow.GraphFlow.{GraphFlow}

-- they are those of a graph with these nodes
pub record IsFlowOf (nodes : List Node) (flow : GraphFlow) : Type 0 where
  pub edges : flow.edges ≡ edges_of nodes
  pub blocks : AreBlocksOf nodes flow.blocks

-- there are as many nodes, and each has the same successors
pub record ShareSuccs (nodes others : List Node) : Type 0 where
  pub long : length nodes ≡ length others
  pub succs : (n : ℕ) → succs_at nodes n ≡ succs_at others n

-- the relation goes both ways
pub same_back : (nodes others : List Node) → ShareSuccs nodes others → ShareSuccs others nodes
same_back nodes others same = record { long = sym same.long; succs = λ n. sym (same.succs n) }

-- so the edges are the same
pub same_edges : (k : ℕ) (nodes others : List Node) → length nodes ≡ length others
    → ((n : ℕ) → succs_at nodes n ≡ succs_at others n) → edges_from k nodes ≡ edges_from k others
same_edges k [] [] long succs = refl
same_edges k [] (o ∷ others) long succs = cc
same_edges k (n ∷ nodes) [] long succs = cc
same_edges k (n ∷ nodes) (o ∷ others) long succs =
    let rest : edges_from (suc k) nodes ≡ edges_from (suc k) others = same_edges (suc k) nodes others (omega (arith, long)) (λ m. succs (suc m)) in
    ap (λ (l : List Edge). l ++ edges_from (suc k) nodes) (ap (leaving k) (succs 0)) ∙ ap (λ (l : List Edge). leaving k (succs_at (o ∷ others) 0) ++ l) rest

module _ (nodes others : List Node) (same : ShareSuccs nodes others) where
  pub same_edges_of : edges_of nodes ≡ edges_of others
  same_edges_of =
      ap (λ (k : ℕ). edges_as k (edges_from 0 nodes)) same.long ∙ ap (edges_as (length others)) (same_edges 0 nodes others same.long same.succs)
    where
      edges_as : ℕ → List Edge → EdgesShape
      edges_as k edges = record { nodes = k; edges = edges }

  -- and the nodes that are glued
  pub same_glued : (m n : ℕ) → IsGlued nodes m n → IsGlued others m n
  same_glued m n glued = record {
    leaves = sym (same.succs m) ∙ glued.leaves;
    enters = sym (ap (preds_among n) (same_edges 0 nodes others same.long same.succs)) ∙ glued.enters;
  }

  -- graphs that share successors have the same chains of glued nodes
  pub same_chain : (list : List ℕ) → IsChain nodes list → IsChain others list
  same_chain [] chain = chain
  same_chain (n ∷ []) chain = subst (λ k. n < k) same.long chain
  same_chain (m ∷ n ∷ list) chain = (same_glued m n chain.0, same_chain (n ∷ list) chain.1)

module _ (nodes others : List Node) (same : ShareSuccs nodes others) where
  -- and the same blocks
  pub same_block : (list : List ℕ) → IsBlock nodes list → IsBlock others list
  same_block list is = record {
    chain = same_chain nodes others same list is.chain;
    first = λ n begins m glued. is.first n begins m (same_glued others nodes (same_back nodes others same) m n glued);
    last = λ m ends n glued. is.last m ends n (same_glued others nodes (same_back nodes others same) m n glued);
  }

  pub same_blocks : (blocks : BlocksShape) → AreBlocksOf nodes blocks → AreBlocksOf others blocks
  same_blocks blocks are = record {
    count = are.count ∙ same.long;
    are = record {
      blocks = λ b list is. same_block list (are.are.blocks b list is);
      ascend = are.are.ascend;
      every = λ n h. are.are.every n (subst (λ k. n < k) (sym same.long) h);
    };
  }

  -- so nodes with the same successors have the same flow
  pub same_flow : (flow : GraphFlow) → IsFlowOf nodes flow → IsFlowOf others flow
  same_flow flow is = record { edges = is.edges ∙ same_edges_of nodes others same; blocks = same_blocks flow.blocks is.blocks }
