use Rattle.std.proofs.Common.{◌≡◌, ◌∙◌, ℕ, ◌+◌, Some, length, option_map, sym, ap, arith}
use Rattle.std.proofs.lemmas.List.{length_push}
use Rattle.flow_graph.specs.declared.nodes.Node.{Node}
use Rattle.flow_graph.specs.NumberTables.{number_at}
use Rattle.wanted_bits.specs.Asking.{asked_by}
use Rattle.wanted_bits.specs.Found.{narrowed_by}
use Rattle.wanted_bits.specs.Walking.{back_in}
use Rattle.wanted_bits.proofs.Listing.{listed_all, listed_more}
use Rattle.wanted_bits.proofs.narrowing.listed_nodes.Goals as goal

pub loop-n-preserved : goal.loop-n-preserved
loop-n-preserved c =
    let graph = c.args.graph.now in
    let f : ℕ → Node → Node = λ m node. narrowed_by (asked_by graph.shared c.args.around.now) (back_in c.args.backs.now m) (number_at c.args.behind.now m) node in
    let n = c.loop-n.n in
    let made = c.in_ok-node.node in
    let is : made ≡ f n c.node.result.now = c.in_ok-node.ensures ∙ ap (λ (s : ℕ). narrowed_by (asked_by s c.args.around.now) (back_in c.args.backs.now n) (number_at c.args.behind.now n) c.node.result.now) c.shared-shared.ensures.value in
    record {
      long = ap length c.in_ok-push.ensures.items ∙ length_push c.loop-n.nodes.items made ∙ ap (λ k. k + 1) c.loop-n.invariant.long;
      are = listed_more f graph.nodes n made c.loop-n.nodes.items c.push.new.self.items c.loop-n.invariant.long c.loop-n.invariant.are (ap Some is ∙ sym (ap (option_map (f n)) c.node.ensures)) c.in_ok-push.ensures.items;
    }

pub returns : goal.returns
returns c =
    let graph = c.args.graph.now in
    let f : ℕ → Node → Node = λ m node. narrowed_by (asked_by graph.shared c.args.around.now) (back_in c.args.backs.now m) (number_at c.args.behind.now m) node in
    listed_all f graph.nodes c.loop-n.n c.loop-n.nodes.items (omega (arith, c.loop-n-test.false, c.len-n-end.ensures)) c.loop-n.invariant.long c.loop-n.invariant.are
