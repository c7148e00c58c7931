use Rattle.std.proofs.Common.{◌≡◌, ◌<◌, ◌≤◌, ◌+◌, false, length, slice_get, Some, refl, inl, inr, sym, ap, arith, ◌∙◌}
use Rattle.std.proofs.lemmas.Bool.{cases_eq}
use Rattle.std.specs.List.{list_any}
use Rattle.path_laws.specs.Blockwise.{passed_all}
use Rattle.path_laws.specs.Problem.{is_barred, is_seed, orders}
use Rattle.path_laws.specs.BlockwiseLaws.{passed_apart}
use Rattle.path_laws.proofs.Coming.{initial_grow, brought_complete, brought_sound, first_within}
use Rattle.path_laws.proofs.Growing.{growing_more, joined_on, joined_stays}
use Rattle.path_laws.specs.Leaving.{between_ends}
use Rattle.path_laws.proofs.filling.come.Goals as goal

pub loop-edge-init : goal.loop-edge-init
loop-edge-init c =
    let p = c.args.problem.now in
    record {
      rows = initial_grow p.against p.graph.now.nodes p.bits (is_seed p) (is_barred p) c.args.rows.now c.requires.rows.shape c.requires.rows.are;
      taken = λ e n b h. absurd (let none : e < 0 = h in omega arith);
    }

pub take_in-requires-clause-source : goal.take_in-requires-clause-source
take_in-requires-clause-source c =
    let p = c.args.problem.now in
    (between_ends p.against p.graph.now.nodes p.blocks.now.lists c.args.edges.now c.args.edges.now c.requires.edges.0 (length p.blocks.now.lists) c.requires.edges.1 refl refl c.loop-edge.edge-index c.loop-edge-test.true).0

pub take_in-requires-clause-target : goal.take_in-requires-clause-target
take_in-requires-clause-target c =
    let p = c.args.problem.now in
    (between_ends p.against p.graph.now.nodes p.blocks.now.lists c.args.edges.now c.args.edges.now c.requires.edges.0 (length p.blocks.now.lists) c.requires.edges.1 refl refl c.loop-edge.edge-index c.loop-edge-test.true).1

pub loop-edge-preserved : goal.loop-edge-preserved
loop-edge-preserved c =
    let p = c.args.problem.now in
    let nodes = p.graph.now.nodes in
    let edges = c.args.edges.now in
    let index = c.loop-edge.edge-index in
    let inv = c.loop-edge.invariant in
    let took = c.take_in.ensures in
    let made = took.3 in
    record {
      rows = growing_more p.against nodes p.bits (is_seed p) (is_barred p) c.loop-edge.rows c.take_in.new.rows took.0 _ inv.rows made
          (λ b l on. brought_sound p.against nodes p.blocks.now.lists edges c.requires.edges.0 c.requires.problem.blocks_are.are c.requires.edges.1 c.requires.problem.flow.within p.bits (is_seed p) (is_barred p) c.args.work.now (λ a k. passed_all (is_seed p a) (is_barred p a) false (orders p k)) (λ a k. list_any (is_barred p a) (orders p k)) c.requires.leads b l (λ k d x way. passed_apart (is_seed p b) (is_barred p b) (orders p d) x)
          index took.0 c.loop-edge-test.true took.1 on);
      taken = λ e n b early first l on. elim (cases_eq e c.loop-edge.edge-index) [
        | inl last ↦
            let here : Some n ≡ Some took.0 = sym first ∙ rw (sym last) at took.1 in
            let same : n ≡ took.0 = cc in
            rw same (joined_on p.bits c.loop-edge.rows c.take_in.new.rows took.0 _ made b l (rw (last, same) at on))
        | inr d ↦ joined_stays p.bits c.loop-edge.rows c.take_in.new.rows took.0 _ made b l n (inv.taken e n b (let early' : e < c.loop-edge.edge-index + 1 = early in omega (arith, d)) first l on)
      ];
    }

pub returns-clause-firsts : goal.returns-clause-firsts
returns-clause-firsts c = λ k n h first b l has.
    let p = c.args.problem.now in
    let nodes = p.graph.now.nodes in
    let edges = c.args.edges.now in
    let inv = c.loop-edge.invariant in
    let late : length c.args.edges.now ≤ c.loop-edge.edge-index = c.loop-edge-test.false in
    let n_in = first_within p.against nodes p.blocks.now.lists c.requires.problem.blocks_are.are k 0 n h first in
    brought_complete p.against nodes p.blocks.now.lists edges c.requires.edges.0 c.requires.problem.blocks_are.are c.requires.edges.1 c.requires.problem.flow.within p.bits (is_seed p) (is_barred p) c.args.work.now (λ a k. passed_all (is_seed p a) (is_barred p a) false (orders p k)) (λ a k. list_any (is_barred p a) (orders p k)) c.requires.leads b l (λ k d x way. passed_apart (is_seed p b) (is_barred p b) (orders p d) x)
    k n _ h first (inv.rows.initial n b n_in l)
    (λ e in_list target on. inv.taken e n b (omega (arith, in_list, late)) (ap (λ j. slice_get (orders p j) 0) target ∙ first) l on) has
