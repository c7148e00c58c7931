use Rattle.std.proofs.Common.{◌≡◌, ℕ, ◌<◌, ◌≤◌, ◌&&◌, not, length}
use Rattle.path_laws.specs.Paths.{HaveShape, has_bit}
use Rattle.path_laws.specs.Problem.{is_seed}
use Rattle.path_laws.proofs.filling.seeds.Given as goal

abbrev pub invariant-loop-node : goal.invariant-loop-node
invariant-loop-node l =
    let p = l.problem in
    record {
      shape : HaveShape p.graph.now p.bits l.rows;
      done : (n b : ℕ) → n < length p.graph.now.nodes → n < l.node → b < p.bits → has_bit l.rows b n ≡ is_seed p b n;
      rest : (n b : ℕ) → n < length p.graph.now.nodes → l.node ≤ n → b < p.bits → has_bit l.rows b n ≡ (has_bit p.stop.now b n && not (has_bit p.born.now b n));
    }
