use Rattle.std.proofs.Common.{◌≡◌, ℕ, ◌<◌, ◌≤◌, slice_get, Some}
use Rattle.path_laws.specs.Problem.{GrowTo, HasWhole, HaveBlocks, HaveFirsts, orders}
use Rattle.path_laws.proofs.filling.fill.Given as goal

abbrev pub invariant-loop-place : goal.invariant-loop-place
invariant-loop-place l =
    let p = l.problem in
    record {
      late : 1 ≤ l.place;
      rows : GrowTo p l.rows;
      firsts : HaveFirsts p l.rows;
      blocks : HaveBlocks p l.block l.rows;
      here : (i n : ℕ) → i < l.place → slice_get (orders p l.block) i ≡ Some n → HasWhole p l.rows n;
    }
