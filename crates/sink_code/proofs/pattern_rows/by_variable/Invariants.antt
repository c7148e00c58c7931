use Rattle.std.proofs.Common.{◌≡◌, ℕ, ◌<◌, ◌≤◌, [], ◌∷◌, length, slice_get, Some, false}
use Rattle.flow_graph.specs.Numbering.{is_in}
use Rattle.path_laws.specs.Paths.{AreRows, has_bit}
use Rattle.sink_code.specs.declared.patterns.Pattern.{Pattern}
use Rattle.sink_code.specs.PatternRows.{pattern_vars}
use Rattle.sink_code.proofs.pattern_rows.by_variable.Given as goal

abbrev pub invariant-loop-number : goal.invariant-loop-number
invariant-loop-number l = record {
  shape : AreRows l.vars (length l.table) l.assigning;
  done : (x i : ℕ) (p : Pattern) → x < l.vars → i < l.number → slice_get l.table i ≡ Some p → has_bit l.assigning i x ≡ is_in x (p.var ∷ []);
  later : (x i : ℕ) → x < l.vars → l.number ≤ i → has_bit l.assigning i x ≡ false;
  shape' : AreRows l.vars (length l.table) l.naming;
  done' : (x i : ℕ) (p : Pattern) → x < l.vars → i < l.number → slice_get l.table i ≡ Some p → has_bit l.naming i x ≡ is_in x (pattern_vars p);
  later' : (x i : ℕ) → x < l.vars → l.number ≤ i → has_bit l.naming i x ≡ false;
}
