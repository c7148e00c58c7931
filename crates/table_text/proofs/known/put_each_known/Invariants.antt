use Rattle.std.proofs.Common.{◌≡◌, ◌++◌, flat_map, take}
use Rattle.table_text.proofs.known.put_each_known.Given as goal

abbrev pub invariant-loop-one : goal.invariant-loop-one
invariant-loop-one g l = l.text.items ≡ l.fn.text.items ++ flat_map g.T.KnownText.text_of (take l.one-index l.known)
