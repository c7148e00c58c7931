use Rattle.std.proofs.Common.{subst, sym}
use Rattle.key_table.specs.Keys.{FindsSome}
use Rattle.key_table.specs.KeyLaws.{finds_some}
use Rattle.key_table.proofs.tables.KeyTable.find_some.Goals as goal

pub returns-clause-finds : goal.returns-clause-finds
returns-clause-finds g c = subst (λ key. FindsSome c.args.self.now key c.find.result) (sym c.in_ok-key.was) (finds_some c.args.self.now c.in_ok-key.key c.find.result c.find.ensures.finds c.find.ensures.differ)
