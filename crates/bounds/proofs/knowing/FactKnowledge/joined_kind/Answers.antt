use Rattle.std.proofs.Common.{subst, sym}
use Rattle.std.specs.Prelude.{IfSome}
use Rattle.cond_flow.specs.FactLists.{IsJoinedKind}
use Rattle.bounds.specs.BoundRules.{bound_rules}
use Rattle.bounds.specs.Coding.{decoded_fact}
use Rattle.bounds.proofs.KindLaws.{kinds_meet}
use Rattle.bounds.proofs.knowing.FactKnowledge.joined_kind.Goals as goal

pub returns : goal.returns
returns c =
    subst (λ met. IfSome met (IsJoinedKind bound_rules decoded_fact c.args.kind c.args.other)) (sym c.joined_kind.ensures)
    (kinds_meet c.args.kind c.args.other)
