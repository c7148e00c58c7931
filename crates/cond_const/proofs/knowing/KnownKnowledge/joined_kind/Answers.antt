use Rattle.std.proofs.Common.{subst, sym}
use Rattle.std.specs.Prelude.{IfSome}
use Rattle.cond_flow.specs.FactLists.{IsJoinedKind}
use Rattle.cond_const.specs.Folding.{decoded_known, fold_rules}
use Rattle.cond_const.proofs.KindLaws.{kinds_meet}
use Rattle.cond_const.proofs.knowing.KnownKnowledge.joined_kind.Goals as goal

pub returns : goal.returns
returns c =
    subst (λ met. IfSome met (IsJoinedKind fold_rules decoded_known c.args.kind c.args.other)) (sym c.varying_kind.ensures)
    (kinds_meet c.args.kind c.args.other)
