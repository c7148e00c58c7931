use Rattle.std.proofs.Common.{◌∙◌, ap, slice_set}
use Rattle.std.proofs.lemmas.List.{map-set}
use Rattle.jump_clean.proofs.classes.Classes.take.Goals as goal

pub returns-clause-left : goal.returns-clause-left
returns-clause-left c = map-set (λ v. v.items) c.args.self.now.members.items c.args.class c.replace.new.dest ∙ ap (slice_set _ c.args.class) (ap (λ v. v.items) c.replace.ensures.after ∙ c.new.ensures.items)
