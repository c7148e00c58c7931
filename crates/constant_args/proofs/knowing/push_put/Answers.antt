use Rattle.std.proofs.Common.{rules, ◌≡◌, ◌++◌, ◌∷◌, [], ◌∙◌, refl, ap, sym, append-nil, w64, to_z, of_z}
use Rattle.mir_base.specs.declared.instructions.Operand.TheVariants.{Const}
use Rattle.mir_base.specs.declared.instructions.Rhs.TheVariants.{Plain}
use Rattle.program_pass.specs.declared.standing.Put.{Put}
use Rattle.program_pass.specs.PutLaws.{insertion, pushed}
use Rattle.program_pass.specs.Puts.{insertions}
use Rattle.constant_args.specs.ConstantArguments.{constant_put}
use Rattle.constant_args.proofs.knowing.push_put.Goals as goal

pub returns-in_ok-push-in-Some : goal.returns-in_ok-push-in-Some
returns-in_ok-push-in-Some c =
    let fits : to_z w64 (of_z w64 c.in-Some.value) ≡ c.in-Some.value = search rules in
    let puts = c.args.puts.now.items in
    let put = c.plain_put.result in
    sym (append-nil (insertions c.push.new.self.items)) ∙ pushed puts c.push.new.self.items put (insertion put ∷ []) [] (insertions puts ++ insertion put ∷ []) c.in_ok-push-in-Some.ensures.items refl refl
    ∙ ap (λ (p : Put). insertions puts ++ insertion p ∷ []) c.plain_put.ensures
    ∙ ap (λ v. insertions puts ++ record { var = c.args.var; rhs = Plain (Const v) } ∷ []) fits
    ∙ ap (λ k. insertions puts ++ constant_put c.args.var k) (sym c.in-Some.is)
