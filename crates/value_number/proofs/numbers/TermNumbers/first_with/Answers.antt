use Rattle.std.proofs.Common.{◌≡◌, ◌<◌, Some, length, slice_get, refl, sym, subst, arith}
use Rattle.std.proofs.lemmas.Grind.{common_steps}
use Rattle.std.proofs.lemmas.Option.{slice_get_read}
use Rattle.value_number.specs.Candidates.{Cover}
use Rattle.value_number.proofs.Covers.{cover_put}
use Rattle.value_number.proofs.numbers.TermNumbers.first_with.Goals as goal

pub least-requires : goal.least-requires
least-requires c =
    let table = c.self.inside.table.items in
    let lt : c.args.number < length table = grind (arith, common_steps) in
    let here : slice_get table c.args.number ≡ Some c.index_mut.result.now = slice_get_read table (length table) c.args.number c.index_mut.result.now refl lt c.index_mut.ensures.value in
    subst (λ l. Cover l c.args.number c.index_mut.result.now) (sym c.as_slice.ensures.value) (c.self.invariant.covers c.args.number c.index_mut.result.now here)

pub invariant_of-self : goal.invariant_of-self
invariant_of-self c =
    let table = c.self.inside.table.items in
    let lt : c.args.number < length table = grind (arith, common_steps) in
    cover_put c.self.inside.numbers.items table c.self.invariant c.args.number c.least.new.candidates lt (subst (λ l. Cover l c.args.number c.least.new.candidates) c.as_slice.ensures.value c.least.ensures.covers)
