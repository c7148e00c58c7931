use Rattle.std.proofs.Common.{◌≡◌, ◌∙◌, ◌++◌, ℕ, List, ap, sym, subst}
use Rattle.mir_base.specs.Names.{IsName, numbered_name}
use Rattle.mir_base.specs.NameLaws.{numbered_is_name}
use Rattle.mir_base.proofs.names.Name.numbered.Goals as goal

pub of-requires : goal.of-requires
of-requires c =
    let bytes : c.extend_from_slice.new.self.items ≡ numbered_name c.args.front.now c.args.number = c.in_ok-extend_from_slice.ensures.items ∙ ap (λ (l : List ℕ). l ++ c.as_bytes.result.now) c.in_ok-bytes.ensures.items
    ∙ ap (λ (l : List ℕ). c.args.front.now ++ l) (c.as_bytes.ensures.value ∙ c.format.ensures.text) in
    subst IsName (sym bytes) (numbered_is_name c.args.front.now c.args.number c.requires c.ranges.number.fits)
