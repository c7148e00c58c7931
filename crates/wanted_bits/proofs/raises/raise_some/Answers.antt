use Rattle.std.proofs.Common.{◌≡◌, ◌∙◌, ◌≤◌, ℕ, max, length, sym, ap, arith, Bool, true, false, if◌then◌else◌}
use Rattle.flow_graph.specs.Numbering.{is_in}
use Rattle.wanted_bits.specs.JoinedBits.{joined_at}
use Rattle.wanted_bits.specs.Touching.{raised_bits}
use Rattle.wanted_bits.specs.Walking.{bits_at}
use Rattle.wanted_bits.proofs.NewsJoins.{raised_is, raised_long}
use Rattle.wanted_bits.proofs.raises.raise_some.Goals as goal

-- a number that may be raised is raised at most so far
most : (b : Bool) (k m n : ℕ) → n ≡ (if b then max k m else k) → n ≤ max k m
most true k m n is = omega (arith, is)
most false k m n is = omega (arith, is)

pub returns-else-are_all-2 : goal.returns-else-are_all-2
returns-else-are_all-2 c =
    let others = c.args.others.now in
    let bits = c.args.bits.now in
    let some = c.listed.result.now in
    let more = c.listed-else-are_all-2.result.now in
    let mid = raised_bits others some bits in
    let mid_long : length others ≡ length mid = c.requires ∙ sym (raised_long others some bits) in
    let is = c.raise_listed-other.ensures.raised ∙ ap (raised_bits others more) c.raise_listed-one.ensures.raised in
    record {
      long = ap length is ∙ raised_long others more mid ∙ raised_long others some bits;
      below = λ x.
          let first = most (is_in x some) (bits_at bits x) (bits_at others x) (bits_at mid x) (raised_is others some bits x c.requires) in
          let second = most (is_in x more) (bits_at mid x) (bits_at others x) (bits_at (raised_bits others more mid) x) (raised_is others more mid x mid_long) in
          omega (arith, first, second, joined_at bits others x c.requires, ap (λ l. bits_at l x) is);
    }
