use Rattle.std.proofs.Common.{◌<◌, ◌≤◌, eqb, ap, arith, ◌∙◌}
use Rattle.bit_rows.proofs.NextBits.{bit_in_word, clear_until}
use Rattle.bit_rows.proofs.words.next_set.Goals as goal

pub returns-in-Some-clause-found : goal.returns-in-Some-clause-found
returns-in-Some-clause-found c =
    let late : c.loop-i.start ≤ c.in-Some.bit = c.in-Some.ensures.found.0 in
    let low : c.in-Some.bit < 64 = c.in-Some.ensures.found.1 in (
      omega arith,
      omega arith,
      bit_in_word c.args.words.now c.loop-i.i c.in-Some.bit low ∙ ap (λ x. eqb x 1) c.in-Some.ensures.found.2,
    )

pub returns-in-Some-clause-first : goal.returns-in-Some-clause-first
returns-in-Some-clause-first c =
    let low : c.in-Some.bit < 64 = c.in-Some.ensures.found.1 in
    clear_until c.args.words.now c.args.from c.loop-i.i c.loop-i.start c.in-Some.bit (omega arith) c.loop-i.invariant.passed c.in-Some.ensures.first

pub loop-i-preserved : goal.loop-i-preserved
loop-i-preserved c = record {
  start = omega arith;
  from = omega arith;
  passed = λ k late early. clear_until c.args.words.now c.args.from c.loop-i.i c.loop-i.start 64 (omega arith) c.loop-i.invariant.passed c.in_default.ensures.none k late (omega arith);
}
