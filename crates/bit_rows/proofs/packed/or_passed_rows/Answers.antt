use Rattle.std.proofs.Common.{◌≡◌, ◌<◌, bit_or, get_or, length, ◌∙◌, inl, inr, arith}
use Rattle.std.proofs.lemmas.List.{length-set}
use Rattle.bit_rows.specs.Words.{minus_word}
use Rattle.bit_rows.proofs.Splices.{done_more, rest_more, rewrites_within}
use Rattle.bit_rows.proofs.packed.or_passed_rows.Goals as goal

pub loop-i-preserved : goal.loop-i-preserved
loop-i-preserved c =
    let inv = c.loop-i.invariant in
    let same : length c.loop-i.words ≡ length c.args.words.now = inv.len in
    let early : c.loop-i.i < c.args.stride = c.loop-i-test.true in
    record {
      len = length-set c.loop-i.words _ _ ∙ inv.len;
      done = done_more (λ k x. minus_word (bit_or x (get_or c.args.more.now k 0)) (get_or c.args.less.now k 0)) c.args.stride c.args.row c.args.from c.loop-i.i c.args.words.now c.loop-i.words early (omega (arith, c.requires.row)) inv.done inv.rest;
      rest = rest_more (λ k x. minus_word (bit_or x (get_or c.args.more.now k 0)) (get_or c.args.less.now k 0)) c.args.stride c.args.row c.args.from c.loop-i.i c.args.words.now c.loop-i.words early (omega (arith, c.requires.row)) inv.done inv.rest;
    }

pub returns-clause-others : goal.returns-clause-others
returns-clause-others c =
    let inv = c.loop-i.invariant in
    rewrites_within c.args.stride c.args.row c.args.words.now c.loop-i.words inv.len
    (λ j far. inv.rest j (elim far [ inl before ↦ inl before | inr after ↦ inr (omega (arith, after, c.loop-i.auto.i-end)) ]))
