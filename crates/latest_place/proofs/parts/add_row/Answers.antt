use Rattle.std.proofs.Common.{get_or, arith}
use Rattle.std.proofs.lemmas.Option.{slice_get-get_or}
use Rattle.latest_place.proofs.PartRows.{adds_all, adds_more, adds_none}
use Rattle.latest_place.proofs.parts.add_row.Goals as goal

pub loop-from-init : goal.loop-from-init
loop-from-init c = record { within = omega arith; so_far = adds_none c.args.numbers.now c.args.node c.args.row.now c.args.rows.now }

pub loop-from-preserved : goal.loop-from-preserved
loop-from-preserved c =
    let found = c.in-Some.ensures.found in
    let bit = c.in-Some.bit in
    let long = c.requires.row in
    let numbers = c.args.numbers.now in
    let here = slice_get-get_or numbers bit 0 (omega (arith, found.1, long)) in
    record {
      within = omega (arith, found.1);
      so_far = adds_more numbers c.args.node c.args.row.now c.args.rows.now c.loop-from.from bit (get_or numbers bit 0) c.loop-from.rows c.set.new.self c.requires.node
          (c.requires.below bit (get_or numbers bit 0) here) c.requires.differ c.loop-from.invariant.so_far found c.in-Some.ensures.first here c.set.ensures;
    }

pub returns-in-None : goal.returns-in-None
returns-in-None c = adds_all c.args.numbers.now c.args.node c.args.row.now c.args.rows.now c.loop-from.from c.loop-from.rows c.loop-from.invariant.so_far c.in-None.ensures.none

pub returns : goal.returns
returns c = adds_all c.args.numbers.now c.args.node c.args.row.now c.args.rows.now c.loop-from.from c.loop-from.rows c.loop-from.invariant.so_far
    (λ k low high. absurd (omega (arith, low, high, c.loop-from-test.false, c.len.ensures)))
