use Rattle.std.proofs.Common.{◌≡◌, ◌+◌, ◌-◌, ◌<◌, ◌≤◌, length, min, arith}
use Rattle.bit_rows.proofs.Splices.{more_long, more_without}
use Rattle.bit_rows.proofs.words.words_without.Goals as goal

pub loop-at-preserved : goal.loop-at-preserved
loop-at-preserved c =
    let inv = c.loop-at.invariant in
    let early : c.loop-at.at < length c.args.words.now = c.loop-at-test.true in
    let part : c.min.result ≡ min (length c.args.words.now - c.loop-at.at) 128 = c.min.ensures in
    let within : c.loop-at.at + c.min.result ≤ length c.args.words.now = omega arith in
    record {
      len = more_long c.args.words.now c.args.less.now c.loop-at.made.items c.push_without.new.made.items c.loop-at.at c.min.result within inv.len c.in_ok-push_without.ensures;
      most = within;
      done = more_without c.args.words.now c.args.less.now c.loop-at.made.items c.push_without.new.made.items c.loop-at.at c.min.result within inv.len c.in_ok-push_without.ensures inv.done;
    }
