use Rattle.std.proofs.Common.{◌≡◌, ◌∙◌, true, false, sym, ap}
use Rattle.bit_rows.specs.Bits.{minus_bits, not_bits, or_bits, row_of}
use Rattle.div_move.specs.SlotFlow.{down_bits, halts_at, node_halts}
use Rattle.div_move.specs.Slots.{pairs}
use Rattle.div_move.proofs.Pairs.{down_halted, down_joined}
use Rattle.div_move.proofs.flow.SlotFlow.bring.Goals as goal

pub returns-then-not-halts-clause-down : goal.returns-then-not-halts-clause-down
returns-then-not-halts-clause-down g c =
    let f = c.args.self.now in
    let n = c.args.node in
    let first = c.args.known.now.first in
    let second = c.args.known.now.second in
    let uses = row_of f.uses.now n in
    let kills = row_of f.kills.now n in
    let uses_long = c.requires.valid.use_rows.each n c.requires.there in
    let kills_long = c.requires.valid.kill_rows.each n c.requires.there in
    let halt : false ≡ halts_at f.graph.now.nodes n = sym c.if-not-halts.true ∙ c.halts.ensures ∙ sym (ap node_halts c.node.ensures) in
    c.or_minus_from-changed.ensures.or_minus
    ∙ ap (λ l. or_bits l (minus_bits c.view-then-not-halts.result c.view-then-not-halts-2.result)) (c.copy_from.ensures.copy ∙ c.row.ensures)
    ∙ ap (λ l. or_bits uses (minus_bits l c.view-then-not-halts-2.result)) c.view-then-not-halts.ensures
    ∙ ap (λ l. or_bits uses (minus_bits first l)) (c.view-then-not-halts-2.ensures ∙ c.or_from-changed.ensures.or)
    ∙ ap (λ l. or_bits uses (minus_bits first (or_bits l c.row-then-not-halts.result))) (c.flip.ensures.flipped ∙ ap not_bits (c.copy_from-then-not-halts.ensures.copy ∙ c.view.ensures))
    ∙ ap (λ l. or_bits uses (minus_bits first (or_bits (not_bits second) l))) c.row-then-not-halts.ensures
    ∙ down_joined uses kills first second (kills_long ∙ sym uses_long) (c.requires.first ∙ sym uses_long) (c.requires.second ∙ sym uses_long)
    ∙ ap (λ h. down_bits h uses kills (pairs first second)) halt

pub returns-else-not-halts-clause-down : goal.returns-else-not-halts-clause-down
returns-else-not-halts-clause-down g c =
    let f = c.args.self.now in
    let n = c.args.node in
    let first = c.args.known.now.first in
    let second = c.args.known.now.second in
    let uses = row_of f.uses.now n in
    let kills = row_of f.kills.now n in
    let uses_long = c.requires.valid.use_rows.each n c.requires.there in
    let kills_long = c.requires.valid.kill_rows.each n c.requires.there in
    let halt : true ≡ halts_at f.graph.now.nodes n = sym c.if-not-halts.false ∙ c.halts.ensures ∙ sym (ap node_halts c.node.ensures) in
    c.copy_from.ensures.copy ∙ c.row.ensures
    ∙ down_halted uses kills first second (kills_long ∙ sym uses_long) (c.requires.first ∙ sym uses_long) (c.requires.second ∙ sym uses_long)
    ∙ ap (λ h. down_bits h uses kills (pairs first second)) halt
