use Rattle.std.proofs.Common.{◌≡◌, ◌∙◌, set, subst, [], List, Bool, true, false, get_or, length, ap, sym, true≢false}
use Rattle.std.proofs.lemmas.Option.{slice_get-get_or}
use Rattle.bit_rows.specs.Bits.{minus_bits, or_bits, row_of}
use Rattle.sink_code.specs.Coming.{ComeInto}
use Rattle.sink_code.specs.Heads.{AreHeadDone}
use Rattle.sink_code.proofs.SettledHeads.{gone_at_once, gone_shape, head_done, on_ok_any, on_within, places_earlier, places_taken, stopped_comes}
use Rattle.sink_code.proofs.heads.from_head.Goals as goal
use Rattle.sink_code.proofs.heads.from_head.Goals.{After-or_minus_from}

-- the row of the block has what nothing blocks there
gone_is : (c : After-or_minus_from) → c.or_minus_from.new.self ≡ set c.args.leaves.now c.args.block (or_bits (row_of c.args.leaves.now c.args.block) (minus_bits (row_of c.args.coming.now.into c.args.block) (row_of c.args.coming.now.blocked c.args.block)))
gone_is c = c.or_minus_from.ensures ∙ ap (λ (r : List Bool). set c.args.leaves.now c.args.block (or_bits (row_of c.args.leaves.now c.args.block) (minus_bits r c.row-blocked.result))) c.row.ensures ∙ ap (λ (r : List Bool). set c.args.leaves.now c.args.block (or_bits (row_of c.args.leaves.now c.args.block) (minus_bits (row_of c.args.coming.now.into c.args.block) r))) c.row-blocked.ensures

pub row-requires : goal.row-requires
row-requires c = let len = c.requires.coming.into_shape.len in rw len c.requires.block

pub row-blocked-requires : goal.row-blocked-requires
row-blocked-requires c = let len = c.requires.coming.shape.len in rw len c.requires.block

pub or_minus_from-requires-clause-row : goal.or_minus_from-requires-clause-row
or_minus_from-requires-clause-row c = let len = c.requires.leaves.len in rw len c.requires.block

pub or_minus_from-requires-clause-equally_long : goal.or_minus_from-requires-clause-equally_long
or_minus_from-requires-clause-equally_long c = c.requires.leaves.each c.args.block c.requires.block ∙ sym (ap length c.row.ensures ∙ c.requires.coming.into_shape.each c.args.block c.requires.block)

pub or_minus_from-requires-clause-less : goal.or_minus_from-requires-clause-less
or_minus_from-requires-clause-less c = c.requires.leaves.each c.args.block c.requires.block ∙ sym (ap length c.row-blocked.ensures ∙ c.requires.coming.shape.each c.args.block c.requires.block)

pub settle_all-requires-clause-block : goal.settle_all-requires-clause-block
settle_all-requires-clause-block c =
    let lists = c.args.over.now.blocks.now.lists in
    let at = slice_get-get_or lists c.args.block [] c.requires.block in
    record { list = get_or lists c.args.block []; is_block = at; taken = c.take_in_all.ensures (get_or lists c.args.block []) at }

pub settle_all-requires-clause-row : goal.settle_all-requires-clause-row
settle_all-requires-clause-row c = ap length c.row-blocked.ensures ∙ c.requires.coming.shape.each c.args.block c.requires.block

pub settle_all-requires-clause-leaves : goal.settle_all-requires-clause-leaves
settle_all-requires-clause-leaves c =
    let known = (goal.at.settle_all-requires-clause-leaves c).After-or_minus_from in
    gone_shape c.args.over.now c.args.coming.now c.requires.coming c.args.leaves.now c.args.leaves.now c.or_minus_from.new.self c.args.puts.now.items c.args.puts.now.items c.args.block c.requires.block c.requires.leaves (gone_is known)

pub returns-in-Some-clause-places : goal.returns-in-Some-clause-places
returns-in-Some-clause-places c =
    let over = c.args.over.now in
    let lists = over.blocks.now.lists in
    let list = get_or lists c.args.block [] in
    on_ok_any c.settle_all.result (places_taken over c.args.block 0 list c.take_in_all.new.places (c.take_in_all.ensures list (slice_get-get_or lists c.args.block [] c.requires.block)))

pub returns-in-Some-clause-done : goal.returns-in-Some-clause-done
returns-in-Some-clause-done c = λ rows begun was.
    let known = (goal.at.returns-in-Some-clause-done c).After-or_minus_from in
    let over = c.args.over.now in
    let coming = c.args.coming.now in
    c.settle_all.ensures coming.into rows begun (subst (ComeInto coming.into c.args.block) (sym c.row-blocked.ensures) (stopped_comes over coming c.requires.coming c.args.block c.requires.block))
    (subst (λ (r : List Bool). AreHeadDone over coming.into r rows begun c.args.block 0 c.or_minus_from.new.self c.args.puts.now.items) (sym c.row-blocked.ensures)
    (gone_at_once over coming c.requires.coming rows c.args.leaves.now c.or_minus_from.new.self begun c.args.puts.now.items c.args.block c.requires.block c.requires.leaves (gone_is known) was))

pub returns-in-None-clause-places : goal.returns-in-None-clause-places
returns-in-None-clause-places c = places_earlier c.args.over.now c.args.block c.args.places.now c.requires.places

pub returns-in-None-clause-done : goal.returns-in-None-clause-done
returns-in-None-clause-done c = λ rows begun was.
    let known = (goal.at.returns-in-None-clause-done c).After-or_minus_from in
    let over = c.args.over.now in
    let coming = c.args.coming.now in
    head_done over coming.into (row_of coming.blocked c.args.block) rows c.or_minus_from.new.self begun c.args.puts.now.items c.args.block 0
    (λ j low on.
    let set : get_or c.row-blocked.result j false ≡ true = ap (λ (r : List Bool). get_or r j false) c.row-blocked.ensures ∙ on in
    true≢false (sym set ∙ c.in-None.ensures.none j low (on_within c.row-blocked.result j set)))
    (gone_at_once over coming c.requires.coming rows c.args.leaves.now c.or_minus_from.new.self begun c.args.puts.now.items c.args.block c.requires.block c.requires.leaves (gone_is known) was)
