use Rattle.std.proofs.Common.{◌∙◌, length, sym, ap}
use Rattle.div_move.specs.SlotFlow.{arriving_at, down_row}
use Rattle.div_move.specs.Slots.{or_pairs}
use Rattle.div_move.proofs.FlowSteps.{pushed_ends, pushed_join}
use Rattle.div_move.proofs.Pairs.{first_long}
use Rattle.div_move.proofs.flow.SlotFlowFlow.push_self.Goals as goal

pub bring-requires-clause-there : goal.bring-requires-clause-there
bring-requires-clause-there g c = (pushed_ends c.args.self.now c.requires.valid c.args.number c.entering_edge-edge.result c.requires.in_range c.entering_edge-edge.ensures).1

pub bring-requires-clause-first : goal.bring-requires-clause-first
bring-requires-clause-first g c = first_long c.value.inside.known.first c.value.inside.known.second c.args.value.now c.args.self.now.bits c.value.invariant c.value.view_is c.requires.size

pub bring-requires-clause-second : goal.bring-requires-clause-second
bring-requires-clause-second g c = c.value.invariant ∙ first_long c.value.inside.known.first c.value.inside.known.second c.args.value.now c.args.self.now.bits c.value.invariant c.value.view_is c.requires.size

pub bring-requires-clause-room : goal.bring-requires-clause-room
bring-requires-clause-room g c = c.requires.room.first_long

pub bring-requires-clause-other_room : goal.bring-requires-clause-other_room
bring-requires-clause-other_room g c = c.requires.room.second_long

pub join-requires-clause-there : goal.join-requires-clause-there
join-requires-clause-there g c = (pushed_ends c.args.self.now c.requires.valid c.args.number c.entering_edge-edge.result c.requires.in_range c.entering_edge-edge.ensures).0

pub join-requires-clause-first : goal.join-requires-clause-first
join-requires-clause-first g c = first_long c.value.inside.known.first c.value.inside.known.second c.args.value.now c.args.self.now.bits c.value.invariant c.value.view_is c.requires.size ∙ sym (ap length c.view.ensures ∙ c.bring.ensures.long)

pub join-requires-clause-second : goal.join-requires-clause-second
join-requires-clause-second g c = c.value.invariant ∙ first_long c.value.inside.known.first c.value.inside.known.second c.args.value.now c.args.self.now.bits c.value.invariant c.value.view_is c.requires.size ∙ sym (ap length c.view.ensures ∙ c.bring.ensures.long)

pub invariant_of-value : goal.invariant_of-value
invariant_of-value g c =
    let long = first_long c.value.inside.known.first c.value.inside.known.second c.args.value.now c.args.self.now.bits c.value.invariant c.value.view_is c.requires.size in
    c.join.ensures.second_long ∙ c.value.invariant ∙ long ∙ sym (c.join.ensures.first_long ∙ long)

pub returns-clause-room : goal.returns-clause-room
returns-clause-room g c = record {
  first_long = c.bring.ensures.long;
  second_long = c.bring.ensures.other_long;
}

pub returns-clause-joined : goal.returns-clause-joined
returns-clause-joined g c =
    let f = c.args.self.now in
    let edge = c.entering_edge-edge.result in
    pushed_join f c.requires.valid c.args.number edge c.requires.in_range c.entering_edge-edge.ensures c.args.value.now c.args.value.now _ c.requires.size c.requires.size
    (c.join.ensures.joined
    ∙ ap (λ l. or_pairs l (arriving_at f edge.source edge.target c.view.result)) c.value.view_is
    ∙ ap (λ l. or_pairs c.args.value.now (arriving_at f edge.source edge.target l)) (c.view.ensures ∙ c.bring.ensures.down ∙ ap (down_row f edge.target) c.value.view_is))
