use Rattle.std.proofs.Common.{◌∙◌, ℕ, List, Option, map, ap, subst}
use Rattle.mir_base.specs.Frames.{shared_vars}
use Rattle.wanted_bits.specs.Asks.{AreAsks}
use Rattle.program_wanted.specs.Sweeps.{entry_at}
use Rattle.program_wanted.specs.Tables.{demands_of}
use Rattle.program_wanted.specs.WantedProgramLaws.{around_asked}
use Rattle.program_wanted.proofs.raising.ask_unit.Goals as goal

pub returns : goal.returns
returns c =
    let graph = c.args.graph.now in
    let calls = c.ask_again.new.asks.items in
    record {
      are = subst (λ a. AreAsks a graph calls) (around_asked (demands_of c.args.tables.now) c.args.unit graph.shared c.around-around.result c.around-around.ensures) c.in_ok-ask_again.ensures;
      globals = c.in_ok-globals.ensures ∙ ap (λ (l : List (Option (List ℕ))). map (entry_at l) (shared_vars c.shared.result)) c.as_slice.ensures.value ∙ ap (λ n. map (entry_at calls) (shared_vars n)) c.shared.ensures.value;
      arguments = c.in_ok-arguments.ensures ∙ ap (λ (l : List (Option (List ℕ))). map (entry_at l) c.received.result.now) c.as_slice-2.ensures.value ∙ ap (map (entry_at calls)) c.received.ensures;
    }
