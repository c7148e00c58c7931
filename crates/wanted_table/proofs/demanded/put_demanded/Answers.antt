use Rattle.std.proofs.Common.{◌≡◌, ◌∙◌, ◌<◌, ℕ, List, ap, arith, length, subst}
use Rattle.mir_base.specs.Shapes.{ProgramShape, UnitShape}
use Rattle.flow_graph.specs.ListLaws.{some_at}
use Rattle.node_list.specs.Lists.{list_at}
use Rattle.program_wanted.specs.Demands.{Demands, asked_at}
use Rattle.program_wanted.specs.Tables.{demands_of}
use Rattle.program_wanted.specs.WantedProgramLaws.{around_asked}
use Rattle.program_wanted.specs.WantedPrograms.{AreProgramDemands}
use Rattle.table_text.specs.Lines.{names_of_units}
use Rattle.wanted_bits.specs.Asking.{asked_by}
use Rattle.wanted_bits.specs.Narrowed.{IsNarrowedBy}
use Rattle.wanted_bits.specs.Wanted.{Asked}
use Rattle.wanted_table.specs.Demanding.{ShowsAsked}
use Rattle.wanted_table.proofs.demanded.put_demanded.Goals as goal

-- there are demands for each unit
in_rows : (program : ProgramShape) (demands : Demands) (number : ℕ) → AreProgramDemands program demands → number < length program.units → (number < length demands.globals) × (number < length demands.arguments) × (number < length demands.backs)
in_rows program demands number are lt =
    let units = are.are_graphs.long in
    let fit = are.least.served.fit in
    (omega (arith, lt, units, fit.globals.long), omega (arith, lt, units, fit.arguments.long), omega (arith, lt, units, fit.backs.long))

pub around-around-requires : goal.around-around-requires
around-around-requires c = (in_rows c.args.program.now (demands_of c.args.tables.now) c.args.number c.requires.demands c.requires.number).2

pub put_asked_tables-requires-clause-globals : goal.put_asked_tables-requires-clause-globals
put_asked_tables-requires-clause-globals c =
    let rows = in_rows c.args.program.now (demands_of c.args.tables.now) c.args.number c.requires.demands c.requires.number in
    omega (arith, rows.0, ap (λ (l : List (List ℕ)). length l) c.around-around.ensures.globals)

pub put_asked_tables-requires-clause-arguments : goal.put_asked_tables-requires-clause-arguments
put_asked_tables-requires-clause-arguments c =
    let rows = in_rows c.args.program.now (demands_of c.args.tables.now) c.args.number c.requires.demands c.requires.number in
    omega (arith, rows.1, ap (λ (l : List (List ℕ)). length l) c.around-around.ensures.arguments)

-- what is asked for around the unit is what the demands say
pub returns : goal.returns
returns c =
    let demands = demands_of c.args.tables.now in
    let number = c.args.number in
    let around = c.around-around.result in
    let steps = c.in_ok-steps.steps in
    let at = some_at c.args.program.now.units number c.requires.number in
    let are = c.in_ok-steps.ensures at.0 at.1 in
    let put = c.in_ok-put_asked_tables.ensures in
    let asked : asked_by steps.cleaned.shared around ≡ asked_at demands steps.cleaned.shared number = around_asked demands number steps.cleaned.shared around c.around-around.ensures in
    let same = c.items.ensures ∙ ap (λ p. p.units) c.program.view_is in (
      put.0,
      record {
        unit = at.0;
        steps = steps;
        stands = at.1;
        steps_are = record {
          is_lowered = are.is_lowered;
          is_cleaned = are.is_cleaned;
          is_passed = subst (λ (a : Asked). IsNarrowedBy a steps.cleaned steps.passed) asked are.is_passed;
          is_swept = are.is_swept;
        };
        shows = subst (λ (l : List UnitShape). ShowsAsked (names_of_units l) (asked_at demands steps.cleaned.shared number) (list_at demands.globals number) (list_at demands.arguments number) (list_at demands.backs number) steps put.0) same
            (subst (λ (a : Asked). ShowsAsked (names_of_units c.items.result.now) a (list_at demands.globals number) (list_at demands.arguments number) (list_at demands.backs number) steps put.0) asked
            (subst (λ (l : List (List ℕ)). ShowsAsked (names_of_units c.items.result.now) (asked_by steps.cleaned.shared around) (list_at l number) (list_at demands.arguments number) (list_at demands.backs number) steps put.0) c.around-around.ensures.globals
            (subst (λ (l : List (List ℕ)). ShowsAsked (names_of_units c.items.result.now) (asked_by steps.cleaned.shared around) (list_at around.globals.now number) (list_at l number) (list_at demands.backs number) steps put.0) c.around-around.ensures.arguments
            (subst (λ (row : List ℕ). ShowsAsked (names_of_units c.items.result.now) (asked_by steps.cleaned.shared around) (list_at around.globals.now number) (list_at around.arguments.now number) row steps put.0) c.around-around.ensures.back put.1))));
      },
      put.2,
    )
