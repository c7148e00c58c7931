-- The demands that tables have. Cited by contracts.
use Rattle.program_wanted.specs.declared.demands.Tables.{Tables}
use Rattle.program_wanted.specs.Demands.{Demands}

-- the lists of the tables
abbrev pub demands_of : Tables → Demands
demands_of
    tables = record {
      globals = tables.globals.items;
      arguments = tables.arguments.items;
      backs = tables.backs.items;
    }
