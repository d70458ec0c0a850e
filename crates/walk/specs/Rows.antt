-- The rows that the pricer is lent, for times and for legs.
use Rattle.std.specs.Prelude.{ℕ, List}
use denote.Triple.Both.{Both}
use Rattle.runs.specs.Rows.{MutRow}

pub record ReadRows : Type 0 where
  pub times : List ℕ
  pub legs : List ℕ

abbrev pub read_rows : List ℕ → List ℕ → ReadRows
read_rows times legs = record { times = times; legs = legs }

-- As two parameters of a function hold them when it is called and when it returns.
abbrev pub read_rows_before : Both MutRow MutRow → Both MutRow MutRow → ReadRows
read_rows_before times legs = read_rows times.entry.now legs.entry.now

abbrev pub read_rows_after : Both MutRow MutRow → Both MutRow MutRow → ReadRows
read_rows_after times legs = read_rows times.exit.now legs.exit.now
