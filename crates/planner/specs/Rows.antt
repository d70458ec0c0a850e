-- The rows that the planner is lent.
use Rattle.std.specs.Prelude.{ℕ, List}
use denote.Triple.Both.{Both}
use Rattle.runs.specs.Rows.{MutRow}
use Rattle.walk.specs.Rows.{ReadRows, read_rows}

-- For starts, ends, times and legs, and the working room.
pub record Rows : Type 0 where
  pub froms : List ℕ
  pub tos : List ℕ
  pub times : List ℕ
  pub legs : List ℕ
  pub room : List ℕ

abbrev pub rows_of : List ℕ → List ℕ → List ℕ → List ℕ → List ℕ → Rows
rows_of froms tos times legs room = record { froms = froms; tos = tos; times = times; legs = legs; room = room }

-- The rows that five parameters of a function hold, when it is called and when it returns.
abbrev pub rows_before : Both MutRow MutRow → Both MutRow MutRow → Both MutRow MutRow → Both MutRow MutRow → Both MutRow MutRow → Rows
rows_before froms tos times legs room = rows_of froms.entry.now tos.entry.now times.entry.now legs.entry.now room.entry.now

abbrev pub rows_after : Both MutRow MutRow → Both MutRow MutRow → Both MutRow MutRow → Both MutRow MutRow → Both MutRow MutRow → Rows
rows_after froms tos times legs room = rows_of froms.exit.now tos.exit.now times.exit.now legs.exit.now room.exit.now

-- The two of them that the pricer is lent.
abbrev pub reads_in : Rows → ReadRows
reads_in rows = read_rows rows.times rows.legs
