-- The run that a function's parameters hold, for contracts: in a `requires` (runIn), and in an `ensures` (run_at), which speaks of them as they were handed in.
use Rattle.std.specs.Prelude.{ℕ, ◌+◌, cond, List, get_or, ltb}
use Rattle.std.specs.Borrow.{Bor, MutBor}
use denote.Triple.Both.{Both}
use Rattle.runs.specs.Run.{Run, Stop, run_of, most_reads, total}

-- A row that a function is lent, and the run that five of them hold.
abbrev pub Row : Type 0
Row = Bor (List ℕ)

-- A row that a function is lent to write in.
abbrev pub MutRow : Type 0
MutRow = MutBor (List ℕ)

abbrev pub run_in : Row → Row → Row → Row → Row → ℕ → ℕ → Run
run_in starts lengths aggregates numbers counts head turn = run_of starts.now lengths.now aggregates.now numbers.now counts.now head turn

abbrev pub Lent : Type 0 → Type 0
Lent X = Both Row X

abbrev pub run_at : {S L A N C : Type 0} → Lent S → Lent L → Lent A → Lent N → Lent C → ℕ → ℕ → Run
run_at starts lengths aggregates numbers counts head turn =
    run_in starts.entry lengths.entry aggregates.entry numbers.entry counts.entry head turn

-- The reads of a row of counts as code counts them: one more than the limit where they pass it.
abbrev pub counted_reads : List ℕ → ℕ
counted_reads counts = cond (ltb most_reads (total counts)) (most_reads + 1) (total counts)

-- A stop by its index, from 0.
abbrev pub stop_at : List Stop → ℕ → Stop
stop_at stops i = get_or stops i (record { file = 0; start = 0; end = 0; count = 0 })
