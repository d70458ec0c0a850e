-- A head anywhere on the tape, for the functions beside 01's that take one. Of the judging only 7 and 10 differ from 01's.
use Rattle.std.specs.Prelude.{ℕ, ◌≡◌, Bool, false, not, cond, ◌||◌, ◌&&◌, List, [], ◌∷◌, map, length, leb, ltb, eqb}
use Rattle.refusals.specs.declared.Refusal.TheVariants.{TurnPrice, HeadPlace, BadEntry}
use Rattle.refusals.specs.declared.Verdict.{Verdict}
use Rattle.refusals.specs.Refusals.{refuse_if, refuse_at, first_of, first_where}
use Rattle.runs.specs.Run.{Run, Stop, run_of, last_place, highest_turn}
use Rattle.runs.specs.Lists.{Detour, list_of, entry_of, bad_entry}
use Rattle.runs.specs.Judging.{table_checks, wants_checks}

abbrev pub smaller : ℕ → ℕ → ℕ
smaller x y = cond (leb x y) x y

-- A stop as a head at m meets it. Where it starts right of the head, a run to the right that begins at the head reads it: its start is pulled to
-- the head. A leg that begins at or left of the head reads the one exactly where it reads the other.
abbrev pub pulled_stop : ℕ → Stop → Stop
pulled_stop m s = record { file = s.file; start = smaller s.start m; end = s.end; count = s.count }

unfoldable pub pulled : ℕ → List Stop → List Stop
pulled m stops = map (pulled_stop m) stops

-- 6 and 7: the turn price, and a head above the limit. It may stand left of a wanted end.
abbrev pub head_any_checks : ℕ → ℕ → List Verdict
head_any_checks turn head = refuse_if (ltb highest_turn turn) TurnPrice ∷ refuse_if (ltb last_place head) HeadPlace ∷ []

-- The first refusal of 1 to 7 that applies to a run with a head anywhere.
unfoldable pub judge_any_of : Run → Verdict
judge_any_of r =
    first_of
    (first_of (table_checks r.starts r.lengths r.aggregates)
    ∷ first_of (wants_checks (length r.starts) r.numbers r.counts)
    ∷ first_of (head_any_checks r.turn r.head)
    ∷ [])

-- The same run with its head at the end of the tape, unless that stands beyond it. A law: 01's judging of that run is this one.
abbrev pub lifted_head : ℕ → ℕ
lifted_head m = cond (ltb last_place m) m last_place

abbrev pub lifted : Run → Run
lifted r = run_of r.starts r.lengths r.aggregates r.numbers r.counts (lifted_head r.head) r.turn

-- The head's own stop is the first that starts at or right of the head. Whether a stop's name lies right of it: a stop of a smaller name starts
-- at or right of the head.
unfoldable pub past_head : ℕ → List Stop → ℕ → Bool
past_head m [] f = false
past_head m (s ∷ ss) f = (ltb s.file f && leb m s.start) || past_head m ss f

-- An entry that breaks a rule of 01, or starts right of the head's own stop.
abbrev pub bad_entry_any : ℕ → List Stop → List Detour → ℕ → Bool
bad_entry_any m stops list i = bad_entry stops list i || past_head m stops (entry_of list i).from

-- The first of them, counted from 1; 0 where there is none.
unfoldable pub first_bad_entry_any : ℕ → List Stop → List Detour → ℕ
first_bad_entry_any m stops list = first_where (bad_entry_any m stops list) (length list)

abbrev pub WellFormedAny : ℕ → List Stop → List Detour → Type 0
WellFormedAny m stops list = first_bad_entry_any m stops list ≡ 0

-- 10, for a head at m.
unfoldable pub list_verdict_any : ℕ → List Stop → List ℕ → List ℕ → Verdict
list_verdict_any m stops froms tos =
    first_of
    (refuse_if (not (eqb (length froms) (length tos))) BadEntry
    ∷ refuse_at (first_bad_entry_any m stops (list_of froms tos)) BadEntry
    ∷ [])
