-- The wants and their stops as the code takes them, for the contracts of private functions. No public contract cites this file.
use Rattle.std.specs.Prelude.{ℕ, suc, ◌-◌, ◌≤◌, ◌<◌, zero, ◌≡◌, Bool, false, ◌||◌, ◌&&◌, List, [], ◌∷◌, map, length, get_or, ltb, eqb}
use Rattle.refusals.specs.Refusals.{is_refusal}
use Rattle.runs.specs.Run.{run_of, end_at, first_member, last_member, first_file, want_stops, joined, Run, Stop, stops_of}
use Rattle.runs.specs.Alone.{alone_of}
use Rattle.runs.specs.Rows.{stop_at}
use Rattle.runs.specs.Judging.{bad_number, judge_of}
use Rattle.engine_stops.specs.declared.Place.{Place}
use Rattle.runs.specs.Lists.{Detour}
use Rattle.engine_stops.specs.Joining.{length_of}

-- Wants that name files of a table in rising order, no aggregate number of it bad.
pub record WantsFit (aggregates numbers : List ℕ) : Type 0 where
  pub once : (i : ℕ) → i < length aggregates → bad_number aggregates i ≡ false
  pub named : (i : ℕ) → i < length numbers → 0 < get_or numbers i 0
  pub in_table : (i : ℕ) → i < length numbers → get_or numbers i 0 ≤ length aggregates
  pub rises : (i : ℕ) → suc i < length numbers → get_or numbers i 0 < get_or numbers (suc i) 0
  pub few : length numbers ≤ 64

-- Rows that the judging accepts with some head and turn price, and the number of their stops.
pub record JoinFits (starts lengths aggregates numbers counts : List ℕ) (stops : ℕ) : Type 0 where
  pub head : ℕ
  pub turn : ℕ
  pub accepts : is_refusal (judge_of (run_of starts lengths aggregates numbers counts head turn)).refusal ≡ false
  pub all : stops ≡ length (joined (want_stops starts lengths aggregates numbers counts))

-- Where the stop of a wanted file lies.
abbrev pub place_of : List ℕ → List ℕ → List ℕ → ℕ → Place
place_of starts lengths aggregates f =
    record {
      first = first_file aggregates f;
      start = get_or starts (first_member aggregates (f - 1)) 0;
      length = end_at starts lengths (last_member aggregates (f - 1)) - get_or starts (first_member aggregates (f - 1)) 0;
    }

-- Whether there is a next want, of the same stop.
abbrev pub joins_next : List ℕ → List ℕ → ℕ → Bool
joins_next aggregates numbers i =
    ltb (suc i) (length numbers) && eqb (first_file aggregates (get_or numbers i 0)) (first_file aggregates (get_or numbers (suc i) 0))

abbrev pub short_stop_rows : ℕ → ℕ → ℕ → ℕ → ℕ → Bool
short_stop_rows stops firsts lefts spans reads = ltb firsts stops || ltb lefts stops || ltb spans stops || ltb reads stops

-- The joined table: the run whose files are the stops of a run, numbered from 1 and all wanted. Engines plan it; its lists name stops by these
-- numbers, and the run's own lists by first files.

-- So many numbers from one on.
unfoldable pub count_up : ℕ → ℕ → List ℕ
count_up n zero = []
count_up n (suc k) = n ∷ count_up (suc n) k

abbrev pub table_of : List Stop → ℕ → ℕ → Run
table_of stops head turn =
    alone_of (map (λ s. s.start) stops) (map length_of stops) (count_up 1 (length stops)) (map (λ s. s.count) stops) head turn

abbrev pub joined_table : Run → Run
joined_table r = table_of (stops_of r) r.head r.turn

-- Its stops: those of the run, under other names.
unfoldable pub renumbered : ℕ → List Stop → List Stop
renumbered n [] = []
renumbered n (s ∷ ss) = record { file = n; start = s.start; end = s.end; count = s.count } ∷ renumbered (suc n) ss

-- A list of its lists by first files.
abbrev pub name_of : List Stop → ℕ → ℕ
name_of stops a = (stop_at stops (a - 1)).file

abbrev pub entry_named : List Stop → Detour → Detour
entry_named stops d = record { from = name_of stops d.from; to = name_of stops d.to }

unfoldable pub list_named : List Stop → List Detour → List Detour
list_named stops list = map (entry_named stops) list
