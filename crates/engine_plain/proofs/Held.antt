-- The joining in rows of eight: its verdict with 24 among the checks, and rows that hold the stops of a run that passes.
use Prim.Native.Nat.{ℕ, zero, suc, ◌-◌, ◌≤◌, ◌<◌}
use mathlib.Core.Path.{◌≡◌, refl, sym, ap, ◌∙◌, fun_ext}
use mathlib.Core.Bool.{false}
use mathlib.Core.Logic.{by_cases}
use mathlib.Core.List.{List, [], ◌∷◌, map}
use native.Mathlib.Omega.{arith}
use native.Mathlib.Decide.{dec_lt}
use lib.ListN.{length, get_or, take, length-map, get_or-map}
use Rattle.std.specs.Prelude.{Result, Ok}
use Rattle.refusals.specs.declared.Verdict.{Verdict}
use Rattle.refusals.specs.Refusals.{first_of}
use Rattle.refusals.proofs.Verdicts.{refuses}
use Rattle.runs.specs.Run.{Run, Stop, stops_of, end_at}
use Rattle.runs.specs.Rows.{stop_at}
use Rattle.runs.specs.Judging.{judge_of}
use Rattle.runs.specs.Lists.{Detour}
use Rattle.runs.proofs.Sound.{Sound}
use Rattle.runs.proofs.Judged.{accepted_run}
use Rattle.runs.proofs.Stops.{accepted_sound}
use Rattle.engine_stops.specs.Joining.{JoinRows, join_answer, join_rows_of, length_of}
use Rattle.engine_stops.proofs.Said.{Accepts}
use Rattle.engine_stops.proofs.Held.{fresh_rows, Front}
use Rattle.engine_stops.proofs.Held as held
use Rattle.engine_stops.proofs.Table.{joined_reads}
use Rattle.least.specs.Recurrence.{plan_detours, best, least_list, file_at, left_at, right_at, count_at}
use Rattle.least.proofs.Times.{starts_rise}
use Rattle.least.proofs.Walks.{sound_spaced}
use Rattle.least.proofs.LeastList.{least_list_none, least_list_some}
use Rattle.engine_plain.specs.Private.{start_at, stop_end, reads_at, name_of, Laid, StopRows, ListWritten, list_at, answer24}
use Rattle.engine_plain.proofs.Checks.{run_checks, run_few, few_stops, checks_passed, joined_so}
use Rattle.least.proofs.Best.{best_none}
use Rattle.engine_plain.proofs.Overlays.{written_same}
use Rattle.engine_plain.proofs.Listed.{list_few}

-- A column of stops, entry by entry; past the last stop every entry is 0.
column_at : (g : Stop → ℕ) → g (record { file = 0; start = 0; end = 0; count = 0 }) ≡ 0 → (ss : List Stop) (i : ℕ) → get_or (map g ss) i 0 ≡ g (stop_at ss i)
column_at g e ss i = rw e at (get_or-map g ss i (record { file = 0; start = 0; end = 0; count = 0 }))

beyond : (ss : List Stop) (i : ℕ) → length ss ≤ i → stop_at ss i ≡ record { file = 0; start = 0; end = 0; count = 0 }
beyond [] i h = refl
beyond (s ∷ ss) zero h = absurd (omega arith)
beyond (s ∷ ss) (suc i) h = beyond ss i (omega arith)

no_stops : (turn : ℕ) (ss : List Stop) → length ss ≡ 0 → least_list turn ss ≡ []
no_stops turn [] e = least_list_none turn
no_stops turn (s ∷ ss) e = absurd (omega arith)

module _ (ss : List Stop) (m : ℕ) (ok : Sound ss m) where
  end_at_here : (i : ℕ) → end_at (map (λ s. s.start) ss) (map length_of ss) i ≡ right_at ss i
  end_at_here i =
      by_cases
      (dec_lt i (length ss))
      (λ h. omega (arith, column_at (λ s. s.start) refl ss i, column_at length_of refl ss i, ok.extends i h))
      (λ h. omega (arith, column_at (λ s. s.start) refl ss i, column_at length_of refl ss i, ap (λ s. s.start) (beyond ss i (omega arith)), ap (λ s. s.end) (beyond ss i (omega arith))))

  rising : (i j : ℕ) → i ≤ j → j < length ss → left_at ss i ≤ left_at ss j
  rising i j h l = starts_rise (left_at ss) (right_at ss) (length ss - 1) (sound_spaced ss m (length ss - 1) ok (omega arith)) i j h (omega arith)

  -- The list of the rows is the least list.
  abbrev listBy : ℕ → ℕ → List Detour
  listBy turn n = plan_detours (file_at ss) (best (left_at ss) (right_at ss) (count_at ss) turn 0 n 0) n

  same_list_here : (turn n : ℕ) → list_at (map (λ s. s.file) ss) (map (λ s. s.start) ss) (map length_of ss) (map (λ s. s.count) ss) turn 0 n 0 ≡ listBy turn n
  same_list_here turn n =
      let files : name_of (map (λ s. s.file) ss) ≡ file_at ss = fun_ext (column_at (λ s. s.file) refl ss) in
      let starts : start_at (map (λ s. s.start) ss) ≡ left_at ss = fun_ext (column_at (λ s. s.start) refl ss) in
      let ends : stop_end (map (λ s. s.start) ss) (map length_of ss) ≡ right_at ss = fun_ext end_at_here in
      let counts : reads_at (map (λ s. s.count) ss) ≡ count_at ss = fun_ext (column_at (λ s. s.count) refl ss) in
      ap (λ F. plan_detours F (best (start_at (map (λ s. s.start) ss)) (stop_end (map (λ s. s.start) ss) (map length_of ss)) (reads_at (map (λ s. s.count) ss)) turn 0 n 0) n) files
      ∙ ap (λ L. plan_detours (file_at ss) (best L (stop_end (map (λ s. s.start) ss) (map length_of ss)) (reads_at (map (λ s. s.count) ss)) turn 0 n 0) n) starts
      ∙ ap (λ R. plan_detours (file_at ss) (best (left_at ss) R (reads_at (map (λ s. s.count) ss)) turn 0 n 0) n) ends
      ∙ ap (λ C. plan_detours (file_at ss) (best (left_at ss) (right_at ss) C turn 0 n 0) n) counts

  list_nothing : (turn n : ℕ) → n ≤ 0 → listBy turn n ≡ []
  unfolding plan_detours
  list_nothing turn n h = rw (best_none (left_at ss) (right_at ss) (count_at ss) turn 0 n 0 h)

  pub list_of_stops : (turn : ℕ) → list_at (map (λ s. s.file) ss) (map (λ s. s.start) ss) (map length_of ss) (map (λ s. s.count) ss) turn 0 (length (map (λ s. s.start) ss) - 1) 0 ≡ least_list turn ss
  list_of_stops turn = same_list_here turn (length (map (λ s. s.start) ss) - 1) ∙ go (length ss) refl
    where
      go : (n : ℕ) → length ss ≡ n → listBy turn (length (map (λ s. s.start) ss) - 1) ≡ least_list turn ss
      go zero e = list_nothing turn (length (map (λ s. s.start) ss) - 1) (omega (arith, length-map ss (λ s. s.start))) ∙ sym (no_stops turn ss e)
      go (suc n) e =
          let last : length (map (λ s. s.start) ss) - 1 ≡ n = omega (arith, length-map ss (λ s. s.start)) in
          ap (listBy turn) last ∙ sym (least_list_some turn n ss e)

module _ (r : Run) (accepts : refuses (judge_of r) ≡ false) where
  ok_run : Sound (stops_of r) r.head
  ok_run = accepted_sound r accepts

  stops_laid : Laid (map (λ s. s.start) (stops_of r)) (map length_of (stops_of r)) (map (λ s. s.count) (stops_of r)) r.turn
  stops_laid =
      let good = accepted_run r accepts in
      record {
        even_spans = length-map (stops_of r) length_of ∙ sym (length-map (stops_of r) (λ s. s.start));
        even_reads = length-map (stops_of r) (λ s. s.count) ∙ sym (length-map (stops_of r) (λ s. s.start));
        rising = λ i j h l. omega (arith, column_at (λ s. s.start) refl (stops_of r) i, column_at (λ s. s.start) refl (stops_of r) j, rising (stops_of r) r.head ok_run i j h (omega (arith, length-map (stops_of r) (λ s. s.start))));
        near = λ i l. omega (arith, end_at_here (stops_of r) r.head ok_run i, ok_run.reached i (omega (arith, length-map (stops_of r) (λ s. s.start))), good.start.near);
        cheap = good.start.cheap;
        few = omega (arith, joined_reads r accepts, good.wants.reads);
      }

  pub stop_rows_lem : StopRows (map (λ s. s.file) (stops_of r)) (map (λ s. s.start) (stops_of r)) (map length_of (stops_of r)) (map (λ s. s.count) (stops_of r)) r.turn
  stop_rows_lem = record { laid = stops_laid; named = length-map (stops_of r) (λ s. s.file) ∙ sym (length-map (stops_of r) (λ s. s.start)) }

-- Where the joining has passed with 24 among the checks, its rows hold the run's stops.
module _ (r : Run) (k : ℕ) (j : Result ℕ Verdict) (after : JoinRows) (j-is : j ≡ join_answer r (fresh_rows 8)) (after_is : after ≡ join_rows_of r (fresh_rows 8))
    (said : Ok k ≡ answer24 j (length r.numbers)) where
  pub checks_accept : Accepts (first_of (run_checks r)) (length (stops_of r)) k
  checks_accept = checks_passed r k (rw j-is at said)

  pub join_front : Front k after (stops_of r)
  join_front = held.join_front r 8 (few_stops r (run_few r checks_accept.passes)) k (joined_so r k (rw j-is at said)) after after_is

-- What the writing asks of rows whose first entries are the stops', and what it writes.
module _ (r : Run) (accepts : refuses (judge_of r) ≡ false) (k : ℕ) (rows : JoinRows) (f : Front k rows (stops_of r)) where
  pub front_rows : StopRows (take k rows.firsts) (take k rows.lefts) (take k rows.spans) (take k rows.reads) r.turn
  front_rows = rw (f.firsts.1, f.lefts.1, f.spans.1, f.reads.1) (stop_rows_lem r accepts)

  pub front_long : length (take k rows.lefts) ≡ length (stops_of r)
  front_long = ap length f.lefts.1 ∙ length-map (stops_of r) (λ s. s.start)

  front_list : list_at (take k rows.firsts) (take k rows.lefts) (take k rows.spans) (take k rows.reads) r.turn 0 (length (take k rows.lefts) - 1) 0 ≡ least_list r.turn (stops_of r)
  front_list = rw (f.firsts.1, f.lefts.1, f.spans.1, f.reads.1) (list_of_stops (stops_of r) r.head (accepted_sound r accepts) r.turn)

  pub front_written : (n : ℕ) (froms tos froms' tos' : List ℕ)
      → ListWritten (list_at (take k rows.firsts) (take k rows.lefts) (take k rows.spans) (take k rows.reads) r.turn 0 (length (take k rows.lefts) - 1) 0) 0 n froms tos froms' tos'
      → ListWritten (least_list r.turn (stops_of r)) 0 n froms tos froms' tos'
  front_written n froms tos froms' tos' w = written_same _ _ 0 n froms tos froms' tos' front_list w

  pub list_short : length (least_list r.turn (stops_of r)) ≤ length (stops_of r) - 1
  list_short =
      omega (arith, ap length front_list, front_long, list_few (take k rows.firsts) (take k rows.lefts) (take k rows.spans) (take k rows.reads) r.turn 0 (length (take k rows.lefts) - 1) 0)
