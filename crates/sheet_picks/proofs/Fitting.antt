-- The run of the entries is one that 1 to 5 accept, its sheet reads back as that run whatever 6 and 7 say of it, and two answers that fit are equal.
use Prim.Native.Nat.{ℕ, zero, suc, ◌-◌, ◌^◌, ◌≤◌, ◌<◌}
use mathlib.Core.Path.{◌≡◌, refl, ap, sym, ◌∙◌}
use mathlib.Core.Bool.{Bool, true, false, ◌||◌}
use mathlib.Core.List.{List, [], ◌∷◌}
use native.Mathlib.Omega.{arith}
use native.Mathlib.Decide.{dec_lt}
use lib.ListN.{length, get_or, length-replicate, get_or-replicate}
use lib.Dec.{ltb, leb}
use borrow.Author.Tests.{eq-eqb, ne_eqb, le-ltb, lt-leb}
use Rattle.std.specs.Prelude.{Result}
use Rattle.refusals.specs.declared.Refusal.TheVariants.{TurnPrice, HeadPlace}
use Rattle.refusals.specs.declared.Verdict.{Verdict}
use Rattle.refusals.specs.Refusals.{accepted, is_refusal, first_of, refuse_if}
use Rattle.runs.specs.Run.{Stop, stops_of, last_place, highest_turn, most_reads, most_files, most_wants, total, end_at}
use Rattle.runs.specs.Alone.{zeros, lone_stops, place_checks, judge_alone}
use Rattle.runs.specs.Judging.{right_end, end_before, bad_place, bad_file, number_before, bad_want, table_checks, wants_checks, head_checks, judge_of}
use Rattle.runs.specs.Rows.{stop_at}
use Rattle.runs.proofs.Search.{first_all}
use Rattle.runs.proofs.Alone.{alone_judged, plain_length, plain_at}
use Rattle.text_lines.specs.Lines.{each_of}
use Rattle.text_lines.proofs.Filling.{length_each}
use Rattle.sheet_writer.proofs.RoundTrip.{SmallRun, small_run, small_trip}
use Rattle.tape_entries.specs.Entries.{both_rows, EntryFrom}
use Rattle.sheet_picks.specs.declared.Picks.{Picks}
use Rattle.sheet_picks.specs.Entries.{last_or, EntriesFrom, entry_lengths, entry_reads}
use Rattle.sheet_picks.specs.Sheets.{given_or, picked_run, picked_sheet}
use Rattle.sheet_picks.specs.Names.{names_text}
use Rattle.sheet_picks.specs.Writing.{picks_verdict, HandedFor, PicksHanded}
use Rattle.sheet_picks.specs.Private.{EntryRows}
use Rattle.sheet_picks.specs.Promises.{PicksAreOne, Wanted, OnlyHeadOrPrice, nothing, turn_price, head_place, PickedRunsFit, UsualHeadFits, SheetsReadBack}
use Rattle.sheet_picks.proofs.InTurn.{in_turn_rows, entries_are_one}
use Rattle.sheet_picks.proofs.Apart.{entries_are_apart, entry_near, reads_add_up, reads_some}
use Rattle.sheet_picks.proofs.Stands.{each_at}
use Rattle.sheet_picks.proofs.Sheets.{lengths_long, length_at, reads_long, reads_at, last_none, last_some}

-- Each entry by its place.
record EntryAt (starts ends : List ℕ) (first last : ℕ) : Type 0 where
  from : ℕ
  is : EntryFrom starts ends (both_rows starts ends) from first last

entry_at : (starts ends : List ℕ) (from : ℕ) (firsts lasts : List ℕ) → EntriesFrom starts ends from firsts lasts → (i : ℕ) → i < length firsts → EntryAt starts ends (get_or firsts i 0) (get_or lasts i 0)
unfolding EntriesFrom
entry_at starts ends from [] lasts e i l = absurd (omega arith)
entry_at starts ends from (f ∷ firsts) [] e i l = absurd e
entry_at starts ends from (f ∷ firsts) (m ∷ lasts) e zero l = record { from = from; is = e.0 }
entry_at starts ends from (f ∷ firsts) (m ∷ lasts) e (suc i) l = entry_at starts ends m firsts lasts e.1 i (omega arith)

-- The end of the rightmost stop, by its place.
right_last : (s : Stop) (ts : List Stop) → right_end (s ∷ ts) ≡ (stop_at (s ∷ ts) (length ts)).end
unfolding right_end
right_last s [] = refl
right_last s (t ∷ ts) = right_last t ts

right_none : right_end [] ≡ 0
unfolding right_end
right_none = refl

module _ (starts ends firsts lasts : List ℕ) (p : Wanted starts ends firsts lasts) where
  rows : EntryRows firsts lasts
  rows = in_turn_rows starts ends 0 firsts lasts p.entries.in_turn

  at : (i : ℕ) → i < length firsts → EntryAt starts ends (get_or firsts i 0) (get_or lasts i 0)
  at i l = entry_at starts ends 0 firsts lasts p.entries.in_turn i l

  long_at : (i : ℕ) → i < length firsts → get_or firsts i 0 < get_or lasts i 0
  long_at i l = (at i l).is.long

  near_at : (i : ℕ) → i < length firsts → get_or lasts i 0 ≤ last_place
  near_at i l = entry_near starts ends p.near (at i l).from (get_or firsts i 0) (get_or lasts i 0) (at i l).is

  size_at : (i : ℕ) → i < length firsts → get_or (entry_lengths firsts lasts) i 0 ≡ get_or lasts i 0 - get_or firsts i 0
  size_at i l = length_at firsts lasts i l (omega (arith, rows.even))

  end_at_here : (i : ℕ) → i < length firsts → end_at firsts (entry_lengths firsts lasts) i ≡ get_or lasts i 0
  end_at_here i l = rw (size_at i l) (omega (arith, long_at i l))

  place_good : (i : ℕ) → i < length firsts → bad_place firsts (entry_lengths firsts lasts) i ≡ false
  place_good i l =
      rw (ne_eqb (get_or (entry_lengths firsts lasts) i 0) 0 (λ z. omega (arith, size_at i l, long_at i l)), behind i l, le-ltb last_place (end_at firsts (entry_lengths firsts lasts) i) (omega (arith, end_at_here i l, near_at i l)))
    where
      behind : (i : ℕ) → i < length firsts → ltb (get_or firsts i 0) (end_before firsts (entry_lengths firsts lasts) i) ≡ false
      behind zero l = le-ltb (get_or firsts 0 0) 0 (omega arith)
      behind (suc i) l =
          le-ltb (get_or firsts (suc i) 0) (end_at firsts (entry_lengths firsts lasts) i)
          (omega (arith, end_at_here i (omega arith), entries_are_apart starts ends firsts lasts p.entries i (suc i) (omega arith) l))

  file_good_here : (i : ℕ) → i < length firsts → bad_file firsts (entry_lengths firsts lasts) (zeros (length firsts)) i ≡ false
  file_good_here i l = rw (place_good i l, get_or-replicate {A = ℕ} (length firsts) i 0 0 l)

  places_fit : first_of (place_checks firsts (entry_lengths firsts lasts)) ≡ accepted
  places_fit =
      rw (
        le-ltb most_files (length firsts) (omega (arith, p.few)),
        eq-eqb (length firsts) (length (entry_lengths firsts lasts)) (lengths_long firsts lasts rows.even),
        first_all (bad_place firsts (entry_lengths firsts lasts)) (length firsts) place_good,
      )

  last_near : last_or 0 lasts ≤ last_place
  last_near =
      elim (dec_lt 0 (length lasts)) [
        | yes h ↦ rw (← last_some lasts (λ z. omega arith)) (near_at (length lasts - 1) (omega (arith, rows.even)))
        | no h ↦ rw (← last_none lasts (omega arith)) (omega arith)
      ]

  files_fit : first_of (table_checks firsts (entry_lengths firsts lasts) (zeros (length firsts))) ≡ accepted
  files_fit =
      rw (
        le-ltb most_files (length firsts) (omega (arith, p.few)),
        eq-eqb (length firsts) (length (entry_lengths firsts lasts)) (lengths_long firsts lasts rows.even),
        eq-eqb (length firsts) (length (zeros (length firsts))) (sym (length-replicate (length firsts) 0)),
        first_all (bad_file firsts (entry_lengths firsts lasts) (zeros (length firsts))) (length firsts) file_good_here,
      )

  reads_here : (i : ℕ) → i < length firsts → 0 < get_or (entry_reads starts firsts lasts) i 0
  reads_here i l =
      let b = (at i l).is.begins in
      rw (reads_at starts firsts lasts i l (omega (arith, rows.even)))
      (reads_some (get_or firsts i 0) (get_or lasts i 0) starts b.which (omega (arith, b.listed)) (omega (arith, b.there)) (omega (arith, b.there, long_at i l)))

  want_good_here : (i : ℕ) → i < length firsts → bad_want (length firsts) (each_of suc (length firsts)) (entry_reads starts firsts lasts) i ≡ false
  want_good_here i l =
      rw (each_at suc (length firsts) i l, ne_eqb (suc i) 0 (λ z. omega arith), le-ltb (length firsts) (suc i) l, before i l, ne_eqb (get_or (entry_reads starts firsts lasts) i 0) 0 (λ z. omega (arith, reads_here i l)))
    where
      before : (i : ℕ) → i < length firsts → leb (suc i) (number_before (each_of suc (length firsts)) i) ≡ false
      before zero l = refl
      before (suc i) l = rw (each_at suc (length firsts) i (omega arith)) (lt-leb (suc (suc i)) (suc i) (omega arith))

  wants_fit_here : first_of (wants_checks (length firsts) (each_of suc (length firsts)) (entry_reads starts firsts lasts)) ≡ accepted
  wants_fit_here =
      let many = length_each suc (length firsts) in
      rw (
        le-ltb most_wants (length (each_of suc (length firsts))) (omega (arith, p.few)),
        eq-eqb (length (each_of suc (length firsts))) (length (entry_reads starts firsts lasts)) (many ∙ reads_long starts firsts lasts rows.even),
        first_all (bad_want (length firsts) (each_of suc (length firsts)) (entry_reads starts firsts lasts)) (length (each_of suc (length firsts))) (λ i l. want_good_here i (omega arith)),
        le-ltb most_reads (total (entry_reads starts firsts lasts)) (omega (arith, reads_add_up starts ends firsts lasts p, p.lines)),
      )

  -- The rightmost end is that of the last entry.
  right_is : right_end (lone_stops firsts (entry_lengths firsts lasts) (each_of suc (length firsts)) (entry_reads starts firsts lasts)) ≡ last_or 0 lasts
  right_is = go (lone_stops firsts (entry_lengths firsts lasts) (each_of suc (length firsts)) (entry_reads starts firsts lasts)) refl
    where
      even : length (entry_reads starts firsts lasts) ≡ length (each_of suc (length firsts))
      even = sym (length_each suc (length firsts) ∙ reads_long starts firsts lasts rows.even)

      many : length (lone_stops firsts (entry_lengths firsts lasts) (each_of suc (length firsts)) (entry_reads starts firsts lasts)) ≡ length firsts
      many = plain_length firsts (entry_lengths firsts lasts) (each_of suc (length firsts)) (entry_reads starts firsts lasts) even ∙ length_each suc (length firsts)

      go : (stops : List Stop) → lone_stops firsts (entry_lengths firsts lasts) (each_of suc (length firsts)) (entry_reads starts firsts lasts) ≡ stops → right_end stops ≡ last_or 0 lasts
      go [] e = right_none ∙ last_none lasts (omega (arith, rows.even, many, ap length e))
      go (t ∷ ts) e =
          let n : length firsts ≡ suc (length ts) = sym many ∙ ap length e in
          let l : length ts < length firsts = omega arith in
          let stop = plain_at firsts (entry_lengths firsts lasts) (each_of suc (length firsts)) (entry_reads starts firsts lasts) even (length ts) (omega (arith, length_each suc (length firsts))) in
          let back : suc (length ts) - 1 ≡ length ts = omega arith in
          let here : (stop_at (t ∷ ts) (length ts)).end ≡ end_at firsts (entry_lengths firsts lasts) (length ts) = ap (λ x. (stop_at x (length ts)).end) (sym e) ∙ ap (λ (x : Stop). x.end) stop ∙ rw (each_at suc (length firsts) (length ts) l, back) in
          let place : length lasts - 1 ≡ length ts = omega (arith, rows.even) in
          right_last t ts ∙ here ∙ end_at_here (length ts) l ∙ rw (← place) (last_some lasts (λ z. omega (arith, rows.even)))

  usual_fits : judge_alone firsts (entry_lengths firsts lasts) (each_of suc (length firsts)) (entry_reads starts firsts lasts) (last_or 0 lasts) 12000 ≡ accepted
  unfolding judge_alone
  usual_fits =
      rw (places_fit, wants_fit_here, right_is, le-ltb last_place (last_or 0 lasts) last_near, le-ltb (last_or 0 lasts) (last_or 0 lasts) (omega arith))

-- 6 and 7, by their tests.
head_or_price : (turn head right : ℕ) → OnlyHeadOrPrice (first_of (first_of (head_checks turn head right) ∷ [])).refusal
head_or_price turn head right = go (ltb highest_turn turn) (ltb last_place head || ltb head right)
  where
    go : (price place : Bool) → OnlyHeadOrPrice (first_of (first_of (refuse_if price TurnPrice ∷ refuse_if place HeadPlace ∷ []) ∷ [])).refusal
    go true place = turn_price
    go false true = head_place
    go false false = nothing

pub picked_runs_fit : PickedRunsFit
unfolding picked_run judge_of
picked_runs_fit starts ends firsts lasts head turn p =
    let run = picked_run starts firsts lasts head turn in
    rw (files_fit starts ends firsts lasts p, wants_fit_here starts ends firsts lasts p) (head_or_price run.turn run.head (right_end (stops_of run)))

pub usual_head_fits : UsualHeadFits
unfolding picked_run
usual_head_fits starts ends firsts lasts p =
    alone_judged firsts (entry_lengths firsts lasts) (each_of suc (length firsts)) (entry_reads starts firsts lasts) (last_or 0 lasts) 12000 ∙ usual_fits starts ends firsts lasts p

-- A number that is given is a word, and so is one that stands for none.
given_word : (none : ℕ) (row : List ℕ) → none < 2 ^ 64 → get_or row 0 0 < 2 ^ 64 → given_or none row < 2 ^ 64
given_word none [] l m = l
given_word none (given ∷ row) l m = m

-- A sheet can hold the run: but for head and price it is that of the usual ones, which is accepted.
small_picked : (starts ends firsts lasts head turn : List ℕ) → Wanted starts ends firsts lasts → get_or head 0 0 < 2 ^ 64 → get_or turn 0 0 < 2 ^ 64 → SmallRun (picked_run starts firsts lasts head turn)
unfolding picked_run
small_picked starts ends firsts lasts head turn p h t =
    let usual = small_run (picked_run starts firsts lasts [] []) (ap (λ v. is_refusal v.refusal) (usual_head_fits starts ends firsts lasts p)) (omega (arith, p.few)) in
    record {
      head = given_word (last_or 0 lasts) head (omega (arith, last_near starts ends firsts lasts p)) h;
      turn = given_word 12000 turn (omega arith) t;
      files = usual.files;
      table = usual.table;
      numbered = usual.numbered;
      wants = usual.wants;
      pairs = usual.pairs;
      starts = usual.starts;
      lengths = usual.lengths;
      aggregates = usual.aggregates;
      numbers = usual.numbers;
      counts = usual.counts;
    }

pub sheets_read_back : SheetsReadBack
unfolding picked_sheet
sheets_read_back name starts ends firsts lasts head turn named p h t =
    let r = small_trip name (picked_run starts firsts lasts head turn) (small_picked starts ends firsts lasts head turn p h t) named in
    record { read = r.accepts; ruled = r.ruled; run_is = r.same_run; name_is = r.same_name }

-- Two answers.
handed_one : {v : Verdict} {sheet named out names : List ℕ} {r s : Result Picks Verdict} {out' names' out'' names'' : List ℕ}
    → PicksHanded v sheet named out names r out' names' → PicksHanded v sheet named out names s out'' names'' → (r ≡ s) × (out' ≡ out'') × (names' ≡ names'')
handed_one p q = (p.answer ∙ sym q.answer, p.sheet_left ∙ sym q.sheet_left, p.names_left ∙ sym q.names_left)

module _ (name list starts head turn out names : List ℕ) (s : Result Picks Verdict) (out' names' : List ℕ) where
  abbrev HandedAt : List ℕ → List ℕ → Type 0
  HandedAt firsts lasts = HandedFor (picks_verdict name list (length firsts)) (picked_sheet name starts firsts lasts head turn) (names_text list starts firsts lasts) out names s out' names'

  moved : (f g : List ℕ) → f ≡ g → (l m : List ℕ) → l ≡ m → HandedAt f l → HandedAt g m
  moved f g a l m b h = rw (← a, ← b) h

pub picks_are_one : PicksAreOne
picks_are_one name list starts ends head turn out names r s out' names' out'' names'' p q =
    let e = entries_are_one starts ends p.firsts p.lasts q.firsts q.lasts p.entries q.entries in
    handed_one p.handed (moved name list starts head turn out names s out'' names'' q.firsts p.firsts (sym e.0) q.lasts p.lasts (sym e.1) q.handed)
