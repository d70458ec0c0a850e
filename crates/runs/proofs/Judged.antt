-- What each part of the judging decides, and what an accepted run is.
use Prim.Native.Nat.{ℕ, zero, suc, ◌-◌, ◌≤◌, ◌<◌}
use mathlib.Core.Path.{◌≡◌, refl, sym, ap, ◌∙◌}
use mathlib.Core.Bool.{Bool, false, not, ◌||◌}
use mathlib.Core.Logic.{⊎_elim}
use mathlib.Core.List.{List, [], ◌∷◌}
use native.Mathlib.Omega.{arith}
use native.Mathlib.Decide.{dec_lt}
use lib.ListN.{length, get_or}
use lib.Dec.{ltb, eqb}
use borrow.Author.Tests.{eqb-true, ltb-false, not-false, eq-eqb, le-ltb}
use Rattle.refusals.specs.declared.Refusal.TheVariants.{FileRows, BadFile, WantRows, BadWant, TooManyReads, TurnPrice, HeadPlace}
use Rattle.refusals.specs.declared.Refusal.{Refusal}
use Rattle.refusals.specs.declared.Verdict.{Verdict}
use Rattle.refusals.specs.Refusals.{refuse_if, refuse_at, first_of, first_where}
use Rattle.runs.specs.Run.{Run, stops_of, total, most_files, most_wants, most_reads, last_place, highest_turn}
use Rattle.runs.specs.Judging.{right_end}
use Rattle.runs.specs.Judging.{bad_place, bad_number, bad_file, bad_want, table_checks, wants_checks, head_checks, judge_of}
use Rattle.runs.specs.Alone.{place_checks}
use Rattle.runs.specs.Private.{SoundTable, InTable, earlier_of}
use Rattle.runs.proofs.Search.{first_zero, first_all, first_either, or_false_both, below_or_here}
use Rattle.std.specs.Prelude.{Result, Ok, Err}
use Rattle.refusals.specs.Refusals.{checked}
use Rattle.refusals.proofs.Checked.{first_stops, first_passes_on, last_decides}
use Rattle.refusals.proofs.Verdicts.{refuses, AllAccept, all_accept, accepts_if, accepts_at}
use Rattle.runs.proofs.Accepted.{GoodWant, good_want, want_good}

-- Two rows of one length, at most so many.
pub rows_fit : (most n m : ℕ) → (ltb most n || not (eqb n m)) ≡ false → (n ≤ most) × (n ≡ m)
rows_fit most n m e =
    let both = or_false_both _ _ e in
    (ltb-false most n both.0, eqb-true n m (not-false (eqb n m) both.1))

-- The table's three rows that passed 1.
pub record RowsFit (files lengths aggregates : ℕ) : Type 0 where
  pub few : files ≤ most_files
  pub equal : files ≡ lengths
  pub numbered : files ≡ aggregates

pub table_rows_fit : (files lengths aggregates : ℕ)
    → refuses (refuse_if (ltb most_files files || not (eqb files lengths) || not (eqb files aggregates)) FileRows) ≡ false → RowsFit files lengths aggregates
table_rows_fit files lengths aggregates e =
    let three = or_false_both (ltb most_files files || not (eqb files lengths)) (not (eqb files aggregates)) (accepts_if _ FileRows refl e) in
    let rows = rows_fit most_files files lengths three.0 in
    record { few = rows.0; equal = rows.1; numbered = eqb-true files aggregates (not-false _ three.1) }

-- The first bad file is the earlier of the first by its place and the first by its number, where there are as many numbers as files.
pub bad_file_first : (starts lengths aggregates : List ℕ) (p q r : ℕ) → length starts ≡ length aggregates
    → p ≡ first_where (bad_place starts lengths) (length starts) → q ≡ first_where (bad_number aggregates) (length aggregates) → r ≡ earlier_of p q
    → r ≡ first_where (bad_file starts lengths aggregates) (length starts)
bad_file_first starts lengths aggregates p q r rows p-is q-is r-is =
    r-is ∙ ap (λ x. earlier_of x q) p-is ∙ ap (earlier_of (first_where (bad_place starts lengths) (length starts))) (rw (← rows) at q-is)
    ∙ sym (first_either (bad_place starts lengths) (bad_number aggregates) (length starts))

pub accepted_places : (starts lengths : List ℕ) → refuses (first_of (place_checks starts lengths)) ≡ false → SoundTable starts lengths
accepted_places starts lengths e =
    let all = all_accept (place_checks starts lengths) e in
    let rows = rows_fit most_files (length starts) (length lengths) (accepts_if _ FileRows refl all.0) in
    record { equal = rows.1; sound = accepts_at _ BadFile refl all.1.0 }

-- The table of an accepted run: few files, sound places, and an aggregate number for each that is not bad.
pub record GoodTable (starts lengths aggregates : List ℕ) : Type 0 where
  pub few : length starts ≤ most_files
  pub table : SoundTable starts lengths
  pub rows : length starts ≡ length aggregates
  pub numbers : (i : ℕ) → i < length starts → bad_number aggregates i ≡ false

pub accepted_table : (starts lengths aggregates : List ℕ) → refuses (first_of (table_checks starts lengths aggregates)) ≡ false → GoodTable starts lengths aggregates
accepted_table starts lengths aggregates e =
    let all = all_accept (table_checks starts lengths aggregates) e in
    let rows = table_rows_fit (length starts) (length lengths) (length aggregates) all.0 in
    let none = first_zero (bad_file starts lengths aggregates) (length starts) (accepts_at _ BadFile refl all.1.0) in
    record {
      few = rows.few;
      table = record { equal = rows.equal; sound = first_all (bad_place starts lengths) (length starts) (λ i l. (or_false_both (bad_place starts lengths i) (bad_number aggregates i) (none i l)).0) };
      rows = rows.numbered;
      numbers = λ i l. (or_false_both (bad_place starts lengths i) (bad_number aggregates i) (none i l)).1;
    }

pub record GoodWants (files : ℕ) (numbers counts : List ℕ) : Type 0 where
  pub few : length numbers ≤ most_wants
  pub equal : length numbers ≡ length counts
  pub each : (i : ℕ) → i < length numbers → GoodWant files numbers counts i
  pub reads : total counts ≤ most_reads

pub accepted_wants : (files : ℕ) (numbers counts : List ℕ) → refuses (first_of (wants_checks files numbers counts)) ≡ false → GoodWants files numbers counts
accepted_wants files numbers counts e =
    let all = all_accept (wants_checks files numbers counts) e in
    let rows = rows_fit most_wants (length numbers) (length counts) (accepts_if _ WantRows refl all.0) in
    let sound = accepts_at _ BadWant refl all.1.0 in
    record {
      few = rows.0;
      equal = rows.1;
      each = λ i l. good_want files numbers counts i (first_zero (bad_want files numbers counts) (length numbers) sound i l);
      reads = ltb-false most_reads (total counts) (accepts_if _ TooManyReads refl all.1.1.0);
    }

pub record GoodHead (turn head rightmost : ℕ) : Type 0 where
  pub cheap : turn ≤ highest_turn
  pub near : head ≤ last_place
  pub past : rightmost ≤ head

pub accepted_head : (turn head rightmost : ℕ) → refuses (first_of (head_checks turn head rightmost)) ≡ false → GoodHead turn head rightmost
accepted_head turn head rightmost e =
    let all = all_accept (head_checks turn head rightmost) e in
    let places = or_false_both _ _ (accepts_if _ HeadPlace refl all.1.0) in
    record {
      cheap = ltb-false highest_turn turn (accepts_if _ TurnPrice refl all.0);
      near = ltb-false last_place head places.0;
      past = ltb-false head rightmost places.1;
    }

-- An accepted run: a good table, good wants, and a head that may start there at that price.
pub record GoodRun (r : Run) : Type 0 where
  pub files : GoodTable r.starts r.lengths r.aggregates
  pub wants : GoodWants (length r.starts) r.numbers r.counts
  pub start : GoodHead r.turn r.head (right_end (stops_of r))

pub accepted_run : (r : Run) → refuses (judge_of r) ≡ false → GoodRun r
unfolding judge_of
accepted_run r e =
    let all = all_accept (first_of (table_checks r.starts r.lengths r.aggregates) ∷ first_of (wants_checks (length r.starts) r.numbers r.counts) ∷ first_of (head_checks r.turn r.head (right_end (stops_of r))) ∷ []) e in
    record {
      files = accepted_table r.starts r.lengths r.aggregates all.0;
      wants = accepted_wants (length r.starts) r.numbers r.counts all.1.0;
      start = accepted_head r.turn r.head (right_end (stops_of r)) all.1.1.0;
    }

-- Three checks, each handed on by `?`: the table's, the wants' and the head's.
module _ (table wants head : Verdict) where
  pub by_table : (e : Verdict) → Err e ≡ checked table → Err e ≡ checked (first_of (table ∷ wants ∷ head ∷ []))
  by_table e said = first_stops table (wants ∷ head ∷ []) e said

  module _ (u : Unit) (passes : Ok u ≡ checked table) where
    pub by_wants : (e : Verdict) → Err e ≡ checked wants → Err e ≡ checked (first_of (table ∷ wants ∷ head ∷ []))
    by_wants e said = first_passes_on table (wants ∷ head ∷ []) u (Err e) passes (first_stops wants (head ∷ []) e said)

    pub by_head : (v : Unit) → Ok v ≡ checked wants → (x : Result Unit Verdict) → x ≡ checked head → x ≡ checked (first_of (table ∷ wants ∷ head ∷ []))
    by_head v on x said = first_passes_on table (wants ∷ head ∷ []) u x passes (first_passes_on wants (head ∷ []) v x on (last_decides head x said))

-- The same of a run.
module _ (r : Run) where
  abbrev of_table : Verdict
  of_table = first_of (table_checks r.starts r.lengths r.aggregates)

  abbrev of_wants : Verdict
  of_wants = first_of (wants_checks (length r.starts) r.numbers r.counts)

  abbrev of_head : Verdict
  of_head = first_of (head_checks r.turn r.head (right_end (stops_of r)))

  pub judged_by_table : (e : Verdict) → Err e ≡ checked (first_of (table_checks r.starts r.lengths r.aggregates)) → Err e ≡ checked (judge_of r)
  unfolding judge_of
  judged_by_table = by_table of_table of_wants of_head

  module _ (u : Unit) (passes : Ok u ≡ checked (first_of (table_checks r.starts r.lengths r.aggregates))) where
    pub judged_by_wants : (e : Verdict) → Err e ≡ checked (first_of (wants_checks (length r.starts) r.numbers r.counts)) → Err e ≡ checked (judge_of r)
    unfolding judge_of
    judged_by_wants = by_wants of_table of_wants of_head u passes

    pub judged_by_head : (v : Unit) → Ok v ≡ checked (first_of (wants_checks (length r.starts) r.numbers r.counts))
        → (x : Result Unit Verdict) → x ≡ checked (first_of (head_checks r.turn r.head (right_end (stops_of r)))) → x ≡ checked (judge_of r)
    unfolding judge_of
    judged_by_head = by_head of_table of_wants of_head u passes

-- Accepted wants name files of the table.
pub wants_named : (starts numbers counts : List ℕ) → GoodWants (length starts) numbers counts → (i : ℕ) → i < length numbers → InTable starts (get_or numbers i 0)
wants_named starts numbers counts good i l = record { least = (good.each i l).named; most = (good.each i l).in_table }

-- Their numbers rise, and none is past the last.
module _ (files : ℕ) (numbers counts : List ℕ) (w : GoodWants files numbers counts) where
  pub numbers_rise : (i j : ℕ) → i < j → j < length numbers → get_or numbers i 0 < get_or numbers j 0
  numbers_rise i zero l h = absurd (omega arith)
  numbers_rise i (suc j) l h =
      let before = numbers_rise i j in
      ⊎_elim
      (λ (e : i ≡ j). rw e (w.each (suc j) h).above)
      (λ (lt : i < j). omega (arith, before lt (omega arith), (w.each (suc j) h).above))
      (below_or_here j i l)

  pub not_past_last : (i : ℕ) → i < length numbers → get_or numbers i 0 ≤ get_or numbers (length numbers - 1) 0
  not_past_last i l =
      elim (dec_lt i (length numbers - 1)) [
        | yes lt ↦ omega (arith, numbers_rise i (length numbers - 1) lt (omega arith))
        | no n ↦ last n
      ]
    where
      last : ¬ (i < length numbers - 1) → get_or numbers i 0 ≤ get_or numbers (length numbers - 1) 0
      last n = let e : i ≡ length numbers - 1 = omega arith in omega (arith, ap (λ x. get_or numbers x 0) e)

-- And the other way round: what is good is accepted.
all_pass : (vs : List Verdict) → AllAccept vs → refuses (first_of vs) ≡ false
all_pass [] a = refl
all_pass (v ∷ vs) a = rw a.0 (all_pass vs a.1)

passes_if : (b : Bool) (kind : Refusal) → b ≡ false → refuses (refuse_if b kind) ≡ false
passes_if b kind e = rw e

passes_at : (p : ℕ) (kind : Refusal) → p ≡ 0 → refuses (refuse_at p kind) ≡ false
passes_at p kind e = rw e

pub places_accepted : (starts lengths : List ℕ) → length starts ≤ most_files → SoundTable starts lengths → refuses (first_of (place_checks starts lengths)) ≡ false
places_accepted starts lengths few table =
    all_pass (place_checks starts lengths) (
      passes_if (ltb most_files (length starts) || not (eqb (length starts) (length lengths))) FileRows (rw (le-ltb most_files (length starts) few, eq-eqb (length starts) (length lengths) table.equal)),
      (passes_at _ BadFile table.sound, tt),
    )

pub wants_accepted : (files : ℕ) (numbers counts : List ℕ) → GoodWants files numbers counts → refuses (first_of (wants_checks files numbers counts)) ≡ false
wants_accepted files numbers counts good =
    all_pass (wants_checks files numbers counts) (
      passes_if (ltb most_wants (length numbers) || not (eqb (length numbers) (length counts))) WantRows (rw (le-ltb most_wants (length numbers) good.few, eq-eqb (length numbers) (length counts) good.equal)),
      (
        passes_at _ BadWant (first_all (bad_want files numbers counts) (length numbers) (λ i l. want_good files numbers counts i (good.each i l))),
        (passes_if _ TooManyReads (le-ltb most_reads (total counts) good.reads), tt),
      ),
    )

pub head_accepted : (turn head rightmost : ℕ) → GoodHead turn head rightmost → refuses (first_of (head_checks turn head rightmost)) ≡ false
head_accepted turn head rightmost good =
    all_pass (head_checks turn head rightmost) (
      passes_if _ TurnPrice (le-ltb highest_turn turn good.cheap),
      (passes_if (ltb last_place head || ltb head rightmost) HeadPlace (rw (le-ltb last_place head good.near, le-ltb head rightmost good.past)), tt),
    )

pub three_accept : (table wants head : Verdict) → refuses table ≡ false → refuses wants ≡ false → refuses head ≡ false → refuses (first_of (table ∷ wants ∷ head ∷ [])) ≡ false
three_accept table wants head a b c = all_pass (table ∷ wants ∷ head ∷ []) (a, (b, (c, tt)))
