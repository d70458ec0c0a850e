-- 24 at its place in the order of the checks: after 1, 2 and 3, and before all others.
use Prim.Native.Nat.{ℕ, zero, suc, ◌≤◌}
use mathlib.Core.Path.{◌≡◌, refl, sym, ap, ◌∙◌}
use mathlib.Core.Bool.{Bool, true, false, not, cond, ◌||◌, true≢false}
use mathlib.Core.List.{List, [], ◌∷◌, ◌++◌}
use native.Mathlib.Omega.{arith}
use lib.ListN.{length}
use lib.Dec.{ltb, eqb}
use borrow.Author.Tests.{ltb-false}
use Rattle.std.specs.Prelude.{Ok, Err}
use Rattle.refusals.specs.declared.Refusal.{Refusal}
use Rattle.refusals.specs.declared.Refusal.TheVariants.{FileRows, BadFile, WantRows, BadWant, TooManyReads, TurnPrice, HeadPlace, ShortRow, OverEightWants}
use Rattle.refusals.specs.declared.Verdict.{Verdict}
use Rattle.refusals.specs.Refusals.{refuse_if, refuse_at, first_of, first_where}
use Rattle.refusals.proofs.Verdicts.{refuses, first_refuses, first_passes, first_alone, all_accept, accepts_if}
use Rattle.refusals.proofs.Checked.{Refuses}
use Rattle.runs.specs.Run.{Run, most_files, most_reads, highest_turn, last_place, total, stops_of}
use Rattle.runs.specs.Judging.{right_end}
use Rattle.runs.specs.Judging.{bad_file, bad_want, table_checks, wants_checks, head_checks, judge_of}
use Rattle.runs.proofs.Judged.{accepted_run}
use Rattle.runs.proofs.Stops.{stops_few}
use Rattle.engine_stops.specs.Joining.{short_join_rows, join_verdict, join_answer}
use Rattle.engine_stops.proofs.Said.{Accepts, answer_refuses, answer_accepts}
use Rattle.engine_stops.proofs.Held.{fresh_rows, join_refused, join_judges, join_accepts}
use Rattle.engine_plain.specs.Plain.{uneven_wants, most_plain_wants}
use Rattle.engine_plain.specs.Private.{comes_first, with24, answer24}

-- A row of checks before another: the first that refuses, or what the others say.
pub first_of_both : (vs ws : List Verdict) → refuses (first_of vs) ≡ true → first_of (vs ++ ws) ≡ first_of vs
first_of_both [] ws e = absurd (true≢false (sym e))
first_of_both (v ∷ vs) ws e = go (refuses v) refl (first_of_both vs ws)
  where
    go : (b : Bool) → refuses v ≡ b → (refuses (first_of vs) ≡ true → first_of (vs ++ ws) ≡ first_of vs) → first_of (v ∷ (vs ++ ws)) ≡ first_of (v ∷ vs)
    go true h rest = rw h
    go false h rest = rw h (rest (rw h at e))

pub second_of_both : (vs ws : List Verdict) → refuses (first_of vs) ≡ false → first_of (vs ++ ws) ≡ first_of ws
second_of_both [] ws e = refl
second_of_both (v ∷ vs) ws e = go (refuses v) refl (second_of_both vs ws)
  where
    go : (b : Bool) → refuses v ≡ b → (refuses (first_of vs) ≡ false → first_of (vs ++ ws) ≡ first_of ws) → first_of (v ∷ (vs ++ ws)) ≡ first_of ws
    go true h rest = absurd (true≢false (sym h ∙ (rw h at e)))
    go false h rest = rw h (rest (rw h at e))

-- A verdict that is not 1, 2 or 3.
abbrev Late : Verdict → Type 0
Late v = comes_first v.refusal ≡ false

late_if : (b : Bool) (k : Refusal) → comes_first k ≡ false → Late (refuse_if b k)
late_if true k e = e
late_if false k e = refl

late_at : (p : ℕ) (k : Refusal) → comes_first k ≡ false → Late (refuse_at p k)
late_at zero k e = refl
late_at (suc p) k e = e

late_first : (v : Verdict) (vs : List Verdict) → Late v → Late (first_of vs) → Late (first_of (v ∷ vs))
late_first v vs l m = go (refuses v) refl
  where
    go : (b : Bool) → refuses v ≡ b → Late (first_of (v ∷ vs))
    go true h = rw h l
    go false h = rw h m

early_table : (b : Bool) (p : ℕ) → refuses (first_of (refuse_if b FileRows ∷ refuse_at p BadFile ∷ [])) ≡ true → comes_first (first_of (refuse_if b FileRows ∷ refuse_at p BadFile ∷ [])).refusal ≡ true
early_table true p e = refl
early_table false zero e = absurd (true≢false (sym e))
early_table false (suc p) e = refl

-- 3 refuses; or it does not, and what is left of the wants and of the head comes later than 24.
wants_uneven : (u : Bool) (x y h : Verdict) → u ≡ true → first_of (first_of (refuse_if u WantRows ∷ x ∷ y ∷ []) ∷ h ∷ []) ≡ refuse_if u WantRows
wants_uneven true x y h e = refl
wants_uneven false x y h e = absurd (true≢false (sym e))

wants_even : (u : Bool) (p : ℕ) (b c d : Bool) → u ≡ false
    → Late (first_of (first_of (refuse_if u WantRows ∷ refuse_at p BadWant ∷ refuse_if b TooManyReads ∷ []) ∷ first_of (refuse_if c TurnPrice ∷ refuse_if d HeadPlace ∷ []) ∷ []))
wants_even true p b c d e = absurd (true≢false e)
wants_even false p b c d e =
    late_first (first_of (refuse_at p BadWant ∷ refuse_if b TooManyReads ∷ [])) (first_of (refuse_if c TurnPrice ∷ refuse_if d HeadPlace ∷ []) ∷ [])
    (late_first (refuse_at p BadWant) (refuse_if b TooManyReads ∷ []) (late_at p BadWant refl) (late_first (refuse_if b TooManyReads) [] (late_if b TooManyReads refl) refl))
    (late_first (first_of (refuse_if c TurnPrice ∷ refuse_if d HeadPlace ∷ [])) []
    (late_first (refuse_if c TurnPrice) (refuse_if d HeadPlace ∷ []) (late_if c TurnPrice refl) (late_first (refuse_if d HeadPlace) [] (late_if d HeadPlace refl) refl)) refl)

module _ (v : Verdict) (n : ℕ) where
  with24_kept : comes_first v.refusal ≡ true → with24 v n ≡ v
  with24_kept e = rw e

  with24_over : Late v → ltb most_plain_wants n ≡ true → with24 v n ≡ refuse_if (ltb most_plain_wants n) OverEightWants
  with24_over l e = rw (l, e)

  with24_few : Late v → ltb most_plain_wants n ≡ false → with24 v n ≡ v
  with24_few l e = rw (l, e)

-- The checks of a run with 24 among them.
abbrev pub run_checks : Run → List Verdict
run_checks r =
    first_of (table_checks r.starts r.lengths r.aggregates)
    ∷ refuse_if (uneven_wants r) WantRows
    ∷ refuse_if (ltb most_plain_wants (length r.numbers)) OverEightWants
    ∷ judge_of r
    ∷ []

module _ (r : Run) where
  abbrev table : Verdict
  table = first_of (table_checks r.starts r.lengths r.aggregates)

  abbrev wants : Verdict
  wants = first_of (wants_checks (length r.starts) r.numbers r.counts)

  abbrev headed : Verdict
  headed = first_of (head_checks r.turn r.head (right_end (stops_of r)))

  judge_table_here : refuses table ≡ true → judge_of r ≡ table
  unfolding judge_of
  judge_table_here e = sym (first_refuses table (wants ∷ headed ∷ []) e)

  judge_on : refuses table ≡ false → judge_of r ≡ first_of (wants ∷ headed ∷ [])
  unfolding judge_of
  judge_on e = first_passes table (wants ∷ headed ∷ []) e

  bad_want_here : ℕ
  bad_want_here = first_where (bad_want (length r.starts) r.numbers r.counts) (length r.numbers)

  table_early : refuses table ≡ true → comes_first table.refusal ≡ true
  table_early =
      early_table (ltb most_files (length r.starts) || not (eqb (length r.starts) (length r.lengths)) || not (eqb (length r.starts) (length r.aggregates)))
      (first_where (bad_file r.starts r.lengths r.aggregates) (length r.starts))

  judge_uneven : refuses table ≡ false → uneven_wants r ≡ true → judge_of r ≡ refuse_if (uneven_wants r) WantRows
  unfolding bad_want_here
  judge_uneven t u = judge_on t ∙ wants_uneven (uneven_wants r) (refuse_at bad_want_here BadWant) (refuse_if (ltb most_reads (total r.counts)) TooManyReads) headed u

  judge_late : refuses table ≡ false → uneven_wants r ≡ false → Late (judge_of r)
  unfolding bad_want_here
  judge_late t u =
      ap (λ v. comes_first v.refusal) (judge_on t)
      ∙ wants_even (uneven_wants r) bad_want_here (ltb most_reads (total r.counts)) (ltb highest_turn r.turn) (ltb last_place r.head || ltb r.head (right_end (stops_of r))) u

  judge_alone_here : first_of (judge_of r ∷ []) ≡ judge_of r
  unfolding judge_of
  judge_alone_here = first_alone (table ∷ wants ∷ headed ∷ [])

  pub run_passed : refuses (first_of (run_checks r)) ≡ false → refuses (judge_of r) ≡ false
  run_passed e = (all_accept (run_checks r) e).1.1.1.0

  pub run_few : refuses (first_of (run_checks r)) ≡ false → length r.numbers ≤ 8
  run_few e = ltb-false 8 (length r.numbers) (accepts_if _ OverEightWants refl (all_accept (run_checks r) e).1.1.0)

  abbrev joined : Verdict
  joined = join_verdict r (fresh_rows 8)

  pub few_stops : length r.numbers ≤ 8 → refuses (judge_of r) ≡ false → length (stops_of r) ≤ 8
  few_stops few e = omega (arith, stops_few r (accepted_run r e))

  join_late : Late (judge_of r) → Late (joined)
  unfolding join_verdict
  join_late l =
      late_first (judge_of r) (refuse_if (short_join_rows (length (stops_of r)) (fresh_rows 8)) ShortRow ∷ []) l
      (late_first (refuse_if (short_join_rows (length (stops_of r)) (fresh_rows 8)) ShortRow) [] (late_if (short_join_rows (length (stops_of r)) (fresh_rows 8)) ShortRow refl) refl)

  later : Late (joined) → refuses table ≡ false → uneven_wants r ≡ false → with24 (joined) (length r.numbers) ≡ first_of (run_checks r)
  later l t u = go (ltb most_plain_wants (length r.numbers)) refl
    where
      passed : first_of (run_checks r) ≡ first_of (refuse_if (ltb most_plain_wants (length r.numbers)) OverEightWants ∷ judge_of r ∷ [])
      passed =
          first_passes table (refuse_if (uneven_wants r) WantRows ∷ refuse_if (ltb most_plain_wants (length r.numbers)) OverEightWants ∷ judge_of r ∷ []) t
          ∙ first_passes (refuse_if (uneven_wants r) WantRows) (refuse_if (ltb most_plain_wants (length r.numbers)) OverEightWants ∷ judge_of r ∷ []) (ap (λ b. refuses (refuse_if b WantRows)) u)

      go : (b : Bool) → ltb most_plain_wants (length r.numbers) ≡ b → with24 (joined) (length r.numbers) ≡ first_of (run_checks r)
      go true many =
          with24_over (joined) (length r.numbers) l many
          ∙ first_refuses (refuse_if (ltb most_plain_wants (length r.numbers)) OverEightWants) (judge_of r ∷ []) (ap (λ b. refuses (refuse_if b OverEightWants)) many) ∙ sym passed
      go false few =
          with24_few (joined) (length r.numbers) l few ∙ join_judges r 8 (few_stops (ltb-false 8 (length r.numbers) few)) ∙ sym judge_alone_here
          ∙ sym (first_passes (refuse_if (ltb most_plain_wants (length r.numbers)) OverEightWants) (judge_of r ∷ []) (ap (λ b. refuses (refuse_if b OverEightWants)) few)) ∙ sym passed

  kept : (v : Verdict) → comes_first v.refusal ≡ true → refuses v ≡ true → judge_of r ≡ v → with24 (joined) (length r.numbers) ≡ v
  kept v e h is =
      let j : joined ≡ v = join_refused r 8 (ap refuses is ∙ h) ∙ is in
      ap (λ x. with24 x (length r.numbers)) j ∙ with24_kept v (length r.numbers) e

  -- What the code makes of the joining's verdict is the first of these checks.
  pub verdict_is : with24 (joined) (length r.numbers) ≡ first_of (run_checks r)
  verdict_is = by_table (refuses table) refl
    where
      behind_table : List Verdict
      behind_table = refuse_if (ltb most_plain_wants (length r.numbers)) OverEightWants ∷ judge_of r ∷ []

      by_wants : (u : Bool) → refuses table ≡ false → uneven_wants r ≡ u → with24 (joined) (length r.numbers) ≡ first_of (run_checks r)
      by_wants true t u =
          kept (refuse_if (uneven_wants r) WantRows) (ap (λ b. comes_first (refuse_if b WantRows).refusal) u) (ap (λ b. refuses (refuse_if b WantRows)) u) (judge_uneven t u)
          ∙ first_refuses (refuse_if (uneven_wants r) WantRows) behind_table (ap (λ b. refuses (refuse_if b WantRows)) u)
          ∙ sym (first_passes table (refuse_if (uneven_wants r) WantRows ∷ behind_table) t)
      by_wants false t u = later (join_late (judge_late t u)) t u

      by_table : (b : Bool) → refuses table ≡ b → with24 (joined) (length r.numbers) ≡ first_of (run_checks r)
      by_table true t = kept table (table_early t) t (judge_table_here t) ∙ first_refuses table (refuse_if (uneven_wants r) WantRows ∷ behind_table) t
      by_table false t = by_wants (uneven_wants r) t refl

-- So the joining's answer, with 24 at its place, is these checks' or the number of stops.
module _ (j : Verdict) (n m : ℕ) where
  abbrev Same : Type 0
  Same = answer24 (cond (refuses j) (Err j) (Ok n)) m ≡ cond (refuses (with24 j m)) (Err (with24 j m)) (Ok n)

  no_refusal : (c : Bool) → refuses j ≡ false → ltb most_plain_wants m ≡ c → Same
  no_refusal true h over = rw (h, over)
  no_refusal false h few = rw (h, few, h)

  still_refused : (b c : Bool) → refuses j ≡ true → comes_first j.refusal ≡ b → ltb most_plain_wants m ≡ c → refuses (with24 j m) ≡ true
  still_refused true c h e o = ap refuses (with24_kept j m e) ∙ h
  still_refused false true h e over = ap refuses (with24_over j m e over) ∙ ap (λ b. refuses (refuse_if b OverEightWants)) over
  still_refused false false h e few = ap refuses (with24_few j m e few) ∙ h

  some_refusal : refuses j ≡ true → Same
  some_refusal h =
      ap (λ b. answer24 (cond b (Err j) (Ok n)) m) h
      ∙ sym (ap (λ b. cond b (Err (with24 j m)) (Ok n)) (still_refused (comes_first j.refusal) (ltb most_plain_wants m) h refl refl))

  answer24_of : Same
  answer24_of = go (refuses j) refl
    where
      go : (b : Bool) → refuses j ≡ b → Same
      go true h = some_refusal h
      go false h = no_refusal (ltb most_plain_wants m) h refl

module _ (r : Run) where
  answer_is : answer24 (join_answer r (fresh_rows 8)) (length r.numbers) ≡ cond (refuses (first_of (run_checks r))) (Err (first_of (run_checks r))) (Ok (length (stops_of r)))
  unfolding join_answer
  answer_is = answer24_of (join_verdict r (fresh_rows 8)) (length (stops_of r)) (length r.numbers) ∙ ap (λ v. cond (refuses v) (Err v) (Ok (length (stops_of r)))) (verdict_is r)

  pub checks_stopped : (e : Verdict) → Err e ≡ answer24 (join_answer r (fresh_rows 8)) (length r.numbers) → Refuses (first_of (run_checks r)) e
  checks_stopped e said = answer_refuses (first_of (run_checks r)) (length (stops_of r)) e (said ∙ answer_is)

  pub checks_passed : (k : ℕ) → Ok k ≡ answer24 (join_answer r (fresh_rows 8)) (length r.numbers) → Accepts (first_of (run_checks r)) (length (stops_of r)) k
  checks_passed k said = answer_accepts (first_of (run_checks r)) (length (stops_of r)) k (said ∙ answer_is)

  -- What passes it the joining answered.
  pub joined_so : (k : ℕ) → Ok k ≡ answer24 (join_answer r (fresh_rows 8)) (length r.numbers) → Ok k ≡ join_answer r (fresh_rows 8)
  joined_so k said =
      let all = checks_passed k said in
      rw all.is
      (join_accepts r 8 (few_stops r (run_few r all.passes)) (run_passed r all.passes))

-- Where 1, 2 and 3 accept, what a run's own checks and a check of the rows find is none of the three.
pub late_behind : (r : Run) (short : Bool) → refuses (first_of (table_checks r.starts r.lengths r.aggregates)) ≡ false → uneven_wants r ≡ false
    → (FileRows ≡ (first_of (judge_of r ∷ refuse_if short ShortRow ∷ [])).refusal → ⊥) × (BadFile ≡ (first_of (judge_of r ∷ refuse_if short ShortRow ∷ [])).refusal → ⊥)
    × (WantRows ≡ (first_of (judge_of r ∷ refuse_if short ShortRow ∷ [])).refusal → ⊥)
late_behind r short t u =
    let late = late_first (judge_of r) (refuse_if short ShortRow ∷ []) (judge_late r t u) (late_first (refuse_if short ShortRow) [] (late_if short ShortRow refl) refl) in
    (λ e. true≢false (ap comes_first e ∙ late), λ e. true≢false (ap comes_first e ∙ late), λ e. true≢false (ap comes_first e ∙ late))
