-- The engine's refusals in the order of the checks, as the code makes them: the run, then the rows, then the room.
use Prim.Native.Nat.{ℕ, ◌+◌, ◌-◌, ◌≤◌}
use mathlib.Core.Path.{◌≡◌, refl, sym, ap, ◌∙◌}
use mathlib.Core.Bool.{Bool, true, false, true≢false}
use mathlib.Core.Logic.{⊎_elim}
use mathlib.Core.List.{List, [], ◌∷◌}
use native.Mathlib.Omega.{arith}
use lib.ListN.{length}
use lib.Dec.{ltb}
use borrow.Author.Tests.{ltb-false}
use Rattle.refusals.specs.declared.Refusal.TheVariants.{FileRows, ShortRow, ShortRoom}
use Rattle.refusals.specs.declared.Verdict.{Verdict}
use Rattle.std.specs.Prelude.{Result, Ok, Err}
use Rattle.refusals.specs.Refusals.{is_refusal, checked, refuse_if, first_of}
use Rattle.refusals.proofs.Verdicts.{refuses, all_accept, accepts_if, first_refuses, first_passes}
use Rattle.refusals.proofs.Checked.{passed, stopped, first_stops, first_passes_on, last_decides}
use Rattle.runs.specs.Run.{Run, total, most_wants}
use Rattle.runs.specs.Judging.{judge_of}
use Rattle.runs.specs.AnyHead.{judge_any_of, lifted}
use Rattle.runs.proofs.AnyHead.{judge_any_lem}
use Rattle.runs.proofs.Search.{true_or_false, or_false_both}
use Rattle.engine_table.specs.Listing.{ListRows, Lists, IsListed, listing_verdict, short_list_rows, room_size}
use Rattle.engine_table.specs.Private.{judge_table_of, LongRows, table_size, list_rows_verdict}

one_more : (k n : ℕ) → k - 1 ≤ n → k ≤ n + 1
one_more k n h = omega arith

-- Where the two checks of the rows refuse nothing, neither holds.
both_pass : (b c : Bool) → refuses (first_of (refuse_if b ShortRow ∷ refuse_if c ShortRoom ∷ [])) ≡ false → (b ≡ false) × (c ≡ false)
both_pass true c e = absurd (true≢false e)
both_pass false true e = absurd (true≢false e)
both_pass false false e = (refl, refl)

-- The first of two checks, and then of the others.
two_first : (v w : Verdict) (vs : List Verdict) → first_of (v ∷ w ∷ vs) ≡ first_of (first_of (v ∷ w ∷ []) ∷ vs)
two_first v w vs =
    ⊎_elim
    (λ (bad : refuses v ≡ true). rw (bad, bad))
    (λ (ok : refuses v ≡ false). rw ok (⊎_elim (λ (bad : refuses w ≡ true). rw (bad, bad)) (λ (ok : refuses w ≡ false). rw ok) (true_or_false (refuses w))))
    (true_or_false (refuses v))

-- Where a run's table passes it has few files and the judging accepts it.
pub record TablePasses (r : Run) : Type 0 where
  pub few : length r.starts ≤ most_wants
  pub accepts : is_refusal (judge_any_of r).refusal ≡ false

table_passes : (r : Run) → refuses (judge_table_of r) ≡ false → TablePasses r
unfolding judge_table_of
table_passes r e =
    let all = all_accept (refuse_if (ltb most_wants (length r.starts)) FileRows ∷ judge_any_of r ∷ []) e in
    record { few = ltb-false most_wants (length r.starts) (accepts_if _ FileRows refl all.0); accepts = all.1.0 }

-- The checks of the table as the code makes them: its size, then the judging with the head at the end of the tape.
module _ (r : Run) where
  abbrev size : Verdict
  size = refuse_if (ltb most_wants (length r.starts)) FileRows

  pub table_refused : (e : Verdict) → Err e ≡ checked (refuse_if (ltb most_wants (length r.starts)) FileRows) → Err e ≡ checked (judge_table_of r)
  unfolding judge_table_of
  table_refused e said = first_stops size (judge_any_of r ∷ []) e said

  pub table_judged : (u : Unit) → Ok u ≡ checked (refuse_if (ltb most_wants (length r.starts)) FileRows) → (x : Result Unit Verdict) → x ≡ checked (judge_of (lifted r)) → x ≡ checked (judge_table_of r)
  unfolding judge_table_of
  table_judged u passes x said = first_passes_on size (judge_any_of r ∷ []) u x passes (last_decides (judge_any_of r) x (said ∙ ap checked (sym (judge_any_lem r))))

module _ (r : Run) (rows : ListRows) where
  refused_so_here : (v : Verdict) → v ≡ listing_verdict r rows → refuses v ≡ true → Lists r rows (Err v) rows
  refused_so_here v e h =
      record {
        refused = λ q. record { says = rw e; kept = refl };
        listed = λ q. absurd (true≢false (sym h ∙ (rw (← e) at q)));
      }

  after_run : List Verdict
  after_run = refuse_if (short_list_rows (length r.numbers) rows) ShortRow ∷ refuse_if (ltb (length rows.room) (room_size r)) ShortRoom ∷ []

  in_two : listing_verdict r rows ≡ first_of (judge_table_of r ∷ after_run)
  unfolding listing_verdict judge_table_of after_run
  in_two = two_first (refuse_if (ltb most_wants (length r.starts)) FileRows) (judge_any_of r) (refuse_if (short_list_rows (length r.numbers) rows) ShortRow ∷ refuse_if (ltb (length rows.room) (room_size r)) ShortRoom ∷ [])

  pub run_refused : (e : Verdict) → Err e ≡ checked (judge_table_of r) → Lists r rows (Err e) rows
  run_refused e said =
      let s = stopped (judge_table_of r) e said in
      rw (← s.is) (refused_so_here (judge_table_of r) (first_refuses (judge_table_of r) after_run s.so ∙ sym in_two) s.so)

  pub run_accepted : (u : Unit) → Ok u ≡ checked (judge_table_of r) → TablePasses r
  run_accepted u said = table_passes r (passed (judge_table_of r) u said)

  module _ (u : Unit) (run : Ok u ≡ checked (judge_table_of r)) (reads : ℕ) (reads-is : reads ≡ total r.counts) where
    abbrev of_rows : Verdict
    of_rows = list_rows_verdict (length r.numbers) reads (length rows.froms) (length rows.tos) (length rows.room)

    rows_decide : of_rows ≡ listing_verdict r rows
    unfolding after_run list_rows_verdict
    rows_decide = rw reads-is (sym (in_two ∙ first_passes (judge_table_of r) after_run (passed (judge_table_of r) u run)))

    pub rows_refused_lem : (e : Verdict) → Err e ≡ checked (list_rows_verdict (length r.numbers) reads (length rows.froms) (length rows.tos) (length rows.room))
        → Lists r rows (Err e) rows
    rows_refused_lem e said = let s = stopped of_rows e said in rw (← s.is) (refused_so_here of_rows rows_decide s.so)

    module _ (v : Unit) (passes : Ok v ≡ checked (list_rows_verdict (length r.numbers) reads (length rows.froms) (length rows.tos) (length rows.room))) where
      rows_pass : (short_list_rows (length r.numbers) rows ≡ false) × (ltb (length rows.room) (table_size (length r.numbers) reads) ≡ false)
      unfolding list_rows_verdict
      rows_pass = both_pass _ _ (passed of_rows v passes)

      pub rows_long : LongRows (length r.numbers) (length rows.froms) (length rows.tos)
      rows_long =
          let two = or_false_both _ _ rows_pass.0 in
          let starts : length r.numbers - 1 ≤ length rows.froms = ltb-false (length rows.froms) (length r.numbers - 1) two.0 in
          let ends : length r.numbers - 1 ≤ length rows.tos = ltb-false (length rows.tos) (length r.numbers - 1) two.1 in
          record {
            for_starts = one_more (length r.numbers) (length rows.froms) starts;
            for_ends = one_more (length r.numbers) (length rows.tos) ends;
          }

      pub room_big : table_size (length r.numbers) reads ≤ length rows.room
      room_big = ltb-false (length rows.room) (table_size (length r.numbers) reads) rows_pass.1

      pub run_listed : (a : Result ℕ Verdict) (after : ListRows) → IsListed r rows a after → Lists r rows a after
      run_listed a after p =
          let accepts : refuses (listing_verdict r rows) ≡ false = rw (← rows_decide) (passed of_rows v passes) in
          record { refused = λ q. absurd (true≢false (sym q ∙ accepts)); listed = λ q. p }
