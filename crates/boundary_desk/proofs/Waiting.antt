-- The contract of the call that tells who waits, from the promise of what it calls.
use Prim.Native.Nat.{ℕ, ◌≤◌}
use mathlib.Core.Path.{◌≡◌, refl, sym, ap, ◌∙◌}
use mathlib.Core.Bool.{Bool, true, false}
use mathlib.Core.Logic.{⊎_elim}
use mathlib.Core.List.{List, [], ◌∷◌}
use lib.ListN.{length}
use lib.Dec.{ltb}
use Rattle.refusals.specs.declared.Refusal.TheVariants.{Accepted, ShortRow}
use Rattle.refusals.specs.declared.Verdict.{Verdict}
use Rattle.refusals.specs.Refusals.{is_refusal, accepted}
use Rattle.refusals.proofs.Verdicts.{refuses, none_refuses, all_accept}
use Rattle.runs.proofs.Search.{true_or_false}
use Rattle.walk.proofs.Places.{place_most, first_near, if_near}
use Rattle.sheet_writer.specs.declared.Written.{Written}
use Rattle.sheet_writer.specs.Writing.{row_verdict, refused_writing, written_answer}
use Rattle.desk_tickets.specs.declared.Ticket.{Ticket}
use Rattle.desk_tickets.specs.WaitingTable.{records_verdict}
use Rattle.desk_waits.specs.Waits.{any_lasts, waiting_text, waiting_verdict, WaitingTold}
use Rattle.boundary.specs.Boundary.{code_of}
use Rattle.boundary_desk.specs.Records.{table_at, with_first, places_if}
use Rattle.boundary_desk.specs.Calls.{WaitingCalled, WaitingAnswered}
use Rattle.boundary_desk.proofs.Calling.{lent_long, records_near, records_long_enough}

abbrev verdict_of : Written → Verdict
verdict_of w = record { refusal = w.refusal; place = w.place }

module _ (len : ℕ) (row : List Ticket) (out : List ℕ) where
  v_near : (waiting_verdict len row out).place ≤ place_most
  unfolding waiting_verdict row_verdict
  v_near =
      first_near (records_verdict len row any_lasts ∷ row_verdict (waiting_text row) out ∷ [])
      (records_near len row any_lasts, λ a. (if_near (ltb (length out) (length (waiting_text row))) ShortRow, λ b. tt))

  v_accepted : refuses (waiting_verdict len row out) ≡ false → waiting_verdict len row out ≡ accepted
  unfolding waiting_verdict
  v_accepted e = none_refuses (records_verdict len row any_lasts ∷ row_verdict (waiting_text row) out ∷ []) e

  v_long : refuses (waiting_verdict len row out) ≡ false → 32 ≤ len
  unfolding waiting_verdict
  v_long e = records_long_enough len row any_lasts (all_accept (records_verdict len row any_lasts ∷ row_verdict (waiting_text row) out ∷ []) e).0

  module _ (w : Written) (out' : List ℕ) (told : WaitingTold len row out w out') where
    when_refused : refuses (waiting_verdict len row out) ≡ true → w ≡ refused_writing (waiting_verdict len row out)
    unfolding written_answer
    when_refused h = rw h at told.answer

    when_told : refuses (waiting_verdict len row out) ≡ false → w ≡ record { refusal = Accepted; place = 0; bytes = length (waiting_text row) }
    unfolding written_answer
    when_told h = rw h at told.answer

    same_verdict_here : verdict_of w ≡ waiting_verdict len row out
    same_verdict_here =
        ⊎_elim
        (λ h. ap verdict_of (when_refused h))
        (λ h. ap verdict_of (when_told h) ∙ sym (v_accepted h))
        (true_or_false (refuses (waiting_verdict len row out)))

    pub waiting_near : w.place ≤ place_most
    waiting_near = rw (ap (λ (x : Verdict). x.place) same_verdict_here) v_near

module _ (rows : List (List ℕ)) (out sizes : List ℕ) (row : List Ticket) (len : ℕ) (w : Written) (out' : List ℕ)
    (row_is : row ≡ table_at rows)
    (len_is : len ≡ places_if 1 sizes (length rows))
    (told : WaitingTold len row out w out')
    (flag : Bool) (flag_is : flag ≡ is_refusal w.refusal) where
  flag_so : flag ≡ refuses (waiting_verdict len row out)
  flag_so = flag_is ∙ ap (λ (x : Verdict). is_refusal x.refusal) (same_verdict_here len row out w out' told)

  pub waiting_fits : flag ≡ false → 1 ≤ length sizes
  waiting_fits e = (lent_long 1 sizes (length rows) (rw len_is at (v_long len row out (sym flag_so ∙ e)))).beside

  called : (code : ℕ) (sizes' : List ℕ) → WaitingAnswered (waiting_verdict len row out) (waiting_text row) out sizes code out' sizes' → WaitingCalled rows out sizes code out' sizes'
  called code sizes' p = rw (row_is, len_is) at p

  pub waiting_refused : flag ≡ true → (code : ℕ) → code ≡ code_of (record { refusal = w.refusal; place = w.place }) → WaitingCalled rows out sizes code out' sizes
  waiting_refused e code says =
      let h : refuses (waiting_verdict len row out) ≡ true = sym flag_so ∙ e in
      called code sizes (record { says = says ∙ ap code_of (same_verdict_here len row out w out' told); out_is = told.left; sizes_are = rw h refl })

  pub waiting_told : flag ≡ false → (code : ℕ) → code ≡ code_of (record { refusal = w.refusal; place = w.place }) → (sizes' : List ℕ) → sizes' ≡ with_first w.bytes sizes → WaitingCalled rows out sizes code out' sizes'
  waiting_told e code says sizes' is =
      let h : refuses (waiting_verdict len row out) ≡ false = sym flag_so ∙ e in
      let many : w.bytes ≡ length (waiting_text row) = ap (λ (x : Written). x.bytes) (when_told len row out w out' told h) in
      called code sizes' (record { says = says ∙ ap code_of (same_verdict_here len row out w out' told); out_is = told.left; sizes_are = rw h (is ∙ ap (λ n. with_first n sizes) many) })
