-- What is answered: the table's refusal, or its text handed out.
use Prim.Native.Nat.{ℕ}
use mathlib.Core.Path.{◌≡◌, refl, sym, subst, ◌∙◌}
use mathlib.Core.List.{List, [], ◌∷◌}
use native.Mathlib.Omega.{arith}
use lib.ListN.{length, take, drop}
use Rattle.std.specs.Prelude.{Ok, Err}
use lib.Dec.{ltb}
use lib.Seq.{take_all}
use Rattle.refusals.specs.declared.Refusal.TheVariants.{ShortRow}
use Rattle.refusals.specs.declared.Verdict.{Verdict}
use Rattle.refusals.specs.Refusals.{checked, refuse_if, first_of}
use Rattle.refusals.proofs.Verdicts.{first_passes, last_if}
use Rattle.refusals.proofs.Checked.{passed, first_stops}
use Rattle.sheet_writer.specs.declared.Written.{Written}
use Rattle.sheet_writer.specs.Writing.{row_verdict, written_of, Handed}
use Rattle.sheet_writer.proofs.Sheets.{refused_handed}
use Rattle.desk_tickets.specs.declared.Ticket.{Ticket}
use Rattle.desk_tickets.specs.WaitingTable.{waiting, records_verdict, Sound}
use Rattle.desk_tickets.proofs.Storing.{accepted_sound}
use Rattle.desk_boardings.proofs.Who.{front_one, front_two}
use Rattle.desk_waits.specs.Waits.{any_lasts, waiting_text, waiting_verdict, WaitingTold}
use Rattle.desk_waits.specs.Private.{Waiters}

module _ (len : ℕ) (row : List Ticket) (out : List ℕ) where
  pub not_told : (v : Verdict) → Err v ≡ checked (records_verdict len row any_lasts) → (w : Written) → w ≡ written_of v 0 → WaitingTold len row out w out
  unfolding waiting_verdict
  not_told v said w w-is = refused_handed _ _ _ _ _ _ (first_stops (records_verdict len row any_lasts) (row_verdict (waiting_text row) out ∷ []) v said) w-is

  last : row_verdict (waiting_text row) out ≡ first_of (row_verdict (waiting_text row) out ∷ [])
  unfolding row_verdict
  last =
      last_if {v = refuse_if (ltb (length out) (length (waiting_text row))) ShortRow} {x = ltb (length out) (length (waiting_text row))} {b = ltb (length out) (length (waiting_text row))} ShortRow refl refl refl

  module _ (u : Unit) (said : Ok u ≡ checked (records_verdict len row any_lasts)) where
    same : waiting_verdict len row out ≡ row_verdict (waiting_text row) out
    unfolding waiting_verdict
    same = first_passes (records_verdict len row any_lasts) (row_verdict (waiting_text row) out ∷ []) (passed _ u said) ∙ sym last

    pub told : (w : Written) (out' : List ℕ) → Handed (row_verdict (waiting_text row) out) (waiting_text row) out w out' → WaitingTold len row out w out'
    told w out' p = subst (λ (x : Verdict). Handed x (waiting_text row) out w out') (sym same) p

    -- A table that is accepted holds the tickets that wait in each office's first places.
    module _ (all : length row ≡ 32) where
      sound : Sound any_lasts (waiting 1 row) (waiting 2 row) row
      sound = accepted_sound len row any_lasts all (passed _ u said)

      one : take (length (waiting 1 row)) (drop 0 row) ≡ waiting 1 row
      one =
          front_one any_lasts (waiting 1 row) (waiting 2 row) row sound (length (waiting 1 row)) (omega arith) ∙ take_all (length (waiting 1 row)) (waiting 1 row) (omega arith)

      two : take (length (waiting 2 row)) (drop 16 row) ≡ waiting 2 row
      two =
          front_two any_lasts (waiting 1 row) (waiting 2 row) row sound (length (waiting 2 row)) (omega arith) ∙ take_all (length (waiting 2 row)) (waiting 2 row) (omega arith)

      pub waiters_so : (ones twos : ℕ) → ones ≡ length (waiting 1 row) → twos ≡ length (waiting 2 row) → Waiters row ones twos
      waiters_so ones twos e₁ e₂ = record { few = rw e₁ sound.one.few; less = rw e₂ sound.two.few; at_one = rw e₁ one; at_two = rw e₂ two }
