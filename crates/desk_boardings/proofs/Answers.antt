-- The answer of a boarding by the plan's, and the whole contract of a call.
use Prim.Native.Nat.{ℕ}
use mathlib.Core.Path.{◌≡◌, refl, sym, ap, ◌∙◌, subst}
use mathlib.Core.Bool.{Bool, true, false, true≢false}
use mathlib.Core.List.{List}
use Rattle.std.specs.Prelude.{Ok}
use lib.ListN.{take, length-map}
use Rattle.refusals.specs.Refusals.{is_refusal, checked}
use Rattle.refusals.proofs.Checked.{passed}
use Rattle.runs.specs.Run.{run_of}
use Rattle.walk.specs.declared.Answer.{Answer}
use Rattle.planner.specs.Plan.{Plans}
use Rattle.planner.specs.Rows.{Rows}
use Rattle.desk_tickets.specs.declared.Ticket.{Ticket}
use Rattle.desk_tickets.specs.declared.Lasts.{Lasts}
use Rattle.desk_tickets.specs.WaitingTable.{records_verdict}
use Rattle.desk_boardings.specs.declared.Boarding.{Boarding}
use Rattle.desk_boardings.specs.declared.Taken.{Taken}
use Rattle.desk_boardings.specs.declared.Wants.{Wants}
use Rattle.desk_boardings.specs.declared.BoardedRow.{BoardedRow}
use Rattle.desk_boardings.specs.Boarders.{file_numbers, read_counts, row_staying, wants_of}
use Rattle.desk_boardings.specs.Boardings.{Tape, board_run, taken_of, want_rows, not_boarded, boarded_by, Boards}
use Rattle.desk_boardings.proofs.Adding.{eight_front}

-- An accepted plan's answer.
pub somebody : (row : List Ticket) (l : Lasts) (a : Answer) → is_refusal a.refusal ≡ false → (taken : Taken) (wants : Wants) (next : List Ticket)
    → taken ≡ taken_of row → wants ≡ want_rows (wants_of row) → next ≡ row_staying row
    → ◌≡◌ {A = BoardedRow} (record { boarded = record { answer = a; taken = taken; wants = wants; lasts = l }; row = next }) (boarded_by row l a)
somebody row l a none taken wants next t w s = rw none (made t w s)
  where
    made : {t t' : Taken} {w w' : Wants} {s s' : List Ticket} → t ≡ t' → w ≡ w' → s ≡ s'
        → ◌≡◌ {A = BoardedRow} (record { boarded = record { answer = a; taken = t; wants = w; lasts = l }; row = s })
        (record { boarded = record { answer = a; taken = t'; wants = w'; lasts = l }; row = s' })
    made e f g = cc

module _ (len : ℕ) (tape : Tape) (row : List Ticket) (b : Boarding) (before : Rows) (r : BoardedRow) where
  -- It is not, and the plan decides.
  pub run_boarded : (u : Unit) → Ok u ≡ checked (records_verdict len row b.lasts) → (after : Rows) → (a : Answer) → (w : Wants) → w ≡ want_rows (wants_of row)
      → Plans (run_of tape.starts tape.lengths tape.aggregates (take w.k w.numbers) (take w.k w.counts) b.head b.turn) before a after
      → r ≡ boarded_by row b.lasts a → Boards len tape row b before r after
  run_boarded u said after a w w-is plans says =
      record {
        refused = λ p. absurd (true≢false (sym p ∙ passed _ u said));
        planned = λ _. record { plans = rw answers run_is; says = says ∙ ap (boarded_by row b.lasts) (sym answers) };
      }
    where
      run_is : Plans (board_run tape row b) before a after
      run_is =
          subst (λ (ns : List ℕ). Plans (run_of tape.starts tape.lengths tape.aggregates ns (read_counts (wants_of row)) b.head b.turn) before a after) (front_is_here w w-is).0
          (subst (λ (cs : List ℕ). Plans (run_of tape.starts tape.lengths tape.aggregates (take w.k w.numbers) cs b.head b.turn) before a after) (front_is_here w w-is).1 plans)
        where
          front_is_here : (w : Wants) → w ≡ want_rows (wants_of row) → (take w.k w.numbers ≡ file_numbers (wants_of row)) × (take w.k w.counts ≡ read_counts (wants_of row))
          front_is_here w is = (
            ap (λ v. take v.k v.numbers) is ∙ rw (← length-map (wants_of row) (λ x. x.file)) (eight_front (file_numbers (wants_of row))),
            ap (λ v. take v.k v.counts) is ∙ rw (← length-map (wants_of row) (λ x. x.count)) (eight_front (read_counts (wants_of row))),
          )

      answers : r.boarded.answer ≡ a
      answers = ap (λ x. x.boarded.answer) says ∙ by_test (is_refusal a.refusal)
        where
          by_test : (c : Bool) → (mathlib.Core.Bool.cond c (not_boarded row b.lasts a) (record { boarded = record { answer = a; taken = taken_of row; wants = want_rows (wants_of row); lasts = b.lasts }; row = row_staying row })).boarded.answer ≡ a
          by_test true = refl
          by_test false = refl
