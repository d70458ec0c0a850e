-- A line of a journal: what its first byte decides, and the answer to it either way.
use Prim.Native.Nat.{ℕ}
use mathlib.Core.Path.{◌≡◌, refl, sym, ◌∙◌}
use mathlib.Core.Bool.{Bool, true, false, true≢false}
use mathlib.Core.List.{List, [], ◌∷◌}
use native.Mathlib.Omega.{arith}
use lib.Dec.{eqb}
use Rattle.std.specs.List.{starts_with}
use Rattle.std.proofs.lemmas.Bool.Decides.{nat_tests}
use Rattle.refusals.specs.Refusals.{accepted}
use Rattle.text_lines.specs.Lines.{line_of}
use Rattle.desk_tickets.specs.declared.Ticket.{Ticket}
use Rattle.desk_tickets.specs.declared.Lasts.{Lasts}
use Rattle.desk_boardings.specs.Boardings.{Tape}
use Rattle.answer_desk.specs.Events.{event_of}
use Rattle.desk_rows.specs.declared.ToldRow.{ToldRow}
use Rattle.desk_rows.specs.Events.{told_row, HeldAnswered}
use Rattle.desk_rows.specs.Journal.{is_remark, LineTaken}

pub first_byte : (line : List ℕ) → starts_with eqb line (35 ∷ []) ≡ is_remark line
unfolding is_remark
first_byte [] = refl
first_byte (b ∷ bs) = grind (arith, nat_tests)

module _ (row : List Ticket) (l : Lasts) (tape : Tape) (room out line : List ℕ) (f : Bool) (is : f ≡ is_remark line) where
  pub line_passed : f ≡ true → LineTaken row l tape room out line (told_row row (record { lasts = l; verdict = accepted; bytes = 0 })) room out
  line_passed it =
      record {
        remark = λ _. record { says = refl; same_room = refl; same_row = refl };
        event = λ n. absurd (true≢false (sym it ∙ is ∙ n));
      }

  pub line_answered : (r : ToldRow) (room' out' : List ℕ) → f ≡ false → HeldAnswered row l tape room out (event_of (line_of line)) r room' out'
      → LineTaken row l tape room out line r room' out'
  line_answered r room' out' other answers =
      record {
        remark = λ y. absurd (true≢false (sym y ∙ sym is ∙ other));
        event = λ _. answers;
      }
