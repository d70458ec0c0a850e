-- A boarding on a row that takes its text, and one whose text is made beforehand.
use Prim.Native.Nat.{ℕ, ◌≤◌, min}
use mathlib.Core.Path.{◌≡◌, refl, sym, ap, ◌∙◌}
use mathlib.Core.Bool.{true, false, true≢false}
use mathlib.Core.Logic.{⊎_elim}
use mathlib.Core.List.{List}
use native.Mathlib.Omega.{arith}
use Rattle.std.specs.Prelude.{Ok, Err}
use lib.ListN.{length}
use Rattle.refusals.specs.declared.Verdict.{Verdict}
use Rattle.refusals.specs.Refusals.{is_refusal, checked}
use Rattle.refusals.proofs.Checked.{passed, stopped}
use Rattle.refusals.proofs.Verdicts.{refuses}
use Rattle.runs.proofs.Search.{true_or_false}
use Rattle.walk.specs.Price.{priced_answer}
use Rattle.planner.specs.Rows.{Rows}
use Rattle.sheet_writer.specs.declared.Written.{Written}
use Rattle.desk_tickets.specs.declared.Ticket.{Ticket}
use Rattle.desk_tickets.specs.WaitingTable.{records_verdict}
use Rattle.desk_boardings.specs.declared.Boarding.{Boarding}
use Rattle.desk_boardings.specs.declared.BoardedRow.{BoardedRow}
use Rattle.desk_boardings.specs.Boardings.{Tape, Boards}
use Rattle.answer_desk.specs.declared.Day.{Day}
use Rattle.answer_desk.specs.declared.Answered.{Answered}
use Rattle.answer_desk.specs.Answers.{most_text, verdict_in}
use Rattle.answer_desk.specs.Days.{refused_answer, answered_by, rows_lent, boarded_day, boarding_text, boarding_outcome, BoardingAnswered}
use Rattle.answer_desk.specs.Private.{TextSaid, BoardedNow, SaysSo, Rehearsed, Needed}
use Rattle.answer_desk.proofs.Saying.{tells}
use Rattle.answer_desk.proofs.Rooms.{in_room, boards_elsewhere}
use Rattle.answer_desk.proofs.Determined.{boards_once}

-- A refused boarding leaves every row.
pub refused_rows : (len : ℕ) (tape : Tape) (row : List Ticket) (b : Boarding) (before after : Rows) (r : BoardedRow) → Boards len tape row b before r after → is_refusal r.boarded.answer.refusal ≡ true → after ≡ before
unfolding priced_answer
refused_rows len tape row b before after r fits e =
    ⊎_elim (λ t. (fits.refused t).kept)
    (λ n. let plans = (fits.planned n).plans in
    ⊎_elim (λ t. (plans.refused t).kept) (λ p. absurd (true≢false (sym e ∙ ap (λ a. is_refusal a.refusal) (plans.planned p).says)))
    (true_or_false _))
    (true_or_false (refuses (records_verdict len row b.lasts)))

module _ (len : ℕ) (tape : Tape) (day : Day) (b : Boarding) (room out : List ℕ) (done : BoardedRow) (rows : Rows) (boards : Boards len tape day.row b (rows_lent room) done rows)
    (r : Answered) where
  pub now_refused : (v : Verdict) → Err v ≡ checked (verdict_in done.boarded.answer) → r ≡ refused_answer day v → BoardedNow len tape day b room out r rows.room out
  now_refused v said says =
      let s = stopped _ v said in
      let yes : is_refusal done.boarded.answer.refusal ≡ true = s.so in
      record {
        done = done;
        rows = rows;
        boards = boards;
        refused = λ _. record { says = says ∙ ap (refused_answer day) (sym s.is); same_room = ap (λ (x : Rows). x.room) (refused_rows len tape day.row b (rows_lent room) rows done boards yes); same_row = refl };
        most = λ n. absurd (true≢false (sym yes ∙ n));
        told = λ n _. absurd (true≢false (sym yes ∙ n));
      }

  pub now_told : (u : Unit) → Ok u ≡ checked (verdict_in done.boarded.answer) → (w : Written) (out' : List ℕ) → TextSaid most_text (boarding_text day.row done rows) out w out' → r ≡ answered_by day (boarded_day done) w → BoardedNow len tape day b room out r rows.room out'
  now_told u passes w out' said says =
      let no : is_refusal done.boarded.answer.refusal ≡ false = passed _ u passes in
      record {
        done = done;
        rows = rows;
        boards = boards;
        refused = λ y. absurd (true≢false (sym y ∙ no));
        most = λ _. said.few;
        told = λ _ l. tells day (boarding_outcome day.row done rows) out w out' said.handed r says l;
      }

-- The text made in a room and a row of one's own is that of any room of as many words.
pub rehearsed : (len : ℕ) (tape : Tape) (day : Day) (b : Boarding) (mine own : List ℕ) (r : Answered) (mine' own' : List ℕ) (words : ℕ)
    → BoardedNow len tape day b mine own r mine' own' → length mine ≡ min words 65600 → length own ≡ most_text → Rehearsed len tape day b words r.bytes
rehearsed len tape day b mine own r mine' own' words now size takes room is =
    let other = boards_elsewhere len tape day.row b mine room (size ∙ ap (λ n. min n 65600) (sym is)) now.done now.rows now.boards in
    let whole : is_refusal now.done.boarded.answer.refusal ≡ false → r.bytes ≡ length (boarding_text day.row now.done now.rows)
    = λ n. ap (λ (x : Answered). x.bytes) (now.told n (omega (arith, now.most n, takes))).says in
    record {
      done = now.done;
      rows = in_room now.rows other.0;
      boards = other.1;
      none = λ y. ap (λ (x : Answered). x.bytes) (now.refused y).says;
      some = whole;
      most = λ n. omega (arith, whole n, now.most n);
    }

module _ (len : ℕ) (tape : Tape) (day : Day) (b : Boarding) (room out : List ℕ) (n : ℕ) (needs : Needed (length out) len tape day b (length room) n) (r : Answered) where
  -- Else the text goes into the row.
  text_fits : (room' out' : List ℕ) → n ≤ length out → (now : BoardedNow len tape day b room out r room' out') → is_refusal now.done.boarded.answer.refusal ≡ false
      → length (boarding_text day.row now.done now.rows) ≤ length out
  text_fits room' out' l now e =
      ⊎_elim (λ (h : (n ≡ 0) × (most_text ≤ length out)). omega (arith, h.1, now.most e)) (λ (h : Rehearsed len tape day b (length room) n). by_text (h room refl)) needs
    where
      by_text : SaysSo len tape day b room n → length (boarding_text day.row now.done now.rows) ≤ length out
      by_text s =
          let same = boards_once len tape day.row b (rows_lent room) s.done now.done s.rows now.rows s.boards now.boards in
          let text : boarding_text day.row s.done s.rows ≡ boarding_text day.row now.done now.rows
          = ap (λ (x : BoardedRow). boarding_text day.row x s.rows) same.0 ∙ ap (λ (y : Rows). boarding_text day.row now.done y) same.1 in
          let said = s.some (ap (λ (x : BoardedRow). is_refusal x.boarded.answer.refusal) same.0 ∙ e) in
          omega (arith, said, ap length text, l)

  pub board_fits : (room' out' : List ℕ) → n ≤ length out → BoardedNow len tape day b room out r room' out' → BoardingAnswered len tape day b room out r room' out'
  board_fits room' out' l now =
      record {
        done = now.done;
        rows = now.rows;
        boards = now.boards;
        answers = record {
          refused = now.refused;
          most = now.most;
          short = λ e s. absurd (let f = text_fits room' out' l now e in omega (arith, f, s));
          told = now.told;
        };
      }
