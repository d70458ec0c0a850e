-- Each event by the call is a line answered at the desk, so a journal of those that were accepted gives the day that they leave.
use Prim.Native.Nat.{ℕ}
use mathlib.Core.Path.{◌≡◌, sym, subst}
use mathlib.Core.List.{List}
use lib.ListN.{length}
use borrow.Author.Tests.{le-ltb}
use Rattle.text_lines.specs.Lines.{line_of}
use Rattle.desk_boardings.specs.Boardings.{Tape}
use Rattle.answer_desk.specs.Events.{event_of}
use Rattle.answer_desk.specs.Days.{EventAnswered}
use Rattle.boundary_desk.specs.Records.{table_at, lasts_in, places_if}
use Rattle.promises.specs.DeskDays.{Exchange, Turned, Held}
use Rattle.promises.proofs.DeskDays.{refused_event_changes_nothing}
use Rattle.promises.proofs.DeskReplay.{journal_of_a_day}
use Rattle.promises_calls.specs.DeskCalls.{day_in_c}
use Rattle.promises_calls.specs.CallJournal.{EventMade, EventsMade, JournalGivesTheRow}
use Rattle.promises_calls.proofs.EventCalls.{event_call_leaves}

turned : {tape : Tape} {rows rows' : List (List ℕ)} {lasts lasts' : List ℕ} {x : Exchange} → EventMade tape rows lasts x rows' lasts'
    → Turned tape (day_in_c rows lasts) x (day_in_c rows' lasts')
turned {tape} {rows} {rows'} {lasts} {lasts'} {x} e =
    let len = places_if 1 e.sizes (places_if 2 lasts (length rows)) in
    record {
      len = len;
      room = e.room;
      room' = e.room';
      out = e.out;
      out' = e.out';
      places = rw (le-ltb (length e.sizes) 1 e.size, le-ltb (length lasts) 2 e.numbers) e.records;
      words = e.words;
      bytes = e.bytes;
      result = e.called.done;
      fits = subst (λ (line : List ℕ). EventAnswered len tape (day_in_c rows lasts) e.room e.out (event_of (line_of line)) e.called.done e.room' e.out') (sym e.asks) e.called.answers;
      says = e.says;
      leaves = event_call_leaves rows rows' lasts lasts' e.text e.out e.out' e.room e.room' e.sizes e.sizes' tape e.code e.called;
    }

held : {tape : Tape} {rows end : List (List ℕ)} {lasts m : List ℕ} {calls : List Exchange} → EventsMade tape rows lasts calls end m → Held tape (day_in_c rows lasts) calls (day_in_c end m)
held EventsMade.events_over = Held.ends
held (EventsMade.events_then first rest) = Held.goes_on (turned first) (held rest)

pub journal_gives_the_row : JournalGivesTheRow
journal_gives_the_row tape rows end lasts m calls last n journal made replayed same =
    journal_of_a_day refused_event_changes_nothing tape (table_at rows) (table_at end) last (lasts_in lasts) (lasts_in m) n calls journal (held made) replayed same
