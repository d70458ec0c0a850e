-- One line of an event, and the lines of who waits.
use Prim.Native.Nat.{ℕ, suc}
use mathlib.Core.Path.{◌≡◌, refl, sym, ap, ◌∙◌}
use mathlib.Core.Bool.{true, false, true≢false}
use mathlib.Core.Logic.{⊎_elim}
use mathlib.Core.List.{List, [], ◌∷◌, ◌++◌}
use Rattle.std.specs.Prelude.{None}
use Rattle.runs.proofs.Search.{true_or_false}
use Rattle.text_bytes.specs.Text.{line_feed, has, before, behind, is_empty, starts_with}
use Rattle.text_bytes.proofs.Bytes.{and_true_both}
use Rattle.text_bytes.proofs.Split.{split_at, behind_here, none_before}
use Rattle.text_bytes.proofs.Decimals.{has_append}
use Rattle.text_lines.specs.Lines.{line_of, is_pair_line, is_triple_line}
use Rattle.desk_tickets.specs.declared.Ticket.{Ticket}
use Rattle.desk_tickets.specs.WaitingTable.{waiting}
use Rattle.answer_desk.specs.Events.{pair_event_of, event_of}
use Rattle.desk_waits.specs.Waits.{waits_lines, waiting_text}
use Rattle.boundary_desk.specs.Calls.{is_line}
use Rattle.demands.proofs.Letters.{no_feed, none_fed}
use Rattle.promises_calls.specs.CallLines.{IsOneLine, OneLineIsTaken, WaitOn, WaitingByItsLines}

-- The lines of who waits.
wait_on : (ahead : ℕ) (ts : List Ticket) → WaitOn ahead ts (waits_lines ahead ts)
unfolding waits_lines
wait_on ahead [] = WaitOn.nobody
wait_on ahead (t ∷ ts) = WaitOn.one_more (wait_on (suc ahead) ts)

lines_from : ((ahead : ℕ) (ts : List Ticket) → WaitOn ahead ts (waits_lines ahead ts)) → WaitingByItsLines
unfolding waiting_text
lines_from on row =
    record { ones = waits_lines 0 (waiting 1 row); twos = waits_lines 0 (waiting 2 row); of_one = on 0 (waiting 1 row); of_two = on 0 (waiting 2 row); whole = refl }

pub waiting_by_its_lines : WaitingByItsLines
waiting_by_its_lines = lines_from wait_on

-- One line.
empty_so : (rest : List ℕ) → is_empty rest ≡ true → rest ≡ []
empty_so [] e = refl
empty_so (b ∷ rest) e = absurd (true≢false (sym e))

line_so : (line : List ℕ) → is_line line ≡ true → IsOneLine line
line_so line e =
    let both = and_true_both (has line_feed line) (is_empty (behind line_feed line)) e in
    record { text = before line_feed line; plain = none_fed (before line_feed line) (none_before line_feed line); is = split_at line_feed line both.0 ∙ ap (λ t. before line_feed line ++ (line_feed ∷ t)) (empty_so (behind line_feed line) both.1) }

so_line : (line : List ℕ) → IsOneLine line → is_line line ≡ true
unfolding has
so_line line one =
    let plain = no_feed one.text one.plain in
    rw (one.is, has_append line_feed one.text (line_feed ∷ []), plain, behind_here line_feed one.text [] plain)

nothing_is_no_event : event_of (line_of []) ≡ None
unfolding event_of pair_event_of line_of is_triple_line is_pair_line starts_with has
nothing_is_no_event = refl

pub one_line_is_taken : OneLineIsTaken
one_line_is_taken line = (
  λ one. rw (so_line line one),
  λ none. ⊎_elim (λ (e : is_line line ≡ true). absurd (none (line_so line e))) (λ (e : is_line line ≡ false). rw e nothing_is_no_event) (true_or_false (is_line line)),
)
