-- A boarding in another room: eight wants at most, with 1,024 reads, ask for at most 65,600 words; so a room of that many words, or of as many as the other
-- has, is as good as the other.
use Prim.Native.Nat.{ℕ, ◌+◌, ◌*◌, ◌≤◌, min}
use mathlib.Core.Path.{◌≡◌, sym, ap, ◌∙◌}
use mathlib.Core.Bool.{true, false, true≢false}
use mathlib.Core.Logic.{⊎_elim}
use mathlib.Core.List.{List, [], ◌∷◌, ◌++◌}
use native.Mathlib.Omega.{arith}
use native.Mathlib.Nat.{mul-le-mul}
use native.Mathlib.Decide.{dec_lt}
use lib.Dec.{ltb}
use lib.ListN.{length, take, drop, replicate, length-append, length-map}
use lib.Seq.{length-take-le}
use borrow.Author.Tests.{lt-ltb, le-ltb}
use Rattle.refusals.proofs.Verdicts.{refuses}
use Rattle.runs.specs.Run.{Run, total, stops_of}
use Rattle.runs.specs.Judging.{judge_of}
use Rattle.runs.proofs.Judged.{accepted_run}
use Rattle.runs.proofs.Search.{true_or_false}
use Rattle.runs.proofs.Stops.{stops_few}
use Rattle.walk.specs.Price.{refusal_answer}
use Rattle.planner.specs.Plan.{plan_verdict, room_for, Plans}
use Rattle.planner.specs.Rows.{Rows, rows_of}
use Rattle.desk_tickets.specs.declared.Ticket.{Ticket}
use Rattle.desk_tickets.specs.WaitingTable.{waiting, records_verdict}
use Rattle.desk_boardings.specs.declared.Boarding.{Boarding}
use Rattle.desk_boardings.specs.declared.BoardedRow.{BoardedRow}
use Rattle.desk_boardings.specs.Boarders.{Want, want_of, add_want, with_wants, wants_of, share_one, share_two, boarders}
use Rattle.desk_boardings.specs.Boardings.{Tape, board_run, Boards}
use Rattle.desk_boardings.proofs.Adding.{add_longer}
use Rattle.desk_boardings.proofs.Who.{share_within, shares_fit}
use Rattle.answer_desk.specs.Days.{rows_lent}

-- Eight wants at most.
with_longer : (ws : List Want) (ts : List Ticket) → length (with_wants ws ts) ≤ length ws + length ts
unfolding with_wants
with_longer ws [] = omega arith
with_longer ws (t ∷ ts) = let rest = with_longer (add_want (want_of t) ws) ts in omega (arith, rest, add_longer (want_of t) ws)

boarders_few : (row : List Ticket) → length (boarders row) ≤ 8
boarders_few row =
    let a = length-take-le (share_one row) (waiting 1 row) (share_within (length (waiting 1 row)) (length (waiting 2 row))) in
    let b = length-take-le (share_two row) (waiting 2 row) (share_within (length (waiting 2 row)) (length (waiting 1 row))) in
    rw (length-append (take (share_one row) (waiting 1 row)) (take (share_two row) (waiting 2 row)), a, b) (shares_fit (length (waiting 1 row)) (length (waiting 2 row)))

pub wants_few : (tape : Tape) (row : List Ticket) (b : Boarding) → length (board_run tape row b).numbers ≤ 8
unfolding wants_of
wants_few tape row b = omega (arith, length-map (with_wants [] (boarders row)) (λ w. w.file), with_longer [] (boarders row), boarders_few row)

pub product_few : (s t : ℕ) → s ≤ 8 → t ≤ 1024 → s * s * (t + 1) ≤ 65600
product_few s t a b = let m : t + 1 ≤ 1025 = omega arith in mul-le-mul (mul-le-mul a a) m

pub room_few : (tape : Tape) (row : List Ticket) (b : Boarding) → refuses (judge_of (board_run tape row b)) ≡ false → room_for (board_run tape row b) ≤ 65600
room_few tape row b e =
    let run = board_run tape row b in
    let good = accepted_run run e in
    product_few (length (stops_of run)) (total run.counts) (omega (arith, stops_few run good, wants_few tape row b)) good.wants.reads

-- Whether a room is too short, by the lesser of its length and 65,600.
short_alike : (a q : ℕ) → q ≤ 65600 → ltb (min a 65600) q ≡ ltb a q
short_alike a q l = elim (dec_lt a q) [ yes h ↦ lt-ltb (min a 65600) q (omega arith) ∙ sym (lt-ltb a q h) | no n ↦ le-ltb (min a 65600) q (omega arith) ∙ sym (le-ltb a q (omega arith)) ]

-- The same rows with another room.
abbrev pub in_room : Rows → List ℕ → Rows
in_room rows room = rows_of rows.froms rows.tos rows.times rows.legs room

module _ (len : ℕ) (tape : Tape) (row : List Ticket) (b : Boarding) (mine room : List ℕ) (size : length mine ≡ min (length room) 65600) where
  abbrev run : Run
  run = board_run tape row b

  same_verdict_here : plan_verdict run (rows_lent room) ≡ plan_verdict run (rows_lent mine)
  unfolding plan_verdict
  same_verdict_here =
      ⊎_elim
      (λ (e : refuses (judge_of run) ≡ true). rw e)
      (λ (e : refuses (judge_of run) ≡ false).
      let alike : ltb (length room) (room_for run) ≡ ltb (length mine) (room_for run) = sym (ap (λ n. ltb n (room_for run)) size ∙ short_alike (length room) (room_for run) (room_few tape row b e)) in
      rw alike)
      (true_or_false (refuses (judge_of run)))

  module _ (done : BoardedRow) (rows : Rows) where
    plans_elsewhere : Plans run (rows_lent mine) done.boarded.answer rows → (x : List ℕ) × Plans run (rows_lent room) done.boarded.answer (in_room rows x)
    plans_elsewhere plans =
        ⊎_elim
        (λ (t : refuses (plan_verdict run (rows_lent mine)) ≡ true).
        let r = plans.refused t in (
          room,
          record {
            refused = λ _. record { says = r.says ∙ ap refusal_answer (sym same_verdict_here); kept = ap (λ (z : Rows). in_room z room) r.kept };
            planned = λ p. absurd (true≢false (sym t ∙ ap refuses (sym same_verdict_here) ∙ p));
          },
        ))
        (λ (f : refuses (plan_verdict run (rows_lent mine)) ≡ false).
        let p = plans.planned f in
        let x = replicate (room_for run) 0 ++ drop (room_for run) room in (
          x,
          record {
            refused = λ t. absurd (true≢false (sym t ∙ ap refuses same_verdict_here ∙ f));
            planned = λ _. record { list = p.list; least = p.least; says = p.says; rows = ap (λ (z : Rows). in_room z x) p.rows };
          },
        ))
        (true_or_false (refuses (plan_verdict run (rows_lent mine))))

    -- What is answered in one room is answered in the other, and left in the rows beside it.
    pub boards_elsewhere : Boards len tape row b (rows_lent mine) done rows → (x : List ℕ) × Boards len tape row b (rows_lent room) done (in_room rows x)
    boards_elsewhere boards =
        ⊎_elim
        (λ (t : refuses (records_verdict len row b.lasts) ≡ true).
        let r = boards.refused t in (
          room,
          record {
            refused = λ _. record { says = r.says; kept = ap (λ (z : Rows). in_room z room) r.kept };
            planned = λ n. absurd (true≢false (sym t ∙ n));
          },
        ))
        (λ (n : refuses (records_verdict len row b.lasts) ≡ false).
        let p = boards.planned n in
        let other = plans_elsewhere p.plans in (
          other.0,
          record {
            refused = λ t. absurd (true≢false (sym t ∙ n));
            planned = λ _. record { plans = other.1; says = p.says };
          },
        ))
        (true_or_false (refuses (records_verdict len row b.lasts)))
