-- The texts of answers: a line of a pair for a filing and a withdrawal, the plan and the tickets that leave for a boarding.
use Rattle.std.specs.Prelude.{ℕ, suc, cond, List, [], ◌∷◌, ◌++◌, get_or, take, eqb}
use Rattle.refusals.specs.declared.Verdict.{Verdict}
use Rattle.walk.specs.declared.Answer.{Answer}
use Rattle.text_bytes.specs.Text.{bytes, comma, decimal}
use Rattle.text_pages.specs.Printing.{number_line, pair_text, pair_line, pair_lines, triple_line}
use Rattle.sheet_writer.specs.PlanSheet.{sum_key, finish_key, end_key, detours_key, detour_key}
use Rattle.desk_tickets.specs.declared.Ticket.{Ticket}
use Rattle.desk_boardings.specs.declared.Taken.{Taken}
use Rattle.desk_boardings.specs.declared.Boarded.{Boarded}
use Rattle.desk_boardings.specs.Boarders.{boarders}
use Rattle.answer_desk.specs.declared.Reads.{Reads}

-- No text is longer than this: for a boarding 157 bytes for the first lines, 49 for each of 8 detours and 133 for each of 8 tickets of each office.
abbrev pub most_text : ℕ
most_text = 2677

-- The keys.
abbrev pub filed_key : List ℕ
filed_key = bytes "filed="

abbrev pub withdrawn_key : List ℕ
withdrawn_key = bytes "withdrawn="

abbrev pub boarded_key : List ℕ
boarded_key = bytes "boarded="

abbrev pub ticket_key : List ℕ
ticket_key = bytes "ticket="

-- The place of a file among some numbers, counted from 0; behind them all where it is none of them.
unfoldable pub place_in : ℕ → List ℕ → ℕ
place_in file [] = 0
place_in file (n ∷ ns) = cond (eqb n file) 0 (suc (place_in file ns))

-- What stands for a file in a row that goes by these numbers.
abbrev pub value_for : ℕ → List ℕ → List ℕ → ℕ
value_for file numbers values = get_or values (place_in file numbers) 0

-- `ticket=OFFICE,NUMBER,FILE,COUNT,TIME,LEG`.
abbrev pub ticket_line : Ticket → ℕ → ℕ → List ℕ
ticket_line t time leg =
    ticket_key ++ pair_text t.office t.number ++ (comma ∷ []) ++ decimal t.file ++ triple_line (comma ∷ []) t.count time leg

-- A ticket is closed with the time and the leg of its own file, which is one of the wants; and each of some tickets, in their order.
abbrev pub closed_line : Reads → Ticket → List ℕ
closed_line reads t =
    ticket_line t (value_for t.file reads.numbers reads.times) (value_for t.file reads.numbers reads.legs)

unfoldable pub closed_lines : Reads → List Ticket → List ℕ
closed_lines reads [] = []
closed_lines reads (t ∷ ts) = closed_line reads t ++ closed_lines reads ts

-- The first five lines: who boards, and the plan's numbers.
unfoldable pub boarded_top : Taken → Answer → List ℕ
boarded_top taken a =
    pair_line boarded_key taken.one taken.two
    ++ number_line sum_key a.sum
    ++ number_line finish_key a.finish
    ++ number_line end_key a.end
    ++ number_line detours_key a.detours

-- Then the detours, and the tickets: office 1's in order of filing, then office 2's.
unfoldable pub boarded_text : List Ticket → Boarded → List ℕ → List ℕ → Reads → List ℕ
boarded_text row b froms tos reads =
    boarded_top b.taken b.answer
    ++ pair_lines detour_key (take b.answer.detours froms) (take b.answer.detours tos)
    ++ closed_lines reads (boarders row)

-- The verdict in a plan's answer.
abbrev pub verdict_in : Answer → Verdict
verdict_in a = record { refusal = a.refusal; place = a.place }
