-- The worked cases of requests L6 and L7 compute.
use mathlib.Core.Path.{refl}
use Rattle.refusals.specs.Refusals.{first_where}
use Rattle.desk_tickets.specs.WaitingTable.{tickets_in, records_verdict}
use Rattle.desk_tickets.specs.Filings.{file_verdict, file_row}
use Rattle.desk_tickets.specs.Withdrawals.{has_number, without_number, withdraw_verdict, withdraw_row}
use Rattle.desk_boardings.specs.Boarders.{add_want, with_wants}
use Rattle.promises.specs.Desk.{files, withdraws, over, then}
use Rattle.promises.specs.DeskCases.{ShareCases, WantsCase, RowCases, FilingCases, WithdrawalCases, DayCase}

pub share_cases : ShareCases
share_cases = (refl, refl, refl, refl, refl, refl, refl)

pub wants_case : WantsCase
unfolding add_want with_wants
wants_case = refl

pub row_cases : RowCases
unfolding first_where records_verdict
row_cases = (refl, refl, refl, refl, refl, refl, refl, refl, refl, refl)

pub filing_cases : FilingCases
unfolding first_where records_verdict tickets_in file_verdict
filing_cases = (refl, refl, refl, refl, refl, refl, refl)

pub withdrawal_cases : WithdrawalCases
unfolding first_where records_verdict tickets_in has_number without_number withdraw_verdict
withdrawal_cases = (refl, refl, refl, refl, refl)

pub day_case : DayCase
unfolding first_where records_verdict tickets_in file_verdict file_row has_number without_number withdraw_verdict withdraw_row
day_case = then (files refl refl) (then (withdraws refl refl) (then (files refl refl) over))
