-- The numbers of the refusal table, one by one: 1 to 14 and 0 of document 01, the others of the requests after it.
use Rattle.std.specs.Prelude.{◌≡◌}
use Rattle.refusals.specs.declared.Refusal.TheVariants.{Accepted, FileRows, BadFile, WantRows, BadWant, TooManyReads, TurnPrice, HeadPlace, ShortRow, ShortRoom, BadEntry, BadLine, LongSheet, BadName, BadRule, BadTicket, OfficeFull, NotWaiting, NumbersSpent, RetiredRule, BadText, ManyExtents, Overlap, FarFile, OverEightWants, BadSheetCount, BadRecord}
use Rattle.refusals.specs.declared.OwnRefusal.TheVariants.{UnknownPath, NoBytes, OtherWindow, OtherVolume}
use Rattle.refusals.specs.Refusals.{number_of, own_number_of}

-- By its condition: no refusal; the rows of files, a file, the rows of wants, a want, the reads in all, the turn price, the head; a short row, short room, an entry of a
-- list, a line, a long sheet, a name, a rule number; a ticket, an office that is full, one that does not wait, numbers that are spent; the retired rule; a tape's text,
-- its extents, files that overlap, one that lies too far; more wants than eight; a count of sheets; a record of the waiting table.
pub record NumbersOfTheTable : Type 0 where
  pub accepted : number_of Accepted ≡ 0
  pub file_rows : number_of FileRows ≡ 1
  pub bad_file : number_of BadFile ≡ 2
  pub want_rows : number_of WantRows ≡ 3
  pub bad_want : number_of BadWant ≡ 4
  pub many_reads : number_of TooManyReads ≡ 5
  pub turn_price : number_of TurnPrice ≡ 6
  pub head_place : number_of HeadPlace ≡ 7
  pub short_row : number_of ShortRow ≡ 8
  pub short_room : number_of ShortRoom ≡ 9
  pub bad_entry : number_of BadEntry ≡ 10
  pub bad_line : number_of BadLine ≡ 11
  pub long_sheet : number_of LongSheet ≡ 12
  pub bad_name : number_of BadName ≡ 13
  pub bad_rule : number_of BadRule ≡ 14
  pub bad_ticket : number_of BadTicket ≡ 15
  pub office_full : number_of OfficeFull ≡ 16
  pub not_waiting : number_of NotWaiting ≡ 17
  pub numbers_spent : number_of NumbersSpent ≡ 18
  pub retired_rule : number_of RetiredRule ≡ 19
  pub bad_text : number_of BadText ≡ 20
  pub many_extents : number_of ManyExtents ≡ 21
  pub overlap : number_of Overlap ≡ 22
  pub far_file : number_of FarFile ≡ 23
  pub over_eight : number_of OverEightWants ≡ 24
  pub sheet_count : number_of BadSheetCount ≡ 25
  pub bad_record : number_of BadRecord ≡ 26

-- Our own part, from 41 on: a path of no file or of several, a file without bytes, an event for another window, label and index of different volumes.
pub record NumbersOfOurOwn : Type 0 where
  pub unknown_path : own_number_of UnknownPath ≡ 41
  pub no_bytes : own_number_of NoBytes ≡ 42
  pub other_window : own_number_of OtherWindow ≡ 43
  pub other_volume : own_number_of OtherVolume ≡ 44
