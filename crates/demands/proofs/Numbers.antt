-- Each number of the table, by reading it off.
use mathlib.Core.Path.{refl}
use Rattle.demands.specs.Numbers.{NumbersOfTheTable, NumbersOfOurOwn}

pub numbers_of_the_table : NumbersOfTheTable
numbers_of_the_table =
    record {
      accepted = refl;
      file_rows = refl;
      bad_file = refl;
      want_rows = refl;
      bad_want = refl;
      many_reads = refl;
      turn_price = refl;
      head_place = refl;
      short_row = refl;
      short_room = refl;
      bad_entry = refl;
      bad_line = refl;
      long_sheet = refl;
      bad_name = refl;
      bad_rule = refl;
      bad_ticket = refl;
      office_full = refl;
      not_waiting = refl;
      numbers_spent = refl;
      retired_rule = refl;
      bad_text = refl;
      many_extents = refl;
      overlap = refl;
      far_file = refl;
      over_eight = refl;
      sheet_count = refl;
      bad_record = refl;
    }

pub numbers_of_our_own : NumbersOfOurOwn
numbers_of_our_own = record { unknown_path = refl; no_bytes = refl; other_window = refl; other_volume = refl }
