-- The window of all stops behind the first.
use Rattle.engine_plain.proofs.Listed.{whole_none, whole_asked, whole_fits}
use Rattle.engine_plain.proofs.writing.write_list.Goals as goal

pub returns-then-stops-eq0 : goal.returns-then-stops-eq0
returns-then-stops-eq0 c = whole_none _ _ _ _ _ c.requires.stop_rows _ _ c.if-stops-eq0.true

pub write_window-requires : goal.write_window-requires
write_window-requires c =
    let some = c.if-stops-eq0.false in
    record {
      asked = whole_asked _ _ _ _ _ c.requires.stop_rows some;
      list_fits = whole_fits _ _ _ _ _ c.requires.stop_rows _ _ some c.requires.lefts_in_bounds c.requires.lefts_in_bounds_2;
    }
