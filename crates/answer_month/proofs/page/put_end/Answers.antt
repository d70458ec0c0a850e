-- What the plans save, and the lines of a refusal.
use mathlib.Core.Path.{sym, ◌∙◌}
use Rattle.answer_month.proofs.Pages.{put_saved, put_refused}
use Rattle.answer_month.proofs.page.put_end.Goals as goal

pub returns-then-is_ok : goal.returns-then-is_ok
returns-then-is_ok c = put_saved _ _ _ c.told.ensures _ _ _ _ c.requires c.put_number_line-end.ensures (sym c.is_ok.ensures.value ∙ c.if-is_ok.true)

pub returns : goal.returns
returns c =
    put_refused _ _ _ c.told.ensures _ _ _ _ c.requires c.put_number_line-end.ensures (sym c.is_ok.ensures.value ∙ c.if-is_ok.false) _ c.number.ensures _ _ _ _
    c.put_number_line-place.ensures c.put_number_line.ensures
