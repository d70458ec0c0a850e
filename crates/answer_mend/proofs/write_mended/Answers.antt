-- What stands on the pages is handed out.
use Rattle.answer_mend.proofs.Answers.{page_part, page_text_lem, texts_handed}
use Rattle.answer_mend.proofs.write_mended.Goals as goal

pub slice_bounds-hand_both-end : goal.slice_bounds-hand_both-end
slice_bounds-hand_both-end c = page_part _ _ _ _ _ c.put_sheet-bytes.ensures

pub slice_bounds-hand_both-end-2 : goal.slice_bounds-hand_both-end-2
slice_bounds-hand_both-end-2 c = page_part _ _ _ _ _ c.put_changes-noted.ensures

pub returns : goal.returns
returns c =
    texts_handed _ _ _ _ _ _ _ _ _ (page_text_lem _ _ _ _ _ c.put_sheet-bytes.ensures) (page_text_lem _ _ _ _ _ c.put_changes-noted.ensures) c.hand_both.ensures
