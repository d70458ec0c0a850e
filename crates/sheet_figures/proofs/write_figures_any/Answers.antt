-- 1 to 7, then 13, then 10 as the figures' routine gives it, then 8, then the sheet.
use Rattle.std.proofs.Common.{rules}
use mathlib.Core.Path.{sym, ◌∙◌}
use native.Mathlib.Omega.{arith}
use Rattle.sheet_writer.proofs.Sheets.{refused_handed, page_handed}
use Rattle.sheet_figures.proofs.Figures.{figures_refused, figures_list_refused, few_figures, figures_last, figures_count, figures_fit, figures_wrote}
use Rattle.sheet_figures.proofs.write_figures_any.Goals as goal

pub returns-in-Err : goal.returns-in-Err
returns-in-Err c = refused_handed _ _ _ _ _ _ (figures_refused _ _ _ _ _ _ c.in-Err.ensures) c.answer_to.ensures

pub returns-in-Err-told : goal.returns-in-Err-told
returns-in-Err-told c =
    let good = sym c.in_default.is ∙ c.judge_sheet-judged.ensures in
    refused_handed _ _ _ _ _ _ (figures_list_refused _ _ _ _ _ _ good _ (search rules) _ c.figures_any-answer.ensures.value _ c.in-Err-told.ensures) c.answer_to-in-Err-told.ensures

pub slice_bounds-row-end : goal.slice_bounds-row-end
slice_bounds-row-end c =
    let good = sym c.in_default.is ∙ c.judge_sheet-judged.ensures in
    omega (arith, few_figures _ _ _ _ c.args.out.now _ good _ (search rules) _ c.figures_any-answer.ensures.value _ (sym c.in_default-told.is ∙ c.told.ensures))

pub slice_bounds-put_figure_sheet-end-2 : goal.slice_bounds-put_figure_sheet-end-2
slice_bounds-put_figure_sheet-end-2 c =
    let good = sym c.in_default.is ∙ c.judge_sheet-judged.ensures in
    let figured = c.figures_any-answer.ensures in
    figures_count _ _ _ _ c.args.out.now _ good _ (search rules) _ figured.value _ (sym c.in_default-told.is ∙ c.told.ensures) _ figured.row_after

pub put_figure_sheet-bytes-requires : goal.put_figure_sheet-bytes-requires
put_figure_sheet-bytes-requires c =
    let good = sym c.in_default.is ∙ c.judge_sheet-judged.ensures in
    let figured = c.figures_any-answer.ensures in
    figures_fit _ _ _ _ c.args.out.now _ good _ (search rules) _ figured.value _ (sym c.in_default-told.is ∙ c.told.ensures) _ figured.row_after _ (search rules)

pub returns : goal.returns
returns c =
    let good = sym c.in_default.is ∙ c.judge_sheet-judged.ensures in
    let listed = sym c.in_default-told.is ∙ c.told.ensures in
    let figured = c.figures_any-answer.ensures in
    let wrote = figures_wrote _ _ _ _ c.args.out.now _ good _ (search rules) _ figured.value _ listed _ figured.row_after _ _ _ c.put_figure_sheet-bytes.ensures in
    page_handed _ _ _ _ _ wrote _ _ (figures_last _ _ _ _ _ _ good _ (search rules) _ figured.value _ listed) _ _ c.hand_out.ensures
