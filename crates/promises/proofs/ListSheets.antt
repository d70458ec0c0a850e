-- The sheets of any list, line by line: those of the list that two rows hold.
use Prim.Native.Nat.{ℕ}
use mathlib.Core.Path.{◌≡◌, ap, sym, ◌∙◌}
use mathlib.Core.List.{List, ◌++◌, map}
use native.Mathlib.Omega.{arith}
use lib.ListN.{length}
use Rattle.runs.specs.Run.{stops_of}
use Rattle.runs.specs.Lists.{list_of}
use Rattle.runs.proofs.Entries.{length_list}
use Rattle.walk.specs.declared.Leg.{Leg}
use Rattle.walk.specs.Walk.{head_at, sum_of}
use Rattle.walk.specs.Price.{priced_answer}
use Rattle.walk.specs.AnyHead.{priced_any_answer}
use Rattle.figures.specs.Figures.{figure_of, figures_of}
use Rattle.figures.specs.AnyHead.{figure_any_of, figures_any_of}
use Rattle.figures.specs.Private.{PriceableAny}
use Rattle.figures.proofs.AnyHead.{list_any_accepted}
use Rattle.text_pages.specs.Printing.{number_line, pair_lines}
use Rattle.sheet_reader.specs.Lines.{file_key, wants_key, want_key}
use Rattle.sheet_writer.specs.Writing.{top_text, sheet_text}
use Rattle.sheet_writer.specs.PlanSheet.{plan_text}
use Rattle.sheet_writer.specs.AnyHead.{plan_any_text}
use Rattle.sheet_figures.specs.FigureSheet.{figure_lines, figure_page, figure_text}
use Rattle.sheet_figures.specs.AnyHead.{figure_any_text}
use Rattle.demands.proofs.Formed.{formed_by_the_rules}
use Rattle.demands.proofs.Buys.{bought_at}
use Rattle.demands.proofs.AnyJudged.{nothing_judged_any}
use Rattle.demands.proofs.AnyHead.{legs_are_one}
use Rattle.demands.proofs.AnySums.{formed_any_means}
use Rattle.demands.proofs.AnyBuys.{bought_any}
use Rattle.promises.specs.Texts.{triples_on}
use Rattle.promises.specs.PlanLines.{walk_sheet}
use Rattle.promises.specs.ListSheets.{RunSheetLines, PlanSheetLines, PlanAnySheetLines, FigureSheetLines, FigureAnySheetLines}
use Rattle.promises.proofs.Checks.{starts_of, ends_of}
use Rattle.promises.proofs.PlanLines.{pairs_on_lem, triples_on_lem, plan_text_is, any_text_is}
use Rattle.promises.proofs.BuysLines.{figures_said}

-- A text of two rows is that of the halves of their list.
by_halves : (text_of : List ℕ → List ℕ → List ℕ) (froms tos : List ℕ) → length froms ≡ length tos → text_of froms tos ≡ text_of (map (λ d. d.from) (list_of froms tos)) (map (λ d. d.to) (list_of froms tos))
by_halves text_of froms tos even =
    ap (λ f. text_of f tos) (sym (starts_of froms tos even)) ∙ ap (λ t. text_of (map (λ d. d.from) (list_of froms tos)) t) (sym (ends_of froms tos even))

pub run_sheet_lines : RunSheetLines
unfolding sheet_text top_text
run_sheet_lines name r =
    let top = top_text name r.head r.turn (length r.starts) in
    let wants = number_line wants_key (length r.numbers) in
    ap (λ t. top ++ t ++ wants ++ pair_lines want_key r.numbers r.counts) (triples_on_lem file_key r.starts r.lengths r.aggregates)
    ∙ ap (λ t. top ++ triples_on file_key r.starts r.lengths r.aggregates ++ wants ++ t) (pairs_on_lem want_key r.numbers r.counts)

pub plan_sheet_lines : PlanSheetLines
plan_sheet_lines name r froms tos even = by_halves (plan_text name r) froms tos even ∙ plan_text_is name r (list_of froms tos)

pub plan_any_sheet_lines : PlanAnySheetLines
plan_any_sheet_lines name r froms tos legs nothing even formed made =
    let list = list_of froms tos in
    by_halves (plan_any_text name r) froms tos even ∙ any_text_is name r list ∙ ap (walk_sheet name r list) (sym (legs_are_one r nothing list formed legs made))

pub figure_sheet_lines : FigureSheetLines
unfolding figure_text figure_page priced_answer
figure_sheet_lines name r froms tos even rules =
    let list = list_of froms tos in
    record {
      figures = figure_lines (map (λ d. d.from) list) (map (λ d. d.to) list) (figures_of r list);
      each = figures_said _ (figure_of r list) (length list) (λ i l. bought_at r list i l ((formed_by_the_rules (stops_of r) list).1 rules)) list 0 (omega arith);
      whole = by_halves (λ f t. figure_page name (priced_answer r list) f t (figures_of r list)) froms tos even;
    }

pub figure_any_sheet_lines : FigureAnySheetLines
unfolding figure_any_text figure_page priced_any_answer
figure_any_sheet_lines name r froms tos legs nothing even formed made =
    let list = list_of froms tos in
    let priceable : PriceableAny r froms tos = record { run = nothing_judged_any r nothing; list = list_any_accepted r.head (stops_of r) froms tos even ((formed_any_means r nothing list).1 formed) } in
    let text = figure_page name (priced_any_answer r list) in
    record {
      figures = figure_lines (map (λ d. d.from) list) (map (λ d. d.to) list) (figures_any_of r list);
      each = figures_said _ (figure_any_of r list) (length list) (λ i l. bought_any r froms tos priceable i (omega (arith, l, length_list froms tos even))) list 0 (omega arith);
      whole = by_halves (λ f t. text f t (figures_any_of r list)) froms tos even
          ∙ ap
          (λ (gs : List Leg). figure_page name (record { refusal = (priced_any_answer r list).refusal; place = 0; sum = sum_of r.turn (head_at r.head) gs (stops_of r); finish = 0; end = 0; detours = length list })
          (map (λ d. d.from) list) (map (λ d. d.to) list) (figures_any_of r list))
          (sym (legs_are_one r nothing list formed legs made));
    }
