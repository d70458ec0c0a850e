-- `buys --any`: no answer is longer than the program's row; each is by the table; and what `buys` prints other than 7 and 9 is printed.
use Prim.Native.Nat.{ℕ, ◌≤◌, ◌<◌}
use mathlib.Core.Path.{◌≡◌, refl, ap, sym, ◌∙◌, subst}
use mathlib.Core.Bool.{Bool, true, false}
use mathlib.Core.List.{List, [], ◌∷◌, map}
use native.Mathlib.Omega.{arith}
use lib.ListN.{length, get_or, take, length-map}
use lib.IntN.{pos}
use mir.Syntax.{w64}
use mir.Val.{SFits}
use Rattle.refusals.specs.declared.Refusal.{Refusal}
use Rattle.refusals.specs.declared.Refusal.TheVariants.{HeadPlace, ShortRoom}
use Rattle.refusals.specs.Refusals.{number_of, is_refusal}
use Rattle.refusals.proofs.Verdicts.{refuses}
use Rattle.runs.specs.Run.{Run, stops_of}
use Rattle.runs.specs.Lists.{Detour, list_of}
use Rattle.runs.specs.AnyHead.{judge_any_of}
use Rattle.runs.proofs.AnyHead.{accepted_any}
use Rattle.runs.proofs.Entries.{length_list}
use Rattle.walk.specs.AnyHead.{run_legs, priced_any_answer}
use Rattle.least.specs.AnyHead.{LeastAny}
use Rattle.engine_stops.proofs.Halves.{list_of_halves, halves_even}
use Rattle.figures.specs.Figures.{without}
use Rattle.figures.specs.AnyHead.{figure_any_of, figures_any_of}
use Rattle.figures.specs.Private.{PriceableAny}
use Rattle.figures.proofs.AnyHead.{list_any_accepted, sum_small, sum_without_small, figure_is, figure_at, figures_length}
use Rattle.text_bytes.specs.Text.{is_name}
use Rattle.sheet_reader.specs.Sheet.{sheet_run, sheet_name}
use Rattle.sheet_figures.specs.FigureSheet.{figure_lines, figure_page}
use Rattle.sheet_figures.specs.AnyHead.{figure_any_text}
use Rattle.answer_plan.specs.Recall.{recall_verdict, Answers}
use Rattle.answer_plan.proofs.Determined.{answers_once}
use Rattle.answer_any.specs.AnyRun.{any_checks, any_verdict}
use Rattle.answer_buys_any.specs.AnyBuys.{BuysAnyOf, SheetBoughtAny}
use Rattle.answer_buys_any.proofs.Determined.{buys_any_once}
use Rattle.answer_buys_any.proofs.Same.{bought_same}
use Rattle.sheet_lists.proofs.AnyTrip.{any_small}
use Rattle.demands.specs.AnyHead.{RunAppliesAny}
use Rattle.demands.specs.AnyBuys.{IsBoughtAny}
use Rattle.demands.proofs.AnyJudged.{judged_nothing_any}
use Rattle.demands.proofs.AnyLegs.{legs_made}
use Rattle.demands.proofs.AnyHead.{least_any_means}
use Rattle.demands.proofs.AnyBuys.{bought_any}
use Rattle.promises.specs.Lengths.{buys_row}
use Rattle.promises.specs.Answers.{WordsApply, room_order, two_lines, PrintedByTheTable}
use Rattle.promises.specs.AnswersAny.{AnyApplies}
use Rattle.promises.specs.AnyFigures.{BuysAnyByTheTable, BuysAnyIsWhole, FiguresToldAny, AnyPrintsAsBuys}
use Rattle.promises.specs.PlanLines.{FiguresAnyPrinted}
use Rattle.promises.proofs.BuysLines.{figures_said}
use Rattle.promises.proofs.Checks.{put_whole}
use Rattle.promises.proofs.Lengths.{some_begun, refusal_short, refusal_begins, verdict_near, takes_all, page_short, less_fits, buys_held}
use Rattle.promises.proofs.Answers.{lines_are, by_the_table, sheet_accepts, room_all}
use Rattle.promises.proofs.AnyLengths.{any_near, any_passes}
use Rattle.promises.proofs.AnswersAny.{any_few, words_own, any_finds}
use Rattle.promises.proofs.AnyRecord.{not_eight, no_eight}
use Rattle.promises.proofs.TwoTexts.{caller_told}

-- The least list of an accepted run, in two rows.
module _ (r : Run) (run : refuses (judge_any_of r) ≡ false) (list : List Detour) (least : LeastAny r list) where
  abbrev froms : List ℕ
  froms = map (λ d. d.from) list

  abbrev tos : List ℕ
  tos = map (λ d. d.to) list

  priceable : PriceableAny r froms tos
  priceable =
      record {
        run = run;
        list = list_any_accepted r.head (stops_of r) froms tos (halves_even (λ d. d.from) (λ d. d.to) list) (rw (list_of_halves list) least.formed);
      }

  figure_fits : (i : ℕ) → i < length froms → SFits w64 (figure_any_of r (list_of froms tos) i)
  figure_fits i l =
      less_fits (priced_any_answer r (without i (list_of froms tos))).sum (priced_any_answer r (list_of froms tos)).sum (sum_without_small r froms tos priceable i l) (sum_small r froms tos priceable) _
      (figure_is r (list_of froms tos) i _ _ refl refl)

  figures_fit_here : (i : ℕ) → i < length (figures_any_of r (list_of froms tos)) → SFits w64 (get_or (figures_any_of r (list_of froms tos)) i (pos 0))
  figures_fit_here i l =
      let many = figures_length r (list_of froms tos) in
      let size = length_list froms tos (halves_even (λ d. d.from) (λ d. d.to) list) in
      subst (SFits w64) (figure_at r (list_of froms tos) i (omega (arith, many))) (figure_fits i (omega (arith, many, size)))

  figures_short_here : (name : List ℕ) → is_name name ≡ true → length (figure_any_text name r froms tos) ≤ buys_row
  unfolding figure_any_text
  figures_short_here name named =
      let small = any_small r froms tos run priceable.list in
      page_short name named (priced_any_answer r (list_of froms tos)) small.sum (omega (arith, small.detours, small.few)) froms tos (omega (arith, small.few)) small.froms small.tos
      (figures_any_of r (list_of froms tos)) figures_fit_here

  each_bought : (i : ℕ) → i < length list → IsBoughtAny r list i (figure_any_of r list i)
  each_bought i l = rw (list_of_halves list) at (bought_any r froms tos priceable i (omega (arith, length-map list (λ d. d.from), l)))

  figures_text_is : (name : List ℕ) → figure_any_text name r froms tos ≡ figure_page name (priced_any_answer r list) froms tos (figures_any_of r list)
  unfolding figure_any_text
  figures_text_is name = ap (λ (l : List Detour). figure_page name (priced_any_answer r l) froms tos (figures_any_of r l)) (list_of_halves list)

  -- Its figure sheet, line by line.
  pub figures_printed : (name text : List ℕ) → text ≡ figure_any_text name r froms tos → FiguresAnyPrinted name r text
  unfolding figure_page priced_any_answer
  figures_printed name text says =
      let made = legs_made r (accepted_any r run) list least.formed in
      record {
        list = list;
        legs = run_legs r list;
        made = made;
        least = least_any_means r (judged_nothing_any r run) list least (run_legs r list) made;
        figures = figure_lines froms tos (figures_any_of r list);
        each = figures_said (IsBoughtAny r list) (figure_any_of r list) (length list) each_bought list 0 (omega arith);
        whole = says ∙ figures_text_is name;
      }

figures_begin : (name : List ℕ) (run : Run) (froms tos : List ℕ) → get_or (figure_any_text name run froms tos) 0 0 ≡ 116
unfolding figure_any_text figure_page
figures_begin name run froms tos = refl

module _ (words : ℕ) (sheet : List ℕ) where
  figures_held : (text : List ℕ) → Answers BuysAnyOf (any_verdict words sheet) (sheet_name sheet) (sheet_run sheet) text → (length text ≤ buys_row) × (0 < length text)
  figures_held text a = go (refuses (any_verdict words sheet)) refl
    where
      go : (b : Bool) → refuses (any_verdict words sheet) ≡ b → (length text ≤ buys_row) × (0 < length text)
      go true e =
          let small = refusal_short (any_verdict words sheet) (omega (arith, verdict_near sheet (any_checks words) (any_near words (sheet_run sheet)))) in
          (omega (arith, ap length (a.refused e), small), some_begun text 113 (ap (λ t. get_or t 0 0) (a.refused e) ∙ refusal_begins (any_verdict words sheet)))
      go false e =
          let p = a.planned e in
          let passed = any_passes words sheet e in
          let small = figures_short_here (sheet_run sheet) passed.1 p.list p.least (sheet_name sheet) passed.0 in
          (omega (arith, ap length p.says, small), some_begun text 115 (ap (λ t. get_or t 0 0) p.says ∙ figures_begin (sheet_name sheet) (sheet_run sheet) _ _))

pub buys_any_is_whole : BuysAnyIsWhole
buys_any_is_whole sheet room =
    takes_all buys_row
    (λ row n row' c. let g = c.1.given in let h = figures_held (length room) sheet g.text g.answers in record { text = g.text; bytes = g.bytes; left = g.left; short = h.0; some = h.1 })
    (λ row n row' other m other' c d. answers_once BuysAnyOf buys_any_once _ _ _ c.1.given.text d.1.given.text c.1.given.answers d.1.given.answers)

figures_begun : (name : List ℕ) (r : Run) (text : List ℕ) → FiguresAnyPrinted name r text → get_or text 0 0 ≡ 116
figures_begun name r text p = ap (λ t. get_or t 0 0) p.whole

pub buys_any_by_the_table : BuysAnyByTheTable
buys_any_by_the_table sheet row room n row' room' c wide =
    let g = c.given in
    let h = figures_held (length room) sheet g.text g.answers in
    subst (PrintedByTheTable (AnyApplies (length room) sheet) room_order (FiguresAnyPrinted (sheet_name sheet) (sheet_run sheet)))
    (sym (put_whole g.text row n row' g.bytes g.left (omega (arith, h.0))))
    (by_the_table (AnyApplies (length room) sheet) room_order room_all (any_verdict (length room) sheet) (any_finds (length room) sheet)
    (sheet_accepts RunAppliesAny any_few (WordsApply (length room)) (words_own (length room)) sheet (any_checks (length room)))
    (FiguresAnyPrinted (sheet_name sheet) (sheet_run sheet)) g.text (figures_begun (sheet_name sheet) (sheet_run sheet) g.text) g.answers.refused
    (λ e. let p = g.answers.planned e in figures_printed (sheet_run sheet) (any_passes (length room) sheet e).1 p.list p.least (sheet_name sheet) g.text p.says))

-- For a caller.
module _ (sheet room out : List ℕ) (n : ℕ) (out' room'' : List ℕ) (d : SheetBoughtAny sheet out room n out' room'') (wide : buys_row ≤ length out) where
  whole : take n out' ≡ d.given.text
  whole = let g = d.given in let h = figures_held (length room) sheet g.text g.answers in put_whole g.text out n out' g.bytes g.left (omega (arith, h.0))

  asked_for : refuses (any_verdict (length room) sheet) ≡ false → FiguresAnyPrinted (sheet_name sheet) (sheet_run sheet) (take n out')
  asked_for e =
      let p = d.given.answers.planned e in
      figures_printed (sheet_run sheet) (any_passes (length room) sheet e).1 p.list p.least (sheet_name sheet) (take n out') (whole ∙ p.says)

pub figures_told_any : FiguresToldAny
figures_told_any sheet row room out w row' room' n out' room'' c d wide =
    let is = whole sheet room out n out' room'' d wide in
    let told = caller_told (BuysAnyOf (sheet_name sheet) (sheet_run sheet)) (FiguresAnyPrinted (sheet_name sheet) (sheet_run sheet)) sheet (any_verdict (length room) sheet)
    (λ eight. not_eight (AnyApplies (length room) sheet) room_order no_eight (any_finds (length room) sheet) (ap number_of eight)) row room w row' room' (take n out') c.refused c.figured c.cleared
    (λ e. is ∙ d.given.answers.refused e)
    (λ e. buys_any_once (sheet_name sheet) (sheet_run sheet) (c.figured e).text d.given.text (c.figured e).asked (d.given.answers.planned e) ∙ sym is)
    (asked_for sheet room out n out' room'' d wide)
    (λ e. (any_passes (length room) sheet e).1) in
    (told.0, (told.1, c.cleared ∙ sym d.cleared))

-- What `buys` prints other than 7 and 9.
pub any_prints_as_buys : AnyPrintsAsBuys
any_prints_as_buys sheet row room n m row' row'' room' c d wide enough place short =
    let h = buys_held sheet c.text c.answers in
    let printed : take n row' ≡ c.text = put_whole c.text row n row' c.bytes c.left (omega (arith, h.0)) in
    let told : (kind : Refusal) → is_refusal kind ≡ true → (recall_verdict sheet).refusal ≡ kind → take n row' ≡ two_lines kind (recall_verdict sheet).place =
    λ kind refuses-so is. printed ∙ c.answers.refused (ap is_refusal is ∙ refuses-so) ∙ lines_are (recall_verdict sheet) ∙ ap (λ k. two_lines k (recall_verdict sheet).place) is in
    let same = bought_same sheet (length room) enough (λ is. place _ (told HeadPlace refl is)) (λ is. short _ (told ShortRoom refl is)) row room n m row' row'' room' refl c d in
    rw (same.0, same.1)
