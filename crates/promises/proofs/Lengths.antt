-- No answer is longer than the row that its program lends: how far the place of a refusal can lie, how long the lines are, and so the texts.
use Prim.Native.Nat.{ℕ, zero, suc, ◌+◌, ◌-◌, ◌*◌, ◌^◌, ◌≤◌, ◌<◌}
use mathlib.Core.Path.{◌≡◌, refl, ap, sym, ◌∙◌, subst}
use mathlib.Core.Bool.{Bool, true, false, cond, not}
use mathlib.Core.Logic.{⊎_elim}
use mathlib.Core.List.{List, [], ◌∷◌, ◌++◌, map}
use native.Mathlib.Omega.{arith}
use lib.ListN.{length, get_or, take, drop, length-append}
use lib.Seq.{take-append_seam, drop-append_seam}
use lib.Dec.{ltb, leb}
use lib.IntN.{ℤ, pos, negsuc, ◌-ℤ◌}
use mir.Syntax.{w64}
use mir.Val.{SFits}
use mir.ValLaws.{to_z-of_z}
use borrow.Author.Tests.{leb-true, le-ltb, ltb-true, ltb-false}
use Rattle.refusals.specs.declared.Refusal.{Refusal}
use Rattle.refusals.specs.declared.Refusal.TheVariants.{BadLine, LongSheet, RetiredRule, ShortRoom, WantRows, OverEightWants}
use Rattle.refusals.specs.declared.Verdict.{Verdict}
use Rattle.refusals.specs.Refusals.{number_of, refuse_if, refuse_at, first_of}
use Rattle.refusals.proofs.Verdicts.{refuses, first_refuses, first_passes, none_refuses, all_accept, number_small}
use Rattle.runs.specs.Run.{Run, stops_of, total, most_wants}
use Rattle.runs.specs.Judging.{right_end, table_checks, wants_checks, head_checks, judge_of}
use Rattle.runs.specs.Lists.{list_of}
use Rattle.runs.proofs.Search.{true_or_false, first_within}
use Rattle.runs.proofs.Entries.{length_list}
use Rattle.walk.specs.declared.Answer.{Answer}
use Rattle.walk.specs.Price.{priced_answer, priced_times, priced_legs}
use Rattle.walk.proofs.Places.{place_most, AllNear, first_near, if_near, judge_near}
use Rattle.least.proofs.LeastList.{least_unique}
use Rattle.planner.specs.Plan.{room_for}
use Rattle.figures.specs.Figures.{without, figure_of, figures_of}
use Rattle.figures.specs.Private.{Priceable}
use Rattle.figures.proofs.Answers.{sum_small, sum_without_small, figures_length, figure_at}
use Rattle.figures.proofs.Differences.{word_fits, difference_is, figure_is}
use Rattle.engine_plain.specs.Plain.{uneven_wants, most_plain_wants}
use Rattle.text_bytes.specs.Text.{comma, is_name, is_empty, decimal}
use Rattle.text_bytes.proofs.Bytes.{and_true_both}
use Rattle.text_lines.specs.Lines.{line_of, line_after, is_number_line, number_behind, is_pair_line, is_triple_line, first_bad_of}
use Rattle.text_pages.specs.Printing.{line, number_line, pair_text}
use Rattle.text_pages.proofs.Pages.{decimal_digits, decimal_short}
use Rattle.sheet_reader.specs.Lines.{tape_key, head_key, files_key, file_key, wants_key, want_key, is_tape_line, is_count_line, is_turn_line, is_rule_line}
use Rattle.sheet_reader.specs.Sheet.{longest_sheet, most_sheet_files, says_sweep, sheet_files, file_text, wants_text, sheet_wants, want_text, end_text, unless, shifted, first_some, first_bad_top, first_bad_below, first_bad_line, sheet_run, sheet_name}
use Rattle.sheet_reader.specs.Reading.{sheet_verdict, rule_verdict}
use Rattle.sheet_reader.proofs.Good.{good_name}
use Rattle.sheet_writer.specs.RefusalLines.{refused_key, place_key, refusal_text}
use Rattle.sheet_writer.specs.PlanSheet.{sum_key, detours_key, plan_top, plan_lines, plan_text}
use Rattle.sheet_writer.proofs.Sheets.{name_length}
use Rattle.sheet_figures.specs.FigureSheet.{buys_key, signed, figure_line, figure_lines, figure_page, figure_text}
use Rattle.sheet_writer.proofs.RoundTrip.{SmallRow}
use Rattle.sheet_lists.proofs.RoundTrip.{PlanSmall, plan_small, plan_short}
use Rattle.answer_plan.specs.Recall.{run_checks, room_words, verdict_by, recall_verdict, AnswersRun, SheetRecalledBy, bytes_put, row_put}
use Rattle.answer_plan.proofs.Determined.{answer_once}
use Rattle.answer_field.specs.Field.{field_checks}
use Rattle.answer_buys.specs.Buys.{BuysText, AnswersBuys}
use Rattle.promises.specs.Lengths.{LeftIn, TakesAll, plan_row, buys_row, PlanIsWhole, FieldIsWhole, BuysIsWhole}
use Rattle.promises.proofs.Checks.{put_whole, rows_accepted}

-- A text that begins with a byte has one.
pub some_begun : (text : List ℕ) (c : ℕ) → get_or text 0 0 ≡ suc c → 0 < length text
some_begun [] c e = absurd (omega (arith, e))
some_begun (b ∷ text) c e = omega arith

-- What is said of the text in a row: that it is the contract's, no longer than a number, and not empty.
pub record Held (most : ℕ) (row : List ℕ) (n : ℕ) (row' : List ℕ) : Type 0 where
  pub text : List ℕ
  pub bytes : n ≡ bytes_put text row
  pub left : row' ≡ row_put text row
  pub short : length text ≤ most
  pub some : 0 < length text

put_bytes : (text row : List ℕ) (n : ℕ) → n ≡ bytes_put text row → length text ≤ length row → n ≡ length text
unfolding bytes_put
put_bytes text row n e l = e ∙ rw (le-ltb (length row) (length text) l)

-- What a text leaves in any row.
left_in : (text row : List ℕ) (n : ℕ) (row' : List ℕ) → n ≡ bytes_put text row → row' ≡ row_put text row → LeftIn text row n row'
unfolding bytes_put row_put
left_in text row n row' bytes left = go (ltb (length row) (length text)) refl
  where
    go : (b : Bool) → ltb (length row) (length text) ≡ b → LeftIn text row n row'
    go true t =
        let l = ltb-true (length row) (length text) t in
        let none : n ≡ 0 = bytes ∙ rw t in
        let same : row' ≡ row = left ∙ rw t in
        record { whole = λ fits. absurd (omega (arith, fits, l)); short = λ _. none; behind = rw (none, same) }
    go false f =
        let l = ltb-false (length row) (length text) f in
        let size : n ≡ length text = bytes ∙ rw f in
        let is : row' ≡ text ++ drop (length text) row = left ∙ rw f in
        record {
          whole = λ _. (size, rw (size, is) (take-append_seam text (drop (length text) row)));
          short = λ few. absurd (omega (arith, few, l));
          behind = rw (size, is) (drop-append_seam text (drop (length text) row));
        }

pub takes_all : {Answers : List ℕ → ℕ → List ℕ → Type 0} (most : ℕ) (held : (row : List ℕ) (n : ℕ) (row' : List ℕ) → Answers row n row' → Held most row n row')
    → ((row : List ℕ) (n : ℕ) (row' other : List ℕ) (m : ℕ) (other' : List ℕ) (a : Answers row n row') (b : Answers other m other') → (held row n row' a).text ≡ (held other m other' b).text)
    → TakesAll most Answers
takes_all most held same row n row' a enough =
    let h = held row n row' a in
    let fits : length h.text ≤ length row = omega (arith, h.short) in
    let size = put_bytes h.text row n h.bytes fits in (
      omega (arith, size, h.some),
      omega (arith, size, h.short),
      λ other m other' b.
          let k = held other m other' b in
          let one : k.text ≡ take n row' = sym (same row n row' other m other' a b) ∙ sym (put_whole h.text row n row' h.bytes h.left fits) in
          subst (λ text. LeftIn text other m other') one (left_in k.text other m other' k.bytes k.left),
    )

-- The first number of a row that is not 0: each is small, given that those before it are 0.
abbrev pub AllFew : ℕ → List ℕ → Type 0
AllFew most [] = Unit {0}
AllFew most (a ∷ rest) = (a ≤ most) × (a ≡ 0 → AllFew most rest)

pub first_few : (most : ℕ) (ns : List ℕ) → AllFew most ns → first_some ns ≤ most
first_few most [] h = omega arith
first_few most (zero ∷ ns) h = first_few most ns (h.1 refl)
first_few most (suc a ∷ ns) h = h.0

abbrev pub AllNone : List ℕ → Type 0
AllNone [] = Unit {0}
AllNone (a ∷ rest) = (a ≡ 0) × AllNone rest

pub first_none : (ns : List ℕ) → first_some ns ≡ 0 → AllNone ns
first_none [] e = tt
first_none (zero ∷ ns) e = (refl, first_none ns e)
first_none (suc a ∷ ns) e = absurd (omega (arith, e))

pub unless_few : (b : Bool) (n most : ℕ) → n ≤ most → unless b n ≤ most
unless_few true n most l = omega arith
unless_few false n most l = l

pub unless_none : (b : Bool) (n : ℕ) → 0 < n → unless b n ≡ 0 → b ≡ true
unless_none true n l e = refl
unless_none false n l e = absurd (omega (arith, e))

pub shifted_few : (lines n most : ℕ) → lines + n ≤ most → shifted lines n ≤ most
shifted_few lines zero most l = omega arith
shifted_few lines (suc n) most l = l

pub bad_few : (test : List ℕ → Bool) (count : ℕ) (text : List ℕ) → first_bad_of test count text ≤ count
unfolding first_bad_of
bad_few test count text = first_within (λ i. not (test (line_after i text))) count

pub count_few : (key : List ℕ) (most : ℕ) (text : List ℕ) → is_count_line key most text ≡ true → number_behind key text ≤ most
unfolding is_count_line
count_few key most text e = leb-true (number_behind key text) most (and_true_both (is_number_line key text) (leb (number_behind key text) most) e).1

-- The first line of a sheet that is not as described is among the first 327.
module _ (sheet : List ℕ) where
  abbrev topLines : List ℕ
  topLines =
      unless (is_tape_line (line_after 0 sheet)) 1
      ∷ unless (is_number_line head_key (line_after 1 sheet)) 2
      ∷ unless (is_turn_line (line_after 2 sheet)) 3
      ∷ unless (is_rule_line (line_after 3 sheet)) 4
      ∷ unless (is_count_line files_key most_sheet_files (line_after 4 sheet)) 5
      ∷ []

  top_few_here : first_bad_top sheet ≤ 327
  unfolding first_bad_top
  top_few_here =
      first_few 327 topLines (
        unless_few (is_tape_line (line_after 0 sheet)) 1 327 (omega arith),
        λ a. (
          unless_few (is_number_line head_key (line_after 1 sheet)) 2 327 (omega arith),
          λ b. (
            unless_few (is_turn_line (line_after 2 sheet)) 3 327 (omega arith),
            λ c. (
              unless_few (is_rule_line (line_after 3 sheet)) 4 327 (omega arith),
              λ d. (unless_few (is_count_line files_key most_sheet_files (line_after 4 sheet)) 5 327 (omega arith), λ e. tt),
            ),
          ),
        ),
      )

  abbrev filesBad : ℕ
  filesBad = first_bad_of (is_triple_line file_key) (sheet_files sheet) (file_text sheet)

  abbrev wantsGood : Bool
  wantsGood = is_count_line wants_key most_wants (line_of (wants_text sheet))

  abbrev wantsBad : ℕ
  wantsBad = first_bad_of (is_pair_line want_key) (sheet_wants sheet) (want_text sheet)

  module _ (top : first_bad_top sheet ≡ 0) where
    files_few_here : sheet_files sheet ≤ 256
    unfolding first_bad_top sheet_files
    files_few_here = count_few files_key most_sheet_files (line_after 4 sheet) (unless_none (is_count_line files_key most_sheet_files (line_after 4 sheet)) 5 (omega arith) (first_none topLines top).1.1.1.1.0)

    wants_few_here : unless wantsGood (sheet_files sheet + 6) ≡ 0 → sheet_wants sheet ≤ 64
    unfolding sheet_wants
    wants_few_here e = count_few wants_key most_wants (line_of (wants_text sheet)) (unless_none wantsGood (sheet_files sheet + 6) (omega arith) e)

    below_few : first_bad_below sheet ≤ 327
    unfolding first_bad_below
    below_few =
        let files = files_few_here in
        first_few 327
        (shifted 5 filesBad
        ∷ unless wantsGood (sheet_files sheet + 6)
        ∷ shifted (sheet_files sheet + 6) wantsBad
        ∷ unless (is_empty (end_text sheet)) (sheet_files sheet + sheet_wants sheet + 7)
        ∷ []) (
          shifted_few 5 filesBad 327 (omega (arith, files, bad_few (is_triple_line file_key) (sheet_files sheet) (file_text sheet))),
          λ a. (
            unless_few wantsGood (sheet_files sheet + 6) 327 (omega (arith, files)),
            λ b. (
              shifted_few (sheet_files sheet + 6) wantsBad 327 (omega (arith, files, wants_few_here b, bad_few (is_pair_line want_key) (sheet_wants sheet) (want_text sheet))),
              λ c. (unless_few (is_empty (end_text sheet)) (sheet_files sheet + sheet_wants sheet + 7) 327 (omega (arith, files, wants_few_here b)), λ d. tt),
            ),
          ),
        )

  line_few_here : first_bad_line sheet ≤ 327
  unfolding first_bad_line
  line_few_here = first_few 327 (first_bad_top sheet ∷ first_bad_below sheet ∷ []) (top_few_here, λ t. (below_few t, λ b. tt))

-- So the place of any refusal of a sheet and its run is near.
pub at_near : (p : ℕ) (kind : Refusal) → p ≤ place_most → (refuse_at p kind).place ≤ place_most
at_near zero kind l = omega arith
at_near (suc p) kind l = l

module _ (sheet : List ℕ) where
  pub sheet_near : (sheet_verdict sheet).place ≤ place_most
  unfolding sheet_verdict
  sheet_near =
      first_near (refuse_if (ltb longest_sheet (length sheet)) LongSheet ∷ refuse_at (first_bad_line sheet) BadLine ∷ [])
      (if_near (ltb longest_sheet (length sheet)) LongSheet, λ e. (at_near (first_bad_line sheet) BadLine (omega (arith, line_few_here sheet)), λ d. tt))

  rule_near : (rule_verdict sheet).place ≤ place_most
  unfolding rule_verdict
  rule_near = at_near (cond (says_sweep sheet) 4 0) RetiredRule (go (says_sweep sheet))
    where
      go : (b : Bool) → cond b 4 0 ≤ place_most
      go true = omega arith
      go false = omega arith

  pub verdict_near : (checks : Run → List Verdict) → AllNear (checks (sheet_run sheet)) → (verdict_by checks sheet).place ≤ place_most
  unfolding verdict_by
  verdict_near checks near = first_near (sheet_verdict sheet ∷ rule_verdict sheet ∷ checks (sheet_run sheet)) (sheet_near, λ e. (rule_near, λ d. near))

pub run_checks_near : (run : Run) → AllNear (run_checks run)
run_checks_near run = (judge_near run, λ e. (if_near (ltb room_words (room_for run)) ShortRoom, λ d. tt))

-- The plain engine judges the table of files first.
table_near : (run : Run) → (first_of (table_checks run.starts run.lengths run.aggregates)).place ≤ place_most
unfolding judge_of
table_near run = go (refuses table) refl
  where
    table : Verdict
    table = first_of (table_checks run.starts run.lengths run.aggregates)

    others : List Verdict
    others = first_of (wants_checks (length run.starts) run.numbers run.counts) ∷ first_of (head_checks run.turn run.head (right_end (stops_of run))) ∷ []

    go : (b : Bool) → refuses table ≡ b → table.place ≤ place_most
    go true e = let same : table ≡ judge_of run = first_refuses table others e in omega (arith, ap (λ v. v.place) same, judge_near run)
    go false e = omega (arith, ap (λ v. v.place) (none_refuses (table_checks run.starts run.lengths run.aggregates) e))

pub field_checks_near : (run : Run) → AllNear (field_checks run)
field_checks_near run = (
  table_near run,
  λ a. (
    if_near (uneven_wants run) WantRows,
    λ b. (if_near (ltb most_plain_wants (length run.numbers)) OverEightWants, λ c. (judge_near run, λ d. tt)),
  ),
)

-- How long a line is, and the two lines of a refusal.
pub line_length : (key text : List ℕ) → length (line key text) ≡ length key + length text + 1
line_length key text = length-append (key ++ text) (10 ∷ []) ∙ rw (length-append key text)

pub number_length : (key : List ℕ) (n : ℕ) → n < 2 ^ 64 → length (number_line key n) ≤ length key + 21
number_length key n l = omega (arith, line_length key (decimal n), decimal_short n l)

pub refusal_short : (v : Verdict) → v.place < 2 ^ 64 → length (refusal_text v) ≤ 38
unfolding refusal_text
refusal_short v l =
    omega (
      arith,
      length-append (number_line refused_key (number_of v.refusal)) (number_line place_key v.place),
      line_length refused_key (decimal (number_of v.refusal)),
      decimal_digits (number_of v.refusal) 1 (omega (arith, number_small v.refusal)),
      number_length place_key v.place l,
    )

pub refusal_begins : (v : Verdict) → get_or (refusal_text v) 0 0 ≡ 114
unfolding refusal_text
refusal_begins v = refl

pub plan_begins : (name : List ℕ) (run : Run) (froms tos : List ℕ) → get_or (plan_text name run froms tos) 0 0 ≡ 116
unfolding plan_text plan_lines plan_top
plan_begins name run froms tos = refl

-- The plan sheet of a sheet's run that an engine accepts.
module _ (checks : Run → List Verdict) (judges : (run : Run) → refuses (first_of (checks run)) ≡ false → refuses (judge_of run) ≡ false) (near : (run : Run) → AllNear (checks run)) (sheet : List ℕ) where
  pub sheet_passes : refuses (verdict_by checks sheet) ≡ false → (is_name (sheet_name sheet) ≡ true) × (refuses (judge_of (sheet_run sheet)) ≡ false)
  unfolding verdict_by
  sheet_passes e =
      let all = all_accept (sheet_verdict sheet ∷ rule_verdict sheet ∷ checks (sheet_run sheet)) e in
      let left = rw (first_passes (rule_verdict sheet) (checks (sheet_run sheet)) all.1.0) at (rw (first_passes (sheet_verdict sheet) (rule_verdict sheet ∷ checks (sheet_run sheet)) all.0) at e) in
      (good_name sheet all.0, judges (sheet_run sheet) left)

  pub plan_held : (text : List ℕ) → AnswersRun (verdict_by checks sheet) (sheet_name sheet) (sheet_run sheet) text → (length text ≤ plan_row) × (0 < length text)
  plan_held text a = go (refuses (verdict_by checks sheet)) refl
    where
      go : (b : Bool) → refuses (verdict_by checks sheet) ≡ b → (length text ≤ plan_row) × (0 < length text)
      go true e =
          let small = refusal_short (verdict_by checks sheet) (omega (arith, verdict_near sheet checks (near (sheet_run sheet)))) in
          (omega (arith, ap length (a.refused e), small), some_begun text 113 (ap (λ t. get_or t 0 0) (a.refused e) ∙ refusal_begins (verdict_by checks sheet)))
      go false e =
          let p = a.planned e in
          let good = sheet_passes e in
          let small = plan_short (sheet_run sheet) (map (λ d. d.from) p.list) (map (λ d. d.to) p.list) good.1 (rows_accepted (sheet_name sheet) (sheet_run sheet) p.list p.least) (sheet_name sheet) good.0 in
          (omega (arith, ap length p.says, small), some_begun text 115 (ap (λ t. get_or t 0 0) p.says ∙ plan_begins (sheet_name sheet) (sheet_run sheet) _ _))

  plan_whole : TakesAll plan_row (SheetRecalledBy checks sheet)
  plan_whole =
      takes_all plan_row
      (λ row n row' c. let h = plan_held c.text c.answers in record { text = c.text; bytes = c.bytes; left = c.left; short = h.0; some = h.1 })
      (λ row n row' other m other' c d. answer_once _ _ _ c.text d.text c.answers d.answers)

pub run_judges : (run : Run) → refuses (first_of (run_checks run)) ≡ false → refuses (judge_of run) ≡ false
run_judges run e = (all_accept (run_checks run) e).0

pub field_judges : (run : Run) → refuses (first_of (field_checks run)) ≡ false → refuses (judge_of run) ≡ false
field_judges run e = (all_accept (field_checks run) e).1.1.1.0

pub plan_is_whole : PlanIsWhole
plan_is_whole sheet = plan_whole run_checks run_judges run_checks_near sheet

pub field_is_whole : FieldIsWhole
field_is_whole sheet = plan_whole field_checks field_judges field_checks_near sheet

-- The figure sheet.
signed_short : (z : ℤ) → SFits w64 z → length (signed z) ≤ 21
signed_short (pos n) fits = omega (arith, decimal_short n (omega (arith, fits.sfits)))
signed_short (negsuc n) fits = omega (arith, decimal_short (suc n) (omega (arith, fits.sfits)))

figure_length : (a b : ℕ) (z : ℤ) → a < 2 ^ 64 → b < 2 ^ 64 → SFits w64 z → length (figure_line a b z) ≤ 69
figure_length a b z l m fits =
    omega (
      arith,
      line_length buys_key (pair_text a b ++ (comma ∷ []) ++ signed z),
      length-append (pair_text a b ++ (comma ∷ [])) (signed z),
      length-append (pair_text a b) (comma ∷ []),
      length-append (decimal a ++ (comma ∷ [])) (decimal b),
      length-append (decimal a) (comma ∷ []),
      decimal_short a l,
      decimal_short b m,
      signed_short z fits,
    )

lines_length : (froms tos : List ℕ) (figures : List ℤ) → SmallRow froms → SmallRow tos → ((i : ℕ) → i < length figures → SFits w64 (get_or figures i (pos 0))) → length (figure_lines froms tos figures) ≤ length froms * 69
unfolding figure_lines
lines_length [] tos figures s t u = omega arith
lines_length (a ∷ froms) [] figures s t u = omega arith
lines_length (a ∷ froms) (b ∷ tos) [] s t u = omega arith
lines_length (a ∷ froms) (b ∷ tos) (z ∷ figures) s t u =
    omega (
      arith,
      length-append (figure_line a b z) (figure_lines froms tos figures),
      figure_length a b z (s 0 (omega arith)) (t 0 (omega arith)) (u 0 (omega arith)),
      lines_length froms tos figures (λ i l. s (suc i) (omega arith)) (λ i l. t (suc i) (omega arith)) (λ i l. u (suc i) (omega arith)),
    )

-- The sheet of any sum, list and figures that are small.
pub page_short : (name : List ℕ) → is_name name ≡ true → (answer : Answer) → answer.sum < 2 ^ 64 → answer.detours < 2 ^ 64
    → (froms tos : List ℕ) → length froms ≤ 64 → SmallRow froms → SmallRow tos → (figures : List ℤ) → ((i : ℕ) → i < length figures → SFits w64 (get_or figures i (pos 0)))
    → length (figure_page name answer froms tos figures) ≤ buys_row
unfolding figure_page
page_short name named answer sum detours froms tos few s t figures fits =
    omega (
      arith,
      length-append (line tape_key name ++ number_line sum_key answer.sum ++ number_line detours_key answer.detours) (figure_lines froms tos figures),
      length-append (line tape_key name ++ number_line sum_key answer.sum) (number_line detours_key answer.detours),
      length-append (line tape_key name) (number_line sum_key answer.sum),
      line_length tape_key name,
      name_length name named,
      number_length sum_key answer.sum sum,
      number_length detours_key answer.detours detours,
      lines_length froms tos figures s t fits,
      few,
    )

-- A figure whose two sums are small fits a signed word.
pub less_fits : (a b : ℕ) → a < 2 ^ 58 → b < 2 ^ 58 → (z : ℤ) → pos a -ℤ pos b ≡ z → SFits w64 z
less_fits a b l m z is =
    let w = word_fits a b l m in
    subst (SFits w64) (sym (to_z-of_z w64 _ w) ∙ difference_is a b l m ∙ is) w

module _ (r : Run) (froms tos : List ℕ) (p : Priceable r froms tos) where
  small : PlanSmall (total r.counts) (priced_answer r (list_of froms tos)) froms tos r.numbers (priced_times r (list_of froms tos)) (priced_legs r (list_of froms tos))
  small = plan_small r froms tos p.run p.list

  figure_fits : (i : ℕ) → i < length froms → SFits w64 (figure_of r (list_of froms tos) i)
  figure_fits i l =
      less_fits (priced_answer r (without i (list_of froms tos))).sum (priced_answer r (list_of froms tos)).sum (sum_without_small r froms tos p i l) (sum_small r froms tos p) _
      (figure_is r (list_of froms tos) i _ _ refl refl)

  figures_fit_here : (i : ℕ) → i < length (figures_of r (list_of froms tos)) → SFits w64 (get_or (figures_of r (list_of froms tos)) i (pos 0))
  figures_fit_here i l =
      let many = figures_length r (list_of froms tos) (length (list_of froms tos)) 0 in
      let size = length_list froms tos small.even in
      subst (SFits w64) (figure_at r (list_of froms tos) i (omega (arith, many))) (figure_fits i (omega (arith, many, size)))

  pub figures_short : (name : List ℕ) → is_name name ≡ true → length (figure_text name r froms tos) ≤ buys_row
  unfolding figure_text
  figures_short name named =
      page_short name named (priced_answer r (list_of froms tos)) small.sum (omega (arith, small.detours, small.few)) froms tos (omega (arith, small.few)) small.froms small.tos
      (figures_of r (list_of froms tos)) figures_fit_here

pub figures_begin : (name : List ℕ) (run : Run) (froms tos : List ℕ) → get_or (figure_text name run froms tos) 0 0 ≡ 116
unfolding figure_text figure_page
figures_begin name run froms tos = refl

figured_once : (name : List ℕ) (run : Run) (text text' : List ℕ) → BuysText name run text → BuysText name run text' → text ≡ text'
figured_once name run text text' p q =
    p.says
    ∙ ap (λ l. figure_text name run (map (λ d. d.from) l) (map (λ d. d.to) l)) (least_unique run.turn run.head (stops_of run) p.list q.list p.least q.least)
    ∙ sym q.says

module _ (sheet : List ℕ) where
  pub buys_held : (text : List ℕ) → AnswersBuys (recall_verdict sheet) (sheet_name sheet) (sheet_run sheet) text → (length text ≤ buys_row) × (0 < length text)
  buys_held text a = go (refuses (recall_verdict sheet)) refl
    where
      go : (b : Bool) → refuses (recall_verdict sheet) ≡ b → (length text ≤ buys_row) × (0 < length text)
      go true e =
          let small = refusal_short (recall_verdict sheet) (omega (arith, verdict_near sheet run_checks (run_checks_near (sheet_run sheet)))) in
          (omega (arith, ap length (a.refused e), small), some_begun text 113 (ap (λ t. get_or t 0 0) (a.refused e) ∙ refusal_begins (recall_verdict sheet)))
      go false e =
          let p = a.figured e in
          let good = sheet_passes run_checks run_judges run_checks_near sheet e in
          let small = figures_short (sheet_run sheet) (map (λ d. d.from) p.list) (map (λ d. d.to) p.list) (record { run = good.1; list = rows_accepted (sheet_name sheet) (sheet_run sheet) p.list p.least }) (sheet_name sheet) good.0 in
          (omega (arith, ap length p.says, small), some_begun text 115 (ap (λ t. get_or t 0 0) p.says ∙ figures_begin (sheet_name sheet) (sheet_run sheet) _ _))

  buys_same : (text text' : List ℕ) → AnswersBuys (recall_verdict sheet) (sheet_name sheet) (sheet_run sheet) text → AnswersBuys (recall_verdict sheet) (sheet_name sheet) (sheet_run sheet) text' → text ≡ text'
  buys_same text text' a b =
      ⊎_elim
      (λ e. a.refused e ∙ sym (b.refused e))
      (λ e. figured_once (sheet_name sheet) (sheet_run sheet) text text' (a.figured e) (b.figured e))
      (true_or_false (refuses (recall_verdict sheet)))

pub buys_is_whole : BuysIsWhole
buys_is_whole sheet =
    takes_all buys_row
    (λ row n row' c. let h = buys_held sheet c.text c.answers in record { text = c.text; bytes = c.bytes; left = c.left; short = h.0; some = h.1 })
    (λ row n row' other m other' c d. buys_same sheet c.text d.text c.answers d.answers)
