-- Reading the plan sheet of an accepted run and a well-formed list gives that list: it has the form, is never too long, and holds the starts and ends.
use Prim.Native.Nat.{ℕ, zero, suc, ◌+◌, ◌*◌, ◌^◌, ◌≤◌, ◌<◌}
use mathlib.Core.Path.{◌≡◌, refl, ap, sym, ◌∙◌}
use mathlib.Core.Bool.{Bool, true, false, not, true≢false}
use mathlib.Core.List.{List, [], ◌∷◌, ◌++◌, map, append_assoc, append-nil}
use mathlib.Core.Logic.{⊎_elim}
use native.Mathlib.Omega.{arith}
use native.Mathlib.Decide.{dec_lt}
use lib.ListN.{length, get_or, length-append}
use lib.Dec.{eqb}
use borrow.Author.Tests.{le-ltb}
use Rattle.refusals.specs.Refusals.{accepted}
use Rattle.refusals.proofs.Verdicts.{refuses}
use Rattle.runs.specs.Run.{Run, Stop, total, stops_of, want_stops_of, most_wants}
use Rattle.runs.specs.Judging.{judge_of}
use Rattle.runs.specs.Lists.{list_of, list_verdict}
use Rattle.runs.proofs.Search.{true_or_false, first_zero}
use Rattle.runs.proofs.Entries.{length_list}
use Rattle.runs.proofs.Judged.{GoodRun, accepted_run}
use Rattle.runs.proofs.Stops.{run_sound}
use Rattle.runs.proofs.Stops.{stops_few, wants_length}
use Rattle.walk.specs.declared.Answer.{Answer}
use Rattle.walk.specs.Walk.{times_of, legs_for}
use Rattle.walk.specs.Price.{priced_answer, priced_times, priced_legs}
use Rattle.walk.proofs.Filling.{one_each}
use Rattle.walk.proofs.Walks.{GoodList, accepted_list, rows_fit, entries_few, entries_none}
use Rattle.walk.proofs.Laws.{sum_below_lem, finish_below}
use Rattle.text_bytes.specs.Text.{line_feed, has, behind, starts_with, is_name, is_name_byte, between, all_of, decimal}
use Rattle.text_bytes.proofs.Bytes.{and_true_both}
use Rattle.text_bytes.proofs.Decimals.{has_none, decimal_without}
use Rattle.text_lines.specs.Lines.{line_of, after_lines, line_after, is_number_line, number_behind, is_pair_line, first_in, second_in, is_triple_line, first_bad_of, each_of}
use Rattle.sheet_reader.specs.Lines.{tape_key, is_tape_line, is_count_line}
use Rattle.sheet_reader.specs.Sheet.{longest_sheet}
use Rattle.text_pages.specs.Printing.{line, number_line, pair_text, pair_line, pair_lines, triple_text, triple_line, triple_lines}
use Rattle.sheet_writer.specs.PlanSheet.{sum_key, reads_key, finish_key, end_key, detours_key, detour_key, time_key, plan_top, plan_lines, plan_text}
use Rattle.text_pages.proofs.Pages.{decimal_short}
use Rattle.sheet_writer.proofs.Sheets.{name_length}
use Rattle.sheet_writer.proofs.Reread.{line_first, line_behind_lem, key_begins, key_value, number_back, value_back, count_back, after_front, pairs_behind, pairs_good, firsts_back, seconds_back, triples_behind, triples_good}
use Rattle.sheet_lists.specs.Form.{most_detours, lines_in, lines_up_to, first_bad_to_end, detours_told, detour_text, time_text, first_failing, plan_bad_top, plan_bad_below, plan_bad_line, plan_froms, plan_tos}
use Rattle.sheet_lists.specs.Reading.{plan_form}
use Rattle.sheet_lists.proofs.Bounds.{end_below, times_below, legs_below}

-- Lines are counted one by one.
lines_more : (text : List ℕ) → has line_feed text ≡ true → lines_in text ≡ suc (lines_in (behind line_feed text))
unfolding has behind lines_in
lines_more [] h = absurd (true≢false (sym h))
lines_more (b ∷ text) h = go (lines_more text) (eqb b line_feed) refl
  where
    go : (has line_feed text ≡ true → lines_in text ≡ suc (lines_in (behind line_feed text))) → (t : Bool) → eqb b line_feed ≡ t → lines_in (b ∷ text) ≡ suc (lines_in (behind line_feed (b ∷ text)))
    go rest true e = rw e
    go rest false e = rw e (rest (rw e at h))

-- A line that passes a test which the empty line fails is there.
line_there : (test : List ℕ → Bool) → test [] ≡ false → (text : List ℕ) → test (line_of text) ≡ true → has line_feed text ≡ true
unfolding line_of
line_there test none text good =
    ⊎_elim
    (λ (e : has line_feed text ≡ true). e)
    (λ (e : has line_feed text ≡ false). absurd (true≢false (sym (rw e at good) ∙ none)))
    (true_or_false (has line_feed text))

-- So many good lines and nothing behind them.
lines_are : (test : List ℕ → Bool) → test [] ≡ false → (n : ℕ) (text : List ℕ) → ((i : ℕ) → i < n → test (line_after i text) ≡ true) → after_lines n text ≡ [] → lines_in text ≡ n
unfolding lines_in after_lines
lines_are test none zero text good end = rw end refl
lines_are test none (suc n) text good end =
    lines_more text (line_there test none text (good 0 (omega arith)))
    ∙ ap suc
    (lines_are test none n (behind line_feed text)
    (λ i l. ap (λ t. test (line_of t)) (sym (after_front i text)) ∙ good (suc i) (omega arith))
    (sym (after_front n text) ∙ end))

-- A number that is no more than the limit.
up_to : (most : ℕ) (text : List ℕ) (n : ℕ) → lines_in text ≡ n → n ≤ most → lines_up_to most text ≡ n
unfolding lines_up_to
up_to most text n e l = rw (e, le-ltb most n l)

not_not : (b : Bool) → not b ≡ false → b ≡ true
not_not true e = refl
not_not false e = sym e

-- How long the lines are.
line_length : (key text : List ℕ) → length (line key text) ≡ length key + length text + 1
line_length key text = length-append (key ++ text) (line_feed ∷ []) ∙ rw (length-append key text)

number_length : (key : List ℕ) (n : ℕ) → n < 2 ^ 64 → length (number_line key n) ≤ length key + 21
number_length key n l = omega (arith, line_length key (decimal n), decimal_short n l)

pair_length : (key : List ℕ) (a b : ℕ) → a < 2 ^ 64 → b < 2 ^ 64 → length (pair_line key a b) ≤ length key + 42
pair_length key a b l m =
    omega (arith, line_length key (pair_text a b), length-append (decimal a ++ (44 ∷ [])) (decimal b), length-append (decimal a) (44 ∷ []), decimal_short a l, decimal_short b m)

triple_length : (key : List ℕ) (a b c : ℕ) → a < 2 ^ 64 → b < 2 ^ 64 → c < 2 ^ 64 → length (triple_line key a b c) ≤ length key + 63
triple_length key a b c l m n =
    let pair = length-append (decimal a ++ (44 ∷ [])) (decimal b) in
    let front = length-append (pair_text a b) (44 ∷ []) in
    let whole = length-append (pair_text a b ++ (44 ∷ [])) (decimal c) in
    omega (arith, line_length key (triple_text a b c), whole, front, pair, length-append (decimal a) (44 ∷ []), decimal_short a l, decimal_short b m, decimal_short c n)

abbrev SmallRow : List ℕ → Type 0
SmallRow row = (i : ℕ) → i < length row → get_or row i 0 < 2 ^ 64

pairs_length : (key xs ys : List ℕ) → length key ≤ 7 → SmallRow xs → SmallRow ys → length (pair_lines key xs ys) ≤ length xs * 49
unfolding pair_lines
pairs_length key [] ys k s t = omega arith
pairs_length key (a ∷ xs) [] k s t = omega arith
pairs_length key (a ∷ xs) (b ∷ ys) k s t =
    omega (
      arith,
      length-append (pair_line key a b) (pair_lines key xs ys),
      pair_length key a b (s 0 (omega arith)) (t 0 (omega arith)),
      pairs_length key xs ys k (λ i l. s (suc i) (omega arith)) (λ i l. t (suc i) (omega arith)),
    )

triples_length : (key xs ys zs : List ℕ) → length key ≤ 5 → SmallRow xs → SmallRow ys → SmallRow zs → length (triple_lines key xs ys zs) ≤ length xs * 68
unfolding triple_lines
triples_length key [] ys zs k s t u = omega arith
triples_length key (a ∷ xs) [] zs k s t u = omega arith
triples_length key (a ∷ xs) (b ∷ ys) [] k s t u = omega arith
triples_length key (a ∷ xs) (b ∷ ys) (c ∷ zs) k s t u =
    omega (
      arith,
      length-append (triple_line key a b c) (triple_lines key xs ys zs),
      triple_length key a b c (s 0 (omega arith)) (t 0 (omega arith)) (u 0 (omega arith)),
      triples_length key xs ys zs k (λ i l. s (suc i) (omega arith)) (λ i l. t (suc i) (omega arith)) (λ i l. u (suc i) (omega arith)),
    )

regrouped : (a b c d e f g h : List ℕ) → a ++ b ++ c ++ d ++ e ++ f ++ g ++ h ≡ a ++ (b ++ (c ++ (d ++ (e ++ (f ++ (g ++ h))))))
regrouped a b c d e f g h = simp append_assoc

sum_length : (a b c d e f g h : List ℕ) → length a ≤ 22 → length b ≤ 25 → length c ≤ 27 → length d ≤ 28 → length e ≤ 25 → length f ≤ 29 → length g ≤ 3087 → length h ≤ 4352
    → length (a ++ b ++ c ++ d ++ e ++ f ++ g ++ h) ≤ 7644
sum_length a b c d e f g h la lb lc ld le lf lg lh = simp length-append (omega arith)

-- Rows and numbers that a plan sheet can hold.
pub record PlanSmall (many : ℕ) (a : Answer) (fs ts ns ms ls : List ℕ) : Type 0 where
  pub reads : many < 2 ^ 64
  pub sum : a.sum < 2 ^ 64
  pub finish : a.finish < 2 ^ 64
  pub end : a.end < 2 ^ 64
  pub detours : a.detours ≡ length fs
  pub few : length fs ≤ most_detours
  pub even : length fs ≡ length ts
  pub wants : length ns ≤ most_wants
  pub timed : length ns ≡ length ms
  pub numbered : length ns ≡ length ls
  pub froms : SmallRow fs
  pub tos : SmallRow ts
  pub numbers : SmallRow ns
  pub times : SmallRow ms
  pub legs : SmallRow ls

module _ (name : List ℕ) (reads : ℕ) (a : Answer) (froms tos numbers times legs : List ℕ) (named : is_name name ≡ true) (small : PlanSmall reads a froms tos numbers times legs) where
  rest₇ : List ℕ
  rest₇ = triple_lines time_key numbers times legs

  rest₆ : List ℕ
  rest₆ = pair_lines detour_key froms tos ++ rest₇

  rest₅ : List ℕ
  rest₅ = number_line detours_key a.detours ++ rest₆

  rest₄ : List ℕ
  rest₄ = number_line end_key a.end ++ rest₅

  rest₃ : List ℕ
  rest₃ = number_line finish_key a.finish ++ rest₄

  rest₂ : List ℕ
  rest₂ = number_line reads_key reads ++ rest₃

  rest₁ : List ℕ
  rest₁ = number_line sum_key a.sum ++ rest₂

  abbrev text : List ℕ
  text = plan_lines name reads a froms tos numbers times legs

  text_is_here : text ≡ line tape_key name ++ rest₁
  unfolding plan_lines plan_top rest₁ rest₂ rest₃ rest₄ rest₅ rest₆ rest₇
  text_is_here =
      regrouped (line tape_key name) (number_line sum_key a.sum) (number_line reads_key reads) (number_line finish_key a.finish) (number_line end_key a.end)
      (number_line detours_key a.detours) (pair_lines detour_key froms tos) rest₇

  name_flat_here : has line_feed name ≡ false
  unfolding is_name
  name_flat_here = has_none is_name_byte line_feed refl name (and_true_both (between 1 16 (length name)) (all_of is_name_byte name) named).1

  flat : (n : ℕ) → has line_feed (decimal n) ≡ false
  flat n = decimal_without line_feed n refl

  after₁ : after_lines 1 text ≡ rest₁
  unfolding after_lines has
  after₁ = ap (behind line_feed) text_is_here ∙ line_behind_lem tape_key name rest₁ refl name_flat_here

  after₂ : after_lines 2 text ≡ rest₂
  unfolding after_lines rest₁ has
  after₂ = ap (behind line_feed) after₁ ∙ line_behind_lem sum_key (decimal a.sum) rest₂ refl (flat a.sum)

  after₃ : after_lines 3 text ≡ rest₃
  unfolding after_lines rest₂ has
  after₃ = ap (behind line_feed) after₂ ∙ line_behind_lem reads_key (decimal reads) rest₃ refl (flat reads)

  after₄ : after_lines 4 text ≡ rest₄
  unfolding after_lines rest₃ has
  after₄ = ap (behind line_feed) after₃ ∙ line_behind_lem finish_key (decimal a.finish) rest₄ refl (flat a.finish)

  after₅ : after_lines 5 text ≡ rest₅
  unfolding after_lines rest₄ has
  after₅ = ap (behind line_feed) after₄ ∙ line_behind_lem end_key (decimal a.end) rest₅ refl (flat a.end)

  after₆ : after_lines 6 text ≡ rest₆
  unfolding after_lines rest₅ has
  after₆ = ap (behind line_feed) after₅ ∙ line_behind_lem detours_key (decimal a.detours) rest₆ refl (flat a.detours)

  tape_good_here : is_tape_line (line_after 0 text) ≡ true
  unfolding after_lines has is_tape_line
  tape_good_here = ap is_tape_line (ap line_of text_is_here ∙ line_first tape_key name rest₁ refl name_flat_here) ∙ rw (key_begins tape_key name, key_value tape_key name, named)

  sum_good : is_number_line sum_key (line_after 1 text) ≡ true
  unfolding rest₁ has
  sum_good = ap (is_number_line sum_key) (ap line_of after₁ ∙ line_first sum_key (decimal a.sum) rest₂ refl (flat a.sum)) ∙ number_back sum_key a.sum small.sum

  reads_good : is_number_line reads_key (line_after 2 text) ≡ true
  unfolding rest₂ has
  reads_good = ap (is_number_line reads_key) (ap line_of after₂ ∙ line_first reads_key (decimal reads) rest₃ refl (flat reads)) ∙ number_back reads_key reads small.reads

  finish_good : is_number_line finish_key (line_after 3 text) ≡ true
  unfolding rest₃ has
  finish_good = ap (is_number_line finish_key) (ap line_of after₃ ∙ line_first finish_key (decimal a.finish) rest₄ refl (flat a.finish)) ∙ number_back finish_key a.finish small.finish

  end_good : is_number_line end_key (line_after 4 text) ≡ true
  unfolding rest₄ has
  end_good = ap (is_number_line end_key) (ap line_of after₄ ∙ line_first end_key (decimal a.end) rest₅ refl (flat a.end)) ∙ number_back end_key a.end small.end

  line₅ : line_after 5 text ≡ detours_key ++ decimal a.detours
  unfolding rest₅ has
  line₅ = ap line_of after₅ ∙ line_first detours_key (decimal a.detours) rest₆ refl (flat a.detours)

  detours_small : a.detours < 2 ^ 64
  detours_small = omega (arith, small.detours, small.few)

  detours_good_here : is_count_line detours_key most_detours (line_after 5 text) ≡ true
  detours_good_here = ap (is_count_line detours_key most_detours) line₅ ∙ count_back detours_key a.detours detours_small most_detours (omega (arith, small.detours, small.few))

  detours_back : detours_told text ≡ length froms
  unfolding detours_told
  detours_back = ap (number_behind detours_key) line₅ ∙ value_back detours_key a.detours detours_small ∙ small.detours

  detours_text : detour_text text ≡ rest₆
  unfolding detour_text
  detours_text = after₆

  times_text : time_text text ≡ rest₇ ++ []
  unfolding time_text rest₆ has
  times_text =
      ap (λ n. after_lines n (detour_text text)) detours_back
      ∙ ap (after_lines (length froms)) detours_text
      ∙ pairs_behind detour_key refl rest₇ froms tos small.even
      ∙ sym (append-nil rest₇)

  detour_good : first_bad_of (is_pair_line detour_key) (detours_told text) (detour_text text) ≡ 0
  unfolding rest₆ has
  detour_good =
      ap (λ n. first_bad_of (is_pair_line detour_key) n (detour_text text)) detours_back
      ∙ ap (first_bad_of (is_pair_line detour_key) (length froms)) detours_text
      ∙ pairs_good detour_key refl rest₇ froms tos small.even small.froms (λ i l. small.tos i (omega (arith, small.even)))

  times_all : first_bad_of (is_triple_line time_key) (length numbers) (rest₇ ++ []) ≡ 0
  unfolding rest₇ has
  times_all =
      triples_good time_key refl [] numbers times legs small.timed small.numbered small.numbers
      (λ i l. small.times i (omega (arith, small.timed)))
      (λ i l. small.legs i (omega (arith, small.numbered)))

  times_end : after_lines (length numbers) (rest₇ ++ []) ≡ []
  unfolding rest₇ has
  times_end = triples_behind time_key refl [] numbers times legs small.timed small.numbered

  time_lines : lines_up_to most_wants (rest₇ ++ []) ≡ length numbers
  unfolding first_bad_of is_triple_line starts_with
  time_lines =
      up_to most_wants (rest₇ ++ []) (length numbers)
      (lines_are (is_triple_line time_key) refl (length numbers) (rest₇ ++ [])
      (λ i l. not_not (is_triple_line time_key (line_after i (rest₇ ++ []))) (first_zero (λ j. not (is_triple_line time_key (line_after j (rest₇ ++ [])))) (length numbers) times_all i l))
      times_end)
      small.wants

  time_good : first_bad_to_end (is_triple_line time_key) most_wants (time_text text) ≡ 0
  unfolding first_bad_to_end
  time_good = ap (first_bad_to_end (is_triple_line time_key) most_wants) times_text ∙ rw (time_lines, times_all, times_end)

  pub all_described : plan_bad_line text ≡ 0
  unfolding plan_bad_line plan_bad_top first_failing after_lines plan_bad_below
  all_described = rw (tape_good_here, sum_good, reads_good, finish_good, end_good, detours_good_here, detour_good, time_good)

  pub starts_back : plan_froms text ≡ froms
  unfolding plan_froms rest₆ has
  starts_back =
      ap (λ n. each_of (λ i. first_in detour_key (line_after i (detour_text text))) n) detours_back
      ∙ ap (λ t. each_of (λ i. first_in detour_key (line_after i t)) (length froms)) detours_text
      ∙ firsts_back detour_key refl rest₇ froms tos small.even

  pub ends_back : plan_tos text ≡ tos
  unfolding plan_tos rest₆ has
  ends_back =
      ap (λ n. each_of (λ i. second_in detour_key (line_after i (detour_text text))) n) detours_back
      ∙ ap (λ t. each_of (λ i. second_in detour_key (line_after i t)) (length froms)) detours_text
      ∙ seconds_back detour_key refl rest₇ froms tos small.even

  pub short_enough : length text ≤ 7644
  unfolding plan_lines plan_top
  short_enough =
      sum_length (line tape_key name) (number_line sum_key a.sum) (number_line reads_key reads) (number_line finish_key a.finish) (number_line end_key a.end)
      (number_line detours_key a.detours) (pair_lines detour_key froms tos) (triple_lines time_key numbers times legs)
      (omega (arith, line_length tape_key name, name_length name named))
      (number_length sum_key a.sum small.sum)
      (number_length reads_key reads small.reads)
      (number_length finish_key a.finish small.finish)
      (number_length end_key a.end small.end)
      (number_length detours_key a.detours detours_small)
      (omega (arith, pairs_length detour_key froms tos (omega arith) small.froms small.tos, small.few))
      (omega (arith, triples_length time_key numbers times legs (omega arith) small.numbers small.times small.legs, small.wants))

-- The numbers of an accepted run and a well-formed list.
module _ (r : Run) (froms tos : List ℕ) (run : refuses (judge_of r) ≡ false) (list : refuses (list_verdict (stops_of r) froms tos) ≡ false) where
  good : GoodRun r
  good = accepted_run r run

  entries : GoodList (stops_of r) froms tos
  entries = accepted_list (stops_of r) froms tos list

  count : length (list_of froms tos) ≡ length froms
  count = length_list froms tos entries.even

  pub few_detours : length froms ≤ most_detours
  few_detours =
      elim (dec_lt 0 (length (stops_of r))) [
        | yes l ↦ omega (arith, count, entries_few (stops_of r) r.head (run_sound r good) (list_of froms tos) (length (list_of froms tos)) entries.each l, stops_few r good, good.wants.few)
        | no n ↦ omega (arith, count, entries_none (stops_of r) r.head (run_sound r good) (list_of froms tos) (length (list_of froms tos)) entries.each (omega arith))
      ]

  each_want : (f : Stop → ℕ) → length (map f (want_stops_of r)) ≡ length r.numbers
  each_want f = one_each f (want_stops_of r) ∙ wants_length r.starts r.lengths r.aggregates r.numbers r.counts (sym good.wants.equal)

  pub plan_small : PlanSmall (total r.counts) (priced_answer r (list_of froms tos)) froms tos r.numbers (priced_times r (list_of froms tos)) (priced_legs r (list_of froms tos))
  unfolding priced_answer priced_times priced_legs times_of legs_for
  plan_small =
      let rows = rows_fit r good froms tos entries in
      record {
        reads = omega (arith, good.wants.reads);
        sum = omega (arith, sum_below_lem r froms tos run list);
        finish = omega (arith, finish_below r froms tos run list);
        end = end_below r froms tos run list;
        detours = count;
        few = few_detours;
        even = entries.even;
        wants = good.wants.few;
        timed = sym (each_want _);
        numbered = sym (each_want _);
        froms = λ i l. omega (arith, (rows.list.lefts i l).most, good.files.few);
        tos = λ i l. omega (arith, (rows.list.rights i (omega (arith, entries.even))).most, good.files.few);
        numbers = λ i l. omega (arith, (good.wants.each i l).in_table, good.files.few);
        times = λ i l. times_below r froms tos run list i;
        legs = λ i l. legs_below r froms tos run list i;
      }

  -- What reading the plan sheet gives.
  module _ (name : List ℕ) (named : is_name name ≡ true) where
    pub plan_short : length (plan_text name r froms tos) ≤ 7644
    unfolding plan_text
    plan_short = short_enough name _ _ _ _ _ _ _ named plan_small

    pub plan_formed : plan_form (plan_text name r froms tos) ≡ accepted
    unfolding plan_text plan_form
    plan_formed = rw (le-ltb longest_sheet (length (plan_text name r froms tos)) (omega (arith, plan_short)), all_described name _ _ _ _ _ _ _ named plan_small)

    pub froms_back : plan_froms (plan_text name r froms tos) ≡ froms
    unfolding plan_text
    froms_back = starts_back name _ _ _ _ _ _ _ named plan_small

    pub tos_back : plan_tos (plan_text name r froms tos) ≡ tos
    unfolding plan_text
    tos_back = ends_back name _ _ _ _ _ _ _ named plan_small
