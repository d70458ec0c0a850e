-- The parts of a month, of every month and every text: short laws over those of the outcome, of the longest time and of the numbers.
use Prim.Native.Nat.{ℕ, ◌-◌, ◌≤◌}
use mathlib.Core.Path.{◌≡◌, refl, sym, ap, ◌∙◌}
use mathlib.Core.Bool.{true, false, ◌&&◌, true≢false}
use mathlib.Core.Logic.{⊎_elim}
use mathlib.Core.List.{List, [], ◌∷◌, ◌++◌}
use native.Mathlib.Omega.{arith}
use lib.ListN.{length, replicate, length-append, length-replicate}
use lib.Dec.{leb}
use borrow.Author.Tests.{le-leb, lt-leb}
use Rattle.refusals.specs.declared.Refusal.TheVariants.{Accepted}
use Rattle.refusals.proofs.Verdicts.{all_accept}
use Rattle.runs.specs.Lists.{Detour}
use Rattle.runs.proofs.Search.{true_or_false}
use Rattle.walk.specs.Price.{priced_times}
use Rattle.least.specs.Least.{LeastForRun}
use Rattle.text_bytes.specs.Text.{line_feed, is_empty, has, before, behind, is_number, decimal}
use Rattle.text_bytes.proofs.Bytes.{and_true_both}
use Rattle.text_bytes.proofs.Split.{split_at}
use Rattle.text_bytes.proofs.Decimals.{decimal_value, decimal_number, decimal_without}
use Rattle.sheet_reader.specs.Sheet.{sheet_run, sheet_name}
use Rattle.sheet_reader.specs.Reading.{sheet_verdict, rule_verdict}
use Rattle.sheet_reader.proofs.Good.{good_name}
use Rattle.answer_plan.specs.Recall.{run_checks, verdict_by}
use Rattle.answer_outcome.specs.declared.Outcome.{Outcome}
use Rattle.answer_outcome.specs.Outcomes.{name_in, planned_outcome, OutcomeOf}
use Rattle.answer_outcome.proofs.Plans.{name_fits}
use Rattle.std.specs.Prelude.{Some, Ok, Err}
use Rattle.answer_month.specs.Month.{added}
use Rattle.answer_month.specs.Parts.{is_count, count_of, part_of, input_verdict}
use Rattle.demands.proofs.Letters.{numbers_are_texts}
use Rattle.promises.specs.MonthLongest.{times_by_walk}
use Rattle.promises.specs.Callers.{IsLongestOf}
use Rattle.promises.specs.CallersMonth.{SheetIsAdded, AcceptedNames, CountLine, PartIsTold, InputIsJudged}
use Rattle.promises.proofs.MonthInput.{whole_count}
use Rattle.promises.proofs.MonthLongest.{passes, is}
use Rattle.promises.proofs.MonthRuns.{sheets_come_to}
use Rattle.promises.proofs.Callers.{longest_is_first, grows, outcome_is_added}

-- A sheet more.
pub sheet_is_added : SheetIsAdded
sheet_is_added m bytes there sheet r h =
    record {
      cut = h.cut;
      there_all = λ l.
          let found = h.whole l in
          record {
            outcome = found.0;
            of_sheet = found.1.0;
            comes_to = sheets_come_to sheet found.0 found.1.0;
            month = added m found.0;
            is_added = refl;
            more = outcome_is_added m found.0;
            whole = found.1.1;
          };
    }

-- What an accepted sheet's outcome names.
module _ (sheet : List ℕ) (o : Outcome) (p : OutcomeOf sheet o) (a : o.refusal ≡ Accepted) where
  abbrev name : List ℕ
  name = sheet_name sheet

  name_short_here : length name ≤ 16
  unfolding verdict_by
  name_short_here = name_fits name (good_name sheet (all_accept (sheet_verdict sheet ∷ rule_verdict sheet ∷ run_checks (sheet_run sheet)) (passes sheet o p a)).0)

  letters_are : o.letters ≡ length name
  unfolding planned_outcome
  letters_are = ap (λ (x : Outcome). x.letters) (p.planned (passes sheet o p a)).says

  tape_is : o.tape ≡ name ++ replicate (16 - length name) 0
  unfolding planned_outcome name_in
  tape_is = ap (λ (x : Outcome). x.tape) (p.planned (passes sheet o p a)).says

  longest_by : (list : List Detour) → LeastForRun (sheet_run sheet) list → IsLongestOf (sheet_run sheet).numbers (times_by_walk (sheet_run sheet) list) (record { time = o.time; file = o.file })
  unfolding planned_outcome priced_times
  longest_by list least = rw (is sheet o list p a least) (longest_is_first (sheet_run sheet).numbers (priced_times (sheet_run sheet) list))

pub accepted_names : AcceptedNames
accepted_names sheet o p a =
    let short = name_short_here sheet o p a in
    let tape = tape_is sheet o p a in
    record {
      letters = letters_are sheet o p a;
      tape = tape;
      sixteen = ap length tape ∙ omega (arith, short, length-append (sheet_name sheet) (replicate (16 - length (sheet_name sheet)) 0), length-replicate {A = ℕ} (16 - length (sheet_name sheet)) 0);
      longest = longest_by sheet o p a;
    }

-- A byte count, read.
empty_text : (text : List ℕ) → is_empty text ≡ true → text ≡ []
empty_text [] e = refl
empty_text (b ∷ text) e = absurd (true≢false (sym e))

some_text : (text : List ℕ) → (text ≡ [] → ⊥) → is_empty text ≡ false
some_text [] n = absurd (n refl)
some_text (b ∷ text) n = refl

count_read : (bytes : ℕ) (line : List ℕ) → CountLine bytes line → count_of line ≡ Ok (Some bytes)
count_read bytes line c =
    ap count_of c.is ∙ whole_count (decimal bytes) (decimal_without line_feed bytes refl) ∙ rw (decimal_number bytes c.word, decimal_value bytes) refl

count_there : (line : List ℕ) → is_count line ≡ true → (bytes : ℕ) × CountLine bytes line
unfolding is_count
count_there line e =
    let three = and_true_both (has line_feed line && is_empty (behind line_feed line)) (is_number (before line_feed line)) e in
    let two = and_true_both (has line_feed line) (is_empty (behind line_feed line)) three.0 in
    let n = (numbers_are_texts.number (before line_feed line)).0 three.1 in
    let rest = empty_text (behind line_feed line) two.1 in
    (n.n, record { word = n.word; is = split_at line_feed line two.0 ∙ ap (λ t. before line_feed line ++ (line_feed ∷ t)) rest ∙ ap (λ t. t ++ (line_feed ∷ [])) n.is })

count_missing : (line : List ℕ) → ((bytes : ℕ) → CountLine bytes line → ⊥) → count_of line ≡ Err (record {})
unfolding count_of
count_missing line none =
    ⊎_elim
    (λ (e : is_count line ≡ true). let c = count_there line e in absurd (none c.0 c.1))
    (λ (e : is_count line ≡ false). rw e refl)
    (true_or_false (is_count line))

count_some : (bytes : ℕ) (line : List ℕ) → CountLine bytes line → is_empty line ≡ false
count_some bytes line c = rw c.is (go (decimal bytes))
  where
    go : (front : List ℕ) → is_empty (front ++ (line_feed ∷ [])) ≡ false
    go [] = refl
    go (b ∷ front) = refl

-- A full month has no place for a sheet.
pub part_is_told : PartIsTold
unfolding part_of
part_is_told sheets line =
    record {
      end = λ e. rw e refl;
      sheet = λ bytes c l. rw (count_some bytes line c, lt-leb 1000 sheets l) (count_read bytes line c);
      beyond = λ n l. rw (some_text line n, le-leb 1000 sheets l) refl;
      no_count = λ n none.
          ⊎_elim
          (λ (e : leb 1000 sheets ≡ true). rw (some_text line n, e) refl)
          (λ (e : leb 1000 sheets ≡ false). rw (some_text line n, e) (count_missing line none))
          (true_or_false (leb 1000 sheets));
    }

pub input_is_judged : InputIsJudged
unfolding input_verdict
input_is_judged m = record { good = refl; kind = refl; place = grows m.sheets 1 }
