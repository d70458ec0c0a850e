-- Whatever `price` and `check` answered by 01's rules other than 7 and 9, they answer with a head anywhere, byte for byte, in as much room.
use Prim.Native.Nat.{ℕ, ◌≤◌}
use mathlib.Core.Path.{◌≡◌, sym, ap, ◌∙◌}
use mathlib.Core.Bool.{true, false, true≢false}
use mathlib.Core.Logic.{⊎_elim}
use mathlib.Core.List.{List, [], ◌∷◌}
use Rattle.refusals.specs.declared.Refusal.TheVariants.{HeadPlace, ShortRoom}
use Rattle.refusals.specs.declared.Verdict.{Verdict}
use Rattle.refusals.specs.Refusals.{is_refusal, first_of}
use Rattle.refusals.proofs.Verdicts.{refuses, first_refuses, all_accept}
use Rattle.runs.specs.Run.{Run, stops_of}
use Rattle.runs.specs.Judging.{judge_of}
use Rattle.runs.specs.Lists.{Detour, list_of}
use Rattle.runs.proofs.Search.{true_or_false}
use Rattle.runs.proofs.Judged.{accepted_run}
use Rattle.runs.proofs.Stops.{accepted_sound}
use Rattle.runs.proofs.AnyHead.{Right, sound_right, entries_same, list_any_same, judge_any_same}
use Rattle.walk.proofs.AnyHead.{priced_same}
use Rattle.least.specs.Least.{LeastForRun}
use Rattle.least.proofs.LeastList.{least_unique}
use Rattle.least.proofs.LeastAny.{least_any_same}
use Rattle.sheet_reader.specs.Sheet.{sheet_run, sheet_name}
use Rattle.sheet_reader.specs.Reading.{sheet_verdict, rule_verdict}
use Rattle.sheet_writer.proofs.Plans.{text_same}
use Rattle.answer_plan.specs.Recall.{room_words, run_checks, verdict_by}
use Rattle.answer_any.specs.AnyRun.{any_checks}
use Rattle.answer_any.proofs.Same.{run_same}
use Rattle.sheet_lists.specs.Form.{plan_froms, plan_tos, list_froms, list_tos}
use Rattle.sheet_lists.specs.Reading.{plan_form, list_form}
use Rattle.answer_check.specs.RunRules.{head_anywhere, head_at_the_right}
use Rattle.answer_check.specs.Pricing.{pricing_verdict, price_text, PriceGiven, price_checks}
use Rattle.answer_check.specs.Checking.{least_line, verdict_lines, check_text, check_verdict, check_checks, VerdictOf, CheckGiven}
use Rattle.answer_check.proofs.Determined.{held_once, checked_once}

-- A run that 01 accepts: the rules are the same, and so is what they give.
module _ (run : Run) (accepts : refuses (judge_of run) ≡ false) where
  right : Right run.head (stops_of run)
  right = sound_right (stops_of run) run.head (accepted_sound run accepts)

  lines_same : (plan expected froms tos : List ℕ) (list : List Detour) → verdict_lines head_anywhere plan expected run froms tos list ≡ verdict_lines head_at_the_right plan expected run froms tos list
  unfolding verdict_lines least_line
  lines_same plan expected froms tos list = rw (priced_same run (accepted_run run accepts) (list_of froms tos), priced_same run (accepted_run run accepts) list)

  check_same : (name plan froms tos : List ℕ) (list : List Detour) → check_text head_anywhere name run plan froms tos list ≡ check_text head_at_the_right name run plan froms tos list
  unfolding check_text
  check_same name plan froms tos list =
      rw (entries_same run.head (stops_of run) right (list_of froms tos), text_same name run accepts froms tos, lines_same plan (head_at_the_right.sheet_of name run froms tos) froms tos list)

  pub verdict_same : (name plan froms tos text : List ℕ) → VerdictOf head_anywhere name run plan froms tos text → VerdictOf head_at_the_right name run plan froms tos text
  verdict_same name plan froms tos text p =
      record {
        list = p.list;
        least = least_any_same run.turn run.head (stops_of run) (accepted_sound run accepts) p.list p.least;
        says = p.says ∙ check_same name plan froms tos p.list;
      }

-- Checks of a run behind those of two texts, which are the same.
module _ (checks others : Run → List Verdict) (form : Verdict) (sheet : List ℕ) where
  abbrev behind : (Run → List Verdict) → Verdict
  behind cs = verdict_by (λ run. form ∷ cs run) sheet

  reached : refuses (sheet_verdict sheet) ≡ false → refuses (rule_verdict sheet) ≡ false → refuses form ≡ false → (cs : Run → List Verdict) → behind cs ≡ first_of (cs (sheet_run sheet))
  unfolding verdict_by
  reached a b c cs = rw (a, b, c)

  pub behind_same : (behind others ≡ first_of (others (sheet_run sheet)) → first_of (checks (sheet_run sheet)) ≡ first_of (others (sheet_run sheet))) → behind checks ≡ behind others
  unfolding verdict_by
  behind_same same =
      ⊎_elim
      (λ (bad : refuses (sheet_verdict sheet) ≡ true). rw bad)
      (λ (a : refuses (sheet_verdict sheet) ≡ false).
      ⊎_elim
      (λ (bad : refuses (rule_verdict sheet) ≡ true). rw (a, bad))
      (λ (b : refuses (rule_verdict sheet) ≡ false).
      ⊎_elim
      (λ (bad : refuses form ≡ true). rw (a, b, bad))
      (λ (c : refuses form ≡ false). reached a b c checks ∙ same (reached a b c others) ∙ sym (reached a b c others))
      (true_or_false (refuses form)))
      (true_or_false (refuses (rule_verdict sheet))))
      (true_or_false (refuses (sheet_verdict sheet)))

-- The price of a list.
module _ (sheet list : List ℕ) (place : (pricing_verdict head_at_the_right sheet list).refusal ≡ HeadPlace → ⊥) where
  abbrev run : Run
  run = sheet_run sheet

  abbrev ours : Run → List Verdict
  ours r = head_anywhere.judged r ∷ head_anywhere.ruled r (list_froms list) (list_tos list) ∷ []

  abbrev theirs : Run → List Verdict
  theirs r = head_at_the_right.judged r ∷ head_at_the_right.ruled r (list_froms list) (list_tos list) ∷ []

  rules_same : pricing_verdict head_at_the_right sheet list ≡ first_of (theirs run) → first_of (ours run) ≡ first_of (theirs run)
  rules_same is =
      ⊎_elim
      (λ (bad : refuses (judge_of run) ≡ true).
      let judged = judge_any_same run (λ at. place (ap (λ v. v.refusal) (is ∙ sym (first_refuses (judge_of run) (head_at_the_right.ruled run (list_froms list) (list_tos list) ∷ []) bad)) ∙ at)) in
      rw (judged, bad))
      (λ (ok : refuses (judge_of run) ≡ false).
      let judged = judge_any_same run (λ at. true≢false (sym (ap is_refusal at) ∙ ok)) in
      rw (judged, ok, list_any_same run.head (stops_of run) (right run ok) (list_froms list) (list_tos list)))
      (true_or_false (refuses (judge_of run)))

  pub pricing_same : pricing_verdict head_anywhere sheet list ≡ pricing_verdict head_at_the_right sheet list
  pricing_same = behind_same ours theirs (list_form list) sheet rules_same

  accepts : refuses (pricing_verdict head_at_the_right sheet list) ≡ false → refuses (judge_of run) ≡ false
  unfolding verdict_by
  accepts e = (all_accept (sheet_verdict sheet ∷ rule_verdict sheet ∷ price_checks head_at_the_right list run) e).1.1.1.0

  price_text_same : price_text head_anywhere (pricing_verdict head_anywhere sheet list) (sheet_name sheet) run list ≡ price_text head_at_the_right (pricing_verdict head_at_the_right sheet list) (sheet_name sheet) run list
  unfolding price_text
  price_text_same =
      ⊎_elim
      (λ (bad : refuses (pricing_verdict head_at_the_right sheet list) ≡ true). rw (pricing_same, bad))
      (λ (ok : refuses (pricing_verdict head_at_the_right sheet list) ≡ false). rw (pricing_same, ok) (text_same (sheet_name sheet) run (accepts ok) (list_froms list) (list_tos list)))
      (true_or_false (refuses (pricing_verdict head_at_the_right sheet list)))

  pub priced_as_01 : (row : List ℕ) (n n' : ℕ) (row' row'' : List ℕ) → PriceGiven head_at_the_right sheet list row n row' → PriceGiven head_anywhere sheet list row n' row'' → (n ≡ n') × (row' ≡ row'')
  priced_as_01 row n n' row' row'' p q = held_once _ _ row (sym price_text_same) n n' row' row'' p q

-- The verdict on a plan sheet.
module _ (sheet plan : List ℕ) (words : ℕ) (enough : room_words ≤ words) (place : (check_verdict head_at_the_right room_words sheet plan).refusal ≡ HeadPlace → ⊥)
    (room : (check_verdict head_at_the_right room_words sheet plan).refusal ≡ ShortRoom → ⊥) where
  abbrev v : Verdict
  v = check_verdict head_at_the_right room_words sheet plan

  pub checking_same : check_verdict head_anywhere words sheet plan ≡ v
  checking_same =
      behind_same (any_checks words) run_checks (plan_form plan) sheet
      (λ is. run_same (sheet_run sheet) words enough (λ at. place (ap (λ x. x.refusal) is ∙ at)) (λ at. room (ap (λ x. x.refusal) is ∙ at)))

  passes : refuses v ≡ false → refuses (judge_of (sheet_run sheet)) ≡ false
  unfolding verdict_by
  passes e = (all_accept (sheet_verdict sheet ∷ rule_verdict sheet ∷ check_checks head_at_the_right room_words plan (sheet_run sheet)) e).1.1.1.0

  one_01 : (run : Run) (list list' : List Detour) → LeastForRun run list → LeastForRun run list' → list ≡ list'
  one_01 run list list' p q = least_unique run.turn run.head (stops_of run) list list' p q

  pub checked_as_01 : (row : List ℕ) (n n' : ℕ) (row' row'' : List ℕ) → CheckGiven head_at_the_right room_words sheet plan row n row' → CheckGiven head_anywhere words sheet plan row n' row'' → (n ≡ n') × (row' ≡ row'')
  checked_as_01 row n n' row' row'' p q =
      let other : CheckGiven head_at_the_right room_words sheet plan row n' row'' =
      record {
        text = q.text;
        answers =
            record {
              refused = λ e. rw checking_same at (q.answers.refused (ap refuses checking_same ∙ e));
              checked = λ e. verdict_same (sheet_run sheet) (passes e) (sheet_name sheet) plan (plan_froms plan) (plan_tos plan) q.text (q.answers.checked (ap refuses checking_same ∙ e));
            };
        holds = q.holds;
      } in
      checked_once head_at_the_right one_01 v (sheet_name sheet) (sheet_run sheet) plan (plan_froms plan) (plan_tos plan) row n n' row' row'' p other
