-- From what the pricer, the planner and the writer say of a run and a list by value to the verdict's text.
use Prim.Native.Nat.{ℕ, zero, suc, ◌-◌, ◌≤◌}
use mathlib.Core.Path.{◌≡◌, refl, sym, ap, ◌∙◌, subst}
use mathlib.Core.Bool.{Bool, true, false, true≢false, ◌&&◌}
use mathlib.Core.List.{List, [], ◌∷◌, ◌++◌, map}
use native.Mathlib.Omega.{arith}
use lib.ListN.{length, take, drop, length-append, length-replicate}
use lib.Seq.{take_at, take-append_seam}
use lib.Dec.{eqb}
use borrow.Author.Tests.{eq-eqb, ne_eqb, le-ltb}
use Rattle.refusals.specs.declared.Refusal.TheVariants.{BadEntry}
use Rattle.refusals.specs.declared.Verdict.{Verdict}
use Rattle.std.specs.Prelude.{Result, Ok, Err}
use Rattle.std.specs.Result.{result_unwrap_or}
use Rattle.refusals.specs.Refusals.{refuse_at, first_of, accepted, checked}
use Rattle.refusals.proofs.Checked.{passed, stopped}
use Rattle.refusals.proofs.Verdicts.{refuses, first_passes, AllAccept, all_accept, none_refuses, accepts_at}
use Rattle.runs.specs.Run.{Run, stops_of}
use Rattle.runs.specs.Alone.{zeros}
use Rattle.runs.specs.Lists.{Detour, list_of}
use Rattle.runs.specs.AnyHead.{judge_any_of, first_bad_entry_any, list_verdict_any}
use Rattle.walk.specs.AnyHead.{priced_any_answer}
use Rattle.least.specs.AnyHead.{LeastAny}
use Rattle.engine_stops.proofs.Halves.{list_of_halves, half_long, halves_even}
use Rattle.text_bytes.specs.Text.{is_text}
use Rattle.text_pages.specs.Printing.{number_line}
use Rattle.sheet_reader.specs.Sheet.{sheet_run, sheet_name}
use Rattle.sheet_reader.specs.Reading.{read_name}
use Rattle.sheet_runs.specs.declared.SheetRun.{SheetRun}
use Rattle.sheet_runs.specs.SheetRuns.{filled_up, run_by_value, run_held}
use Rattle.sheet_writer.specs.declared.Written.{Written}
use Rattle.sheet_writer.specs.Writing.{row_verdict, refused_writing, written_of, written_answer, written_row, Handed}
use Rattle.sheet_writer.specs.AnyHead.{plan_any_text, PlanAnyWritten}
use Rattle.sheet_writer.specs.RefusalLines.{refusal_text}
use Rattle.sheet_lists.specs.Form.{plan_froms, plan_tos}
use Rattle.sheet_lists.specs.Reading.{plan_form}
use Rattle.sheet_lists.proofs.AnyTrip.{any_short}
use Rattle.answer_plan.specs.declared.PlannedList.{PlannedList}
use Rattle.answer_plan.specs.Recall.{verdict_by}
use Rattle.answer_plan.specs.PlannedLists.{ListIn}
use Rattle.answer_plan.proofs.Answered.{moved}
use Rattle.answer_any.specs.AnyRun.{any_checks, room_after}
use Rattle.answer_any.specs.AnyLists.{RunListedAny, TextOfList}
use Rattle.answer_any.proofs.Planned.{room_kept}
use Rattle.answer_check.specs.RunRules.{head_anywhere}
use Rattle.answer_check.specs.Checking.{formed_no, same_list, least_line, verdict_lines, check_text, verdict_on, VerdictOf, SheetChecked, CheckAnswered}
use Rattle.answer_check.specs.Private.{HandedIn, list_checks, PricedList, first_refusal, Checkable, verdict_by as linesBy, PageOf, PageIs, PlanChecked}
use Rattle.answer_check.proofs.Formed.{plan_even, plan_long}
use Rattle.answer_check.proofs.Prices.{handed_holds, row_decides, sheet_ok, in_order, stays as first_stays, passes as first_goes}

-- A list of starts and ends of one number.
module _ (run : Run) (froms tos : List ℕ) (even : length froms ≡ length tos) where
  entry : ℕ
  entry = first_bad_entry_any run.head (stops_of run) (list_of froms tos)

  list_verdict_here : list_verdict_any run.head (stops_of run) froms tos ≡ refuse_at (first_bad_entry_any run.head (stops_of run) (list_of froms tos)) BadEntry
  unfolding list_verdict_any
  list_verdict_here = rw (eq-eqb (length froms) (length tos) even) (last_at_here (first_bad_entry_any run.head (stops_of run) (list_of froms tos)))
    where
      last_at_here : (n : ℕ) → first_of (refuse_at n BadEntry ∷ []) ≡ refuse_at n BadEntry
      last_at_here zero = refl
      last_at_here (suc n) = refl

  pub entry_none : refuses (list_verdict_any run.head (stops_of run) froms tos) ≡ false → first_bad_entry_any run.head (stops_of run) (list_of froms tos) ≡ 0
  entry_none e = accepts_at (first_bad_entry_any run.head (stops_of run) (list_of froms tos)) BadEntry refl (ap refuses (sym list_verdict_here) ∙ e)

  -- One that is refused names its entry.
  pub entry_bad : refuses (list_verdict_any run.head (stops_of run) froms tos) ≡ true → ((list_verdict_any run.head (stops_of run) froms tos).place ≡ first_bad_entry_any run.head (stops_of run) (list_of froms tos)) × (eqb (first_bad_entry_any run.head (stops_of run) (list_of froms tos)) 0 ≡ false)
  entry_bad e = go (first_bad_entry_any run.head (stops_of run) (list_of froms tos)) list_verdict_here (ap refuses (sym list_verdict_here) ∙ e)
    where
      go : (n : ℕ) → list_verdict_any run.head (stops_of run) froms tos ≡ refuse_at n BadEntry → refuses (refuse_at n BadEntry) ≡ true → ((list_verdict_any run.head (stops_of run) froms tos).place ≡ n) × (eqb n 0 ≡ false)
      go zero is r = absurd (true≢false (sym r))
      go (suc n) is r = (ap (λ v. v.place) is, ne_eqb (suc n) 0 (λ e. omega (arith, e)))

-- The verdict on a list that is well formed, by its parts.
formed_text : (name : List ℕ) (run : Run) (plan froms tos : List ℕ) (list : List Detour) → first_bad_entry_any run.head (stops_of run) (list_of froms tos) ≡ 0 → (expected : List ℕ) → expected ≡ plan_any_text name run froms tos
    → (same : Bool) → same ≡ same_list froms tos list → (sum : ℕ) → sum ≡ (priced_any_answer run (list_of froms tos)).sum → (least : ℕ) → least ≡ (priced_any_answer run list).sum
    → linesBy plan expected same (sum - least) ≡ check_text head_anywhere name run plan froms tos list
unfolding check_text verdict_lines least_line
formed_text name run plan froms tos list none expected x same s sum e least m = rw (none, x, s, e, m)

-- The least list, in two rows.
module _ (run : Run) (least : PlannedList) (is : ListIn LeastAny run least) where
  pub least_half : (f : Detour → ℕ) → take (length is.list) (filled_up 63 (map f is.list)) ≡ map f is.list
  least_half f = take_at (map f is.list) (zeros (63 - length (map f is.list))) (length is.list) (half_long f is.list)

  pub least_starts : take least.detours least.froms ≡ map (λ d. d.from) is.list
  least_starts = rw is.says (least_half (λ d. d.from))

  pub least_ends : take least.detours least.tos ≡ map (λ d. d.to) is.list
  least_ends = rw is.says (least_half (λ d. d.to))

  least_accepted : refuses (list_verdict_any run.head (stops_of run) (map (λ d. d.from) is.list) (map (λ d. d.to) is.list)) ≡ false
  unfolding list_verdict_any
  least_accepted = rw (eq-eqb _ _ (halves_even (λ d. d.from) (λ d. d.to) is.list), list_of_halves is.list, is.least.formed)

  -- Its sum.
  pub least_sum : refuses (judge_any_of run) ≡ false → (best : Result ℕ Verdict) → PricedList run (take least.detours least.froms) (take least.detours least.tos) best
      → result_unwrap_or best 0 ≡ (priced_any_answer run is.list).sum
  least_sum good (Ok sum) priced =
      let at : PricedList run (map (λ d. d.from) is.list) (map (λ d. d.to) is.list) (Ok sum) = rw (least_starts, least_ends) at priced in
      at.1 ∙ rw (list_of_halves is.list) refl
  least_sum good (Err v) priced =
      let at : PricedList run (map (λ d. d.from) is.list) (map (λ d. d.to) is.list) (Err v) = rw (least_starts, least_ends) at priced in
      let none : refuses (first_of (list_checks run (map (λ d. d.from) is.list) (map (λ d. d.to) is.list))) ≡ false = rw (good, least_accepted) refl in
      absurd (true≢false (sym at.0 ∙ ap refuses at.1 ∙ none))

-- A list of a plan sheet, for a run that is accepted.
module _ (name : List ℕ) (run : Run) (plan : List ℕ) (l least : PlannedList) (ok : Checkable name run plan l least) where
  abbrev froms : List ℕ
  froms = take l.detours l.froms

  abbrev tos : List ℕ
  tos = take l.detours l.tos

  pub list_unformed : (e : Verdict) → PricedList run (take l.detours l.froms) (take l.detours l.tos) (Err e) → (page : List ℕ) (n : ℕ) → PageIs (number_line formed_no e.place) page n
      → PageOf (VerdictOf head_anywhere name run plan (take l.detours l.froms) (take l.detours l.tos)) page n
  unfolding check_text
  list_unformed e priced page n is =
      let rules_are = priced.1 ∙ first_passes (judge_any_of run) (list_verdict_any run.head (stops_of run) froms tos ∷ []) ok.judged in
      let alone = last_refuses (list_verdict_any run.head (stops_of run) froms tos) (ap refuses (sym rules_are) ∙ priced.0) in
      let bad = entry_bad run froms tos ok.even alone.0 in
      let place : e.place ≡ first_bad_entry_any run.head (stops_of run) (list_of froms tos) = ap (λ v. v.place) (rules_are ∙ alone.1) ∙ bad.0 in
      record {
        within = is.within;
        says = record { list = ok.planned.list; least = ok.planned.least; says = is.says ∙ rw (place, bad.1) refl };
      }
    where
      last_refuses : (w : Verdict) → refuses (first_of (w ∷ [])) ≡ true → (refuses w ≡ true) × (first_of (w ∷ []) ≡ w)
      last_refuses w r = go (refuses w) refl
        where
          go : (b : Bool) → refuses w ≡ b → (refuses w ≡ true) × (first_of (w ∷ []) ≡ w)
          go true h = (h, rw h)
          go false h = let z : false ≡ true = rw h at r in absurd (true≢false (sym z))

  module _ (sum : ℕ) (priced : PricedList run (take l.detours l.froms) (take l.detours l.tos) (Ok sum)) where
    list_good_here : refuses (list_verdict_any run.head (stops_of run) froms tos) ≡ false
    list_good_here = (all_accept (list_checks run froms tos) priced.0).1.0

    module _ (priced-least : Result ℕ Verdict) (least-told : PricedList run (take least.detours least.froms) (take least.detours least.tos) priced-least) (best : ℕ) (unwrapped : best ≡ result_unwrap_or priced-least 0) where
      best_is : best ≡ (priced_any_answer run ok.planned.list).sum
      best_is = unwrapped ∙ least_sum run least ok.planned ok.judged priced-least least-told

      -- The least sum is not larger.
      pub least_below : best ≤ sum
      unfolding priced_any_answer
      least_below = omega (arith, priced.1, best_is, ok.planned.least.smallest (list_of froms tos) (entry_none run froms tos ok.even list_good_here))

      -- The sheet that is expected.
      module _ (sheet : List ℕ) (r : SheetRun) (run_is : run_held r ≡ run) (name_is : read_name sheet ≡ name) (w : Written) (row : List ℕ) (written : TextOfList sheet r l (zeros 7644) w row) where
        abbrev text : List ℕ
        text = plan_any_text name run froms tos

        short : length text ≤ 7644
        short = any_short run froms tos ok.judged list_good_here name ok.named

        handed : Handed (row_verdict text (zeros 7644)) text (zeros 7644) w row
        handed =
            subst (λ v. Handed v text (zeros 7644) w row) (row_decides name run froms tos (zeros 7644) ok.named ok.judged list_good_here)
            (moved PlanAnyWritten name_is run_is refl refl written)

        fits : row_verdict text (zeros 7644) ≡ accepted
        unfolding row_verdict
        fits = rw (le-ltb (length (zeros 7644)) (length text) (omega (arith, short, length-replicate {A = ℕ} 7644 0))) refl

        bytes_are : w.bytes ≡ length text
        unfolding written_answer
        bytes_are = ap (λ x. x.bytes) handed.answer ∙ rw fits refl

        row_is : row ≡ text ++ drop (length text) (zeros 7644)
        unfolding written_row
        row_is = handed.left ∙ rw fits refl

        expected_is : take w.bytes row ≡ text
        expected_is = rw (bytes_are, row_is) (take-append_seam text (drop (length text) (zeros 7644)))

        pub expected_inside : w.bytes ≤ length row
        expected_inside = omega (arith, bytes_are, ap length row_is, length-append text (drop (length text) (zeros 7644)))

        pub expected_short : length (take w.bytes row) ≤ 7644
        expected_short = omega (arith, ap length expected_is, short)

        pub list_formed : (same : Bool) → same ≡ (is_text (take least.detours least.froms) (take l.detours l.froms) && is_text (take least.detours least.tos) (take l.detours l.tos)) → (page : List ℕ) (n : ℕ)
            → PageIs (linesBy plan (take w.bytes row) same (sum - best)) page n → PageOf (VerdictOf head_anywhere name run plan (take l.detours l.froms) (take l.detours l.tos)) page n
        list_formed same same-is page n is =
            record {
              within = is.within;
              says = record {
                list = ok.planned.list;
                least = ok.planned.least;
                says = is.says ∙ formed_text name run plan froms tos ok.planned.list (entry_none run froms tos ok.even list_good_here) _ expected_is same (same-is ∙ rw (least_starts run least ok.planned, least_ends run least ok.planned) refl) sum priced.1 best best_is;
              };
            }

-- A plan sheet checked: the run sheet's own refusal, that of the plan sheet's form, the planner's, or the verdict.
module _ (sheet plan room : List ℕ) (r : SheetRun) (is : r ≡ run_by_value sheet) where
  abbrev checks : Run → List Verdict
  checks = any_checks (length room)

  abbrev said : Verdict
  said = verdict_on (length room) sheet plan

  -- The verdict, by what was read.
  said_by : first_refusal r.verdict (first_refusal (plan_form plan) (first_of (checks (run_held r)))) ≡ said
  unfolding verdict_by
  said_by = in_order sheet r is (plan_form plan) (first_of (checks (run_held r))) (checks (sheet_run sheet)) (λ e _. ap (λ x. first_of (checks x)) (sheet_ok sheet r is e).run)

  -- A refusal that the planner was not asked about.
  kept_by : (v : Verdict) → refuses v ≡ true → v ≡ said → (page : List ℕ) → PlanChecked sheet plan room (Err v) page room
  kept_by v so same page = record { told = (so, same); cleared = sym (room_kept said (sheet_run sheet) room (ap refuses (sym same) ∙ so)) }

  pub run_stops : (e : Verdict) → Err e ≡ checked r.verdict → (page : List ℕ) → PlanChecked sheet plan room (Err e) page room
  run_stops e told page =
      let s = stopped _ _ told in
      kept_by e (ap refuses (sym s.is) ∙ s.so) (sym s.is ∙ first_stays r.verdict _ s.so ∙ said_by) page

  module _ (u : Unit) (run-told : Ok u ≡ checked r.verdict) (l : PlannedList) (handed : HandedIn (plan_form plan) (plan_froms plan) (plan_tos plan) l) where
    early : refuses r.verdict ≡ false
    early = passed _ _ run-told

    -- The plan sheet's form comes next.
    form_next : first_refusal l.verdict (first_of (checks (run_held r))) ≡ said
    form_next = ap (λ x. first_refusal x (first_of (checks (run_held r)))) handed.verdict ∙ first_goes r.verdict _ early ∙ said_by

    pub form_stops : (e : Verdict) → Err e ≡ checked l.verdict → (page : List ℕ) → PlanChecked sheet plan room (Err e) page room
    form_stops e told page =
        let s = stopped _ _ told in
        kept_by e (ap refuses (sym s.is) ∙ s.so) (sym s.is ∙ first_stays l.verdict _ s.so ∙ form_next) page

    module _ (t : Unit) (form-told : Ok t ≡ checked l.verdict) (least : PlannedList) (room' : List ℕ) (lists : RunListedAny r room least room') where
      form_good : refuses l.verdict ≡ false
      form_good = passed _ _ form-told

      form : refuses (plan_form plan) ≡ false
      form = ap refuses (sym handed.verdict) ∙ form_good

      -- Then what the planner checks.
      planned_under : first_of (r.verdict ∷ checks (run_held r)) ≡ said
      planned_under = first_passes r.verdict (checks (run_held r)) early ∙ first_goes l.verdict _ form_good ∙ form_next

      planner_says : least.verdict ≡ said
      planner_says = go (refuses (first_of (r.verdict ∷ checks (run_held r)))) refl
        where
          go : (b : Bool) → refuses (first_of (r.verdict ∷ checks (run_held r))) ≡ b → least.verdict ≡ said
          go true e = ap (λ x. x.verdict) (lists.listed.refused e) ∙ planned_under
          go false e = ap (λ x. x.verdict) (lists.listed.planned e).says ∙ sym (none_refuses (r.verdict ∷ checks (run_held r)) e) ∙ planned_under

      pub planner_stops : (e : Verdict) → Err e ≡ checked least.verdict → (page : List ℕ) → PlanChecked sheet plan room (Err e) page room'
      planner_stops e told page =
          let s = stopped _ _ told in
          let so : refuses said ≡ true = ap refuses (sym planner_says) ∙ s.so in
          record {
            told = (ap refuses (sym s.is) ∙ s.so, sym s.is ∙ planner_says);
            cleared = lists.cleared ∙ room_kept _ (run_held r) room (ap refuses planned_under ∙ so) ∙ sym (room_kept said (sheet_run sheet) room so);
          }

      module _ (v : Unit) (least-told : Ok v ≡ checked least.verdict) where
        so : refuses said ≡ false
        so = ap refuses (sym planner_says) ∙ passed _ _ least-told

        all : AllAccept (r.verdict ∷ checks (run_held r))
        all = all_accept (r.verdict ∷ checks (run_held r)) (ap refuses planned_under ∙ so)

        pub checkable : Checkable (read_name sheet) (run_held r) plan l least
        checkable =
            record {
              named = (sheet_ok sheet r is early).named;
              judged = all.1.0;
              short = plan_long plan form;
              form = form_good;
              even = rw (handed.starts form, handed.ends form) (plan_even plan);
              planned = lists.listed.planned (ap refuses planned_under ∙ so);
            }

        pub checked_page : (page : List ℕ) (n : ℕ) → PageOf (VerdictOf head_anywhere (read_name sheet) (run_held r) plan (take l.detours l.froms) (take l.detours l.tos)) page n
            → PlanChecked sheet plan room (Ok n) page room'
        checked_page page n given =
            let h = sheet_ok sheet r is early in
            let by-run = subst (λ x. VerdictOf head_anywhere (read_name sheet) x plan (take l.detours l.froms) (take l.detours l.tos) (take n page)) h.run given.says in
            let by_name = subst (λ x. VerdictOf head_anywhere x (sheet_run sheet) plan (take l.detours l.froms) (take l.detours l.tos) (take n page)) h.name by-run in
            let by-starts = subst (λ x. VerdictOf head_anywhere (sheet_name sheet) (sheet_run sheet) plan x (take l.detours l.tos) (take n page)) (handed.starts form) by_name in
            let says = subst (λ x. VerdictOf head_anywhere (sheet_name sheet) (sheet_run sheet) plan (plan_froms plan) x (take n page)) (handed.ends form) by-starts in
            record {
              told = (so, record { within = given.within; says = says });
              cleared = lists.cleared ∙ ap (λ x. room_after x (run_held r) room) planned_under ∙ ap (λ x. room_after said x room) h.run;
            }

-- From there to the answer for a caller and for a program.
module _ (sheet plan room page room' : List ℕ) where
  abbrev found : Verdict
  found = verdict_on (length room) sheet plan

  pub answer_refused : (e : Verdict) → PlanChecked sheet plan room (Err e) page room' → (row : List ℕ) (w : Written) → w ≡ written_of e 0 → CheckAnswered sheet plan row room w row room'
  answer_refused e c row w w-is =
      let t : refuses found ≡ true = ap refuses (sym c.told.1) ∙ c.told.0 in
      record {
        refused = λ q. record { says = w-is ∙ rw (c.told.0) (ap refused_writing c.told.1); kept = refl };
        checked = λ q. absurd (true≢false (sym t ∙ q));
        cleared = c.cleared;
      }

  pub answer_handed : (n : ℕ) → PlanChecked sheet plan room (Ok n) page room' → (row : List ℕ) (w : Written) (row' : List ℕ) → Handed (row_verdict (take n page) row) (take n page) row w row'
      → CheckAnswered sheet plan row room w row' room'
  answer_handed n c row w row' h =
      record {
        refused = λ q. absurd (true≢false (sym q ∙ c.told.0));
        checked = λ q. record { text = take n page; asked = c.told.1.says; handed = h };
        cleared = c.cleared;
      }

  pub text_refused : (e : Verdict) → PlanChecked sheet plan room (Err e) page room' → (row : List ℕ) (w : Written) (row' : List ℕ) → Handed (row_verdict (refusal_text e) row) (refusal_text e) row w row'
      → SheetChecked sheet plan row room w.bytes row' room'
  text_refused e c row w row' h =
      let t : refuses found ≡ true = ap refuses (sym c.told.1) ∙ c.told.0 in
      record {
        given =
            record {
              text = refusal_text e;
              answers = record { refused = λ q. ap refusal_text c.told.1; checked = λ q. absurd (true≢false (sym t ∙ q)) };
              holds = handed_holds (refusal_text e) row w row' h;
            };
        cleared = c.cleared;
      }

  pub text_handed : (n : ℕ) → PlanChecked sheet plan room (Ok n) page room' → (row : List ℕ) (w : Written) (row' : List ℕ) → Handed (row_verdict (take n page) row) (take n page) row w row'
      → SheetChecked sheet plan row room w.bytes row' room'
  text_handed n c row w row' h =
      record {
        given =
            record {
              text = take n page;
              answers = record { refused = λ q. absurd (true≢false (sym q ∙ c.told.0)); checked = λ q. c.told.1.says };
              holds = handed_holds (take n page) row w row' h;
            };
        cleared = c.cleared;
      }
