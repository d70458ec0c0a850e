-- The readers for a caller in Rattle: what 12 and 11 find, with 8 behind them, and the rows by what the lines hold.
use Prim.Native.Nat.{ℕ, ◌+◌, ◌-◌, ◌≤◌}
use mathlib.Core.Path.{◌≡◌, refl, sym, ap, ◌∙◌, subst}
use mathlib.Core.Bool.{Bool, true, false, true≢false}
use mathlib.Core.Logic.{◌⊎◌, inl, inr, ⊎_elim, ◌↔◌, by_cases}
use mathlib.Core.List.{List, [], ◌∷◌}
use native.Mathlib.Omega.{arith}
use native.Mathlib.Decide.{dec_lt}
use lib.ListN.{length}
use lib.Dec.{ltb}
use Rattle.refusals.specs.declared.Refusal.{Refusal}
use Rattle.refusals.specs.declared.Refusal.TheVariants.{Accepted, BadLine, LongSheet, ShortRow}
use Rattle.refusals.specs.declared.Verdict.{Verdict}
use Rattle.refusals.specs.Refusals.{number_of, is_refusal, refuse_if, refuse_at, first_of}
use Rattle.refusals.proofs.Verdicts.{refuses, none_refuses, all_accept, accepts_at}
use Rattle.runs.proofs.Search.{true_or_false}
use Rattle.text_bytes.specs.Text.{line_feed, has, is_empty, value_of, decimal}
use Rattle.text_bytes.proofs.Decimals.{decimal_value, decimal_without}
use Rattle.text_lines.specs.Lines.{after_lines, line_after, value_text, first_in, second_in}
use Rattle.text_lines.proofs.Filling.{length_each}
use Rattle.sheet_reader.specs.Lines.{turn_key, turn_with}
use Rattle.sheet_reader.specs.Sheet.{longest_sheet, sheet_turn_with, says_sweep, file_text}
use Rattle.sheet_reader.specs.Reading.{short_pair_rows, read_row}
use Rattle.sheet_writer.specs.PlanSheet.{detours_key, detour_key}
use Rattle.sheet_lists.specs.declared.ListReading.{ListReading}
use Rattle.sheet_lists.specs.Form.{detours_told, detour_text, is_plan, list_detours, list_text, starts_on, ends_on, plan_froms, plan_tos, list_froms, list_tos}
use Rattle.sheet_lists.specs.Reading.{plan_form, list_form, ReadBy}
use Rattle.sheet_loose.specs.declared.Parts.{Parts}
use Rattle.sheet_loose.specs.Loose.{loose_files, loose_wants_text, loose_want_text, loose_wants, price_left_out, first_bad_loose, wanted_files, wanted_counts}
use Rattle.sheet_loose.specs.Reading.{loose_verdict, want_rows_verdict, refused_parts, sheet_parts, loose_parts, LooseRead}
use Rattle.sheet_loose.proofs.Ends.{after_ends}
use Rattle.demands.specs.RefusalTable.{FirstThatApplies, none, here, later}
use Rattle.demands.specs.Lines.{Stands, Number, NumberOrNothing}
use Rattle.demands.specs.SheetLines.{PriceText}
use Rattle.demands.proofs.Tests.{Tells, tells_below, tells_either, tells_reworded, tells_holds}
use Rattle.demands.proofs.Checks.{decides_if, decides_reworded, Finds, finds_none, finds_first}
use Rattle.demands.proofs.Canonical.{number_text}
use Rattle.demands.proofs.Lines.{nothing_flat, number_some, tells_turn, tells_sweep}
use Rattle.demands.proofs.SheetLines.{value_read}
use Rattle.promises.specs.Mender.{WantLine, Come, SheetApplies}
use Rattle.promises.specs.ListLines.{IsPlanSheet, PlanFormApplies, ListFormApplies, form_order}
use Rattle.promises.specs.ListEntries.{OnPlanSheet, OnBareList}
use Rattle.promises.specs.CallersRead.{ReaderApplies, form, short_row, rows_read_order, EntriesTooMany, ListReaderAnswers, PlanReaderTells, OnList, ListReaderTells, WantsTooMany, StartsBehind, PartsTold, WantsTold, NoParts, LooseReaderAnswers, LooseReaderTells}
use Rattle.promises.proofs.Described.{described}
use Rattle.promises.proofs.MenderLines.{nothing_stands, tail_behind, body_behind}
use Rattle.promises.proofs.Mender.{form_finds, not_eight}
use Rattle.promises.proofs.MenderWants.{parts_are_read}
use Rattle.promises.proofs.ListLines.{is_plan_lem, plan_is, plan_form_by_the_table, list_form_by_the_table}
use Rattle.promises.proofs.ListEntries.{plan_holds_its_lines, list_holds_its_lines}

-- 8 behind 12 and 11.
module _ (Form : Refusal → ℕ → Type 0) (other : (k : Refusal) (p : ℕ) → Form k p → number_of k ≡ 8 → ⊥) (Short : Type 0) (short : Bool) where
  long_back : (p : ℕ) → ReaderApplies Form Short LongSheet p → Form LongSheet p
  long_back p (form h) = h

  line_back : (p : ℕ) → ReaderApplies Form Short BadLine p → Form BadLine p
  line_back p (form h) = h

  row_back : (p : ℕ) → ReaderApplies Form Short ShortRow p → (p ≡ 0) × Short
  row_back p (form h) = absurd (other ShortRow p h refl)
  row_back p (short_row s) = (refl, s)

  then_rows : {kind : Refusal} {place : ℕ} → FirstThatApplies Form form_order kind place → (kind ≡ Accepted → Tells short Short)
      → Finds (ReaderApplies Form Short) rows_read_order (first_of (record { refusal = kind; place = place } ∷ refuse_if short ShortRow ∷ []))
  then_rows (here h) tells = here (form h)
  then_rows (later a (here h)) tells = later (λ p x. a p (long_back p x)) (here (form h))
  then_rows (later a (later b none)) tells =
      later (λ p x. a p (long_back p x))
      (later (λ p x. b p (line_back p x))
      (finds_first (ReaderApplies Form Short) [] refl (decides_reworded (λ p h. rw h.0 (short_row h.1)) row_back (decides_if short ShortRow (tells refl)))
      (λ c. finds_none (ReaderApplies Form Short))))

-- Two rows of entries.
module _ (Form : Refusal → ℕ → Type 0) (other : (k : Refusal) (p : ℕ) → Form k p → number_of k ≡ 8 → ⊥) (On : List ℕ → List ℕ → Type 0) (v : Verdict) (many : ℕ) (text starts ends : List ℕ)
    (finds : Finds Form form_order v) (on : refuses v ≡ false → On (starts_on many text) (ends_on many text))
    (once : refuses v ≡ false → (froms tos : List ℕ) → On froms tos → (length froms ≡ many) × (length tos ≡ many)) where
  tells_rows : refuses v ≡ false → Tells (short_pair_rows many starts ends) (EntriesTooMany On starts ends)
  tells_rows e =
      let a = length_each (λ i. first_in detour_key (line_after i text)) many in
      let b = length_each (λ i. second_in detour_key (line_after i text)) many in
      tells_reworded
      (λ s. record { froms = starts_on many text; tos = ends_on many text; on = on e; short = rw (a, b) s })
      (λ t. let l = once e t.froms t.tos t.on in rw (l.0, l.1) at t.short)
      (tells_either _ _ (tells_below (length starts) many) (tells_below (length ends) many))

  abbrev checks : List Verdict
  checks = v ∷ refuse_if (short_pair_rows many starts ends) ShortRow ∷ []

  module _ (r : ListReading) (starts' ends' : List ℕ) (h : ReadBy (first_of checks) many text starts ends r starts' ends') where
    passes : r.verdict.refusal ≡ Accepted → refuses (first_of checks) ≡ false
    passes a = ap is_refusal (sym (ap (λ x. x.refusal) h.verdict) ∙ a)

    kept_so_here : (r.verdict.refusal ≡ Accepted → ⊥) → (r.detours ≡ 0) × (starts' ≡ starts) × (ends' ≡ ends)
    unfolding read_row
    kept_so_here n =
        ⊎_elim
        (λ (e : refuses (first_of checks) ≡ true). (h.detours ∙ rw e, h.froms ∙ rw e, h.tos ∙ rw e))
        (λ (e : refuses (first_of checks) ≡ false). absurd (n (ap (λ x. x.refusal) (h.verdict ∙ none_refuses checks e))))
        (true_or_false (refuses (first_of checks)))

    reader_answers : ListReaderAnswers Form On starts ends r starts' ends'
    unfolding read_row
    reader_answers =
        record {
          first = rw h.verdict (then_rows Form other (EntriesTooMany On starts ends) (short_pair_rows many starts ends) finds (λ a. tells_rows (ap is_refusal a)));
          kept = kept_so_here;
          read = λ a.
              let e = passes a in
              record {
                froms = starts_on many text;
                tos = ends_on many text;
                on = on (all_accept checks e).0;
                counted = h.detours ∙ rw e (sym (length_each (λ i. first_in detour_key (line_after i text)) many));
                left = h.froms ∙ rw e;
                right = h.tos ∙ rw e;
              };
        }

-- A plan sheet: it says how many entries it has.
plan_other : (plan : List ℕ) (k : Refusal) (p : ℕ) → PlanFormApplies plan k p → number_of k ≡ 8 → ⊥
plan_other plan k p (PlanFormApplies.too_long h) e = omega arith
plan_other plan k p (PlanFormApplies.bad_line h) e = omega arith

plan_once : (plan froms tos : List ℕ) → OnPlanSheet plan froms tos → (length froms ≡ detours_told plan) × (length tos ≡ detours_told plan)
unfolding detours_told has
plan_once plan froms tos o =
    let c = o.count in
    let flat : has line_feed c.value ≡ false = ap (has line_feed) c.kind ∙ decimal_without line_feed (length froms) refl in
    let told : detours_told plan ≡ length froms = ap value_of (value_read detours_key refl plan 5 (λ value. value ≡ decimal (length froms)) c flat ∙ c.kind) ∙ decimal_value (length froms) in
    (sym told, sym (told ∙ o.entries.even))

pub plan_reader_tells : PlanReaderTells
unfolding plan_froms plan_tos
plan_reader_tells plan starts ends r starts' ends' h =
    reader_answers (PlanFormApplies plan) (plan_other plan) (OnPlanSheet plan) (plan_form plan) (detours_told plan) (detour_text plan) starts ends
    (plan_form_by_the_table plan) (plan_holds_its_lines plan) (λ e. plan_once plan) r starts' ends' h

-- Lines of entries alone: of two counts of them neither is the smaller.
list_other : (list : List ℕ) (k : Refusal) (p : ℕ) → ListFormApplies list k p → number_of k ≡ 8 → ⊥
list_other list k p (ListFormApplies.too_long h) e = omega arith
list_other list k p (ListFormApplies.plan_line q h) e = omega arith
list_other list k p (ListFormApplies.detour_line q h) e = omega arith

no_fewer : (list froms tos froms' tos' : List ℕ) → OnBareList list froms tos → OnBareList list froms' tos' → length froms' ≤ length froms
no_fewer list froms tos froms' tos' o o' =
    let here : 0 + length froms ≡ length froms = omega arith in
    by_cases (dec_lt (length froms) (length froms')) (λ l. absurd (nothing_stands (ap (λ k. after_lines k list) here ∙ o.end) (o'.entries.entry (length froms) l))) (λ n. omega arith)

module _ (list : List ℕ) (passes : refuses (list_form list) ≡ false) where
  on_list : OnList list (list_froms list) (list_tos list)
  on_list =
      let both = list_holds_its_lines list passes in
      ⊎_elim
      (λ (t : is_plan list ≡ true). inl (is_plan_lem list t, both.0 (is_plan_lem list t)))
      (λ (f : is_plan list ≡ false). let n : IsPlanSheet list → ⊥ = λ p. true≢false (sym (plan_is list p) ∙ f) in inr (n, both.1 n))
      (true_or_false (is_plan list))

  list_once_here : (froms tos : List ℕ) → OnList list froms tos → (length froms ≡ list_detours list) × (length tos ≡ list_detours list)
  unfolding list_detours list_froms list_text
  list_once_here froms tos (inl (p, o)) = rw (plan_is list p) (plan_once list froms tos o)
  list_once_here froms tos (inr (n, o)) =
      let own = (list_holds_its_lines list passes).1 n in
      let a = no_fewer list froms tos (list_froms list) (list_tos list) o own in
      let b = no_fewer list (list_froms list) (list_tos list) froms tos own o in
      let c = length_each (λ i. first_in detour_key (line_after i (list_text list))) (list_detours list) in
      (omega (arith, a, b, c), omega (arith, a, b, c, o.entries.even))

pub list_reader_tells : ListReaderTells
unfolding list_froms list_tos
list_reader_tells list starts ends r starts' ends' h =
    reader_answers (ListFormApplies list) (list_other list) (OnList list) (list_form list) (list_detours list) (list_text list) starts ends
    (list_form_by_the_table list) (on_list list) (list_once_here list) r starts' ends' h

-- A loose sheet.
come_once : {Good : ℕ → Type 0} {from m n : ℕ} → Come Good from m → Come Good from n → m ≡ n
come_once {m = m} {n} a b =
    by_cases (dec_lt m n) (λ l. absurd (a.no_more (b.each m l))) (λ p. by_cases (dec_lt n m) (λ l. absurd (b.no_more (a.each n l))) (λ q. omega arith))

none_there : (text : List ℕ) → is_empty text ≡ true → text ≡ []
none_there [] e = refl
none_there (b ∷ text) e = absurd (true≢false (sym e))

module _ (sheet wanted counts : List ℕ) where
  abbrev F : ℕ
  F = loose_files sheet

  abbrev W : ℕ
  W = loose_wants sheet

  abbrev looseChecks : List Verdict
  looseChecks = loose_verdict sheet ∷ refuse_if (short_pair_rows W wanted counts) ShortRow ∷ []

  no_bad_here : refuses (loose_verdict sheet) ≡ false → first_bad_loose sheet ≡ 0
  unfolding loose_verdict
  no_bad_here e = accepts_at (first_bad_loose sheet) BadLine refl (all_accept (refuse_if (ltb longest_sheet (length sheet)) LongSheet ∷ refuse_at (first_bad_loose sheet) BadLine ∷ []) e).1.0

  tells_wants : first_bad_loose sheet ≡ 0 → Tells (short_pair_rows W wanted counts) (WantsTooMany sheet wanted counts)
  tells_wants good =
      let p = parts_are_read sheet good in
      tells_reworded
      (λ s. record { files = F; wants = W; table = p.table; come = p.wants; short = s })
      (λ t.
      let same = come_once t.table.0 p.table.0 in
      let all : t.wants ≡ W = come_once (subst (λ n. Come (WantLine sheet) (6 + n) t.wants) same t.come) p.wants in
      rw all at t.short)
      (tells_either _ _ (tells_below (length wanted) W) (tells_below (length counts) W))

  loose_finds : Finds (ReaderApplies (SheetApplies sheet) (WantsTooMany sheet wanted counts)) rows_read_order (first_of looseChecks)
  loose_finds = then_rows (SheetApplies sheet) (not_eight sheet) (WantsTooMany sheet wanted counts) (short_pair_rows W wanted counts) (form_finds sheet) (λ a. tells_wants (no_bad_here (ap is_refusal a)))

  starts_behind : (n : ℕ) (text : List ℕ) → text ≡ after_lines n sheet → StartsBehind sheet n (length sheet - length text)
  starts_behind n text is = let e = after_ends n sheet in record { within = omega (arith, e.short); rest = rw is e.rest }

  module _ (good : first_bad_loose sheet ≡ 0) where
    turn_line_here : Stands turn_key NumberOrNothing sheet 2
    turn_line_here = (tells_turn sheet 2).when_true (described sheet good).turn

    turn_read : value_text turn_key (line_after 2 sheet) ≡ turn_line_here.value
    unfolding has
    turn_read = value_read turn_key refl sheet 2 NumberOrNothing turn_line_here (nothing_flat turn_line_here.value turn_line_here.kind)

    price_stands : Stands turn_key (PriceText (sheet_turn_with 12000 sheet)) sheet 2
    unfolding sheet_turn_with turn_with
    price_stands =
        let s = turn_line_here in
        record {
          value = s.value;
          rest = s.rest;
          is = s.is;
          kind = ⊎_elim
              (λ (e : s.value ≡ []). inl (e, rw (turn_read, e)))
              (λ (n : Number s.value). inr (rw (turn_read, number_some s.value n) (sym (number_text s.value n))))
              s.kind;
        }

    price_empty_here : (price_left_out sheet ≡ true) ↔ Stands turn_key (λ value. value ≡ []) sheet 2
    unfolding price_left_out has
    price_empty_here = (
      λ e. let s = turn_line_here in record { value = s.value; rest = s.rest; is = s.is; kind = sym turn_read ∙ none_there _ e },
      λ s. ap is_empty (value_read turn_key refl sheet 2 (λ value. value ≡ []) s (ap (has line_feed) s.kind) ∙ s.kind),
    )

    parts_told : (p : Parts) → p ≡ sheet_parts sheet → PartsTold sheet p
    unfolding says_sweep file_text
    parts_told p is =
        let r = parts_are_read sheet good in
        rw is
        (record {
          files = r.table;
          wants = r.wants;
          listed = r.files_said;
          asked = r.wants_said;
          turn = price_stands;
          empty = price_empty_here;
          sweep = ((tells_sweep sheet).when_true, tells_holds _ (tells_sweep sheet));
          third = starts_behind 2 (after_lines 2 sheet) refl;
          table = starts_behind 5 (file_text sheet) refl;
          tail = starts_behind (5 + F) (loose_wants_text sheet) (tail_behind sheet);
          body = starts_behind (6 + F) (loose_want_text sheet) (body_behind sheet);
        })

  module _ (p : Parts) (wanted' counts' : List ℕ) (h : LooseRead sheet wanted counts p wanted' counts') where
    no_parts_here : refuses (first_of looseChecks) ≡ true → p ≡ refused_parts (first_of looseChecks)
    unfolding want_rows_verdict loose_parts
    no_parts_here e = h.answer ∙ rw e

    parts_are : refuses (first_of looseChecks) ≡ false → p ≡ sheet_parts sheet
    unfolding want_rows_verdict loose_parts
    parts_are e = h.answer ∙ rw e

    says : p.verdict ≡ first_of looseChecks
    says =
        ⊎_elim
        (λ (e : refuses (first_of looseChecks) ≡ true). ap (λ x. x.verdict) (no_parts_here e))
        (λ (e : refuses (first_of looseChecks) ≡ false). ap (λ x. x.verdict) (parts_are e) ∙ sym (none_refuses looseChecks e))
        (true_or_false (refuses (first_of looseChecks)))

    loose_passes : p.verdict.refusal ≡ Accepted → refuses (first_of looseChecks) ≡ false
    loose_passes a = ap is_refusal (sym (ap (λ x. x.refusal) says) ∙ a)

    loose_kept : (p.verdict.refusal ≡ Accepted → ⊥) → NoParts p × (wanted' ≡ wanted) × (counts' ≡ counts)
    unfolding want_rows_verdict read_row
    loose_kept n =
        ⊎_elim
        (λ (e : refuses (first_of looseChecks) ≡ true). (rw (no_parts_here e), h.files ∙ rw e, h.reads ∙ rw e))
        (λ (e : refuses (first_of looseChecks) ≡ false). absurd (n (ap (λ x. x.refusal) (says ∙ none_refuses looseChecks e))))
        (true_or_false (refuses (first_of looseChecks)))

    wants_told : refuses (first_of looseChecks) ≡ false → WantsTold sheet wanted counts p wanted' counts'
    unfolding want_rows_verdict read_row
    wants_told e =
        let r = parts_are_read sheet (no_bad_here (all_accept looseChecks e).0) in
        rw (parts_are e) (record { files = wanted_files sheet; reads = wanted_counts sheet; even = r.even; each = r.each; named = h.files ∙ rw e; counted = h.reads ∙ rw e })

    loose_answers : LooseReaderAnswers sheet wanted counts p wanted' counts'
    loose_answers =
        record {
          first = rw says loose_finds;
          kept = loose_kept;
          parts = λ a. parts_told (no_bad_here (all_accept looseChecks (loose_passes a)).0) p (parts_are (loose_passes a));
          rows = λ a. wants_told (loose_passes a);
        }

pub loose_reader_tells : LooseReaderTells
loose_reader_tells sheet wanted counts p wanted' counts' h = loose_answers sheet wanted counts p wanted' counts' h
