-- The sheets' share of demand 1: the reader's and the writers' verdicts are the first of the table that applies, and a refusal changes nothing.
use Prim.Native.Nat.{ℕ, ◌≤◌, ◌<◌}
use mathlib.Core.Path.{◌≡◌, refl, sym, ap, ap₂, ◌∙◌}
use mathlib.Core.Bool.{Bool, true, false, cond, not, ◌||◌}
use mathlib.Core.Logic.{◌⊎◌, inl, inr, ⊎_elim}
use mathlib.Core.List.{List, [], ◌∷◌}
use native.Mathlib.Omega.{arith}
use lib.ListN.{length}
use lib.Dec.{ltb}
use Rattle.refusals.specs.declared.Refusal.{Refusal}
use Rattle.refusals.specs.declared.Refusal.TheVariants.{Accepted, BadEntry, BadName, BadLine, LongSheet, ShortRow, RetiredRule}
use Rattle.refusals.specs.declared.Verdict.{Verdict}
use Rattle.refusals.specs.Refusals.{number_of, is_refusal, accepted, refuse_if, refuse_at, first_of}
use Rattle.runs.specs.Run.{Run, stops_of}
use Rattle.runs.specs.Judging.{judge_of}
use Rattle.runs.specs.Lists.{list_verdict}
use Rattle.refusals.proofs.Verdicts.{none_refuses, refuses, all_accept, accepts_at}
use Rattle.runs.proofs.Judged.{accepted_run}
use Rattle.text_bytes.specs.Text.{is_name}
use Rattle.sheet_reader.specs.Lines.{sweep_text, least_text}
use Rattle.sheet_reader.specs.Sheet.{longest_sheet, most_sheet_files, says_sweep, first_bad_line, sheet_files, sheet_wants}
use Rattle.sheet_reader.specs.Reading.{sheet_verdict, rule_verdict, short_pair_rows, short_triple_rows, read_verdict, refused_reading, read_answer, read_row, RunRows, run_rows, rows_verdict, SheetRead}
use Rattle.sheet_reader.specs.declared.Reading.{Reading}
use Rattle.sheet_reader.proofs.Good.{good_lines}
use Rattle.sheet_writer.specs.declared.Written.{Written}
use Rattle.sheet_writer.specs.Writing.{refused_writing, sheet_text, row_verdict, write_verdict, written_answer, written_row, Handed}
use Rattle.sheet_writer.specs.PlanSheet.{plan_text, plan_sheet_verdict}
use Rattle.demands.specs.RefusalTable.{FirstBad, RunApplies, ListIsBad}
use Rattle.demands.specs.Lines.{LineIsBad, lines_due, Ruled}
use Rattle.demands.specs.Sheets.{read_order, ReadApplies, ReadAnswers, OneRule, write_order, list_sheet_order, WriteApplies, ListSheetApplies, WriteAnswers, Demand1Read, Demand1Write, Demand1PlanSheet}
use Rattle.demands.proofs.Tests.{tells_false, Tells, tells_below, tells_either}
use Rattle.demands.proofs.Checks.{decides_if, decides_there, decides_reworded, Finds, finds_none, finds_first, first_of_joined}
use Rattle.demands.proofs.Lines.{tells_sweep, names_least}
use Rattle.demands.proofs.FirstLine.{decides_line}
use Rattle.demands.proofs.Judged.{run_finds, run_small}
use Rattle.demands.proofs.Listed.{decides_list}

-- Rows with the same entries.
pub same_rows : (a b : RunRows) → a.starts ≡ b.starts → a.lengths ≡ b.lengths → a.aggregates ≡ b.aggregates → a.numbers ≡ b.numbers → a.counts ≡ b.counts → a ≡ b
same_rows a b s l g n c =
    ap₂ (λ x y. run_rows x y a.aggregates a.numbers a.counts) s l
    ∙ ap₂ (λ x y. run_rows b.starts b.lengths x y a.counts) g n
    ∙ ap (λ x. run_rows b.starts b.lengths b.aggregates b.numbers x) c

-- The reader.
module _ (sheet : List ℕ) (rows : RunRows) where
  abbrev Applies : Refusal → ℕ → Type 0
  Applies = ReadApplies sheet rows

  too_long : (p : ℕ) → Applies LongSheet p → (p ≡ 0) × (longest_sheet < length sheet)
  too_long p (ReadApplies.too_long h) = (refl, h)

  bad_line : (p : ℕ) → Applies BadLine p → FirstBad (LineIsBad sheet) (lines_due sheet) p
  bad_line p (ReadApplies.bad_line h) = h

  retired_rule : (p : ℕ) → Applies RetiredRule p → (p ≡ 4) × Ruled sweep_text sheet
  retired_rule p (ReadApplies.retired_rule h) = (refl, h)

  abbrev IsShort : Type 0
  IsShort =
      (((length rows.starts < sheet_files sheet) ⊎ (length rows.lengths < sheet_files sheet)) ⊎ (length rows.aggregates < sheet_files sheet))
      ⊎ ((length rows.numbers < sheet_wants sheet) ⊎ (length rows.counts < sheet_wants sheet))

  short_row : (p : ℕ) → (p ≡ 0) × IsShort → Applies ShortRow p
  short_row p h = rw h.0 (⊎_elim (⊎_elim (⊎_elim ReadApplies.short_starts ReadApplies.short_lengths) ReadApplies.short_aggregates) (⊎_elim ReadApplies.short_numbers ReadApplies.short_counts) h.1)

  row_short_here : (p : ℕ) → Applies ShortRow p → (p ≡ 0) × IsShort
  row_short_here p (ReadApplies.short_starts h) = (refl, inl (inl (inl h)))
  row_short_here p (ReadApplies.short_lengths h) = (refl, inl (inl (inr h)))
  row_short_here p (ReadApplies.short_aggregates h) = (refl, inl (inr h))
  row_short_here p (ReadApplies.short_numbers h) = (refl, inr (inl h))
  row_short_here p (ReadApplies.short_counts h) = (refl, inr (inr h))

  tells_short_here : (n : ℕ) (firsts seconds : List ℕ) → Tells (short_pair_rows n firsts seconds) ((length firsts < n) ⊎ (length seconds < n))
  tells_short_here n firsts seconds =
      tells_either (ltb (length firsts) n) (ltb (length seconds) n) (tells_below (length firsts) n) (tells_below (length seconds) n)

  short : Bool
  short = short_triple_rows (sheet_files sheet) rows.starts rows.lengths rows.aggregates || short_pair_rows (sheet_wants sheet) rows.numbers rows.counts

  read_finds : Finds Applies read_order (rows_verdict sheet rows)
  unfolding read_verdict sheet_verdict rule_verdict says_sweep short
  read_finds =
      let long = refuse_if (ltb longest_sheet (length sheet)) LongSheet in
      let line = refuse_at (first_bad_line sheet) BadLine in
      let rule = refuse_at (cond (says_sweep sheet) 4 0) RetiredRule in
      let row = refuse_if short ShortRow in
      rw
      (first_of_joined (long ∷ line ∷ []) (rule ∷ row ∷ []))
      (finds_first Applies (line ∷ rule ∷ row ∷ []) refl
      (decides_reworded (λ p h. rw h.0 (ReadApplies.too_long h.1)) too_long (decides_if _ LongSheet (tells_below longest_sheet (length sheet))))
      (λ a. finds_first Applies (rule ∷ row ∷ []) refl (decides_reworded (λ p. ReadApplies.bad_line) bad_line (decides_line sheet))
      (λ b. finds_first Applies (row ∷ []) refl
      (decides_reworded (λ p h. rw h.0 (ReadApplies.retired_rule h.1)) retired_rule (decides_there _ 3 RetiredRule (tells_sweep sheet)))
      (λ c. finds_first Applies [] refl
      (decides_reworded short_row row_short_here
      (decides_if short ShortRow
      (tells_either (short_triple_rows (sheet_files sheet) rows.starts rows.lengths rows.aggregates) (short_pair_rows (sheet_wants sheet) rows.numbers rows.counts)
      (tells_either (short_pair_rows (sheet_files sheet) rows.starts rows.lengths) (ltb (length rows.aggregates) (sheet_files sheet))
      (tells_short_here (sheet_files sheet) rows.starts rows.lengths) (tells_below (length rows.aggregates) (sheet_files sheet)))
      (tells_short_here (sheet_wants sheet) rows.numbers rows.counts))))
      (λ d. finds_none Applies)))))

  read_accepted : refuses (rows_verdict sheet rows) ≡ false → rows_verdict sheet rows ≡ accepted
  unfolding read_verdict short
  read_accepted e = none_refuses (sheet_verdict sheet ∷ rule_verdict sheet ∷ refuse_if short ShortRow ∷ []) e

  -- A sheet that is accepted names the least rule.
  accepted_ruled : refuses (rows_verdict sheet rows) ≡ false → Ruled least_text sheet
  unfolding read_verdict rule_verdict says_sweep short
  accepted_ruled e =
      let all = all_accept (sheet_verdict sheet ∷ rule_verdict sheet ∷ refuse_if short ShortRow ∷ []) e in
      names_least sheet (good_lines sheet all.0).rule (not_there (says_sweep sheet) (accepts_at (cond (says_sweep sheet) 4 0) RetiredRule refl all.1.0))
    where
      not_there : (b : Bool) → ◌≡◌ {A = ℕ} (cond b 4 0) 0 → b ≡ false
      not_there true h = absurd (omega (arith, h))
      not_there false h = refl

  pub sheet_passes : refuses (rows_verdict sheet rows) ≡ false → refuses (sheet_verdict sheet) ≡ false
  unfolding read_verdict short
  sheet_passes e = (all_accept (sheet_verdict sheet ∷ rule_verdict sheet ∷ refuse_if short ShortRow ∷ []) e).0

  module _ (answer : Reading) (after : RunRows) (read : SheetRead sheet rows answer after) where
    pub read_passes : answer.refusal ≡ Accepted → refuses (rows_verdict sheet rows) ≡ false
    read_passes accepts = go (refuses (rows_verdict sheet rows)) refl
      where
        go : (b : Bool) → refuses (rows_verdict sheet rows) ≡ b → refuses (rows_verdict sheet rows) ≡ false
        go true e =
            let is : answer ≡ refused_reading (rows_verdict sheet rows) = read.answer ∙ rw e in
            ap is_refusal (sym (ap (λ (x : Reading). x.refusal) is) ∙ accepts)
        go false e = e

    read_kept : refuses (rows_verdict sheet rows) ≡ true → after ≡ rows
    unfolding read_row
    read_kept e = same_rows after rows (rw e at read.starts) (rw e at read.lengths) (rw e at read.aggregates) (rw e at read.numbers) (rw e at read.counts)

    read_says : (b : Bool) → refuses (rows_verdict sheet rows) ≡ b → ReadAnswers sheet rows answer after
    unfolding read_answer
    read_says true e =
        let is : answer ≡ refused_reading (rows_verdict sheet rows) = rw e at read.answer in
        record { first = rw is read_finds; kept = λ n. (rw is (record { head = refl; turn = refl; files = refl; wants = refl }), read_kept e) }
    read_says false e =
        let kind : answer.refusal ≡ Accepted = rw (read.answer, e) in
        let place : answer.place ≡ 0 = rw (read.answer, e) in
        record { first = rw (kind, place) (rw (read_accepted e) at read_finds); kept = λ n. absurd (n kind) }

pub demand1_read : Demand1Read
demand1_read sheet before answer after read = read_says sheet before answer after read (refuses (rows_verdict sheet before)) refl

pub one_rule : OneRule
one_rule sheet before answer after read accepts = accepted_ruled sheet before (read_passes sheet before answer after read accepts)

-- What a writer's answer has of its verdict: kind and place; and a refusal has no bytes and keeps the row.
module _ (vs : List Verdict) (text row : List ℕ) (answer : Written) (out : List ℕ) (says : Handed (first_of vs) text row answer out) where
  pub record Told : Type 0 where
    pub kind : answer.refusal ≡ (first_of vs).refusal
    pub place : answer.place ≡ (first_of vs).place
    pub kept : (answer.refusal ≡ Accepted → ⊥) → (answer.bytes ≡ 0) × (out ≡ row)

  told_so_here : (b : Bool) → refuses (first_of vs) ≡ b → Told
  unfolding written_answer written_row
  told_so_here true e =
      let is : answer ≡ refused_writing (first_of vs) = says.answer ∙ rw e in
      record { kind = ap (λ (x : Written). x.refusal) is; place = ap (λ (x : Written). x.place) is; kept = λ n. (ap (λ (x : Written). x.bytes) is, says.left ∙ rw e) }
  told_so_here false e =
      let is : answer ≡ record { refusal = Accepted; place = 0; bytes = length text } = says.answer ∙ rw e in
      let none = none_refuses vs e in
      record {
        kind = ap (λ (x : Written). x.refusal) is ∙ ap (λ (v : Verdict). v.refusal) (sym none);
        place = ap (λ (x : Written). x.place) is ∙ ap (λ (v : Verdict). v.place) (sym none);
        kept = λ n. absurd (n (ap (λ (x : Written). x.refusal) is));
      }

  pub told : Told
  told = told_so_here (refuses (first_of vs)) refl

module _ (applies : Refusal → ℕ → Type 0) (order : List Refusal) (vs : List Verdict) (text row : List ℕ) (finds : Finds applies order (first_of vs)) where
  pub writer_says : WriteAnswers applies order row (written_answer (first_of vs) text) (written_row (first_of vs) text row)
  writer_says =
      let tells = told vs text row (written_answer (first_of vs) text) (written_row (first_of vs) text row) (record { answer = refl; left = refl }) in
      record { first = rw (tells.kind, tells.place) finds; kept = tells.kept }

-- The run sheet writer.
module _ (name : List ℕ) (r : Run) (row : List ℕ) where
  write_of_run : (k : Refusal) (p : ℕ) → number_of k ≤ 7 → WriteApplies name r row k p → RunApplies r k p
  write_of_run k p l (WriteApplies.run h) = h
  write_of_run k p l (WriteApplies.many_files h) = absurd (omega arith)
  write_of_run k p l (WriteApplies.bad_name h) = absurd (omega arith)
  write_of_run k p l (WriteApplies.short_row h) = absurd (omega arith)

  bad_name : (p : ℕ) → WriteApplies name r row BadName p → (p ≡ 0) × ((most_sheet_files < length r.starts) ⊎ (is_name name ≡ false))
  bad_name p (WriteApplies.run h) = absurd (omega (arith, run_small r h))
  bad_name p (WriteApplies.many_files h) = (refl, inl h)
  bad_name p (WriteApplies.bad_name h) = (refl, inr h)

  write_row : (p : ℕ) → WriteApplies name r row ShortRow p → (p ≡ 0) × (length row < length (sheet_text name r))
  write_row p (WriteApplies.run h) = absurd (omega (arith, run_small r h))
  write_row p (WriteApplies.short_row h) = (refl, h)

  pub write_finds : Finds (WriteApplies name r row) write_order (write_verdict name r row)
  unfolding write_verdict row_verdict
  write_finds =
      let named = refuse_if (ltb most_sheet_files (length r.starts) || not (is_name name)) BadName in
      let short = refuse_if (ltb (length row) (length (sheet_text name r))) ShortRow in
      run_finds r (WriteApplies name r row) (λ k p. WriteApplies.run) write_of_run (BadName ∷ ShortRow ∷ []) (named ∷ short ∷ [])
      (λ a. finds_first (WriteApplies name r row) (short ∷ []) refl
      (decides_reworded (λ p h. rw h.0 (⊎_elim WriteApplies.many_files WriteApplies.bad_name h.1)) bad_name
      (decides_if _ BadName
      (tells_either (ltb most_sheet_files (length r.starts)) (not (is_name name)) (tells_below most_sheet_files (length r.starts)) (tells_false (is_name name)))))
      (λ b. finds_first (WriteApplies name r row) [] refl
      (decides_reworded (λ p h. rw h.0 (WriteApplies.short_row h.1)) write_row (decides_if _ ShortRow (tells_below (length row) (length (sheet_text name r)))))
      (λ c. finds_none (WriteApplies name r row))))

  pub write_says : WriteAnswers (WriteApplies name r row) write_order row
      (written_answer (write_verdict name r row) (sheet_text name r)) (written_row (write_verdict name r row) (sheet_text name r) row)
  unfolding write_verdict
  write_says =
      writer_says (WriteApplies name r row) write_order
      (judge_of r ∷ refuse_if (ltb most_sheet_files (length r.starts) || not (is_name name)) BadName ∷ row_verdict (sheet_text name r) row ∷ [])
      (sheet_text name r) row write_finds

pub demand1_write : Demand1Write
demand1_write name r row answer out says fills = rw (says, fills) (write_says name r row)

-- The writers of a list's sheets, of whatever text.
module _ (name : List ℕ) (r : Run) (froms tos text row : List ℕ) where
  abbrev ListSheet : Refusal → ℕ → Type 0
  ListSheet = ListSheetApplies name r froms tos text row

  sheet_of_run : (k : Refusal) (p : ℕ) → number_of k ≤ 7 → ListSheet k p → RunApplies r k p
  sheet_of_run k p l (ListSheetApplies.run h) = h
  sheet_of_run k p l (ListSheetApplies.bad_name h) = absurd (omega arith)
  sheet_of_run k p l (ListSheetApplies.bad_list h) = absurd (omega arith)
  sheet_of_run k p l (ListSheetApplies.short_row h) = absurd (omega arith)

  sheet_name_here : (p : ℕ) → ListSheet BadName p → (p ≡ 0) × (is_name name ≡ false)
  sheet_name_here p (ListSheetApplies.run h) = absurd (omega (arith, run_small r h))
  sheet_name_here p (ListSheetApplies.bad_name h) = (refl, h)

  sheet_list : (p : ℕ) → ListSheet BadEntry p → ListIsBad r froms tos p
  sheet_list p (ListSheetApplies.run h) = absurd (omega (arith, run_small r h))
  sheet_list p (ListSheetApplies.bad_list h) = h

  sheet_row_here : (p : ℕ) → ListSheet ShortRow p → (p ≡ 0) × (length row < length text)
  sheet_row_here p (ListSheetApplies.run h) = absurd (omega (arith, run_small r h))
  sheet_row_here p (ListSheetApplies.short_row h) = (refl, h)

  abbrev sheet-verdict : Verdict
  sheet-verdict = first_of (judge_of r ∷ refuse_if (not (is_name name)) BadName ∷ list_verdict (stops_of r) froms tos ∷ row_verdict text row ∷ [])

  pub sheet_finds : Finds ListSheet list_sheet_order sheet-verdict
  unfolding row_verdict
  sheet_finds =
      let named = refuse_if (not (is_name name)) BadName in
      let list = list_verdict (stops_of r) froms tos in
      let short = refuse_if (ltb (length row) (length text)) ShortRow in
      run_finds r ListSheet (λ k p. ListSheetApplies.run) sheet_of_run (BadName ∷ BadEntry ∷ ShortRow ∷ []) (named ∷ list ∷ short ∷ [])
      (λ a. finds_first ListSheet (list ∷ short ∷ []) refl
      (decides_reworded (λ p h. rw h.0 (ListSheetApplies.bad_name h.1)) sheet_name_here (decides_if _ BadName (tells_false (is_name name))))
      (λ b. finds_first ListSheet (short ∷ []) refl
      (decides_reworded (λ p. ListSheetApplies.bad_list) sheet_list (decides_list r (accepted_run r a) froms tos (sym (accepted_run r a).wants.equal)))
      (λ c. finds_first ListSheet [] refl
      (decides_reworded (λ p h. rw h.0 (ListSheetApplies.short_row h.1)) sheet_row_here (decides_if _ ShortRow (tells_below (length row) (length text))))
      (λ d. finds_none ListSheet))))

  pub sheet_says : WriteAnswers ListSheet list_sheet_order row (written_answer sheet-verdict text) (written_row sheet-verdict text row)
  sheet_says =
      writer_says ListSheet list_sheet_order
      (judge_of r ∷ refuse_if (not (is_name name)) BadName ∷ list_verdict (stops_of r) froms tos ∷ row_verdict text row ∷ []) text row sheet_finds

pub demand1_plan_sheet : Demand1PlanSheet
unfolding plan_sheet_verdict
demand1_plan_sheet name r froms tos row answer out says fills = rw (says, fills) (sheet_says name r froms tos (plan_text name r froms tos) row)
