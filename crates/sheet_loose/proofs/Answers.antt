-- What 12, 11 and 8 say of a loose sheet, its parts, and the rows that take its want lines.
use Prim.Native.Nat.{ℕ, zero, suc, ◌<◌}
use mathlib.Core.Path.{◌≡◌, refl, ap, sym, ◌∙◌}
use mathlib.Core.Bool.{Bool, true, false, ◌||◌}
use mathlib.Core.List.{List, [], ◌∷◌}
use native.Mathlib.Omega.{arith}
use lib.ListN.{length, length-drop}
use lib.Dec.{ltb}
use borrow.Author.Tests.{ltb-false}
use Rattle.refusals.specs.declared.Refusal.TheVariants.{LongSheet, BadLine, ShortRow}
use Rattle.refusals.specs.declared.Verdict.{Verdict}
use Rattle.refusals.specs.Refusals.{accepted, checked, refuse_if, refuse_at}
use Rattle.refusals.proofs.Verdicts.{refuses, refuse_at_lem, accepts_if}
use Rattle.refusals.proofs.Checked.{passed, stopped, first_stops, first_passes_on, last_decides}
use Rattle.std.specs.Prelude.{Ok, Err}
use Rattle.runs.proofs.Search.{or_false_both}
use Rattle.text_lines.specs.Lines.{after_lines}
use Rattle.text_lines.specs.Found.{PairsRead}
use Rattle.text_lines.proofs.Filling.{length_each, PairsReady, pairs_read}
use Rattle.sheet_reader.specs.Lines.{file_key, want_key}
use Rattle.text_lines.specs.Lines.{is_triple_line}
use Rattle.sheet_reader.specs.Sheet.{longest_sheet, most_sheet_files, file_text, first_some}
use Rattle.sheet_reader.specs.Reading.{short_pair_rows, read_row}
use Rattle.sheet_loose.specs.declared.Parts.{Parts}
use Rattle.sheet_loose.specs.declared.Block.{Block}
use Rattle.sheet_loose.specs.declared.Top.{Top}
use Rattle.sheet_loose.specs.Loose.{loose_wants_text, loose_want_text, loose_wants, first_bad_loose_below, first_bad_loose, wanted_files, wanted_counts}
use Rattle.sheet_loose.specs.Reading.{loose_verdict, want_rows_verdict, begins_at, refused_parts, loose_parts, LooseRead}
use Rattle.sheet_loose.specs.Private.{Stands, TopIs, TopBad, BlockFound, BelowIs, BelowBad, PartsAre, LineBad, PartsGood}
use Rattle.sheet_loose.proofs.Order.{wants_at_lem}

starts_at_lem : (sheet text : List ℕ) (at : ℕ) → Stands sheet text at → at ≡ begins_at sheet text
starts_at_lem sheet text at here = omega (arith, here.within, ap length here.rest, length-drop at sheet)

first_some_lem : (n : ℕ) (ns : List ℕ) → 0 < n → first_some (n ∷ ns) ≡ n
first_some_lem zero ns l = absurd (omega arith)
first_some_lem (suc n) ns l = refl

-- The lines.
module _ (sheet : List ℕ) where
  pub top_bad : (line : ℕ) → TopBad sheet line → LineBad sheet line
  unfolding first_bad_loose
  top_bad line b = record { first = rw b.first (first_some_lem line (first_bad_loose_below sheet ∷ []) b.some); some = b.some }

  module _ (top : Top) (t : TopIs sheet top) where
    pub below_bad : (line : ℕ) → BelowBad sheet line → LineBad sheet line
    unfolding first_bad_loose
    below_bad line b = record { first = rw (t.none, b.first) (first_some_lem line [] b.some); some = b.some }

    pub parts_are : (b : Block) → BlockFound (is_triple_line file_key) most_sheet_files sheet top.next b → (said at wants : ℕ) → BelowIs sheet said at wants → (v : Verdict) → v ≡ accepted
        → PartsAre sheet
        (record { verdict = v; third = top.third; turn = top.turn; empty = top.empty; sweep = top.sweep; listed = top.said; table = top.next; files = b.count; tail = b.next; asked = said; body = at; wants = wants })
    unfolding first_bad_loose
    parts_are b f said at wants w v verdict =
        let files = wants_at_lem sheet top.next b t.next f in
        let third = starts_at_lem sheet (after_lines 2 sheet) top.third t.start in
        let table = starts_at_lem sheet (file_text sheet) top.next t.next in
        let tail = starts_at_lem sheet (loose_wants_text sheet) b.next files.here in
        let body = starts_at_lem sheet (loose_want_text sheet) at w.here in
        record {
          none = rw (t.none, w.none);
          same = rw (← verdict, ← third, ← t.turn, ← t.empty, ← t.sweep, ← t.said, ← table, ← files.count, ← tail, ← w.says, ← body, ← w.many);
          good = w.good;
          rest = w.here.rest;
        }

  -- 12 refuses; or it does not, and the lines decide.
  abbrev long : Verdict
  long = refuse_if (ltb longest_sheet (length sheet)) LongSheet

  abbrev lines_judged : List Verdict
  lines_judged = refuse_at (first_bad_loose sheet) BadLine ∷ []

  pub sheet_long : (v : Verdict) → Err v ≡ checked long → Err v ≡ checked (loose_verdict sheet)
  unfolding loose_verdict
  sheet_long v said = first_stops long lines_judged v said

  module _ (fits : Ok tt ≡ checked long) where
    pub line_refuses : (line : ℕ) → LineBad sheet line → Err (record { refusal = BadLine; place = line }) ≡ checked (loose_verdict sheet)
    unfolding loose_verdict
    line_refuses line b =
        let some = b.some in
        first_passes_on long lines_judged tt _ fits (last_decides (refuse_at (first_bad_loose sheet) BadLine) _ (rw (b.first, refuse_at_lem line BadLine (λ z. omega arith))))

    pub parts_good : (parts : Parts) → PartsAre sheet parts → PartsGood sheet parts
    unfolding loose_verdict
    parts_good parts p = record { accepted = first_passes_on long lines_judged tt _ fits (rw p.none); are = p }

-- The rows.
module _ (sheet wanted counts : List ℕ) where
  abbrev lv : Verdict
  lv = loose_verdict sheet

  abbrev said_of : Verdict
  said_of = want_rows_verdict sheet wanted counts

  kept : (v : Verdict) → said_of ≡ v → refuses v ≡ true → (r : Parts) → r ≡ refused_parts v → LooseRead sheet wanted counts r wanted counts
  unfolding loose_parts read_row
  kept v is e r r-is = record { answer = rw (is, e, r-is); files = rw (is, e); reads = rw (is, e) }

  pub loose_refused : (v : Verdict) → Err v ≡ checked lv → (r : Parts) → r ≡ refused_parts v → LooseRead sheet wanted counts r wanted counts
  unfolding want_rows_verdict
  loose_refused v said = let s = stopped lv v said in kept v (rw s.so s.is) (sym (ap refuses s.is) ∙ s.so)

  module _ (parts : Parts) (good : PartsGood sheet parts) (b : Bool) (short : b ≡ (ltb (length wanted) parts.wants || ltb (length counts) parts.wants)) where
    wants_are : parts.wants ≡ loose_wants sheet
    wants_are = ap (λ p. p.wants) good.are.same

    rows_are : b ≡ short_pair_rows (loose_wants sheet) wanted counts
    rows_are = short ∙ rw wants_are

    passes_here : refuses lv ≡ false
    passes_here = passed lv tt good.accepted

    pub loose_short : (v : Verdict) → Err v ≡ checked (refuse_if b ShortRow) → (r : Parts) → r ≡ refused_parts v → LooseRead sheet wanted counts r wanted counts
    unfolding want_rows_verdict
    loose_short v said =
        let s = stopped (refuse_if (short_pair_rows (loose_wants sheet) wanted counts) ShortRow) v (said ∙ ap (λ x. checked (refuse_if x ShortRow)) rows_are) in
        kept v (rw (passes_here, s.so) s.is) (sym (ap refuses s.is) ∙ s.so)

    pub loose_read : Ok tt ≡ checked (refuse_if b ShortRow) → (wanted' counts' : List ℕ) → PairsRead want_key sheet parts.body parts.wants wanted counts wanted' counts'
        → LooseRead sheet wanted counts parts wanted' counts'
    unfolding loose_parts want_rows_verdict read_row wanted_files wanted_counts
    loose_read said wanted' counts' p =
        let none : b ≡ false = accepts_if b ShortRow refl (passed (refuse_if b ShortRow) tt said) in
        let both = or_false_both (ltb (length wanted) parts.wants) (ltb (length counts) parts.wants) (sym short ∙ none) in
        let ready : PairsReady want_key sheet parts.body parts.wants wanted counts = record { none = good.are.good; room = ltb-false (length wanted) parts.wants both.0; space = ltb-false (length counts) parts.wants both.1 } in
        let filled = pairs_read want_key sheet parts.body parts.wants wanted counts ready wanted' counts' p in
        let many : short_pair_rows (loose_wants sheet) wanted counts ≡ false = sym rows_are ∙ none in
        record {
          answer = good.are.same ∙ rw (passes_here, many);
          files = filled.0 ∙ rw (wants_are, good.are.rest, passes_here, many, length_each);
          reads = filled.1 ∙ rw (wants_are, good.are.rest, passes_here, many, length_each);
        }

-- The contract determines the answer and both rows.
pub loose_determined : (sheet wanted counts : List ℕ) (r s : Parts) (wanted' wanted'' counts' counts'' : List ℕ) → LooseRead sheet wanted counts r wanted' counts' → LooseRead sheet wanted counts s wanted'' counts''
    → (r ≡ s) × ((wanted' ≡ wanted'') × (counts' ≡ counts''))
loose_determined sheet wanted counts r s wanted' wanted'' counts' counts'' p q = (p.answer ∙ sym q.answer, (p.files ∙ sym q.files, p.reads ∙ sym q.reads))
