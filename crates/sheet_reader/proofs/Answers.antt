-- What the reader answers and leaves in the rows: the lines of an accepted sheet are filled, and none on a refusal.
use Prim.Native.Nat.{ℕ, ◌-◌, ◌≤◌}
use mathlib.Core.Path.{◌≡◌, refl, ap, sym, ◌∙◌}
use mathlib.Core.Bool.{Bool, true, false, cond, ◌||◌}
use mathlib.Core.List.{List, [], ◌∷◌, ◌++◌}
use native.Mathlib.Nat.{zero-add}
use lib.ListN.{length, take, drop}
use lib.Dec.{ltb}
use borrow.Author.Tests.{ltb-false}
use Rattle.std.specs.Prelude.{Result, Ok, Err}
use Rattle.refusals.specs.declared.Refusal.TheVariants.{Accepted, ShortRow, RetiredRule}
use Rattle.refusals.specs.declared.Verdict.{Verdict}
use Rattle.refusals.specs.Refusals.{is_refusal, checked, refuse_if, refuse_at, first_of}
use Rattle.refusals.proofs.Verdicts.{refuses, all_accept, accepts_if}
use Rattle.refusals.proofs.Checked.{passed, stopped, first_stops, first_passes_on, last_decides}
use Rattle.runs.proofs.Search.{or_false_both}
use Rattle.sheet_reader.specs.declared.Reading.{Reading}
use Rattle.sheet_reader.specs.declared.reader.Top.{Top}
use Rattle.sheet_reader.specs.declared.reader.Below.{Below}
use Rattle.sheet_reader.specs.declared.reader.Parts.{Parts}
use Rattle.text_lines.specs.Lines.{after_lines, first_in, middle_in, third_in, each_of, filled_row}
use Rattle.sheet_reader.specs.Lines.{file_key, want_key}
use Rattle.sheet_reader.specs.Sheet.{sheet_files, sheet_wants, sheet_name}
use Rattle.sheet_reader.specs.Reading.{sheet_verdict, rule_verdict, read_verdict, refused_reading, read_row, RunRows, run_rows, SheetRead, read_name, read_from, place_on, short_pair_rows, short_triple_rows}
use Rattle.sheet_reader.specs.Private.{SheetGood, run_verdict, RunGood, TriplesReady}
use Rattle.text_lines.specs.Found.{PairsRead}
use Rattle.text_lines.proofs.Filling.{length_each, PairsReady, pairs_read}

-- Two checks, then the others, are all of them in turn.
pub in_turn : (w x : Verdict) (others : List Verdict) → first_of (first_of (w ∷ x ∷ []) ∷ others) ≡ first_of (w ∷ x ∷ others)
in_turn w x others = go (is_refusal w.refusal) refl (is_refusal x.refusal) refl
  where
    go : (f : Bool) → is_refusal w.refusal ≡ f → (g : Bool) → is_refusal x.refusal ≡ g → first_of (first_of (w ∷ x ∷ []) ∷ others) ≡ first_of (w ∷ x ∷ others)
    go true e g h = rw (e, e)
    go false e true h = rw (e, h, h)
    go false e false h = rw (e, h)

-- 19 and 8, said of the parts, are said of the sheet.
module _ (sheet : List ℕ) (parts : Parts) (good : SheetGood sheet parts) (starts lengths aggregates numbers counts : ℕ) where
  abbrev retired : Verdict
  retired = refuse_at (cond parts.top.sweep 4 0) RetiredRule

  abbrev short : Verdict
  short =
      refuse_if (((ltb starts parts.top.files || ltb lengths parts.top.files) || ltb aggregates parts.top.files) || (ltb numbers parts.below.wants || ltb counts parts.below.wants)) ShortRow

  retired_is : retired ≡ rule_verdict sheet
  unfolding rule_verdict
  retired_is = rw (← good.are.upper.sweep)

  abbrev rows_judged : Verdict
  rows_judged =
      refuse_if (((ltb starts (sheet_files sheet) || ltb lengths (sheet_files sheet)) || ltb aggregates (sheet_files sheet)) || (ltb numbers (sheet_wants sheet) || ltb counts (sheet_wants sheet))) ShortRow

  pub sheet_retired : (v : Verdict) → Err v ≡ checked retired → Err v ≡ checked (run_verdict sheet starts lengths aggregates numbers counts)
  sheet_retired v said =
      first_passes_on (sheet_verdict sheet) (rule_verdict sheet ∷ rows_judged ∷ []) tt (Err v) good.accepted
      (first_stops (rule_verdict sheet) (rows_judged ∷ []) v (said ∙ ap checked retired_is))

  short_is : short ≡ rows_judged
  short_is = rw (good.are.upper.files, good.are.below.count)

  module _ (least : Ok tt ≡ checked retired) where
    rows_decide : (r : Result Unit Verdict) → r ≡ checked short → r ≡ checked (run_verdict sheet starts lengths aggregates numbers counts)
    rows_decide r said =
        first_passes_on (sheet_verdict sheet) (rule_verdict sheet ∷ rows_judged ∷ []) tt r good.accepted
        (first_passes_on (rule_verdict sheet) (rows_judged ∷ []) tt r (least ∙ ap checked retired_is) (last_decides rows_judged r (said ∙ ap checked short_is)))

    pub rows_short : (v : Verdict) → Err v ≡ checked short → Err v ≡ checked (run_verdict sheet starts lengths aggregates numbers counts)
    rows_short v said = rows_decide (Err v) said

    pub run_good : Ok tt ≡ checked short → RunGood sheet starts lengths aggregates numbers counts parts
    run_good said = record { accepted = rows_decide (Ok tt) said; are = good.are }

-- On a refusal the rows stay.
module _ (sheet starts lengths aggregates numbers counts : List ℕ) where
  abbrev said_of : Verdict
  said_of = read_verdict sheet starts lengths aggregates numbers counts

  abbrev run_of : Verdict
  run_of = run_verdict sheet (length starts) (length lengths) (length aggregates) (length numbers) (length counts)

  run_is : run_of ≡ said_of
  unfolding read_verdict
  run_is = refl

  row_stays : (values row : List ℕ) → refuses said_of ≡ true → row ≡ read_row said_of values row
  unfolding read_row
  row_stays values row e = rw e

  pub refused_read : (v : Verdict) → Err v ≡ checked run_of → (r : Reading) → r ≡ refused_reading v
      → SheetRead sheet (run_rows starts lengths aggregates numbers counts) r (run_rows starts lengths aggregates numbers counts)
  refused_read v said r r-is =
      let s = stopped said_of v (said ∙ ap checked run_is) in
      let e = s.so in
      record {
        answer = rw e (r-is ∙ ap refused_reading (sym s.is));
        starts = row_stays _ starts e;
        lengths = row_stays _ lengths e;
        aggregates = row_stays _ aggregates e;
        numbers = row_stays _ numbers e;
        counts = row_stays _ counts e;
      }

  -- Accepted, each row has room for its lines, and is filled with them.
  module _ (parts : Parts) (good : RunGood sheet (length starts) (length lengths) (length aggregates) (length numbers) (length counts) parts) where
    abbrev top : Top
    top = parts.top

    abbrev below : Below
    below = parts.below

    passes_here : refuses said_of ≡ false
    passes_here = passed said_of tt (good.accepted ∙ ap checked run_is)

    abbrev short-files : Bool
    short-files = short_triple_rows top.files starts lengths aggregates

    abbrev short-wants : Bool
    short-wants = short_pair_rows below.wants numbers counts

    none_short : (short-files ≡ false) × (short-wants ≡ false)
    unfolding read_verdict
    none_short =
        let all = all_accept (sheet_verdict sheet ∷ rule_verdict sheet ∷ refuse_if (short_triple_rows (sheet_files sheet) starts lengths aggregates || short_pair_rows (sheet_wants sheet) numbers counts) ShortRow ∷ []) passes_here in
        or_false_both short-files short-wants (rw (good.are.upper.files, good.are.below.count) (accepts_if _ ShortRow refl all.1.1.0))

    room : (row : List ℕ) (count : ℕ) → ltb (length row) count ≡ false → count ≤ length row
    room row count e = ltb-false (length row) count e

    pub files_ready : TriplesReady file_key sheet top.next top.files starts lengths aggregates
    files_ready =
        let three = or_false_both (short_pair_rows top.files starts lengths) (ltb (length aggregates) top.files) none_short.0 in
        let two = or_false_both (ltb (length starts) top.files) (ltb (length lengths) top.files) three.0 in
        record {
          within = good.are.upper.within;
          none = rw (good.are.upper.files, good.are.upper.rest) good.are.below.filed;
          room = room starts top.files two.0;
          space = room lengths top.files two.1;
          more = room aggregates top.files three.1;
        }

    wants_ready : PairsReady want_key sheet below.at below.wants numbers counts
    wants_ready =
        let two = or_false_both (ltb (length numbers) below.wants) (ltb (length counts) below.wants) none_short.1 in
        record {
          none = rw (good.are.below.count, good.are.below.rest) good.are.below.wanted;
          room = room numbers below.wants two.0;
          space = room counts below.wants two.1;
        }

    row_read : (value : ℕ → ℕ) (count n : ℕ) → n ≡ count → (row : List ℕ) → each_of value n ++ drop n row ≡ read_row said_of (each_of value count) row
    unfolding read_row each_of
    row_read value count n same row = rw (passes_here, same, length_each value count)

    abbrev file_lines_lem : List ℕ
    file_lines_lem = drop top.next sheet

    pub sheet_read : (starts' lengths' aggregates' numbers' counts' : List ℕ)
        → (starts' ≡ filled_row (first_in file_key) file_lines_lem top.files starts) → (lengths' ≡ filled_row (middle_in file_key) file_lines_lem top.files lengths)
        → (aggregates' ≡ filled_row (third_in file_key) file_lines_lem top.files aggregates)
        → PairsRead want_key sheet below.at below.wants numbers counts numbers' counts'
        → SheetRead sheet (run_rows starts lengths aggregates numbers counts)
        (record { refusal = Accepted; place = 0; head = top.head; turn = top.turn; files = top.files; wants = below.wants }) (run_rows starts' lengths' aggregates' numbers' counts')
    sheet_read starts' lengths' aggregates' numbers' counts' s-is l-is a-is filled =
        let wants = pairs_read want_key sheet below.at below.wants numbers counts wants_ready numbers' counts' filled in
        let up = good.are.upper in
        let down = good.are.below in
        record {
          answer = rw (passes_here, ← up.head, ← up.turn, ← up.files, ← down.count);
          starts = s-is ∙ rw up.rest (row_read _ _ _ up.files starts);
          lengths = l-is ∙ rw up.rest (row_read _ _ _ up.files lengths);
          aggregates = a-is ∙ rw up.rest (row_read _ _ _ up.files aggregates);
          numbers = wants.0 ∙ rw down.rest (row_read _ _ _ down.count numbers);
          counts = wants.1 ∙ rw down.rest (row_read _ _ _ down.count counts);
        }

-- The name's part, and where it starts.
module _ (sheet : List ℕ) where
  module _ (parts : Parts) (good : SheetGood sheet parts) where
    pub name_read : take (parts.top.end - 5) (drop 5 sheet) ≡ read_name sheet
    unfolding read_name sheet_name after_lines
    name_read = rw (passed _ _ good.accepted) good.are.upper.name.name

    pub name_from : (place : ℕ × ℕ) → place_on 5 place ≡ place_on (read_from sheet) place
    unfolding read_from
    name_from place = rw (passed _ _ good.accepted)

  module _ (v : Verdict) (said : Err v ≡ checked (sheet_verdict sheet)) where
    pub no_name : [] ≡ read_name sheet
    unfolding read_name
    no_name = rw (stopped _ _ said).so

    pub no_name_from : (place : ℕ × ℕ) → place ≡ place_on (read_from sheet) place
    unfolding read_from
    no_name_from place = rw ((stopped _ _ said).so, zero-add)

-- The contract determines the answer and every row.
pub read_determined : (sheet : List ℕ) (rows : RunRows) (r s : Reading) (rows' rows'' : RunRows) → SheetRead sheet rows r rows' → SheetRead sheet rows s rows'' → (r ≡ s) × (rows' ≡ rows'')
read_determined sheet rows r s rows' rows'' p q =
    (p.answer ∙ sym q.answer, same (p.starts ∙ sym q.starts) (p.lengths ∙ sym q.lengths) (p.aggregates ∙ sym q.aggregates) (p.numbers ∙ sym q.numbers) (p.counts ∙ sym q.counts))
  where
    same : {a a' b b' c c' d d' x x' : List ℕ} → a ≡ a' → b ≡ b' → c ≡ c' → d ≡ d' → x ≡ x' → run_rows a b c d x ≡ run_rows a' b' c' d' x'
    same e f g h i = rw (e, f, g, h, i)
