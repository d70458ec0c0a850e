-- Reading part by part gives the month of the whole input's division: a line of at most 21 bytes shows whether a byte count stands there, and the
-- first 16,385 bytes of a sheet show its outcome.
use Prim.Native.Nat.{ℕ, zero, suc, ◌+◌, ◌-◌, ◌*◌, ◌≤◌, ◌<◌, ◌^◌}
use mathlib.Core.Path.{◌≡◌, refl, sym, ap, ◌∙◌, subst}
use mathlib.Core.Bool.{Bool, true, false, cond, not, ◌&&◌, true≢false}
use mathlib.Core.Logic.{by_cases}
use mathlib.Core.List.{List, [], ◌∷◌, ◌++◌}
use native.Mathlib.Omega.{arith}
use native.Mathlib.Decide.{dec_le}
use native.Mathlib.Nat.{pow-suc, pow-le-pow_right, mul-le-mul_right}
use lib.ListN.{length, take, drop, length-append, length-take, length-drop}
use lib.Seq.{take_all, take-append-le, drop-append_seam, length-take-le, append_snoc}
use lib.Dec.{ltb, leb, eqb}
use borrow.Author.Tests.{lt-ltb, ltb-true, le-leb, lt-leb, leb-true, leb-false, eqb-false, not-true}
use Rattle.refusals.specs.declared.Refusal.TheVariants.{Accepted, BadSheetCount, LongSheet}
use Rattle.refusals.specs.declared.Verdict.{Verdict}
use Rattle.refusals.specs.Refusals.{number_of, is_refusal}
use Rattle.runs.proofs.Search.{or_false_both}
use Rattle.text_bytes.specs.Text.{line_feed, is_empty, has, before, behind, value_from, value_of, leading_zero, all_of, is_digit, is_number}
use Rattle.text_bytes.proofs.Bytes.{and_true_both}
use Rattle.text_bytes.proofs.Split.{has_here, before_here, behind_here, split_at, none_before}
use Rattle.sheet_reader.specs.Sheet.{sheet_run, sheet_name}
use Rattle.sheet_reader.specs.Reading.{sheet_verdict}
use Rattle.answer_plan.specs.Recall.{verdict_by, recall_verdict}
use Rattle.answer_outcome.specs.declared.Outcome.{Outcome}
use Rattle.answer_outcome.specs.Outcomes.{refused_outcome, OutcomeOf}
use Rattle.answer_month.specs.declared.Month.{Month}
use Rattle.std.specs.Prelude.{Option, Some, None, Result, Ok, Err}
use Rattle.answer_month.specs.declared.BadPart.{BadPart}
use Rattle.answer_month.specs.Month.{grown, empty_month, with_refused, with_totals, named_by, with_longest, added, added_all}
use Rattle.answer_month.specs.Parts.{is_count, count_of, part_of, SheetAdded, input_verdict}
use Rattle.promises.specs.Months.{Outcomes, is_whole, divided, line_held, rest_of, kept_of, ReadsOn, at_end, no_part, cut_short, one_more, MonthFigures, MonthOfInput, PartByPart}
use Rattle.promises.proofs.MonthTotals.{outcomes_small, grown_fits, month_counts}

-- A number below 2 to the 64 has at most twenty digits.
scaled : (n d x v : ℕ) → (n * 10 + d) * x ≤ v → n * (x * 10) ≤ v
scaled n d x v h = omega (arith, h)

value_least : (n : ℕ) (text : List ℕ) → n * 10 ^ length text ≤ value_from n text
unfolding value_from
value_least n [] = omega arith
value_least n (b ∷ text) =
    let rest = value_least (n * 10 + (b - 48)) text in
    rw (pow-suc 10 (length text)) (scaled n (b - 48) (10 ^ length text) (value_from (n * 10 + (b - 48)) text) rest)

digit_above : (b : ℕ) → (b ≡ 48 → ⊥) → (text : List ℕ) → all_of is_digit (b ∷ text) ≡ true → 48 < b
unfolding all_of
digit_above b n text e =
    let two = and_true_both (is_digit b) (all_of is_digit text) e in
    let low = leb-true 48 b (and_true_both (leb 48 b) (leb b 57) two.0).0 in
    omega (arith, low, n)

number_short : (text : List ℕ) → is_number text ≡ true → length text ≤ 20
unfolding is_number value_from
number_short [] e = omega arith
number_short (b ∷ []) e = omega arith
number_short (b ∷ (c ∷ text)) e =
    by_cases (dec_le (length (b ∷ (c ∷ text))) 20) (λ h. h)
    (λ h.
    let parts = and_true_both (not (eqb b 48) && all_of is_digit (b ∷ (c ∷ text))) (ltb (value_of (b ∷ (c ∷ text))) (2 ^ 64)) e in
    let first = and_true_both (not (eqb b 48)) (all_of is_digit (b ∷ (c ∷ text))) parts.0 in
    let small = ltb-true (value_of (b ∷ (c ∷ text))) (2 ^ 64) parts.1 in
    let digit : 48 < b = digit_above b (eqb-false b 48 (not-true (eqb b 48) first.0)) (c ∷ text) first.1 in
    let large = value_least (0 * 10 + (b - 48)) (c ∷ text) in
    let twenty : 10 ^ 20 ≤ 10 ^ length (c ∷ text) = pow-le-pow_right (omega arith) {i = 20} {j = length (c ∷ text)} (omega arith) in
    let one : 1 * 10 ^ length (c ∷ text) ≤ (0 * 10 + (b - 48)) * 10 ^ length (c ∷ text) = mul-le-mul_right (10 ^ length (c ∷ text)) (omega arith) in
    absurd (omega (arith, small, large, twenty, one)))

-- No LF in a front of a text that has none.
none_in_front : (c n : ℕ) (text : List ℕ) → has c text ≡ false → has c (take n text) ≡ false
unfolding has
none_in_front c zero text e = refl
none_in_front c (suc n) [] e = refl
none_in_front c (suc n) (b ∷ text) e = let both = or_false_both (eqb b c) (has c text) e in rw (both.0, none_in_front c n text both.1) refl

no_count : (line : List ℕ) → has line_feed line ≡ false → count_of line ≡ Err (record {})
unfolding count_of is_count
no_count line e = rw e refl

pub whole_count : (front : List ℕ) → has line_feed front ≡ false → count_of (front ++ (line_feed ∷ [])) ≡ cond (is_number front) (Ok (Some (value_of front))) (Err (record {}))
unfolding count_of is_count
whole_count front e = rw (has_here line_feed front [], behind_here line_feed front [] e, before_here line_feed front [] e) refl

-- What the line that is held shows: the same as the whole input.
pub record Shown (input : List ℕ) : Type 0 where
  pub line : count_of (line_held input) ≡ cond (has line_feed input && is_number (before line_feed input)) (Ok (Some (value_of (before line_feed input)))) (Err (record {}))
  pub rest : (has line_feed input && is_number (before line_feed input)) ≡ true → rest_of input ≡ behind line_feed input

module _ (input : List ℕ) where
  shown_none : has line_feed input ≡ false → Shown input
  shown_none e =
      record {
        line = rw (e, no_count (take 21 input) (none_in_front line_feed 21 input e)) refl;
        rest = λ q. absurd (true≢false (sym q ∙ rw e refl));
      }

  module _ (e : has line_feed input ≡ true) where
    front : List ℕ
    front = before line_feed input

    whole_line : length (before line_feed input) ≤ 20 → line_held input ≡ before line_feed input ++ (line_feed ∷ [])
    whole_line short = rw e (take_all 21 (before line_feed input ++ (line_feed ∷ [])) (omega (arith, length-append (before line_feed input) (line_feed ∷ []))))

    behind_line_here : length (before line_feed input) ≤ 20 → rest_of input ≡ behind line_feed input
    behind_line_here short =
        ap (λ l. drop (length l) input) (whole_line short)
        ∙ ap (drop (length (before line_feed input ++ (line_feed ∷ [])))) (split_at line_feed input e ∙ sym (append_snoc (before line_feed input) line_feed (behind line_feed input)))
        ∙ drop-append_seam (before line_feed input ++ (line_feed ∷ [])) (behind line_feed input)

    shown_some : Shown input
    shown_some =
        by_cases (dec_le (length (before line_feed input)) 20)
        (λ short.
        record {
          line = ap count_of (whole_line short) ∙ whole_count (before line_feed input) (none_before line_feed input) ∙ rw e refl;
          rest = λ q. behind_line_here short;
        })
        (λ long.
        let cut_off : line_held input ≡ take 21 (before line_feed input) = rw e (take-append-le 21 (before line_feed input) (line_feed ∷ []) (omega arith)) in
        let bad : is_number (before line_feed input) ≡ false = not_number_here (is_number (before line_feed input)) refl long in
        record {
          line = ap count_of cut_off ∙ no_count (take 21 (before line_feed input)) (none_in_front line_feed 21 (before line_feed input) (none_before line_feed input)) ∙ rw (e, bad) refl;
          rest = λ q. absurd (true≢false (sym q ∙ rw (e, bad) refl));
        })
      where
        not_number_here : (b : Bool) → is_number (before line_feed input) ≡ b → (length (before line_feed input) ≤ 20 → ⊥) → is_number (before line_feed input) ≡ false
        not_number_here true q long = absurd (long (number_short (before line_feed input) q))
        not_number_here false q long = q

  pub shown : Shown input
  shown = go (has line_feed input) refl
    where
      go : (b : Bool) → has line_feed input ≡ b → Shown input
      go true e = shown_some e
      go false e = shown_none e

-- A line is held just where there is input.
held_none : line_held [] ≡ []
unfolding has
held_none = refl

held_some : (b : ℕ) (bytes : List ℕ) → is_empty (line_held (b ∷ bytes)) ≡ false
held_some b bytes = go (has line_feed (b ∷ bytes)) (before line_feed (b ∷ bytes))
  where
    go : (h : Bool) (front : List ℕ) → is_empty (take 21 (cond h (front ++ (line_feed ∷ [])) (b ∷ bytes))) ≡ false
    go true [] = refl
    go true (x ∷ front) = refl
    go false front = refl

-- A sheet that is too long is refused by its first bytes as by all of them.
long_verdict : (sheet : List ℕ) → 16384 < length sheet → recall_verdict sheet ≡ record { refusal = LongSheet; place = 0 }
unfolding verdict_by sheet_verdict
long_verdict sheet l = rw (lt-ltb 16384 (length sheet) l) refl

kept_outcome : (sheet : List ℕ) (o : Outcome) → OutcomeOf (take 16385 sheet) o → OutcomeOf sheet o
kept_outcome sheet o p =
    by_cases (dec_le (length sheet) 16385)
    (λ h. subst (λ s. OutcomeOf s o) (take_all 16385 sheet h) p)
    (λ h.
    let kept = long_verdict (take 16385 sheet) (omega (arith, length-take-le 16385 sheet (omega arith))) in
    let all = long_verdict sheet (omega arith) in
    record {
      refused = λ q. p.refused (ap (λ v. is_refusal v.refusal) kept) ∙ ap (λ v. refused_outcome v.refusal) (kept ∙ sym all);
      planned = λ q. absurd (true≢false (sym (ap (λ v. is_refusal v.refusal) all) ∙ q));
    })

-- The sheets are counted.
pub one_more_sheet : (m : Month) (o : Outcome) → m.sheets < 1000 → (added m o).sheets ≡ m.sheets + 1
unfolding added with_refused with_longest with_totals grown
one_more_sheet m o l = go (is_refusal o.refusal) (ltb m.time o.time)
  where
    fits : leb (2 ^ 64) (m.sheets + 1) ≡ false
    fits = lt-leb (2 ^ 64) (m.sheets + 1) (omega arith)

    go : (b d : Bool) → (cond b (with_refused m (number_of o.refusal)) (cond d (named_by (with_totals m o) o) (with_totals m o))).sheets ≡ m.sheets + 1
    go true d = rw fits refl
    go false true = rw fits refl
    go false false = rw fits refl

-- From a month that has room for n sheets more.
pub record ReadTo (m : Month) (n : ℕ) (input : List ℕ) (m' : Month) (good : Bool) : Type 0 where
  pub runs : List Outcome
  pub outcomes : Outcomes (divided n input).sheets runs
  pub month : m' ≡ added_all m runs
  pub whole : good ≡ (divided n input).good

read_none : (m : Month) (n : ℕ) (input : List ℕ) (good : Bool) → divided n input ≡ record { sheets = []; good = good } → ReadTo m n input m good
unfolding added_all
read_none m n input good e =
    record { runs = []; outcomes = subst (λ d. Outcomes d.sheets []) (sym e) tt; month = refl; whole = sym (ap (λ d. d.good) e) }

none_after : (n : ℕ) (b : ℕ) (bytes : List ℕ) → (n ≡ 0 → ⊥) → is_whole (b ∷ bytes) ≡ false → divided n (b ∷ bytes) ≡ record { sheets = []; good = false }
unfolding divided
none_after zero b bytes some e = absurd (some refl)
none_after (suc n) b bytes some e = rw e refl

module _ (m : Month) (n : ℕ) (count : m.sheets + n ≡ 1000) (b : ℕ) (bytes : List ℕ) where
  input : List ℕ
  input = b ∷ bytes

  -- What part_of says of some input.
  part_is : part_of m.sheets (line_held (b ∷ bytes)) ≡ cond (leb 1000 m.sheets) (Err (record {})) (count_of (line_held (b ∷ bytes)))
  unfolding part_of
  part_is = rw (held_some b bytes) refl

  full : n ≡ 0 → divided n (b ∷ bytes) ≡ record { sheets = []; good = false }
  unfolding divided
  full e = rw e refl

  counts : Bool
  counts = has line_feed (b ∷ bytes) && is_number (before line_feed (b ∷ bytes))

  part_some : (n ≡ 0 → ⊥) → part_of m.sheets (line_held (b ∷ bytes)) ≡ cond counts (Ok (Some (value_of (before line_feed (b ∷ bytes))))) (Err (record {}))
  unfolding counts
  part_some some = part_is ∙ rw (lt-leb 1000 m.sheets (omega (arith, some))) (shown (b ∷ bytes)).line

  part_full : n ≡ 0 → part_of m.sheets (line_held (b ∷ bytes)) ≡ Err (record {})
  part_full e = part_is ∙ rw (le-leb 1000 m.sheets (omega arith)) refl

  not_whole : counts ≡ false → is_whole (b ∷ bytes) ≡ false
  unfolding counts
  not_whole e = rw e refl

  never_ends : part_of m.sheets (line_held (b ∷ bytes)) ≡ Ok None → ⊥
  never_ends e = by_cases (dec_le n 0) (λ z. different (part_full (omega arith))) (λ z. go counts refl (λ q. omega (arith, z, q)))
    where
      different : part_of m.sheets (line_held (b ∷ bytes)) ≡ Err (record {}) → ⊥
      different q = let z : ◌≡◌ {A = ℕ} 0 1 = cc in omega arith

      other : (k : ℕ) → part_of m.sheets (line_held (b ∷ bytes)) ≡ Ok (Some k) → ⊥
      other k q = let z : ◌≡◌ {A = ℕ} 0 1 = cc in omega arith

      go : (c : Bool) → counts ≡ c → (n ≡ 0 → ⊥) → ⊥
      go true q some = other _ (part_some some ∙ ap (λ x. cond x (Ok (Some (value_of (before line_feed (b ∷ bytes))))) (Err (record {}))) q)
      go false q some = different (part_some some ∙ ap (λ x. cond x (Ok (Some (value_of (before line_feed (b ∷ bytes))))) (Err (record {}))) q)

  bad_divides : part_of m.sheets (line_held (b ∷ bytes)) ≡ Err (record {}) → divided n (b ∷ bytes) ≡ record { sheets = []; good = false }
  bad_divides e = by_cases (dec_le n 0) (λ z. full (omega arith)) (λ z. go counts refl (λ q. omega (arith, z, q)))
    where
      other : (k : ℕ) → part_of m.sheets (line_held (b ∷ bytes)) ≡ Ok (Some k) → ⊥
      other k q = let z : ◌≡◌ {A = ℕ} 0 1 = cc in omega arith

      go : (c : Bool) → counts ≡ c → (n ≡ 0 → ⊥) → divided n (b ∷ bytes) ≡ record { sheets = []; good = false }
      go true q some = absurd (other _ (part_some some ∙ ap (λ x. cond x (Ok (Some (value_of (before line_feed (b ∷ bytes))))) (Err (record {}))) q))
      go false q some = none_after n b bytes some (not_whole q)

  -- A byte count.
  record Counted (k : ℕ) : Type 0 where
    some : n ≡ 0 → ⊥
    number : counts ≡ true
    value : value_of (before line_feed (b ∷ bytes)) ≡ k
    rest : rest_of (b ∷ bytes) ≡ behind line_feed (b ∷ bytes)

  counted : (k : ℕ) → part_of m.sheets (line_held (b ∷ bytes)) ≡ Ok (Some k) → Counted k
  unfolding counts
  counted k e = by_cases (dec_le n 0) (λ z. absurd (bad (part_full (omega arith)))) (λ z. go counts refl (λ q. omega (arith, z, q)))
    where
      bad : part_of m.sheets (line_held (b ∷ bytes)) ≡ Err (record {}) → ⊥
      bad q = let z : ◌≡◌ {A = ℕ} 0 1 = cc in omega arith

      same : (j : ℕ) → part_of m.sheets (line_held (b ∷ bytes)) ≡ Ok (Some j) → j ≡ k
      same j q = cc

      go : (c : Bool) → counts ≡ c → (n ≡ 0 → ⊥) → Counted k
      go true q some =
          record {
            some = some;
            number = q;
            value = same _ (part_some some ∙ ap (λ x. cond x (Ok (Some (value_of (before line_feed (b ∷ bytes))))) (Err (record {}))) q);
            rest = (shown (b ∷ bytes)).rest q;
          }
      go false q some = absurd (bad (part_some some ∙ ap (λ x. cond x (Ok (Some (value_of (before line_feed (b ∷ bytes))))) (Err (record {}))) q))

-- Each way that reading can go.
ends_to : (m : Month) (n : ℕ) → m.sheets + n ≡ 1000 → (input : List ℕ) → part_of m.sheets (line_held input) ≡ Ok None → ReadTo m n input m true
unfolding divided
ends_to m zero count [] e = read_none m 0 [] true refl
ends_to m (suc n) count [] e = read_none m (suc n) [] true refl
ends_to m n count (b ∷ bytes) e = absurd (never_ends m n count b bytes e)

nothing_is_end : (s : ℕ) → part_of s (line_held []) ≡ Ok None
unfolding part_of has
nothing_is_end s = refl

bad_to : (m : Month) (n : ℕ) → m.sheets + n ≡ 1000 → (input : List ℕ) → part_of m.sheets (line_held input) ≡ Err (record {}) → ReadTo m n input m false
bad_to m n count [] e = let z : ◌≡◌ {A = ℕ} 0 1 = cc (nothing_is_end m.sheets) in absurd (omega arith)
bad_to m n count (b ∷ bytes) e = read_none m n (b ∷ bytes) false (bad_divides m n count b bytes e)

-- What there is of a sheet, where its count says so much.
there_short : (k : ℕ) (rest : List ℕ) → length (take k rest) < k → length rest < k
there_short k rest l = omega (arith, l, length-take k rest)

there_whole : (k : ℕ) (rest : List ℕ) → k ≤ length (take k rest) → k ≤ length rest
there_whole k rest l = omega (arith, l, length-take k rest)

module _ (m : Month) (n : ℕ) (count : m.sheets + n ≡ 1000) (k : ℕ) where
  cut_to : (input : List ℕ) → part_of m.sheets (line_held input) ≡ Ok (Some k) → SheetAdded m k (length (take k (rest_of input))) (kept_of k (rest_of input)) (Err (record { month = m }))
      → ReadTo m n input m false
  unfolding counts
  cut_to [] e h = let z : ◌≡◌ {A = ℕ} 0 1 = cc (nothing_is_end m.sheets) in absurd (omega arith)
  cut_to (b ∷ bytes) e h =
      by_cases (dec_le k (length (take k (rest_of (b ∷ bytes)))))
      (λ l. let whole = (h.whole l).1.1 in let z : ◌≡◌ {A = ℕ} 0 1 = cc in absurd (omega arith))
      (λ l.
      let c = counted m n count b bytes k e in
      let short : length (take k (rest_of (b ∷ bytes))) < k = omega arith in
      let few : length (behind line_feed (b ∷ bytes)) < value_of (before line_feed (b ∷ bytes)) = omega (arith, there_short k (rest_of (b ∷ bytes)) short, ap length c.rest, c.value) in
      let part : is_whole (b ∷ bytes) ≡ false = rw (c.number, lt-leb (value_of (before line_feed (b ∷ bytes))) (length (behind line_feed (b ∷ bytes))) few) refl in
      read_none m n (b ∷ bytes) false (none_after n b bytes c.some part))

more_divides : (n b : ℕ) (bytes : List ℕ) (k : ℕ) → is_whole (b ∷ bytes) ≡ true → value_of (before line_feed (b ∷ bytes)) ≡ k
    → ((divided (suc n) (b ∷ bytes)).sheets ≡ take k (behind line_feed (b ∷ bytes)) ∷ (divided n (drop k (behind line_feed (b ∷ bytes)))).sheets)
    × ((divided (suc n) (b ∷ bytes)).good ≡ (divided n (drop k (behind line_feed (b ∷ bytes)))).good)
unfolding divided
more_divides n b bytes k e v = (
  rw e (ap (λ x. take x (behind line_feed (b ∷ bytes)) ∷ (divided n (drop x (behind line_feed (b ∷ bytes)))).sheets) v),
  rw e (ap (λ x. (divided n (drop x (behind line_feed (b ∷ bytes)))).good) v),
)

module _ (m : Month) (k : ℕ) (next m' : Month) (good : Bool) where
  joined_to : (n : ℕ) (b : ℕ) (bytes : List ℕ) (o : Outcome) → OutcomeOf (take k (behind line_feed (b ∷ bytes))) o → next ≡ added m o → is_whole (b ∷ bytes) ≡ true → value_of (before line_feed (b ∷ bytes)) ≡ k
      → ReadTo next n (drop k (behind line_feed (b ∷ bytes))) m' good → ReadTo m (suc n) (b ∷ bytes) m' good
  unfolding added_all
  joined_to n b bytes o p next_is whole v t =
      let d = more_divides n b bytes k whole v in
      record {
        runs = o ∷ t.runs;
        outcomes = subst (λ l. Outcomes l (o ∷ t.runs)) (sym d.0) (p, t.outcomes);
        month = t.month ∙ ap (λ x. added_all x t.runs) next_is;
        whole = t.whole ∙ sym d.1;
      }

  more_to : (n : ℕ) → m.sheets + n ≡ 1000 → (input : List ℕ) → part_of m.sheets (line_held input) ≡ Ok (Some k) → SheetAdded m k (length (take k (rest_of input))) (kept_of k (rest_of input)) (Ok next)
      → ((n' : ℕ) → next.sheets + n' ≡ 1000 → ReadTo next n' (drop k (rest_of input)) m' good) → ReadTo m n input m' good
  unfolding counts
  more_to n count [] e h rest = let z : ◌≡◌ {A = ℕ} 0 1 = cc (nothing_is_end m.sheets) in absurd (omega arith)
  more_to zero count (b ∷ bytes) e h rest = absurd ((counted m 0 count b bytes k e).some refl)
  more_to (suc n) count (b ∷ bytes) e h rest =
      by_cases (dec_le k (length (take k (rest_of (b ∷ bytes)))))
      (λ l.
      let c = counted m (suc n) count b bytes k e in
      let all = there_whole k (rest_of (b ∷ bytes)) l in
      let enough : value_of (before line_feed (b ∷ bytes)) ≤ length (behind line_feed (b ∷ bytes)) = omega (arith, all, ap length c.rest, c.value) in
      let whole : is_whole (b ∷ bytes) ≡ true = rw (c.number, le-leb (value_of (before line_feed (b ∷ bytes))) (length (behind line_feed (b ∷ bytes))) enough) refl in
      let o = (h.whole l).0 in
      let whole_is = (h.whole l).1.1 in
      let next_is : next ≡ added m o = cc in
      let p : OutcomeOf (take k (behind line_feed (b ∷ bytes))) o = subst (λ x. OutcomeOf (take k x) o) c.rest (kept_outcome (take k (rest_of (b ∷ bytes))) o (h.whole l).1.0) in
      let later = rest n (ap (λ x. x.sheets + n) next_is ∙ omega (arith, one_more_sheet m o (omega arith))) in
      joined_to n b bytes o p next_is whole c.value (subst (λ x. ReadTo next n (drop k x) m' good) c.rest later))
      (λ l. let cut = h.cut (omega arith) in let z : ◌≡◌ {A = ℕ} 0 1 = cc in absurd (omega arith))

reads_on : {m : Month} {input : List ℕ} {m' : Month} {good : Bool} → ReadsOn m input m' good → (n : ℕ) → m.sheets + n ≡ 1000 → ReadTo m n input m' good
reads_on (at_end {m} {input} e) n count = ends_to m n count input e
reads_on (no_part {m} {input} e) n count = bad_to m n count input e
reads_on (cut_short {m} {input} {bytes} e h) n count = cut_to m n count bytes input e h
reads_on (one_more {m} {next} {m'} {input} {bytes} {good} e h rest) n count = more_to m bytes next m' good n count input e h (λ left c. reads_on rest left c)

few_sheets : (n : ℕ) (input : List ℕ) → length (divided n input).sheets ≤ n
unfolding divided
few_sheets zero input = omega arith
few_sheets (suc n) [] = omega arith
few_sheets (suc n) (b ∷ bytes) = go (is_whole (b ∷ bytes)) refl (few_sheets n (drop (value_of (before line_feed (b ∷ bytes))) (behind line_feed (b ∷ bytes))))
  where
    go : (c : Bool) → is_whole (b ∷ bytes) ≡ c → length (divided n (drop (value_of (before line_feed (b ∷ bytes))) (behind line_feed (b ∷ bytes)))).sheets ≤ n → length (divided (suc n) (b ∷ bytes)).sheets ≤ suc n
    go true e h = rw e (omega arith)
    go false e h = rw e (omega arith)

pub part_by_part : PartByPart
unfolding input_verdict
part_by_part input m good r =
    let t = reads_on r 1000 refl in
    let few = few_sheets 1000 input in
    let figures : MonthFigures t.runs m = subst (MonthFigures t.runs) (sym t.month) (month_counts (divided 1000 input).sheets t.runs few t.outcomes) in
    let size : m.sheets ≡ length (divided 1000 input).sheets = figures.sheets ∙ (outcomes_small (divided 1000 input).sheets t.runs t.outcomes).1 in
    record {
      runs = t.runs;
      outcomes = t.outcomes;
      month = t.month;
      figures = figures;
      whole = t.whole;
      passes = λ e. rw e refl;
      place = λ e. rw e (ap (λ x. record { refusal = BadSheetCount; place = x }) (grown_fits m.sheets 1 (omega (arith, size)) ∙ ap (λ x. x + 1) size));
    }
