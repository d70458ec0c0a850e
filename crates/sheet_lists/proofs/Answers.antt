-- What the readers answer, from the form that was found.
use Prim.Native.Nat.{ℕ, zero, suc, ◌<◌}
use mathlib.Core.Path.{◌≡◌, refl, sym, ap, ◌∙◌, subst}
use mathlib.Core.Bool.{Bool, true, false}
use mathlib.Core.List.{List, [], ◌∷◌, ◌++◌}
use native.Mathlib.Omega.{arith}
use lib.ListN.{length, drop}
use lib.Dec.{ltb}
use borrow.Author.Tests.{ltb-false}
use Rattle.std.specs.Prelude.{Result, Ok, Err}
use Rattle.refusals.specs.declared.Refusal.TheVariants.{LongSheet, ShortRow}
use Rattle.refusals.specs.declared.Refusal.TheVariants as Refusal
use Rattle.text_lines.specs.declared.BadLine.{BadLine}
use Rattle.refusals.specs.declared.Verdict.{Verdict}
use Rattle.refusals.specs.Refusals.{accepted, checked, refuse_if, refuse_at, first_of}
use Rattle.refusals.proofs.Verdicts.{refuses, refuse_at_lem, accepts_if}
use Rattle.refusals.proofs.Checked.{passed, stopped}
use Rattle.runs.proofs.Search.{or_false_both}
use Rattle.text_lines.specs.Lines.{line_after, first_in, second_in}
use Rattle.text_lines.specs.Found.{PairsRead}
use Rattle.text_lines.proofs.Filling.{length_each, pairs_read}
use Rattle.sheet_reader.specs.Sheet.{longest_sheet}
use Rattle.sheet_reader.specs.Reading.{read_row, short_pair_rows}
use Rattle.sheet_writer.specs.PlanSheet.{detour_key}
use Rattle.sheet_lists.specs.declared.ListReading.{ListReading}
use Rattle.sheet_lists.specs.declared.Form.{Form}
use Rattle.sheet_lists.specs.Form.{starts_on, ends_on}
use Rattle.sheet_lists.specs.Reading.{form_checks, pairs_verdict, ReadBy}
use Rattle.sheet_lists.specs.Private.{FormIs, FormFound, FormWithin, ReadAs}

-- A verdict that refuses leaves all as it was, whatever the list.
pub all_kept : (v : Verdict) → refuses v ≡ true → (many : ℕ) (text froms tos : List ℕ) → ReadBy v many text froms tos (record { verdict = v; detours = 0 }) froms tos
unfolding read_row
all_kept v e many text froms tos = record { verdict = refl; detours = rw e; froms = rw e; tos = rw e }

kept_any : (v : Verdict) → refuses v ≡ true → (many : ℕ) (text froms tos : List ℕ) (r : ListReading) (froms' tos' : List ℕ) → ReadBy v 0 [] froms tos r froms' tos'
    → ReadBy v many text froms tos r froms' tos'
unfolding read_row
kept_any v e many text froms tos r froms' tos' h =
    record { verdict = h.verdict; detours = h.detours ∙ rw e; froms = h.froms ∙ rw e; tos = h.tos ∙ rw e }

line_refuses : (line : ℕ) → 0 < line → refuses (refuse_at line Refusal.BadLine) ≡ true
line_refuses zero l = absurd (omega arith)
line_refuses (suc line) l = refl

-- The answer to a form.
module _ (list : List ℕ) (form : Result Form BadLine) (froms tos : List ℕ) (within : FormWithin list form) where
  pub read_bad : (bad : BadLine) → form ≡ Err bad → ReadAs list form froms tos (record { verdict = record { refusal = Refusal.BadLine; place = bad.line }; detours = 0 }) froms tos
  read_bad bad e =
      let some : 0 < bad.line = subst (λ f. FormWithin list f) e within in
      rw (e, refuse_at_lem bad.line Refusal.BadLine (λ z. omega (arith, some, z))) (all_kept (record { refusal = Refusal.BadLine; place = bad.line }) refl 0 [] froms tos)

  module _ (at detours : ℕ) (e : form ≡ Ok (record { at = at; detours = detours })) (b : Bool) (short : b ≡ short_pair_rows detours froms tos) where
    form_is : FormIs 0 detours (drop at list) list at detours
    form_is = subst (λ f. FormWithin list f) e within

    pub read_short : (v : Verdict) → Err v ≡ checked (refuse_if b ShortRow) → ReadAs list form froms tos (record { verdict = v; detours = 0 }) froms tos
    read_short v said =
        let s = stopped (refuse_if (short_pair_rows detours froms tos) ShortRow) v (said ∙ ap (λ x. checked (refuse_if x ShortRow)) short) in
        rw (e, ← s.is) (all_kept (refuse_if (short_pair_rows detours froms tos) ShortRow) s.so detours (drop at list) froms tos)

    pub read_whole : Ok tt ≡ checked (refuse_if b ShortRow) → (v : Verdict) → v ≡ accepted → (froms' tos' : List ℕ) → PairsRead detour_key list at detours froms tos froms' tos'
        → ReadAs list form froms tos (record { verdict = v; detours = detours }) froms' tos'
    unfolding read_row
    read_whole said v v-is froms' tos' p =
        let two = or_false_both (ltb (length froms) detours) (ltb (length tos) detours) (sym short ∙ accepts_if b ShortRow refl (passed (refuse_if b ShortRow) tt said)) in
        let q =
        pairs_read detour_key list at detours froms tos
        (record { none = form_is.passed; room = ltb-false (length froms) detours two.0; space = ltb-false (length tos) detours two.1 }) froms' tos' p in
        rw (e, v-is, two.0, two.1)
        (record {
          verdict = refl;
          detours = refl;
          froms = q.0 ∙ ap (λ n. starts_on detours (drop at list) ++ drop n froms) (sym (length_each (λ i. first_in detour_key (line_after i (drop at list))) detours));
          tos = q.1 ∙ ap (λ n. ends_on detours (drop at list) ++ drop n tos) (sym (length_each (λ i. second_in detour_key (line_after i (drop at list))) detours));
        })

-- From the form that a text has to the answer to the text.
module _ (bad many : ℕ) (text list froms tos : List ℕ) where
  pub form_within : (form : Result Form BadLine) → FormFound bad many text list form → FormWithin list form
  form_within (Ok form) f =
      record { none = refl; same = refl; few = omega (arith, f.few, f.same); within = f.within; rest = refl; passed = rw (f.same, f.rest) f.passed }
  form_within (Err bad) f = f.some

  abbrev Whole : ListReading → List ℕ → List ℕ → Type 0
  Whole r froms' tos' = ReadBy (pairs_verdict (first_of (form_checks bad list)) many froms tos) many text froms tos r froms' tos'

  abbrev long : Verdict
  long = refuse_if (ltb longest_sheet (length list)) LongSheet

  pub read_long : (v : Verdict) → Err v ≡ checked long → Whole (record { verdict = v; detours = 0 }) froms tos
  read_long v said =
      let s = stopped long v said in
      let is : pairs_verdict (first_of (form_checks bad list)) many froms tos ≡ long = rw (s.so, s.so) in
      let kept : ReadBy long many text froms tos (record { verdict = v; detours = 0 }) froms tos = rw (← s.is) (all_kept long s.so many text froms tos) in
      subst (λ x. ReadBy x many text froms tos (record { verdict = v; detours = 0 }) froms tos) (sym is) kept

  module _ (fits : Ok tt ≡ checked long) where
    last_short : (b : Bool) → first_of (refuse_if b ShortRow ∷ []) ≡ refuse_if b ShortRow
    last_short true = refl
    last_short false = refl

    pub read_formed : (form : Result Form BadLine) → FormFound bad many text list form → (r : ListReading) (froms' tos' : List ℕ) → ReadAs list form froms tos r froms' tos' → Whole r froms' tos'
    read_formed (Ok form) g r froms' tos' h =
        let short : refuses long ≡ false = passed long tt fits in
        let is : pairs_verdict (first_of (form_checks bad list)) many froms tos ≡ refuse_if (short_pair_rows many froms tos) ShortRow = rw (short, g.none) (last_short (short_pair_rows many froms tos)) in
        let same : ReadBy (refuse_if (short_pair_rows many froms tos) ShortRow) many text froms tos r froms' tos' = rw (← g.same, ← g.rest) h in
        subst (λ x. ReadBy x many text froms tos r froms' tos') (sym is) same
    read_formed (Err bad_line) g r froms' tos' h =
        let short : refuses long ≡ false = passed long tt fits in
        let r-line = line_refuses bad_line.line g.some in
        let is : pairs_verdict (first_of (form_checks bad list)) many froms tos ≡ refuse_at bad_line.line Refusal.BadLine = rw (short, g.same, r-line, r-line) in
        subst (λ x. ReadBy x many text froms tos r froms' tos') (sym is) (kept_any (refuse_at bad_line.line Refusal.BadLine) r-line many text froms tos r froms' tos' h)
