-- The contract of the call that mends a sheet, from the promise of the mender by value.
use Prim.Native.Nat.{ℕ, ◌≤◌, ◌<◌}
use mathlib.Core.Path.{◌≡◌, refl, sym, ap, ◌∙◌}
use mathlib.Core.Bool.{Bool, true, false, cond, ◌||◌}
use mathlib.Core.Logic.{⊎_elim}
use mathlib.Core.List.{List, [], ◌∷◌}
use native.Mathlib.Omega.{arith}
use lib.ListN.{length, drop, set}
use lib.Dec.{ltb}
use borrow.Author.Tests.{lt-ltb, le-ltb}
use Rattle.refusals.specs.declared.Refusal.TheVariants.{ShortRow, LongSheet}
use Rattle.refusals.specs.declared.Verdict.{Verdict}
use Rattle.refusals.specs.Refusals.{is_refusal, refuse_if, first_of}
use Rattle.refusals.proofs.Verdicts.{refuses, none_refuses}
use Rattle.runs.proofs.Search.{true_or_false}
use Rattle.walk.proofs.Places.{place_most}
use Rattle.sheet_reader.specs.Sheet.{longest_sheet}
use Rattle.sheet_reader.specs.Reading.{read_row}
use Rattle.sheet_loose.specs.Reading.{loose_verdict}
use Rattle.answer_mend.specs.declared.Mended.{Mended}
use Rattle.answer_mend.specs.Mending.{mended_text, changes_text, wants_verdicts, texts_verdicts, mend_verdict, SheetMended}
use Rattle.boundary.specs.Boundary.{code_of}
use Rattle.promises.proofs.PageLengths.{mend_near}
use Rattle.boundary_texts.specs.Texts.{mend_call, MendCalled}
use Rattle.boundary_texts.specs.Private.{mended_verdict, BothTold}
use Rattle.boundary_texts.proofs.Answered.{or_false, or_true}

two_set : (x y : ℕ) (row : List ℕ) → 2 ≤ length row → set (set row 0 x) 1 y ≡ x ∷ y ∷ drop 2 row
two_set x y [] l = absurd (omega arith)
two_set x y (a ∷ []) l = absurd (omega arith)
two_set x y (a ∷ b ∷ row) l = refl

-- The lengths told.
module _ (v : Verdict) (bytes noted : ℕ) (sizes : List ℕ) (code : ℕ) (code_is : code ≡ code_of v) (flag : Bool) (flag_is : flag ≡ is_refusal v.refusal) where
  pub both_refused : flag ≡ true → BothTold v bytes noted sizes code sizes
  both_refused e = let here : is_refusal v.refusal ≡ true = sym flag_is ∙ e in record { says = code_is; sizes_are = rw here refl }

  pub both_told : flag ≡ false → 2 ≤ length sizes → BothTold v bytes noted sizes code (set (set sizes 0 bytes) 1 noted)
  both_told e two = let here : is_refusal v.refusal ≡ false = sym flag_is ∙ e in record { says = code_is; sizes_are = rw here (two_set bytes noted sizes two) }

-- With two words for the lengths the verdict is the mender's.
same_call : (sheet out notes sizes : List ℕ) → 2 ≤ length sizes → mend_verdict sheet out notes ≡ mend_call sheet out notes sizes
unfolding mend_verdict mend_call
same_call sheet out notes sizes l =
    rw (le-ltb (length sizes) 2 l, or_false (ltb (length out) (length (mended_text sheet)) || ltb (length notes) (length (changes_text sheet)))) refl

-- The verdict in what is mended is that of the sheet and the rows.
module _ (sheet out notes : List ℕ) (m : Mended) (out' notes' : List ℕ) (p : SheetMended sheet out notes m out' notes') where
  mended_verdict_here : mended_verdict m ≡ mend_verdict sheet out notes
  unfolding mend_verdict
  mended_verdict_here =
      ⊎_elim
      (λ (e : refuses (mend_verdict sheet out notes) ≡ true). ap mended_verdict p.answer ∙ rw e refl)
      (λ (e : refuses (mend_verdict sheet out notes) ≡ false).
      ap mended_verdict p.answer ∙ rw e
      (sym (none_refuses (loose_verdict sheet ∷ first_of (wants_verdicts sheet) ∷ first_of (texts_verdicts (mended_text sheet) (changes_text sheet) out notes) ∷ []) e)))
      (true_or_false (refuses (mend_verdict sheet out notes)))

  pub mended_near : (u : Verdict) → u ≡ mended_verdict m → u.place ≤ place_most
  mended_near u is = rw (is ∙ mended_verdict_here) (mend_near sheet out notes)

  module _ (sizes : List ℕ) (two : 2 ≤ length sizes) where
    same : mend_verdict sheet out notes ≡ mend_call sheet out notes sizes
    same = same_call sheet out notes sizes two

    pub mend_called : (u : Verdict) → u ≡ mended_verdict m → (code : ℕ) (sizes' : List ℕ) → BothTold u m.bytes m.noted sizes code sizes' → MendCalled sheet out notes sizes code out' notes' sizes'
    mend_called u is code sizes' told =
        let is_call : u ≡ mend_call sheet out notes sizes = is ∙ mended_verdict_here ∙ same in
        record {
          says = told.says ∙ ap code_of is_call;
          out_is = p.sheet ∙ ap (λ (x : Verdict). read_row x (mended_text sheet) out) same;
          notes_are = p.listed ∙ ap (λ (x : Verdict). read_row x (changes_text sheet) notes) same;
          sizes_are =
              ⊎_elim
              (λ (h : is_refusal (mend_call sheet out notes sizes).refusal ≡ true).
              let here : is_refusal u.refusal ≡ true = ap (λ (x : Verdict). is_refusal x.refusal) is_call ∙ h in
              let kept : sizes' ≡ sizes = rw here at told.sizes_are in
              rw h kept)
              (λ (h : is_refusal (mend_call sheet out notes sizes).refusal ≡ false).
              let here : is_refusal u.refusal ≡ false = ap (λ (x : Verdict). is_refusal x.refusal) is_call ∙ h in
              let passes : is_refusal (mend_verdict sheet out notes).refusal ≡ false = ap (λ (x : Verdict). is_refusal x.refusal) same ∙ h in
              let filled : sizes' ≡ m.bytes ∷ m.noted ∷ drop 2 sizes = rw here at told.sizes_are in
              let bytes : m.bytes ≡ length (mended_text sheet) = ap (λ (x : Mended). x.bytes) p.answer ∙ rw passes refl in
              let noted : m.noted ≡ length (changes_text sheet) = ap (λ (x : Mended). x.noted) p.answer ∙ rw passes refl in
              rw h (filled ∙ rw (bytes, noted) refl))
              (true_or_false (is_refusal (mend_call sheet out notes sizes).refusal));
        }

-- Without: 8 behind all that a sheet is refused for. So of three verdicts of which the last is 12 or 8.
abbrev behind : Verdict → Verdict → Bool → Bool → Verdict
behind loose wants long short = first_of (loose ∷ wants ∷ first_of (refuse_if long LongSheet ∷ refuse_if short ShortRow ∷ []) ∷ [])

behind_eight : (loose wants : Verdict) (long short : Bool) → cond (is_refusal (behind loose wants long short).refusal) (code_of (behind loose wants long short)) 8 ≡ code_of (behind loose wants long true)
behind_eight loose wants long short =
    ⊎_elim
    (λ (a : refuses loose ≡ true). rw (a, a) refl)
    (λ (a : refuses loose ≡ false).
    ⊎_elim
    (λ (b : refuses wants ≡ true). rw (a, b, b) refl)
    (λ (b : refuses wants ≡ false). rw (a, b) (by_long long short))
    (true_or_false (refuses wants)))
    (true_or_false (refuses loose))
  where
    by_long : (long short : Bool) → cond (is_refusal (first_of (first_of (refuse_if long LongSheet ∷ refuse_if short ShortRow ∷ []) ∷ [])).refusal) (code_of (first_of (first_of (refuse_if long LongSheet ∷ refuse_if short ShortRow ∷ []) ∷ []))) 8
        ≡ code_of (first_of (first_of (refuse_if long LongSheet ∷ refuse_if true ShortRow ∷ []) ∷ []))
    by_long true short = refl
    by_long false true = refl
    by_long false false = refl

behind_refuses : (loose wants : Verdict) (long : Bool) → is_refusal (behind loose wants long true).refusal ≡ true
behind_refuses loose wants long =
    ⊎_elim
    (λ (a : refuses loose ≡ true). rw (a, a) refl)
    (λ (a : refuses loose ≡ false).
    ⊎_elim
    (λ (b : refuses wants ≡ true). rw (a, b, b) refl)
    (λ (b : refuses wants ≡ false). rw (a, b) (by_long long))
    (true_or_false (refuses wants)))
    (true_or_false (refuses loose))
  where
    by_long : (long : Bool) → is_refusal (first_of (first_of (refuse_if long LongSheet ∷ refuse_if true ShortRow ∷ []) ∷ [])).refusal ≡ true
    by_long true = refl
    by_long false = refl

module _ (sheet : List ℕ) (m : Mended) (none' nothing' : List ℕ) (p : SheetMended sheet [] [] m none' nothing') where
  short_is : (out notes sizes : List ℕ) → length sizes < 2 → mend_call sheet out notes sizes ≡ behind (loose_verdict sheet) (first_of (wants_verdicts sheet)) (ltb longest_sheet (length (mended_text sheet))) true
  unfolding mend_call
  short_is out notes sizes l = rw (lt-ltb (length sizes) 2 l, or_true (ltb (length out) (length (mended_text sheet)) || ltb (length notes) (length (changes_text sheet)))) refl

  empty_is_here : mend_verdict sheet [] [] ≡ behind (loose_verdict sheet) (first_of (wants_verdicts sheet)) (ltb longest_sheet (length (mended_text sheet))) (ltb 0 (length (mended_text sheet)) || ltb 0 (length (changes_text sheet)))
  unfolding mend_verdict
  empty_is_here = refl

  pub mend_short : (u : Verdict) → u ≡ mended_verdict m → (code : ℕ) → code ≡ cond (is_refusal u.refusal) (code_of u) 8 → (out notes sizes : List ℕ) → length sizes < 2 → MendCalled sheet out notes sizes code out notes sizes
  unfolding read_row
  mend_short u is code code_is out notes sizes l =
      let short = short_is out notes sizes l in
      let refuses-here : is_refusal (mend_call sheet out notes sizes).refusal ≡ true = ap (λ (x : Verdict). is_refusal x.refusal) short ∙ behind_refuses (loose_verdict sheet) (first_of (wants_verdicts sheet)) (ltb longest_sheet (length (mended_text sheet))) in
      record {
        says =
            code_is
            ∙ ap (λ (x : Verdict). cond (is_refusal x.refusal) (code_of x) 8) (is ∙ mended_verdict_here sheet [] [] m none' nothing' p ∙ empty_is_here)
            ∙ behind_eight (loose_verdict sheet) (first_of (wants_verdicts sheet)) (ltb longest_sheet (length (mended_text sheet))) (ltb 0 (length (mended_text sheet)) || ltb 0 (length (changes_text sheet)))
            ∙ ap code_of (sym short);
        out_is = rw refuses-here refl;
        notes_are = rw refuses-here refl;
        sizes_are = rw refuses-here refl;
      }
