-- Both texts handed out, or neither; and what the verdicts say.
use Prim.Native.Nat.{ℕ, ◌≤◌}
use mathlib.Core.Path.{◌≡◌, refl, ap, sym, ◌∙◌, subst}
use mathlib.Core.Bool.{Bool, true, false, not, ◌||◌}
use mathlib.Core.List.{List, [], ◌∷◌}
use native.Mathlib.Omega.{arith}
use native.Mathlib.Decide.{dec_lt}
use lib.ListN.{length, take}
use lib.Seq.{length-take-le}
use lib.Dec.{ltb}
use borrow.Author.Tests.{lt-ltb, ltb-false, not-false}
use Rattle.std.specs.Prelude.{Result, Ok, Err}
use Rattle.refusals.specs.declared.Refusal.TheVariants.{WantRows, ShortRow, BadName}
use Rattle.refusals.specs.declared.Verdict.{Verdict}
use Rattle.refusals.specs.Refusals.{checked, refuse_if, first_of}
use Rattle.refusals.proofs.Checked.{Refuses, passed, stopped}
use Rattle.refusals.proofs.Verdicts.{refuses, first_refuses, first_passes, all_accept, accepts_if}
use Rattle.runs.proofs.Search.{or_false_both}
use Rattle.text_bytes.specs.Text.{is_name}
use Rattle.text_paths.specs.Paths.{paths_verdict}
use Rattle.text_pages.specs.Printing.{Wrote, Put}
use Rattle.text_pages.proofs.Pages.{wrote_page}
use Rattle.sheet_writer.specs.Writing.{written_row}
use Rattle.sheet_writer.proofs.Sheets.{name_length}
use Rattle.sheet_picks.specs.declared.Picks.{Picks}
use Rattle.sheet_picks.specs.Entries.{most_entries}
use Rattle.sheet_picks.specs.Sheets.{picked_sheet}
use Rattle.sheet_picks.specs.Names.{names_text}
use Rattle.sheet_picks.specs.Writing.{picks_verdict, text_rows_verdict, PicksHanded, PicksWritten}
use Rattle.sheet_picks.specs.Private.{EntryRows, EntriesFilled, Laid, NextAt}
use Rattle.sheet_picks.proofs.InTurn.{in_turn_rows}

-- What a verdict that accepts says.
pub record Passes (name list : List ℕ) (entries : ℕ) : Type 0 where
  pub short : length name ≤ 16
  pub paths : refuses (paths_verdict list) ≡ false
  pub few : entries ≤ 64

pub passes : (name list : List ℕ) (entries : ℕ) → refuses (picks_verdict name list entries) ≡ false → Passes name list entries
unfolding picks_verdict
passes name list entries e =
    let a = all_accept (refuse_if (not (is_name name)) BadName ∷ paths_verdict list ∷ refuse_if (ltb most_entries entries) WantRows ∷ []) e in
    record {
      short = name_length name (not-false (is_name name) (accepts_if (not (is_name name)) BadName refl a.0));
      paths = a.1.0;
      few = ltb-false most_entries entries (accepts_if (ltb most_entries entries) WantRows refl a.1.1.0);
    }

-- 8, by the sizes that were measured.
measured_same : (room size next : ℕ) → NextAt room 0 size next → ltb room next ≡ ltb room size
measured_same room size next n =
    elim (dec_lt room size) [ yes h ↦ lt-ltb room next (n.over (omega arith)) ∙ sym (lt-ltb room size h) | no h ↦ let e : next ≡ size = omega (arith, n.fits (omega arith)) in rw e ]

module _ (sheet named out names page page' : List ℕ) (most bytes : ℕ) (w : Wrote page 0 sheet most page' bytes) (names₁ : List ℕ) (size : ℕ) (m : Laid false names 0 named names₁ size) where
  same_names : names₁ ≡ names
  same_names = m.kept refl

  bytes_are : bytes ≡ length sheet
  bytes_are = omega (arith, w.after)

  verdict_is_here : refuse_if (ltb (length out) bytes || ltb (length names₁) size) ShortRow ≡ text_rows_verdict sheet named out names
  verdict_is_here = rw (same_names, bytes_are, measured_same (length names) (length named) size m.measured)

  pub both_none : (e : Verdict) → Err e ≡ checked (refuse_if (ltb (length out) bytes || ltb (length names₁) size) ShortRow)
      → PicksHanded (text_rows_verdict sheet named out names) sheet named out names (Err e) out names₁
  unfolding written_row
  both_none e said =
      let s : Refuses (text_rows_verdict sheet named out names) e = stopped (text_rows_verdict sheet named out names) e (said ∙ ap checked verdict_is_here) in
      record {
        answer = rw (s.so) (ap Err (sym s.is));
        sheet_left = rw (s.so);
        names_left = same_names ∙ rw (s.so);
      }

  module _ (u : Unit) (said : Ok u ≡ checked (refuse_if (ltb (length out) bytes || ltb (length names₁) size) ShortRow)) where
    passes_rows : refuses (text_rows_verdict sheet named out names) ≡ false
    passes_rows = passed (text_rows_verdict sheet named out names) u (said ∙ ap checked verdict_is_here)

    no_short : (length sheet ≤ length out) × (length named ≤ length names)
    no_short =
        let o = or_false_both (ltb (length out) (length sheet)) (ltb (length names) (length named)) (accepts_if (ltb (length out) (length sheet) || ltb (length names) (length named)) ShortRow refl passes_rows) in
        (ltb-false (length out) (length sheet) o.0, ltb-false (length names) (length named) o.1)

    pub both_put : (out' : List ℕ) (next : ℕ) → Put out 0 (take bytes page') (length (take bytes page')) out' next → (names₂ : List ℕ) (size₂ : ℕ) → Laid true names₁ 0 named names₂ size₂
        → (r : Result Picks Verdict) → r ≡ Ok (record { bytes = bytes; named = size }) → PicksHanded (text_rows_verdict sheet named out names) sheet named out names r out' names₂
    unfolding written_row
    both_put out' next p names₂ size₂ q r r-is =
        let fits = no_short in
        let text : take bytes page' ≡ sheet = w.bytes in
        let p' : Put out 0 sheet (length sheet) out' next = subst (λ x. Put out 0 x (length x) out' next) text p in
        let wo = p'.room (omega (arith, fits.0)) in
        let q' : Laid true names 0 named names₂ size₂ = subst (λ x. Laid true x 0 named names₂ size₂) same_names q in
        let wn = q'.put refl (omega (arith, fits.1)) in
        let s : size ≡ length named = omega (arith, m.measured.fits (omega (arith, fits.1))) in
        let e₁ : next ≡ length sheet = omega (arith, wo.after) in
        let e₂ : size₂ ≡ length named = omega (arith, wn.after) in
        record {
          answer = r-is ∙ rw (passes_rows, bytes_are, s);
          sheet_left = wrote_page wo ∙ rw (e₁, passes_rows);
          names_left = wrote_page wn ∙ rw (e₂, passes_rows);
        }

-- The whole answer, from the rows of entries.
module _ (name list starts ends head turn out names : List ℕ) (entries : ℕ) (firsts lasts : List ℕ) (p : EntriesFilled starts ends entries firsts lasts) where
  entries_are : length (take entries firsts) ≡ entries
  entries_are = length-take-le entries firsts p.within

  judged : picks_verdict name list entries ≡ picks_verdict name list (length (take entries firsts))
  judged = rw (entries_are)

  pub picks_refused : (e : Verdict) → Err e ≡ checked (picks_verdict name list entries) → PicksWritten name list starts ends head turn out names (Err e) out names
  unfolding written_row
  picks_refused e said =
      let fs = take entries firsts in
      let ls = take entries lasts in
      let u = picks_verdict name list (length fs) in
      let s : Refuses u e = stopped u e (said ∙ ap checked judged) in
      let h : first_of (u ∷ text_rows_verdict (picked_sheet name starts fs ls head turn) (names_text list starts fs ls) out names ∷ []) ≡ u = sym (first_refuses u (text_rows_verdict (picked_sheet name starts fs ls head turn) (names_text list starts fs ls) out names ∷ []) s.so) in
      record {
        firsts = fs;
        lasts = ls;
        entries = p.entries;
        handed = record { answer = rw (h, s.so) (ap Err (sym s.is)); sheet_left = rw (h, s.so); names_left = rw (h, s.so) };
      }

  module _ (unit : Unit) (said : Ok unit ≡ checked (picks_verdict name list entries)) where
    pub picks_pass : Passes name list entries
    picks_pass = passes name list entries (passed (picks_verdict name list entries) unit said)

    pub picks_rows : EntryRows (take entries firsts) (take entries lasts)
    picks_rows = in_turn_rows starts ends 0 (take entries firsts) (take entries lasts) p.entries.in_turn

    pub picks_few : length (take entries firsts) ≤ 64
    picks_few = rw entries_are picks_pass.few

    pub picks_written : (r : Result Picks Verdict) (out' names' : List ℕ)
        → PicksHanded (text_rows_verdict (picked_sheet name starts (take entries firsts) (take entries lasts) head turn) (names_text list starts (take entries firsts) (take entries lasts)) out names) (picked_sheet name starts (take entries firsts) (take entries lasts) head turn) (names_text list starts (take entries firsts) (take entries lasts)) out names r out' names'
        → PicksWritten name list starts ends head turn out names r out' names'
    picks_written r out' names' q =
        let fs = take entries firsts in
        let ls = take entries lasts in
        let u = picks_verdict name list (length fs) in
        let rows = text_rows_verdict (picked_sheet name starts fs ls head turn) (names_text list starts fs ls) out names in
        let t : refuses u ≡ false = passed u unit (said ∙ ap checked judged) in
        let h : first_of (u ∷ rows ∷ []) ≡ rows = first_passes u (rows ∷ []) t ∙ last_alone (ltb (length out) (length (picked_sheet name starts fs ls head turn)) || ltb (length names) (length (names_text list starts fs ls))) in
        record {
          firsts = fs;
          lasts = ls;
          entries = p.entries;
          handed = rw h q;
        }
      where
        last_alone : (b : Bool) → first_of (refuse_if b ShortRow ∷ []) ≡ refuse_if b ShortRow
        last_alone true = refl
        last_alone false = refl
