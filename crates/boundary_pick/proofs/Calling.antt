-- What the call finds and leaves, from what is answered below it.
use Prim.Native.Nat.{ℕ, zero, suc, ◌+◌, ◌*◌, ◌≤◌, ◌<◌}
use mathlib.Core.Path.{◌≡◌, refl, ap, sym, ◌∙◌}
use mathlib.Core.Bool.{Bool, true, false, cond, ◌||◌}
use mathlib.Core.List.{List, [], ◌∷◌, ◌++◌}
use native.Mathlib.Omega.{arith}
use native.Mathlib.Decide.{dec_lt}
use lib.ListN.{length, drop, set}
use lib.Dec.{eqb, ltb}
use borrow.Author.Tests.{lt-ltb, le-ltb, ne_eqb, ltb-false}
use Rattle.refusals.specs.declared.Refusal.TheVariants.{ShortRow}
use Rattle.refusals.specs.Refusals.{number_of}
use Rattle.runs.proofs.Search.{or_false_both}
use Rattle.sheet_writer.specs.Writing.{top_text, sheet_text}
use Rattle.sheet_picks.specs.Sheets.{picked_run, picked_sheet}
use Rattle.sheet_picks.specs.Names.{names_text}
use Rattle.answer_pick.specs.declared.Picked.{Picked}
use Rattle.answer_pick.specs.Picks.{refused_if, first_refused, pick_refused}
use Rattle.answer_pick.specs.Answer.{asked_starts, entries_refused, rows_refused, answer_of, PickAnswered}
use Rattle.answer_pick.specs.Applies.{FirstToApply, none, here, later}
use Rattle.answer_pick.proofs.First.{refuses_the_first}
use Rattle.answer_pick.proofs.Promised.{first_parts, if_not, accepts_all}
use Rattle.boundary_pick.specs.Calls.{pick_code, is_short, PickCalled}
use Rattle.boundary_pick.specs.Private.{ShortPicked}

-- No number of the order is above 44.
abbrev AllSmall : List ℕ → Type 0
AllSmall [] = Unit {0}
AllSmall (n ∷ ns) = (n ≤ 44) × AllSmall ns

small : {applies : ℕ → ℕ → Type 0} {number place : ℕ} {order : List ℕ} → FirstToApply applies order number place → AllSmall order → number ≤ 44
small none s = omega arith
small (here a) s = s.0
small (later n f) s = small f s.1

-- A sheet is never empty.
sheet_some : (name starts firsts lasts head turn : List ℕ) → 0 < length (picked_sheet name starts firsts lasts head turn)
unfolding picked_sheet sheet_text top_text
sheet_some name starts firsts lasts head turn = omega arith

module _ (unit : ℕ) (name label index list head turn : List ℕ) where
  pub number_small : (out names : List ℕ) (r : Picked) (out' names' : List ℕ) → PickAnswered unit name label index list head turn out names r out' names' → r.number ≤ 44
  number_small out names r out' names' p =
      small (refuses_the_first unit name label index list head turn out names r out' names' p)
      (omega arith, (omega arith, (omega arith, (omega arith, (omega arith, (omega arith, (omega arith, (omega arith, (omega arith, (omega arith, tt))))))))))

  -- An empty row takes no sheet.
  no_room : (names : List ℕ) (r : Picked) (out' names' : List ℕ) → PickAnswered unit name label index list head turn [] names r out' names' → r.number ≡ 0 → ⊥
  no_room names r out' names' p e =
      let starts = asked_starts unit label index list in
      let sheet = picked_sheet name starts p.firsts p.lasts head turn in
      let text = names_text list starts p.firsts p.lasts in
      let rows = rows_refused sheet text [] names in
      let v = first_refused (pick_refused unit name label index list ∷ entries_refused p.firsts ∷ rows ∷ []) in
      let a = accepts_all v sheet text (ap (λ (x : Picked). x.number) (sym p.handed.answer) ∙ e) in
      let b = first_parts (pick_refused unit name label index list) (entries_refused p.firsts ∷ rows ∷ []) a in
      let d = first_parts (entries_refused p.firsts) (rows ∷ []) b.1 in
      let f = first_parts rows [] d.1 in
      let s = if_not (ltb 0 (length sheet) || ltb (length names) (length text)) (number_of ShortRow) (omega arith) f.0 in
      let o = or_false_both (ltb 0 (length sheet)) (ltb (length names) (length text)) s in
      omega (arith, ltb-false 0 (length sheet) o.0, sheet_some name starts p.firsts p.lasts head turn)

  pub called_short : (r : Picked) (out' names' : List ℕ) → PickAnswered unit name label index list head turn [] [] r out' names' → (code : ℕ) → code ≡ pick_code r
      → ShortPicked unit name label index list head turn code
  called_short r out' names' p code c out names sizes l =
      let t = lt-ltb (length sizes) 2 l in
      let n = ne_eqb r.number 0 (no_room [] r out' names' p) in
      record {
        picked = r;
        sheet = out';
        named = names';
        answered = rw t p;
        says = c;
        out_is = rw t;
        names_are = rw t;
        sizes_are = rw n;
      }

  module _ (out names sizes : List ℕ) (long : 2 ≤ length sizes) (r : Picked) (out' names' : List ℕ) (p : PickAnswered unit name label index list head turn out names r out' names') (code : ℕ) (c : code ≡ pick_code r) where
    not_short : is_short sizes ≡ false
    not_short = le-ltb (length sizes) 2 long

    called_with : (sizes' : List ℕ) → sizes' ≡ cond (eqb r.number 0) (r.bytes ∷ r.named ∷ drop 2 sizes) sizes → PickCalled unit name label index list head turn out names sizes code out' names' sizes'
    called_with sizes' e =
        let t = not_short in
        record { picked = r; sheet = out'; named = names'; answered = rw t p; says = c; out_is = rw t; names_are = rw t; sizes_are = e }

    pub called_refused : (r.number ≡ 0 → ⊥) → PickCalled unit name label index list head turn out names sizes code out' names' sizes
    called_refused n = called_with sizes (rw (ne_eqb r.number 0 n))

    two_set_here : (row : List ℕ) (a b : ℕ) → 2 ≤ length row → set (set row 0 a) 1 b ≡ a ∷ b ∷ drop 2 row
    two_set_here [] a b l = absurd (omega arith)
    two_set_here (x ∷ []) a b l = absurd (omega arith)
    two_set_here (x ∷ y ∷ row) a b l = refl

    pub called_told : r.number ≡ 0 → PickCalled unit name label index list head turn out names sizes code out' names' (set (set sizes 0 r.bytes) 1 r.named)
    called_told z = called_with (set (set sizes 0 r.bytes) 1 r.named) (two_set_here sizes r.bytes r.named long ∙ rw z)
