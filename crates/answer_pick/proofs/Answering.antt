-- The whole answer from its parts: an early refusal, or what the sheet's writer answered.
use Prim.Native.Nat.{ℕ, ◌≤◌}
use mathlib.Core.Path.{◌≡◌, refl, ap, sym, ◌∙◌, subst}
use mathlib.Core.Bool.{Bool, true, false, not, ◌||◌}
use mathlib.Core.List.{List, [], ◌∷◌}
use native.Mathlib.Omega.{arith}
use native.Mathlib.Decide.{dec_lt}
use lib.ListN.{length, take}
use lib.Dec.{ltb}
use borrow.Author.Tests.{ne_eqb, not-true, not-false}
use Rattle.std.specs.Prelude.{Result, Ok}
use Rattle.refusals.specs.declared.OwnRefusal.TheVariants.{OtherVolume}
use Rattle.refusals.specs.declared.Verdict.{Verdict}
use Rattle.refusals.specs.declared.Refusal.TheVariants.{BadName, BadText, WantRows, ShortRow}
use Rattle.refusals.specs.Refusals.{number_of, own_number_of, refuse_if, first_of}
use Rattle.refusals.proofs.Verdicts.{refuses}
use Rattle.text_bytes.specs.Text.{is_name}
use Rattle.text_paths.specs.Paths.{line_count, paths_verdict}
use Rattle.tape_markup.specs.Tree.{tree_of}
use Rattle.tape_files.specs.Volumes.{other_volume}
use Rattle.tape_picks.specs.Picks.{FilesFound}
use Rattle.sheet_writer.specs.Writing.{written_row}
use Rattle.sheet_picks.specs.declared.Picks.{Picks}
use Rattle.sheet_picks.specs.Entries.{most_entries}
use Rattle.sheet_picks.specs.Sheets.{picked_sheet}
use Rattle.sheet_picks.specs.Names.{names_text}
use Rattle.sheet_picks.specs.Writing.{picks_verdict, text_rows_verdict, PicksHanded, PicksWritten}
use Rattle.sheet_picks.proofs.Stands.{lines_few}
use Rattle.answer_pick.specs.declared.Refused.{Refused}
use Rattle.answer_pick.specs.declared.Picked.{Picked}
use Rattle.answer_pick.specs.Picks.{are_readable, tape_of, refused_if, first_refused, list_refused, input_checks, line_checks, pick_refused}
use Rattle.answer_pick.specs.Answer.{asked_starts, asked_ends, entries_refused, rows_refused, PickHanded, PickAnswered}
use Rattle.answer_pick.specs.Private.{row_checks, other_if, refused_answer, picked_of, LinesPicked, IndexRead}
use Rattle.answer_pick.proofs.Judging.{first_some_lem, first_next, list_accepts}
use Rattle.answer_pick.proofs.Asked.{checks_same, checks_known, starts_same, ends_same, states_are, starts_are, ends_are}

-- The lines judged: refused, or written.
module _ (name list states starts ends head turn out names : List ℕ) (count : ℕ) (counted : count ≡ line_count list) (lines : Refused) (is : lines ≡ row_checks (take count states) (take count ends)) where
  abbrev LinesAt : ℕ → Picked → List ℕ → List ℕ → Type 0
  LinesAt n r out' names' = LinesPicked name list (take n states) (take n starts) (take n ends) head turn out names r out' names'

  pub lines_refused : (lines.number ≡ 0 → ⊥) → (r : Picked) → r ≡ refused_answer lines → LinesAt (line_count list) r out names
  lines_refused n r e =
      subst (λ k. LinesAt k r out names) counted
      (record {
        picks = Ok (record { bytes = 0; named = 0 });
        refused = λ _. (e ∙ ap refused_answer is, refl, refl);
        written = λ z. absurd (n (ap (λ (v : Refused). v.number) is ∙ z));
      })

  pub lines_written : lines.number ≡ 0 → (picks : Result Picks Verdict) (out' names' : List ℕ) → PicksWritten name list (take count starts) (take count ends) head turn out names picks out' names' → (r : Picked)
      → r ≡ picked_of picks → LinesAt (line_count list) r out' names'
  lines_written z picks out' names' w r e =
      subst (λ k. LinesAt k r out' names') counted
      (record {
        picks = picks;
        refused = λ n. absurd (n (ap (λ (v : Refused). v.number) (sym is) ∙ z));
        written = λ _. (w, e);
      })

-- What the sheet's writer answered, in the words of the whole.
module _ (sheet named out names : List ℕ) (w : Result Picks Verdict) (out' names' : List ℕ) where
  both : (a b : Bool) → PicksHanded (first_of (refuse_if a WantRows ∷ refuse_if b ShortRow ∷ [])) sheet named out names w out' names'
      → PickHanded (first_refused (refused_if a (number_of WantRows) ∷ refused_if b (number_of ShortRow) ∷ [])) sheet named out names (picked_of w) out' names'
  unfolding written_row
  both true b p = record { answer = ap picked_of p.answer; sheet_left = p.sheet_left; names_left = p.names_left }
  both false true p = record { answer = ap picked_of p.answer; sheet_left = p.sheet_left; names_left = p.names_left }
  both false false p = record { answer = ap picked_of p.answer; sheet_left = p.sheet_left; names_left = p.names_left }

-- The verdict of the sheet's writer where name and list are good.
verdict_is : (name list : List ℕ) (n : ℕ) → is_name name ≡ true → refuses (paths_verdict list) ≡ false → picks_verdict name list n ≡ first_of (refuse_if (ltb most_entries n) WantRows ∷ [])
unfolding picks_verdict
verdict_is name list n e f = rw (e, f)

two_checks : (a b : Bool) → first_of (first_of (refuse_if a WantRows ∷ []) ∷ refuse_if b ShortRow ∷ []) ≡ first_of (refuse_if a WantRows ∷ refuse_if b ShortRow ∷ [])
two_checks true b = refl
two_checks false b = refl

module _ (unit : ℕ) (name label index list head turn out names : List ℕ) where
  abbrev Answered : Picked → List ℕ → List ℕ → Type 0
  Answered r out' names' = PickAnswered unit name label index list head turn out names r out' names'

  -- An early refusal.
  pub refused_early : (v : Refused) → v ≡ pick_refused unit name label index list → (v.number ≡ 0 → ⊥) → (r : Picked) → r ≡ refused_answer v → Answered r out names
  refused_early v e n r is =
      let bad : (pick_refused unit name label index list).number ≡ 0 → ⊥ = λ z. n (ap (λ (x : Refused). x.number) e ∙ z) in
      let f = ne_eqb (pick_refused unit name label index list).number 0 bad in
      record {
        firsts = [];
        lasts = [];
        entries = λ z. absurd (bad z);
        handed = record { answer = is ∙ ap refused_answer e ∙ sym (rw (f, f)); sheet_left = sym (rw (f, f)); names_left = sym (rw (f, f)) };
      }

  -- 13.
  name_refuses : is_name name ≡ false → refused_if true (number_of BadName) ≡ pick_refused unit name label index list
  unfolding pick_refused input_checks
  name_refuses e = rw e

  pub name_refused : (t : Bool) → t ≡ is_name name → not t ≡ true → (v : Refused) → v ≡ refused_if true (number_of BadName) → (r : Picked) → r ≡ refused_answer v → Answered r out names
  name_refused t told b v v-is r is =
      refused_early v (v-is ∙ name_refuses (sym told ∙ not-true t b)) (λ z. let s : 13 ≡ 0 = ap (λ (x : Refused). x.number) (sym v-is) ∙ z in omega arith) r is

  module _ (t : Bool) (told : t ≡ is_name name) (b : not t ≡ false) (good : Bool) (states₀ starts₀ ends₀ states starts ends : List ℕ)
      (x : length states₀ ≡ 1024) (y : length starts₀ ≡ 1024) (w : length ends₀ ≡ 1024)
      (read : IndexRead unit label index list states₀ starts₀ ends₀ good states starts ends) (other : Bool) (o : other ≡ other_if good label index) (input : Refused)
      (i : input ≡ first_refused (refused_if (not good) (number_of BadText) ∷ refused_if other (own_number_of OtherVolume) ∷ list_refused list ∷ [])) where
    named : is_name name ≡ true
    named = sym told ∙ not-false t b

    input_is : input ≡ input_checks unit name label index list
    unfolding input_checks
    input_is = go (are_readable unit label index) refl
      where
        go : (g : Bool) → are_readable unit label index ≡ g → input
            ≡ first_refused
            (refused_if (not (is_name name)) (number_of BadName)
            ∷ refused_if (not (are_readable unit label index)) (number_of BadText)
            ∷ refused_if (other_volume (tree_of label) (tree_of index)) (own_number_of OtherVolume)
            ∷ list_refused list
            ∷ [])
        go true g = i ∙ rw (o, read.judged, g, named)
        go false g = i ∙ rw (o, read.judged, g, named)

    pick_refused_is : first_refused (input ∷ line_checks (tape_of unit label) index list ∷ []) ≡ pick_refused unit name label index list
    unfolding pick_refused
    pick_refused_is = rw input_is

    pub input_refused : (input.number ≡ 0 → ⊥) → (r : Picked) → r ≡ refused_answer input → Answered r out names
    input_refused n r is = refused_early input (first_some_lem input (line_checks (tape_of unit label) index list ∷ []) n ∙ pick_refused_is) n r is

    module _ (z : input.number ≡ 0) where
      abbrev Parts : Bool → Bool → Type 0
      Parts g h = (g ≡ true) × (h ≡ false) × ((list_refused list).number ≡ 0)

      parts : Parts good other
      parts = go good other (ap (λ (v : Refused). v.number) (sym i) ∙ z)
        where
          go : (g h : Bool) → (first_refused (refused_if (not g) (number_of BadText) ∷ refused_if h (own_number_of OtherVolume) ∷ list_refused list ∷ [])).number ≡ 0 → Parts g h
          go false h e = absurd (omega (arith, e))
          go true true e = absurd (omega (arith, e))
          go true false e = (refl, refl, last (list_refused list) e)
            where
              last : (v : Refused) → (first_refused (v ∷ [])).number ≡ 0 → v.number ≡ 0
              last v e = elim (dec_lt 0 v.number) [ yes h ↦ rw (ne_eqb v.number 0 (λ s. omega arith)) at e | no h ↦ omega arith ]

      list_good_here : refuses (paths_verdict list) ≡ false
      list_good_here = list_accepts list parts.2

      found : FilesFound (tape_of unit label) index list states₀ starts₀ ends₀ true states starts ends
      found = read.found parts.0

      pub lines_fit : line_count list ≤ 1024
      lines_fit = lines_few list list_good_here

      n : ℕ
      n = line_count list

      checks_are : row_checks (take (line_count list) states) (take (line_count list) ends) ≡ line_checks (tape_of unit label) index list
      checks_are =
          rw (states_are (tape_of unit label) index list states₀ starts₀ ends₀ x y w list_good_here states starts ends found, ends_are (tape_of unit label) index list states₀ starts₀ ends₀ x y w list_good_here states starts ends found)
          (checks_same (tape_of unit label) index list)

      pick_is : first_refused (line_checks (tape_of unit label) index list ∷ []) ≡ pick_refused unit name label index list
      pick_is = sym (first_next input (line_checks (tape_of unit label) index list ∷ []) z) ∙ pick_refused_is

      module _ (r : Picked) (out' names' : List ℕ)
          (p : LinesPicked name list (take (line_count list) states) (take (line_count list) starts) (take (line_count list) ends) head turn out names r out' names') where
        refused_lines : ((line_checks (tape_of unit label) index list).number ≡ 0 → ⊥) → Answered r out' names'
        refused_lines bad =
            let q = p.refused (λ s. bad (ap (λ (v : Refused). v.number) (sym checks_are) ∙ s)) in
            let a = refused_early (line_checks (tape_of unit label) index list) (first_some_lem (line_checks (tape_of unit label) index list) [] bad ∙ pick_is) bad r (q.0 ∙ ap refused_answer checks_are) in
            rw (q.1, q.2) a

        module _ (ok : (line_checks (tape_of unit label) index list).number ≡ 0) where
          accepts : (pick_refused unit name label index list).number ≡ 0
          accepts = ap (λ (v : Refused). v.number) (sym pick_is) ∙ rw ok

          starts_asked : take (line_count list) starts ≡ asked_starts unit label index list
          starts_asked =
              starts_are (tape_of unit label) index list states₀ starts₀ ends₀ x y w list_good_here states starts ends found
              ∙ starts_same (tape_of unit label) index list (checks_known (tape_of unit label) index list ok)

          ends_asked : take (line_count list) ends ≡ asked_ends unit label index list
          ends_asked =
              ends_are (tape_of unit label) index list states₀ starts₀ ends₀ x y w list_good_here states starts ends found
              ∙ ends_same (tape_of unit label) index list (checks_known (tape_of unit label) index list ok)

          written : PicksWritten name list (asked_starts unit label index list) (asked_ends unit label index list) head turn out names p.picks out' names'
          written = rw (← starts_asked, ← ends_asked) (p.written (ap (λ (v : Refused). v.number) checks_are ∙ ok)).0

          answer_is_here : r ≡ picked_of p.picks
          answer_is_here = (p.written (ap (λ (v : Refused). v.number) checks_are ∙ ok)).1

          written_lines : Answered r out' names'
          written_lines =
              let q = written in
              let sheet = picked_sheet name (asked_starts unit label index list) q.firsts q.lasts head turn in
              let text = names_text list (asked_starts unit label index list) q.firsts q.lasts in
              let a = ltb most_entries (length q.firsts) in
              let s = ltb (length out) (length sheet) || ltb (length names) (length text) in
              let e : first_of (picks_verdict name list (length q.firsts) ∷ text_rows_verdict sheet text out names ∷ []) ≡ first_of (refuse_if a WantRows ∷ refuse_if s ShortRow ∷ []) = rw (verdict_is name list (length q.firsts) named list_good_here) (two_checks a s) in
              let h = both sheet text out names p.picks out' names' a s (rw e at q.handed) in
              record {
                firsts = q.firsts;
                lasts = q.lasts;
                entries = λ _. q.entries;
                handed =
                    subst (λ x. PickHanded (first_refused (pick_refused unit name label index list ∷ entries_refused q.firsts ∷ rows_refused sheet text out names ∷ [])) sheet text out names x out' names')
                    (sym answer_is_here)
                    (subst (λ v. PickHanded v sheet text out names (picked_of p.picks) out' names')
                    (sym (first_next (pick_refused unit name label index list) (entries_refused q.firsts ∷ rows_refused sheet text out names ∷ []) accepts)) h);
              }

        pub lines_answered_lem : Answered r out' names'
        lines_answered_lem = elim (dec_lt 0 (line_checks (tape_of unit label) index list).number) [ yes h ↦ refused_lines (λ s. omega arith) | no h ↦ written_lines (omega arith) ]
