-- Two answers that fit are equal; each line asks for one file and no other; the files are such as a run takes; and the sheet of their entries is told and reads back.
use Prim.Native.Nat.{ℕ, zero, suc, ◌≤◌, ◌<◌}
use mathlib.Core.Path.{◌≡◌, refl, ap, sym, ◌∙◌, subst}
use mathlib.Core.Bool.{Bool, true, false, cond, not, ◌&&◌, ◌||◌, false≢true}
use mathlib.Core.List.{List, [], ◌∷◌, map}
use native.Mathlib.Omega.{arith}
use native.Mathlib.Decide.{dec_lt}
use lib.ListN.{length, get_or, take, drop}
use lib.Seq.{take-append_seam}
use lib.Dec.{eqb, ltb}
use borrow.Author.Tests.{ne_eqb, eq-eqb, eqb-true, ltb-false, not-false}
use Rattle.refusals.specs.declared.OwnRefusal.TheVariants.{UnknownPath, NoBytes, OtherVolume}
use Rattle.refusals.specs.declared.Refusal.TheVariants.{BadName, BadText, FarFile, WantRows}
use Rattle.refusals.specs.Refusals.{number_of, own_number_of}
use Rattle.runs.specs.Run.{last_place}
use Rattle.runs.proofs.Search.{first_zero, or_false_both}
use Rattle.text_bytes.specs.Text.{is_text, is_name, starts_with}
use Rattle.text_bytes.proofs.Bytes.{and_true_both}
use Rattle.text_bytes.proofs.Split.{whole_key}
use Rattle.text_lines.proofs.Filling.{length_each}
use Rattle.text_paths.specs.Paths.{line_count, path_after}
use Rattle.tape_markup.specs.Tree.{tree_of, is_balanced}
use Rattle.tape_spans.specs.declared.Span.{Span}
use Rattle.tape_files.specs.Index.{block_size_of, is_good_label, is_none, insides, index_name}
use Rattle.tape_files.specs.NamedFiles.{NamedFile, named_files}
use Rattle.tape_files.specs.Volumes.{other_volume}
use Rattle.tape_picks.specs.Picks.{files_named, extent_in, file_span, is_readable}
use Rattle.sheet_picks.specs.Entries.{most_entries}
use Rattle.sheet_picks.specs.Sheets.{picked_run, picked_sheet}
use Rattle.sheet_picks.specs.Names.{names_text}
use Rattle.sheet_picks.specs.Promises.{Wanted, ReadAgain}
use Rattle.sheet_picks.proofs.Fitting.{picked_runs_fit, sheets_read_back}
use Rattle.sheet_picks.proofs.InTurn.{entries_are_one}
use Rattle.sheet_picks.proofs.Lines.{begins_itself}
use Rattle.sheet_picks.proofs.Stands.{each_at, lines_few}
use Rattle.answer_pick.specs.declared.Refused.{Refused}
use Rattle.answer_pick.specs.declared.Picked.{Picked}
use Rattle.answer_pick.specs.Picks.{is_label, are_readable, tape_of, asked_files, asked_span, is_unknown, is_without, is_too_far, refused_if, refused_at, first_refused, first_line, list_refused, input_checks, line_checks, pick_refused}
use Rattle.answer_pick.specs.Answer.{asked_starts, asked_ends, entries_refused, rows_refused, answer_of, PickHanded, PickAnswered}
use Rattle.answer_pick.specs.Private.{refused_answer}
use Rattle.answer_pick.specs.Promises.{PickIsOne, no_file, OnlyFile, FileOfLine, LinesHaveFiles, PickedAreWanted, PickTold, PickTells, PickReadsBack}
use Rattle.answer_pick.proofs.Judging.{list_accepts}
use Rattle.answer_pick.proofs.Spans.{span_long}

-- Checks that accept together accept one by one.
pub first_parts : (v : Refused) (vs : List Refused) → (first_refused (v ∷ vs)).number ≡ 0 → (v.number ≡ 0) × ((first_refused vs).number ≡ 0)
first_parts v vs e =
    elim (dec_lt 0 v.number) [
      | yes h ↦ absurd (omega (arith, rw (ne_eqb v.number 0 (λ z. omega arith)) at e))
      | no h ↦ let z : v.number ≡ 0 = omega arith in (z, rw z at e)
    ]

at_none : (place number : ℕ) → 0 < number → (refused_at place number).number ≡ 0 → place ≡ 0
at_none zero number l e = refl
at_none (suc place) number l e = absurd (omega arith)

pub if_not : (b : Bool) (number : ℕ) → 0 < number → (refused_if b number).number ≡ 0 → b ≡ false
if_not true number l e = absurd (omega arith)
if_not false number l e = refl

-- Two answers.
module _ (unit : ℕ) (name label index list head turn out names : List ℕ) where
  abbrev Answered : Picked → List ℕ → List ℕ → Type 0
  Answered r out' names' = PickAnswered unit name label index list head turn out names r out' names'

  early : (r : Picked) (out' names' : List ℕ) → Answered r out' names' → ((pick_refused unit name label index list).number ≡ 0 → ⊥)
      → (r ≡ refused_answer (pick_refused unit name label index list)) × (out' ≡ out) × (names' ≡ names)
  early r out' names' p n =
      let f = ne_eqb (pick_refused unit name label index list).number 0 n in
      (p.handed.answer ∙ rw (f, f), p.handed.sheet_left ∙ rw (f, f), p.handed.names_left ∙ rw (f, f))

  abbrev HandedAt : List ℕ → List ℕ → Picked → List ℕ → List ℕ → Type 0
  HandedAt firsts lasts r out' names' =
      PickHanded
      (first_refused
      (pick_refused unit name label index list
      ∷ entries_refused firsts
      ∷ rows_refused (picked_sheet name (asked_starts unit label index list) firsts lasts head turn) (names_text list (asked_starts unit label index list) firsts lasts) out names
      ∷ []))
      (picked_sheet name (asked_starts unit label index list) firsts lasts head turn)
      (names_text list (asked_starts unit label index list) firsts lasts)
      out
      names
      r
      out'
      names'

  moved : (f g : List ℕ) → f ≡ g → (l m : List ℕ) → l ≡ m → (r : Picked) (out' names' : List ℕ) → HandedAt f l r out' names' → HandedAt g m r out' names'
  moved f g a l m b r out' names' h = rw (← a, ← b) h

  both_early : (r s : Picked) (out' names' out'' names'' : List ℕ) → Answered r out' names' → Answered s out'' names'' → ((pick_refused unit name label index list).number ≡ 0 → ⊥)
      → (r ≡ s) × (out' ≡ out'') × (names' ≡ names'')
  both_early r s out' names' out'' names'' p q n =
      let a = early r out' names' p n in
      let b = early s out'' names'' q n in
      (a.0 ∙ sym b.0, a.1 ∙ sym b.1, a.2 ∙ sym b.2)

  both_late : (r s : Picked) (out' names' out'' names'' : List ℕ) → Answered r out' names' → Answered s out'' names'' → (pick_refused unit name label index list).number ≡ 0
      → (r ≡ s) × (out' ≡ out'') × (names' ≡ names'')
  both_late r s out' names' out'' names'' p q z =
      let e = entries_are_one (asked_starts unit label index list) (asked_ends unit label index list) p.firsts p.lasts q.firsts q.lasts (p.entries z) (q.entries z) in
      let h = moved q.firsts p.firsts (sym e.0) q.lasts p.lasts (sym e.1) s out'' names'' q.handed in
      (p.handed.answer ∙ sym h.answer, p.handed.sheet_left ∙ sym h.sheet_left, p.handed.names_left ∙ sym h.names_left)

pub pick_is_one : PickIsOne
pick_is_one unit name label index list head turn out names r s out' names' out'' names'' p q =
    elim (dec_lt 0 (pick_refused unit name label index list).number) [
      | yes h ↦ both_early unit name label index list head turn out names r s out' names' out'' names'' p q (λ z. omega arith)
      | no h ↦ both_late unit name label index list head turn out names r s out' names' out'' names'' p q (omega arith)
    ]

-- Texts that are the same.
is_text_lem : (path q : List ℕ) → is_text path q ≡ true → q ≡ path
is_text_lem path q e =
    let b = and_true_both (eqb (length path) (length q)) (starts_with path q) e in
    whole_key path q (eqb-true (length path) (length q) b.0) b.1

text_is : (path q : List ℕ) → q ≡ path → is_text path q ≡ true
text_is path q e = rw (e, eq-eqb (length path) (length path) refl, begins_itself path)

-- The files of a path: none, or one.
none_named : (path : List ℕ) (files : List NamedFile) → length (files_named path files) ≡ 0 → (k : ℕ) → k < length files → (get_or files k no_file).path ≡ path → ⊥
unfolding files_named
none_named path [] e k l h = omega arith
none_named path (f ∷ files) e k l h = go (is_text path f.path) refl e k l h (none_named path files)
  where
    go : (t : Bool) → is_text path f.path ≡ t → length (cond t (f ∷ files_named path files) (files_named path files)) ≡ 0 → (k : ℕ) → k < suc (length files)
        → (get_or (f ∷ files) k no_file).path ≡ path → (length (files_named path files) ≡ 0 → (k : ℕ) → k < length files → (get_or files k no_file).path ≡ path → ⊥) → ⊥
    go true t e k l h rest = omega arith
    go false t e zero l h rest = false≢true (sym t ∙ text_is path f.path h)
    go false t e (suc k) l h rest = rest e k (omega arith) h

pub record OneNamed (path : List ℕ) (files : List NamedFile) : Type 0 where
  pub file : NamedFile
  pub only : OnlyFile files path file
  pub listed : files_named path files ≡ file ∷ []

pub one_named : (path : List ℕ) (files : List NamedFile) → length (files_named path files) ≡ 1 → OneNamed path files
unfolding files_named
one_named path [] e = absurd (omega arith)
one_named path (f ∷ files) e = go (is_text path f.path) refl e (one_named path files)
  where
    nothing : (xs : List NamedFile) → length xs ≡ 0 → xs ≡ []
    nothing [] z = refl
    nothing (x ∷ xs) z = absurd (omega arith)

    first : is_text path f.path ≡ true → length (files_named path files) ≡ 0 → (k : ℕ) → k < suc (length files) → (get_or (f ∷ files) k no_file).path ≡ path → k ≡ 0
    first t z zero l h = refl
    first t z (suc k) l h = absurd (none_named path files z k (omega arith) h)

    other : (x : NamedFile) (p : OnlyFile files path x) → is_text path f.path ≡ false → (k : ℕ) → k < suc (length files) → (get_or (f ∷ files) k no_file).path ≡ path → k ≡ suc p.which
    other x p t zero l h = absurd (false≢true (sym t ∙ text_is path f.path h))
    other x p t (suc k) l h = ap suc (p.alone k (omega arith) h)

    go : (t : Bool) → is_text path f.path ≡ t → length (cond t (f ∷ files_named path files) (files_named path files)) ≡ 1 → (length (files_named path files) ≡ 1 → OneNamed path files)
        → OneNamed path (f ∷ files)
    go true t e rest =
        let z : length (files_named path files) ≡ 0 = omega arith in
        record {
          file = f;
          only = record { which = 0; listed = omega arith; is = refl; named = is_text_lem path f.path t; alone = first t z };
          listed = rw t (ap (λ x. f ∷ x) (nothing (files_named path files) z));
        }
    go false t e rest =
        let r = rest e in
        record {
          file = r.file;
          only =
              record {
                which = suc r.only.which;
                listed = omega (arith, r.only.listed);
                is = r.only.is;
                named = r.only.named;
                alone = other r.file r.only t;
              };
          listed = rw t r.listed;
        }

named_none : (path : List ℕ) (files : List NamedFile) → ((k : ℕ) → k < length files → (get_or files k no_file).path ≡ path → ⊥) → length (files_named path files) ≡ 0
unfolding files_named
named_none path [] none = refl
named_none path (f ∷ files) none = go (is_text path f.path) refl (named_none path files (λ k l h. none (suc k) (omega arith) h))
  where
    go : (t : Bool) → is_text path f.path ≡ t → length (files_named path files) ≡ 0 → length (cond t (f ∷ files_named path files) (files_named path files)) ≡ 0
    go true t e = absurd (none 0 (omega arith) (is_text_lem path f.path t))
    go false t e = e

-- A path with an only file has one.
pub only_one : (path : List ℕ) (files : List NamedFile) (f : NamedFile) → OnlyFile files path f → length (files_named path files) ≡ 1
unfolding files_named
only_one path [] f p = absurd (omega (arith, p.listed))
only_one path (g ∷ files) f p = go (is_text path g.path) refl (only_one path files)
  where
    rest_none : p.which ≡ 0 → (k : ℕ) → k < length files → (get_or files k no_file).path ≡ path → ⊥
    rest_none z k l h = let s = p.alone (suc k) (omega arith) h in omega arith

    shift : is_text path g.path ≡ false → (w : ℕ) → p.which ≡ w → OnlyFile files path f
    shift t zero e = let s : g ≡ f = rw e at p.is in absurd (false≢true (sym t ∙ text_is path g.path (ap (λ (x : NamedFile). x.path) s ∙ p.named)))
    shift t (suc k) e =
        record { which = k; listed = omega (arith, p.listed); is = rw e at p.is; named = p.named; alone = λ j l h. let s = p.alone (suc j) (omega arith) h in omega arith }

    go : (t : Bool) → is_text path g.path ≡ t → ((f : NamedFile) → OnlyFile files path f → length (files_named path files) ≡ 1)
        → length (cond t (g ∷ files_named path files) (files_named path files)) ≡ 1
    go true t rest = let z : p.which ≡ 0 = sym (p.alone 0 (omega arith) (is_text_lem path g.path t)) in ap suc (named_none path files (rest_none z))
    go false t rest = rest f (shift t p.which refl)

-- What checks that accept say.
module _ (unit : ℕ) (name label index list : List ℕ) (z : (pick_refused unit name label index list).number ≡ 0) where
  input_lines : ((input_checks unit name label index list).number ≡ 0) × ((line_checks (tape_of unit label) index list).number ≡ 0)
  unfolding pick_refused
  input_lines =
      let a = first_parts (input_checks unit name label index list) (line_checks (tape_of unit label) index list ∷ []) z in
      (a.0, (first_parts (line_checks (tape_of unit label) index list) [] a.1).0)

  named : is_name name ≡ true
  unfolding input_checks
  named =
      let others = refused_if (not (are_readable unit label index)) (number_of BadText) ∷ refused_if (other_volume (tree_of label) (tree_of index)) (own_number_of OtherVolume) ∷ list_refused list ∷ [] in
      let a = first_parts (refused_if (not (is_name name)) (number_of BadName)) others input_lines.0 in
      not-false (is_name name) (if_not (not (is_name name)) (number_of BadName) (omega arith) a.0)

  texts_good : (are_readable unit label index ≡ true) × ((list_refused list).number ≡ 0)
  unfolding input_checks
  texts_good =
      let list-last = list_refused list ∷ [] in
      let volumes = refused_if (other_volume (tree_of label) (tree_of index)) (own_number_of OtherVolume) in
      let texts = refused_if (not (are_readable unit label index)) (number_of BadText) in
      let a = first_parts (refused_if (not (is_name name)) (number_of BadName)) (texts ∷ volumes ∷ list-last) input_lines.0 in
      let b = first_parts texts (volumes ∷ list-last) a.1 in
      let d = first_parts volumes list-last b.1 in
      (not-false (are_readable unit label index) (if_not (not (are_readable unit label index)) (number_of BadText) (omega arith) b.0), (first_parts (list_refused list) [] d.1).0)

  lines_good_here : (first_line (is_unknown index list) list ≡ 0) × (first_line (is_without (tape_of unit label) index list) list ≡ 0) × (first_line (is_too_far (tape_of unit label) index list) list ≡ 0)
  unfolding line_checks
  lines_good_here =
      let unknown = refused_at (first_line (is_unknown index list) list) (own_number_of UnknownPath) in
      let without = refused_at (first_line (is_without (tape_of unit label) index list) list) (own_number_of NoBytes) in
      let far = refused_at (first_line (is_too_far (tape_of unit label) index list) list) (number_of FarFile) in
      let a = first_parts unknown (without ∷ far ∷ []) input_lines.1 in
      let b = first_parts without (far ∷ []) a.1 in
      let d = first_parts far [] b.1 in (
        at_none (first_line (is_unknown index list) list) (own_number_of UnknownPath) (omega arith) a.0,
        at_none (first_line (is_without (tape_of unit label) index list) list) (own_number_of NoBytes) (omega arith) b.0,
        at_none (first_line (is_too_far (tape_of unit label) index list) list) (number_of FarFile) (omega arith) d.0,
      )

  counted : eqb unit 0 ≡ false → 0 < block_size_of (tree_of label)
  unfolding are_readable is_label
  counted e =
      let a = and_true_both (is_balanced label && is_good_label (tree_of label) && (eqb unit 0 || not (eqb (block_size_of (tree_of label)) 0)) && not (is_none (insides index_name (tree_of index)))) (is_readable index) texts_good.0 in
      let b = and_true_both (is_balanced label && is_good_label (tree_of label) && (eqb unit 0 || not (eqb (block_size_of (tree_of label)) 0))) (not (is_none (insides index_name (tree_of index)))) a.0 in
      let d = and_true_both (is_balanced label && is_good_label (tree_of label)) (eqb unit 0 || not (eqb (block_size_of (tree_of label)) 0)) b.0 in
      size_some (block_size_of (tree_of label)) (rw e at d.1)
    where
      size_some : (n : ℕ) → not (eqb n 0) ≡ true → 0 < n
      size_some zero h = absurd (false≢true h)
      size_some (suc n) h = omega arith

  module _ (i : ℕ) (l : i < line_count list) where
    one_file : length (asked_files index list i) ≡ 1
    one_file = eqb-true (length (asked_files index list i)) 1 (not-false (eqb (length (asked_files index list i)) 1) (first_zero (is_unknown index list) (line_count list) lines_good_here.0 i l))

    file_of_line : FileOfLine unit label index list i
    unfolding asked_span asked_files
    file_of_line =
        let o = one_named (path_after i list) (named_files (tree_of index)) one_file in
        record { file = o.file; only = o.only; range = rw o.listed }

    has_bytes : (asked_span (tape_of unit label) index list i).some ≡ true
    has_bytes =
        let w = first_zero (is_without (tape_of unit label) index list) (line_count list) lines_good_here.1 i l in
        not-false (asked_span (tape_of unit label) index list i).some (or_false_both (not (asked_span (tape_of unit label) index list i).some) (asked_span (tape_of unit label) index list i).elsewhere w).0

    ends_near_here : (asked_span (tape_of unit label) index list i).end ≤ last_place
    ends_near_here = ltb-false last_place (asked_span (tape_of unit label) index list i).end (first_zero (is_too_far (tape_of unit label) index list) (line_count list) lines_good_here.2 i l)

    starts_before : (asked_span (tape_of unit label) index list i).start < (asked_span (tape_of unit label) index list i).end
    starts_before =
        let f = file_of_line in
        let some : (file_span (tape_of unit label) f.file).some ≡ true = ap (λ (s : Span). s.some) (sym f.range) ∙ has_bytes in
        let near : (file_span (tape_of unit label) f.file).end ≤ last_place = rw f.range at ends_near_here in
        rw f.range (span_long unit (block_size_of (tree_of label)) (tape_of unit label).partition counted (map extent_in f.file.extents) some near)

-- An answer that refuses nothing.
pub accepts_all : (v : Refused) (sheet named : List ℕ) → (answer_of v sheet named).number ≡ 0 → v.number ≡ 0
accepts_all v sheet named e =
    elim (dec_lt 0 v.number) [ yes h ↦ absurd (omega (arith, rw (ne_eqb v.number 0 (λ z. omega arith)) at e)) | no h ↦ omega arith ]

-- What is told of two texts.
told_by_lem : (v : Refused) (sheet named out names : List ℕ) (r : Picked) (out' names' : List ℕ) → PickHanded v sheet named out names r out' names' → PickTold sheet named out names r out' names'
told_by_lem v sheet named out names r out' names' h =
    record {
      refused = λ n.
          let f = ne_eqb v.number 0 (λ z. n (ap (λ (x : Picked). x.number) h.answer ∙ rw z)) in
          ((ap (λ (x : Picked). x.bytes) h.answer ∙ rw f, ap (λ (x : Picked). x.named) h.answer ∙ rw f), (h.sheet_left ∙ rw f, h.names_left ∙ rw f));
      counted = λ e. (ap (λ (x : Picked). x.bytes) h.answer ∙ rw (passes e), ap (λ (x : Picked). x.named) h.answer ∙ rw (passes e));
      written = λ e. (h.sheet_left ∙ rw (passes e), h.names_left ∙ rw (passes e));
    }
  where
    passes : r.number ≡ 0 → eqb v.number 0 ≡ true
    passes e = eq-eqb v.number 0 (accepts_all v sheet named (ap (λ (x : Picked). x.number) (sym h.answer) ∙ e))

module _ (unit : ℕ) (name label index list head turn out names : List ℕ) (r : Picked) (out' names' : List ℕ) (p : PickAnswered unit name label index list head turn out names r out' names') where
  abbrev starts : List ℕ
  starts = asked_starts unit label index list

  abbrev ends : List ℕ
  ends = asked_ends unit label index list

  abbrev sheet : List ℕ
  sheet = picked_sheet name starts p.firsts p.lasts head turn

  abbrev text : List ℕ
  text = names_text list starts p.firsts p.lasts

  told : PickTold sheet text out names r out' names'
  told =
      told_by_lem (first_refused (pick_refused unit name label index list ∷ entries_refused p.firsts ∷ rows_refused sheet text out names ∷ [])) sheet text out names r out' names' p.handed

  module _ (e : r.number ≡ 0) where
    -- Nothing is refused up to 23, and there are no more entries than a run takes.
    passed : ((pick_refused unit name label index list).number ≡ 0) × ((entries_refused p.firsts).number ≡ 0)
    passed =
        let rows = rows_refused sheet text out names in
        let v = first_refused (pick_refused unit name label index list ∷ entries_refused p.firsts ∷ rows ∷ []) in
        let a : v.number ≡ 0 = accepts_all v sheet text (ap (λ (x : Picked). x.number) (sym p.handed.answer) ∙ e) in
        let b = first_parts (pick_refused unit name label index list) (entries_refused p.firsts ∷ rows ∷ []) a in
        (b.0, (first_parts (entries_refused p.firsts) (rows ∷ []) b.1).0)

    wanted : Wanted starts ends p.firsts p.lasts
    wanted =
        let z = passed.0 in
        let start_at_lem : (i : ℕ) → i < line_count list → get_or starts i 0 ≡ (asked_span (tape_of unit label) index list i).start = λ i l. each_at (λ k. (asked_span (tape_of unit label) index list k).start) (line_count list) i l in
        let end_at_lem : (i : ℕ) → i < line_count list → get_or ends i 0 ≡ (asked_span (tape_of unit label) index list i).end = λ i l. each_at (λ k. (asked_span (tape_of unit label) index list k).end) (line_count list) i l in
        let many : length starts ≡ line_count list = length_each (λ k. (asked_span (tape_of unit label) index list k).start) (line_count list) in
        let ended : length ends ≡ line_count list = length_each (λ k. (asked_span (tape_of unit label) index list k).end) (line_count list) in
        record {
          even = many ∙ sym ended;
          long = λ i l. let k : i < line_count list = omega arith in rw (start_at_lem i k, end_at_lem i k) (starts_before unit name label index list z i k);
          near = λ i l. let k : i < line_count list = omega arith in rw (end_at_lem i k) (ends_near_here unit name label index list z i k);
          lines = rw many (lines_few list (list_accepts list (texts_good unit name label index list z).1));
          entries = p.entries z;
          few = ltb-false most_entries (length p.firsts) (if_not (ltb most_entries (length p.firsts)) (number_of WantRows) (omega arith) passed.1);
        }

    sheet_told : take r.bytes out' ≡ sheet
    sheet_told = rw ((told.counted e).0, (told.written e).0) (take-append_seam sheet (drop (length sheet) out))

pub lines_have_files : LinesHaveFiles
lines_have_files unit name label index list head turn out names r out' names' p e i l =
    file_of_line unit name label index list (passed unit name label index list head turn out names r out' names' p e).0 i l

pub picked_are_wanted : PickedAreWanted
picked_are_wanted unit name label index list head turn out names r out' names' p e = wanted unit name label index list head turn out names r out' names' p e

pub pick_tells : PickTells
pick_tells unit name label index list head turn out names r out' names' p = told unit name label index list head turn out names r out' names' p

pub pick_reads_back : PickReadsBack
pick_reads_back unit name label index list head turn out names r out' names' p e h t =
    let starts = asked_starts unit label index list in
    let ends = asked_ends unit label index list in
    let w = picked_are_wanted unit name label index list head turn out names r out' names' p e in
    let z = (passed unit name label index list head turn out names r out' names' p e).0 in
    let back = sheets_read_back name starts ends p.firsts p.lasts head turn (named unit name label index list z) w h t in (
      subst (λ x. ReadAgain name x (picked_run starts p.firsts p.lasts head turn)) (sym (sheet_told unit name label index list head turn out names r out' names' p e)) back,
      picked_runs_fit starts ends p.firsts p.lasts head turn w,
    )
