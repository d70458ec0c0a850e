-- Entries are disjoint, every wanted file lies in one of them, and their reads are the lines.
use Prim.Native.Nat.{ℕ, zero, suc, ◌+◌, ◌-◌, ◌≤◌, ◌<◌}
use mathlib.Core.Path.{◌≡◌, refl, sym, ◌∙◌}
use mathlib.Core.Bool.{Bool, true, false, cond, ◌&&◌}
use mathlib.Core.List.{List, [], ◌∷◌}
use native.Mathlib.Omega.{arith}
use native.Mathlib.Decide.{dec_lt}
use lib.ListN.{length, get_or}
use lib.Dec.{leb, ltb}
use borrow.Author.Tests.{lt-ltb, le-ltb, le-leb, lt-leb}
use Rattle.runs.specs.Run.{last_place, total}
use Rattle.std.specs.Prelude.{None}
use Rattle.tape_entries.specs.Entries.{both_rows, EntryFrom, NextEntry, LiesAcross, reads_of_entry}
use Rattle.sheet_picks.specs.Entries.{last_or, EntriesFrom, entry_reads}
use Rattle.sheet_picks.specs.Promises.{LiesIn, EntriesAreApart, FilesLieInEntries, ReadsAddUp}
use Rattle.sheet_picks.proofs.InTurn.{never_none}

module _ (starts ends : List ℕ) where
  -- No entry begins before the place from which they are counted.
  entries_after : (from : ℕ) (firsts lasts : List ℕ) → EntriesFrom starts ends from firsts lasts → (j : ℕ) → j < length firsts → from ≤ get_or firsts j 0
  unfolding EntriesFrom
  entries_after from [] lasts e j l = absurd (omega arith)
  entries_after from (f ∷ firsts) [] e j l = absurd e
  entries_after from (f ∷ firsts) (m ∷ lasts) e zero l = e.0.after
  entries_after from (f ∷ firsts) (m ∷ lasts) e (suc j) l = omega (arith, e.0.after, e.0.long, entries_after m firsts lasts e.1 j (omega arith))

  apart : (from : ℕ) (firsts lasts : List ℕ) → EntriesFrom starts ends from firsts lasts → (i j : ℕ) → i < j → j < length firsts → get_or lasts i 0 ≤ get_or firsts j 0
  unfolding EntriesFrom
  apart from [] lasts e i j h l = absurd (omega arith)
  apart from (f ∷ firsts) [] e i j h l = absurd e
  apart from (f ∷ firsts) (m ∷ lasts) e i zero h l = absurd (omega arith)
  apart from (f ∷ firsts) (m ∷ lasts) e zero (suc j) h l = entries_after m firsts lasts e.1 j (omega arith)
  apart from (f ∷ firsts) (m ∷ lasts) e (suc i) (suc j) h l = apart m firsts lasts e.1 i j (omega arith) (omega arith)

  -- A file from a place on lies in one of the entries from there.
  lies : (from : ℕ) (firsts lasts : List ℕ) → EntriesFrom starts ends from firsts lasts → NextEntry starts ends (last_or from lasts) None → (i : ℕ) → i < both_rows starts ends
      → from ≤ get_or starts i 0 → get_or starts i 0 < last_place → LiesIn firsts lasts (get_or starts i 0) (get_or ends i 0)
  unfolding EntriesFrom last_or
  lies from [] [] e n i l h near = absurd (omega (arith, n i l h))
  lies from [] (x ∷ lasts) e n i l h near = absurd (never_none x lasts e)
  lies from (f ∷ firsts) [] e n i l h near = absurd e
  lies from (f ∷ firsts) (m ∷ lasts) e n i l h near =
      elim (dec_lt (get_or starts i 0) m) [
        | yes b ↦ record { which = 0; listed = omega arith; begins = e.0.none i l h; inside = b; ends = e.0.closed i l (e.0.none i l h) b }
        | no b ↦ further (lies m firsts lasts e.1 n i l (omega arith) near)
      ]
    where
      further : LiesIn firsts lasts (get_or starts i 0) (get_or ends i 0) → LiesIn (f ∷ firsts) (m ∷ lasts) (get_or starts i 0) (get_or ends i 0)
      further p = record { which = suc p.which; listed = omega (arith, p.listed); begins = p.begins; inside = p.inside; ends = p.ends }

pub entries_are_apart : EntriesAreApart
entries_are_apart starts ends firsts lasts p i j h l = apart starts ends 0 firsts lasts p.in_turn i j h l

pub files_lie_in_entries : FilesLieInEntries
files_lie_in_entries starts ends firsts lasts p i l =
    lies starts ends 0 firsts lasts p.entries.in_turn (p.entries.all p.few) i (omega (arith, p.even)) (omega arith) (omega (arith, p.long i l, p.near i l))

-- Starts between two places, counted: none, in two parts, all.
reads_cons : (a b start : ℕ) (row : List ℕ) → reads_of_entry a b (start ∷ row) ≡ reads_of_entry a b (start ∷ []) + reads_of_entry a b row
unfolding reads_of_entry
reads_cons a b start row = go (leb a start && ltb start b)
  where
    go : (t : Bool) → cond t (suc (reads_of_entry a b row)) (reads_of_entry a b row) ≡ cond t 1 0 + reads_of_entry a b row
    go true = omega arith
    go false = omega arith

one_in : (a b start : ℕ) → a ≤ start → start < b → reads_of_entry a b (start ∷ []) ≡ 1
unfolding reads_of_entry
one_in a b start l m = rw (le-leb a start l, lt-ltb start b m)

one_before : (a b start : ℕ) → start < a → reads_of_entry a b (start ∷ []) ≡ 0
unfolding reads_of_entry
one_before a b start l = rw (lt-leb a start l)

one_behind : (a b start : ℕ) → b ≤ start → reads_of_entry a b (start ∷ []) ≡ 0
unfolding reads_of_entry
one_behind a b start l = go (leb a start)
  where
    go : (t : Bool) → ◌≡◌ {A = ℕ} (cond (t && ltb start b) 1 0) 0
    go true = rw (le-ltb start b l)
    go false = refl

reads_nil : (a b : ℕ) → reads_of_entry a b [] ≡ 0
unfolding reads_of_entry
reads_nil a b = refl

one_split : (a b d start : ℕ) → a ≤ b → b ≤ d → reads_of_entry a d (start ∷ []) ≡ reads_of_entry a b (start ∷ []) + reads_of_entry b d (start ∷ [])
one_split a b d start l m =
    elim (dec_lt start a) [
      | yes h ↦ one_before a d start h ∙ sym (rw (one_before a b start h, one_before b d start (omega arith)))
      | no h ↦ elim (dec_lt start b) [
        | yes k ↦ one_in a d start (omega arith) (omega arith) ∙ sym (rw (one_in a b start (omega arith) k, one_before b d start k))
        | no k ↦ elim (dec_lt start d) [
          | yes g ↦ one_in a d start (omega arith) g ∙ sym (rw (one_behind a b start (omega arith), one_in b d start (omega arith) g))
          | no g ↦ one_behind a d start (omega arith) ∙ sym (rw (one_behind a b start (omega arith), one_behind b d start (omega arith)))
        ]
      ]
    ]

reads_split : (a b d : ℕ) (row : List ℕ) → a ≤ b → b ≤ d → reads_of_entry a d row ≡ reads_of_entry a b row + reads_of_entry b d row
reads_split a b d [] l m = rw (reads_nil a d, reads_nil a b, reads_nil b d)
reads_split a b d (start ∷ row) l m =
    omega (arith, reads_cons a d start row, reads_cons a b start row, reads_cons b d start row, one_split a b d start l m, reads_split a b d row l m)

reads_none : (a b : ℕ) (row : List ℕ) → ((i : ℕ) → i < length row → a ≤ get_or row i 0 → b ≤ get_or row i 0) → reads_of_entry a b row ≡ 0
reads_none a b [] e = reads_nil a b
reads_none a b (start ∷ row) e = omega (arith, reads_cons a b start row, here, reads_none a b row (λ i l h. e (suc i) (omega arith) h))
  where
    here : reads_of_entry a b (start ∷ []) ≡ 0
    here = elim (dec_lt start a) [ yes h ↦ one_before a b start h | no h ↦ one_behind a b start (e 0 (omega arith) (omega arith)) ]

reads_every : (b : ℕ) (row : List ℕ) → ((i : ℕ) → i < length row → get_or row i 0 < b) → reads_of_entry 0 b row ≡ length row
reads_every b [] e = reads_nil 0 b
reads_every b (start ∷ row) e = omega (arith, reads_cons 0 b start row, one_in 0 b start (omega arith) (e 0 (omega arith)), reads_every b row (λ i l. e (suc i) (omega arith)))

-- No entry ends beyond the limit where no file does.
module _ (starts ends : List ℕ) (near : (i : ℕ) → i < length starts → get_or ends i 0 ≤ last_place) where
  pub entry_near : (from first last : ℕ) → EntryFrom starts ends (both_rows starts ends) from first last → last ≤ last_place
  entry_near from first last p = elim (dec_lt (suc first) last) [ yes h ↦ across (p.joined (last - 1) (omega arith) (omega arith)) | no h ↦ omega (arith, p.near) ]
    where
      across : LiesAcross starts ends (both_rows starts ends) first (last - 1) → last ≤ last_place
      across q = omega (arith, q.behind, near q.which (omega (arith, q.listed)))

  module _ (even : length starts ≡ length ends) where
    add_up : (from : ℕ) (firsts lasts : List ℕ) → EntriesFrom starts ends from firsts lasts → NextEntry starts ends (last_or from lasts) None
        → total (entry_reads starts firsts lasts) ≡ reads_of_entry from last_place starts
    unfolding EntriesFrom last_or entry_reads
    add_up from [] [] e n = sym (reads_none from last_place starts (λ i l h. n i (omega arith) h))
    add_up from [] (x ∷ lasts) e n = absurd (never_none x lasts e)
    add_up from (f ∷ firsts) [] e n = absurd e
    add_up from (f ∷ firsts) (m ∷ lasts) e n =
        omega (
          arith,
          add_up m firsts lasts e.1 n,
          reads_split from f last_place starts e.0.after (omega (arith, e.0.near)),
          reads_split f m last_place starts (omega (arith, e.0.long)) (entry_near from f m e.0),
          reads_none from f starts (λ i l h. e.0.none i (omega arith) h),
        )

pub reads_add_up : ReadsAddUp
reads_add_up starts ends firsts lasts p =
    add_up starts ends p.near p.even 0 firsts lasts p.entries.in_turn (p.entries.all p.few)
    ∙ reads_every last_place starts (λ i l. omega (arith, p.long i l, p.near i l))

-- A start between two places is a read.
pub reads_some : (a b : ℕ) (row : List ℕ) (i : ℕ) → i < length row → a ≤ get_or row i 0 → get_or row i 0 < b → 0 < reads_of_entry a b row
reads_some a b [] i l h m = absurd (omega arith)
reads_some a b (start ∷ row) zero l h m = omega (arith, reads_cons a b start row, one_in a b start h m)
reads_some a b (start ∷ row) (suc i) l h m = omega (arith, reads_cons a b start row, reads_some a b row i (omega arith) h m)
