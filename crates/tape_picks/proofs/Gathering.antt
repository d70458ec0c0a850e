-- All files of an index noted one by one: each line has what the files met so far come to, and those left are the others.
use Prim.Native.Nat.{ℕ, ◌≤◌, ◌<◌}
use mathlib.Core.Path.{◌≡◌, refl, ap, sym, ◌∙◌, subst}
use Rattle.std.specs.Prelude.{Option, Some, None}
use mathlib.Core.Bool.{Bool, true, false, cond, ◌&&◌, true≢false, and-true, and_assoc}
use mathlib.Core.List.{List, [], ◌∷◌, ◌++◌, map, append-nil, append_assoc}
use mathlib.Core.Logic.{by_cases}
use native.Mathlib.Omega.{arith}
use native.Mathlib.Decide.{dec_le, dec_lt}
use lib.ListN.{length, get_or}
use lib.Dec.{eqb}
use borrow.Author.Tests.{eqb-true, eq-eqb, le-leb, lt-leb}
use Rattle.text_bytes.specs.Text.{starts_with, is_text}
use Rattle.text_bytes.proofs.Bytes.{and_true_both, begun_long}
use Rattle.text_bytes.proofs.Split.{whole_key}
use Rattle.text_order.specs.declared.Range.{Range}
use Rattle.text_order.specs.Order.{path_at}
use Rattle.text_order.specs.Promises.{RangeHolds}
use Rattle.text_order.proofs.Prefixes.{holds_all}
use Rattle.tape_markup.specs.Places.{tokens_at}
use Rattle.tape_markup.specs.Tree.{is_balanced, tree_of}
use Rattle.tape_markup.specs.Promises.{depth}
use Rattle.tape_markup.proofs.Balanced.{balanced_exactly, tree_is_the_forest}
use Rattle.tape_spans.specs.declared.Span.{Span}
use Rattle.tape_spans.specs.Spans.{no_span}
use Rattle.tape_files.specs.Index.{every, is_good_extent, index_files}
use Rattle.tape_files.specs.NamedFiles.{NamedFile, named_files}
use Rattle.tape_files.specs.Elements.{frames_at, level_at}
use Rattle.tape_files.proofs.Same.{files_are_the_table}
use Rattle.tape_picks.specs.declared.Tape.{Tape}
use Rattle.tape_picks.specs.declared.Pick.{Pick}
use Rattle.tape_picks.specs.declared.walk.Walk.{Walk}
use Rattle.tape_picks.specs.declared.walk.Met.{Met}
use Rattle.tape_picks.specs.Picks.{files_named, file_span, has_no_bytes, no_pick, one_pick, pick_of}
use Rattle.tape_picks.specs.Private.{noted_pick, ends_at, ListHeld, FileNoted, no_file, ranged_from, named_under, named_left, WalkAt, FileMet, MetAt, walk_start}
use Rattle.tape_picks.proofs.Extents.{good_of, ranged_good, ranged_span}

-- A text is itself, and begins with itself.
starts_self : (a : List ℕ) → starts_with a a ≡ true
unfolding starts_with
starts_self [] = refl
starts_self (x ∷ a) = rw (eq-eqb x x refl) (starts_self a)

same_text : (a b : List ℕ) → is_text a b ≡ true → b ≡ a
same_text a b e = let both = and_true_both (eqb (length a) (length b)) (starts_with a b) e in whole_key a b (eqb-true (length a) (length b) both.0) both.1

is_itself : (a b : List ℕ) → b ≡ a → is_text a b ≡ true
is_itself a b e = rw (e, eq-eqb (length a) (length a) refl) (starts_self a)

-- The files of a path with one more, and what they come to.
named_more : (path : List ℕ) (files : List NamedFile) (f : NamedFile) → files_named path (files ++ f ∷ []) ≡ files_named path files ++ cond (is_text path f.path) (f ∷ []) []
unfolding files_named
named_more path [] f = refl
named_more path (g ∷ files) f = go (is_text path g.path) (named_more path files f)
  where
    go : (t : Bool) → files_named path (files ++ f ∷ []) ≡ files_named path files ++ cond (is_text path f.path) (f ∷ []) []
        → cond t (g ∷ files_named path (files ++ f ∷ [])) (files_named path (files ++ f ∷ [])) ≡ cond t (g ∷ files_named path files) (files_named path files) ++ cond (is_text path f.path) (f ∷ []) []
    go true e = ap (λ (l : List NamedFile). g ∷ l) e
    go false e = e

pick_more : (tape : Tape) (files : List NamedFile) (f : NamedFile) → pick_of tape (files ++ f ∷ []) ≡ noted_pick (pick_of tape files) (file_span tape f) true
unfolding pick_of noted_pick
pick_more tape [] f = refl
pick_more tape (g ∷ []) f = go (has_no_bytes (file_span tape g))
  where
    go : (t : Bool) → record { state = 2; start = 0; end = 0 } ≡ cond (eqb (cond t 3 1) 0) (one_pick (file_span tape f)) (record { state = 2; start = 0; end = 0 })
    go true = refl
    go false = refl
pick_more tape (g ∷ h ∷ files) f = refl

-- Whether all files are good.
abbrev pub is_good_file : NamedFile → Bool
is_good_file f = every is_good_extent f.extents

every_append : (a b : List NamedFile) → every is_good_file (a ++ b) ≡ (every is_good_file a && every is_good_file b)
unfolding every
every_append [] b = refl
every_append (f ∷ a) b = ap (λ (t : Bool). is_good_file f && t) (every_append a b) ∙ sym (and_assoc (is_good_file f) (every is_good_file a) (every is_good_file b))

every_extents : (l : List NamedFile) → every is_good_file l ≡ every (every is_good_extent) (map (λ f. f.extents) l)
unfolding every
every_extents [] = refl
every_extents (f ∷ l) = ap (λ (t : Bool). is_good_file f && t) (every_extents l)

all_good : (text : List ℕ) → every is_good_file (named_files (tree_of text)) ≡ every (every is_good_extent) (index_files (tree_of text))
all_good text = every_extents (named_files (tree_of text)) ∙ ap (every (every is_good_extent)) (files_are_the_table (tree_of text))

-- What the walk has met so far, and what is left of it.
pub record Gathering (text list starts ends order : List ℕ) (count : ℕ) (tape : Tape) (rows : ℕ → Pick) (walk : Option Walk) : Type 0 where
  pub own : List ℕ
  pub outer : List (List ℕ)
  pub met : List NamedFile
  pub at : (next : Walk) → walk ≡ Some next → WalkAt text (path_at list starts ends order) count own outer next
  pub all : met ++ named_left text (own ∷ outer) walk ≡ named_files (tree_of text)
  pub good : every is_good_file met ≡ true
  pub notes : (k : ℕ) → k < count → rows (get_or order k 0) ≡ pick_of tape (files_named (path_at list starts ends order k) met)

module _ (text list starts ends order : List ℕ) (count : ℕ) (held : ListHeld list starts ends order count) (tape : Tape) where
  abbrev path : ℕ → List ℕ
  path = path_at list starts ends order

  shallow_text : is_balanced text ≡ true → depth (tree_of text) ≤ 32
  shallow_text e = let f = (balanced_exactly text).0 e in rw (tree_is_the_forest text f.0 f.2) f.1

  pub gathering_none : is_balanced text ≡ true → (rows : ℕ → Pick) → ((k : ℕ) → k < count → rows (get_or order k 0) ≡ no_pick) →
      (walk : Walk) → walk ≡ walk_start count → Gathering text list starts ends order count tape rows (Some walk)
  unfolding files_named pick_of named_left named_under named_files frames_at tokens_at tree_of level_at every
  gathering_none e rows zeros walk is =
      let s = shallow_text e in
      rw is
      (record {
        own = [];
        outer = [];
        met = [];
        at = λ next same.
            let first : WalkAt text path count [] [] (walk_start count) = record { deep = refl; within = omega arith; shallow = (omega arith, tt); ranges = (holds_all path count, tt); room = refl } in
            let start : walk_start count ≡ next = cc in
            subst (λ (k : Walk). WalkAt text path count [] [] k) start first;
        all = append-nil (named_files (tree_of text));
        good = refl;
        notes = zeros;
      })

  -- A line's pick with the file met.
  module _ (from : List NamedFile) (rows after : ℕ → Pick) (range : Range) (span : Span) (noted : FileNoted starts ends order count range span rows after)
      (notes : (k : ℕ) → k < count → rows (get_or order k 0) ≡ pick_of tape (files_named (path k) from)) where
    notes_none : range.high ≤ range.low → (k : ℕ) → k < count → after (get_or order k 0) ≡ pick_of tape (files_named (path k) (from ++ []))
    notes_none e k l = rw (append-nil from) (noted.outside k l (λ q. omega (arith, q.0, q.1)) ∙ notes k l)

    module _ (f : NamedFile) (p : RangeHolds path count f.path range) (is : span ≡ file_span tape f) (k : ℕ) (l : k < count) where
      one_more : is_text (path k) f.path ≡ true → after (get_or order k 0) ≡ pick_of tape (files_named (path k) (from ++ f ∷ []))
      one_more e =
          let same = same_text (path k) f.path e in
          let begins : starts_with f.path (path k) ≡ true = rw same (starts_self (path k)) in
          let lies = (p.exactly k l).1 begins in
          let long = p.long (omega (arith, lies.0, lies.1)) in
          let size = held.long k l in
          let sizes : length f.path ≡ length (path k) = ap length same in
          let named : files_named (path k) (from ++ f ∷ []) ≡ files_named (path k) from ++ f ∷ [] = named_more (path k) from f ∙ rw e in
          let here : ends_at starts ends (get_or order k 0) range.length ≡ true = le-leb _ range.length (omega (arith, long, size)) in
          noted.inside k l lies.0 lies.1
          ∙ rw (here, is, notes k l) (sym (pick_more tape (files_named (path k) from) f))
          ∙ sym (ap (pick_of tape) named)

      same_files_here : is_text (path k) f.path ≡ false → files_named (path k) (from ++ f ∷ []) ≡ files_named (path k) from
      same_files_here e = named_more (path k) from f ∙ rw e (append-nil (files_named (path k) from))

      not_this : is_text (path k) f.path ≡ false → range.low ≤ k → k < range.high → after (get_or order k 0) ≡ rows (get_or order k 0)
      unfolding noted_pick
      not_this e a b =
          let begins = (p.exactly k l).0 (a, b) in
          let few = begun_long f.path (path k) begins in
          let long = p.long (omega arith) in
          let size = held.long k l in
          let other : length f.path ≡ length (path k) → ⊥ = λ s. true≢false (sym (is_itself (path k) f.path (sym (whole_key f.path (path k) s begins))) ∙ e) in
          let longer : ends_at starts ends (get_or order k 0) range.length ≡ false = lt-leb _ range.length (omega (arith, long, size)) in
          noted.inside k l a b ∙ rw longer

      as_before : is_text (path k) f.path ≡ false → after (get_or order k 0) ≡ rows (get_or order k 0)
      as_before e =
          by_cases (dec_le range.low k)
          (λ a. by_cases (dec_lt k range.high) (λ b. not_this e a b) (λ n. noted.outside k l (λ q. n q.1)))
          (λ n. noted.outside k l (λ q. n q.0))

      notes_one : after (get_or order k 0) ≡ pick_of tape (files_named (path k) (from ++ f ∷ []))
      notes_one = go (is_text (path k) f.path) refl
        where
          go : (t : Bool) → is_text (path k) f.path ≡ t → after (get_or order k 0) ≡ pick_of tape (files_named (path k) (from ++ f ∷ []))
          go true e = one_more e
          go false e = as_before e ∙ notes k l ∙ sym (ap (pick_of tape) (same_files_here e))

  -- One step more.
  module _ (rows : ℕ → Pick) (walk : Walk) (g : Gathering text list starts ends order count tape rows (Some walk)) (r : Met)
      (m : MetAt text path count tape (g.own ∷ g.outer) walk r) where
    all_left : (g.met ++ m.files) ++ named_left text (m.own ∷ m.outer) r.walk ≡ named_files (tree_of text)
    unfolding named_left
    all_left =
        append_assoc g.met m.files (named_left text (m.own ∷ m.outer) r.walk)
        ∙ ap (λ (l : List NamedFile). g.met ++ l) (sym m.left)
        ∙ g.all

    file_good_here : (f : NamedFile) → r.file ≡ ranged_from tape no_file f.extents → good_of r.file ≡ is_good_file f
    file_good_here f e = rw e (ranged_good tape no_file f.extents)

    met_good : (files : List NamedFile) → FileMet path count tape files r → good_of r.file ≡ true → every is_good_file files ≡ true
    unfolding every
    met_good [] p e = refl
    met_good (f ∷ []) p e = and-true (is_good_file f) ∙ sym (file_good_here f p.1) ∙ e
    met_good (f ∷ h ∷ files) p e = absurd p

    met_bad : (files : List NamedFile) → FileMet path count tape files r → good_of r.file ≡ false → every is_good_file files ≡ false
    unfolding every
    met_bad [] p e = absurd (true≢false (ap good_of (sym p.2) ∙ e))
    met_bad (f ∷ []) p e = and-true (is_good_file f) ∙ sym (file_good_here f p.1) ∙ e
    met_bad (f ∷ h ∷ files) p e = absurd p

    module _ (span : Span) (e : r.file ≡ Some span) where
      met_span : (f : NamedFile) → r.file ≡ ranged_from tape no_file f.extents → span ≡ file_span tape f
      met_span f p =
          let good : is_good_file f ≡ true = sym (file_good_here f p) ∙ ap good_of e in
          let same : Some span ≡ Some (file_span tape f) = sym e ∙ p ∙ ranged_span tape no_span f.extents good in
          cc

      met_notes : (files : List NamedFile) → FileMet path count tape files r → (after : ℕ → Pick) → FileNoted starts ends order count r.range span rows after
          → (k : ℕ) → k < count → after (get_or order k 0) ≡ pick_of tape (files_named (path k) (g.met ++ files))
      met_notes [] p after noted k l = notes_none g.met rows after r.range span noted g.notes p.0 k l
      met_notes (f ∷ []) p after noted k l = notes_one g.met rows after r.range span noted g.notes f p.0 (met_span f p.1) k l
      met_notes (f ∷ h ∷ files) p after noted k l = absurd p

      pub gathering_more : (after : ℕ → Pick) → FileNoted starts ends order count r.range span rows after → Gathering text list starts ends order count tape after r.walk
      gathering_more after noted =
          record {
            own = m.own;
            outer = m.outer;
            met = g.met ++ m.files;
            at = m.at;
            all = all_left;
            good = every_append g.met m.files ∙ rw (g.good, met_good m.files m.met (ap good_of e));
            notes = met_notes m.files m.met after noted;
          }

    pub gathering_bad : r.file ≡ None → false ≡ every (every is_good_extent) (index_files (tree_of text))
    gathering_bad e =
        sym
        (sym (all_good text)
        ∙ ap (every is_good_file) (sym all_left)
        ∙ every_append (g.met ++ m.files) (named_left text (m.own ∷ m.outer) r.walk)
        ∙ rw (every_append g.met m.files, g.good, met_bad m.files m.met (ap good_of e)))

    -- Where the lines to be noted lie.
    pub met_high : r.range.high ≤ count
    met_high = go m.files m.met
      where
        go : (files : List NamedFile) → FileMet path count tape files r → r.range.high ≤ count
        go [] p = p.1
        go (f ∷ []) p = p.0.within
        go (f ∷ h ∷ files) p = absurd p

  module _ (rows : ℕ → Pick) (g : Gathering text list starts ends order count tape rows None) where
    met_all : g.met ≡ named_files (tree_of text)
    unfolding named_left
    met_all = sym (append-nil g.met) ∙ g.all

    pub gathering_good : true ≡ every (every is_good_extent) (index_files (tree_of text))
    gathering_good = sym (sym (all_good text) ∙ ap (every is_good_file) (sym met_all) ∙ g.good)

    pub gathering_notes : (k : ℕ) → k < count → rows (get_or order k 0) ≡ pick_of tape (files_named (path k) (named_files (tree_of text)))
    gathering_notes k l = rw (← met_all) (g.notes k l)
