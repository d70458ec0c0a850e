-- The reads of a stop are those of its files as they are handed in. So a run that wants each file no more often wants each aggregate no more
-- often.
use Prim.Native.Nat.{ℕ, suc, ◌+◌, ◌≤◌, ◌<◌}
use native.Mathlib.Omega.{arith}
use native.Mathlib.Decide.{ℕ_discrete}
use mathlib.Core.Path.{◌≡◌, refl, sym, ap, ◌∙◌}
use mathlib.Core.Bool.{Bool, true, false, cond}
use mathlib.Core.Logic.{by_cases}
use mathlib.Core.List.{List, [], ◌∷◌}
use lib.ListN.{length, get_or}
use lib.Dec.{eqb}
use borrow.Author.Tests.{eq-eqb, ne_eqb}
use Rattle.runs.specs.Run.{Run, Stop, first_file, join_to, joined, want_stops, want_stops_of, stops_of}
use Rattle.runs.proofs.Judged.{GoodRun}
use Rattle.runs.proofs.Joined.{Neighbours, Apart, by_name, join_none, join_same, join_other}
use Rattle.runs.proofs.Stops.{run_strict}
use Rattle.least.specs.Wants.{reads_of, reads_of_file}
use Rattle.least.specs.Recurrence.{W}
use Rattle.least.proofs.Sums.{W-same, W-below, W-add, W-none, W-one}

-- The counts of the stops of one name, added: joining leaves them.
unfoldable added : List Stop → ℕ → ℕ
added [] g = 0
added (s ∷ ss) g = cond (eqb s.file g) s.count 0 + added ss g

both_add : (b : Bool) (x y : ℕ) → cond b (x + y) 0 ≡ cond b x 0 + cond b y 0
both_add true x y = refl
both_add false x y = omega arith

none_either : (b : Bool) (x : ℕ) → x ≡ 0 → cond b x 0 ≡ 0
none_either true x e = e
none_either false x e = refl

added_join : (s : Stop) (ts : List Stop) (g : ℕ) → added (join_to s ts) g ≡ cond (eqb s.file g) s.count 0 + added ts g
unfolding added
added_join s [] g = rw (join_none s)
added_join s (t ∷ ts) g =
    by_name s t
    (λ e. rw (join_same s t ts e, ← e) (omega (arith, both_add (eqb s.file g) s.count t.count)))
    (λ n. rw (join_other s t ts n))

added_joined : (ss : List Stop) (g : ℕ) → added (joined ss) g ≡ added ss g
unfolding added joined
added_joined [] g = refl
added_joined (s ∷ ss) g = added_join s (joined ss) g ∙ ap (λ n. cond (eqb s.file g) s.count 0 + n) (added_joined ss g)

-- Of stops that lie apart only one has the name.
none_later : (s : Stop) (ss : List Stop) (g : ℕ) → Neighbours Apart (s ∷ ss) → g ≤ s.file → added ss g ≡ 0
unfolding added
none_later s [] g a l = refl
none_later s (t ∷ ts) g a l =
    let later = none_later t ts g a.1 in
    rw (ne_eqb t.file g (λ e. omega (arith, a.0.ascends))) (omega (arith, later (omega (arith, a.0.ascends))))

reads_added : (ss : List Stop) (g : ℕ) → Neighbours Apart ss → reads_of ss g ≡ added ss g
unfolding reads_of added
reads_added [] g a = refl
reads_added (s ∷ ss) g a =
    let rest = reads_added ss g a.1 in
    by_cases
    (ℕ_discrete s.file g)
    (λ e. rw (eq-eqb s.file g e) (omega (arith, none_later s ss g a (omega arith))))
    (λ n. rw (ne_eqb s.file g n) (omega (arith, rest)))

module _ (aggregates : List ℕ) (g : ℕ) where
  -- What a file's reads bring to the stop of a name.
  share : (ℕ → ℕ) → ℕ → ℕ
  share reads f = cond (eqb (first_file aggregates f) g) (reads f) 0

  want_share : (n c f : ℕ) → (f ≡ n → ⊥) → share (λ x. cond (eqb n x) c 0) f ≡ 0
  unfolding share
  want_share n c f h = none_either (eqb (first_file aggregates f) g) (cond (eqb n f) c 0) (rw (ne_eqb n f (λ e. h (sym e))))

  added_files : (starts lengths : List ℕ) (N : ℕ) (ns cs : List ℕ) → ((i : ℕ) → i < length ns → get_or ns i 0 < N)
      → added (want_stops starts lengths aggregates ns cs) g ≡ W (share (reads_of_file ns cs)) N
  unfolding added want_stops reads_of_file share
  added_files starts lengths N [] cs small = sym (W-none (share (reads_of_file [] cs)) N (λ i l. none_either (eqb (first_file aggregates i) g) 0 refl))
  added_files starts lengths N (n ∷ ns) [] small = sym (W-none (share (reads_of_file (n ∷ ns) [])) N (λ i l. none_either (eqb (first_file aggregates i) g) 0 refl))
  added_files starts lengths N (n ∷ ns) (c ∷ cs) small =
      let here : cond (eqb (first_file aggregates n) g) (cond (eqb n n) c 0) 0 ≡ cond (eqb (first_file aggregates n) g) c 0 = rw (eq-eqb n n refl) in
      let rest = added_files starts lengths N ns cs (λ i l. small (suc i) (omega arith)) in
      omega (
        arith,
        W-same (share (reads_of_file (n ∷ ns) (c ∷ cs))) (λ f. share (λ x. cond (eqb n x) c 0) f + share (reads_of_file ns cs) f) N (λ f l. both_add (eqb (first_file aggregates f) g) (cond (eqb n f) c 0) (reads_of_file ns cs f)),
        W-add (share (λ x. cond (eqb n x) c 0)) (share (reads_of_file ns cs)) N,
        W-one (share (λ x. cond (eqb n x) c 0)) n N (small 0 (omega arith)) (want_share n c),
        here,
        rest,
      )

-- The reads of a stop of an accepted run are those of its files.
reads_of_files : (r : Run) → GoodRun r → (g : ℕ) → reads_of (stops_of r) g ≡ W (share r.aggregates g (reads_of_file r.numbers r.counts)) (suc (length r.starts))
reads_of_files r good g =
    reads_added (stops_of r) g (run_strict r good).apart
    ∙ added_joined (want_stops_of r) g
    ∙ added_files r.aggregates g r.starts r.lengths (suc (length r.starts)) r.numbers r.counts (λ i l. omega (arith, (good.wants.each i l).in_table))

-- A run over the same table that wants no file more often wants no stop more often.
pub reads_no_more : (r r' : Run) → GoodRun r → GoodRun r' → r.starts ≡ r'.starts → r.aggregates ≡ r'.aggregates
    → ((f : ℕ) → reads_of_file r'.numbers r'.counts f ≤ reads_of_file r.numbers r.counts f) → (g : ℕ) → reads_of (stops_of r') g ≤ reads_of (stops_of r) g
unfolding share
reads_no_more r r' good good' starts aggregates fewer g =
    rw (reads_of_files r' good' g, reads_of_files r good g, starts, aggregates)
    (W-below (share r'.aggregates g (reads_of_file r'.numbers r'.counts)) (share r'.aggregates g (reads_of_file r.numbers r.counts)) (suc (length r'.starts))
    (λ f l. less (eqb (first_file r'.aggregates f) g) (fewer f)))
  where
    less : (b : Bool) {x y : ℕ} → x ≤ y → cond b x 0 ≤ cond b y 0
    less true l = l
    less false l = omega arith
