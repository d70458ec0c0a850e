-- The two loops over the wants, from the last to the first: counting the stops, and filling the four rows.
use Prim.Native.Nat.{ℕ, suc, ◌+◌, ◌-◌, ◌≤◌, ◌<◌}
use mathlib.Core.Path.{◌≡◌, refl, sym, ap, ◌∙◌}
use mathlib.Core.Bool.{Bool, true, false, cond, true≢false}
use mathlib.Core.Logic.{⊎_elim}
use mathlib.Core.List.{List, [], ◌∷◌}
use native.Mathlib.Omega.{arith}
use lib.ListN.{length, get_or, drop, set, drop_of_length-le}
use Rattle.refusals.proofs.Verdicts.{refuses}
use Rattle.runs.specs.Run.{Run, Stop, stop_of, want_stops, joined, merged, first_member, last_member, first_file, total, most_reads}
use Rattle.runs.specs.Judging.{judge_of}
use Rattle.runs.specs.Private.{SoundTable, InTable}
use Rattle.runs.proofs.Joined.{joined_fewer}
use Rattle.runs.proofs.Judged.{GoodRun, accepted_run, wants_named}
use Rattle.runs.proofs.Stops.{first_file_lem, wants_length, stops_few}
use Rattle.engine_stops.specs.declared.Place.{Place}
use Rattle.engine_stops.specs.Joining.{length_of}
use Rattle.engine_stops.specs.Private.{WantsFit, place_of, joins_next}
use Rattle.engine_stops.proofs.Joining.{Added, Joins, Begins, Filled, added, stops_counted, joined_nothing, filled_at, filled_more, filled_none, reads_fit, count_fits}

-- The wants of an accepted run.
pub good_fit : (r : Run) → GoodRun r → WantsFit r.aggregates r.numbers
good_fit r good =
    record {
      once = λ i l. good.files.numbers i (omega (arith, good.files.rows));
      named = λ i l. (good.wants.each i l).named;
      in_table = λ i l. omega (arith, (good.wants.each i l).in_table, good.files.rows);
      rises = λ i l. (good.wants.each (suc i) l).above;
      few = good.wants.few;
    }

-- What filling takes from an accepted run.
pub record GoodRows (starts lengths aggregates ns cs : List ℕ) : Type 0 where
  pub fit : WantsFit aggregates ns
  pub table : SoundTable starts lengths
  pub rows : length starts ≡ length aggregates
  pub named : (i : ℕ) → i < length ns → InTable starts (get_or ns i 0)
  pub even : length cs ≡ length ns
  pub reads : total cs ≤ most_reads
  pub few : length (joined (want_stops starts lengths aggregates ns cs)) ≤ 64

pub good_rows : (r : Run) → refuses (judge_of r) ≡ false → GoodRows r.starts r.lengths r.aggregates r.numbers r.counts
good_rows r e =
    let good = accepted_run r e in
    record {
      fit = good_fit r good;
      table = good.files.table;
      rows = good.files.rows;
      named = wants_named r.starts r.numbers r.counts good.wants;
      even = sym good.wants.equal;
      reads = good.wants.reads;
      few = omega (arith, stops_few r good, good.wants.few);
    }

-- Where a stop lies, as the code finds it.
pub place_is : (starts lengths aggregates : List ℕ) (f first last : ℕ) → 0 < f → first ≡ first_member aggregates (f - 1) → last ≡ last_member aggregates (f - 1)
    → record { first = first + 1; start = get_or starts first 0; length = (get_or starts last 0 + get_or lengths last 0) - get_or starts first 0 } ≡ place_of starts lengths aggregates f
place_is starts lengths aggregates f first last l first_is last_is =
    let name : first_member aggregates (f - 1) + 1 ≡ first_file aggregates f = omega (arith, first_file_lem aggregates f l) in
    rw (first_is, last_is, ← name) refl

none_left : (starts lengths aggregates ns cs : List ℕ) → length cs ≡ length ns → joined (drop (length ns) (want_stops starts lengths aggregates ns cs)) ≡ []
none_left starts lengths aggregates ns cs even =
    let past : length (want_stops starts lengths aggregates ns cs) ≤ length ns = omega (arith, wants_length starts lengths aggregates ns cs even) in
    ap joined (drop_of_length-le (want_stops starts lengths aggregates ns cs) past) ∙ joined_nothing

-- So many stops from the want at an index on.
pub record Counting (aggregates ns : List ℕ) (count i : ℕ) : Type 0 where
  pub within : count + i ≤ length ns
  pub is : (starts lengths cs : List ℕ) → length cs ≡ length ns → count ≡ length (joined (drop i (want_stops starts lengths aggregates ns cs)))

module _ (aggregates ns : List ℕ) where
  pub counting_none : Counting aggregates ns 0 (length ns)
  counting_none =
      record { within = omega arith; is = λ starts lengths cs even. sym (ap length (none_left starts lengths aggregates ns cs even)) }

  pub counting_more : (count i m more : ℕ) → Counting aggregates ns count i → suc m ≡ i → (same : Bool) → same ≡ joins_next aggregates ns m → more ≡ cond same count (count + 1)
      → Counting aggregates ns more m
  counting_more count i m more p one same same-is more-is =
      record {
        within = few same more-is;
        is = λ starts lengths cs even.
            more-is ∙ ap (λ b. cond b count (count + 1)) same-is
            ∙ stops_counted starts lengths aggregates ns cs even m count (omega (arith, p.within)) (p.is starts lengths cs even ∙ ap (λ n. length (joined (drop n (want_stops starts lengths aggregates ns cs)))) (sym one));
      }
    where
      few : (b : Bool) → more ≡ cond b count (count + 1) → more + m ≤ length ns
      few true e = omega (arith, p.within)
      few false e = omega (arith, p.within)

-- The rows filled with the stops of the wants from an index on.
pub record Filling (starts lengths aggregates ns cs : List ℕ) (k : ℕ) (f₀ l₀ s₀ r₀ f l s r : List ℕ) (at i : ℕ) : Type 0 where
  pub within : i ≤ length ns
  pub place : at + length (joined (drop i (want_stops starts lengths aggregates ns cs))) ≡ k
  pub firsts : Filled (λ x. x.file) (joined (drop i (want_stops starts lengths aggregates ns cs))) k f₀ f at
  pub lefts : Filled (λ x. x.start) (joined (drop i (want_stops starts lengths aggregates ns cs))) k l₀ l at
  pub spans : Filled length_of (joined (drop i (want_stops starts lengths aggregates ns cs))) k s₀ s at
  pub reads : Filled (λ x. x.count) (joined (drop i (want_stops starts lengths aggregates ns cs))) k r₀ r at

-- The entry that a want is written at, and the reads that are there already: the stop at hand and its reads, or the entry before it and none.
pub record Taken (same : Bool) (at : ℕ) (reads : List ℕ) (to c : ℕ) : Type 0 where
  pub to_is : to ≡ cond same at (at - 1)
  pub carried : c ≡ cond same (get_or reads to 0) 0

pub taken_joined : (same : Bool) (at : ℕ) (reads : List ℕ) (to c : ℕ) → same ≡ true → to ≡ at → c ≡ get_or reads at 0 → Taken same at reads to c
taken_joined same at reads to c e to_is c-is = record { to_is = rw e to_is; carried = rw (e, to_is) c-is }

pub taken_anew : (same : Bool) (at : ℕ) (reads : List ℕ) (to c : ℕ) → same ≡ false → to ≡ at - 1 → c ≡ 0 → Taken same at reads to c
taken_anew same at reads to c e to_is c-is = record { to_is = rw e to_is; carried = rw e c-is }

module _ (starts lengths aggregates ns cs : List ℕ) (even : length cs ≡ length ns) (k : ℕ) where
  pub filling_none : (f l s r : List ℕ) → Filling starts lengths aggregates ns cs k f l s r f l s r k (length ns)
  filling_none f l s r =
      let none = none_left starts lengths aggregates ns cs even in
      record {
        within = omega arith;
        place = rw none (omega arith);
        firsts = rw none (filled_none (λ x. x.file) k f);
        lefts = rw none (filled_none (λ x. x.start) k l);
        spans = rw none (filled_none length_of k s);
        reads = rw none (filled_none (λ x. x.count) k r);
      }

  module _ (all : k ≡ length (joined (want_stops starts lengths aggregates ns cs))) (f₀ l₀ s₀ r₀ f l s r : List ℕ) (at i : ℕ)
      (p : Filling starts lengths aggregates ns cs k f₀ l₀ s₀ r₀ f l s r at i) where
    -- One want more, at index m.
    module _ (m : ℕ) (one : suc m ≡ i) (same : Bool) (same-is : same ≡ joins_next aggregates ns m) where
      want : Stop
      want = stop_of starts lengths aggregates (get_or ns m 0) (get_or cs m 0)

      inside : m < length ns
      inside = omega (arith, p.within)

      later : List Stop
      later = joined (drop i (want_stops starts lengths aggregates ns cs))

      here : List Stop
      here = joined (drop m (want_stops starts lengths aggregates ns cs))

      step : Added same want later here
      unfolding want later here
      step = rw (same-is, ← one) (added starts lengths aggregates ns cs even m inside)

      here_few : length here ≤ k
      unfolding here
      here_few = rw all (joined_fewer (want_stops starts lengths aggregates ns cs) m)

      lengths_by : (same ≡ true → length here ≡ length later) × (same ≡ false → length here ≡ suc (length later))
      lengths_by = (
        λ e. ⊎_elim (λ (j : (same ≡ true) × Joins want later here). ap length j.1.is ∙ sym (ap length j.1.was)) (λ (b : (same ≡ false) × Begins want later here). absurd (true≢false (sym e ∙ b.0))) step,
        λ e. ⊎_elim (λ (j : (same ≡ true) × Joins want later here). absurd (true≢false (sym j.0 ∙ e))) (λ (b : (same ≡ false) × Begins want later here). ap length b.1.is) step,
      )

      pub at_some : same ≡ false → 0 < at
      unfolding later
      at_some e = omega (arith, lengths_by.1 e, here_few, p.place)

      module _ (to : ℕ) (to_is : to ≡ cond same at (at - 1)) where
        to_place : to + length here ≡ k
        unfolding later
        to_place = by_same_here same refl
          where
            by_same_here : (b : Bool) → same ≡ b → to + length here ≡ k
            by_same_here true e = omega (arith, lengths_by.0 e, p.place, rw e at to_is)
            by_same_here false e = omega (arith, lengths_by.1 e, p.place, at_some e, rw e at to_is)

        here_some : 0 < length here
        here_some =
            ⊎_elim (λ (j : (same ≡ true) × Joins want later here). omega (arith, ap length j.1.is)) (λ (b : (same ≡ false) × Begins want later here). omega (arith, ap length b.1.is)) step

        pub to_room : to < k
        to_room = omega (arith, to_place, here_some)

        -- A place that joining keeps is written as the want has it.
        place_more : (g : Stop → ℕ) (row₀ row : List ℕ) (v : ℕ) → Filled g later k row₀ row at → k ≤ length row₀ → ((t : Stop) → g (merged want t) ≡ g want) → v ≡ g want
            → Filled g here k row₀ (set row to v) to
        place_more g row₀ row v q room keeps v-is =
            filled_more g same want later here step k row₀ row at to v q to_is at_some (omega (arith, to_room, q.same)) (λ t rest e was. v-is ∙ sym (keeps t)) (λ e. v-is)

        module _ (c : ℕ) (c-is : c ≡ cond same (get_or r to 0) 0) where
          -- The reads so far are those of the stop at hand.
          carried_is : (t : Stop) (rest : List Stop) → same ≡ true → later ≡ t ∷ rest → c ≡ t.count
          unfolding later
          carried_is t rest e was =
              let there : to ≡ at = rw e at to_is in
              let kept : c ≡ get_or r to 0 = rw e at c-is in
              kept ∙ ap (λ n. get_or r n 0) there ∙ filled_at (λ x. x.count) t rest k r₀ r at (rw was at p.reads)

          pub reads_small : get_or cs m 0 + c ≤ total cs
          unfolding later
          reads_small = by_step step
            where
              by_step : Added same want later here → get_or cs m 0 + c ≤ total cs
              by_step a =
                  ⊎_elim
                  (λ (j : (same ≡ true) × Joins want later here).
                  omega (arith, carried_is j.1.first j.1.rest j.0 j.1.was, reads_fit starts lengths aggregates ns cs even m inside j.1.first j.1.rest (ap (λ n. joined (drop n (want_stops starts lengths aggregates ns cs))) one ∙ j.1.was)))
                  (λ (b : (same ≡ false) × Begins want later here). let none : c ≡ 0 = rw b.0 at c-is in omega (arith, none, count_fits starts lengths aggregates ns cs even m inside))
                  a

          pub filling_more : k ≤ length f₀ → k ≤ length l₀ → k ≤ length s₀ → k ≤ length r₀ → (pl : Place) → pl ≡ place_of starts lengths aggregates (get_or ns m 0)
              → Filling starts lengths aggregates ns cs k f₀ l₀ s₀ r₀ (set f to pl.first) (set l to pl.start) (set s to pl.length) (set r to (get_or cs m 0 + c)) to m
          unfolding want later here
          filling_more a b d e pl pl-is =
              record {
                within = omega (arith, inside);
                place = to_place;
                firsts = place_more (λ x. x.file) f₀ f pl.first p.firsts a (λ t. refl) (ap (λ x. x.first) pl-is);
                lefts = place_more (λ x. x.start) l₀ l pl.start p.lefts b (λ t. refl) (ap (λ x. x.start) pl-is);
                spans = place_more length_of s₀ s pl.length p.spans d (λ t. refl) (ap (λ x. x.length) pl-is);
                reads = filled_more (λ x. x.count) same want later here step k r₀ r at to (get_or cs m 0 + c) p.reads to_is at_some (omega (arith, to_room, p.reads.same))
                    (λ t rest q was. ap (λ n. get_or cs m 0 + n) (carried_is t rest q was))
                    (λ q. let none : c ≡ 0 = rw q at c-is in omega (arith, none));
              }
