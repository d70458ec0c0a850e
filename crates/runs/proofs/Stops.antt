-- The stops of a run: wants of one aggregate agree in their places, and in an accepted run each want is of the stop before it or lies right
-- of that; so joined, the stops are sound.
use Prim.Native.Nat.{ℕ, zero, suc, ◌-◌, ◌≤◌, ◌<◌}
use mathlib.Core.Path.{◌≡◌, refl, sym, ap, ◌∙◌}
use mathlib.Core.Bool.{true, false, true≢false}
use mathlib.Core.Logic.{⊎_elim, inl, inr}
use mathlib.Core.List.{List, [], ◌∷◌}
use native.Mathlib.Omega.{arith}
use lib.ListN.{length, get_or, drop}
use lib.Seq.{drop-cons}
use lib.Dec.{eqb}
use borrow.Author.Tests.{eqb-true}
use Rattle.refusals.proofs.Verdicts.{refuses}
use Rattle.runs.specs.Run.{Run, Stop, end_at, total, first_member, last_member, first_file, stop_of, want_stops, want_stops_of, joined, stops_of}
use Rattle.runs.specs.Judging.{right_end}
use Rattle.runs.specs.Rows.{stop_at}
use Rattle.runs.specs.Lists.{wanted}
use Rattle.runs.specs.Judging.{judge_of}
use Rattle.runs.specs.Private.{SoundTable, InTable}
use Rattle.runs.proofs.Search.{true_or_false}
use Rattle.runs.proofs.Sound.{Sound}
use Rattle.runs.proofs.Members.{first_below, first_stays, first_begins, last_above, last_within_lem, member_last, same_last, same_or_apart}
use Rattle.runs.proofs.Joined.{Neighbours, Agree, Fine, Apart, Alike, Follows, AllFine, Strict, reads_of, right_joined, strict_joined, strict_sound, length_joined, reads_joined, place_by, place_joined, wanted_joined}
use Rattle.runs.proofs.Table.{table_file, ends_rise, end_before_start}
use Rattle.runs.proofs.Judged.{GoodWants, GoodRun, accepted_run, wants_named}

-- A file's first file, by the index.
pub first_file_lem : (aggregates : List ℕ) (f : ℕ) → 0 < f → first_file aggregates f ≡ suc (first_member aggregates (f - 1))
first_file_lem aggregates zero l = absurd (omega arith)
first_file_lem aggregates (suc i) l = let e : suc i - 1 ≡ i = omega arith in rw e refl

first_less_one : (aggregates : List ℕ) (f : ℕ) → first_member aggregates (f - 1) ≡ first_file aggregates f - 1
unfolding first_member
first_less_one aggregates zero = refl
first_less_one aggregates (suc i) = let e : suc i - 1 ≡ i = omega arith in rw e (omega arith)

module _ (starts lengths aggregates : List ℕ) where
  -- Stops of one name are of one aggregate.
  pub stops_agree : (f c g d : ℕ) → Agree (stop_of starts lengths aggregates f c) (stop_of starts lengths aggregates g d)
  stops_agree f c g d e =
      let same : first_member aggregates (f - 1) ≡ first_member aggregates (g - 1) = first_less_one aggregates f ∙ ap (λ x. x - 1) e ∙ sym (first_less_one aggregates g) in
      record { start = ap (λ i. get_or starts i 0) same; end = ap (λ i. end_at starts lengths i) (same_last aggregates (f - 1) (g - 1) same) }

  pub wants_agree : (ns cs : List ℕ) → Neighbours Agree (want_stops starts lengths aggregates ns cs)
  unfolding want_stops
  wants_agree [] cs = tt
  wants_agree (f ∷ fs) [] = tt
  wants_agree (f ∷ []) (c ∷ cs) = (tt, tt)
  wants_agree (f ∷ g ∷ gs) (c ∷ []) = (tt, tt)
  wants_agree (f ∷ g ∷ gs) (c ∷ d ∷ cs) = (stops_agree f c g d, wants_agree (g ∷ gs) (d ∷ cs))

  -- The rightmost end is the same before and after joining, whatever is handed in.
  pub right_end_joined_lem : (ns cs : List ℕ) → right_end (joined (want_stops starts lengths aggregates ns cs)) ≡ right_end (want_stops starts lengths aggregates ns cs)
  right_end_joined_lem ns cs = right_joined (want_stops starts lengths aggregates ns cs) (wants_agree ns cs)

  pub wants_length : (ns cs : List ℕ) → length cs ≡ length ns → length (want_stops starts lengths aggregates ns cs) ≡ length ns
  unfolding want_stops
  wants_length [] cs e = refl
  wants_length (f ∷ fs) [] e = absurd (omega arith)
  wants_length (f ∷ fs) (c ∷ cs) e = ap suc (wants_length fs cs (omega arith))

  pub want_at_lem : (ns cs : List ℕ) → length cs ≡ length ns → (i : ℕ) → i < length ns
      → stop_at (want_stops starts lengths aggregates ns cs) i ≡ stop_of starts lengths aggregates (get_or ns i 0) (get_or cs i 0)
  unfolding want_stops
  want_at_lem [] cs e i l = absurd (omega arith)
  want_at_lem (f ∷ fs) [] e i l = absurd (omega arith)
  want_at_lem (f ∷ fs) (c ∷ cs) e zero l = refl
  want_at_lem (f ∷ fs) (c ∷ cs) e (suc i) l = want_at_lem fs cs (omega arith) i (omega arith)

  pub wants_drop : (ns cs : List ℕ) → length cs ≡ length ns → (i : ℕ) → i < length ns
      → drop i (want_stops starts lengths aggregates ns cs) ≡ stop_of starts lengths aggregates (get_or ns i 0) (get_or cs i 0) ∷ drop (suc i) (want_stops starts lengths aggregates ns cs)
  wants_drop ns cs e i l =
      let nowhere : Stop = record { file = 0; start = 0; end = 0; count = 0 } in
      rw (drop-cons (want_stops starts lengths aggregates ns cs) i nowhere (omega (arith, wants_length ns cs e)), want_at_lem ns cs e i l)

  -- The reads of the wants are the counts handed in.
  pub wants_reads : (ns cs : List ℕ) → length cs ≡ length ns → reads_of (want_stops starts lengths aggregates ns cs) ≡ total cs
  unfolding want_stops reads_of
  wants_reads [] [] e = refl
  wants_reads [] (c ∷ cs) e = absurd (omega arith)
  wants_reads (f ∷ fs) [] e = absurd (omega arith)
  wants_reads (f ∷ fs) (c ∷ cs) e = rw (wants_reads fs cs (omega arith))

  -- The last want's aggregate ends rightmost.
  right_end_last_here : (n : ℕ) (ns cs : List ℕ) → length cs ≡ length (n ∷ ns)
      → right_end (want_stops starts lengths aggregates (n ∷ ns) cs) ≡ end_at starts lengths (last_member aggregates (get_or (n ∷ ns) (length ns) 0 - 1))
  unfolding right_end want_stops
  right_end_last_here n ns [] e = absurd (omega arith)
  right_end_last_here n [] (c ∷ []) e = refl
  right_end_last_here n [] (c ∷ d ∷ cs) e = absurd (omega arith)
  right_end_last_here n (m ∷ ns) (c ∷ []) e = absurd (omega arith)
  right_end_last_here n (m ∷ ns) (c ∷ d ∷ cs) e = right_end_last_here m ns (d ∷ cs) (omega arith)

  pub right_end_none : (ns cs : List ℕ) → length ns ≡ 0 → 0 ≡ right_end (joined (want_stops starts lengths aggregates ns cs))
  unfolding right_end want_stops joined
  right_end_none [] cs e = refl
  right_end_none (n ∷ ns) cs e = absurd (omega arith)

  pub right_end_some : (ns cs : List ℕ) → (length ns ≡ 0 → ⊥) → length cs ≡ length ns
      → end_at starts lengths (last_member aggregates (get_or ns (length ns - 1) 0 - 1)) ≡ right_end (joined (want_stops starts lengths aggregates ns cs))
  right_end_some [] cs some e = absurd (some refl)
  right_end_some (n ∷ ns) cs some e =
      let k : suc (length ns) - 1 ≡ length ns = omega arith in
      rw k (sym (right_end_joined_lem (n ∷ ns) cs ∙ right_end_last_here n ns cs e))

  -- In a sound table.
  module _ (table : SoundTable starts lengths) (rows : length starts ≡ length aggregates) where
    -- A file lies within its aggregate, and an aggregate within the table.
    pub record Extent (f : ℕ) : Type 0 where
      pub first : first_member aggregates (f - 1) ≤ f - 1
      pub last : f - 1 ≤ last_member aggregates (f - 1)
      pub inside : last_member aggregates (f - 1) < length starts
      pub starts_left : get_or starts (first_member aggregates (f - 1)) 0 ≤ get_or starts (f - 1) 0
      pub ends_right : end_at starts lengths (f - 1) ≤ end_at starts lengths (last_member aggregates (f - 1))
      pub extends : get_or starts (first_member aggregates (f - 1)) 0 < end_at starts lengths (last_member aggregates (f - 1))

    starts_rise_here : (i j : ℕ) → i ≤ j → j < length starts → get_or starts i 0 ≤ get_or starts j 0
    starts_rise_here i j l h =
        ⊎_elim
        (λ (e : i ≡ j). rw e (omega arith))
        (λ (lt : i < j). omega (arith, end_before_start starts lengths table i j lt h))
        (native.Mathlib.Nat.eq-or-lt_of_le l)

    pub extent : (f : ℕ) → InTable starts f → Extent f
    extent f n =
        let first = first_below aggregates (f - 1) in
        let last = last_above aggregates (f - 1) in
        let inside : last_member aggregates (f - 1) < length starts = omega (arith, last_within_lem aggregates (f - 1) (omega arith)) in
        record {
          first = first;
          last = last;
          inside = inside;
          starts_left = starts_rise_here (first_member aggregates (f - 1)) (f - 1) first (omega arith);
          ends_right = ends_rise starts lengths table (f - 1) (last_member aggregates (f - 1)) last inside;
          extends = omega (arith, (table_file starts lengths table (first_member aggregates (f - 1)) (omega arith)).long, ends_rise starts lengths table (first_member aggregates (f - 1)) (last_member aggregates (f - 1)) (omega arith) inside);
        }

    -- Aggregates that are not one lie apart.
    pub extents_apart : (f g : ℕ) → InTable starts g → last_member aggregates (f - 1) < first_member aggregates (g - 1)
        → end_at starts lengths (last_member aggregates (f - 1)) ≤ get_or starts (first_member aggregates (g - 1)) 0
    extents_apart f g n l =
        end_before_start starts lengths table (last_member aggregates (f - 1)) (first_member aggregates (g - 1)) l (omega (arith, first_below aggregates (g - 1)))

    stop_fine : (f c : ℕ) → InTable starts f → 0 < c → Fine (stop_of starts lengths aggregates f c)
    stop_fine f c n l = record { named = omega (arith, first_file_lem aggregates f n.least); extends = (extent f n).extends; counted = l }

    stops_follow : (f g c d : ℕ) → InTable starts f → InTable starts g → f < g → Follows (stop_of starts lengths aggregates f c) (stop_of starts lengths aggregates g d)
    stops_follow f g c d a b l =
        ⊎_elim
        (λ e. inl (alike e))
        (λ lt. inr (apart lt))
        (same_or_apart aggregates (f - 1) (g - 1) (omega arith))
      where
        alike : first_member aggregates (f - 1) ≡ first_member aggregates (g - 1) → Alike (stop_of starts lengths aggregates f c) (stop_of starts lengths aggregates g d)
        alike e =
            let name : first_file aggregates f ≡ first_file aggregates g = omega (arith, first_file_lem aggregates f a.least, first_file_lem aggregates g b.least) in
            record { name = name; places = stops_agree f c g d name }

        apart : last_member aggregates (f - 1) < first_member aggregates (g - 1) → Apart (stop_of starts lengths aggregates f c) (stop_of starts lengths aggregates g d)
        apart lt =
            record {
              ascends = omega (arith, first_file_lem aggregates f a.least, first_file_lem aggregates g b.least, first_below aggregates (f - 1), last_above aggregates (f - 1));
              clear = extents_apart f g b lt;
            }

    -- Wants that name files of the table in rising order, each at least once.
    record Rising (ns cs : List ℕ) : Type 0 where
      named : (i : ℕ) → i < length ns → InTable starts (get_or ns i 0)
      rises : (i : ℕ) → suc i < length ns → get_or ns i 0 < get_or ns (suc i) 0
      counted : (i : ℕ) → i < length cs → 0 < get_or cs i 0

    later : (f c : ℕ) (fs cs : List ℕ) → Rising (f ∷ fs) (c ∷ cs) → Rising fs cs
    later f c fs cs r =
        record { named = λ i l. r.named (suc i) (omega arith); rises = λ i l. r.rises (suc i) (omega arith); counted = λ i l. r.counted (suc i) (omega arith) }

    wants_fine : (ns cs : List ℕ) → Rising ns cs → AllFine (want_stops starts lengths aggregates ns cs)
    unfolding want_stops
    wants_fine [] cs r = tt
    wants_fine (f ∷ fs) [] r = tt
    wants_fine (f ∷ fs) (c ∷ cs) r = (stop_fine f c (r.named 0 (omega arith)) (r.counted 0 (omega arith)), wants_fine fs cs (later f c fs cs r))

    wants_follow : (ns cs : List ℕ) → Rising ns cs → Neighbours Follows (want_stops starts lengths aggregates ns cs)
    unfolding want_stops
    wants_follow [] cs r = tt
    wants_follow (f ∷ fs) [] r = tt
    wants_follow (f ∷ []) (c ∷ cs) r = (tt, tt)
    wants_follow (f ∷ g ∷ gs) (c ∷ []) r = (tt, tt)
    wants_follow (f ∷ g ∷ gs) (c ∷ d ∷ cs) r =
        (stops_follow f g c d (r.named 0 (omega arith)) (r.named 1 (omega arith)) (r.rises 0 (omega arith)), wants_follow (g ∷ gs) (d ∷ cs) (later f c (g ∷ gs) (d ∷ cs) r))

    rising_wants : (ns cs : List ℕ) → GoodWants (length starts) ns cs → Rising ns cs
    rising_wants ns cs w =
        record {
          named = wants_named starts ns cs w;
          rises = λ i l. (w.each (suc i) l).above;
          counted = λ i l. (w.each i (omega (arith, w.equal))).counted;
        }

    pub wants_strict : (ns cs : List ℕ) → GoodWants (length starts) ns cs → Strict (joined (want_stops starts lengths aggregates ns cs))
    wants_strict ns cs w =
        let r = rising_wants ns cs w in
        strict_joined (want_stops starts lengths aggregates ns cs) (wants_fine ns cs r) (wants_follow ns cs r)

-- Where the stop of a name starts and ends, read off the table.
module _ (starts lengths aggregates : List ℕ) where
  name_index : (n f : ℕ) → first_file aggregates n ≡ f → first_member aggregates (n - 1) ≡ f - 1
  name_index n f e = first_less_one aggregates n ∙ ap (λ x. x - 1) e

  name_last : (n f : ℕ) → first_file aggregates n ≡ f → last_member aggregates (n - 1) ≡ last_member aggregates (f - 1)
  name_last n f e =
      sym (member_last aggregates (n - 1) (first_member aggregates (n - 1)) (omega arith) (omega (arith, first_below aggregates (n - 1), last_above aggregates (n - 1))))
      ∙ ap (last_member aggregates) (name_index n f e)

  start_wanted : (ns cs : List ℕ) (f : ℕ) → wanted (want_stops starts lengths aggregates ns cs) f ≡ true
      → place_by (λ s. s.start) (want_stops starts lengths aggregates ns cs) f ≡ get_or starts (f - 1) 0
  unfolding wanted want_stops place_by
  start_wanted [] cs f w = absurd (true≢false (sym w))
  start_wanted (n ∷ ns) [] f w = absurd (true≢false (sym w))
  start_wanted (n ∷ ns) (c ∷ cs) f w =
      let rest = start_wanted ns cs f in
      ⊎_elim
      (λ (here : eqb (first_file aggregates n) f ≡ true). rw here (ap (λ i. get_or starts i 0) (name_index n f (eqb-true _ _ here))))
      (λ (away : eqb (first_file aggregates n) f ≡ false). rw away (rest (rw away at w)))
      (true_or_false (eqb (first_file aggregates n) f))

  end_wanted : (ns cs : List ℕ) (f : ℕ) → wanted (want_stops starts lengths aggregates ns cs) f ≡ true
      → place_by (λ s. s.end) (want_stops starts lengths aggregates ns cs) f ≡ end_at starts lengths (last_member aggregates (f - 1))
  unfolding wanted want_stops place_by
  end_wanted [] cs f w = absurd (true≢false (sym w))
  end_wanted (n ∷ ns) [] f w = absurd (true≢false (sym w))
  end_wanted (n ∷ ns) (c ∷ cs) f w =
      let rest = end_wanted ns cs f in
      ⊎_elim
      (λ (here : eqb (first_file aggregates n) f ≡ true). rw here (ap (λ i. end_at starts lengths i) (name_last n f (eqb-true _ _ here))))
      (λ (away : eqb (first_file aggregates n) f ≡ false). rw away (rest (rw away at w)))
      (true_or_false (eqb (first_file aggregates n) f))

  -- A name that is wanted is that of some want.
  pub record WantOf (ns : List ℕ) (f : ℕ) : Type 0 where
    pub index : ℕ
    pub within : index < length ns
    pub names : first_file aggregates (get_or ns index 0) ≡ f

  want_of_here : (ns cs : List ℕ) (f : ℕ) → wanted (want_stops starts lengths aggregates ns cs) f ≡ true → WantOf ns f
  unfolding wanted want_stops
  want_of_here [] cs f w = absurd (true≢false (sym w))
  want_of_here (n ∷ ns) [] f w = absurd (true≢false (sym w))
  want_of_here (n ∷ ns) (c ∷ cs) f w =
      let rest = want_of_here ns cs f in
      ⊎_elim
      (λ (here : eqb (first_file aggregates n) f ≡ true). record { index = 0; within = omega arith; names = eqb-true _ _ here })
      (λ (away : eqb (first_file aggregates n) f ≡ false). let later = rest (rw away at w) in record { index = suc later.index; within = omega (arith, later.within); names = later.names })
      (true_or_false (eqb (first_file aggregates n) f))

  module _ (ns cs : List ℕ) (f : ℕ) (w : wanted (joined (want_stops starts lengths aggregates ns cs)) f ≡ true) where
    pub want_named : WantOf ns f
    want_named = want_of_here ns cs f (sym (wanted_joined (want_stops starts lengths aggregates ns cs) f) ∙ w)

    -- It is the first file of its own aggregate, and a file of the table where the wants are.
    pub name_first : first_member aggregates (f - 1) ≡ f - 1
    name_first =
        let o = want_named in
        let e = name_index (get_or ns o.index 0) f o.names in
        ap (first_member aggregates) (sym e) ∙ first_stays aggregates _ (first_begins aggregates (get_or ns o.index 0 - 1)) ∙ e

    pub name_in_table : ((i : ℕ) → i < length ns → InTable starts (get_or ns i 0)) → InTable starts f
    name_in_table named =
        let o = want_named in
        let n = named o.index o.within in
        let e = first_file_lem aggregates (get_or ns o.index 0) n.least in
        let b = first_below aggregates (get_or ns o.index 0 - 1) in
        record { least = omega (arith, o.names, e); most = omega (arith, o.names, e, b, n.least, n.most) }

    pub start_of_name : place_by (λ s. s.start) (joined (want_stops starts lengths aggregates ns cs)) f ≡ get_or starts (f - 1) 0
    start_of_name =
        place_joined (λ s. s.start) (λ s t. refl) (want_stops starts lengths aggregates ns cs) f
        ∙ start_wanted ns cs f (sym (wanted_joined (want_stops starts lengths aggregates ns cs) f) ∙ w)

    pub end_of_name : place_by (λ s. s.end) (joined (want_stops starts lengths aggregates ns cs)) f ≡ end_at starts lengths (last_member aggregates (f - 1))
    end_of_name =
        place_joined (λ s. s.end) (λ s t. refl) (want_stops starts lengths aggregates ns cs) f
        ∙ end_wanted ns cs f (sym (wanted_joined (want_stops starts lengths aggregates ns cs) f) ∙ w)

-- A name that is wanted stands somewhere among the stops.
pub record NamedAt (ss : List Stop) (f : ℕ) : Type 0 where
  pub index : ℕ
  pub within : index < length ss
  pub is : (stop_at ss index).file ≡ f

pub wanted_at : (ss : List Stop) (f : ℕ) → wanted ss f ≡ true → NamedAt ss f
unfolding wanted
wanted_at [] f w = absurd (true≢false (sym w))
wanted_at (s ∷ ss) f w =
    let rest = wanted_at ss f in
    ⊎_elim
    (λ (here : eqb s.file f ≡ true). record { index = 0; within = omega arith; is = eqb-true _ _ here })
    (λ (away : eqb s.file f ≡ false). let later = rest (rw away at w) in record { index = suc later.index; within = omega (arith, later.within); is = later.is })
    (true_or_false (eqb s.file f))

-- An accepted run's stops are sound; there are no more of them than wants, and their reads are those of the wants.
module _ (r : Run) (good : GoodRun r) where
  pub run_strict : Strict (stops_of r)
  run_strict = wants_strict r.starts r.lengths r.aggregates good.files.table good.files.rows r.numbers r.counts good.wants

  pub run_sound : Sound (stops_of r) r.head
  run_sound = strict_sound (stops_of r) r.head run_strict good.start.past

  pub stops_few : length (stops_of r) ≤ length r.numbers
  stops_few =
      omega (arith, length_joined (want_stops_of r), wants_length r.starts r.lengths r.aggregates r.numbers r.counts (sym good.wants.equal))

  pub stops_reads : reads_of (stops_of r) ≡ total r.counts
  stops_reads = reads_joined (want_stops_of r) ∙ wants_reads r.starts r.lengths r.aggregates r.numbers r.counts (sym good.wants.equal)

pub accepted_sound : (r : Run) → refuses (judge_of r) ≡ false → Sound (stops_of r) r.head
accepted_sound r e = run_sound r (accepted_run r e)
