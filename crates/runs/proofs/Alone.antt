-- Files that lie in no aggregate: with a row of zeros every verdict and every stop is what it was before there were aggregates.
use Prim.Native.Nat.{ℕ, zero, suc, ◌-◌, ◌≤◌, ◌<◌}
use mathlib.Core.Path.{◌≡◌, refl, sym, ap, ◌∙◌}
use mathlib.Core.Bool.{true, false, not, cond, ◌||◌, or-false}
use mathlib.Core.Logic.{⊎_elim}
use mathlib.Core.List.{List, [], ◌∷◌}
use native.Mathlib.Omega.{arith}
use native.Mathlib.Decide.{dec_lt}
use lib.ListN.{length, get_or, length-replicate, get_or-replicate, get_or-eq_default}
use lib.Seq.{ext_get_or}
use lib.Dec.{ltb, eqb}
use borrow.Author.Tests.{eq-eqb}
use Rattle.refusals.specs.declared.Refusal.TheVariants.{FileRows, BadFile}
use Rattle.refusals.specs.declared.Verdict.{Verdict}
use Rattle.refusals.specs.Refusals.{refuse_if, refuse_at, first_of, first_where}
use Rattle.refusals.specs.Refusals.{checked}
use Rattle.std.specs.Prelude.{Result, Ok, Err}
use Rattle.refusals.proofs.Verdicts.{refuses}
use Rattle.runs.specs.Run.{goes_on, first_member, last_member, stop_of, want_stops, joined, stops_of, most_files}
use Rattle.runs.specs.Judging.{right_end}
use Rattle.runs.specs.Alone.{zeros, alone_of, lone_stop, lone_stops}
use Rattle.runs.specs.Rows.{stop_at}
use Rattle.runs.specs.Judging.{bad_place, bad_number, bad_file, table_checks, wants_checks, head_checks, judge_of}
use Rattle.runs.specs.Alone.{place_checks, judge_alone}
use Rattle.runs.proofs.Search.{first_same, true_or_false}
use Rattle.runs.proofs.Members.{first_stays, last_is}
use Rattle.runs.proofs.Joined.{Neighbours, Differ, joined_alone}
use Rattle.runs.specs.Private.{SoundTable}
use Rattle.runs.proofs.Judged.{GoodWants, GoodHead, three_accept, places_accepted, wants_accepted, head_accepted, accepted_wants, by_table, by_wants, by_head}

zeros_length : (n : ℕ) → length (zeros n) ≡ n
zeros_length n = length-replicate {A = ℕ} n 0

-- A row in which every number is 0 is that row.
pub all_zero : (aggregates : List ℕ) → ((i : ℕ) → i < length aggregates → get_or aggregates i 0 ≡ 0) → aggregates ≡ zeros (length aggregates)
all_zero aggregates zero-there =
    ext_get_or 0 aggregates (zeros (length aggregates)) (sym (zeros_length (length aggregates)))
    (λ i l. zero-there i l ∙ sym (get_or-replicate {A = ℕ} (length aggregates) i 0 0 l))

module _ (n : ℕ) where
  zero_at_here : (i : ℕ) → get_or (zeros n) i 0 ≡ 0
  zero_at_here i = elim (dec_lt i n) [ yes l ↦ get_or-replicate {A = ℕ} n i 0 0 l | no h ↦ get_or-eq_default (zeros n) 0 (past h) ]
    where
      past : ¬ (i < n) → length (zeros n) ≤ i
      past h = rw (zeros_length n) (omega arith)

  -- No entry goes on, and no number is bad.
  alone_stays : (i : ℕ) → goes_on (zeros n) i ≡ false
  unfolding goes_on
  alone_stays zero = refl
  alone_stays (suc i) = rw (zero_at_here (suc i))

  alone_number : (i : ℕ) → bad_number (zeros n) i ≡ false
  alone_number i = rw (zero_at_here i)

  pub alone_first : (i : ℕ) → first_member (zeros n) i ≡ i
  alone_first i = first_stays (zeros n) i (alone_stays i)

  pub alone_last : (i : ℕ) → last_member (zeros n) i ≡ i
  alone_last i = last_is (zeros n) i i (omega arith) (λ k a b. absurd (omega arith)) (alone_stays (suc i))

  -- A want's stop is the file itself.
  alone_stop : (starts lengths : List ℕ) (f c : ℕ) → stop_of starts lengths (zeros n) f c ≡ lone_stop starts lengths f c
  alone_stop starts lengths zero c = rw (alone_first (0 - 1), alone_last (0 - 1))
  alone_stop starts lengths (suc i) c = rw (alone_first i, alone_first (suc i - 1), alone_last (suc i - 1))

  pub alone_wants : (starts lengths ns cs : List ℕ) → want_stops starts lengths (zeros n) ns cs ≡ lone_stops starts lengths ns cs
  unfolding want_stops lone_stops
  alone_wants starts lengths [] cs = refl
  alone_wants starts lengths (f ∷ fs) [] = refl
  alone_wants starts lengths (f ∷ fs) (c ∷ cs) = rw (alone_stop starts lengths f c, alone_wants starts lengths fs cs)

-- The stops of files that lie in no aggregate, by their index.
pub plain_length : (starts lengths ns cs : List ℕ) → length cs ≡ length ns → length (lone_stops starts lengths ns cs) ≡ length ns
unfolding lone_stops
plain_length starts lengths [] cs e = refl
plain_length starts lengths (f ∷ fs) [] e = absurd (omega arith)
plain_length starts lengths (f ∷ fs) (c ∷ cs) e = ap suc (plain_length starts lengths fs cs (omega arith))

pub plain_at : (starts lengths ns cs : List ℕ) → length cs ≡ length ns → (i : ℕ) → i < length ns
    → stop_at (lone_stops starts lengths ns cs) i ≡ lone_stop starts lengths (get_or ns i 0) (get_or cs i 0)
unfolding lone_stops
plain_at starts lengths [] cs e i l = absurd (omega arith)
plain_at starts lengths (f ∷ fs) [] e i l = absurd (omega arith)
plain_at starts lengths (f ∷ fs) (c ∷ cs) e zero l = refl
plain_at starts lengths (f ∷ fs) (c ∷ cs) e (suc i) l = plain_at starts lengths fs cs (omega arith) i (omega arith)

-- Rising numbers name different stops.
plain_differ : (starts lengths ns cs : List ℕ) → ((i : ℕ) → suc i < length ns → get_or ns i 0 < get_or ns (suc i) 0) → Neighbours Differ (lone_stops starts lengths ns cs)
unfolding lone_stops
plain_differ starts lengths [] cs rise = tt
plain_differ starts lengths (f ∷ fs) [] rise = tt
plain_differ starts lengths (f ∷ []) (c ∷ cs) rise = (tt, tt)
plain_differ starts lengths (f ∷ g ∷ gs) (c ∷ []) rise = (tt, tt)
plain_differ starts lengths (f ∷ g ∷ gs) (c ∷ d ∷ cs) rise =
    (λ e. omega (arith, rise 0 (omega arith)), plain_differ starts lengths (g ∷ gs) (d ∷ cs) (λ i l. rise (suc i) (omega arith)))

-- Where the wants are accepted, the stops are one for each want.
pub alone_stops : (starts lengths numbers counts : List ℕ) (head turn files : ℕ) → GoodWants files numbers counts
    → stops_of (alone_of starts lengths numbers counts head turn) ≡ lone_stops starts lengths numbers counts
alone_stops starts lengths numbers counts head turn files w =
    ap joined (alone_wants (length starts) starts lengths numbers counts)
    ∙ joined_alone (lone_stops starts lengths numbers counts) (plain_differ starts lengths numbers counts (λ i l. (w.each (suc i) l).above))

-- 1 and 2 are judged by the places.
alone_rows : (starts lengths : List ℕ)
    → (ltb most_files (length starts) || not (eqb (length starts) (length lengths)) || not (eqb (length starts) (length (zeros (length starts)))))
    ≡ (ltb most_files (length starts) || not (eqb (length starts) (length lengths)))
alone_rows starts lengths = rw (zeros_length (length starts), eq-eqb (length starts) (length starts) refl) (or-false _)

alone_files : (starts lengths : List ℕ) → first_where (bad_file starts lengths (zeros (length starts))) (length starts) ≡ first_where (bad_place starts lengths) (length starts)
alone_files starts lengths =
    first_same (bad_file starts lengths (zeros (length starts))) (bad_place starts lengths) (length starts)
    (λ i l. rw (alone_number (length starts) i) (or-false (bad_place starts lengths i)))

alone_table : (starts lengths : List ℕ) → first_of (table_checks starts lengths (zeros (length starts))) ≡ first_of (place_checks starts lengths)
alone_table starts lengths =
    ap (λ b. first_of (refuse_if b FileRows ∷ refuse_at (first_where (bad_file starts lengths (zeros (length starts))) (length starts)) BadFile ∷ [])) (alone_rows starts lengths)
    ∙ ap (λ p. first_of (refuse_if (ltb most_files (length starts) || not (eqb (length starts) (length lengths))) FileRows ∷ refuse_at p BadFile ∷ [])) (alone_files starts lengths)

-- Two last checks that agree where the one before them accepts make one verdict.
last_same : (v : Verdict) (us vs : List Verdict) → (refuses v ≡ false → first_of us ≡ first_of vs) → first_of (v ∷ first_of us ∷ []) ≡ first_of (v ∷ first_of vs ∷ [])
last_same v us vs h = ⊎_elim (λ (e : refuses v ≡ true). rw e) (λ (e : refuses v ≡ false). rw (h e)) (true_or_false (refuses v))

-- With all numbers 0 the verdict is what it was.
pub alone_judged : (starts lengths numbers counts : List ℕ) (head turn : ℕ)
    → judge_of (alone_of starts lengths numbers counts head turn) ≡ judge_alone starts lengths numbers counts head turn
unfolding judge_of judge_alone
alone_judged starts lengths numbers counts head turn =
    ap (λ v. first_of (v ∷ first_of (wants_checks (length starts) numbers counts) ∷ first_of (head_checks turn head (right_end (stops_of (alone_of starts lengths numbers counts head turn)))) ∷ []))
    (alone_table starts lengths)
    ∙ ap (λ v. cond (refuses (first_of (place_checks starts lengths))) (first_of (place_checks starts lengths)) v) rest
  where
    rest : first_of (first_of (wants_checks (length starts) numbers counts) ∷ first_of (head_checks turn head (right_end (stops_of (alone_of starts lengths numbers counts head turn)))) ∷ [])
        ≡ first_of (first_of (wants_checks (length starts) numbers counts) ∷ first_of (head_checks turn head (right_end (lone_stops starts lengths numbers counts))) ∷ [])
    rest =
        last_same
        (first_of (wants_checks (length starts) numbers counts))
        (head_checks turn head (right_end (stops_of (alone_of starts lengths numbers counts head turn))))
        (head_checks turn head (right_end (lone_stops starts lengths numbers counts)))
        (λ e.
        ap
        (λ ss. first_of (head_checks turn head (right_end ss)))
        (alone_stops starts lengths numbers counts head turn (length starts) (accepted_wants (length starts) numbers counts e)))

-- A good table, good wants and a good head are accepted.
pub alone_accepted : (starts lengths numbers counts : List ℕ) (head turn : ℕ) → length starts ≤ most_files → SoundTable starts lengths → GoodWants (length starts) numbers counts
    → GoodHead turn head (right_end (lone_stops starts lengths numbers counts)) → refuses (judge_of (alone_of starts lengths numbers counts head turn)) ≡ false
unfolding judge_alone
alone_accepted starts lengths numbers counts head turn few table wants place =
    ap refuses (alone_judged starts lengths numbers counts head turn)
    ∙ three_accept (first_of (place_checks starts lengths)) (first_of (wants_checks (length starts) numbers counts)) (first_of (head_checks turn head (right_end (lone_stops starts lengths numbers counts))))
    (places_accepted starts lengths few table)
    (wants_accepted (length starts) numbers counts wants)
    (head_accepted turn head (right_end (lone_stops starts lengths numbers counts)) place)

-- The three checks, each handed on by `?`.
module _ (starts lengths numbers counts : List ℕ) (head turn : ℕ) where
  abbrev of_table : Verdict
  of_table = first_of (place_checks starts lengths)

  abbrev of_wants : Verdict
  of_wants = first_of (wants_checks (length starts) numbers counts)

  abbrev of_head : Verdict
  of_head = first_of (head_checks turn head (right_end (lone_stops starts lengths numbers counts)))

  alone_says : (x : Result Unit Verdict) → x ≡ checked (first_of (of_table ∷ of_wants ∷ of_head ∷ [])) → x ≡ checked (judge_of (alone_of starts lengths numbers counts head turn))
  unfolding judge_alone
  alone_says x said = said ∙ ap checked (sym (alone_judged starts lengths numbers counts head turn))

  pub alone_by_table : (e : Verdict) → Err e ≡ checked (first_of (place_checks starts lengths)) → Err e ≡ checked (judge_of (alone_of starts lengths numbers counts head turn))
  alone_by_table e said = alone_says (Err e) (by_table of_table of_wants of_head e said)

  module _ (u : Unit) (passes : Ok u ≡ checked (first_of (place_checks starts lengths))) where
    pub alone_by_wants : (e : Verdict) → Err e ≡ checked (first_of (wants_checks (length starts) numbers counts))
        → Err e ≡ checked (judge_of (alone_of starts lengths numbers counts head turn))
    alone_by_wants e said = alone_says (Err e) (by_wants of_table of_wants of_head u passes e said)

    pub alone_by_head : (v : Unit) → Ok v ≡ checked (first_of (wants_checks (length starts) numbers counts)) → (x : Result Unit Verdict)
        → x ≡ checked (first_of (head_checks turn head (right_end (lone_stops starts lengths numbers counts)))) → x ≡ checked (judge_of (alone_of starts lengths numbers counts head turn))
    alone_by_head v on x said = alone_says x (by_head of_table of_wants of_head u passes v on x said)
