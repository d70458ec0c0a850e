-- Rows of files as a head meets them: they are filled entry by entry, and their stops are the run's stops as the head meets them.
use Prim.Native.Nat.{ℕ, suc, ◌+◌, ◌-◌, ◌≤◌, ◌<◌, min}
use mathlib.Core.Path.{◌≡◌, refl, sym, ◌∙◌}
use mathlib.Core.Logic.{by_cases}
use mathlib.Core.List.{List, [], ◌∷◌}
use native.Mathlib.Omega.{arith}
use native.Mathlib.Decide.{dec_lt}
use Rattle.std.proofs.lemmas.Bool.Decides.{nat_tests}
use lib.ListN.{length, get_or, take, set, length-set}
use lib.Seq.{length-take-le, get_or-take, get_or-set_same, get_or-set_other}
use Rattle.runs.specs.Run.{end_at, last_place}
use Rattle.runs.specs.Alone.{alone_of, lone_stops}
use Rattle.runs.specs.AnyHead.{smaller, lifted, pulled}
use Rattle.runs.proofs.AnyHead.{accepted_any, smaller_is}
use Rattle.runs.proofs.Judged.{GoodRun}
use Rattle.runs.proofs.Table.{table_file}
use Rattle.engine_table.specs.Private.{AnyRun, FirstHold, met_start, met_length, Met, Judged}

-- The smaller of two numbers, as std has it.
pub smaller_by_min : (x y : ℕ) → min x y ≡ smaller x y
smaller_by_min x y = grind (arith, nat_tests)

pub first_more : (i : ℕ) (f : ℕ → ℕ) (row : List ℕ) → FirstHold i f row → i < length row → (v : ℕ) → v ≡ f i → FirstHold (i + 1) f (set row i v)
first_more i f row h l v e =
    record {
      long = omega (arith, length-set row i v);
      each = λ j k.
          by_cases
          (dec_lt j i)
          (λ m. get_or-set_other row i j v 0 (omega arith) ∙ h.each j m)
          (λ m. let q : j ≡ i = omega arith in rw q (get_or-set_same row i v 0 l ∙ e));
    }

module _ (head : ℕ) (starts lengths lefts spans : List ℕ) where
  met_rows : FirstHold (length starts) (met_start head starts) lefts → FirstHold (length starts) (met_length head starts lengths) spans
      → Met head starts lengths (take (length starts) lefts) (take (length starts) spans)
  met_rows l s =
      record {
        as_many = length-take-le (length starts) lefts l.long;
        even = length-take-le (length starts) spans s.long;
        left = λ i h. get_or-take (length starts) lefts i 0 h ∙ l.each i h;
        end = λ i h.
            omega (
              arith,
              get_or-take (length starts) lefts i 0 h,
              get_or-take (length starts) spans i 0 h,
              l.each i h,
              s.each i h,
              (smaller_is (get_or starts i 0) head).first,
            );
      }

  met_stops : Met head starts lengths lefts spans → (ns cs : List ℕ) → ((i : ℕ) → i < length ns → get_or ns i 0 - 1 < length starts)
      → lone_stops lefts spans ns cs ≡ pulled head (lone_stops starts lengths ns cs)
  unfolding lone_stops pulled
  met_stops m [] cs inside = refl
  met_stops m (f ∷ fs) [] inside = refl
  met_stops m (f ∷ fs) (c ∷ cs) inside =
      let here : f - 1 < length starts = inside 0 (omega arith) in
      rw (m.end (f - 1) here, m.left (f - 1) here, met_stops m fs cs (λ i l. inside (suc i) (omega arith)))

module _ (starts lengths numbers counts : List ℕ) (head turn reads : ℕ) (r : AnyRun starts lengths numbers counts head turn reads) where
  pub good_run : GoodRun (lifted (alone_of starts lengths numbers counts head turn))
  good_run = (accepted_any (alone_of starts lengths numbers counts head turn) r.accepts).run

  pub table_even : length starts ≡ length lengths
  table_even = good_run.files.table.equal

  pub table_ends : (i : ℕ) → i < length starts → end_at starts lengths i ≤ last_place
  table_ends i l = (table_file starts lengths good_run.files.table i l).ends

  pub counts_even : length counts ≡ length numbers
  counts_even = sym good_run.wants.equal

  module _ (lefts spans : List ℕ) (l : FirstHold (length starts) (met_start head starts) lefts) (s : FirstHold (length starts) (met_length head starts lengths) spans) where
    pub judged_met : Judged (take (length starts) lefts) (take (length starts) spans) numbers counts turn reads
    judged_met = record { starts = starts; lengths = lengths; head = head; run = r; met = met_rows head starts lengths lefts spans l s }

    pub stops_met : lone_stops (take (length starts) lefts) (take (length starts) spans) numbers counts ≡ pulled head (lone_stops starts lengths numbers counts)
    stops_met =
        met_stops head starts lengths (take (length starts) lefts) (take (length starts) spans) (met_rows head starts lengths lefts spans l s) numbers counts
        (λ i h. omega (arith, good_run.wants.each i h))
