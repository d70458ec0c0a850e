-- The windows that a choice asks, what it makes of them, and the loops over the choices of a window.
use Prim.Native.Nat.{ℕ, zero, suc, ◌+◌, ◌-◌, ◌*◌, ◌≤◌, ◌<◌, min}
use native.Mathlib.Omega.{arith}
use native.Mathlib.Decide.{dec_lt}
use native.Mathlib.Nat.{le_refl}
use borrow.Author.Tests.{lt-ltb, le-ltb}
use mathlib.Core.Path.{◌≡◌, refl, sym, ap, ◌∙◌}
use mathlib.Core.Bool.{Bool, true, false, cond}
use mathlib.Core.List.{List}
use lib.ListN.{get_or}
use lib.Dec.{ltb}
use mir.Syntax.{w64}
use mir.Val.{Fits}
use Rattle.runs.specs.Run.{last_place, highest_turn, most_reads}
use Rattle.least.specs.Recurrence.{W, early, wait, lower, lowest, scan, candidate, choice}
use Rattle.least.proofs.Scan.{lowest_one_more, lowest_end, scan_one_more, scan_end}
use Rattle.least.proofs.Value.{value_none, value_step}
use Rattle.least.proofs.Bounds.{candidate_bound}
use Rattle.engine_plain.specs.Private.{start_at, stop_end, reads_at, reads_up_to, Asked, MayChoose, worth, choice_worth, chosen_at}
use Rattle.engine_plain.proofs.Sizes.{reads_more, reads_rise, left_near, asked_early, early_small, wait_small}

-- A window with a stop has one at its end, which lies in each row of the stops; and a number of reads fits a word.
pub some_stop : (a b : ℕ) → a < b → 1 ≤ b
some_stop a b h = omega arith

pub row_in : (b k m : ℕ) → b < k → m ≡ k → b < m
row_in b k m l e = omega arith

pub reads_fit : (n : ℕ) → n ≤ most_reads → Fits w64 n
reads_fit n h = omega arith

back_one : (b : ℕ) → 0 < b → suc (b - 1) ≡ b
back_one b h = omega arith

-- What a choice comes to.
module _ (lefts spans reads : List ℕ) (turn a : ℕ) where
  pub skip_is : (b s : ℕ) → 0 < b → early (start_at lefts) (reads_at reads) a b + worth lefts spans reads turn a (b - 1) (s + get_or reads b 0) ≡ choice_worth lefts spans reads turn a b s 0
  unfolding candidate
  skip_is zero s h = absurd (omega arith)
  skip_is (suc b) s h = let e : suc b - 1 ≡ b = omega arith in rw e

  pub detour_is : (b s c : ℕ) → 0 < b → 0 < c
      → wait (start_at lefts) (stop_end lefts spans) (reads_at reads) turn c b s + early (start_at lefts) (reads_at reads) c b + worth lefts spans reads turn c (b - 1) (s + get_or reads b 0) + worth lefts spans reads turn a (c - 1) s
      ≡ choice_worth lefts spans reads turn a b s c
  unfolding candidate
  detour_is zero s c h k = absurd (omega arith)
  detour_is (suc b) s zero h k = absurd (omega arith)
  detour_is (suc b) s (suc d) h k =
      let e : suc b - 1 ≡ b = omega arith in
      let f : suc d - 1 ≡ d = omega arith in
      rw (e, f)

module _ (lefts spans reads : List ℕ) (turn a b s : ℕ) (q : Asked lefts spans reads turn a b s) where
  -- The reads of stop b are skipped too.
  pub skipped_few : s + get_or reads b 0 ≤ most_reads
  skipped_few = omega (arith, q.span, reads_more reads b)

  pub asked_inner : (c : ℕ) → 0 < b → Asked lefts spans reads turn c (b - 1) (s + get_or reads b 0)
  asked_inner c h =
      let e : b - 1 + 1 ≡ b = omega arith in
      record { laid = q.laid; inside = omega (arith, q.inside); span = rw e (omega (arith, q.span, reads_more reads b)) }

  pub asked_rest : (c : ℕ) → 0 < c → c ≤ b → Asked lefts spans reads turn a (c - 1) s
  asked_rest c h k =
      let e : c - 1 + 1 ≡ c = omega arith in
      record { laid = q.laid; inside = omega (arith, q.inside); span = rw e (omega (arith, q.span, reads_rise reads c (b + 1) (omega arith))) }

  pub asked_from : (c : ℕ) → Asked lefts spans reads turn c b s
  asked_from c = record { laid = q.laid; inside = q.inside; span = q.span }

  -- What a choice comes to is far below a word's limit.
  pub choice_small : (c : ℕ) → 0 < b → c ≤ b → choice_worth lefts spans reads turn a b s c ≤ 2 * (turn + 2 * last_place) * most_reads
  unfolding reads_up_to
  choice_small c h k =
      let e = back_one b h in
      let two : suc (suc (b - 1)) ≡ b + 1 = omega arith in
      candidate_bound (start_at lefts) (stop_end lefts spans) (reads_at reads) turn last_place most_reads a (b - 1) s c
      (λ i m. left_near lefts spans reads turn q.laid i (omega (arith, q.inside)))
      (rw e (q.laid.near b q.inside))
      (omega (arith, ap (W (reads_at reads)) two, q.span))
      (omega arith)

  -- The sums that the code forms of what it is told.
  module _ (e x : ℕ) (e-is : e ≡ early (start_at lefts) (reads_at reads) a b) (x-is : x ≡ worth lefts spans reads turn a (b - 1) (s + get_or reads b 0)) (some : 0 < b) where
    pub skip_so : e + x ≡ choice_worth lefts spans reads turn a b s 0
    skip_so = rw (e-is, x-is) (skip_is lefts spans reads turn a b s some)

    pub skip_fits : e + x ≤ 2 * (turn + 2 * last_place) * most_reads
    skip_fits = omega (arith, skip_so, choice_small 0 some (omega arith))

  module _ (c w e x : ℕ) (w-is : w ≡ wait (start_at lefts) (stop_end lefts spans) (reads_at reads) turn c b s) (e-is : e ≡ early (start_at lefts) (reads_at reads) c b)
      (x-is : x ≡ worth lefts spans reads turn c (b - 1) (s + get_or reads b 0)) (m : MayChoose a b c) (some : c ≡ 0 → ⊥) where
    detour_parts_here : w + e + x + worth lefts spans reads turn a (c - 1) s ≡ choice_worth lefts spans reads turn a b s c
    detour_parts_here = rw (w-is, e-is, x-is) (detour_is lefts spans reads turn a b s c (omega (arith, m.some)) (omega arith))

    pub detour_part_fits : w + e + x ≤ 2 * (turn + 2 * last_place) * most_reads
    detour_part_fits = omega (arith, detour_parts_here, choice_small c (omega (arith, m.some)) m.up_to)

    module _ (y : ℕ) (y-is : y ≡ worth lefts spans reads turn a (c - 1) s) where
      pub detour_so : w + e + x + y ≡ choice_worth lefts spans reads turn a b s c
      detour_so = rw y-is detour_parts_here

      pub detour_fits : w + e + x + y ≤ 2 * (turn + 2 * last_place) * most_reads
      detour_fits = omega (arith, detour_so, choice_small c (omega (arith, m.some)) m.up_to)

  pub two_fit : (w e : ℕ) → w ≡ wait (start_at lefts) (stop_end lefts spans) (reads_at reads) turn a b s → e ≡ early (start_at lefts) (reads_at reads) a b → a ≤ b
      → w + e ≤ 2 * (highest_turn + last_place) * most_reads + 2 * last_place * most_reads
  unfolding reads_up_to
  two_fit w e w-is e-is h = omega (arith, w-is, e-is, wait_small lefts spans reads turn a b s q h, early_small lefts reads a b (asked_early lefts spans reads turn a b s q a h))

  pub no_window : b ≤ a → 0 ≡ worth lefts spans reads turn a b s
  no_window h = sym (value_none (start_at lefts) (stop_end lefts spans) (reads_at reads) turn a b s h)

-- Before the choice c: the choices up to here are in.
pub record WindowLoop (lefts spans reads : List ℕ) (turn a b s least c : ℕ) : Type 0 where
  pub some : a < b
  pub up_to : c ≤ b
  pub left : lowest (choice_worth lefts spans reads turn a b s) a c least ≡ worth lefts spans reads turn a b s

-- And where the choice is kept as well.
pub record ChosenLoop (lefts spans reads : List ℕ) (turn a b s at least c : ℕ) : Type 0 where
  pub some : a < b
  pub up_to : c ≤ b
  pub worth_of : least ≡ choice_worth lefts spans reads turn a b s at
  pub left : scan (choice_worth lefts spans reads turn a b s) a c at ≡ chosen_at lefts spans reads turn a b s

worth_either : (f : ℕ → ℕ) (t : Bool) (c k : ℕ) → cond t (f c) (f k) ≡ f (cond t c k)
worth_either f true c k = refl
worth_either f false c k = refl

-- The lower of two, as `min` takes it; and a choice that is lower comes before the one at hand, another does not.
pub lower_min : (x y low : ℕ) → low ≡ min x y → low ≡ lower x y
lower_min x y low is = elim (dec_lt y x) [ yes h ↦ rw (lt-ltb y x h) (omega arith) | no n ↦ rw (le-ltb y x (omega arith)) (omega arith) ]

abbrev pub Sooner : ℕ → ℕ → ℕ → ℕ → ℕ → ℕ → Type 0
Sooner at least c cost at' low = (at' ≡ cond (ltb cost least) c at) × (low ≡ lower least cost)

pub sooner : (at least c cost at' low : ℕ) → cost < least → at' ≡ c → low ≡ cost → Sooner at least c cost at' low
sooner at least c cost at' low h at-is low-is = (rw (lt-ltb cost least h) at-is, rw (lt-ltb cost least h) low-is)

pub not_sooner : (at least c cost at' low : ℕ) → least ≤ cost → at' ≡ at → low ≡ least → Sooner at least c cost at' low
not_sooner at least c cost at' low h at-is low-is = (rw (le-ltb cost least h) at-is, rw (le-ltb cost least h) low-is)

module _ (lefts spans reads : List ℕ) (turn a b s : ℕ) where
  pub window_starts : a < b → (least : ℕ) → least ≡ choice_worth lefts spans reads turn a b s 0 → WindowLoop lefts spans reads turn a b s least b
  window_starts h least is =
      let e = back_one b (omega arith) in
      record {
        some = h;
        up_to = le_refl b;
        left = rw (is) (sym (rw e at (value_step (start_at lefts) (stop_end lefts spans) (reads_at reads) turn a (b - 1) s (omega arith))));
      }

  module _ (least c : ℕ) (w : WindowLoop lefts spans reads turn a b s least c) where
    pub window_turn : a < c → (cost low : ℕ) → cost ≡ choice_worth lefts spans reads turn a b s c → low ≡ lower least cost → WindowLoop lefts spans reads turn a b s low (c - 1)
    window_turn h cost low cost-is low-is =
        record {
          some = w.some;
          up_to = omega (arith, w.up_to);
          left = rw (low-is, cost-is) (sym (lowest_one_more (choice_worth lefts spans reads turn a b s) a c least h) ∙ w.left);
        }

    pub window_ends : c ≤ a → least ≡ worth lefts spans reads turn a b s
    window_ends h = sym (lowest_end (choice_worth lefts spans reads turn a b s) a c least h) ∙ w.left

  pub chosen_starts : a < b → (least : ℕ) → least ≡ choice_worth lefts spans reads turn a b s 0 → ChosenLoop lefts spans reads turn a b s 0 least b
  unfolding choice
  chosen_starts h least is =
      let e = back_one b (omega arith) in
      record { some = h; up_to = le_refl b; worth_of = is; left = rw e }

  module _ (at least c : ℕ) (w : ChosenLoop lefts spans reads turn a b s at least c) where
    pub chosen_turn : a < c → (cost at' low : ℕ) → cost ≡ choice_worth lefts spans reads turn a b s c → at' ≡ cond (ltb cost least) c at → low ≡ lower least cost
        → ChosenLoop lefts spans reads turn a b s at' low (c - 1)
    chosen_turn h cost at' low cost-is at-is low-is =
        record {
          some = w.some;
          up_to = omega (arith, w.up_to);
          worth_of = rw (low-is, at-is, cost-is, w.worth_of) (worth_either (choice_worth lefts spans reads turn a b s) (ltb (choice_worth lefts spans reads turn a b s c) (choice_worth lefts spans reads turn a b s at)) c at);
          left = rw (at-is, cost-is, w.worth_of) (sym (scan_one_more (choice_worth lefts spans reads turn a b s) a c at h) ∙ w.left);
        }

    pub chosen_ends : c ≤ a → at ≡ chosen_at lefts spans reads turn a b s
    chosen_ends h = sym (scan_end (choice_worth lefts spans reads turn a b s) a c at h) ∙ w.left
