-- Joining stops: names, the leftmost, reads, places by name and sums are the same before and after; and wants of which each has the name and
-- the places of the one before it, or lies right of it, make stops that lie apart.
use Prim.Native.Nat.{ℕ, zero, suc, ◌+◌, ◌*◌, ◌≤◌, ◌<◌}
use mathlib.Core.Path.{◌≡◌, refl, sym, ap, ◌∙◌}
use mathlib.Core.Bool.{Bool, true, false, cond, ◌||◌, true≢false}
use mathlib.Core.Logic.{⊎_elim, ◌⊎◌, inl, inr}
use mathlib.Core.List.{List, [], ◌∷◌}
use native.Mathlib.Omega.{arith}
use lib.ListN.{length, drop}
use lib.Dec.{eqb}
use borrow.Author.Tests.{eqb-true, eqb-false, eq-eqb, ne_eqb}
use Rattle.runs.specs.Run.{Stop, merged, join_to, joined}
use Rattle.runs.specs.Judging.{right_end}
use Rattle.runs.specs.Rows.{stop_at}
use Rattle.runs.specs.Lists.{wanted, leftmost}
use Rattle.runs.proofs.Search.{true_or_false}
use Rattle.runs.proofs.Sound.{Sound}

-- A stop beside a list: of the name of the first there, or of another.
pub join_same : (s t : Stop) (ts : List Stop) → s.file ≡ t.file → join_to s (t ∷ ts) ≡ merged s t ∷ ts
unfolding join_to
join_same s t ts e = rw (eq-eqb s.file t.file e)

pub join_other : (s t : Stop) (ts : List Stop) → (s.file ≡ t.file → ⊥) → join_to s (t ∷ ts) ≡ s ∷ t ∷ ts
unfolding join_to
join_other s t ts e = rw (ne_eqb s.file t.file e)

pub join_none : (s : Stop) → join_to s [] ≡ s ∷ []
unfolding join_to
join_none s = refl

-- One of the two.
pub by_name : {A : Type 0} (s t : Stop) → (s.file ≡ t.file → A) → ((s.file ≡ t.file → ⊥) → A) → A
by_name s t f g = ⊎_elim (λ e. f (eqb-true _ _ e)) (λ e. g (eqb-false _ _ e)) (true_or_false (eqb s.file t.file))

or_twice : (a b : Bool) → (a || b) ≡ (a || (a || b))
or_twice true b = refl
or_twice false b = refl

-- Which names are wanted.
wanted_join : (s : Stop) (ts : List Stop) (f : ℕ) → wanted (join_to s ts) f ≡ (eqb s.file f || wanted ts f)
unfolding wanted
wanted_join s [] f = rw (join_none s)
wanted_join s (t ∷ ts) f =
    by_name s t
    (λ e. rw (join_same s t ts e, ← e) (or_twice (eqb s.file f) (wanted ts f)))
    (λ n. rw (join_other s t ts n))

pub wanted_joined : (ss : List Stop) (f : ℕ) → wanted (joined ss) f ≡ wanted ss f
unfolding joined wanted
wanted_joined [] f = refl
wanted_joined (s ∷ ss) f = wanted_join s (joined ss) f ∙ ap (λ b. eqb s.file f || b) (wanted_joined ss f)

-- The leftmost.
leftmost_join : (s : Stop) (ts : List Stop) → leftmost (join_to s ts) ≡ s.file
leftmost_join s [] = rw (join_none s)
leftmost_join s (t ∷ ts) = by_name s t (λ e. rw (join_same s t ts e)) (λ n. rw (join_other s t ts n))

pub leftmost_joined : (ss : List Stop) → leftmost (joined ss) ≡ leftmost ss
unfolding joined
leftmost_joined [] = refl
leftmost_joined (s ∷ ss) = leftmost_join s (joined ss)

-- There are no more stops than wants, and none only where nothing is wanted.
length_join : (s : Stop) (ts : List Stop) → (0 < length (join_to s ts)) × (length (join_to s ts) ≤ suc (length ts)) × (length ts ≤ length (join_to s ts))
length_join s [] = rw (join_none s) (omega arith, omega arith, omega arith)
length_join s (t ∷ ts) = by_name s t (λ e. rw (join_same s t ts e) (omega arith, omega arith, omega arith)) (λ n. rw (join_other s t ts n) (omega arith, omega arith, omega arith))

pub length_joined : (ss : List Stop) → length (joined ss) ≤ length ss
unfolding joined
length_joined [] = omega arith
length_joined (s ∷ ss) = omega (arith, (length_join s (joined ss)).1, length_joined ss)

pub some_joined : (ss : List Stop) → 0 < length ss → 0 < length (joined ss)
unfolding joined
some_joined [] l = absurd (omega arith)
some_joined (s ∷ ss) l = (length_join s (joined ss)).0

-- Nor do fewer wants make more stops.
pub joined_fewer : (ss : List Stop) (i : ℕ) → length (joined (drop i ss)) ≤ length (joined ss)
unfolding joined
joined_fewer [] zero = omega arith
joined_fewer [] (suc i) = omega arith
joined_fewer (s ∷ ss) zero = omega arith
joined_fewer (s ∷ ss) (suc i) = omega (arith, joined_fewer ss i, (length_join s (joined ss)).2)

-- The reads of stops, in all.
unfoldable pub reads_of : List Stop → ℕ
reads_of [] = 0
reads_of (s ∷ ss) = s.count + reads_of ss

reads_join : (s : Stop) (ts : List Stop) → reads_of (join_to s ts) ≡ s.count + reads_of ts
unfolding reads_of
reads_join s [] = rw (join_none s)
reads_join s (t ∷ ts) = by_name s t (λ e. rw (join_same s t ts e) (omega arith)) (λ n. rw (join_other s t ts n))

pub reads_joined : (ss : List Stop) → reads_of (joined ss) ≡ reads_of ss
unfolding joined reads_of
reads_joined [] = refl
reads_joined (s ∷ ss) = reads_join s (joined ss) ∙ ap (λ n. s.count + n) (reads_joined ss)

pub reads_fewer : (ss : List Stop) (i : ℕ) → reads_of (drop i ss) ≤ reads_of ss
unfolding reads_of
reads_fewer [] zero = omega arith
reads_fewer [] (suc i) = omega arith
reads_fewer (s ∷ ss) zero = omega arith
reads_fewer (s ∷ ss) (suc i) = omega (arith, reads_fewer ss i)

-- A place of the stop of a name, its start or its end: that of the first stop so named; 0 where there is none.
unfoldable pub place_by : (Stop → ℕ) → List Stop → ℕ → ℕ
place_by g [] f = 0
place_by g (s ∷ ss) f = cond (eqb s.file f) (g s) (place_by g ss f)

cond_twice : (b c : Bool) → b ≡ c → (x y z : ℕ) → cond b x z ≡ cond b x (cond c y z)
cond_twice true c e x y z = refl
cond_twice false true e x y z = absurd (true≢false (sym e))
cond_twice false false e x y z = refl

module _ (g : Stop → ℕ) (keeps : (s t : Stop) → g (merged s t) ≡ g s) where
  place_join : (s : Stop) (ts : List Stop) (f : ℕ) → place_by g (join_to s ts) f ≡ cond (eqb s.file f) (g s) (place_by g ts f)
  unfolding place_by
  place_join s [] f = rw (join_none s)
  place_join s (t ∷ ts) f =
      by_name s t
      (λ e. rw (join_same s t ts e, keeps s t) (cond_twice (eqb s.file f) (eqb t.file f) (ap (λ x. eqb x f) e) (g s) (g t) (place_by g ts f)))
      (λ n. rw (join_other s t ts n))

  pub place_joined : (ss : List Stop) (f : ℕ) → place_by g (joined ss) f ≡ place_by g ss f
  unfolding joined place_by
  place_joined [] f = refl
  place_joined (s ∷ ss) f = place_join s (joined ss) f ∙ ap (λ x. cond (eqb s.file f) (g s) x) (place_joined ss f)

-- What holds of each stop and the next.
abbrev pub Next : (Stop → Stop → Type 0) → Stop → List Stop → Type 0
Next P s [] = Unit {0}
Next P s (t ∷ ts) = P s t

abbrev pub Neighbours : (Stop → Stop → Type 0) → List Stop → Type 0
Neighbours P [] = Unit {0}
Neighbours P (s ∷ ss) = Next P s ss × Neighbours P ss

-- Stops of one name have one start and one end.
pub record Places (s t : Stop) : Type 0 where
  pub start : s.start ≡ t.start
  pub end : s.end ≡ t.end

abbrev pub Agree : Stop → Stop → Type 0
Agree s t = s.file ≡ t.file → Places s t

agree_join : (s t : Stop) (us : List Stop) → Agree s t → Next Agree s (join_to t us)
agree_join s t [] a = rw (join_none t) a
agree_join s t (u ∷ us) a = by_name t u (λ e. rw (join_same t u us e) (λ n. record { start = (a n).start; end = (a n).end })) (λ n. rw (join_other t u us n) a)

pub agree_joined : (s : Stop) (ss : List Stop) → Next Agree s ss → Next Agree s (joined ss)
unfolding joined
agree_joined s [] a = a
agree_joined s (t ∷ ts) a = agree_join s t (joined ts) a

-- The first stop has the places of the first want.
first_join : (s : Stop) (ts : List Stop) → Places (stop_at (join_to s ts) 0) s
first_join s [] = rw (join_none s) (record { start = refl; end = refl })
first_join s (t ∷ ts) =
    by_name s t (λ e. rw (join_same s t ts e) (record { start = refl; end = refl })) (λ n. rw (join_other s t ts n) (record { start = refl; end = refl }))

pub first_joined : (ss : List Stop) → 0 < length ss → Places (stop_at (joined ss) 0) (stop_at ss 0)
unfolding joined
first_joined [] l = absurd (omega arith)
first_joined (s ∷ ss) l = first_join s (joined ss)

-- The rightmost end.
right_merged : (s t : Stop) (ts : List Stop) → s.end ≡ t.end → right_end (merged s t ∷ ts) ≡ right_end (t ∷ ts)
unfolding right_end
right_merged s t [] e = e
right_merged s t (u ∷ us) e = refl

right_next : (s t : Stop) (ts : List Stop) → right_end (s ∷ t ∷ ts) ≡ right_end (t ∷ ts)
unfolding right_end
right_next s t ts = refl

right_join : (s : Stop) (ts : List Stop) → 0 < length ts → Next Agree s ts → right_end (join_to s ts) ≡ right_end ts
right_join s [] l a = absurd (omega arith)
right_join s (t ∷ ts) l a =
    by_name s t
    (λ e. rw (join_same s t ts e) (right_merged s t ts (a e).end))
    (λ n. rw (join_other s t ts n) (right_next s t ts))

pub right_joined : (ss : List Stop) → Neighbours Agree ss → right_end (joined ss) ≡ right_end ss
unfolding joined
right_joined [] a = refl
right_joined (s ∷ []) a = ap right_end (join_none s)
right_joined (s ∷ t ∷ ts) a =
    right_join s (joined (t ∷ ts)) (some_joined (t ∷ ts) (omega arith)) (agree_joined s (t ∷ ts) a.0)
    ∙ right_joined (t ∷ ts) a.1
    ∙ sym (right_next s t ts)

-- The sum of count times what hangs on a stop's places alone.
unfoldable pub weighed : (Stop → ℕ) → List Stop → ℕ
weighed h [] = 0
weighed h (s ∷ ss) = s.count * h s + weighed h ss

both_weigh : (c d x y w : ℕ) → x ≡ y → (c + d) * x + w ≡ c * x + (d * y + w)
both_weigh c d x y w e = rw (← e) (omega arith)

module _ (h : Stop → ℕ) (same : (s t : Stop) → Places s t → h s ≡ h t) where
  weigh_join : (s : Stop) (ts : List Stop) → Next Agree s ts → weighed h (join_to s ts) ≡ s.count * h s + weighed h ts
  unfolding weighed
  weigh_join s [] a = rw (join_none s)
  weigh_join s (t ∷ ts) a =
      by_name s t
      (λ e.
      rw (join_same s t ts e, same (merged s t) s (record { start = refl; end = refl }))
      (both_weigh s.count t.count (h s) (h t) (weighed h ts) (same s t (a e))))
      (λ n. rw (join_other s t ts n))

  pub weighed_joined : (ss : List Stop) → Neighbours Agree ss → weighed h (joined ss) ≡ weighed h ss
  unfolding joined weighed
  weighed_joined [] a = refl
  weighed_joined (s ∷ ss) a =
      weigh_join s (joined ss) (agree_joined s ss a.0) ∙ ap (λ n. s.count * h s + n) (weighed_joined ss a.1)

-- Stops whose neighbours all have different names stay as they are.
abbrev pub Differ : Stop → Stop → Type 0
Differ s t = s.file ≡ t.file → ⊥

pub joined_alone : (ss : List Stop) → Neighbours Differ ss → joined ss ≡ ss
unfolding joined
joined_alone [] d = refl
joined_alone (s ∷ []) d = join_none s
joined_alone (s ∷ t ∷ ts) d = ap (join_to s) (joined_alone (t ∷ ts) d.1) ∙ join_other s t ts d.0

-- A stop as it must be, two that lie apart, and the wants of one aggregate or of two that lie apart.
pub record Fine (s : Stop) : Type 0 where
  pub named : 0 < s.file
  pub extends : s.start < s.end
  pub counted : 0 < s.count

pub record Apart (s t : Stop) : Type 0 where
  pub ascends : s.file < t.file
  pub clear : s.end ≤ t.start

pub record Alike (s t : Stop) : Type 0 where
  pub name : s.file ≡ t.file
  pub places : Places s t

abbrev pub Follows : Stop → Stop → Type 0
Follows s t = Alike s t ⊎ Apart s t

abbrev pub AllFine : List Stop → Type 0
AllFine [] = Unit {0}
AllFine (s ∷ ss) = Fine s × AllFine ss

-- Joined, they all lie apart.
pub record Strict (ss : List Stop) : Type 0 where
  pub fine : AllFine ss
  pub apart : Neighbours Apart ss

follows_join : (s t : Stop) (us : List Stop) → Follows s t → Next Follows s (join_to t us)
follows_join s t [] a = rw (join_none t) a
follows_join s t (u ∷ us) a = by_name t u (λ e. rw (join_same t u us e) (merge e)) (λ n. rw (join_other t u us n) a)
  where
    merge : t.file ≡ u.file → Follows s (merged t u)
    merge e =
        ⊎_elim
        (λ x. inl (record { name = x.name; places = record { start = x.places.start; end = x.places.end } }))
        (λ x. inr (record { ascends = x.ascends; clear = x.clear }))
        a

follows_joined : (s : Stop) (ss : List Stop) → Next Follows s ss → Next Follows s (joined ss)
unfolding joined
follows_joined s [] a = a
follows_joined s (t ∷ ts) a = follows_join s t (joined ts) a

next_merged : (s t : Stop) (ts : List Stop) → Alike s t → Next Apart t ts → Next Apart (merged s t) ts
next_merged s t [] a n = tt
next_merged s t (u ∷ us) a n = record { ascends = omega (arith, a.name, n.ascends); clear = omega (arith, a.places.end, n.clear) }

merged_fine : (s t : Stop) → Fine s → Fine (merged s t)
merged_fine s t f = record { named = f.named; extends = f.extends; counted = omega (arith, f.counted) }

strict_join : (s : Stop) (ts : List Stop) → Fine s → Next Follows s ts → Strict ts → Strict (join_to s ts)
strict_join s [] f a k = rw (join_none s) (record { fine = (f, tt); apart = (tt, tt) })
strict_join s (t ∷ ts) f a k =
    ⊎_elim
    (λ (x : Alike s t).
    rw (join_same s t ts x.name)
    (record { fine = (merged_fine s t f, k.fine.1); apart = (next_merged s t ts x k.apart.0, k.apart.1) }))
    (λ (x : Apart s t). rw (join_other s t ts (different x)) (record { fine = (f, k.fine); apart = (x, k.apart) }))
    a
  where
    different : Apart s t → s.file ≡ t.file → ⊥
    different x e = omega (arith, x.ascends)

pub strict_joined : (ss : List Stop) → AllFine ss → Neighbours Follows ss → Strict (joined ss)
unfolding joined
strict_joined [] f a = record { fine = tt; apart = tt }
strict_joined (s ∷ ss) f a = strict_join s (joined ss) f.0 (follows_joined s ss a.0) (strict_joined ss f.1 a.1)

-- Wants that follow one another agree.
pub follows_agree : (ss : List Stop) → Neighbours Follows ss → Neighbours Agree ss
follows_agree [] a = tt
follows_agree (s ∷ []) a = (tt, tt)
follows_agree (s ∷ t ∷ ts) a = (agrees, follows_agree (t ∷ ts) a.1)
  where
    agrees : Agree s t
    agrees e = ⊎_elim (λ (x : Alike s t). x.places) (λ (x : Apart s t). absurd (omega (arith, x.ascends))) a.0

-- Stop by stop.
fine_at : (ss : List Stop) → AllFine ss → (i : ℕ) → i < length ss → Fine (stop_at ss i)
fine_at [] f i l = absurd (omega arith)
fine_at (s ∷ ss) f zero l = f.0
fine_at (s ∷ ss) f (suc i) l = fine_at ss f.1 i (omega arith)

apart_at : (ss : List Stop) → Neighbours Apart ss → (i : ℕ) → suc i < length ss → Apart (stop_at ss i) (stop_at ss (suc i))
apart_at [] a i l = absurd (omega arith)
apart_at (s ∷ []) a i l = absurd (omega arith)
apart_at (s ∷ t ∷ ts) a zero l = a.0
apart_at (s ∷ t ∷ ts) a (suc i) l = apart_at (t ∷ ts) a.1 i (omega arith)

first_to_right : (s : Stop) (ss : List Stop) → AllFine (s ∷ ss) → Neighbours Apart (s ∷ ss) → s.end ≤ right_end (s ∷ ss)
unfolding right_end
first_to_right s [] f a = omega arith
first_to_right s (t ∷ ts) f a = omega (arith, a.0.clear, f.1.0.extends, first_to_right t ts f.1 a.1)

end_at_lem : (ss : List Stop) → AllFine ss → Neighbours Apart ss → (i : ℕ) → i < length ss → (stop_at ss i).end ≤ right_end ss
end_at_lem [] f a i l = absurd (omega arith)
end_at_lem (s ∷ ss) f a zero l = first_to_right s ss f a
end_at_lem (s ∷ []) f a (suc i) l = absurd (omega arith)
end_at_lem (s ∷ t ∷ ts) f a (suc i) l = rw (right_next s t ts) (end_at_lem (t ∷ ts) f.1 a.1 i (omega arith))

-- Stops that lie apart, with the head right of them all, are sound.
pub strict_sound : (ss : List Stop) (m : ℕ) → Strict ss → right_end ss ≤ m → Sound ss m
strict_sound ss m k l =
    record {
      named = λ i h. (fine_at ss k.fine i h).named;
      ascends = λ i h. (apart_at ss k.apart i h).ascends;
      extends = λ i h. (fine_at ss k.fine i h).extends;
      apart = λ i h. (apart_at ss k.apart i h).clear;
      counted = λ i h. (fine_at ss k.fine i h).counted;
      reached = λ i h. omega (arith, end_at_lem ss k.fine k.apart i h);
    }
