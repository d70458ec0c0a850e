-- Two runs, the second from where the first ended, are one movement.
use Prim.Native.Nat.{ℕ, ◌+◌, ◌<◌}
use mathlib.Core.Path.{◌≡◌, refl, sym, ap, ◌∙◌}
use mathlib.Core.Bool.{true, false, true≢false}
use mathlib.Core.Logic.{⊎_elim}
use mathlib.Core.List.{List, [], ◌∷◌, ◌++◌}
use native.Mathlib.Omega.{arith}
use lib.ListN.{length}
use Rattle.runs.specs.Run.{Run, Stop}
use Rattle.runs.specs.Lists.{Detour}
use Rattle.runs.specs.AnyHead.{lifted}
use Rattle.runs.proofs.AnyHead.{GoodAnyRun}
use Rattle.runs.proofs.Search.{true_or_false, or_false_both}
use Rattle.walk.specs.declared.Answer.{Answer}
use Rattle.walk.specs.declared.Head.{Head}
use Rattle.walk.specs.declared.Leg.{Leg}
use Rattle.walk.specs.declared.Way.{Way}
use Rattle.walk.specs.declared.Way.TheVariants.{Leftward, Rightward}
use Rattle.walk.specs.Walk.{head_at, ready, set_off, after_leg, Moves, walked, reads, served, time_of}
use Rattle.walk.specs.AnyHead.{run_legs}
use Rattle.walk.specs.Rows.{ReadRows}
use Rattle.walk.proofs.Steps.{faced_place}
use Rattle.planner.specs.Rows.{reads_in}
use Rattle.demands.specs.Demand2.{list_in}
use Rattle.demands.specs.AnyLegs.{AreLegsOf}
use Rattle.demands.specs.AnyHead.{IsWalkAnyOf, Chained, ChainsOn, AnyChain}
use Rattle.demands.proofs.AnyLegs.{holds_true, holds_not}
use Rattle.demands.proofs.AnyHead.{good_run, demand2_walk_any}
use Rattle.demands.proofs.Ends.{some_stops}
use Rattle.demands.proofs.Nothing.{no_stops}

-- After a leg the head faces right, and its next move costs a turn.
after_way : (U : ℕ) (h : Head) (g : Leg) → (after_leg U h g).way ≡ Rightward
after_way U h g = go h.way refl
  where
    go : (w : Way) → h.way ≡ w → (after_leg U h g).way ≡ Rightward
    go Leftward e = rw e
    go Rightward e = rw e

ready_after : (U : ℕ) (h : Head) → h.way ≡ Rightward → (ready h U).clock ≡ h.clock + U
ready_after U h e = rw e

module _ (U : ℕ) where
  -- One movement behind another.
  moves_both : (h : Head) (gs hs : List Leg) → Moves h.place gs → Moves (walked U h gs).place hs → Moves h.place (gs ++ hs)
  unfolding walked
  moves_both h [] hs m n = n
  moves_both h (g ∷ gs) hs m n = (m.0, m.1, moves_both (after_leg U h g) gs hs m.2 n)

  time_first : (h : Head) (gs hs : List Leg) (s : Stop) → served gs s ≡ true → time_of U h (gs ++ hs) s ≡ time_of U h gs s
  unfolding time_of served
  time_first h [] hs s t = absurd (true≢false (sym t))
  time_first h (g ∷ gs) hs s t =
      let rest = time_first (after_leg U h g) gs hs s in
      ⊎_elim
      (λ (here : reads g s ≡ true). rw here)
      (λ (away : reads g s ≡ false). rw away (rest (rw away at t)))
      (true_or_false (reads g s))

  time_behind : (h : Head) (gs hs : List Leg) (s : Stop) → served gs s ≡ false → time_of U h (gs ++ hs) s ≡ time_of U (walked U h gs) hs s
  unfolding time_of served walked
  time_behind h [] hs s f = refl
  time_behind h (g ∷ gs) hs s f =
      let rest = time_behind (after_leg U h g) gs hs s in
      let both = or_false_both (reads g s) (served gs s) f in
      rw both.0 (rest both.1)

  -- Two heads at one place whose clocks, once set to move left, lie d apart: so they do at every turn, and at the end.
  module _ (d : ℕ) where
    off_later : (h k : Head) → h.place ≡ k.place → (ready h U).clock ≡ d + (ready k U).clock → (g : Leg) → (set_off U h g).clock ≡ d + (set_off U k g).clock
    off_later h k p e g = omega (arith, e, p, faced_place h.way h U, faced_place k.way k U)

    ready_later : (h k : Head) → h.place ≡ k.place → (ready h U).clock ≡ d + (ready k U).clock → (g : Leg) → (ready (after_leg U h g) U).clock ≡ d + (ready (after_leg U k g) U).clock
    ready_later h k p e g = omega (arith, off_later h k p e g, ready_after U (after_leg U h g) (after_way U h g), ready_after U (after_leg U k g) (after_way U k g))

    time_later : (h k : Head) → h.place ≡ k.place → (ready h U).clock ≡ d + (ready k U).clock → (gs : List Leg) (s : Stop) → served gs s ≡ true → time_of U h gs s ≡ d + time_of U k gs s
    unfolding time_of served
    time_later h k p e [] s t = absurd (true≢false (sym t))
    time_later h k p e (g ∷ gs) s t =
        let rest = time_later (after_leg U h g) (after_leg U k g) refl (ready_later h k p e g) gs s in
        ⊎_elim
        (λ (here : reads g s ≡ true). rw here (omega (arith, off_later h k p e g)))
        (λ (away : reads g s ≡ false). rw away (rest (rw away at t)))
        (true_or_false (reads g s))

    clock_later : (h k : Head) → h.place ≡ k.place → (ready h U).clock ≡ d + (ready k U).clock → h.clock ≡ d + k.clock → (gs : List Leg) → (walked U h gs).clock ≡ d + (walked U k gs).clock
    unfolding walked
    clock_later h k p e c [] = c
    clock_later h k p e c (g ∷ gs) = clock_later (after_leg U h g) (after_leg U k g) refl (ready_later h k p e g) (omega (arith, off_later h k p e g)) gs

    end_later : (h k : Head) → h.place ≡ k.place → (ready h U).clock ≡ d + (ready k U).clock → (gs : List Leg) → 0 < length gs → (walked U h gs).clock ≡ d + (walked U k gs).clock
    unfolding walked
    end_later h k p e [] l = absurd (omega arith)
    end_later h k p e (g ∷ gs) l = clock_later (after_leg U h g) (after_leg U k g) refl (ready_later h k p e g) (omega (arith, off_later h k p e g)) gs

  -- Where the head ends, and that it faces right after a leg.
  place_same : (h k : Head) → h.place ≡ k.place → (gs : List Leg) → (walked U h gs).place ≡ (walked U k gs).place
  unfolding walked
  place_same h k p [] = p
  place_same h k p (g ∷ gs) = place_same (after_leg U h g) (after_leg U k g) refl gs

  walked_both : (h : Head) (gs hs : List Leg) → walked U h (gs ++ hs) ≡ walked U (walked U h gs) hs
  unfolding walked
  walked_both h [] hs = refl
  walked_both h (g ∷ gs) hs = walked_both (after_leg U h g) gs hs

  walked_way : (h : Head) (g : Leg) (gs : List Leg) → (walked U h (g ∷ gs)).way ≡ Rightward
  unfolding walked
  walked_way h g [] = after_way U h g
  walked_way h g (g' ∷ gs) = walked_way (after_leg U h g) g' gs

  some_way : (h : Head) (gs : List Leg) → 0 < length gs → (walked U h gs).way ≡ Rightward
  some_way h [] l = absurd (omega arith)
  some_way h (g ∷ gs) l = walked_way h g gs

  none_walked : (h : Head) (gs : List Leg) → length gs ≡ 0 → walked U h gs ≡ h
  unfolding walked
  none_walked h [] e = refl
  none_walked h (g ∷ gs) e = absurd (omega arith)

-- Two walks, the second from where the first ended, at one turn price.
module _ (first second : Run) (good : GoodAnyRun first) (good' : GoodAnyRun second) (list list' : List Detour) (rows rows' : ReadRows) (answer answer' : Answer) (one : IsWalkAnyOf first list rows answer) (two : IsWalkAnyOf second list' rows' answer') (here : second.head ≡ answer.end) (price : second.turn ≡ first.turn) where
  abbrev U : ℕ
  U = first.turn

  abbrev gs : List Leg
  gs = run_legs first list

  abbrev hs : List Leg
  hs = run_legs second list'

  abbrev last : Head
  last = walked U (head_at first.head) gs

  at : last.place ≡ second.head
  at = sym (here ∙ one.end)

  some_legs : (r : Run) → GoodAnyRun r → (l : List Detour) → AreLegsOf r l (run_legs r l) → 0 < length r.numbers → 0 < length (run_legs r l)
  some_legs r g l made some = omega (arith, made.many (some_stops (lifted r) g.run some))

  chained : (later : ℕ) → (ready last U).clock ≡ later + (ready (head_at second.head) U).clock → Chained first second later answer' list list'
  chained later since =
      record {
        moves = moves_both U (head_at first.head) gs hs one.moves (rw at two.moves);
        first_times = λ s t. time_first U (head_at first.head) gs hs s (holds_true _ t);
        second_times = λ s n t.
            time_behind U (head_at first.head) gs hs s (holds_not _ n)
            ∙ time_later U later last (head_at second.head) at since hs s (holds_true _ t)
            ∙ ap (λ u. later + time_of u (head_at second.head) hs s) (sym price);
        finish = λ some.
            ap (λ h. h.clock) (walked_both U (head_at first.head) gs hs)
            ∙ end_later U later last (head_at second.head) at since hs (some_legs second good' list' two.made some)
            ∙ ap (λ u. later + (walked u (head_at second.head) hs).clock) (sym price)
            ∙ ap (λ n. later + n) (sym two.finish);
        end =
            ap (λ h. h.place) (walked_both U (head_at first.head) gs hs)
            ∙ place_same U last (head_at second.head) at hs
            ∙ ap (λ u. (walked u (head_at second.head) hs).place) (sym price)
            ∙ sym two.end;
      }

  chains_on : ChainsOn first second answer answer' list list'
  chains_on =
      record {
        read = λ some.
            let right = some_way U (head_at first.head) gs (some_legs first good list one.made some) in
            chained (answer.finish + U) (omega (arith, ready_after U last right, one.finish));
        idle = λ none.
            let stays = none_walked U (head_at first.head) gs (one.made.none (ap length (no_stops first.starts first.lengths first.aggregates first.numbers first.counts none))) in
            chained 0 (ap (λ h. (ready h U).clock) stays);
      }

pub any_chain : AnyChain
any_chain first second before before' answer answer' after after' plans accepts plans' accepts' here price =
    chains_on first second (good_run first before answer after plans accepts) (good_run second before' answer' after' plans' accepts') (list_in answer after) (list_in answer' after') (reads_in after) (reads_in after') answer answer'
    (demand2_walk_any first before answer after plans accepts) (demand2_walk_any second before' answer' after' plans' accepts') here price
