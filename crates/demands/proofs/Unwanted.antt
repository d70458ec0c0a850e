-- Unwanted files do not matter: two runs, the one with files left out, are judged alike, have the same lists but for the numbers, and one answer.
use Prim.Native.Nat.{ℕ, ◌+◌, ◌*◌, ◌<◌}
use mathlib.Core.Path.{◌≡◌, refl, sym, ap, ◌∙◌, subst}
use mathlib.Core.Bool.{Bool, true, false, not, ◌||◌}
use mathlib.Core.Logic.{◌↔◌}
use mathlib.Core.List.{List, [], ◌∷◌, ◌++◌}
use lib.ListN.{length, get_or, drop, replicate, length-map}
use lib.Dec.{ltb, leb}
use borrow.Author.Tests.{not-false}
use Rattle.refusals.specs.declared.Refusal.TheVariants.{Accepted, ShortRow, ShortRoom}
use Rattle.refusals.specs.declared.Verdict.{Verdict}
use Rattle.refusals.specs.Refusals.{refuse_if, first_of}
use Rattle.refusals.proofs.Verdicts.{refuses, first_refuses, first_passes}
use Rattle.walk.specs.declared.Answer.{Answer}
use Rattle.walk.specs.declared.Leg.{Leg}
use Rattle.runs.specs.Run.{Run, total, stops_of, want_stops_of}
use Rattle.runs.specs.Judging.{right_end, table_checks, wants_checks, head_checks, judge_of}
use Rattle.runs.specs.Lists.{Detour, list_of, entry_of, wanted, leftmost, bad_entry, first_bad_entry, WellFormed}
use Rattle.runs.specs.AnyHead.{pulled, head_any_checks, judge_any_of, first_bad_entry_any, lifted}
use Rattle.runs.proofs.Search.{first_zero, or_false_both}
use Rattle.runs.proofs.Sound.{Sound}
use Rattle.runs.proofs.Stops.{accepted_sound}
use Rattle.runs.proofs.AnyHead.{judge_any_lem, accepted_any}
use Rattle.runs.proofs.Judged.{accepted_wants, accepted_run}
use Rattle.walk.specs.Walk.{head_at, times_of, legs_for}
use Rattle.walk.specs.Detours.{legs_of}
use Rattle.walk.specs.Price.{refusal_answer, priced_answer, priced_times, priced_legs}
use Rattle.walk.specs.AnyHead.{legs_any_of, run_legs, priced_any_answer}
use Rattle.walk.proofs.AnyHead.{any_formed}
use Rattle.least.specs.Least.{LeastForRun}
use Rattle.least.specs.AnyHead.{LeastAny}
use Rattle.least.specs.Recurrence.{least_list}
use Rattle.least.proofs.LeastList.{least_list_lem, least_unique}
use Rattle.least.proofs.LeastAny.{least_any, least_any_unique}
use Rattle.planner.specs.Plan.{Planned, Refused, plan_verdict, room_for, short_rows}
use Rattle.planner.specs.AnyHead.{PlannedAny, plan_any_verdict}
use Rattle.planner.specs.Rows.{Rows}
use Rattle.demands.specs.RefusalTable.{IsFile, NothingApplies}
use Rattle.demands.specs.Demand2.{IsFormed, list_in}
use Rattle.demands.specs.AnyHead.{NothingAppliesAny, IsFormedAny}
use Rattle.demands.specs.Unwanted.{LeavesOut, TableInOrder, renamed, SameWalk, SameLists, SamePlans, UnwantedJudged, UnwantedJudgedAny, UnwantedLists, UnwantedListsAny, UnwantedPlans, UnwantedPlansAny}
use Rattle.demands.proofs.Judged.{nothing_judged, judged_nothing}
use Rattle.demands.proofs.AnyJudged.{nothing_judged_any, judged_nothing_any}
use Rattle.demands.proofs.AnySums.{formed_any_means}
use Rattle.demands.proofs.Demand2.{formed_list, is_formed}
use Rattle.demands.proofs.Planned as planned
use Rattle.demands.proofs.AnyHead as anywhere
use Rattle.demands.proofs.Renamed.{allRenamed, right_renamed, legs_renamed, pulled_renamed, legs_any_renamed, times_renamed, sum_renamed, told_renamed, bad_renamed, bad_any_renamed, least_renamed, name_found, list_found}
use Rattle.demands.proofs.Kept.{more_passes, less_passes, as_many, wants_same, wants_renamed, stops_renamed}

-- Both entries of a well-formed list are names of stops.
names_of : (r : Run) (list : List Detour) → WellFormed (stops_of r) list → (i : ℕ) → i < length list
    → (wanted (stops_of r) (entry_of list i).from ≡ true) × (wanted (stops_of r) (entry_of list i).to ≡ true)
unfolding first_bad_entry
names_of r list v i l =
    let ss = stops_of r in
    let d = entry_of list i in
    let alone = (or_false_both _ _ (first_zero (bad_entry ss list) (length list) v i l)).0 in
    let three = (or_false_both (not (wanted ss d.from) || not (wanted ss d.to) || ltb d.to d.from) (leb d.from (leftmost ss)) alone).0 in
    let two = (or_false_both (not (wanted ss d.from) || not (wanted ss d.to)) (ltb d.to d.from) three).0 in
    let each = or_false_both (not (wanted ss d.from)) (not (wanted ss d.to)) two in
    (not-false _ each.0, not-false _ each.1)

-- A refusal leaves no list.
no_list : (v : Verdict) (answer : Answer) (after : Rows) → answer ≡ refusal_answer v → list_in answer after ≡ []
unfolding list_of
no_list v answer after says = rw says refl

-- What is left to judge behind the run.
abbrev rest_with : ℕ → ℕ → ℕ → Rows → List Verdict
rest_with w k n rows = refuse_if (short_rows w k rows) ShortRow ∷ refuse_if (ltb (length rows.room) n) ShortRoom ∷ []

rest_is : {w w' k k' n n' : ℕ} (rows : Rows) → w ≡ w' → k ≡ k' → n ≡ n' → rest_with w k n rows ≡ rest_with w' k' n' rows
rest_is rows p q t = rw (p, q, t) refl

-- Two verdicts that begin alike are the same, where the others are whenever the first passes.
first_alike : (v v' : Verdict) (vs vs' : List Verdict) → v ≡ v' → (refuses v' ≡ false → vs ≡ vs') → first_of (v ∷ vs) ≡ first_of (v' ∷ vs')
first_alike v v' vs vs' e others = go (refuses v') refl
  where
    go : (b : Bool) → refuses v' ≡ b → first_of (v ∷ vs) ≡ first_of (v' ∷ vs')
    go true q = sym (first_refuses v vs (ap refuses e ∙ q)) ∙ e ∙ first_refuses v' vs' q
    go false q = ap (λ w. first_of (w ∷ vs)) e ∙ ap (λ ws. first_of (v' ∷ ws)) (others q)

row_is : {a b : List ℕ} {n m : ℕ} (row : List ℕ) → a ≡ b → n ≡ m → a ++ drop n row ≡ b ++ drop m row
row_is row p q = rw (p, q) refl

abbrev answer_with : ℕ → ℕ → ℕ → ℕ → Answer
answer_with sum finish end detours = record { refusal = Accepted; place = 0; sum = sum; finish = finish; end = end; detours = detours }

answer_is : {s s' f f' e e' d d' : ℕ} → s ≡ s' → f ≡ f' → e ≡ e' → d ≡ d' → answer_with s f e d ≡ answer_with s' f' e' d'
answer_is p q t u = rw (p, q, t, u) refl

-- What an accepted plan leaves in the rows: its list, then of the walk of its legs a time and a leg for each want, and the room cleared.
record Reported (r : Run) (gs : List Leg) (list : List Detour) (before : Rows) (answer : Answer) (after : Rows) : Type 0 where
  in_rows : list_in answer after ≡ list
  times : after.times ≡ times_of r.turn (head_at r.head) gs (want_stops_of r) ++ drop (length r.numbers) before.times
  legs : after.legs ≡ legs_for gs (want_stops_of r) ++ drop (length r.numbers) before.legs
  room : after.room ≡ replicate (room_for r) 0 ++ drop (room_for r) before.room

reported_any : (r : Run) (before : Rows) (answer : Answer) (after : Rows) (p : PlannedAny r before answer after) → Reported r (run_legs r p.list) p.list before answer after
reported_any r before answer after p =
    record {
      in_rows = anywhere.list_in_rows r p.list before answer after p.says p.rows;
      times = ap (λ x. x.times) p.rows;
      legs = ap (λ x. x.legs) p.rows;
      room = ap (λ x. x.room) p.rows;
    }

reported_01 : (r : Run) (before : Rows) (answer : Answer) (after : Rows) (p : Planned r before answer after) → Reported r (legs_of (stops_of r) p.list) p.list before answer after
unfolding priced_times priced_legs
reported_01 r before answer after p =
    record {
      in_rows = planned.list_in_rows r p.list before answer after p.says p.rows;
      times = ap (λ x. x.times) p.rows;
      legs = ap (λ x. x.legs) p.rows;
      room = ap (λ x. x.room) p.rows;
    }

-- The least list of an accepted run, from the table's recurrence.
any_sound : (r : Run) → refuses (judge_any_of r) ≡ false → Sound (stops_of r) (lifted r).head
any_sound r e = accepted_sound (lifted r) (rw (judge_any_lem r) at e)

least_any_is : (r : Run) → refuses (judge_any_of r) ≡ false → (list : List Detour) → LeastAny r list → list ≡ least_list r.turn (pulled r.head (stops_of r))
least_any_is r e list least =
    least_any_unique r.turn r.head (stops_of r) list (least_list r.turn (pulled r.head (stops_of r))) least (least_any r.turn r.head (lifted r).head (stops_of r) (any_sound r e))

least_01_is : (r : Run) → refuses (judge_of r) ≡ false → (list : List Detour) → LeastForRun r list → list ≡ least_list r.turn (stops_of r)
least_01_is r e list least =
    least_unique r.turn r.head (stops_of r) list (least_list r.turn (stops_of r)) least (least_list_lem r.turn r.head (stops_of r) (accepted_sound r e))

module _ (old : ℕ → ℕ) (more less : Run) (out : LeavesOut old more less) (order : TableInOrder more) where
  abbrev wants_of : Run → List Verdict
  wants_of r = wants_checks (length r.starts) r.numbers r.counts

  abbrev table_of : Run → Verdict
  table_of r = first_of (table_checks r.starts r.lengths r.aggregates)

  -- The table passes in both, the wants are judged alike, and so is the head, where it is judged.
  three_alike : (hs hs' : List Verdict) → (refuses (first_of (wants_of less)) ≡ false → hs ≡ hs') → first_of (table_of more ∷ first_of (wants_of more) ∷ first_of hs ∷ []) ≡ first_of (table_of less ∷ first_of (wants_of less) ∷ first_of hs' ∷ [])
  three_alike hs hs' same =
      first_passes (table_of more) (first_of (wants_of more) ∷ first_of hs ∷ []) (more_passes old more less out order)
      ∙ first_alike (first_of (wants_of more)) (first_of (wants_of less)) (first_of hs ∷ []) (first_of hs' ∷ []) (ap first_of (wants_same old more less out order)) (λ e. ap (λ vs. first_of vs ∷ []) (same e))
      ∙ sym (first_passes (table_of less) (first_of (wants_of less) ∷ first_of hs' ∷ []) (less_passes old more less out order))

  any_alike : judge_any_of more ≡ judge_any_of less
  unfolding judge_any_of
  any_alike = three_alike (head_any_checks more.turn more.head) (head_any_checks less.turn less.head) (λ e. rw (out.turn, out.head) refl)

  named : refuses (first_of (wants_of less)) ≡ false → (i : ℕ) → i < length less.numbers → IsFile less (get_or less.numbers i 0)
  named e i l =
      let w = (accepted_wants (length less.starts) less.numbers less.counts e).each i l in
      record { least = w.named; most = w.in_table }

  head_alike : refuses (first_of (wants_of less)) ≡ false → head_checks more.turn more.head (right_end (stops_of more)) ≡ head_checks less.turn less.head (right_end (stops_of less))
  head_alike e =
      ap (λ ss. head_checks more.turn more.head (right_end ss)) (stops_renamed old more less out order (named e))
      ∙ ap (head_checks more.turn more.head) (right_renamed old out.names (stops_of less))
      ∙ ap (λ t. head_checks t more.head (right_end (stops_of less))) out.turn
      ∙ ap (λ m. head_checks less.turn m (right_end (stops_of less))) out.head

  alike : judge_of more ≡ judge_of less
  unfolding judge_of
  alike = three_alike (head_checks more.turn more.head (right_end (stops_of more))) (head_checks less.turn less.head (right_end (stops_of less))) head_alike

  -- Files of an accepted run.
  named_any : refuses (judge_any_of less) ≡ false → (i : ℕ) → i < length less.numbers → IsFile less (get_or less.numbers i 0)
  named_any e i l = let w = (accepted_any less e).run.wants.each i l in record { least = w.named; most = w.in_table }

  named_01 : refuses (judge_of less) ≡ false → (i : ℕ) → i < length less.numbers → IsFile less (get_or less.numbers i 0)
  named_01 e i l = let w = (accepted_run less e).wants.each i l in record { least = w.named; most = w.in_table }

  module _ (files : (i : ℕ) → i < length less.numbers → IsFile less (get_or less.numbers i 0)) where
    stops : stops_of more ≡ allRenamed old out.names (stops_of less)
    stops = stops_renamed old more less out order files

    wants : want_stops_of more ≡ allRenamed old out.names (want_stops_of less)
    wants = wants_renamed old more less out order files

    legs_any : (list : List Detour) → run_legs more (renamed old list) ≡ run_legs less list
    legs_any list =
        ap (λ ss. legs_any_of more.head ss (renamed old list)) stops
        ∙ ap (λ m. legs_any_of m (allRenamed old out.names (stops_of less)) (renamed old list)) out.head
        ∙ legs_any_renamed old out.names less.head (stops_of less) list

    legs_01 : (list : List Detour) → legs_of (stops_of more) (renamed old list) ≡ legs_of (stops_of less) list
    legs_01 list = ap (λ ss. legs_of ss (renamed old list)) stops ∙ legs_renamed old out.names (stops_of less) list

    walk_same : (gs hs : List Leg) → gs ≡ hs → SameWalk more less gs hs
    walk_same gs hs e =
        record {
          legs = e;
          arrives = rw (e, out.turn, out.head) refl;
          sum = rw (e, stops, out.turn, out.head) (sum_renamed old out.names less.turn (head_at less.head) hs (stops_of less));
          times = rw (e, wants, out.turn, out.head) (times_renamed old out.names less.turn (head_at less.head) hs (want_stops_of less));
          told = rw (e, wants) (told_renamed old out.names hs (want_stops_of less));
        }

    bad_any : (list : List Detour) → first_bad_entry_any more.head (stops_of more) (renamed old list) ≡ first_bad_entry_any less.head (stops_of less) list
    bad_any list = rw (stops, out.head) (bad_any_renamed old out.names less.head (stops_of less) list)

    bad_01 : (list : List Detour) → first_bad_entry (stops_of more) (renamed old list) ≡ first_bad_entry (stops_of less) list
    bad_01 list = rw stops (bad_renamed old out.names (stops_of less) list)

    mine_of : (list : List Detour) → WellFormed (stops_of more) list → (mine : List Detour) × (list ≡ renamed old mine)
    mine_of list v =
        list_found old out.names list (λ i l.
        let both = names_of more list v i l in (
          name_found old out.names (stops_of less) (entry_of list i).from (ap (λ ss. wanted ss (entry_of list i).from) (sym stops) ∙ both.0),
          name_found old out.names (stops_of less) (entry_of list i).to (ap (λ ss. wanted ss (entry_of list i).to) (sym stops) ∙ both.1),
        ))

    lists_same : (Formed : Run → List Detour → Type 0) (legs : Run → List Detour → List Leg)
        → ((list : List Detour) → Formed less list ↔ Formed more (renamed old list))
        → ((list : List Detour) → Formed more list → WellFormed (stops_of more) list)
        → ((list : List Detour) → legs more (renamed old list) ≡ legs less list)
        → SameLists old more less Formed legs
    lists_same Formed legs formed plain legs-are =
        record {
          formed = formed;
          every = λ list f. let m = mine_of list (plain list f) in (m.0, (formed m.0).1 (subst (Formed more) m.1 f), m.1);
          walks = λ list. walk_same (legs more (renamed old list)) (legs less list) (legs-are list);
        }

    size : length (stops_of more) ≡ length (stops_of less)
    size = ap length stops ∙ length-map (stops_of less) _

    room_same : room_for more ≡ room_for less
    room_same =
        ap (λ k. k * k * (total more.counts + 1)) size
        ∙ ap (λ cs. length (stops_of less) * length (stops_of less) * (total cs + 1)) out.counts

    rest_same : (rows : Rows) → rest_with (length more.numbers) (length (stops_of more)) (room_for more) rows ≡ rest_with (length less.numbers) (length (stops_of less)) (room_for less) rows
    rest_same rows = rest_is rows (as_many old more less out order) size room_same

    priced_any : (list : List Detour) → priced_any_answer more (renamed old list) ≡ priced_any_answer less list
    unfolding priced_any_answer
    priced_any list =
        let w = walk_same (run_legs more (renamed old list)) (run_legs less list) (legs_any list) in
        answer_is w.sum (ap (λ h. h.clock) w.arrives) (ap (λ h. h.place) w.arrives) (length-map list _)

    priced_01 : (list : List Detour) → priced_answer more (renamed old list) ≡ priced_answer less list
    unfolding priced_answer
    priced_01 list =
        let w = walk_same (legs_of (stops_of more) (renamed old list)) (legs_of (stops_of less) list) (legs_01 list) in
        answer_is w.sum (ap (λ h. h.clock) w.arrives) (ap (λ h. h.place) w.arrives) (length-map list _)

  -- Well-formed lists and their walks.
  module _ (nothing : NothingAppliesAny less) where
    accepts : refuses (judge_any_of less) ≡ false
    accepts = nothing_judged_any less nothing

    nothing_more_here : NothingAppliesAny more
    nothing_more_here = judged_nothing_any more (ap refuses any_alike ∙ accepts)

    formed_any : (list : List Detour) → IsFormedAny less list ↔ IsFormedAny more (renamed old list)
    formed_any list =
        let mine = formed_any_means less nothing list in
        let other = formed_any_means more nothing_more_here (renamed old list) in
        let same = bad_any (named_any accepts) list in
        (λ f. other.0 (same ∙ mine.1 f), λ f. mine.0 (sym same ∙ other.1 f))

    lists_any : SameLists old more less IsFormedAny run_legs
    lists_any =
        lists_same (named_any accepts) IsFormedAny run_legs formed_any
        (λ list f. any_formed more.head (stops_of more) list ((formed_any_means more nothing_more_here list).1 f)) (legs_any (named_any accepts))

  module _ (nothing : NothingApplies less) where
    accepts_01 : refuses (judge_of less) ≡ false
    accepts_01 = nothing_judged less nothing

    accepts_more : refuses (judge_of more) ≡ false
    accepts_more = ap refuses alike ∙ accepts_01

    formed_01 : (list : List Detour) → IsFormed less list ↔ IsFormed more (renamed old list)
    formed_01 list =
        let good = accepted_run less accepts_01 in
        let other = accepted_run more accepts_more in
        let same = bad_01 (named_01 accepts_01) list in
        (λ f. is_formed more other (renamed old list) (same ∙ formed_list less good list f), λ f. is_formed less good list (sym same ∙ formed_list more other (renamed old list) f))

    lists_01 : SameLists old more less IsFormed (λ r list. legs_of (stops_of r) list)
    lists_01 =
        lists_same (named_01 accepts_01) IsFormed (λ r list. legs_of (stops_of r) list) formed_01
        (λ list f. formed_list more (accepted_run more accepts_more) list f) (legs_01 (named_01 accepts_01))

  -- The planner.
  verdict_any : (rows : Rows) → plan_any_verdict more rows ≡ plan_any_verdict less rows
  unfolding plan_any_verdict
  verdict_any rows =
      first_alike (judge_any_of more) (judge_any_of less) (rest_with (length more.numbers) (length (stops_of more)) (room_for more) rows) (rest_with (length less.numbers) (length (stops_of less)) (room_for less) rows)
      any_alike (λ e. rest_same (named_any e) rows)

  verdict_01 : (rows : Rows) → plan_verdict more rows ≡ plan_verdict less rows
  unfolding plan_verdict
  verdict_01 rows =
      first_alike (judge_of more) (judge_of less) (rest_with (length more.numbers) (length (stops_of more)) (room_for more) rows) (rest_with (length less.numbers) (length (stops_of less)) (room_for less) rows)
      alike (λ e. rest_same (named_01 e) rows)

  list_any_same_here : refuses (judge_any_of less) ≡ false → (list mine : List Detour) → LeastAny more list → LeastAny less mine → list ≡ renamed old mine
  list_any_same_here e list mine least least' =
      least_any_is more (ap refuses any_alike ∙ e) list least
      ∙ ap (λ ss. least_list more.turn (pulled more.head ss)) (stops (named_any e))
      ∙ ap (λ m. least_list more.turn (pulled m (allRenamed old out.names (stops_of less)))) out.head
      ∙ ap (λ t. least_list t (pulled less.head (allRenamed old out.names (stops_of less)))) out.turn
      ∙ ap (least_list less.turn) (pulled_renamed old out.names less.head (stops_of less))
      ∙ least_renamed old out.names less.turn (pulled less.head (stops_of less))
      ∙ ap (renamed old) (sym (least_any_is less e mine least'))

  list_01_same : refuses (judge_of less) ≡ false → (list mine : List Detour) → LeastForRun more list → LeastForRun less mine → list ≡ renamed old mine
  list_01_same e list mine least least' =
      least_01_is more (ap refuses alike ∙ e) list least
      ∙ ap (least_list more.turn) (stops (named_01 e))
      ∙ ap (λ t. least_list t (allRenamed old out.names (stops_of less))) out.turn
      ∙ least_renamed old out.names less.turn (stops_of less)
      ∙ ap (renamed old) (sym (least_01_is less e mine least'))

  module _ (before : Rows) (answer answer' : Answer) (after after' : Rows) where
    refused_same : (v v' : Verdict) → v ≡ v' → Refused v before answer after → Refused v' before answer' after' → SamePlans old answer answer' after after'
    refused_same v v' e x y =
        let rows = x.kept ∙ sym y.kept in
        record {
          answers = x.says ∙ ap refusal_answer e ∙ sym y.says;
          list = no_list v answer after x.says ∙ ap (renamed old) (sym (no_list v' answer' after' y.says));
          times = ap (λ x. x.times) rows;
          legs = ap (λ x. x.legs) rows;
          room = ap (λ x. x.room) rows;
        }

    -- One verdict: both are refused by it, or it is left to show what is planned.
    plans_same : (v v' : Verdict) → v ≡ v' → (refuses v ≡ true → Refused v before answer after) → (refuses v' ≡ true → Refused v' before answer' after')
        → (refuses v' ≡ false → SamePlans old answer answer' after after') → SamePlans old answer answer' after after'
    plans_same v v' e refused refused' passed = go (refuses v') refl
      where
        go : (b : Bool) → refuses v' ≡ b → SamePlans old answer answer' after after'
        go true q = refused_same v v' e (refused (ap refuses e ∙ q)) (refused' q)
        go false q = passed q

    planned_same : (files : (i : ℕ) → i < length less.numbers → IsFile less (get_or less.numbers i 0)) (gs hs : List Leg) (list mine : List Detour)
        → Reported more gs list before answer after → Reported less hs mine before answer' after' → gs ≡ hs → list ≡ renamed old mine → answer ≡ answer'
        → SamePlans old answer answer' after after'
    planned_same files gs hs list mine p q legs-are same says =
        let w = walk_same files gs hs legs-are in
        let many = as_many old more less out order in
        record {
          answers = says;
          list = p.in_rows ∙ same ∙ ap (renamed old) (sym q.in_rows);
          times = p.times ∙ row_is before.times w.times many ∙ sym q.times;
          legs = p.legs ∙ row_is before.legs w.told many ∙ sym q.legs;
          room = p.room ∙ ap (λ n. replicate n 0 ++ drop n before.room) (room_same files) ∙ sym q.room;
        }

    planned_any : refuses (judge_any_of less) ≡ false → PlannedAny more before answer after → PlannedAny less before answer' after' → SamePlans old answer answer' after after'
    planned_any e p q =
        let files = named_any e in
        let same = list_any_same_here e p.list q.list p.least q.least in
        planned_same files (run_legs more p.list) (run_legs less q.list) p.list q.list
        (reported_any more before answer after p) (reported_any less before answer' after' q)
        (ap (run_legs more) same ∙ legs_any files q.list) same
        (p.says ∙ ap (priced_any_answer more) same ∙ priced_any files q.list ∙ sym q.says)

    planned_01 : refuses (judge_of less) ≡ false → Planned more before answer after → Planned less before answer' after' → SamePlans old answer answer' after after'
    planned_01 e p q =
        let files = named_01 e in
        let same = list_01_same e p.list q.list p.least q.least in
        planned_same files (legs_of (stops_of more) p.list) (legs_of (stops_of less) q.list) p.list q.list
        (reported_01 more before answer after p) (reported_01 less before answer' after' q)
        (ap (legs_of (stops_of more)) same ∙ legs_01 files q.list) same
        (p.says ∙ ap (priced_answer more) same ∙ priced_01 files q.list ∙ sym q.says)

pub unwanted_judged : UnwantedJudged
unwanted_judged old more less out order =
    let e = ap refuses (alike old more less out order) in
    (λ n. judged_nothing less (sym e ∙ nothing_judged more n), λ n. judged_nothing more (e ∙ nothing_judged less n))

pub unwanted_judged_any : UnwantedJudgedAny
unwanted_judged_any old more less out order =
    let e = ap refuses (any_alike old more less out order) in
    (λ n. judged_nothing_any less (sym e ∙ nothing_judged_any more n), λ n. judged_nothing_any more (e ∙ nothing_judged_any less n))

pub unwanted_lists : UnwantedLists
unwanted_lists old more less out order nothing = lists_01 old more less out order nothing

pub unwanted_lists_any : UnwantedListsAny
unwanted_lists_any old more less out order nothing = lists_any old more less out order nothing

pub unwanted_plans : UnwantedPlans
unwanted_plans old more less before answer answer' after after' out order p q =
    let same = verdict_01 old more less out order before in
    plans_same old more less out order before answer answer' after after' (plan_verdict more before) (plan_verdict less before) same p.refused q.refused
    (λ e. planned_01 old more less out order before answer answer' after after' (planned.verdict_accepts_run less before e) (p.planned (ap refuses same ∙ e)) (q.planned e))

pub unwanted_plans_any : UnwantedPlansAny
unwanted_plans_any old more less before answer answer' after after' out order p q =
    let same = verdict_any old more less out order before in
    plans_same old more less out order before answer answer' after after' (plan_any_verdict more before) (plan_any_verdict less before) same p.refused q.refused
    (λ e. planned_any old more less out order before answer answer' after after' (anywhere.run_passed less before e) (p.planned (ap refuses same ∙ e)) (q.planned e))
