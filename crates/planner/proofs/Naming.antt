-- The engine on the rows that hold a run's stops: it refuses what is left to judge, and its list, by first files, is the run's.
use Prim.Native.Nat.{ℕ, zero, suc, ◌+◌, ◌-◌, ◌*◌, ◌≤◌, ◌<◌}
use mathlib.Core.Path.{◌≡◌, refl, sym, ap, ◌∙◌, subst}
use mathlib.Core.Bool.{Bool, true, false, true≢false}
use mathlib.Core.List.{List, [], ◌∷◌, ◌++◌, map}
use native.Mathlib.Omega.{arith}
use lib.ListN.{length, get_or, take, drop, replicate, length-map, get_or-map}
use lib.Dec.{ltb}
use borrow.Author.Tests.{le-ltb}
use Rattle.refusals.specs.declared.Refusal.TheVariants.{ShortRow, ShortRoom}
use Rattle.refusals.specs.declared.Verdict.{Verdict}
use Rattle.std.specs.Prelude.{Result, Ok, Err}
use Rattle.refusals.specs.Refusals.{refuse_if, first_of}
use Rattle.refusals.proofs.Verdicts.{refuses, first_passes}
use Rattle.runs.specs.Run.{Run, Stop, stops_of, total, most_wants}
use Rattle.runs.specs.Alone.{alone_of}
use Rattle.runs.specs.Judging.{judge_of}
use Rattle.runs.specs.AnyHead.{judge_any_of, lifted}
use Rattle.runs.specs.Lists.{Detour, entry_of}
use Rattle.runs.proofs.Sound.{Sound}
use Rattle.walk.proofs.AnyHead.{any_formed}
use Rattle.runs.proofs.Stops.{run_sound}
use Rattle.runs.proofs.AnyHead.{judge_any_lem, accepted_any}
use Rattle.engine_stops.proofs.Table.{joined_stops, joined_accepted, joined_wants, joined_reads}
use Rattle.engine_stops.proofs.Renamed.{Within, InTable, formed_within}
use Rattle.engine_table.specs.Listing.{ListRows, list_rows, Lists, IsListed, listing_verdict, short_list_rows, room_size}
use Rattle.planner.specs.Plan.{room_for}
use Rattle.planner.specs.Private.{RunInRows, first_file_in, stops_verdict, ListsNamed}
use Rattle.engine_stops.proofs.Said.{one_answer, same_number}
use Rattle.engine_stops.proofs.Halves.{front, behind, holds_front, entry_in}
use Rattle.planner.proofs.Joined.{few_stops}
use Rattle.planner.proofs.Named.{least_named}
use Rattle.engine_stops.specs.Private.{count_up, joined_table, name_of, entry_named, list_named}

-- The numbers of a joined table, out of more.
pub count_part : (n j k : ℕ) → k ≤ j → take k (count_up n j) ≡ count_up n k
unfolding count_up
count_part n j zero l = refl
count_part n zero (suc k) l = absurd (omega arith)
count_part n (suc j) (suc k) l = ap (λ ns. n ∷ ns) (count_part (suc n) j k (omega arith))

module _ (ss : List Stop) where
  name_is : (a : ℕ) → first_file_in (map (λ s. s.file) ss) a ≡ name_of ss a
  name_is a = get_or-map (λ s. s.file) ss (a - 1) (record { file = 0; start = 0; end = 0; count = 0 })

  -- Starts, or ends, by first files.
  half_named : (f : Detour → ℕ) → ((d : Detour) → f (entry_named ss d) ≡ name_of ss (f d)) → (list : List Detour)
      → map (first_file_in (map (λ s. s.file) ss)) (map f list) ≡ map f (list_named ss list)
  unfolding list_named
  half_named f same [] = refl
  half_named f same (d ∷ list) = rw (name_is (f d), half_named f same list, same d) refl

  row_named : (f : Detour → ℕ) → ((d : Detour) → f (entry_named ss d) ≡ name_of ss (f d)) → (list : List Detour) (n : ℕ) (row row' row'' : List ℕ) → n ≡ length list
      → row' ≡ map f list ++ drop (length list) row → row'' ≡ map (first_file_in (map (λ s. s.file) ss)) (take n row') ++ drop n row' → row'' ≡ map f (list_named ss list) ++ drop (length list) row
  row_named f same list n row row' row'' e is out =
      out ∙ ap (λ r. map (first_file_in (map (λ s. s.file) ss)) r ++ drop n row') (front f list n row row' e is)
      ∙ ap (λ r. map (first_file_in (map (λ s. s.file) ss)) (map f list) ++ r) (behind f list n row row' e is)
      ∙ ap (λ r. r ++ drop (length list) row) (half_named f same list)

  named_length : (list : List Detour) → length (list_named ss list) ≡ length list
  unfolding list_named
  named_length list = length-map list (entry_named ss)

module _ (r : Run) (accepts : refuses (judge_any_of r) ≡ false) where
  -- As 01 would judge it, its head at the end of the tape.
  pub lifted_accepts : refuses (judge_of (lifted r)) ≡ false
  lifted_accepts = rw (judge_any_lem r) at accepts

  table_accepted : refuses (judge_any_of (joined_table r)) ≡ false
  table_accepted = rw (judge_any_lem (joined_table r)) (joined_accepted (lifted r) lifted_accepts)

  few_files_here : length (joined_table r).starts ≤ most_wants
  few_files_here = omega (arith, length-map (stops_of r) (λ s. s.start), few_stops r accepts)

  room_same : room_size (joined_table r) ≡ room_for r
  room_same =
      ap (λ k. k * k * (total (joined_table r).counts + 1)) (joined_wants (lifted r) lifted_accepts)
      ∙ ap (λ n. length (stops_of r) * length (stops_of r) * (n + 1)) (joined_reads (lifted r) lifted_accepts)

  verdict_same_here : (rows : ListRows) → listing_verdict (joined_table r) rows ≡ stops_verdict r rows
  unfolding listing_verdict
  verdict_same_here rows =
      rw (le-ltb most_wants (length (joined_table r).starts) few_files_here) (first_passes (judge_any_of (joined_table r)) (refuse_if (short_list_rows (length (joined_table r).numbers) rows) ShortRow ∷ refuse_if (ltb (length rows.room) (room_size (joined_table r))) ShortRoom ∷ []) table_accepted)
      ∙ ap (λ k. first_of (refuse_if (short_list_rows k rows) ShortRow ∷ refuse_if (ltb (length rows.room) (room_size (joined_table r))) ShortRoom ∷ [])) (joined_wants (lifted r) lifted_accepts)
      ∙ ap (λ n. first_of (refuse_if (short_list_rows (length (stops_of r)) rows) ShortRow ∷ refuse_if (ltb (length rows.room) n) ShortRoom ∷ [])) room_same

module _ (r : Run) (firsts lefts spans reads : List ℕ) (head turn : ℕ) (h : RunInRows r firsts lefts spans reads head turn) where
  size : length firsts ≡ length (stops_of r)
  size = ap length h.first_files ∙ length-map (stops_of r) (λ s. s.file)

  pub stops_fit : length firsts ≤ 64
  stops_fit = omega (arith, size, few_stops r h.accepts)

  module _ (before mid : ListRows) (l : Result ℕ Verdict) (numbers : List ℕ) (counted : numbers ≡ count_up 1 (length firsts)) (engine : Lists (alone_of lefts spans numbers reads head turn) before l mid) where
    table_is : alone_of lefts spans numbers reads head turn ≡ joined_table r
    table_is = same_table_here h.starts h.lengths (counted ∙ ap (count_up 1) size) h.counts h.at_head h.at_price
      where
        same_table_here : {a a' b b' c c' d d' : List ℕ} {m m' u u' : ℕ} → a ≡ a' → b ≡ b' → c ≡ c' → d ≡ d' → m ≡ m' → u ≡ u' → alone_of a b c d m u ≡ alone_of a' b' c' d' m' u'
        same_table_here p q s t x y = rw (p, q, s, t, x, y) refl

    lists : Lists (joined_table r) before l mid
    lists = subst (λ t. Lists t before l mid) table_is engine

    same_here : listing_verdict (joined_table r) before ≡ stops_verdict r before
    same_here = verdict_same_here r h.accepts before

    pub named_refused : (e : Verdict) → Err e ≡ l → ListsNamed r before (Err e) mid
    named_refused e said =
        record {
          refused = λ q. let no = lists.refused (ap refuses same_here ∙ q) in record { says = said ∙ no.says ∙ ap Err same_here; kept = no.kept };
          listed = λ q. one_answer (said ∙ (lists.listed (ap refuses same_here ∙ q)).says);
        }

    module _ (k : ℕ) (said : Ok k ≡ l) where
      passes : refuses (listing_verdict (joined_table r) before) ≡ false
      passes = go (refuses (listing_verdict (joined_table r) before)) refl
        where
          go : (b : Bool) → refuses (listing_verdict (joined_table r) before) ≡ b → refuses (listing_verdict (joined_table r) before) ≡ false
          go true e = one_answer (sym (lists.refused e).says ∙ sym said)
          go false e = e

      is_listed : IsListed (joined_table r) before l mid
      is_listed = lists.listed passes

      n_is : k ≡ length is_listed.list
      n_is = same_number (said ∙ is_listed.says)

      sound : Sound (stops_of r) (lifted r).head
      sound = run_sound (lifted r) (accepted_any r h.accepts).run

      -- Every entry is a file of the joined table.
      within : (i : ℕ) → i < k → InTable (stops_of r) (lifted r).head sound (entry_of is_listed.list i)
      within i b =
          formed_within (stops_of r) (lifted r).head sound is_listed.list
          (rw (joined_stops (lifted r) (lifted_accepts r h.accepts)) at (any_formed r.head (stops_of (joined_table r)) is_listed.list is_listed.least.formed)) i (omega (arith, n_is))

      pub record Nameable (row : List ℕ) : Type 0 where
        pub long : k ≤ length row
        pub each : (i : ℕ) → i < k → (0 < get_or row i 0) × (get_or row i 0 ≤ length firsts)

      nameable : (f : Detour → ℕ) → f (record { from = 0; to = 0 }) ≡ 0 → ((i : ℕ) → i < k → Within (stops_of r) (f (entry_of is_listed.list i)))
          → (row row' : List ℕ) → row' ≡ map f is_listed.list ++ drop (length is_listed.list) row → Nameable row'
      nameable f z in_table row row' is =
          record {
            long = holds_front f is_listed.list k row row' n_is is;
            each = λ i b. let e = entry_in f is_listed.list row row' z is i (omega (arith, n_is)) in
                (omega (arith, e, (in_table i b).least), omega (arith, e, (in_table i b).most, size));
          }

      pub froms_nameable : Nameable mid.froms
      froms_nameable = nameable (λ d. d.from) refl (λ i b. (within i b).from) before.froms mid.froms (ap (λ x. x.froms) is_listed.rows)

      pub tos_nameable : Nameable mid.tos
      tos_nameable = nameable (λ d. d.to) refl (λ i b. (within i b).to) before.tos mid.tos (ap (λ x. x.tos) is_listed.rows)

      pub named_listed : (froms tos : List ℕ) → froms ≡ map (first_file_in firsts) (take k mid.froms) ++ drop k mid.froms
          → tos ≡ map (first_file_in firsts) (take k mid.tos) ++ drop k mid.tos → ListsNamed r before (Ok k) (list_rows froms tos mid.room)
      named_listed froms tos froms-are tos-are =
          record {
            refused = λ q. absurd (true≢false (sym (ap refuses same_here ∙ q) ∙ passes));
            listed = λ q.
                record {
                  list = list_named (stops_of r) is_listed.list;
                  least = least_named r h.accepts is_listed.list is_listed.least;
                  says = ap Ok (n_is ∙ sym (named_length (stops_of r) is_listed.list));
                  rows = rows_are (half (λ d. d.from) (λ d. refl) before.froms mid.froms froms froms-are (ap (λ x. x.froms) is_listed.rows)) (half (λ d. d.to) (λ d. refl) before.tos mid.tos tos tos-are (ap (λ x. x.tos) is_listed.rows)) room_is;
                };
          }
        where
          half : (f : Detour → ℕ) → ((d : Detour) → f (entry_named (stops_of r) d) ≡ name_of (stops_of r) (f d)) → (row row' row'' : List ℕ) → row'' ≡ map (first_file_in firsts) (take k row') ++ drop k row'
              → row' ≡ map f is_listed.list ++ drop (length is_listed.list) row → row'' ≡ map f (list_named (stops_of r) is_listed.list) ++ drop (length (list_named (stops_of r) is_listed.list)) row
          half f same row row' row'' out is =
              row_named (stops_of r) f same is_listed.list k row row' row'' n_is is (rw h.first_files at out)
              ∙ ap (λ n. map f (list_named (stops_of r) is_listed.list) ++ drop n row) (sym (named_length (stops_of r) is_listed.list))

          room_is : mid.room ≡ replicate (room_for r) 0 ++ drop (room_for r) before.room
          room_is = ap (λ x. x.room) is_listed.rows ∙ ap (λ n. replicate n 0 ++ drop n before.room) (room_same r h.accepts)

          rows_are : {a a' b b' c c' : List ℕ} → a ≡ a' → b ≡ b' → c ≡ c' → list_rows a b c ≡ list_rows a' b' c'
          rows_are p q s = rw (p, q, s) refl
