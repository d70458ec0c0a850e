-- A run and the same run with its head at the end of the tape: whatever does not speak of the head holds of both alike.
use Prim.Native.Nat.{ℕ}
use mathlib.Core.Logic.{◌⊎◌, inl, inr, ⊎_elim}
use mathlib.Core.List.{List}
use Rattle.runs.specs.Run.{Run}
use Rattle.runs.specs.AnyHead.{lifted}
use Rattle.walk.specs.declared.Answer.{Answer}
use Rattle.demands.specs.RefusalTable.{IsFile, WantedWith, NamesStop, BadByItself, EntryIsBad, StopsFrom}
use Rattle.demands.specs.Ends.{EndsWithARead}
use Rattle.demands.specs.Aggregates.{Reaches, ReadsFrom, StopsByMembers}

module _ (r : Run) where
  file_down : {f : ℕ} → IsFile (lifted r) f → IsFile r f
  file_down a = record { least = a.least; most = a.most }

  file_up : {f : ℕ} → IsFile r f → IsFile (lifted r) f
  file_up a = record { least = a.least; most = a.most }

  wanted_down : {f : ℕ} → WantedWith (lifted r) f → WantedWith r f
  wanted_down w = record { want = w.want; within = w.within; together = w.together }

  wanted_up : {f : ℕ} → WantedWith r f → WantedWith (lifted r) f
  wanted_up w = record { want = w.want; within = w.within; together = w.together }

  pub names_down : {f : ℕ} → NamesStop (lifted r) f → NamesStop r f
  names_down s = record { file = file_down s.file; first = λ g a l t. s.first g (file_up a) l t; wanted = wanted_down s.wanted }

  pub names_up : {f : ℕ} → NamesStop r f → NamesStop (lifted r) f
  names_up s = record { file = file_up s.file; first = λ g a l t. s.first g (file_down a) l t; wanted = wanted_up s.wanted }

  module _ (froms tos : List ℕ) (i : ℕ) where
    pub entry_down : EntryIsBad (lifted r) froms tos i → EntryIsBad r froms tos i
    entry_down =
        ⊎_elim
        (λ h. inl (⊎_elim (λ n. inl (λ s. n (names_up s))) (λ h'. inr (⊎_elim (λ n. inl (λ s. n (names_up s))) inr h')) h))
        inr

    pub entry_up : EntryIsBad r froms tos i → EntryIsBad (lifted r) froms tos i
    entry_up =
        ⊎_elim
        (λ h. inl (⊎_elim (λ n. inl (λ s. n (names_down s))) (λ h'. inr (⊎_elim (λ n. inl (λ s. n (names_down s))) inr h')) h))
        inr

  pub stops_down : {i n : ℕ} → StopsFrom (lifted r) i n → StopsFrom r i n
  stops_down StopsFrom.behind = StopsFrom.behind
  stops_down (StopsFrom.one_more apart s) = StopsFrom.one_more apart (stops_down s)
  stops_down (StopsFrom.as_many joins s) = StopsFrom.as_many joins (stops_down s)

  pub stops_up : {i n : ℕ} → StopsFrom r i n → StopsFrom (lifted r) i n
  stops_up StopsFrom.behind = StopsFrom.behind
  stops_up (StopsFrom.one_more apart s) = StopsFrom.one_more apart (stops_up s)
  stops_up (StopsFrom.as_many joins s) = StopsFrom.as_many joins (stops_up s)

  reaches_down : {f start end : ℕ} → Reaches (lifted r) f start end → Reaches r f start end
  reaches_down a =
      record {
        first = a.first;
        first_file = file_down a.first_file;
        first_with = a.first_with;
        starts = a.starts;
        no_sooner = λ g b t. a.no_sooner g (file_up b) t;
        last = a.last;
        last_file = file_down a.last_file;
        last_with = a.last_with;
        ends = a.ends;
        no_later = λ g b t. a.no_later g (file_up b) t;
      }

  reads_down : {f i n : ℕ} → ReadsFrom (lifted r) f i n → ReadsFrom r f i n
  reads_down ReadsFrom.behind = ReadsFrom.behind
  reads_down (ReadsFrom.counted with_it s) = ReadsFrom.counted with_it (reads_down s)
  reads_down (ReadsFrom.passed apart s) = ReadsFrom.passed apart (reads_down s)

  pub members_down : StopsByMembers (lifted r) → StopsByMembers r
  members_down a =
      record {
        wants = a.wants;
        reach = λ i l. reaches_down (a.reach i l);
        count = a.count;
        many = stops_down a.many;
        rising = a.rising;
        each = λ j l. let s = a.each j l in record { name = names_down s.name; reach = reaches_down s.reach; reads = reads_down s.reads };
      }

  pub ends_down : {times : List ℕ} {answer : Answer} → EndsWithARead (lifted r) times answer → EndsWithARead r times answer
  ends_down a =
      record {
        want = a.want;
        within = a.within;
        finish = a.finish;
        latest = a.latest;
        last = a.last;
        file = file_down a.file;
        together = a.together;
        end = a.end;
        rightmost = λ f b t. a.rightmost f (file_up b) t;
      }
