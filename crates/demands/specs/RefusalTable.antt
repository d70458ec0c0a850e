-- The refusal table of document 01 as conditions, in its own words: what must hold for a number to apply, and at which place.
-- Nothing here computes: these are the conditions against which the demands measure the answers.
use Rattle.std.specs.Prelude.{ℕ, suc, ◌+◌, ◌-◌, ◌≤◌, ◌<◌, ◌≡◌, ◌⊎◌, List, [], ◌∷◌, length, get_or}
use Rattle.refusals.specs.declared.Refusal.{Refusal}
use Rattle.refusals.specs.declared.Refusal.TheVariants.{Accepted, FileRows, BadFile, WantRows, BadWant, TooManyReads, TurnPrice, HeadPlace}
use Rattle.runs.specs.Run.{Run, total}

-- The place of the first of n entries, counted from 1, that is bad.
pub record FirstBad (bad : ℕ → Type 0) (n place : ℕ) : Type 0 where
  pub index : ℕ
  pub within : index < n
  pub at : place ≡ suc index
  pub here : bad index
  pub before : (j : ℕ) → j < index → bad j → ⊥

-- The end of file f of the table. Files are counted from 1.
abbrev pub end_of_file : Run → ℕ → ℕ
end_of_file r f = get_or r.starts (f - 1) 0 + get_or r.lengths (f - 1) 0

-- A file number that is in the table.
pub record IsFile (r : Run) (f : ℕ) : Type 0 where
  pub least : 0 < f
  pub most : f ≤ length r.starts

-- The aggregate number of file f. Two files lie together where they are one file, or have the same number and that is not 0.
abbrev pub number_of_file : Run → ℕ → ℕ
number_of_file r f = get_or r.aggregates (f - 1) 0

abbrev pub Together : Run → ℕ → ℕ → Type 0
Together r f g = (f ≡ g) ⊎ ((number_of_file r f ≡ number_of_file r g) × (0 < number_of_file r g))

-- An aggregate number, not 0, returns at index i (file i + 1): an earlier file has it, and the file just before has another.
pub record Returns (r : Run) (i : ℕ) : Type 0 where
  pub numbered : 0 < get_or r.aggregates i 0
  pub met : (j : ℕ) × (j < i) × (get_or r.aggregates j 0 ≡ get_or r.aggregates i 0)
  pub left : (k : ℕ) × (i ≡ suc k) × (get_or r.aggregates k 0 ≡ get_or r.aggregates i 0 → ⊥)

-- 2: length 0, start before the previous end, or end above the limit; an aggregate number above its limit, or one that returns.
abbrev pub FileIsBad : Run → ℕ → Type 0
FileIsBad r i =
    ((get_or r.lengths i 0 ≡ 0)
    ⊎ (((j : ℕ) × (i ≡ suc j) × (get_or r.starts i 0 < end_of_file r (suc j)))
    ⊎ (1099511627776 < end_of_file r (suc i))))
    ⊎ ((4096 < get_or r.aggregates i 0) ⊎ Returns r i)

-- 4: file number not in the table or not ascending, or count 0.
abbrev pub WantIsBad : Run → ℕ → Type 0
WantIsBad r i =
    (get_or r.numbers i 0 ≡ 0)
    ⊎ ((length r.starts < get_or r.numbers i 0)
    ⊎ (((j : ℕ) × (i ≡ suc j) × (get_or r.numbers i 0 ≤ get_or r.numbers j 0))
    ⊎ (get_or r.counts i 0 ≡ 0)))

-- Something that is wanted lies together with file f.
pub record WantedWith (r : Run) (f : ℕ) : Type 0 where
  pub want : ℕ
  pub within : want < length r.numbers
  pub together : Together r f (get_or r.numbers want 0)

-- A number names a stop: it is that of a file with which something wanted lies together, and no earlier file.
pub record NamesStop (r : Run) (f : ℕ) : Type 0 where
  pub file : IsFile r f
  pub first : (g : ℕ) → IsFile r g → g < f → Together r g f → ⊥
  pub wanted : WantedWith r f

-- A later want lies together with the want at index i.
abbrev pub JoinsLater : Run → ℕ → Type 0
JoinsLater r i = (j : ℕ) × (i < j) × (j < length r.numbers) × Together r (get_or r.numbers i 0) (get_or r.numbers j 0)

-- How many stops the wants from index i on make: a want adds one unless it joins a later one. All wants of a run make its stops.
pub data StopsFrom (r : Run) : ℕ → ℕ → Type 0 where
  behind : StopsFrom r (length r.numbers) 0
  one_more : {i n : ℕ} → (JoinsLater r i → ⊥) → StopsFrom r (suc i) n → StopsFrom r i (suc n)
  as_many : {i n : ℕ} → JoinsLater r i → StopsFrom r (suc i) n → StopsFrom r i n

abbrev pub HasStops : Run → ℕ → Type 0
HasStops r n = StopsFrom r 0 n

-- 10, an entry by itself: its start or its end names no stop, or its end is left of its start, or its start is not right of the leftmost stop. (No
-- stop but the leftmost has a name up to the first want's number.)
abbrev pub BadByItself : Run → ℕ → ℕ → Type 0
BadByItself r from to =
    (NamesStop r from → ⊥) ⊎ ((NamesStop r to → ⊥) ⊎ ((to < from) ⊎ (from ≤ get_or r.numbers 0 0)))

-- 10, an entry (from, to) against an earlier one: its start is not left of the earlier start, or its end lies between the earlier start and end.
abbrev pub BadAgainst : ℕ → ℕ → ℕ → ℕ → Type 0
BadAgainst earlierFrom earlierTo from to = (earlierFrom ≤ from) ⊎ ((earlierFrom ≤ to) × (to ≤ earlierTo))

abbrev pub EntryIsBad : Run → List ℕ → List ℕ → ℕ → Type 0
EntryIsBad r froms tos i =
    BadByItself r (get_or froms i 0) (get_or tos i 0)
    ⊎ ((j : ℕ) × (j < i) × BadAgainst (get_or froms j 0) (get_or tos j 0) (get_or froms i 0) (get_or tos i 0))

-- 10, for a list in two rows: place 0 where they differ in length, else that of the first bad entry.
abbrev pub ListIsBad : Run → List ℕ → List ℕ → ℕ → Type 0
ListIsBad r froms tos place =
    ((place ≡ 0) × (length froms ≡ length tos → ⊥))
    ⊎ ((length froms ≡ length tos) × FirstBad (EntryIsBad r froms tos) (length froms) place)

-- 1 to 7: what a run can be refused for, each with its place. 7 twice: the head is past the last place; or left of the rightmost wanted end, where
-- some file that lies together with a wanted one ends.
pub data RunApplies (r : Run) : Refusal → ℕ → Type 0 where
  file_rows : (4096 < length r.starts) ⊎ ((length r.starts ≡ length r.lengths → ⊥) ⊎ (length r.starts ≡ length r.aggregates → ⊥)) → RunApplies r FileRows 0
  bad_file : {place : ℕ} → FirstBad (FileIsBad r) (length r.starts) place → RunApplies r BadFile place
  want_rows : (64 < length r.numbers) ⊎ (length r.numbers ≡ length r.counts → ⊥) → RunApplies r WantRows 0
  bad_want : {place : ℕ} → FirstBad (WantIsBad r) (length r.numbers) place → RunApplies r BadWant place
  many_reads : 1024 < total r.counts → RunApplies r TooManyReads 0
  turn_price : 4294967296 < r.turn → RunApplies r TurnPrice 0
  head_far : 1099511627776 < r.head → RunApplies r HeadPlace 0
  head_near : {f : ℕ} → IsFile r f → WantedWith r f → r.head < end_of_file r f → RunApplies r HeadPlace 0

-- A run is accepted where none of them applies.
abbrev pub NothingApplies : Run → Type 0
NothingApplies r = (kind : Refusal) (place : ℕ) → RunApplies r kind place → ⊥

-- The first of an order of refusals that applies, with its place; `Accepted` and place 0 where none does.
pub data FirstThatApplies (applies : Refusal → ℕ → Type 0) : List Refusal → Refusal → ℕ → Type 0 where
  none : FirstThatApplies applies [] Accepted 0
  here : {kind : Refusal} {place : ℕ} {rest : List Refusal} → applies kind place → FirstThatApplies applies (kind ∷ rest) kind place
  later : {skipped kind : Refusal} {place : ℕ} {rest : List Refusal}
      → ((p : ℕ) → applies skipped p → ⊥) → FirstThatApplies applies rest kind place → FirstThatApplies applies (skipped ∷ rest) kind place

-- Some refusal of an order applies, at some place.
abbrev pub SomeApplies : (Refusal → ℕ → Type 0) → List Refusal → Type 0
SomeApplies applies [] = ⊥
SomeApplies applies (kind ∷ rest) = ((p : ℕ) × applies kind p) ⊎ SomeApplies applies rest
