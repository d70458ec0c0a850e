-- The words that every statement on a text uses, each by conditions of its own: the bytes of a string, whether two texts are one, the keys of sheets, the digits of a
-- number, what text is a number and its value, a tape name, where a text is cut at a byte, and where its lines are. The definitions that the contracts use nobody need
-- believe.
use Rattle.std.specs.Prelude.{ℕ, suc, ◌+◌, ◌*◌, ◌^◌, ◌≤◌, ◌<◌, ◌≡◌, Bool, true, false, ◌⊎◌, ◌↔◌, List, [], ◌∷◌, ◌++◌, length, get_or}
use Prim.Native.Char.{Char, code}
use Prim.Native.String.{String}
use Prim.Native.String as Letters
use Rattle.text_bytes.specs.Text.{bytes, line_feed, comma, is_empty, has, before, behind, starts_with, is_text, all_of, between, is_digit, is_letter, is_number, is_name, value_of, decimal}
use Rattle.text_lines.specs.Lines.{after_lines, line_after, value_text}
use Rattle.sheet_reader.specs.Lines.{tape_key, head_key, turn_key, rule_key, files_key, file_key, wants_key, want_key, least_text, sweep_text}
use Rattle.sheet_writer.specs.PlanSheet.{sum_key, reads_key, finish_key, end_key, detours_key, detour_key, time_key}

-- The bytes of a string: of none none; of one more letter its code, and then those of the others.
pub record BytesOfLetters : Type 0 where
  pub none : bytes Letters.[] ≡ []
  pub more : (letter : Char) (others : String) → bytes (Letters.◌∷◌ letter others) ≡ code letter ∷ bytes others

-- Two texts are one; one begins with the other; all bytes are of a kind; a byte lies from one to another, a digit from 48 to 57, a capital letter from 65 to 90.
pub record TextsAreCompared : Type 0 where
  pub same : (wanted text : List ℕ) → (is_text wanted text ≡ true) ↔ (text ≡ wanted)
  pub begins : (key text : List ℕ) → (starts_with key text ≡ true) ↔ ((rest : List ℕ) × (text ≡ key ++ rest))
  pub all : (kind : ℕ → Bool) (text : List ℕ) → (all_of kind text ≡ true) ↔ ((i : ℕ) → i < length text → kind (get_or text i 0) ≡ true)
  pub within : (least most b : ℕ) → (between least most b ≡ true) ↔ ((least ≤ b) × (b ≤ most))
  pub digit : (b : ℕ) → (is_digit b ≡ true) ↔ ((48 ≤ b) × (b ≤ 57))
  pub letter : (b : ℕ) → (is_letter b ≡ true) ↔ ((65 ≤ b) × (b ≤ 90))

-- The keys of a run sheet, with the names of its rule and of the retired one, and those of a plan sheet.
pub record KeysAreSpelled : Type 0 where
  pub tape : tape_key ≡ bytes "tape="
  pub head : head_key ≡ bytes "head="
  pub turn : turn_key ≡ bytes "turn="
  pub rule : rule_key ≡ bytes "rule="
  pub files : files_key ≡ bytes "files="
  pub file : file_key ≡ bytes "file="
  pub wants : wants_key ≡ bytes "wants="
  pub want : want_key ≡ bytes "want="
  pub least : least_text ≡ bytes "least"
  pub sweep : sweep_text ≡ bytes "sweep"
  pub sum : sum_key ≡ bytes "sum="
  pub reads : reads_key ≡ bytes "reads="
  pub finish : finish_key ≡ bytes "finish="
  pub end : end_key ≡ bytes "end="
  pub detours : detours_key ≡ bytes "detours="
  pub detour : detour_key ≡ bytes "detour="
  pub time : time_key ≡ bytes "time="

-- The text of a number: one digit, whose byte is 48 and the digit; or that of its tenth part, and then its last digit.
pub record Digits : Type 0 where
  pub one : (n : ℕ) → n < 10 → decimal n ≡ (48 + n) ∷ []
  pub more : (n d : ℕ) → 0 < n → d < 10 → decimal (n * 10 + d) ≡ decimal n ++ ((48 + d) ∷ [])

-- The value of a row of digits, a leading 0 or none: of no digit 0; of one digit more ten times the value before it, and the digit.
pub record ValuesOfDigits : Type 0 where
  pub none : value_of [] ≡ 0
  pub more : (text : List ℕ) (d : ℕ) → d < 10 → value_of (text ++ ((48 + d) ∷ [])) ≡ value_of text * 10 + d

-- A number is the text of one below 2^64, and that is its value.
pub record IsTextOfANumber (text : List ℕ) : Type 0 where
  pub n : ℕ
  pub word : n < 2 ^ 64
  pub is : text ≡ decimal n

pub record NumbersAreTexts : Type 0 where
  pub number : (text : List ℕ) → (is_number text ≡ true) ↔ IsTextOfANumber text
  pub value : (n : ℕ) → value_of (decimal n) ≡ n

-- A tape name: 1 to 16 bytes, each 0 to 9 or A to Z.
pub record IsTapeName (text : List ℕ) : Type 0 where
  pub some : 1 ≤ length text
  pub few : length text ≤ 16
  pub each : (i : ℕ) → i < length text → ((48 ≤ get_or text i 0) × (get_or text i 0 ≤ 57)) ⊎ ((65 ≤ get_or text i 0) × (get_or text i 0 ≤ 90))

abbrev pub NamesByTheirBytes : Type 0
NamesByTheirBytes = (text : List ℕ) → (is_name text ≡ true) ↔ IsTapeName text

-- No byte of a text is b; none is a line feed.
abbrev pub Without : ℕ → List ℕ → Type 0
Without b text = (i : ℕ) → i < length text → get_or text i 0 ≡ b → ⊥

abbrev pub NoFeed : List ℕ → Type 0
NoFeed text = Without 10 text

-- A text is cut at the first b in it: what stands before that, and what stands behind it. Where there is none, all stands before it. A value stands behind its key.
-- The text of a string is its letters, one byte each; a line feed is the byte 10, a comma 44.
pub record TextsAreCut : Type 0 where
  pub found : (b : ℕ) (front rest : List ℕ) → Without b front → (has b (front ++ (b ∷ rest)) ≡ true) × ((before b (front ++ (b ∷ rest)) ≡ front) × (behind b (front ++ (b ∷ rest)) ≡ rest))
  pub missing : (b : ℕ) (text : List ℕ) → Without b text → (has b text ≡ false) × ((before b text ≡ text) × (behind b text ≡ []))
  pub empty : (text : List ℕ) → (is_empty text ≡ true) ↔ (text ≡ [])
  pub value : (key text : List ℕ) → value_text key (key ++ text) ≡ text
  pub letters : bytes "az=AZ,09\n" ≡ 97 ∷ 122 ∷ 61 ∷ 65 ∷ 90 ∷ 44 ∷ 48 ∷ 57 ∷ 10 ∷ []
  pub marks : (line_feed ≡ 10) × (comma ≡ 44)

-- Behind no line stands the text; where a line and its feed stand behind i lines, that is line i, and the rest stands behind one line more; where no feed is left there
-- is no line and nothing behind it.
pub record LinesAreCut (text : List ℕ) : Type 0 where
  pub first : after_lines 0 text ≡ text
  pub next : (i : ℕ) (line rest : List ℕ) → NoFeed line → after_lines i text ≡ line ++ (10 ∷ rest) → (line_after i text ≡ line) × (after_lines (suc i) text ≡ rest)
  pub last : (i : ℕ) → NoFeed (after_lines i text) → (line_after i text ≡ []) × (after_lines (suc i) text ≡ [])

abbrev pub LinesByTheirFeeds : Type 0
LinesByTheirFeeds = (text : List ℕ) → LinesAreCut text
