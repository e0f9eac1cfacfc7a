use Rattle.std.specs.Prelude.{◌≡◌, ℕ, ◌+◌, ◌*◌, ◌%◌, ◌^◌, ◌<◌, ◌≤◌, Bool, true, false, Option, Some, None, IfSome}
use Rattle.std.specs.Prelude.{List, [], ◌∷◌, ◌++◌, length, map, All}
use Rattle.std.specs.FinSet as set
use Rattle.std.specs.Int.{w32, w64, to_le_bytes}
use Rattle.std.specs.List.{flat_map, range_with_len}
use Rattle.wcp_clock.specs.Limits.{most_processes}
use Rattle.wcp_clock.specs.ProcessNumbers.{NumberSet}
use Rattle.wcp_queue.specs.Checker.{CheckerState, IsSoundChecker}

-- A checker is spelled as a list of words, numbers below 2 ^ 64. Each word is 8 bytes, the lowest first, and behind
-- them stand the 4 bytes of a checksum.

-- The first word, whose bytes are the letters "wullaphi", and the second, the version of this spelling.
abbrev pub magic : ℕ
magic = 7595444335293527415

abbrev pub version : ℕ
version = 1

abbrev pub flag : Bool → ℕ
flag true = 1
flag false = 0

abbrev pub flags : List Bool → List ℕ
flags marks = map flag marks

-- For each of 16 processes, whether it is watched.
abbrev pub marks_of : NumberSet → List Bool
marks_of watched = map (set.contains watched) (range_with_len 0 most_processes)

-- A list behind its length.
abbrev pub counted : List ℕ → List ℕ
counted list = length list ∷ list

-- A cut, which names some process: its intervals behind their number, or 0 where none was found.
abbrev pub cut_words : Option (List ℕ) → List ℕ
cut_words None = 0 ∷ []
cut_words (Some intervals) = counted intervals

-- The clocks of a queue behind their number, and the queues behind theirs.
abbrev pub queue_words : List (List ℕ) → List ℕ
queue_words clocks = length clocks ∷ flat_map counted clocks

abbrev pub queues_words : List (List (List ℕ)) → List ℕ
queues_words queues = length queues ∷ flat_map queue_words queues

abbrev pub words_of : CheckerState → List ℕ
words_of checker = magic ∷ version ∷ checker.count ∷ checker.floor.tests ∷ flag checker.starved
    ∷ flags (marks_of checker.watched) ++ checker.taken ++ flags checker.closed ++ flags checker.lost
    ++ checker.floor.components ++ flags checker.floor.heads ++ cut_words checker.found
    ++ queues_words checker.queues

-- The bytes of words.
abbrev pub bytes_of : List ℕ → List ℕ
bytes_of words = flat_map (to_le_bytes w64) words

-- Adler-32 of bytes: 1 and the sum of all of them, and the sum of these sums, each modulo the prime 65,521.
abbrev pub sums_of : ℕ → ℕ → List ℕ → ℕ
sums_of low high [] = high * 65536 + low
sums_of low high (byte ∷ bytes) = sums_of ((low + byte) % 65521) ((high + (low + byte) % 65521) % 65521) bytes

abbrev pub checksum : List ℕ → ℕ
checksum bytes = sums_of 1 0 bytes

abbrev pub sealed : List ℕ → List ℕ
sealed bytes = bytes ++ to_le_bytes w32 (checksum bytes)

-- The one spelling of what a checker has come to.
abbrev pub spelling : CheckerState → List ℕ
spelling checker = sealed (bytes_of (words_of checker))

-- A clock of 1 to 16 components.
pub record IsClock (clock : List ℕ) : Type 0 where
  pub some : 0 < length clock
  pub few : length clock ≤ most_processes
  pub each : All (λ component. component < 2 ^ 32) clock

pub record IsQueue (clocks : List (List ℕ)) : Type 0 where
  pub few : length clocks < 2 ^ 64
  pub each : All IsClock clocks

-- The numbers of a checker are such as its memory holds.
pub record IsInRange (checker : CheckerState) : Type 0 where
  pub tests : checker.floor.tests < 2 ^ 64
  pub components : length checker.floor.components ≡ most_processes
  pub floor : All (λ component. component < 2 ^ 32) checker.floor.components
  pub heads : length checker.floor.heads ≡ most_processes
  pub found : IfSome checker.found IsClock
  pub queues : All IsQueue checker.queues

-- These bytes are the saved ones of what a checker can have come to: their spelling.
pub record IsSaved (checker : CheckerState) (bytes : List ℕ) : Type 0 where
  pub spelled : bytes ≡ spelling checker
  pub sound : IsSoundChecker checker
  pub range : IsInRange checker
