-- Each word of a checker is below 2 ^ 64.
use Rattle.std.proofs.Common.{ℕ, ◌<◌, ◌≤◌, ◌^◌, Bool, true, false, not, Option, Some, None, List, [], ◌∷◌, ◌++◌, length}
use Rattle.std.proofs.Common.{refl, ap, ◌∙◌, arith}
use Rattle.std.specs.Prelude.{All, IfSome}
use Rattle.std.specs.FinSet as set
use Rattle.std.specs.List.{flat_map, range_with_len}
use Rattle.std.proofs.lemmas.List.{length-append, length-map}
use Rattle.std.proofs.lemmas.List.Elements.{All-append, All-cons, All-head, All-map, All-nil, All-tail, All-weaker}
use Rattle.std.proofs.lemmas.List.Filters.{length-filter_both}
use Rattle.std.proofs.lemmas.List.FromFn.{length-range_with_len}
use Rattle.wcp_queue.specs.Checker.{CheckerState, IsSoundChecker}
use Rattle.wcp_saved.specs.Spelling.{magic, version, flag, flags, marks_of, counted, cut_words, queue_words}
use Rattle.wcp_saved.specs.Spelling.{queues_words, words_of, IsClock, IsQueue, IsInRange}

abbrev pub IsWord : ℕ → Type 0
IsWord word = word < 2 ^ 64

pub small_flag : (mark : Bool) → IsWord (flag mark)
small_flag true = omega arith
small_flag false = omega arith

small_flags : (marks : List Bool) → All IsWord (flags marks)
small_flags marks = All-map IsWord flag marks (λ k d within. small_flag _)

small_numbers : (numbers : List ℕ) → All (λ number. number < 2 ^ 32) numbers → All IsWord numbers
small_numbers numbers are = All-weaker (λ number. number < 2 ^ 32) IsWord (λ number h. omega (arith, h)) numbers are

small_counted : (clock : List ℕ) → IsClock clock → All IsWord (counted clock)
small_counted clock is = All-cons IsWord (length clock) clock (omega (arith, is.few)) (small_numbers clock is.each)

pub small_flat : {A : Type 0} (f : A → List ℕ) (P : A → Type 0) → ((x : A) → P x → All IsWord (f x)) → (xs : List A)
    → All P xs → All IsWord (flat_map f xs)
small_flat f P each [] are = All-nil IsWord
small_flat f P each (x ∷ xs) are = All-append IsWord (f x) (flat_map f xs) (each x (All-head P x xs are))
    (small_flat f P each xs (All-tail P x xs are))

small_queue : (clocks : List (List ℕ)) → IsQueue clocks → All IsWord (queue_words clocks)
small_queue clocks is = All-cons IsWord (length clocks) (flat_map counted clocks) is.few
    (small_flat counted IsClock small_counted clocks is.each)

small_cut : (found : Option (List ℕ)) → IfSome found IsClock → All IsWord (cut_words found)
small_cut None is = All-cons IsWord 0 [] (omega arith) (All-nil IsWord)
small_cut (Some intervals) is = small_counted intervals is

few_rows : (checker : CheckerState) → IsSoundChecker checker → length checker.queues ≤ 16
few_rows checker sound =
    let both = length-filter_both (set.contains checker.watched) (λ p. not (set.contains checker.watched p)) (λ p. refl)
    (range_with_len 0 checker.count) in
    omega (arith, both, length-range_with_len 0 checker.count, sound.few, sound.rows ∙ ap length sound.members)

module _ (checker : CheckerState) (sound : IsSoundChecker checker) (range : IsInRange checker) where
  abbrev head : List ℕ
  head = magic ∷ version ∷ checker.count ∷ checker.floor.tests ∷ flag checker.starved
      ∷ flags (marks_of checker.watched)

  abbrev marked : List ℕ
  marked = flag checker.starved ∷ flags (marks_of checker.watched)

  small_marked : All IsWord marked
  small_marked = All-cons IsWord (flag checker.starved) (flags (marks_of checker.watched)) (small_flag checker.starved)
      (small_flags (marks_of checker.watched))

  abbrev numbered : List ℕ
  numbered = checker.count ∷ checker.floor.tests ∷ marked

  small_numbered : All IsWord numbered
  small_numbered = All-cons IsWord checker.count (checker.floor.tests ∷ marked) (omega (arith, sound.few))
      (All-cons IsWord checker.floor.tests marked range.tests small_marked)

  small_head : All IsWord head
  small_head = All-cons IsWord magic (version ∷ numbered) (omega arith)
      (All-cons IsWord version numbered (omega arith) small_numbered)

  small_taken : All IsWord checker.taken
  small_taken = All-weaker (λ count. count ≤ 2 ^ 32) IsWord (λ count h. omega (arith, h)) checker.taken sound.few_taken

  small_queues : All IsWord (queues_words checker.queues)
  small_queues = All-cons IsWord (length checker.queues) (flat_map queue_words checker.queues)
      (omega (arith, few_rows checker sound)) (small_flat queue_words IsQueue small_queue checker.queues range.queues)

  abbrev taken : List ℕ
  taken = head ++ checker.taken

  abbrev marks : List ℕ
  marks = taken ++ flags checker.closed ++ flags checker.lost

  abbrev floor : List ℕ
  floor = marks ++ checker.floor.components ++ flags checker.floor.heads

  small_marks : All IsWord marks
  small_marks = All-append IsWord (taken ++ flags checker.closed) (flags checker.lost)
      (All-append IsWord taken (flags checker.closed) (All-append IsWord head checker.taken small_head small_taken)
      (small_flags checker.closed)) (small_flags checker.lost)

  small_floor : All IsWord floor
  small_floor = All-append IsWord (marks ++ checker.floor.components) (flags checker.floor.heads)
      (All-append IsWord marks checker.floor.components small_marks
      (small_numbers checker.floor.components range.floor)) (small_flags checker.floor.heads)

  pub small_words : All IsWord (words_of checker)
  small_words = All-append IsWord (floor ++ cut_words checker.found) (queues_words checker.queues)
      (All-append IsWord floor (cut_words checker.found) small_floor (small_cut checker.found range.found)) small_queues

  long_cut : (found : Option (List ℕ)) → 1 ≤ length (cut_words found)
  long_cut None = omega arith
  long_cut (Some intervals) = omega arith

  -- so many numbers and flags stand in front of the cut and the queues
  pub long_words : 103 ≤ length (words_of checker)
  long_words = omega (
    arith,
    long_cut checker.found,
    sound.counts,
    sound.marks,
    sound.losses,
    range.components,
    range.heads,
    length-append (floor ++ cut_words checker.found) (queues_words checker.queues),
    length-append floor (cut_words checker.found),
    length-append (marks ++ checker.floor.components) (flags checker.floor.heads),
    length-append marks checker.floor.components,
    length-append (taken ++ flags checker.closed) (flags checker.lost),
    length-append taken (flags checker.closed),
    length-append head checker.taken,
    length-map checker.closed flag,
    length-map checker.lost flag,
    length-map checker.floor.heads flag,
    length-map (marks_of checker.watched) flag,
    length-map (range_with_len 0 16) (set.contains checker.watched),
    length-range_with_len 0 16,
  )
