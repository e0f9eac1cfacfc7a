-- What the numbers of a watch line say, and how such a line is printed and read back.
use Rattle.wcp_script.proofs.Words.{◌≡◌, ℕ, zero, suc, ◌+◌, ◌<◌, ◌≤◌, Bool, true, false, cond, ◌&&◌, eqb, List, [], ◌∷◌}
use Rattle.wcp_script.proofs.Words.{◌++◌, length, Option, Some, None, Result, Ok, Err, refl, sym, ap, ◌∙◌, append-nil}
use Rattle.wcp_script.proofs.Words.{append_assoc, arith, lt-ltb, ne_eqb, inl, inr, flat_map, range_with_len, list_all}
use Rattle.wcp_script.proofs.Words.{AllByRecursion, and_parts, cases_eq, HeadLine, FaultKind, Word, is_after, number_in}
use Rattle.wcp_script.proofs.Words.{ask, ◌>>=◌, length-slice_split, false≢true}
use Rattle.std.specs.FinSet as set
use Rattle.std.specs.Borrow.{Bor}
use Rattle.std.specs.Prelude.{is_some, nat_lt, nat_eq}
use Rattle.wcp_script.specs.Lines.{words_of}
use Rattle.wcp_script.specs.Views.{words_behind}
use Rattle.std.specs.List.{list_any}
use Rattle.std.specs.Cmp.{nat_cmp_total}
use Rattle.std.proofs.lemmas.Bool.{cases_Bool, eq-eqb}
use Rattle.wcp_clock.specs.ProcessNumbers.{NumberSet}
use Rattle.wcp_script.specs.declared.fault.FaultKind.TheVariants as kind
use Rattle.wcp_script.specs.declared.head_line.HeadLine.TheVariants.{Watch}
use Rattle.wcp_script.specs.declared.watch_line.Named.{Named}
use Rattle.wcp_script.specs.Head.{numbers_in, rise_behind, watch_line}
use Rattle.wcp_script.specs.Named.{nobody, with_number, with_numbers, named_by}
use Rattle.wcp_script.specs.PlanText.{watched_words}
use Rattle.wcp_script.proofs.LinesOfWords.{IsWord, IsWord-decimal, number_in-decimal}

and_true : (a : Bool) → a ≡ (a && true)
and_true true = refl
and_true false = refl

and_assoc : (a b c : Bool) → ((a && b) && c) ≡ (a && (b && c))
and_assoc true b c = refl
and_assoc false b c = refl

-- ---- all numbers at once

rise_is : (n : ℕ) (named : Named) (ps : List ℕ)
    → (with_numbers n named ps).rise ≡ (named.rise && rise_behind named.last ps)
rise_is n named [] = and_true named.rise
rise_is n named (p ∷ ps) = rise_is n (with_number n named p) ps
    ∙ and_assoc named.rise (is_after named.last p) (rise_behind (Some p) ps)

within_is : (n : ℕ) (named : Named) (ps : List ℕ)
    → (with_numbers n named ps).within ≡ (named.within && list_all (λ p. nat_lt p n) ps)
within_is n named [] = and_true named.within
within_is n named (p ∷ ps) = within_is n (with_number n named p) ps
    ∙ and_assoc named.within (nat_lt p n) (list_all (λ q. nat_lt q n) ps)

watched_is : (n : ℕ) (named : Named) (done ps : List ℕ) → named.watched ≡ set.from_list done
    → list_all (λ p. nat_lt p n) ps ≡ true → (with_numbers n named ps).watched ≡ set.from_list (done ++ ps)
watched_is n named done [] so_far all = so_far ∙ ap set.from_list (sym (append-nil done))
watched_is n named done (p ∷ ps) so_far all =
    let parts = and_parts (nat_lt p n) (list_all (λ q. nat_lt q n) ps) all in
    let one : (with_number n named p).watched ≡ set.from_list (done ++ p ∷ []) =
    ap (λ b. cond b (set.insert named.watched p) named.watched) parts.0 ∙ ap (λ numbers. set.insert numbers p) so_far
    ∙ sym (set.from_list_push nat_cmp_total set.nat_cmp-IsAntisymmetric done p) in
    watched_is n (with_number n named p) (done ++ p ∷ []) ps one parts.1
    ∙ ap set.from_list (append_assoc done (p ∷ []) ps)

-- What a line says whose numbers say this.
abbrev said_by : Result Named FaultKind → Result HeadLine FaultKind
said_by given =
    given >>= λ named. ask named.rise kind.Line >>= λ _. ask named.within kind.Process >>= λ _. Ok (Watch named.watched)

judged : (n : ℕ) (ps : List ℕ) (within : Bool) → list_all (λ p. nat_lt p n) ps ≡ within
    → (ask (rise_behind None ps) kind.Line >>= λ _. ask within kind.Process >>= λ _. Ok (Watch (set.from_list ps)))
    ≡ said_by (Ok (with_numbers n nobody ps))
judged n ps true is =
    rw (rise_is n nobody ps, within_is n nobody ps, is, watched_is n nobody [] ps refl is) refl
judged n ps false is = rw (rise_is n nobody ps, within_is n nobody ps, is) refl

judged_by : (n : ℕ) (numbers : Result (List ℕ) FaultKind)
    → (numbers >>= λ ps. ask (rise_behind None ps) kind.Line >>= λ _. ask (list_all (λ p. nat_lt p n) ps) kind.Process
    >>= λ _. Ok (Watch (set.from_list ps))) ≡ said_by (named_by n nobody numbers)
judged_by n (Ok ps) = judged n ps (list_all (λ p. nat_lt p n) ps) refl
judged_by n (Err fault) = refl

-- A watch line of some words says what its numbers do.
watch_line_named : (n : ℕ) (words : List Word) → 0 < length words
    → watch_line n words ≡ said_by (named_by n nobody (numbers_in words))
watch_line_named n [] some = absurd (omega arith)
watch_line_named n (word ∷ words) some = judged_by n (numbers_in (word ∷ words))

some_words : (line : List ℕ) → 0 < length (words_of line)
unfolding words_of
some_words line = omega (arith, length-slice_split (λ byte. eqb byte 32) line)

pub watch_line_behind : (n : ℕ) (words : Option (Bor (List ℕ))) → is_some words ≡ true
    → watch_line n (words_behind words) ≡ said_by (named_by n nobody (numbers_in (words_behind words)))
watch_line_behind n None some = absurd (false≢true some)
watch_line_behind n (Some words) some = watch_line_named n (words_of words.now) (some_words words.now)

-- ---- one number after the other

more_named : (n : ℕ) (named : Named) (p : ℕ) (numbers : Result (List ℕ) FaultKind)
    → named_by n named (numbers >>= λ ps. Ok (p ∷ ps)) ≡ named_by n (with_number n named p) numbers
more_named n named p (Ok ps) = refl
more_named n named p (Err fault) = refl

pub named_more : (n : ℕ) (named : Named) (word : Word) (words : List Word) (p : ℕ) → number_in word ≡ Ok p
    → named_by n named (numbers_in (word ∷ words)) ≡ named_by n (with_number n named p) (numbers_in words)
named_more n named word words p is = rw is (more_named n named p (numbers_in words))

-- ---- a line that is printed

-- The watched of m processes from k on.
abbrev pub watched_from : NumberSet → ℕ → ℕ → List ℕ
watched_from watched k m = flat_map (λ p. cond (set.contains watched p) (p ∷ []) []) (range_with_len k m)

abbrev pub words_from : NumberSet → ℕ → ℕ → List Word
words_from watched k m = flat_map (watched_words watched) (range_with_len k m)

module _ (watched : NumberSet) where
  printed_numbers : (k m : ℕ) → k + m ≤ 16 → numbers_in (words_from watched k m) ≡ Ok (watched_from watched k m)
  printed_numbers k zero few = refl
  printed_numbers k (suc m) few =
      let rest = printed_numbers (k + 1) m (omega (arith, few)) in
      elim (cases_Bool (set.contains watched k)) [
        | inl has_it ↦ rw (has_it, number_in-decimal k (omega (arith, few)), rest) refl
        | inr out ↦ rw (out) rest
      ]

  pub printed_words : (k m : ℕ) → k + m ≤ 16 → AllByRecursion IsWord (words_from watched k m)
  printed_words k zero few = tt
  printed_words k (suc m) few =
      let rest = printed_words (k + 1) m (omega (arith, few)) in
      elim (cases_Bool (set.contains watched k)) [
        | inl has_it ↦ rw (has_it) (IsWord-decimal k (omega (arith, few)), rest)
        | inr out ↦ rw (out) rest
      ]

  printed_rise : (before : Option ℕ) (k m : ℕ) → ((p : ℕ) → k ≤ p → is_after before p ≡ true)
      → rise_behind before (watched_from watched k m) ≡ true
  printed_rise before k zero low = refl
  printed_rise before k (suc m) low = elim (cases_Bool (set.contains watched k)) [
    | inl has_it ↦
        rw (has_it, low k (omega arith))
        (printed_rise (Some k) (k + 1) m (λ p above. lt-ltb k p (omega (arith, above))))
    | inr out ↦ rw (out) (printed_rise before (k + 1) m (λ p above. low p (omega (arith, above))))
  ]

  printed_below : (n k m : ℕ) → k + m ≤ n → list_all (λ p. nat_lt p n) (watched_from watched k m) ≡ true
  printed_below n k zero few = refl
  printed_below n k (suc m) few =
      let rest = printed_below n (k + 1) m (omega (arith, few)) in
      elim (cases_Bool (set.contains watched k)) [
        | inl has_it ↦ rw (has_it, lt-ltb k n (omega (arith, few))) rest
        | inr out ↦ rw (out) rest
      ]

  -- none of them is below the first
  printed_above : (k m q : ℕ) → q < k → list_any (λ p. nat_eq p q) (watched_from watched k m) ≡ false
  printed_above k zero q low = refl
  printed_above k (suc m) q low =
      let rest = printed_above (k + 1) m q (omega (arith, low)) in
      elim (cases_Bool (set.contains watched k)) [
        | inl has_it ↦ rw (has_it, ne_eqb k q (λ same. absurd (omega (arith, same, low)))) rest
        | inr out ↦ rw (out) rest
      ]

  pub printed_has : (k m q : ℕ) → k ≤ q → q < k + m
      → list_any (λ p. nat_eq p q) (watched_from watched k m) ≡ set.contains watched q
  printed_has k zero q low high = absurd (omega (arith, low, high))
  printed_has k (suc m) q low high = elim (cases_eq k q) [
    | inl same ↦ elim (cases_Bool (set.contains watched k)) [
      | inl has_it ↦ rw (has_it, eq-eqb k q same) (sym has_it ∙ ap (set.contains watched) same)
      | inr out ↦
          rw (out) (printed_above (k + 1) m q (omega (arith, same)) ∙ sym out ∙ ap (set.contains watched) same)
    ]
    | inr apart ↦
        let rest = printed_has (k + 1) m q (omega (arith, low, apart)) (omega (arith, high)) in
        elim (cases_Bool (set.contains watched k)) [
          | inl has_it ↦ rw (has_it, ne_eqb k q apart) rest
          | inr out ↦ rw (out) rest
        ]
  ]

  -- and none of them behind the last
  pub printed_past : (k m q : ℕ) → k + m ≤ q → list_any (λ p. nat_eq p q) (watched_from watched k m) ≡ false
  printed_past k zero q past = refl
  printed_past k (suc m) q past =
      let rest = printed_past (k + 1) m q (omega (arith, past)) in
      elim (cases_Bool (set.contains watched k)) [
        | inl has_it ↦ rw (has_it, ne_eqb k q (λ same. absurd (omega (arith, same, past)))) rest
        | inr out ↦ rw (out) rest
      ]

  printed_some : (k m q : ℕ) → k ≤ q → q < k + m → set.contains watched q ≡ true → 0 < length (words_from watched k m)
  printed_some k zero q low high has = absurd (omega (arith, low, high))
  printed_some k (suc m) q low high has = elim (cases_Bool (set.contains watched k)) [
    | inl has_it ↦ rw (has_it) (omega arith)
    | inr out ↦ elim (cases_eq k q) [
      | inl same ↦ absurd (search (arith, out, has, same))
      | inr apart ↦ rw (out) (printed_some (k + 1) m q (omega (arith, low, apart)) (omega (arith, high)) has)
    ]
  ]

-- The line of the watched is read as them.
pub watch_line-printed : (n : ℕ) (watched : NumberSet) (q : ℕ) → n ≤ 16 → q < n → set.contains watched q ≡ true
    → watch_line n (words_from watched 0 n) ≡ Ok (Watch (set.from_list (watched_from watched 0 n)))
watch_line-printed n watched q few below has =
    rw (
      watch_line_named n (words_from watched 0 n) (printed_some watched 0 n q (omega arith) (omega (arith, below)) has),
      printed_numbers watched 0 n (omega (arith, few)),
      rise_is n nobody (watched_from watched 0 n),
      within_is n nobody (watched_from watched 0 n),
      printed_rise watched None 0 n (λ p above. refl),
      printed_below watched n 0 n (omega arith),
      watched_is n nobody [] (watched_from watched 0 n) refl (printed_below watched n 0 n (omega arith)),
    ) refl
