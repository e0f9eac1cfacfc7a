-- How many events of a record a count reaches.
use Rattle.std.proofs.Common.{◌≡◌, ◌∙◌, ◌<◌, ◌≤◌, ℕ, Bool, true, false, List, [], ◌∷◌, length, map, get_or, sym, ap}
use Rattle.std.proofs.Common.{nat_lt, slice_index, arith}
use Rattle.std.specs.List.{prefix_len}
use Rattle.std.proofs.lemmas.List.{get_or-map, length-map}
use Rattle.std.proofs.lemmas.List.Sums.{prefix_len_is}
use Rattle.std.proofs.lemmas.Bool.Decides.{nat_tests}
use Rattle.wullaphi_record.specs.declared.recorded.RecordedEvent.{RecordedEvent}
use Rattle.wullaphi_record.specs.Recorded.{Recorded, AreInOrder, counted, nothing}
use Rattle.wullaphi_record.specs.Views.{seen_event}

-- The process has counted fewer of its own events.
abbrev pub is_before : ℕ → ℕ → RecordedEvent → Bool
is_before process count one = nat_lt (slice_index one.clock process) count

pub known_is : (process count : ℕ) (items : List RecordedEvent) (r : ℕ) → r ≤ length items
    → ((k : ℕ) (d : RecordedEvent) → 0 ≤ k → k < r → is_before process count (get_or items k d) ≡ true)
    → ((k : ℕ) (d : RecordedEvent) → r ≤ k → k < length items → is_before process count (get_or items k d) ≡ false)
    → r ≡ prefix_len (λ one. nat_lt (counted process one) count) (map seen_event items)
known_is process count [] r bound before behind = omega arith
known_is process count (x ∷ xs) r bound before behind =
    let items = x ∷ xs in
    let test : Recorded → Bool = λ one. nat_lt (counted process one) count in
    let at : (k : ℕ) → k < length items → test (get_or (map seen_event items) k nothing)
    ≡ is_before process count (get_or items k x) = λ k within. ap test (get_or-map seen_event items k x nothing within) in
    let long = length-map items seen_event in
    sym (prefix_len_is test (map seen_event items) r nothing (omega (arith, long))
    (λ k below. at k (omega arith) ∙ before k x (omega arith) below)
    (λ inside. at r (omega (arith, long)) ∙ behind r x (omega arith) (omega (arith, long))))

-- What is before one event is before each later one.
pub before_later : (process count : ℕ) (items : List RecordedEvent) → AreInOrder (map seen_event items)
    → (i j : ℕ) (d : RecordedEvent) → i ≤ j → j < length items → is_before process count (get_or items j d) ≡ true
    → is_before process count (get_or items i d) ≡ true
before_later process count items in_order i j d le within before =
    let long = length-map items seen_event in
    let here = get_or-map seen_event items i d nothing (omega arith) in
    let there = get_or-map seen_event items j d nothing within in
    let rises = in_order i j le (omega (arith, long)) process in
    let here' = ap (λ one. slice_index one.clock process) here in
    let there' = ap (λ one. slice_index one.clock process) there in
    grind (arith, nat_tests)
