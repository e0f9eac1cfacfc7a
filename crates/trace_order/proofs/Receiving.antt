-- What an event receives: the first of its ids that isn't so, and the greatest of the clocks with which they were sent.
use Rattle.trace_order.proofs.Words.{◌≡◌, ◌∙◌, ℕ, zero, suc, ◌+◌, ◌<◌, ◌≤◌, Bool, true, false, cond, max, List, [], ◌∷◌}
use Rattle.trace_order.proofs.Words.{length, Option, Some, None, is_some, get_or, slice_index, refl, sym, ap, subst}
use Rattle.trace_order.proofs.Words.{arith, inl, inr, ◌⊎◌, is_among, MessageEvent, Ordered, IsSent, KeepsSent}
use Rattle.trace_order.proofs.Words.{first_waiting}
use Rattle.std.proofs.Common.{◌&&◌, ◌||◌, Global, String, find, fold, is_none, map, not, option_map, string_bytes, take}
use Rattle.std.proofs.Common.{unwrap_or}
use Rattle.std.proofs.Math.Dec.{leb, ltb}
use Rattle.std.proofs.lemmas.Bool.{leb-true, leb-false, ltb-true, ltb-false}
use Rattle.std.proofs.lemmas.List.{get_or_past, length-map, take_more}
use Rattle.std.proofs.lemmas.List.Folds.{find-append}
use Rattle.std.proofs.lemmas.Slice.Eq.{bytes_eq-Decides}
use Rattle.std.specs.List.{list_all}
use Rattle.std.specs.Str.{bytes_eq}
use Rattle.trace_order.specs.Clocks.{greatest, numbers_to}
use Rattle.trace_order.specs.State.{can_go, is_free, sent_clock}
use Rattle.trace_order.specs.Waiting.{first_not}
use Rattle.trace_order.proofs.Noting.{item_is, true_left, true_right}
use Rattle.trace_order.proofs.Numbers.{numbers_at, numbers_length}

-- One that passes, behind those that don't, is the first.
found_at : {X : Type 0} (p : X → Bool) (xs : List X) (i : ℕ) (d : X) → i < length xs → find p (take i xs) ≡ None
    → p (get_or xs i d) ≡ true → find p xs ≡ Some (get_or xs i d)
found_at p [] i d within none here = absurd (omega (arith, within))
found_at p (x ∷ xs) zero d within none here = rw here refl
found_at {X} p (x ∷ xs) (suc i) d within none here =
    by_first (p x) refl none (λ rest. found_at p xs i d (omega (arith, within)) rest here)
  where
    by_first : (b : Bool) → p x ≡ b → cond b (Some x) (find p (take i xs)) ≡ None
        → (find p (take i xs) ≡ None → find p xs ≡ Some (get_or xs i d))
        → cond (p x) (Some x) (find p xs) ≡ Some (get_or xs i d)
    by_first true first none later = cc
    by_first false first none later = rw first (later none)

-- One more that doesn't pass.
none_more : {X : Type 0} (p : X → Bool) (xs : List X) (i : ℕ) (d : X) → i < length xs → find p (take i xs) ≡ None
    → p (get_or xs i d) ≡ false → find p (take (i + 1) xs) ≡ None
none_more p xs i d within none fails =
    ap (find p) (take_more xs i d within) ∙ find-append p (take i xs) (get_or xs i d ∷ [])
    ∙ rw none (rw fails refl)

-- The first of some texts that isn't so, behind those that are.
pub first_is_not : (is_so : List ℕ → Bool) (items : List (String Global)) (i : ℕ) (item : String Global)
    → i < length items → item ≡ get_or items i item → first_not is_so (take i (map string_bytes items)) ≡ None
    → is_so (string_bytes item) ≡ false → Some (string_bytes item) ≡ first_not is_so (map string_bytes items)
first_is_not is_so items i item within is none isnt =
    let ids = map string_bytes items in
    let here = item_is string_bytes items i item within is in
    let within' : i < length ids = omega (arith, within, length-map items string_bytes) in
    sym (found_at (λ id. not (is_so id)) ids i [] within' none (ap not (ap is_so here ∙ isnt)) ∙ ap Some here)

-- One more of some texts that is so.
pub none_isnt : (is_so : List ℕ → Bool) (items : List (String Global)) (i : ℕ) (item : String Global)
    → i < length items → item ≡ get_or items i item → first_not is_so (take i (map string_bytes items)) ≡ None
    → is_so (string_bytes item) ≡ true → first_not is_so (take (i + 1) (map string_bytes items)) ≡ None
none_isnt is_so items i item within is none isso =
    let here = item_is string_bytes items i item within is in
    none_more (λ id. not (is_so id)) (map string_bytes items) i []
    (omega (arith, within, length-map items string_bytes)) none (ap not (ap is_so here ∙ isso))

pub some_mapped : {X Y : Type 0} (f : X → Y) (found : Option X) → is_some (option_map f found) ≡ is_some found
some_mapped f None = refl
some_mapped f (Some x) = refl

pub none_mapped : {X Y : Type 0} (f : X → Y) (found : Option X) → is_none found ≡ is_none (option_map f found)
none_mapped f found = ap not (sym (some_mapped f found))

pub none_where : (some none : Bool) → some ≡ not none → none ≡ not some
none_where some true is = sym (ap not is)
none_where some false is = sym (ap not is)

-- All are so where none is the first that isn't.
pub all_where_none : {X : Type 0} (p : X → Bool) (xs : List X) → is_none (find (λ x. not (p x)) xs) ≡ list_all p xs
all_where_none p [] = refl
all_where_none p (x ∷ xs) = by_first (p x) refl (all_where_none p xs)
  where
    by_first : (b : Bool) → p x ≡ b → is_none (find (λ x. not (p x)) xs) ≡ list_all p xs
        → is_none (find (λ x. not (p x)) (x ∷ xs)) ≡ list_all p (x ∷ xs)
    by_first true first later = rw first later
    by_first false first later = rw first refl

-- Whether the first of the events that wait can be given on.
pub first_goes : (sent : List ℕ → Option (List ℕ)) (waits : List MessageEvent) (event : MessageEvent)
    → first_waiting waits ≡ Some event → is_free sent event.receives ≡ can_go sent waits
first_goes sent [] event first = cc
first_goes sent (other ∷ others) event first =
    let same : event ≡ other = cc in
    ap (λ (e : MessageEvent). is_free sent e.receives) same

-- The numbers of the greatest of two clocks.
pub greatest_at : (one other : List ℕ) (i : ℕ)
    → slice_index (greatest one other) i ≡ max (slice_index one i) (slice_index other i)
unfolding greatest
greatest_at one other i = by_place (ltb i count) refl
  where
    count : ℕ
    count = max (length one) (length other)

    number : ℕ → ℕ
    number i = max (slice_index one i) (slice_index other i)

    by_place : (b : Bool) → ltb i count ≡ b → slice_index (numbers_to number count) i ≡ number i
    by_place true within = numbers_at number count i (ltb-true i count within)
    by_place false past =
        let behind = ltb-false i count past in
        let first = get_or_past one i 0 (omega (arith, behind)) in
        let second = get_or_past other i 0 (omega (arith, behind)) in
        get_or_past (numbers_to number count) i 0 (omega (arith, behind, numbers_length number count))
        ∙ omega (arith, first, second)

-- An id was sent, and this clock counts what the sender's does.
pub record IsCounted (given : List Ordered) (id clock : List ℕ) : Type 0 where
  pub sent : IsSent given id
  pub least : (host : ℕ) → slice_index sent.sender.clock host ≤ slice_index clock host

-- One of these ids was sent with a clock that counts so many of a host.
pub record IsFrom (given : List Ordered) (receives : List (List ℕ)) (host number : ℕ) : Type 0 where
  pub id : List ℕ
  pub received : is_among id receives ≡ true
  pub sent : IsSent given id
  pub counts : slice_index sent.sender.clock host ≡ number

-- These ids were sent, and the clock is the greatest of those that they were sent with.
pub record IsSender (given : List Ordered) (receives : List (List ℕ)) (clock : List ℕ) : Type 0 where
  pub all : (id : List ℕ) → is_among id receives ≡ true → IsCounted given id clock
  pub from : (host : ℕ) → 0 < slice_index clock host → IsFrom given receives host (slice_index clock host)

-- The same of a clock that counted some before.
record IsGathered (given : List Ordered) (receives : List (List ℕ)) (before after : List ℕ) : Type 0 where
  least : (host : ℕ) → slice_index before host ≤ slice_index after host
  all : (id : List ℕ) → is_among id receives ≡ true → IsCounted given id after
  from : (host : ℕ) → (slice_index after host ≡ slice_index before host)
      ⊎ IsFrom given receives host (slice_index after host)

both_true : (a b : Bool) → (a && b) ≡ true → (a ≡ true) × (b ≡ true)
both_true true b is = (refl, is)
both_true false b is = cc

module _ (given : List Ordered) (sent : List ℕ → Option (List ℕ)) (kept : (id : List ℕ) → KeepsSent given id (sent id))
  where
    was_kept : (id : List ℕ) → is_some (sent id) ≡ true
        → (there : IsSent given id) × (there.sender.clock ≡ unwrap_or (sent id) [])
    was_kept id some = by_kept (sent id) (kept id) some
      where
        by_kept : (found : Option (List ℕ)) → KeepsSent given id found → is_some found ≡ true
            → (there : IsSent given id) × (there.sender.clock ≡ unwrap_or found [])
        by_kept None none some = cc
        by_kept (Some clock) from some = from

    gathered_first : (id : List ℕ) (ids : List (List ℕ)) (before clock after : List ℕ)
        → (there : IsSent given id) × (there.sender.clock ≡ clock)
        → IsGathered given ids (greatest before clock) after → IsGathered given (id ∷ ids) before after
    gathered_first id ids before clock after own rest = record {
      least = λ host.
          let more = greatest_at before clock host in
          let later = rest.least host in
          omega (arith, more, later);
      all = λ other there. all_of other (bytes_eq id other) refl there;
      from = λ host. from_of host (rest.from host);
    }
      where
        first : IsCounted given id after
        first = record {
          sent = own.0;
          least = λ host.
              let more = greatest_at before clock host in
              let later = rest.least host in
              let same = ap (λ l. slice_index l host) own.1 in
              omega (arith, more, later, same);
        }

        all_of : (other : List ℕ) (b : Bool) → bytes_eq id other ≡ b → (b || is_among other ids) ≡ true
            → IsCounted given other after
        all_of other true same there = subst (λ x. IsCounted given x after) ((bytes_eq-Decides id other).0 same) first
        all_of other false differ there = rest.all other there

        from_of : (host : ℕ)
            → (slice_index after host ≡ slice_index (greatest before clock) host)
            ⊎ IsFrom given ids host (slice_index after host)
            → (slice_index after host ≡ slice_index before host)
            ⊎ IsFrom given (id ∷ ids) host (slice_index after host)
        from_of host (inl same) = by_greatest (leb (slice_index clock host) (slice_index before host)) refl
          where
            more : slice_index (greatest before clock) host ≡ max (slice_index before host) (slice_index clock host)
            more = greatest_at before clock host

            by_greatest : (b : Bool) → leb (slice_index clock host) (slice_index before host) ≡ b
                → (slice_index after host ≡ slice_index before host)
                ⊎ IsFrom given (id ∷ ids) host (slice_index after host)
            by_greatest true fewer =
                let below = leb-true (slice_index clock host) (slice_index before host) fewer in
                inl (omega (arith, same, more, below))
            by_greatest false greater =
                let above = leb-false (slice_index clock host) (slice_index before host) greater in
                let its = ap (λ l. slice_index l host) own.1 in
                inr (record {
                  id = id;
                  received = true_left (bytes_eq id id) (is_among id ids) ((bytes_eq-Decides id id).1 refl);
                  sent = own.0;
                  counts = omega (arith, same, more, above, its);
                })
        from_of host (inr from) = inr (record {
          id = from.id;
          received = true_right (bytes_eq id from.id) (is_among from.id ids) from.received;
          sent = from.sent;
          counts = from.counts;
        })

    gathered : (receives : List (List ℕ)) (before : List ℕ) → is_free sent receives ≡ true
        → IsGathered given receives before
        (fold (λ clock id. greatest clock (unwrap_or (sent id) [])) before receives)
    gathered [] before free = record {
      least = λ host. omega arith;
      all = λ id there. cc;
      from = λ host. inl refl;
    }
    gathered (id ∷ ids) before free =
        let both = both_true (is_some (sent id)) (is_free sent ids) free in
        gathered_first id ids before (unwrap_or (sent id) []) _ (was_kept id both.0)
        (gathered ids (greatest before (unwrap_or (sent id) [])) both.1)

    -- What is received was sent with the clocks that are kept.
    pub is_sender : (receives : List (List ℕ)) → is_free sent receives ≡ true
        → IsSender given receives (sent_clock sent receives)
    is_sender receives free =
        let all = gathered receives [] free in
        record {
          all = all.all;
          from = λ host some. from_some host some (all.from host);
        }
      where
        from_some : (host : ℕ) → 0 < slice_index (sent_clock sent receives) host
            → (slice_index (sent_clock sent receives) host ≡ slice_index [] host)
            ⊎ IsFrom given receives host (slice_index (sent_clock sent receives) host)
            → IsFrom given receives host (slice_index (sent_clock sent receives) host)
        from_some host some (inl none) = absurd (omega (arith, some, none))
        from_some host some (inr from) = from

    -- An event that waits for none can be given on.
    pub free_where_ready : (receives : List (List ℕ))
        → ((id : List ℕ) → is_among id receives ≡ true → IsSent given id) → is_free sent receives ≡ true
    free_where_ready [] ready = refl
    free_where_ready (id ∷ ids) ready =
        rw (here (sent id) (kept id)) (free_where_ready ids
        (λ other there. ready other (true_right (bytes_eq id other) (is_among other ids) there)))
      where
        here : (found : Option (List ℕ)) → KeepsSent given id found → is_some found ≡ true
        here None none =
            absurd (none (ready id (true_left (bytes_eq id id) (is_among id ids) ((bytes_eq-Decides id id).1 refl))))
        here (Some clock) from = refl
