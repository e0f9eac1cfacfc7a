-- What is kept of a log: the hosts, and the first that has a name, or whose first event waits for none.
use Rattle.trace_order.proofs.Words.{◌≡◌, ◌∙◌, ℕ, ◌<◌, ◌≤◌, Bool, true, false, cond, List, [], Option, Some, None}
use Rattle.trace_order.proofs.Words.{length}
use Rattle.trace_order.proofs.Words.{get_or, refl, sym, ap, arith, get_or-map, HostState, host_at}
use Rattle.std.proofs.Common.{lt-ltb, le-ltb, position}
use Rattle.std.proofs.Math.Dec.{ltb}
use Rattle.std.proofs.Math.Path.{fun_ext}
use Rattle.std.proofs.lemmas.List.Sums.{position_or_len_is}
use Rattle.std.proofs.lemmas.Slice.Eq.{bytes_eq-Decides}
use Rattle.std.specs.Str.{bytes_eq}
use Rattle.trace_order.specs.Giving.{OrderState, is_named, number_in, state_of}
use Rattle.trace_order.specs.State.{AreDistinct, HasOrdered, name_at, names_in, can_go, clocks_in, waits_in}
use Rattle.trace_order.specs.declared.order.MessageOrder.{MessageOrder}
use Rattle.trace_order.specs.Ids.{IsAnnounced, is_known}
use Rattle.trace_order.proofs.Words.{Contains, IsOrder, Keeps, MessageEvent, Ordered, ◌↔◌, subst}

abbrev pub kept_as : List HostState → (List ℕ → Option ℕ) → (List ℕ → Option (List ℕ)) → OrderState
kept_as hosts announced sent = record { hosts = hosts; announced = announced; sent = sent }

-- The same is kept where the hosts are the same, and what is known of each id.
pub same_kept : (hosts hosts' : List HostState) (announced announced' : List ℕ → Option ℕ)
    (sent sent' : List ℕ → Option (List ℕ)) → hosts ≡ hosts' → ((id : List ℕ) → announced id ≡ announced' id)
    → ((id : List ℕ) → sent id ≡ sent' id) → kept_as hosts announced sent ≡ kept_as hosts' announced' sent'
same_kept hosts hosts' announced announced' sent sent' are known clocks =
    ap (λ l. kept_as l announced sent) are ∙ ap (λ f. kept_as hosts' f sent) (fun_ext known)
    ∙ ap (λ f. kept_as hosts' announced' f) (fun_ext clocks)

not_equal : (one other : List ℕ) → (one ≡ other → ⊥) → bytes_eq one other ≡ false
not_equal one other differ = by_test (bytes_eq one other) refl
  where
    by_test : (b : Bool) → bytes_eq one other ≡ b → bytes_eq one other ≡ false
    by_test true same = absurd (differ ((bytes_eq-Decides one other).0 same))
    by_test false differs = differs

no_host : HostState
no_host = host_at [] 0

-- The number of the host with a name.
pub number_is : (hosts : List HostState) (name : List ℕ) (number : ℕ) → number ≤ length hosts
    → ((k : ℕ) → k < number → name_at (names_in hosts) k ≡ name → ⊥)
    → (number < length hosts → name_at (names_in hosts) number ≡ name) → number_in hosts name ≡ number
number_is hosts name number most others here =
    position_or_len_is (is_named name) hosts number (record { name = []; clock = []; waits = [] }) most
    (λ k below. not_equal _ name (λ same. others k below (at k (omega (arith, below, most)) ∙ same)))
    (λ within. (bytes_eq-Decides _ name).1 (sym (at number within) ∙ here within))
  where
    at : (k : ℕ) → k < length hosts
        → name_at (names_in hosts) k ≡ (get_or hosts k (record { name = []; clock = []; waits = [] })).name
    at k within =
        get_or-map (λ (h : HostState). h.name) hosts k (record { name = []; clock = []; waits = [] }) [] within

abbrev goes : (List ℕ → Option (List ℕ)) → HostState → Bool
goes sent host = can_go sent host.waits

-- The first host whose first event waits for none.
pub ready_is : (sent : List ℕ → Option (List ℕ)) (hosts : List HostState) (number : ℕ) → number < length hosts
    → ((k : ℕ) → k < number → can_go sent (waits_in hosts k) ≡ false) → can_go sent (waits_in hosts number) ≡ true
    → Some number ≡ position (goes sent) hosts
ready_is sent hosts number within others here =
    let first = position_or_len_is (goes sent) hosts number (record { name = []; clock = []; waits = [] })
    (omega (arith, within)) others (λ _. here) in
    sym (ap (λ n. cond (ltb n (length hosts)) (Some n) None) first ∙ rw (lt-ltb number (length hosts) within) refl)

-- There is none.
pub none_ready : (sent : List ℕ → Option (List ℕ)) (hosts : List HostState)
    → ((k : ℕ) → k < length hosts → can_go sent (waits_in hosts k) ≡ false) → None ≡ position (goes sent) hosts
none_ready sent hosts none =
    let past = position_or_len_is (goes sent) hosts (length hosts) (record { name = []; clock = []; waits = [] })
    (omega arith) none (λ within. absurd (omega (arith, within))) in
    sym (ap (λ n. cond (ltb n (length hosts)) (Some n) None) past
    ∙ rw (le-ltb (length hosts) (length hosts) (omega arith)) refl)

-- What is known of an order is known of each that keeps the same.
pub ordered_as : (log : List MessageEvent) (given : List Ordered) (old new : MessageOrder)
    → state_of new ≡ state_of old → HasOrdered log given old → HasOrdered log given new
ordered_as log given old new same ordered =
    let is = sym same in
    record {
      is_log = ordered.is_log;
      named = subst (λ (s : OrderState). AreDistinct (names_in s.hosts)) is ordered.named;
      placed = subst (λ (s : OrderState). (event : MessageEvent) → Contains log event
          → event.host < length (names_in s.hosts)) is ordered.placed;
      announced = subst (λ (s : OrderState). (id : List ℕ) → (is_known s.announced id ≡ true) ↔ IsAnnounced log id) is
          ordered.announced;
      in_order = subst (λ (s : OrderState). IsOrder log given (waits_in s.hosts)) is ordered.in_order;
      keeps = subst (λ (s : OrderState). Keeps log given (clocks_in s.hosts) s.sent) is ordered.keeps;
    }
