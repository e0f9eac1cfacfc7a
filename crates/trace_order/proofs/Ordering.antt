-- What is kept of the events that were read and given on, after each call.
use Rattle.trace_order.proofs.Words.{◌≡◌, ◌∙◌, ℕ, ◌<◌, Bool, true, false, cond, List, [], ◌∷◌, ◌++◌, length, set, refl}
use Rattle.trace_order.proofs.Words.{sym}
use Rattle.trace_order.proofs.Words.{ap, subst, arith, inl, inr, ◌⊎◌, Some, Option, Contains, nat_eq}
use Rattle.trace_order.proofs.Words.{Contains-push, Contains-push_cases, Contains-append_left, MessageEvent, is_among}
use Rattle.trace_order.proofs.Words.{Sends, Ordered, IsOrder, Keeps}
use Rattle.trace_order.proofs.Words.{HostState, host_at, first_waiting, IsNextClock}
use Rattle.trace_order.proofs.Hosts.{changed}
use Rattle.trace_order.proofs.Members.{in_first}
use Rattle.trace_order.proofs.Past.{waits_host}
use Rattle.trace_order.proofs.Reading.{MayFollow, log_read, order_read, keeps_read}
use Rattle.trace_order.proofs.Giving.{Gives}
use Rattle.trace_order.proofs.Receiving.{free_where_ready, is_sender}
use Rattle.trace_order.proofs.Given.{order_given, keeps_given}
use Rattle.trace_order.specs.Ids.{IsAnnounced, AreNew, id_at}
use Rattle.trace_order.specs.State.{waits_in, clocks_in, names_in, AreDistinct, sent_of, is_announced, HasOrdered}
use Rattle.trace_order.specs.State.{IsBehind, AllWait, can_go}
use Rattle.trace_order.specs.State.{is_free, sent_clock, IsFirstClock, IsClockOf}
use Rattle.trace_order.proofs.Words.{events_of, of_host, IsLast, IsUnbegun, ◌↔◌, ◌≤◌, slice_index, suc}
use Rattle.trace_order.specs.declared.order.MessageOrder.{MessageOrder}
use Rattle.trace_order.proofs.Noting.{false_left, true_left, true_right}
use Rattle.std.proofs.Common.{◌||◌, is_some, option_map, Vec, Global}
use Rattle.std.proofs.Math.Dec.{leb}
use Rattle.std.proofs.lemmas.List.{get_or_past}
use Rattle.std.proofs.lemmas.Bool.{eqb-true, leb-true, leb-false}
use Rattle.std.proofs.lemmas.Slice.Eq.{bytes_eq-Decides}
use Rattle.std.proofs.lemmas.List.{length-map}
use Rattle.std.specs.HashMap.{get_by_text}
use Rattle.trace_order.specs.Clocks.{most_number}
use Rattle.std.specs.Str.{bytes_eq}

-- Functions that agree everywhere keep the same.
order_same : (log : List MessageEvent) (given : List Ordered) (waits waits' : ℕ → List MessageEvent)
    → ((host : ℕ) → waits' host ≡ waits host) → IsOrder log given waits → IsOrder log given waits'
order_same log given waits waits' same order = record {
  along = λ host. order.along host ∙ ap (λ l. of_host host (events_of given) ++ l) (sym (same host));
  received = order.received;
}

keeps_same : (log : List MessageEvent) (given : List Ordered) (clocks clocks' : ℕ → List ℕ)
    (sent : List ℕ → Option (List ℕ)) → ((host : ℕ) → clocks' host ≡ clocks host) → Keeps log given clocks sent
    → Keeps log given clocks' sent
keeps_same log given clocks clocks' sent same keeps = record {
  lasts = λ host. subst (λ l. IsLast given host l ⊎ IsUnbegun given host l) (sym (same host)) (keeps.lasts host);
  sends = keeps.sends;
  counts = keeps.counts;
  most = keeps.most;
  bounds = λ one host there.
      subst (λ l. slice_index one.clock host ≤ slice_index l host) (sym (same host)) (keeps.bounds one host there);
  says = keeps.says;
}

-- A host more, of which nothing was read.
pub ordered_same : (log : List MessageEvent) (given : List Ordered) (old new : MessageOrder)
    → ((host : ℕ) → waits_in new.hosts.items host ≡ waits_in old.hosts.items host)
    → ((host : ℕ) → clocks_in new.hosts.items host ≡ clocks_in old.hosts.items host) → new.announced ≡ old.announced
    → new.sent ≡ old.sent → AreDistinct (names_in new.hosts.items)
    → length (names_in old.hosts.items) ≤ length (names_in new.hosts.items) → HasOrdered log given old
    → HasOrdered log given new
ordered_same log given old new waits clocks announced sent distinct more ordered = record {
  is_log = ordered.is_log;
  named = distinct;
  placed = λ event there.
      let within = ordered.placed event there in
      omega (arith, within, more);
  announced = λ id. subst (λ map. (is_some (get_by_text map id) ≡ true) ↔ IsAnnounced log id) (sym announced)
      (ordered.announced id);
  in_order = order_same log given (waits_in old.hosts.items) (waits_in new.hosts.items) waits ordered.in_order;
  keeps = subst (λ map. Keeps log given (clocks_in new.hosts.items)
      (λ id. option_map (λ (v : Vec ℕ Global). v.items) (get_by_text map id))) (sym sent)
      (keeps_same log given (clocks_in old.hosts.items) (clocks_in new.hosts.items) (sent_of old) clocks ordered.keeps);
}

-- An id among these has a place.
among_at : (id : List ℕ) (ids : List (List ℕ)) → is_among id ids ≡ true
    → (place : ℕ) × (place < length ids) × (id_at ids place ≡ id)
among_at id [] there = cc
among_at id (first ∷ ids) there = by_first (λ yes_is. among_at id ids yes_is) (bytes_eq first id) refl there
  where
    Place : List (List ℕ) → Type 0
    Place all = (place : ℕ) × (place < length all) × (id_at all place ≡ id)

    by_first : (is_among id ids ≡ true → Place ids) → (b : Bool) → bytes_eq first id ≡ b
        → (b || is_among id ids) ≡ true → Place (first ∷ ids)
    by_first later true same there = (0, omega arith, (bytes_eq-Decides first id).0 same)
    by_first later false differ there =
        let found = later there in
        (suc found.0, omega (arith, found.1), found.2)

either_true : (a b : Bool) → (a || b) ≡ true → (a ≡ true) ⊎ (b ≡ true)
either_true true b is = inl refl
either_true false b is = inr is

module _ (log : List MessageEvent) (given : List Ordered) (old new : MessageOrder) (event : MessageEvent)
    (pushed : HostState) (ordered : HasOrdered log given old) (behind : IsBehind log event)
    (within : event.host < length old.hosts.items) (hosts : new.hosts.items ≡ set old.hosts.items event.host pushed)
    (waits : pushed.waits ≡ waits_in old.hosts.items event.host ++ event ∷ [])
    (clock : pushed.clock ≡ clocks_in old.hosts.items event.host)
    (are_new : AreNew (is_announced old) event.sends)
    (added : (id : List ℕ) → is_announced new id ≡ (is_announced old id || is_among id event.sends))
    (sent : new.sent ≡ old.sent) (names : names_in new.hosts.items ≡ names_in old.hosts.items)
  where
    may_follow : MayFollow log event
    may_follow = record {
      behind = behind;
      once = λ other id there first second. never other id there first (among_at id event.sends second);
    }
      where
        never : (other : MessageEvent) (id : List ℕ) → Contains log other → Sends other id
            → (place : ℕ) × (place < length event.sends) × (id_at event.sends place ≡ id) → ⊥
        never other id there sends at =
            let unknown : is_announced old (id_at event.sends at.0) ≡ false = false_left _ _ (are_new at.0 at.1) in
            let known = (ordered.announced id).1 (record { sender = other; was_read = there; sends = sends }) in
            let same = ap (is_announced old) at.2 in
            cc (unknown, known, same)

    announced_now : (id : List ℕ) → (is_announced new id ≡ true) ↔ IsAnnounced (log ++ event ∷ []) id
    announced_now id = (
      λ known. from (either_true _ _ (sym (added id) ∙ known)),
      λ found. to found.sender found.sends (Contains-push_cases log event found.sender found.was_read),
    )
      where
        from : ((is_announced old id ≡ true) ⊎ (is_among id event.sends ≡ true)) → IsAnnounced (log ++ event ∷ []) id
        from (inl known) =
            let found = (ordered.announced id).0 known in
            record {
              sender = found.sender;
              was_read = Contains-append_left log (event ∷ []) found.sender found.was_read;
              sends = found.sends;
            }
        from (inr own) = record { sender = event; was_read = Contains-push log event; sends = own }

        to : (sender : MessageEvent) → Sends sender id → (Contains log sender ⊎ (event ≡ sender))
            → is_announced new id ≡ true
        to sender sends (inl before) =
            added id ∙ true_left _ _ ((ordered.announced id).1 (record {
              sender = sender;
              was_read = before;
              sends = sends;
            }))
        to sender sends (inr same) =
            added id ∙ true_right (is_announced old id) _ (ap (λ e. is_among id e.sends) same ∙ sends)

    waits_now : (host : ℕ) → waits_in new.hosts.items host ≡ cond (nat_eq event.host host)
        (waits_in old.hosts.items host ++ event ∷ []) (waits_in old.hosts.items host)
    waits_now host =
        ap (λ l. waits_in l host) hosts ∙ changed (λ s. s.waits) old.hosts.items event.host pushed within host
        ∙ by_host (nat_eq event.host host) refl
      where
        by_host : (b : Bool) → nat_eq event.host host ≡ b
            → cond (nat_eq event.host host) pushed.waits (waits_in old.hosts.items host)
            ≡ cond (nat_eq event.host host) (waits_in old.hosts.items host ++ event ∷ []) (waits_in old.hosts.items
            host)
        by_host true same =
            let host_is = ap (λ h. waits_in old.hosts.items h ++ event ∷ []) (eqb-true event.host host same) in
            rw same (waits ∙ host_is)
        by_host false differ = rw differ refl

    clocks_now : (host : ℕ) → clocks_in new.hosts.items host ≡ clocks_in old.hosts.items host
    clocks_now host =
        ap (λ l. clocks_in l host) hosts ∙ changed (λ s. s.clock) old.hosts.items event.host pushed within host
        ∙ by_host (nat_eq event.host host) refl
      where
        by_host : (b : Bool) → nat_eq event.host host ≡ b
            → cond (nat_eq event.host host) pushed.clock (clocks_in old.hosts.items host) ≡ clocks_in old.hosts.items
            host
        by_host true same =
            let host_is = ap (clocks_in old.hosts.items) (eqb-true event.host host same) in
            rw same (clock ∙ host_is)
        by_host false differ = rw differ refl

    placed_now : (other : MessageEvent) → (Contains log other ⊎ (event ≡ other))
        → other.host < length (names_in new.hosts.items)
    placed_now other (inl before) =
        let there = ordered.placed other before in
        omega (arith, there, ap length names)
    placed_now other (inr same) =
        let host_is = ap (λ (e : MessageEvent). e.host) same in
        omega (arith, host_is, within, ap length names, length-map old.hosts.items (λ (h : HostState). h.name))

    -- An event more was read.
    pub ordered_put : HasOrdered (log ++ event ∷ []) given new
    ordered_put = record {
      is_log = log_read log event ordered.is_log may_follow;
      named = subst AreDistinct (sym names) ordered.named;
      placed = λ other there. placed_now other (Contains-push_cases log event other there);
      announced = announced_now;
      in_order = order_read log event ordered.is_log may_follow given (waits_in old.hosts.items)
          (waits_in new.hosts.items) ordered.in_order waits_now;
      keeps = subst (λ map. Keeps (log ++ event ∷ []) given (clocks_in new.hosts.items)
          (λ id. option_map (λ (v : Vec ℕ Global). v.items) (get_by_text map id))) (sym sent)
          (keeps_same (log ++ event ∷ []) given (clocks_in old.hosts.items) (clocks_in new.hosts.items) (sent_of old)
          clocks_now (keeps_read log event ordered.is_log may_follow given (waits_in old.hosts.items)
          (waits_in new.hosts.items) ordered.in_order waits_now (clocks_in old.hosts.items) (sent_of old)
          ordered.keeps));
    }

-- Where no host's first event can be given on, all of them wait.
pub all_wait : (log : List MessageEvent) (given : List Ordered) (order : MessageOrder) → HasOrdered log given order
    → ((host : ℕ) → host < length order.hosts.items → can_go (sent_of order) (waits_in order.hosts.items host) ≡ false)
    → AllWait given order.hosts.items
all_wait log given order ordered none host event first ready =
    by_waits (waits_in order.hosts.items host) first (by_range (leb (length order.hosts.items) host) refl)
  where
    by_range : (b : Bool) → leb (length order.hosts.items) host ≡ b
        → can_go (sent_of order) (waits_in order.hosts.items host) ≡ false
    by_range true past = ap (λ s. can_go (sent_of order) s.waits)
        (get_or_past order.hosts.items host _ (leb-true (length order.hosts.items) host past))
    by_range false within = none host (leb-false (length order.hosts.items) host within)

    by_waits : (waits : List MessageEvent) → first_waiting waits ≡ Some event → can_go (sent_of order) waits ≡ false → ⊥
    by_waits [] first stays = cc
    by_waits (other ∷ others) first stays =
        let same : other ≡ event = cc in
        let free = free_where_ready given (sent_of order) ordered.keeps.sends event.receives ready in
        let also = ap (λ (e : MessageEvent). is_free (sent_of order) e.receives) same in
        cc (free, stays, also)

module _ (log : List MessageEvent) (given : List Ordered) (old new : MessageOrder) (number : ℕ) (event : MessageEvent)
    (popped : HostState) (clock : List ℕ) (ordered : HasOrdered log given old)
    (within : number < length old.hosts.items)
    (waits : waits_in old.hosts.items number ≡ event ∷ popped.waits)
    (can : can_go (sent_of old) (waits_in old.hosts.items number) ≡ true)
    (next : IsFirstClock (sent_of old) (host_at old.hosts.items number) number clock)
    (hosts : new.hosts.items ≡ set old.hosts.items number popped)
    (clock_is : popped.clock ≡ clock)
    (sent : (id : List ℕ) → sent_of new id ≡ cond (is_among id event.sends) (Some clock) (sent_of old id))
    (announced : new.announced ≡ old.announced) (names : names_in new.hosts.items ≡ names_in old.hosts.items)
  where
    host_is : event.host ≡ number
    host_is = waits_host log given (waits_in old.hosts.items) ordered.in_order number event
        (subst (λ l. Contains l event) (sym waits) (in_first event popped.waits))

    gives : Gives log given (waits_in old.hosts.items) (clocks_in old.hosts.items) event popped.waits
        (sent_clock (sent_of old) event.receives) clock
    gives =
        let its_clock : IsClockOf (sent_of old) (clocks_in old.hosts.items number) (event ∷ popped.waits) number clock =
        subst (λ l. IsClockOf (sent_of old) (clocks_in old.hosts.items number) l number clock) waits next in
        let free : is_free (sent_of old) event.receives ≡ true =
        sym (ap (can_go (sent_of old)) waits) ∙ can in
        record {
          waiting = ap (waits_in old.hosts.items) host_is ∙ waits;
          sender_is = is_sender given (sent_of old) ordered.keeps.sends event.receives free;
          small = subst (λ h. slice_index clock h ≤ most_number) (sym host_is) its_clock.1;
          clock_is = subst (λ h. IsNextClock (clocks_in old.hosts.items h) (sent_clock (sent_of old) event.receives) h
              clock) (sym host_is) its_clock.0;
        }

    changed_at : {A : Type 0} (f : HostState → A) (value : A) → f popped ≡ value → (host : ℕ)
        → f (host_at new.hosts.items host) ≡ cond (nat_eq event.host host) value (f (host_at old.hosts.items host))
    changed_at f value is host =
        ap (λ l. f (host_at l host)) hosts ∙ changed f old.hosts.items number popped within host
        ∙ ap (λ h. cond (nat_eq h host) (f popped) (f (host_at old.hosts.items host))) (sym host_is)
        ∙ ap (λ v. cond (nat_eq event.host host) v (f (host_at old.hosts.items host))) is

    -- An event more was given on.
    pub ordered_give : HasOrdered log (given ++ record { event = event; clock = clock } ∷ []) new
    ordered_give = record {
      is_log = ordered.is_log;
      named = subst AreDistinct (sym names) ordered.named;
      placed = subst (λ l. (e : MessageEvent) → Contains log e → e.host < length l) (sym names) ordered.placed;
      announced = λ id. subst (λ map. (is_some (get_by_text map id) ≡ true) ↔ IsAnnounced log id) (sym announced)
          (ordered.announced id);
      in_order = order_given log given (waits_in old.hosts.items) (clocks_in old.hosts.items) (sent_of old) event
          popped.waits (sent_clock (sent_of old) event.receives) clock ordered.is_log ordered.in_order ordered.keeps
          gives
          (waits_in new.hosts.items) (changed_at (λ s. s.waits) popped.waits refl);
      keeps = keeps_given log given (waits_in old.hosts.items) (clocks_in old.hosts.items) (sent_of old) event
          popped.waits (sent_clock (sent_of old) event.receives) clock ordered.is_log ordered.in_order ordered.keeps
          gives
          (clocks_in new.hosts.items) (sent_of new) (changed_at (λ s. s.clock) clock clock_is) sent;
    }
