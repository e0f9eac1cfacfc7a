-- What happened before an event that was given on was given on.
use Rattle.trace_order.proofs.Words.{◌≡◌, ℕ, ◌<◌, List, refl, sym, ◌∙◌, ap, subst, arith, inl}
use Rattle.trace_order.proofs.Words.{inr, ◌⊎◌}
use Rattle.trace_order.proofs.Words.{Contains, AllPairs, AllPairs-filter, Contains-append_left}
use Rattle.trace_order.proofs.Words.{Contains-append_right}
use Rattle.trace_order.proofs.Words.{Contains-append_cases, nat_eq, MessageEvent, IsNext, IsMessage, HappensBefore}
use Rattle.trace_order.proofs.Words.{is_among, next}
use Rattle.trace_order.proofs.Words.{message, through, Ordered, events_of, of_host, IsLog, IsOrder}
use Rattle.trace_order.proofs.Members.{is_picked, picked_is, picked_passes, is_mapped, mapped_from, across}
use Rattle.std.proofs.lemmas.Bool.{eqb-true, eq-eqb}

-- An event was given on.
pub record IsGiven (given : List Ordered) (event : MessageEvent) : Type 0 where
  pub one : Ordered
  pub was_given : Contains given one
  pub event_is : one.event ≡ event

pub given_of : (given : List Ordered) (one : Ordered) → Contains given one → IsGiven given one.event
given_of given one there = record { one = one; was_given = there; event_is = refl }

in_host : (host : ℕ) (events : List MessageEvent) (e : MessageEvent) → Contains events e → e.host ≡ host
    → Contains (of_host host events) e
in_host host events e there is = is_picked (λ event. nat_eq event.host host) events e there (eq-eqb e.host host is)

module _ (log : List MessageEvent) (given : List Ordered) (waits : ℕ → List MessageEvent) (order : IsOrder log given
    waits)
  where
    pub given_read : (one : Ordered) → Contains given one → Contains log one.event
    given_read one there =
        let host = one.event.host in
        let among = in_host host (events_of given) one.event (is_mapped (λ (o : Ordered). o.event) given one there)
        refl in
        let all = Contains-append_left (of_host host (events_of given)) (waits host) one.event among in
        picked_is (λ event. nat_eq event.host host) log one.event
        (subst (λ l. Contains l one.event) (sym (order.along host)) all)

    waits_picked : (host : ℕ) (e : MessageEvent) → Contains (waits host) e → Contains (of_host host log) e
    waits_picked host e there =
        subst (λ l. Contains l e) (sym (order.along host))
        (Contains-append_right (of_host host (events_of given)) (waits host) e there)

    pub waits_read : (host : ℕ) (e : MessageEvent) → Contains (waits host) e → Contains log e
    waits_read host e there = picked_is (λ event. nat_eq event.host host) log e (waits_picked host e there)

    pub waits_host : (host : ℕ) (e : MessageEvent) → Contains (waits host) e → e.host ≡ host
    waits_host host e there =
        eqb-true e.host host (picked_passes (λ event. nat_eq event.host host) log e (waits_picked host e there))

    pub read_cases : (e : MessageEvent) → Contains log e → IsGiven given e ⊎ Contains (waits e.host) e
    read_cases e there =
        let host = e.host in
        let among = subst (λ l. Contains l e) (order.along host) (in_host host log e there refl) in
        elim (Contains-append_cases (of_host host (events_of given)) (waits host) e among) [
          | inl before ↦ inl (made (mapped_from (λ (o : Ordered). o.event) given e
              (picked_is (λ event. nat_eq event.host host) (events_of given) e before)))
          | inr waiting ↦ inr waiting
        ]
      where
        made : (o : Ordered) × Contains given o × (o.event ≡ e) → IsGiven given e
        made from = record { one = from.0; was_given = from.1; event_is = from.2 }

    module _ (is : IsLog log) where
      -- An event that waits stands behind those of its host that were given on.
      pub waits_behind : (host : ℕ) (one : Ordered) (e : MessageEvent) → Contains given one → one.event.host ≡ host
          → Contains (waits host) e → one.event.line < e.line
      waits_behind host one e there host_is waiting =
          let before : MessageEvent → MessageEvent → Type 0 = λ e f. e.line < f.line in
          let pairs = subst (λ l. AllPairs before l) (order.along host)
          (AllPairs-filter before (λ event. nat_eq event.host host) log is.rises) in
          across before (of_host host (events_of given)) (waits host) one.event e pairs
          (in_host host (events_of given) one.event (is_mapped (λ (o : Ordered). o.event) given one there) host_is)
          waiting

      next_given : (e f : MessageEvent) → IsNext log e f → IsGiven given f → IsGiven given e
      next_given e f step there =
          elim (read_cases e step.first) [
            | inl found ↦ found
            | inr waiting ↦
                let behind = waits_behind e.host there.one e there.was_given
                (ap (λ (x : MessageEvent). x.host) there.event_is ∙ sym step.host) waiting in
                let same = ap (λ (x : MessageEvent). x.line) there.event_is in
                absurd (omega (arith, behind, same, step.behind))
          ]

      message_given : (e f : MessageEvent) → IsMessage log e f → IsGiven given f → IsGiven given e
      message_given e f step there =
          let sent = order.received there.one there.was_given step.id
          (ap (λ (x : MessageEvent). is_among step.id x.receives) there.event_is ∙ step.received) in
          record {
            one = sent.sender;
            was_given = sent.was_given;
            event_is = is.once sent.sender.event e step.id (given_read sent.sender sent.was_given) step.first sent.sends
                step.sent;
          }

      pub past_given : {e f : MessageEvent} → HappensBefore log e f → IsGiven given f → IsGiven given e
      past_given (next {e} {f} step) there = next_given e f step there
      past_given (message {e} {f} step) there = message_given e f step there
      past_given (through first second) there = past_given first (past_given second there)
