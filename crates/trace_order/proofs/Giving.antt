-- One event more is given on, the first that waits of its host, whose message was sent: what happened before it.
use Rattle.trace_order.proofs.Words.{◌≡◌, ℕ, ◌<◌, ◌≤◌, Bool, true, false, max, List, [], ◌∷◌, ◌++◌, refl}
use Rattle.trace_order.proofs.Words.{sym}
use Rattle.trace_order.proofs.Words.{◌∙◌, ap, subst, arith, inl, inr, ◌⊎◌, Option, Contains, AllPairs}
use Rattle.trace_order.proofs.Words.{AllPairs-filter, append_assoc, nat_eq, slice_index}
use Rattle.trace_order.proofs.Words.{MessageEvent, IsNext, IsMessage, HappensBefore, next, message, through, Ordered}
use Rattle.trace_order.proofs.Words.{events_of, of_host, own, IsUpTo, IsLog, IsOrder, IsLast}
use Rattle.trace_order.proofs.Words.{Keeps, IsNextClock, Contains-push}
use Rattle.trace_order.proofs.Receiving.{IsCounted, IsSender}
use Rattle.trace_order.specs.Clocks.{most_number}
use Rattle.trace_order.proofs.Members.{first_or_others, in_first, across}
use Rattle.trace_order.proofs.Past.{IsGiven, given_read, waits_read, waits_behind, read_cases}
use Rattle.trace_order.proofs.Past.{past_given}
use Rattle.std.proofs.lemmas.Bool.{eqb-true, leb-true, leb-false}
use Rattle.std.proofs.Math.Dec.{leb}

-- What is known where an event is given on.
pub record Gives (log : List MessageEvent) (given : List Ordered) (waits : ℕ → List MessageEvent)
    (clocks : ℕ → List ℕ) (event : MessageEvent) (rest : List MessageEvent) (sender clock : List ℕ) : Type 0 where
  pub waiting : waits event.host ≡ event ∷ rest
  pub sender_is : IsSender given event.receives sender
  pub small : slice_index clock event.host ≤ most_number
  pub clock_is : IsNextClock (clocks event.host) sender event.host clock

one_of : (n a b : ℕ) → n ≤ max a b → (n ≤ a) ⊎ (n ≤ b)
one_of n a b below = by_order (leb n a) refl
  where
    by_order : (test : Bool) → leb n a ≡ test → (n ≤ a) ⊎ (n ≤ b)
    by_order true under = inl (leb-true n a under)
    by_order false above =
        let more = leb-false n a above in
        inr (omega (arith, more, below))

module _ (log : List MessageEvent) (given : List Ordered) (waits : ℕ → List MessageEvent) (clocks : ℕ → List ℕ)
    (sent : List ℕ → Option (List ℕ)) (event : MessageEvent) (rest : List MessageEvent) (sender clock : List ℕ)
    (is : IsLog log) (order : IsOrder log given waits) (keeps : Keeps log given clocks sent)
    (gives : Gives log given waits clocks event rest sender clock)
  where
    waits_first : Contains (waits event.host) event
    waits_first = subst (λ l. Contains l event) (sym gives.waiting) (in_first event rest)

    event_read : Contains log event
    event_read = waits_read log given waits order event.host event waits_first

    pub behind_given : (one : Ordered) → Contains given one → one.event.host ≡ event.host → one.event.line < event.line
    behind_given one there host_is =
        waits_behind log given waits order is event.host one event there host_is waits_first

    pub not_given : IsGiven given event → ⊥
    not_given there =
        let behind = behind_given there.one there.was_given (ap (λ (x : MessageEvent). x.host) there.event_is) in
        let same = ap (λ (x : MessageEvent). x.line) there.event_is in
        omega (arith, behind, same)

    rest_behind : (e : MessageEvent) → Contains rest e → event.line < e.line
    rest_behind e there =
        let host = event.host in
        let before : MessageEvent → MessageEvent → Type 0 = λ e f. e.line < f.line in
        let earlier = of_host host (events_of given) in
        let seam = order.along host ∙ ap (λ l. earlier ++ l) gives.waiting ∙ sym (append_assoc earlier (event ∷ [])
        rest) in
        let pairs = subst (λ l. AllPairs before l) seam
        (AllPairs-filter before (λ e. nat_eq e.host host) log is.rises) in
        across before (earlier ++ event ∷ []) rest event e pairs (Contains-push earlier event) there

    next_given : (e : MessageEvent) → IsNext log e event → IsGiven given e
    next_given e step =
        elim (read_cases log given waits order e step.first) [
          | inl found ↦ found
          | inr waiting ↦ absurd (never (first_or_others event e rest
              (subst (λ l. Contains l e) (ap waits step.host ∙ gives.waiting) waiting)))
        ]
      where
        never : (event ≡ e) ⊎ Contains rest e → ⊥
        never (inl same) =
            let line = ap (λ (x : MessageEvent). x.line) same in
            omega (arith, line, step.behind)
        never (inr later) = omega (arith, rest_behind e later, step.behind)

    message_given : (e : MessageEvent) → (step : IsMessage log e event) → (found : IsCounted given step.id sender)
        × (found.sent.sender.event ≡ e)
    message_given e step =
        let found = gives.sender_is.all step.id step.received in
        let sent = found.sent in (
          found,
          is.once sent.sender.event e step.id (given_read log given waits order sent.sender sent.was_given)
              step.first sent.sends step.sent,
        )

    -- What happened before the event was given on.
    pub past_new : {e : MessageEvent} → HappensBefore log e event → IsGiven given e
    past_new before = before_given before refl
      where
        before_given : {e f : MessageEvent} → HappensBefore log e f → f ≡ event → IsGiven given e
        before_given (next {e} {f} step) same = next_given e (subst (λ x. IsNext log e x) same step)
        before_given (message {e} {f} step) same =
            let found = message_given e (subst (λ x. IsMessage log e x) same step) in
            record { one = found.0.sent.sender; was_given = found.0.sent.was_given; event_is = found.1 }
        before_given (through first second) same =
            past_given log given waits order is first (before_given second same)

    pub at_least : (host : ℕ) → (slice_index (clocks event.host) host ≤ slice_index clock host)
        × (slice_index sender host ≤ slice_index clock host)
    at_least host =
        let now = gives.clock_is host in
        (omega (arith, now), omega (arith, now))

    count_of : (e f : Ordered) → Contains given e → Contains given f → IsUpTo log e.event f.event
        → own e ≤ slice_index f.clock e.event.host
    count_of e f first second up = (keeps.says e f first second).1 up

    -- The clock counts what happened before an event behind which the host's last one is.
    through_last : (e x : Ordered) → Contains given e → Contains given x → x.event.host ≡ event.host
        → IsUpTo log e.event x.event → own e ≤ slice_index clock e.event.host
    through_last e x first second host_is up =
        elim (keeps.lasts event.host) [
          | inl at_last ↦ counted at_last (at_last.behind x second host_is) up
          | inr unbegun ↦ absurd (unbegun.none x second host_is)
        ]
      where
        counted : (is_last : IsLast given event.host (clocks event.host))
            → ((x.event ≡ is_last.last.event) ⊎ (x.event.line < is_last.last.event.line)) → IsUpTo log e.event x.event
            → own e ≤ slice_index clock e.event.host
        counted is_last near up =
            let last = is_last.last in
            let step : x.event.line < last.event.line → HappensBefore log x.event last.event = λ behind. next (record {
              first = given_read log given waits order x second;
              second = given_read log given waits order last is_last.was_given;
              host = host_is ∙ sym is_last.host_is;
              behind = behind;
            }) in
            let up_to : IsUpTo log e.event last.event = joined x.event last.event near step up in
            let count = count_of e last first is_last.was_given up_to in
            let clock_is = ap (λ l. slice_index l e.event.host) is_last.clock_is in
            omega (arith, count, clock_is, (at_least e.event.host).0)
          where
            joined : (f g : MessageEvent) → ((f ≡ g) ⊎ (f.line < g.line)) → (f.line < g.line → HappensBefore log f g)
                → IsUpTo log e.event f → IsUpTo log e.event g
            joined f g (inl same) step up = subst (λ z. IsUpTo log e.event z) same up
            joined f g (inr behind) step (inl same) = inr (subst (λ z. HappensBefore log z g) (sym same) (step behind))
            joined f g (inr behind) step (inr before) = inr (through before (step behind))

    -- What happened before the event is counted by its clock.
    pub counted : {e : MessageEvent} → HappensBefore log e event → (one : Ordered) → Contains given one
        → IsUpTo log one.event e → own one ≤ slice_index clock one.event.host
    counted before = by_steps before refl
      where
        by_steps : {e f : MessageEvent} → HappensBefore log e f → f ≡ event → (one : Ordered) → Contains given one
            → IsUpTo log one.event e → own one ≤ slice_index clock one.event.host
        by_steps (next {e} {f} step) same one there up =
            let step' = subst (λ x. IsNext log e x) same step in
            let before = next_given e step' in
            through_last one before.one there before.was_given
            (ap (λ (x : MessageEvent). x.host) before.event_is ∙ step'.host)
            (subst (λ x. IsUpTo log one.event x) (sym before.event_is) up)
        by_steps (message {e} {f} step) same one there up =
            let found = message_given e (subst (λ x. IsMessage log e x) same step) in
            let count = count_of one found.0.sent.sender there found.0.sent.was_given
            (subst (λ x. IsUpTo log one.event x) (sym found.1) up) in
            omega (arith, count, found.0.least one.event.host, (at_least one.event.host).1)
        by_steps (through {e} {f} {g} first second) same one there up = by_steps second same one there (inr (up_to up))
          where
            up_to : IsUpTo log one.event e → HappensBefore log one.event f
            up_to (inl here) = subst (λ x. HappensBefore log x f) (sym here) first
            up_to (inr before) = through before first

    -- And only that is.
    pub only_counted : (one : Ordered) → Contains given one → own one ≤ slice_index clock one.event.host
        → HappensBefore log one.event event
    only_counted one there count = by_host (nat_eq one.event.host event.host) refl
      where
        same_host : one.event.host ≡ event.host → HappensBefore log one.event event
        same_host host_is = next (record {
          first = given_read log given waits order one there;
          second = event_read;
          host = host_is;
          behind = behind_given one there host_is;
        })

        by_last : own one ≤ slice_index (clocks event.host) one.event.host → HappensBefore log one.event event
        by_last known =
            elim (keeps.lasts event.host) [
              | inl at_last ↦ up_to at_last ((keeps.says one at_last.last there at_last.was_given).0
                  (subst (λ l. own one ≤ slice_index l one.event.host) (sym at_last.clock_is) known))
              | inr unbegun ↦
                  let some = keeps.counts one there in
                  let none = ap (λ l. slice_index l one.event.host) unbegun.clock_is in
                  absurd (omega (arith, some, none, known))
            ]
          where
            up_to : (is_last : IsLast given event.host (clocks event.host)) → IsUpTo log one.event is_last.last.event
                → HappensBefore log one.event event
            up_to is_last (inl same) =
                same_host (ap (λ (x : MessageEvent). x.host) same ∙ is_last.host_is)
            up_to is_last (inr before) = through before (next (record {
              first = given_read log given waits order is_last.last is_last.was_given;
              second = event_read;
              host = is_last.host_is;
              behind = behind_given is_last.last is_last.was_given is_last.host_is;
            }))

        by_sender : own one ≤ slice_index sender one.event.host → HappensBefore log one.event event
        by_sender known =
            let from = gives.sender_is.from one.event.host (omega (arith, keeps.counts one there, known)) in
            let sent = from.sent in
            let step : HappensBefore log sent.sender.event event = message (record {
              first = given_read log given waits order sent.sender sent.was_given;
              second = event_read;
              id = from.id;
              sent = sent.sends;
              received = from.received;
            }) in
            up_to step ((keeps.says one sent.sender there sent.was_given).0 (omega (arith, known, from.counts)))
          where
            up_to : {f : MessageEvent} → HappensBefore log f event → IsUpTo log one.event f → HappensBefore log
                one.event event
            up_to {f} step (inl same) = subst (λ x. HappensBefore log x event) (sym same) step
            up_to step (inr before) = through before step

        by_host : (b : Bool) → nat_eq one.event.host event.host ≡ b → HappensBefore log one.event event
        by_host true same = same_host (eqb-true one.event.host event.host same)
        by_host false differ =
            let now = gives.clock_is one.event.host in
            let other : slice_index clock one.event.host
            ≡ max (slice_index (clocks event.host) one.event.host) (slice_index sender one.event.host) =
            now ∙ rw differ (omega arith) in
            either (subst (λ n. own one ≤ n) other count)
          where
            either : own one ≤ max (slice_index (clocks event.host) one.event.host)
                (slice_index sender one.event.host) → HappensBefore log one.event event
            either below =
                elim (one_of (own one) (slice_index (clocks event.host) one.event.host)
                (slice_index sender one.event.host) below) [
                  | inl left ↦ by_last left
                  | inr right ↦ by_sender right
                ]
