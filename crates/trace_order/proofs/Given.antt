-- One event more is given on: what is known of those that were given on is known of it, too.
use Rattle.trace_order.proofs.Words.{◌≡◌, ℕ, ◌+◌, ◌<◌, ◌≤◌, Bool, true, false, cond, max, List, [], ◌∷◌, ◌++◌, refl}
use Rattle.trace_order.proofs.Words.{sym}
use Rattle.trace_order.proofs.Words.{◌∙◌, ap, subst, arith, inl, inr, ◌⊎◌, Some, None, Option, Contains}
use Rattle.trace_order.proofs.Words.{map-append}
use Rattle.trace_order.proofs.Words.{Contains-append_left, append_assoc, append-nil, nat_eq, slice_index, filter-append}
use Rattle.trace_order.proofs.Words.{Contains-push, Contains-push_cases, MessageEvent, is_among, Ordered}
use Rattle.trace_order.proofs.Words.{events_of, of_host, own, IsUpTo, SaysBefore, IsLog, IsSent, IsReady, IsOrder}
use Rattle.trace_order.proofs.Words.{IsLast}
use Rattle.trace_order.proofs.Words.{IsUnbegun, KeepsSent, Keeps, ◌↔◌}
use Rattle.trace_order.proofs.Past.{IsGiven, given_of, past_given}
use Rattle.trace_order.proofs.Giving.{Gives, behind_given, not_given, counted, only_counted}
use Rattle.trace_order.proofs.Giving.{at_least}
use Rattle.trace_order.specs.Clocks.{most_number}
use Rattle.std.proofs.Math.Dec.{ltb}
use Rattle.std.proofs.lemmas.Bool.{eqb-true, eqb-false, eq-eqb, ltb-true, ltb-false, ne_eqb}

-- What was sent stays sent.
sent_on : (given : List Ordered) (one : Ordered) (id : List ℕ) → IsSent given id → IsSent (given ++ one ∷ []) id
sent_on given one id sent = record {
  sender = sent.sender;
  was_given = Contains-append_left given (one ∷ []) sent.sender sent.was_given;
  sends = sent.sends;
}

module _ (log : List MessageEvent) (given : List Ordered) (waits : ℕ → List MessageEvent) (clocks : ℕ → List ℕ)
    (sent : List ℕ → Option (List ℕ)) (event : MessageEvent) (rest : List MessageEvent) (sender clock : List ℕ)
    (is : IsLog log) (order : IsOrder log given waits) (keeps : Keeps log given clocks sent)
    (gives : Gives log given waits clocks event rest sender clock)
  where
    abbrev one : Ordered
    one = record { event = event; clock = clock }

    never_given : IsGiven given event → ⊥
    never_given = not_given log given waits clocks sent event rest sender clock is order keeps gives

    ready : IsReady given event
    ready id receives = (gives.sender_is.all id receives).sent

    module _ (waits' : ℕ → List MessageEvent)
        (now : (host : ℕ) → waits' host ≡ cond (nat_eq event.host host) rest (waits host))
      where
        pub order_given : IsOrder log (given ++ one ∷ []) waits'
        order_given = record {
          along = λ host. order.along host ∙ moves host (nat_eq event.host host) refl;
          received = λ other there id receives.
              sent_on given one id (received other (Contains-push_cases given one other there) id receives);
        }
          where
            received : (other : Ordered) → (Contains given other ⊎ (one ≡ other)) → IsReady given other.event
            received other (inl before) = order.received other before
            received other (inr same) = subst (λ (o : Ordered). IsReady given o.event) same ready

            events : (host : ℕ) → of_host host (events_of (given ++ one ∷ []))
                ≡ of_host host (events_of given) ++ cond (nat_eq event.host host) (event ∷ []) []
            events host =
                ap (of_host host) (map-append (λ (o : Ordered). o.event) given (one ∷ []))
                ∙ filter-append (λ e. nat_eq e.host host) (events_of given) (event ∷ [])

            moves : (host : ℕ) (b : Bool) → nat_eq event.host host ≡ b → of_host host (events_of given) ++ waits host
                ≡ of_host host (events_of (given ++ one ∷ [])) ++ waits' host
            moves host true same =
                let host_is = eqb-true event.host host same in
                let before = of_host host (events_of given) in
                ap (λ l. before ++ l) (sym (ap waits host_is) ∙ gives.waiting)
                ∙ sym (append_assoc before (event ∷ []) rest)
                ∙ ap (λ b. (before ++ cond b (event ∷ []) []) ++ rest) (sym same)
                ∙ ap (λ l. l ++ rest) (sym (events host))
                ∙ ap (λ b. of_host host (events_of (given ++ one ∷ [])) ++ cond b rest (waits host)) (sym same)
                ∙ ap (λ l. of_host host (events_of (given ++ one ∷ [])) ++ l) (sym (now host))
            moves host false differ =
                let before = of_host host (events_of given) in
                ap (λ l. l ++ waits host) (sym (append-nil before))
                ∙ ap (λ b. (before ++ cond b (event ∷ []) []) ++ waits host) (sym differ)
                ∙ ap (λ l. l ++ waits host) (sym (events host))
                ∙ ap (λ b. of_host host (events_of (given ++ one ∷ [])) ++ cond b rest (waits host)) (sym differ)
                ∙ ap (λ l. of_host host (events_of (given ++ one ∷ [])) ++ l) (sym (now host))

    module _ (clocks' : ℕ → List ℕ) (sent' : List ℕ → Option (List ℕ))
        (clock_now : (host : ℕ) → clocks' host ≡ cond (nat_eq event.host host) clock (clocks host))
        (sent_now : (id : List ℕ) → sent' id ≡ cond (is_among id event.sends) (Some clock) (sent id))
      where
        more : slice_index (clocks event.host) event.host < slice_index clock event.host
        more =
            let here = eq-eqb event.host event.host refl in
            let base = max (slice_index (clocks event.host) event.host) (slice_index sender event.host) in
            let now = gives.clock_is event.host ∙ ap (λ b. base + cond b 1 0) here in
            omega (arith, now)

        -- No clock of the events before counts the new one.
        not_counted : (f : Ordered) → Contains given f → own one ≤ slice_index f.clock event.host → ⊥
        not_counted f there count = omega (arith, more, keeps.bounds f event.host there, count)

        says_given : SaysBefore log (given ++ one ∷ [])
        says_given e f first second =
            by_cases e f (Contains-push_cases given one e first) (Contains-push_cases given one f second)
          where
            Says : Ordered → Ordered → Type 0
            Says e f = (own e ≤ slice_index f.clock e.event.host) ↔ IsUpTo log e.event f.event

            new_last : (e : Ordered) → Contains given e → IsUpTo log e.event event
                → own e ≤ slice_index clock e.event.host
            new_last e first (inl same) = absurd (never_given (subst (λ x. IsGiven given x) same (given_of given e
                first)))
            new_last e first (inr before) =
                counted log given waits clocks sent event rest sender clock is order keeps gives before e first (inl
                refl)

            new_first : (f : Ordered) → Contains given f → IsUpTo log event f.event → own one ≤ slice_index f.clock
                event.host
            new_first f second (inl same) =
                absurd (never_given (subst (λ x. IsGiven given x) (sym same) (given_of given f second)))
            new_first f second (inr before) =
                absurd (never_given (past_given log given waits order is before (given_of given f second)))

            only : (e : Ordered) → Contains given e → own e ≤ slice_index clock e.event.host → IsUpTo log e.event event
            only e first count =
                inr (only_counted log given waits clocks sent event rest sender clock is order keeps gives e first
                count)

            by_cases : (e f : Ordered) → (Contains given e ⊎ (one ≡ e)) → (Contains given f ⊎ (one ≡ f)) → Says e f
            by_cases e f (inl first) (inl second) = keeps.says e f first second
            by_cases e f (inl first) (inr same) =
                let both : Says e one = (λ count. only e first count, λ up. new_last e first up) in
                subst (λ x. Says e x) same both
            by_cases e f (inr same) (inl second) =
                let both : Says one f = (λ count. absurd (not_counted f second count), λ up. new_first f second up) in
                subst (λ x. Says x f) same both
            by_cases e f (inr same) (inr also) =
                let both : Says one one = (λ count. inl refl, λ up. omega arith) in
                subst (λ x. Says x f) same (subst (λ x. Says one x) also both)

        last_given : (host : ℕ) → IsLast (given ++ one ∷ []) host (clocks' host) ⊎ IsUnbegun (given ++ one ∷ []) host
            (clocks' host)
        last_given host =
            subst (λ l. IsLast (given ++ one ∷ []) host l ⊎ IsUnbegun (given ++ one ∷ []) host l) (sym (clock_now host))
            (by_host (nat_eq event.host host) refl)
          where
            behind_new : (other : Ordered) → (Contains given other ⊎ (one ≡ other)) → other.event.host ≡ event.host
                → (other.event ≡ event) ⊎ (other.event.line < event.line)
            behind_new other (inl before) host_is = inr (behind_given log given waits clocks sent event rest sender
                clock is order
                keeps gives other before host_is)
            behind_new other (inr same) host_is = inl (ap (λ (o : Ordered). o.event) (sym same))

            new_is_last : (host : ℕ) → event.host ≡ host → IsLast (given ++ one ∷ []) host clock
            new_is_last host host_is = record {
              last = one;
              was_given = Contains-push given one;
              host_is = host_is;
              clock_is = refl;
              behind = λ other there its_host.
                  behind_new other (Contains-push_cases given one other there) (its_host ∙ sym host_is);
            }

            stays : (host : ℕ) → (event.host ≡ host → ⊥) → (IsLast given host (clocks host) ⊎ IsUnbegun given host
                (clocks host))
                → IsLast (given ++ one ∷ []) host (clocks host) ⊎ IsUnbegun (given ++ one ∷ []) host (clocks host)
            stays host differ (inl at_last) = inl (record {
              last = at_last.last;
              was_given = Contains-append_left given (one ∷ []) at_last.last at_last.was_given;
              host_is = at_last.host_is;
              clock_is = at_last.clock_is;
              behind = λ other there its_host. still other (Contains-push_cases given one other there) its_host;
            })
              where
                still : (other : Ordered) → (Contains given other ⊎ (one ≡ other)) → other.event.host ≡ host
                    → (other.event ≡ at_last.last.event) ⊎ (other.event.line < at_last.last.event.line)
                still other (inl before) its_host = at_last.behind other before its_host
                still other (inr same) its_host =
                    absurd (differ (ap (λ (o : Ordered). o.event.host) same ∙ its_host))
            stays host differ (inr unbegun) = inr (record {
              none = λ other there its_host. never other (Contains-push_cases given one other there) its_host;
              clock_is = unbegun.clock_is;
            })
              where
                never : (other : Ordered) → (Contains given other ⊎ (one ≡ other)) → other.event.host ≡ host → ⊥
                never other (inl before) its_host = unbegun.none other before its_host
                never other (inr same) its_host = differ (ap (λ (o : Ordered). o.event.host) same ∙ its_host)

            by_host : (b : Bool) → nat_eq event.host host ≡ b
                → IsLast (given ++ one ∷ []) host (cond (nat_eq event.host host) clock (clocks host))
                ⊎ IsUnbegun (given ++ one ∷ []) host (cond (nat_eq event.host host) clock (clocks host))
            by_host true same = rw same (inl (new_is_last host (eqb-true event.host host same)))
            by_host false differ = rw differ (stays host (eqb-false event.host host differ) (keeps.lasts host))

        sends_given : (id : List ℕ) → KeepsSent (given ++ one ∷ []) id (sent' id)
        unfolding sent_on
        sends_given id =
            subst (λ o. KeepsSent (given ++ one ∷ []) id o) (sym (sent_now id)) (by_id (is_among id event.sends) refl)
          where
            sent_before : is_among id event.sends ≡ false → IsSent (given ++ one ∷ []) id → IsSent given id
            sent_before differ there =
                from there.sender there.sends (Contains-push_cases given one there.sender there.was_given)
              where
                from : (other : Ordered) → is_among id other.event.sends ≡ true → (Contains given other ⊎ (one ≡ other))
                    → IsSent given id
                from other sends (inl before) = record { sender = other; was_given = before; sends = sends }
                from other sends (inr same) =
                    let also = ap (λ (o : Ordered). is_among id o.event.sends) same in
                    absurd (cc (sends, differ))

            stays : is_among id event.sends ≡ false → (kept : Option (List ℕ)) → KeepsSent given id kept
                → KeepsSent (given ++ one ∷ []) id kept
            stays differ None none = λ there. none (sent_before differ there)
            stays differ (Some kept) there = (sent_on given one id there.0, there.1)

            by_id : (b : Bool) → is_among id event.sends ≡ b
                → KeepsSent (given ++ one ∷ []) id (cond (is_among id event.sends) (Some clock) (sent id))
            by_id true among = rw among (
              record { sender = one; was_given = Contains-push given one; sends = among },
              refl,
            )
            by_id false differ = rw differ (stays differ (sent id) (keeps.sends id))

        counts_given : (other : Ordered) → Contains (given ++ one ∷ []) other → 0 < own other
        counts_given other there = by_cases other (Contains-push_cases given one other there)
          where
            by_cases : (other : Ordered) → (Contains given other ⊎ (one ≡ other)) → 0 < own other
            by_cases other (inl before) = keeps.counts other before
            by_cases other (inr same) =
                let some : 0 < own one = omega (arith, more) in
                subst (λ o. 0 < own o) same some

        most_given : (other : Ordered) → Contains (given ++ one ∷ []) other → own other ≤ most_number
        most_given other there = by_cases other (Contains-push_cases given one other there)
          where
            by_cases : (other : Ordered) → (Contains given other ⊎ (one ≡ other)) → own other ≤ most_number
            by_cases other (inl before) = keeps.most other before
            by_cases other (inr same) = subst (λ o. own o ≤ most_number) same gives.small

        -- What the sender knows of a host is no more than the host's last number.
        sender_bound : (host : ℕ) → slice_index sender host ≤ slice_index (clocks host) host
        sender_bound host = by_count (ltb 0 (slice_index sender host)) refl
          where
            by_count : (b : Bool) → ltb 0 (slice_index sender host) ≡ b
                → slice_index sender host ≤ slice_index (clocks host) host
            by_count true some =
                let from = gives.sender_is.from host (ltb-true 0 (slice_index sender host) some) in
                omega (arith, keeps.bounds from.sent.sender host from.sent.was_given, from.counts)
            by_count false none = omega (arith, ltb-false 0 (slice_index sender host) none)

        last_bound : (host : ℕ) → slice_index (clocks event.host) host ≤ slice_index (clocks host) host
        last_bound host = by_last (keeps.lasts event.host)
          where
            by_last : (IsLast given event.host (clocks event.host) ⊎ IsUnbegun given event.host (clocks event.host))
                → slice_index (clocks event.host) host ≤ slice_index (clocks host) host
            by_last (inl at_last) =
                let bound = keeps.bounds at_last.last host at_last.was_given in
                let clock_is = ap (λ l. slice_index l host) at_last.clock_is in
                omega (arith, bound, clock_is)
            by_last (inr unbegun) =
                let none = ap (λ l. slice_index l host) unbegun.clock_is in
                omega (arith, none)

        bounds_given : (other : Ordered) (host : ℕ) → Contains (given ++ one ∷ []) other
            → slice_index other.clock host ≤ slice_index (clocks' host) host
        bounds_given other host there =
            subst (λ l. slice_index other.clock host ≤ slice_index l host) (sym (clock_now host))
            (by_host other (Contains-push_cases given one other there) (nat_eq event.host host) refl)
          where
            by_host : (other : Ordered) → (Contains given other ⊎ (one ≡ other)) → (b : Bool) → nat_eq event.host
                host ≡ b
                → slice_index other.clock host ≤ slice_index (cond (nat_eq event.host host) clock (clocks host)) host
            by_host other (inl before) true same =
                let bound = keeps.bounds other host before in
                let host_is = ap (λ h. slice_index (clocks h) host) (eqb-true event.host host same) in
                let least = (at_least log given waits clocks sent event rest sender clock is order keeps gives
                host).0 in
                rw same (omega (arith, bound, host_is, least))
            by_host other (inl before) false differ = rw differ (keeps.bounds other host before)
            by_host other (inr new) true same = rw same (subst (λ (o : Ordered). slice_index o.clock host
                ≤ slice_index clock host) new (omega arith))
            by_host other (inr new) false differ =
                let differs : nat_eq host event.host ≡ false =
                ne_eqb host event.host (λ same. eqb-false event.host host differ (sym same)) in
                let base = max (slice_index (clocks event.host) host) (slice_index sender host) in
                let now = gives.clock_is host ∙ ap (λ b. base + cond b 1 0) differs in
                let one_bound : slice_index clock host ≤ slice_index (clocks host) host =
                omega (arith, now, last_bound host, sender_bound host) in
                rw differ (subst (λ (o : Ordered). slice_index o.clock host ≤ slice_index (clocks host) host) new
                one_bound)

        pub keeps_given : Keeps log (given ++ one ∷ []) clocks' sent'
        keeps_given = record {
          lasts = last_given;
          sends = sends_given;
          counts = counts_given;
          most = most_given;
          bounds = bounds_given;
          says = says_given;
        }
