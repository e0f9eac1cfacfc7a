-- One event more is read: it waits behind those of its host.
use Rattle.trace_order.proofs.Words.{◌≡◌, ℕ, ◌<◌, Bool, true, false, cond, List, [], ◌∷◌, ◌++◌, sym, ◌∙◌, ap}
use Rattle.trace_order.proofs.Words.{subst}
use Rattle.trace_order.proofs.Words.{inl, inr, ◌⊎◌, Contains, Contains-append_left, Contains-push_cases}
use Rattle.trace_order.proofs.Words.{append_assoc, append-nil, filter-append, nat_eq, MessageEvent, Sends, IsNext}
use Rattle.trace_order.proofs.Words.{IsMessage, HappensBefore, next, message, through, Ordered, events_of, of_host}
use Rattle.trace_order.proofs.Words.{IsUpTo, SaysBefore, IsLog, IsOrder, Keeps, Option}
use Rattle.trace_order.proofs.Past.{IsGiven, given_of, given_read, past_given}
use Rattle.std.proofs.lemmas.List.Elements.{Contains-get_or}
use Rattle.std.proofs.lemmas.List.Quantifiers.{all_pairs_push}

-- What happened before happened before in any longer log.
longer : (log more : List MessageEvent) {e f : MessageEvent} → HappensBefore log e f → HappensBefore (log ++ more) e f
longer log more (next {e} {f} step) = next (record {
  first = Contains-append_left log more e step.first;
  second = Contains-append_left log more f step.second;
  host = step.host;
  behind = step.behind;
})
longer log more (message {e} {f} step) = message (record {
  first = Contains-append_left log more e step.first;
  second = Contains-append_left log more f step.second;
  id = step.id;
  sent = step.sent;
  received = step.received;
})
longer log more (through first second) = through (longer log more first) (longer log more second)

-- An event may be read behind these: its line is greater, and it sends no id that one of them sends.
pub record MayFollow (log : List MessageEvent) (event : MessageEvent) : Type 0 where
  pub behind : (f : MessageEvent) → Contains log f → f.line < event.line
  pub once : (f : MessageEvent) (id : List ℕ) → Contains log f → Sends f id → Sends event id → ⊥

module _ (log : List MessageEvent) (event : MessageEvent) (is : IsLog log) (may : MayFollow log event) where
  pub log_read : IsLog (log ++ event ∷ [])
  log_read = record {
    rises = all_pairs_push (λ e f. e.line < f.line) log event is.rises
        (λ k d below. may.behind _ (Contains-get_or log k d below));
    once = λ e f id first second sent also. by_cases e f id (Contains-push_cases log event e first)
        (Contains-push_cases log event f second) sent also;
  }
    where
      by_cases : (e f : MessageEvent) (id : List ℕ) → (Contains log e ⊎ (event ≡ e)) → (Contains log f ⊎ (event ≡ f))
          → Sends e id → Sends f id → e ≡ f
      by_cases e f id (inl before) (inl also) sent twice = is.once e f id before also sent twice
      by_cases e f id (inl before) (inr same) sent twice =
          absurd (may.once e id before sent (subst (λ x. Sends x id) (sym same) twice))
      by_cases e f id (inr same) (inl before) sent twice =
          absurd (may.once f id before twice (subst (λ x. Sends x id) (sym same) sent))
      by_cases e f id (inr same) (inr also) sent twice = sym same ∙ also

  module _ (given : List Ordered) (waits waits' : ℕ → List MessageEvent) (order : IsOrder log given waits)
      (now : (host : ℕ) → waits' host ≡ cond (nat_eq event.host host) (waits host ++ event ∷ []) (waits host))
    where
      pub order_read : IsOrder (log ++ event ∷ []) given waits'
      order_read = record {
        along = λ host. filter-append (λ e. nat_eq e.host host) log (event ∷ [])
            ∙ ap (λ l. l ++ of_host host (event ∷ [])) (order.along host)
            ∙ ends (nat_eq event.host host) (of_host host (events_of given)) (waits host)
            ∙ ap (λ l. of_host host (events_of given) ++ l) (sym (now host));
        received = order.received;
      }
        where
          ends : (b : Bool) (before after : List MessageEvent) → (before ++ after) ++ cond b (event ∷ []) []
              ≡ before ++ cond b (after ++ event ∷ []) after
          ends true before after = append_assoc before after (event ∷ [])
          ends false before after = append-nil (before ++ after)

      was_next : (e f : MessageEvent) → IsNext (log ++ event ∷ []) e f → IsGiven given f → IsGiven given e → IsNext
          log e f
      was_next e f step second first = record {
        first = subst (λ x. Contains log x) first.event_is (given_read log given waits order first.one first.was_given);
        second = subst (λ x. Contains log x) second.event_is (given_read log given waits order second.one
            second.was_given);
        host = step.host;
        behind = step.behind;
      }

      was_message : (e f : MessageEvent) → IsMessage (log ++ event ∷ []) e f → IsGiven given f → IsGiven given e
          → IsMessage log e f
      was_message e f step second first = record {
        first = subst (λ x. Contains log x) first.event_is (given_read log given waits order first.one first.was_given);
        second = subst (λ x. Contains log x) second.event_is (given_read log given waits order second.one
            second.was_given);
        id = step.id;
        sent = step.sent;
        received = step.received;
      }

      -- Nothing that is read later happened before an event that was given on.
      was_before : {e f : MessageEvent} → HappensBefore (log ++ event ∷ []) e f → IsGiven given f → HappensBefore log
          e f
      was_before (next {e} {f} step) there =
          next (was_next e f step there (past_given (log ++ event ∷ []) given waits' order_read log_read (next step)
          there))
      was_before (message {e} {f} step) there =
          let first = past_given (log ++ event ∷ []) given waits' order_read log_read (message step) there in
          message (was_message e f step there first)
      was_before (through first second) there =
          let there' = past_given (log ++ event ∷ []) given waits' order_read log_read second there in
          through (was_before first there') (was_before second there)

      pub keeps_read : (clocks : ℕ → List ℕ) (sent : List ℕ → Option (List ℕ))
          → Keeps log given clocks sent → Keeps (log ++ event ∷ []) given clocks sent
      keeps_read clocks sent keeps = record {
        lasts = keeps.lasts;
        sends = keeps.sends;
        counts = keeps.counts;
        most = keeps.most;
        bounds = keeps.bounds;
        says = says_read;
      }
        where
          lengthened : (e f : Ordered) → IsUpTo log e.event f.event
              → IsUpTo (log ++ event ∷ []) e.event f.event
          lengthened e f (inl same) = inl same
          lengthened e f (inr before) = inr (longer log (event ∷ []) before)

          shortened : (e f : Ordered) → Contains given f
              → IsUpTo (log ++ event ∷ []) e.event f.event
              → IsUpTo log e.event f.event
          shortened e f second (inl same) = inl same
          shortened e f second (inr before) = inr (was_before before (given_of given f second))

          says_read : SaysBefore (log ++ event ∷ []) given
          says_read e f first second =
              let both = keeps.says e f first second in
              (λ count. lengthened e f (both.0 count), λ before. both.1 (shortened e f second before))
