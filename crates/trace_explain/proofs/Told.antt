-- What is told of what elimination leaves.
use Rattle.std.proofs.lemmas.List.{take_all, get_or_append_left, get_or_push}
use Rattle.trace_explain.proofs.Words.{◌≡◌, ◌≢◌, ℕ, ◌+◌, ◌<◌, ◌≤◌, Bool, true, Option, Some, None, List, [], ◌∷◌}
use Rattle.trace_explain.proofs.Words.{◌++◌, length, get_or, take, refl, sym, ◌∙◌, ap, subst, arith}
use Rattle.trace_explain.proofs.Words.{⊎_elim, false≢true, cases_eq, Logged, HostWatch, Taken}
use Rattle.trace_explain.proofs.Words.{watch_at, IsMoment, IsEarliest, of_host, past_at, AreInOrder}
use Rattle.trace_explain.proofs.Words.{IsAt, ExplainsNone, HoldsUntil, SaysHeld}
use Rattle.trace_explain.proofs.Words.{ExplainsFound, Left, left_at, end_at, NoneIsOver, HaveFirsts}
use Rattle.trace_explain.proofs.Words.{LacksFirst, AreLeft, IsUntil, IsHeld}
use Rattle.trace_explain.proofs.Words.{AreHeld, HeldState, IsOver, number_at, past_host}
use Rattle.trace_explain.proofs.Events.{some_taken, at-get, at-was_taken, at-host, own-at, own-up_to}
use Rattle.trace_explain.proofs.Events.{over-to}
use Rattle.trace_explain.proofs.Eliminated.{OverFacts, over-bool, length-same, line-same, holds-same, number-same}
use Rattle.trace_explain.proofs.Eliminated.{known-line, taken-at, lasting-same}

-- What holds at each place of a list, with one element more.
pub push_each : {X : Type 0} (P : ℕ → X → Type 0) (xs : List X) (x d : X) → ((q : ℕ) → q < length xs → P q (get_or xs q d))
    → P (length xs) x → (q : ℕ) → q < length xs + 1 → P q (get_or (xs ++ x ∷ []) q d)
push_each P xs x d old here q below =
    ⊎_elim (λ (is : q ≡ length xs). rw (is, get_or_push xs x d (length xs) refl) here) (λ (other : q ≢ length xs).
    let inside : q < length xs = omega arith in rw (get_or_append_left xs (x ∷ []) d q inside) (old q inside))
    (cases_eq q (length xs))

module _ (watched : List HostWatch) (taken : List Taken) (in_order : AreInOrder taken) (left : List Left)
    (are : AreLeft watched taken left) where
  abbrev name : ℕ → List ℕ
  name p = (watch_at watched p).host

  in_watched : (p : ℕ) → p < length left → p < length watched
  in_watched p within = rw (← are.as_many) within

  in_left : (p : ℕ) → p < length watched → p < length left
  in_left p within = rw are.as_many within

  pub ExplainsNone-left : (p : ℕ) → LacksFirst left p → ExplainsNone watched taken p (left_at left p).over
  ExplainsNone-left p lacks =
      let one = are.each p lacks.place in
      let long = length-same watched taken in_order p (left_at left p).host one.same in
      let whole : take (left_at left p).front (of_host (name p) taken) ≡ of_host (name p) taken =
      take_all (left_at left p).front (of_host (name p) taken) (omega (arith, long, lacks.none)) in
      record {
        place = in_watched p lacks.place;
        each = rw whole at one.each;
        none = λ moment is.
            let found = one.moments moment is in
            absurd (omega (arith, found.1, found.2.within, long, lacks.none));
      }

  module _ (firsts : HaveFirsts left) (settled : NoneIsOver left) where
    front : ℕ → ℕ
    front p = (left_at left p).front

    -- The first states that are left are the moment.
    member : ℕ → Taken
    member p = get_or (of_host (name p) taken) (left_at left p).front some_taken

    moment : ℕ → Logged
    moment p = (member p).logged

    at : (p : ℕ) → p < length left → IsAt (name p) taken (left_at left p).front (member p)
    unfolding member
    at p within = at-get (name p) taken (left_at left p).front
        (omega (arith, firsts p within, length-same watched taken in_order p (left_at left p).host (are.each p within).same))

    member-is : (p : ℕ) → p < length left → member p ≡ record { logged = moment p; holds = true }
    unfolding moment
    member-is p within = ap (λ (holds : Bool). let x : Taken = record { logged = (member p).logged; holds = holds } in x)
        ((are.each p within).holds (member p) (at p within))

    held-at : (p : ℕ) → p < length left
        → IsAt (name p) taken (left_at left p).front (record { logged = moment p; holds = true })
    held-at p within = subst (λ (x : Taken). IsAt (name p) taken (left_at left p).front x) (member-is p within)
        (at p within)

    is_moment : IsMoment watched taken moment
    is_moment = record {
      held = λ p within. at-was_taken (name p) taken (left_at left p).front (record { logged = moment p; holds = true })
          (held-at p (in_left p within));
      host = λ p within. at-host (name p) taken (left_at left p).front (record { logged = moment p; holds = true })
          (held-at p (in_left p within));
      together = λ p q p_in q_in differ over. none_over p q (in_left p p_in) (in_left q q_in) differ over;
    }
      where
        none_over : (p q : ℕ) → p < length left → q < length left → p ≢ q
            → IsOver (watch_at watched p).lasting taken (moment p).event (moment q).event → ⊥
        none_over p q p_in q_in differ over =
            let one = left_at left p in
            let other = left_at left q in
            let one_same = (are.each p p_in).same in
            let other_same = (are.each q q_in).same in
            let lasting = lasting-same watched taken in_order p one.host one_same in
            let ends = over-to (name p) taken in_order one.host.lasting one.front
            (record { logged = moment p; holds = true }) (moment q).event (held-at p p_in) (rw lasting over) in
            let facts : OverFacts one p other = record {
              end = omega (arith, ends.1.within, length-same watched taken in_order p one.host one_same);
              at = firsts q q_in;
              counted = omega (
                arith,
                ends.2,
                own-at (name p) taken (end_at one.host.lasting one.front) ends.0 ends.1,
                number-same watched taken in_order p one.host one_same (end_at one.host.lasting one.front) ends.0 p ends.1
                    (in_watched p p_in),
                number-same watched taken in_order q other.host other_same other.front
                    (record { logged = moment q; holds = true }) p (held-at q q_in) (in_watched p p_in),
              );
            } in
            false≢true (sym (settled p q p_in q_in (λ e. differ (sym e))) ∙ over-bool one p other facts)

    earliest : IsEarliest watched taken moment
    earliest = record {
      one = is_moment;
      below = λ other is p within.
          let found = (are.each p (in_left p within)).moments other is in
          own-up_to (name p) taken in_order (left_at left p).front found.0 (record { logged = moment p; holds = true })
          (record { logged = other p; holds = true }) found.1 (held-at p (in_left p within)) found.2;
    }

    abbrev member-at : ℕ → Taken
    member-at p = record { logged = moment p; holds = true }

    says-held : (p : ℕ) (held : HeldState) → p < length left → IsHeld left p held
        → SaysHeld watched taken p (moment p) held
    says-held p held within is = record {
      line = is.line ∙ line-same watched taken in_order p (left_at left p).host same (left_at left p).front (member-at p) here;
      k = (left_at left p).front;
      at = here;
      begun = record {
        from = is.from;
        first = first.0;
        at = first.1;
        first_line = sym (is.begun
            ∙ line-same watched taken in_order p (left_at left p).host same is.from first.0 first.1);
        holds = λ k one low high one_at. ⊎_elim (λ (at_front : k ≡ (left_at left p).front). holds-front k one at_front one_at)
            (λ (other : k ≢ (left_at left p).front).
            sym (holds-past k one one_at) ∙ is.back.hold k low (omega arith)) (cases_eq k (left_at left p).front);
        begins = λ before one next one_at. sym (holds-past before one one_at) ∙ is.back.begins before next;
      };
      until = until-is held.until is.until;
      as_many = is.knows.as_many ∙ are.as_many;
      knows = λ q in_q. known-line watched taken in_order q (left_at left q).host (are.each q (in_left q in_q)).same
          (number_at (left_at left p).host (left_at left p).front q) (moment p).event (get_or held.knows.items q None) in_q
          (number-same watched taken in_order p (left_at left p).host same (left_at left p).front (member-at p) q here in_q)
          (is.knows.each q (in_left q in_q));
    }
      where
        same : (left_at left p).host ≡ past_host watched taken (watch_at watched p)
        same = (are.each p within).same

        here : IsAt (name p) taken (left_at left p).front (member-at p)
        here = held-at p within

        first : (one : Taken) × IsAt (name p) taken is.from one
        first = taken-at watched taken in_order p (left_at left p).host same is.from
            (omega (arith, firsts p within, is.back.behind))

        holds-past : (k : ℕ) (one : Taken) → IsAt (name p) taken k one
            → (past_at (left_at left p).host k).holds ≡ one.holds
        holds-past k one one_at = holds-same watched taken in_order p (left_at left p).host same k one one_at

        holds-front : (k : ℕ) (one : Taken) → k ≡ (left_at left p).front → IsAt (name p) taken k one → one.holds ≡ true
        holds-front k one at_front one_at = (are.each p within).holds one
            (subst (λ (n : ℕ). IsAt (name p) taken n one) at_front one_at)

        holds-on : (k : ℕ) (one : Taken) → (left_at left p).front ≤ k → IsAt (name p) taken k one
            → ((left_at left p).front + 1 ≤ k → (past_at (left_at left p).host k).holds ≡ true) → one.holds ≡ true
        holds-on k one low one_at behind =
            ⊎_elim (λ (at_front : k ≡ (left_at left p).front). holds-front k one at_front one_at)
            (λ (other : k ≢ (left_at left p).front). sym (holds-past k one one_at) ∙ behind (omega arith))
            (cases_eq k (left_at left p).front)

        until-is : (until : Option ℕ) → IsUntil (left_at left p).host.events (left_at left p).front until
            → HoldsUntil (name p) taken (left_at left p).front until
        until-is (Some line) (end, (after, inside, ceases, between), at_line) =
            let last = taken-at watched taken in_order p (left_at left p).host same end inside in (
              end,
              last.0,
              after,
              last.1,
              sym (holds-past end last.0 last.1) ∙ ceases,
              sym (at_line ∙ line-same watched taken in_order p (left_at left p).host same end last.0 last.1),
              λ k one low high one_at. holds-on k one low one_at (λ behind. between k behind high),
            )
        until-is None between = λ to k one low high one_at. holds-on k one low one_at (λ behind. between k behind
            (omega (arith, one_at.within, length-same watched taken in_order p (left_at left p).host same)))

    pub ExplainsFound-left : (held : List HeldState) → AreHeld left held → ExplainsFound watched taken held
    ExplainsFound-left held all = record {
      moment = moment;
      earliest = earliest;
      as_many = all.as_many ∙ are.as_many;
      each = λ p one within. says-held p (get_or held p one) (in_left p within) (all.each p one (in_left p within));
    }
