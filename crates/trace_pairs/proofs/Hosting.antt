-- What is known of a host, with one event more.
use Rattle.std.proofs.lemmas.Grind.{common_steps}
use Rattle.trace_pairs.proofs.Words.{◌≡◌, ◌∙◌, ℕ, ◌+◌, ◌-◌, ◌^◌, ◌<◌, Bool, true, false, cond, List, [], ◌∷◌, ◌++◌}
use Rattle.trace_pairs.proofs.Words.{length}
use Rattle.trace_pairs.proofs.Words.{refl, sym, ap, subst, arith, append-nil, length-append, filter, bytes_eq}
use Rattle.trace_pairs.proofs.Words.{bytes_eq-Decides, Re, Logged, Taken, Rule, Text, FollowsIn, slice_index_or}
use Rattle.trace_pairs.proofs.Words.{if◌then◌else◌, inl, inr, length-set, get_or-set_same, get_or-set_other}
use Rattle.std.proofs.lemmas.Bool.Decides.{eqb_tells}
use Rattle.std.specs.Prelude.{string_bytes}
use Rattle.trace_condition.specs.Judging.{HasJudged}
use Rattle.trace_condition.specs.Holding.{holds_at_last}
use Rattle.trace_pairs.specs.declared.hosts.MatchedHost.{MatchedHost}
use Rattle.trace_pairs.specs.Hosts.{count_events, count_matched, host_at, AreDistinct}
unfoldable use Rattle.trace_pairs.specs.Taking.{judged_from}
use Rattle.trace_pairs.specs.Taking.{is_at, judged, judged_after, taken_at, texts_at}
use Rattle.trace_pairs.specs.Kept.{KeepsEvents, no_events, seen_events, with_next}
use Rattle.trace_pairs.specs.Searching.{AreHosts, HasRoomFor, KnowsHost, TakesHost, TakesHostAt}
use Rattle.trace_pairs.proofs.Taken.{filter_push, few_pass, judged_many, may_picked, picked_more, picked_same}
use Rattle.trace_pairs.proofs.Taken.{texts_other, texts_own}
use Rattle.trace_pairs.proofs.Keeping.{keeps_none, keeps_push}

pub knows_new : (rule : Rule Re) (name : Text) (host : MatchedHost) → string_bytes host.name ≡ name
    → HasJudged rule [] host.judge → seen_events name host.kept ≡ no_events → host.events ≡ 0 → host.matched ≡ 0
    → KnowsHost rule [] name host
unfolding judged_from
knows_new rule name host named judged kept events matched = record {
  named = named;
  judged = judged;
  events = events;
  matched = matched;
  kept = subst (λ k. KeepsEvents name [] k) (sym kept) (keeps_none name);
}

-- The event is another host's.
pub knows_other : (rule : Rule Re) (before : List Logged) (one : Logged) (name : Text) (host : MatchedHost)
    → (name ≡ one.event.host → ⊥) → KnowsHost rule before name host → KnowsHost rule (before ++ one ∷ []) name host
knows_other rule before one name host not_same knows = record {
  named = knows.named;
  judged = subst (λ texts. HasJudged rule texts host.judge) (sym (texts_other name before one other)) knows.judged;
  events = knows.events ∙ sym (ap length (filter_push (λ l. bytes_eq l.event.host name) before one false other
      ∙ append-nil (filter (λ (l : Logged). bytes_eq l.event.host name) before)));
  matched = knows.matched ∙ sym (ap count_matched (picked_same (is_at name) rule before one other));
  kept = subst (λ (l : List Taken). KeepsEvents name l (seen_events name host.kept))
      (sym (picked_same (is_at name) rule before one other)) knows.kept;
}
  where
    other : bytes_eq one.event.host name ≡ false
    other = grind (arith, common_steps, bytes_eq-Decides)

counted : {X : Type 0} (xs : List X) (x : X) (passes : Bool)
    → length (xs ++ cond passes (x ∷ []) []) ≡ length xs + (if passes then 1 else 0)
counted xs x true = length-append xs (x ∷ [])
counted xs x false = length-append xs []

-- The event is its own.
module _ (rule : Rule Re) (before : List Logged) (one : Logged) (old new : MatchedHost) (holds : Bool)
    (follow : FollowsIn before one.event) (knows : KnowsHost rule before one.event.host old)
    (takes : TakesHost old one holds new) where
  own : bytes_eq one.event.host one.event.host ≡ true
  own = (bytes_eq-Decides one.event.host one.event.host).1 refl

  pub held_own : holds ≡ holds_at_last rule (texts_at one.event.host (before ++ one ∷ []))
  held_own = (takes.judged rule (texts_at one.event.host before) knows.judged).0
      ∙ ap (holds_at_last rule) (sym (texts_own one.event.host before one own))

  taken_own : taken_at rule before one.event.host ++ record { logged = one; holds = holds } ∷ []
      ≡ taken_at rule (before ++ one ∷ []) one.event.host
  taken_own = ap (λ (h : Bool). taken_at rule before one.event.host ++ record { logged = one; holds = h } ∷ []) held_own
      ∙ sym (picked_more (is_at one.event.host) rule before one own)

  pub knows_own : KnowsHost rule (before ++ one ∷ []) one.event.host new
  knows_own = record {
    named = ap string_bytes takes.named ∙ knows.named;
    judged = subst (λ texts. HasJudged rule texts new.judge) (sym (texts_own one.event.host before one own))
        (takes.judged rule (texts_at one.event.host before) knows.judged).1;
    events = takes.events ∙ ap (λ n. n + 1) knows.events
        ∙ sym (ap length (filter_push (λ l. bytes_eq l.event.host one.event.host) before one true own)
        ∙ length-append (filter (λ (l : Logged). bytes_eq l.event.host one.event.host) before) (one ∷ []));
    matched = takes.matched ∙ ap (λ n. n + (if holds then 1 else 0)) knows.matched
        ∙ sym (ap count_matched (sym taken_own)
        ∙ ap length (filter_push (λ (t : Taken). t.holds) (taken_at rule before one.event.host)
        (record { logged = one; holds = holds }) holds refl)
        ∙ counted (filter (λ (t : Taken). t.holds) (taken_at rule before one.event.host))
        (record { logged = one; holds = holds }) holds);
    kept = subst (λ k. KeepsEvents one.event.host (taken_at rule (before ++ one ∷ []) one.event.host) k)
        (sym takes.kept)
        (subst (λ (l : List Taken). KeepsEvents one.event.host l (with_next (seen_events one.event.host old.kept)
        (record { logged = one; holds = holds }))) taken_own
        (keeps_push one.event.host (taken_at rule before one.event.host) (seen_events one.event.host old.kept)
        (record { logged = one; holds = holds }) knows.kept refl
        (may_picked (is_at one.event.host) rule before one (λ other same. same) follow)));
  }

-- Of all hosts, one takes its event.
pub hosts_more : (rule : Rule Re) (before : List Logged) (one : Logged) (names : List Text) (place : ℕ)
    (old new : List MatchedHost) (holds : Bool) → AreHosts rule before names old → FollowsIn before one.event
    → place < length names → host_at names place ≡ one.event.host → TakesHostAt place old one holds new
    → AreHosts rule (before ++ one ∷ []) names new
hosts_more rule before one names place old new holds are follow within named takes = rw takes.set (record {
  as_many = omega (arith, are.as_many, length-set old place takes.host);
  distinct = are.distinct;
  each = λ p host p_in. elim (eqb_tells p place) [
    | inl here ↦ rw (here.1, get_or-set_same old place takes.host host (omega (arith, within, are.as_many)), named)
        (knows_own rule before one (slice_index_or old place host) takes.host holds follow
        (subst (λ n. KnowsHost rule before n (slice_index_or old place host)) named (are.each place host within))
        (takes.takes host))
    | inr there ↦ rw (get_or-set_other old place p takes.host host there.1)
        (knows_other rule before one (host_at names p) (slice_index_or old p host)
        (λ same. there.1 (are.distinct p place p_in within (same ∙ sym named))) (are.each p host p_in))
  ];
})

-- A host has no more events than there are.
pub room_for : (rule : Rule Re) (logged : List Logged) (names : List Text) (hosts : List MatchedHost) (place : ℕ)
    (host : MatchedHost) → AreHosts rule logged names hosts → place < length names → length logged < 2 ^ 64 - 1
    → HasRoomFor (slice_index_or hosts place host)
room_for rule logged names hosts place host are within few =
    let known = are.each place host within in
    let name = host_at names place in
    record {
      events = omega (arith, known.events, few, few_pass (λ (l : Logged). bytes_eq l.event.host name) logged);
      matched = omega (
        arith,
        known.matched,
        few,
        judged_many rule [] logged,
        few_pass (is_at name) (judged rule logged),
        few_pass (λ (t : Taken). t.holds) (taken_at rule logged name),
      );
    }
