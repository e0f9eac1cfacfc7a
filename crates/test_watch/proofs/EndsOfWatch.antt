use Rattle.std.proofs.Common.{◌≡◌, ◌≢◌, ℕ, ◌<◌, Some, List, [], ◌∷◌, ◌++◌, length, take, drop, suc, slice_get, All, sym}
use Rattle.std.proofs.Common.{ap, subst, ◌∙◌}
use Rattle.std.specs.List.{remove}
use Rattle.std.proofs.lemmas.List.Elements.{All-nil, All-append, All-push, All-take, All-drop, All-from_get_or}
use Rattle.std.proofs.lemmas.Option.{get_or_from_slice_get}
use Rattle.wcp_model.specs.declared.plan.Plan.{Plan}
use Rattle.wcp_relay.specs.LiveProbe.{ClosedSide}
use Rattle.wcp_relay.specs.Watches.{IsWired}
use Rattle.wcp_relay.specs.RelayEnds.{watch_of}
use Rattle.wcp_relay.specs.declared.relay_end.RelayEnd.{RelayEnd}
use Rattle.wcp_relay.specs.declared.parts.Watch.{Watch}
use Rattle.wcp_watch.specs.Settling.{ComeFromWatch, IsEndOfSomeProbe, IsEndOfSomeRelay}
use Rattle.wcp_watch.specs.declared.checker_end.CheckerEnd.{CheckerEnd}

own_places : {X : Type 0} (number : X → ℕ) (xs : List X) → ((p : ℕ) → p < length xs → (x : X)
    × (slice_get xs p ≡ Some x) × (number x ≡ p)) → All (λ x. slice_get xs (number x) ≡ Some x) xs
own_places number [] each = All-nil _
own_places number (x ∷ xs) each = All-from_get_or (λ y. slice_get (x ∷ xs) (number y) ≡ Some y) (x ∷ xs) x (λ p within.
    let there = each p within in
    subst (λ y. slice_get (x ∷ xs) (number y) ≡ Some y) (sym (get_or_from_slice_get (x ∷ xs) p there.0 x there.1))
    (ap (slice_get (x ∷ xs)) there.2 ∙ there.1))

pub own_probes : (plan : Plan) (watch : Watch) → IsWired plan 7 watch
    → All (λ probe. slice_get watch.probes.items probe.core.id ≡ Some probe) watch.probes.items
own_probes plan watch wired = own_places (λ probe. probe.core.id) watch.probes.items (λ p within.
    let ring = wired.rings.each p (subst (λ k. p < k) wired.rings.probes_count within) in
    (ring.probe, ring.is_probe, ap (λ core. core.id) ring.fresh))

pub own_relays : (plan : Plan) (watch : Watch) → IsWired plan 7 watch
    → All (λ relay. slice_get watch.relays.items relay.number ≡ Some relay) watch.relays.items
own_relays plan watch wired = own_places (λ relay. relay.number) watch.relays.items (λ p within.
    let linked = wired.linked.each p within in (linked.relay, linked.is_relay, linked.of_plan.number))

-- all ends but one of a relay come from the watch as well
pub without_one : (probes : List ClosedSide) (all : List RelayEnd) (at : ℕ) (checker : CheckerEnd)
    → ComeFromWatch probes all checker
    → ComeFromWatch probes (remove all at) checker
without_one probes all at checker came =
    let P = λ (end : RelayEnd). watch_of end ≡ checker.watch → IsEndOfSomeRelay came.watch.relays.items end in
    record {
      plan = came.plan;
      watch = came.watch;
      checked = came.checked;
      wired = came.wired;
      questions = came.questions;
      of_probes = came.of_probes;
      of_relays = All-append P (take at all) (drop (suc at) all) (All-take P at all came.of_relays)
          (All-drop P (suc at) all came.of_relays);
      of_checker = came.of_checker;
    }

-- and so do all but one of a probe
pub without_probe : (all : List ClosedSide) (relays : List RelayEnd) (at : ℕ) (checker : CheckerEnd)
    → ComeFromWatch all relays checker
    → ComeFromWatch (remove all at) relays checker
without_probe all relays at checker came =
    let P = λ (end : ClosedSide). end.watch ≡ checker.watch → IsEndOfSomeProbe came.watch.probes.items end in
    record {
      plan = came.plan;
      watch = came.watch;
      checked = came.checked;
      wired = came.wired;
      questions = came.questions;
      of_probes = All-append P (take at all) (drop (suc at) all) (All-take P at all came.of_probes)
          (All-drop P (suc at) all came.of_probes);
      of_relays = came.of_relays;
      of_checker = came.of_checker;
    }

-- and so they do with the end of a probe of another watch
pub with_stranger : (probes : List ClosedSide) (relays : List RelayEnd) (stranger : ClosedSide) (checker : CheckerEnd)
    → ComeFromWatch probes relays checker → stranger.watch ≢ checker.watch
    → ComeFromWatch (probes ++ stranger ∷ []) relays checker
with_stranger probes relays stranger checker came other = record {
  plan = came.plan;
  watch = came.watch;
  checked = came.checked;
  wired = came.wired;
  questions = came.questions;
  of_probes = All-push
      (λ end. end.watch ≡ checker.watch → IsEndOfSomeProbe came.watch.probes.items end) probes stranger came.of_probes
      (λ same. absurd (other same));
  of_relays = came.of_relays;
  of_checker = came.of_checker;
}
