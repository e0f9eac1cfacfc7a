use Rattle.std.proofs.lemmas.Grind.{common_steps}
use Rattle.wcp_plain.proofs.Words.{◌≡◌, ◌==◌, ℕ, ◌+◌, ◌<◌, ◌⊎◌, ◌↔◌, Bool, List, length, true, false, [], ◌∷◌, ◌++◌}
use Rattle.wcp_plain.proofs.Words.{slice_get, Some, Contains, IsTrue, if◌then◌else◌, ◌∙◌, ap, subst, arith, eq-eqb}
use Rattle.wcp_plain.proofs.Words.{ne_eqb, State, Step, Send, Recv, Computation, is_communication_of, is_send}
use Rattle.wcp_plain.proofs.Words.{interval_at, HappenedBefore, same_state, before_to_state, state_at}
use Rattle.wcp_plain.proofs.Words.{interval_at-event, interval_at-other}
use Rattle.std.specs.declared.alloc.Global.{Global}
use Rattle.std.specs.declared.vec.Vec.{Vec}
use Rattle.wcp_plain.specs.declared.order.Pass.{Pass}
use Rattle.wcp_plain.proofs.OnePass.{HasReached, IsPass, pass_other, sent_is, received_is, pass_send, pass_receive}

-- what is known once an event of a process was read, and before the process enters the state that it begins: what the
-- pass
-- will be, the intervals, and whether s happened before that state
pub record Reads (c : Computation) (s : State) (place : ℕ) (pass : Pass) (answer : ℕ × Bool) : Type 0 where
  pub from : pass.from ≡ s
  pub own : (q : ℕ) → answer.0 ≡ q → interval_at c q (place + 1) ≡ interval_at c q place + 1
  pub others : (q : ℕ) → (answer.0 ≡ q → ⊥) → interval_at c q (place + 1) ≡ interval_at c q place
  pub later : IsTrue answer.1 ↔ HappenedBefore c s (state_at c answer.0 (place + 1))
  pub enters : (grown : List ℕ)
      → ((q : ℕ) → Contains grown q ↔ (Contains pass.after.items q ⊎ (q ≡ answer.0) × IsTrue answer.1)) → IsPass c s
      (place + 1) (if answer.0 == s.process then pass.interval + 1 else pass.interval) grown pass.carries.items

module _ (c : Computation) (s : State) (place : ℕ) (pass : Pass) (p : ℕ) (later : Bool) (from : pass.from ≡ s)
    (known : IsPass c s place pass.interval pass.after.items pass.carries.items) where
  pub reads_send : (carries : Vec Bool Global) (to : ℕ) → slice_get c place ≡ Some (Send p to) → carries.items
      ≡ pass.carries.items ++ later ∷ [] → IsTrue later ↔ HasReached pass.from pass.interval pass.after.items p
      → Reads c s place (record pass { carries = carries }) (p, later)
  reads_send carries to here more is =
      let reached = subst (λ u. IsTrue later ↔ HasReached u pass.interval pass.after.items p) from is in
      record {
        from = from;
        own = λ q same. interval_at-event c q place (Send p to) here (eq-eqb p q same);
        others = λ q other. interval_at-other c q place (Send p to) here (ne_eqb p q other);
        later = sent_is c s place pass.interval pass.after.items pass.carries.items known p to later here reached;
        enters = λ grown grows. rw more (pass_send c s place pass.interval pass.after.items pass.carries.items known p
            to later grown here reached grows);
      }

  pub reads_receive : (message : ℕ) → slice_get c place ≡ Some (Recv p message) → IsTrue later
      ↔ (HasReached pass.from pass.interval pass.after.items p ⊎ slice_get pass.carries.items message ≡ Some true)
      → Reads c s place pass (p, later)
  reads_receive message here is =
      let reached = subst (λ u. IsTrue later ↔ (HasReached u pass.interval pass.after.items p
      ⊎ slice_get pass.carries.items message ≡ Some true)) from is in
      record {
        from = from;
        own = λ q same. interval_at-event c q place (Recv p message) here (eq-eqb p q same);
        others = λ q other. interval_at-other c q place (Recv p message) here (ne_eqb p q other);
        later =
            received_is c s place pass.interval pass.after.items pass.carries.items known p message later here reached;
        enters = λ grown grows. pass_receive c s place pass.interval pass.after.items pass.carries.items known p message
            later grown here reached grows;
      }

-- what is known once the process has entered that state
pub entered : (c : Computation) (s : State) (place : ℕ) (pass new : Pass) (answer : ℕ × Bool)
    → Reads c s place pass answer → new.carries ≡ pass.carries
    → new.interval ≡ (if answer.0 == pass.from.process then pass.interval + 1 else pass.interval)
    → ((q : ℕ) → Contains new.after.items q ↔ (Contains pass.after.items q ⊎ (q ≡ answer.0) × IsTrue answer.1))
    → IsPass c s (place + 1) new.interval new.after.items new.carries.items
entered c s place pass new answer reads carries interval grows =
    let counted = interval ∙ ap (λ u. if answer.0 == u.process then pass.interval + 1 else pass.interval) reads.from in
    rw (counted, carries) (reads.enters new.after.items grows)

-- a step that is neither a send nor a receive
other_step : (step : Step) → ((p to : ℕ) → step ≡ Send p to → ⊥) → ((p message : ℕ) → step ≡ Recv p message → ⊥)
    → ((p : ℕ) → is_communication_of p step ≡ false) × (is_send step ≡ false)
other_step step no_send no_receive = grind arith

-- what such a step leaves: the pass, and the interval of each process
pub pass_by_other : (c : Computation) (s : State) (place interval : ℕ) (after : List ℕ) (carries : List Bool)
    (step : Step) → IsPass c s place interval after carries → slice_get c place ≡ Some step
    → ((p to : ℕ) → step ≡ Send p to → ⊥) → ((p message : ℕ) → step ≡ Recv p message → ⊥)
    → IsPass c s (place + 1) interval after carries × ((q : ℕ) → interval_at c q (place + 1) ≡ interval_at c q place)
pass_by_other c s place interval after carries step pass here no_send no_receive =
    let other = other_step step no_send no_receive in (
      pass_other c s place interval after carries pass step here other.0 other.1,
      λ q. interval_at-other c q place step here (other.0 q),
    )

-- where the process of state t has entered state t, the answer is whether s happened before t
pub answer_is : (c : Computation) (s t : State) (place : ℕ) (pass : Pass) (answer : ℕ × Bool)
    → Reads c s place pass answer → answer.0 ≡ t.process → interval_at c t.process place + 1 ≡ t.interval
    → IsTrue answer.1 ↔ HappenedBefore c s t
answer_is c s t place pass answer reads process last =
    let now : interval_at c t.process (place + 1) ≡ t.interval = reads.own t.process process ∙ last in
    let same : state_at c answer.0 (place + 1) ≡ t =
    same_state (state_at c answer.0 (place + 1)) t process (ap (λ q. interval_at c q (place + 1)) process ∙ now) in
    subst (λ u. IsTrue answer.1 ↔ HappenedBefore c s u) same reads.later

-- a state that is not reached at the end is one that nothing happened before
pub never_before : (c : Computation) (s t : State)
    → (t.interval ≡ 0) ⊎ (interval_at c t.process (length c) < t.interval) → HappenedBefore c s t → ⊥
never_before c s t ahead before = grind (arith, common_steps, before_to_state)
