-- Reading on to the next moment.
use Rattle.trace_detect.proofs.Words.{◌≡◌, ◌∙◌, ◌+◌, ℕ, Bool, true, false, List, [], ◌∷◌, ◌++◌, Option}
use Rattle.trace_detect.proofs.Words.{None, Result, Ok, Err, length-append, inl, inr, refl, sym, subst}
use Rattle.trace_detect.proofs.Words.{arith, Logged}
use Rattle.trace_detect.proofs.Words.{Condition, Watcher}
use Rattle.trace_detect.proofs.Words.{IsWatchingBehind}
use Rattle.std.specs.Result.{IsErr, IsErrAnd}
use Rattle.std.proofs.lemmas.Result.{err_from_is_err_and}
use Rattle.trace_log.specs.declared.event_fault.EventFault.{EventFault}
use Rattle.trace_log.specs.declared.event_fault.EventFault.TheVariants as events
use Rattle.trace_log.specs.declared.log.Log.{Log}
use Rattle.trace_log.specs.declared.turn.Form.{Form}
use Rattle.trace_log.specs.Reading.{ReadsEvent}
use Rattle.trace_detect.specs.declared.answer.TraceAnswer.{TraceAnswer}
use Rattle.trace_detect.specs.declared.fault.DetectFault.{DetectFault}
use Rattle.trace_detect.specs.declared.moments.Moments.{Moments}
use Rattle.trace_detect.specs.Faults.{fault_of_events}
use Rattle.trace_detect.specs.Moments.{AnswersMoment, IsFollowing}
use Rattle.trace_detect.specs.Moments.{IsOnTheWay, KnowsNoneBehind, ReadsOnTheWay, ReadsOneBehind}
use Rattle.trace_detect.specs.Moments.{StopsBehind, TakesNextOne}
use Rattle.trace_detect.proofs.Following.{keeping_of, knows_none_behind, watching_of}

-- A fault of the log.
pub fault_behind : (form : Form) (conditions : List Condition) (input left : Option (List ℕ))
    (told : Option (ℕ → Logged)) (logged : List Logged) (log : Log) (why : EventFault)
    → ReadsEvent form input left logged (Err why) log → KnowsNoneBehind conditions told logged
    → StopsBehind form conditions input told (fault_of_events why)
fault_behind form conditions input left told logged log (events.Log what) reads none =
    record { logged = logged; failed = reads; none_known = none }
fault_behind form conditions input left told logged log (events.Forgets what) reads none = reads
fault_behind form conditions input left told logged log events.Read reads none = tt
fault_behind form conditions input left told logged log events.Memory reads none = tt

pub hands_one : (form : Form) (conditions : List Condition) (input left : Option (List ℕ))
    (told : Option (ℕ → Logged)) (before : List Logged) (old new : Watcher) (log : Log)
    (result : Result (Option Bool) DetectFault) (given : DetectFault)
    → IsErr result × IsErrAnd result (λ fault. fault ≡ given) → StopsBehind form conditions input told given
    → ReadsOneBehind form conditions input left told before old result log new
hands_one form conditions input left told before old new log result given back stops =
    let handed = err_from_is_err_and result back.1 in rw (handed.1, handed.2) stops

pub hands_way : (form : Form) (conditions : List Condition) (input left : Option (List ℕ))
    (told : Option (ℕ → Logged)) (at : List Logged) (moments : Moments) (result : Result (Unit {0}) DetectFault)
    (given : DetectFault) → IsErr result × IsErrAnd result (λ fault. fault ≡ given)
    → StopsBehind form conditions input told given → ReadsOnTheWay form conditions input left told at result moments
hands_way form conditions input left told at moments result given back stops =
    let handed = err_from_is_err_and result back.1 in rw (handed.1, handed.2) stops

pub hands_moment : (form : Form) (conditions : List Condition) (input left : Option (List ℕ))
    (told : Option (ℕ → Logged)) (at : List Logged) (moments : Moments)
    (result : Result (Option TraceAnswer) DetectFault) (given : DetectFault)
    → IsErr result × IsErrAnd result (λ fault. fault ≡ given)
    → StopsBehind form conditions input told given → AnswersMoment form conditions input left told at result moments
hands_moment form conditions input left told at moments result given back stops =
    let handed = err_from_is_err_and result back.1 in rw (handed.1, handed.2) stops

-- One event more was read on the way to the next moment.
module _ (form : Form) (conditions : List Condition) (input left left' : Option (List ℕ)) (told : Option (ℕ → Logged))
    (at : List Logged) (old new : Moments) (way : IsOnTheWay form conditions input left told at old)
    (unknown : old.known ≡ false) where
  pub old_watching : IsWatchingBehind conditions told way.logged old.watcher
  old_watching = watching_of conditions told way.logged old.watcher way.following.keeping way.following.taken

  pub reads_way : TakesNextOne form conditions input left' told way.logged new.known new.events.log new.watcher
      → new.ended ≡ false → new.count ≡ old.count + 1 → IsOnTheWay form conditions input left' told at new
  reads_way takes goes_on counted = record {
    logged = way.logged ++ takes.one ∷ [];
    following = record {
      read = rw goes_on takes.reads.read;
      keeping = keeping_of conditions told (way.logged ++ takes.one ∷ []) new.watcher takes.watching takes.all;
      taken = takes.watching.taken;
      known = takes.knows;
      many = omega (arith, length-append way.logged (takes.one ∷ []), way.following.many, counted);
    };
    when = λ is. inr (record {
      before = way.logged;
      one = takes.one;
      parts = refl;
      none_before = knows_none_behind conditions told way.logged old.watcher old_watching
          (way.following.known ∙ unknown);
      says = takes.reads.read.says;
      last = takes.reads.last;
    });
  }

-- The log has ended.
pub ends_way : (form : Form) (conditions : List Condition) (input left left' : Option (List ℕ))
    (told : Option (ℕ → Logged)) (at : List Logged) (old : Moments) (watcher : Watcher)
    → (way : IsOnTheWay form conditions input left told at old) → old.known ≡ false
    → ReadsOneBehind form conditions input left' told way.logged old.watcher (Ok None) old.events.log watcher
    → (events : _) → IsOnTheWay form conditions input left' told at
    (record old { events = events; watcher = watcher; ended = true })
ends_way form conditions input left left' told at old watcher way unknown ends events =
    subst (λ (one : Watcher). IsOnTheWay form conditions input left' told at
    (record old { events = events; watcher = one; ended = true })) (sym ends.1) (record {
      logged = way.logged;
      following = record {
        read = ends.0;
        keeping = way.following.keeping;
        taken = way.following.taken;
        known = way.following.known;
        many = way.following.many;
      };
      when = λ is. absurd (cc (is, unknown));
    })

pub starts_way : (form : Form) (conditions : List Condition) (input left : Option (List ℕ))
    (told : Option (ℕ → Logged)) (at : List Logged) (moments : Moments)
    → IsFollowing form conditions input left told at moments → IsOnTheWay form conditions input left told at moments
starts_way form conditions input left told at moments is =
    record { logged = at; following = is; when = λ known. inl refl }
