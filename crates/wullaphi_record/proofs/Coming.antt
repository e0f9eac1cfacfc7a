-- The events of all records are read, one after another.
use Rattle.wullaphi_record.proofs.Words.{◌≡◌, ◌≢◌, ◌∙◌, ◌⊎◌, inl, inr, ◌<◌, ◌≤◌, ℕ, zero, suc, ◌+◌, Bool, true, false, cond}
use Rattle.wullaphi_record.proofs.Words.{get_or, List, [], ◌∷◌, ◌++◌, length, map, refl, sym, ap, subst, arith}
use Rattle.wullaphi_record.proofs.Words.{append_assoc, append-nil, flat_map, Ok, bytes_eq, bytes_same, bytes_differ, same_bytes}
use Rattle.std.specs.Prelude.{⊤}
use Rattle.std.proofs.lemmas.List.{length-append}
use Rattle.trace_log.proofs.Falls.{clock_after-push}
use Rattle.trace_log.specs.declared.turn.Form.{Form}
use Rattle.trace_log.specs.Clock.{Member, most_number}
use Rattle.trace_log.specs.Event.{Event}
use Rattle.trace_log.specs.Log.{event_after, most_lines, no_lines}
use Rattle.trace_log.specs.LoggedEvents.{logged_from}
unfoldable use Rattle.trace_log.specs.Order.{clock_after}
use Rattle.wcp_io.specs.Lines.{line_feed, lines_of}
use Rattle.wullaphi_record.specs.Recorded.{IsKept, Recording}
use Rattle.wullaphi_record.specs.Logs.{Legible, json_of, AreDistinct, AreOfOneRun, IsReadWhole, events_of, line_of, log_of, logged_at}
use Rattle.wullaphi_record.specs.Logs.{logged_of, logged_up_to, member_of, number_in}
use Rattle.wullaphi_record.proofs.Among.{contains, IsIn, Distinct, distinct}
use Rattle.wullaphi_record.proofs.Feeds.{AreClean, AreFew, event_no_feed, lines_are}
use Rattle.wullaphi_record.proofs.Following.{EventOf, IsLastOwn, Precede, may_come}
use Rattle.wullaphi_record.proofs.Lines.{flat_append, flat_push}
use Rattle.wullaphi_record.proofs.Reading.{IsWhole, Reads, reads_more, reads_none}
use Rattle.wullaphi_record.proofs.Saying.{event_said, number_few}

-- An event of a log is one of a record.
pub record EventFrom (all : List Recording) (event : Event) : Type 0 where
  pub of : Recording
  pub at : ℕ
  pub there : IsIn of all
  pub within : at < length of.events
  pub is : event ≡ logged_at all of at

abbrev pub AllFrom : List Recording → List Event → Type 0
AllFrom all [] = ⊤
AllFrom all (event ∷ events) = EventFrom all event × AllFrom all events

from_append : (all : List Recording) (xs ys : List Event) → AllFrom all xs → AllFrom all ys → AllFrom all (xs ++ ys)
from_append all [] ys first then = then
from_append all (x ∷ xs) ys first then = (first.0, from_append all xs ys first.1 then)

last_cases : (all : List Recording) (name : List ℕ) (clock : List Member) (events : List Event) → AllFrom all events
    → (clock_after name clock events ≡ clock) ⊎ EventOf all name (clock_after name clock events)
unfolding clock_after
last_cases all name clock [] from = inl refl
last_cases all name clock (event ∷ events) from =
    by (λ c. last_cases all name c events from.1) (bytes_eq event.host name) refl
  where
    found : event.host ≡ name
        → (clock_after name event.clock events ≡ event.clock) ⊎ EventOf all name (clock_after name event.clock events)
        → EventOf all name (clock_after name event.clock events)
    found same (inl is) = record {
      of = from.0.of;
      at = from.0.at;
      there = from.0.there;
      named = sym (ap (λ (e : Event). e.host) from.0.is) ∙ same;
      within = from.0.within;
      is = is ∙ ap (λ (e : Event). e.clock) from.0.is;
    }
    found same (inr later) = later

    by : ((c : List Member) → (clock_after name c events ≡ c) ⊎ EventOf all name (clock_after name c events))
        → (b : Bool) → bytes_eq event.host name ≡ b
        → (clock_after name clock (event ∷ events) ≡ clock) ⊎ EventOf all name (clock_after name clock (event ∷ events))
    by later true is = rw is (inr (found (same_bytes event.host name is) (later event.clock)))
    by later false is = rw is (later clock)

-- No event is of the host.
abbrev pub NoneNamed : List ℕ → List Event → Type 0
NoneNamed name [] = ⊤
NoneNamed name (event ∷ events) = (event.host ≢ name) × NoneNamed name events

named_append : (name : List ℕ) (xs ys : List Event) → NoneNamed name xs → NoneNamed name ys → NoneNamed name (xs ++ ys)
named_append name [] ys first then = then
named_append name (x ∷ xs) ys first then = (first.0, named_append name xs ys first.1 then)

none_named : (name : List ℕ) (clock : List Member) (events : List Event) → NoneNamed name events
    → clock_after name clock events ≡ clock
unfolding clock_after
none_named name clock [] none = refl
none_named name clock (event ∷ events) none =
    rw (bytes_differ event.host name none.0) (none_named name clock events none.1)

after_append : (name : List ℕ) (clock : List Member) (xs ys : List Event)
    → clock_after name clock (xs ++ ys) ≡ clock_after name (clock_after name clock xs) ys
unfolding clock_after
after_append name clock [] ys = refl
after_append name clock (x ∷ xs) ys = after_append name (cond (bytes_eq x.host name) x.clock clock) xs ys

-- The last clock of the events of a record itself.
own_last : (all : List Recording) (own : Recording) (n : ℕ)
    → IsLastOwn all own n (clock_after own.name [] (logged_up_to all own n))
unfolding clock_after
own_last all own zero = refl
own_last all own (suc n) =
    clock_after-push own.name [] (logged_up_to all own n) (logged_at all own n)
    ∙ rw (bytes_same own.name own.name refl) refl

from_up_to : (all : List Recording) (own : Recording) → IsIn own all → (n : ℕ) → n ≤ length own.events
    → AllFrom all (logged_up_to all own n)
from_up_to all own there zero within = tt
from_up_to all own there (suc n) within =
    from_append all (logged_up_to all own n) (logged_at all own n ∷ []) (from_up_to all own there n (omega arith))
    (record { of = own; at = n; there = there; within = omega arith; is = refl }, tt)

from_all : (all done : List Recording) → ((one : Recording) → IsIn one done → IsIn one all)
    → AllFrom all (flat_map (logged_of all) done)
from_all all [] there = tt
from_all all (one ∷ others) there =
    from_append all (logged_of all one) (flat_map (logged_of all) others)
    (from_up_to all one (there one (inl refl)) (length one.events) (omega arith))
    (from_all all others (λ other later. there other (inr later)))

unnamed_up_to : (all : List Recording) (own : Recording) (name : List ℕ) → own.name ≢ name → (n : ℕ)
    → NoneNamed name (logged_up_to all own n)
unnamed_up_to all own name differ zero = tt
unnamed_up_to all own name differ (suc n) =
    named_append name (logged_up_to all own n) (logged_at all own n ∷ []) (unnamed_up_to all own name differ n) (differ, tt)

unnamed : (all done : List Recording) (name : List ℕ) → ((one : Recording) → IsIn one done → one.name ≢ name)
    → NoneNamed name (flat_map (logged_of all) done)
unnamed all [] name none = tt
unnamed all (one ∷ others) name none =
    named_append name (logged_of all one) (flat_map (logged_of all) others)
    (unnamed_up_to all one name (none one (inl refl)) (length one.events))
    (unnamed all others name (λ other later. none other (inr later)))

pub up_to_long : (all : List Recording) (own : Recording) (n : ℕ) → length (logged_up_to all own n) ≡ n
up_to_long all own zero = refl
up_to_long all own (suc n) =
    length-append (logged_up_to all own n) (logged_at all own n ∷ []) ∙ ap (λ k. k + 1) (up_to_long all own n) ∙ omega arith

in_middle : (done : List Recording) (own : Recording) (rest : List Recording) → IsIn own (done ++ own ∷ rest)
in_middle [] own rest = inl refl
in_middle (first ∷ done) own rest = inr (in_middle done own rest)

in_front : (done rest : List Recording) (one : Recording) → IsIn one done → IsIn one (done ++ rest)
in_front [] rest one there = absurd there
in_front (first ∷ done) rest one (inl is) = inl is
in_front (first ∷ done) rest one (inr later) = inr (in_front done rest one later)

module _ (all : List Recording) (are : Distinct all) (one_run : AreOfOneRun all)
    (kept : (one : Recording) → IsIn one all → IsKept one) (legible : (one : Recording) → IsIn one all → Legible all one)
    (form : Form) (whole : IsWhole form) where
  -- The events of one record more.
  record_read : (done : List Recording) (own : Recording) → ((one : Recording) → IsIn one done → IsIn one all)
      → ((one : Recording) → IsIn one done → one.name ≢ own.name) → IsIn own all
      → length (flat_map (logged_of all) done) + length own.events ≤ most_lines
      → Reads form (flat_map (logged_of all) done) → (n : ℕ) → n ≤ length own.events
      → Reads form (flat_map (logged_of all) done ++ logged_up_to all own n)
  record_read done own there new here few reads zero within =
      subst (Reads form) (sym (append-nil (flat_map (logged_of all) done))) reads
  record_read done own there new here few reads (suc n) within =
      let before = flat_map (logged_of all) done in
      let own_before = logged_up_to all own n in
      let earlier = before ++ own_before in
      let event = logged_at all own n in
      let lasts : Precede all own n earlier = record {
        others = λ name. last_cases all name [] earlier (from_append all before own_before (from_all all done there)
            (from_up_to all own here n (omega arith)));
        own_last = subst (IsLastOwn all own n) (sym (after_append own.name [] before own_before
            ∙ ap (λ clock. clock_after own.name clock own_before) (none_named own.name [] before
            (unnamed all done own.name new)))) (own_last all own n);
      } in
      let said = event_said all own n are here kept within ((legible own here).short n within)
      ((legible own here).utf8 n within) in
      let may = may_come all own are here (kept own here) n earlier one_run within lasts kept in
      let says : event_after earlier (json_of event) ≡ Ok event = rw (said, may) refl in
      let long = length-append before own_before in
      let own_long = up_to_long all own n in
      subst (Reads form) (append_assoc before own_before (event ∷ [])) (reads_more form earlier event whole
      (omega (arith, long, own_long, few, within)) says
      (record_read done own there new here few reads n (omega arith)))

  before_own : (done : List Recording) (own : Recording) (rest : List Recording) → Distinct (done ++ own ∷ rest)
      → (one : Recording) → IsIn one done → one.name ≢ own.name
  before_own [] own rest apart one there = absurd there
  before_own (first ∷ done) own rest apart one (inl is) =
      subst (λ (r : Recording). r.name ≢ own.name) is (apart.0 own (in_middle done own rest)).1
  before_own (first ∷ done) own rest apart one (inr later) = before_own done own rest apart.1 one later

  -- The events of all records.
  all_read : (done rest : List Recording) → all ≡ done ++ rest → length (flat_map (logged_of all) all) ≤ most_lines
      → Reads form (flat_map (logged_of all) done) → Reads form (flat_map (logged_of all) all)
  all_read done [] parts few reads =
      subst (λ rs. Reads form (flat_map (logged_of all) rs)) (sym (parts ∙ append-nil done)) reads
  all_read done (own ∷ rest) parts few reads =
      let here : IsIn own all = subst (IsIn own) (sym parts) (in_middle done own rest) in
      let there : (one : Recording) → IsIn one done → IsIn one all =
      λ one earlier. subst (IsIn one) (sym parts) (in_front done (own ∷ rest) one earlier) in
      let new = before_own done own rest (subst Distinct parts are) in
      let before = flat_map (logged_of all) done in
      let behind = flat_map (logged_of all) rest in
      let whole_parts : flat_map (logged_of all) all ≡ before ++ (logged_of all own ++ behind) =
      ap (flat_map (logged_of all)) parts ∙ flat_append (logged_of all) done (own ∷ rest) in
      let long = ap length whole_parts ∙ length-append before (logged_of all own ++ behind) in
      let own_long = length-append (logged_of all own) behind in
      let events_long = up_to_long all own (length own.events) in
      let fits : length before + length own.events ≤ most_lines = omega (arith, long, own_long, events_long, few) in
      let read = record_read done own there new here fits reads (length own.events) (omega arith) in
      all_read (done ++ own ∷ []) rest (parts ∙ sym (append_assoc done (own ∷ []) rest)) few
      (subst (Reads form) (sym (flat_push (logged_of all) done own)) read)

clean_append : (xs ys : List Event) → AreClean json_of xs → AreClean json_of ys → AreClean json_of (xs ++ ys)
clean_append [] ys first then = then
clean_append (x ∷ xs) ys first then = (first.0, clean_append xs ys first.1 then)

few_in : (own : Recording) (i : ℕ) (all : List Recording)
    → ((one : Recording) → IsIn one all → number_in own i one ≤ most_number) → AreFew (map (member_of own i) all)
few_in own i [] few = tt
few_in own i (one ∷ others) few = (few one (inl refl), few_in own i others (λ other later. few other (inr later)))

module _ (all : List Recording) (kept : (one : Recording) → IsIn one all → IsKept one) where
  clean_up_to : (own : Recording) → IsIn own all → (n : ℕ) → n ≤ length own.events
      → AreClean json_of (logged_up_to all own n)
  clean_up_to own here zero within = tt
  clean_up_to own here (suc n) within =
      let few = few_in own n all (λ one there. number_few own n one within (kept own here) (kept one there)) in
      clean_append (logged_up_to all own n) (logged_at all own n ∷ []) (clean_up_to own here n (omega arith))
      (event_no_feed own.name (logged_at all own n).text (map (member_of own n) all) few, tt)

  clean_all : (done : List Recording) → ((one : Recording) → IsIn one done → IsIn one all)
      → AreClean json_of (flat_map (logged_of all) done)
  clean_all [] there = tt
  clean_all (one ∷ others) there =
      clean_append (logged_of all one) (flat_map (logged_of all) others)
      (clean_up_to one (there one (inl refl)) (length one.events) (omega arith))
      (clean_all others (λ other later. there other (inr later)))

  pub lines_said : lines_of (log_of all) ≡ map json_of (events_of all)
  lines_said = lines_are json_of (events_of all) (clean_all all (λ one there. there))

-- A log has at most as many events as bytes.
pub events_few : (events : List Event) → length events ≤ length (flat_map line_of events)
events_few [] = omega arith
events_few (event ∷ events) =
    let long = length-append (line_of event) (flat_map line_of events) in
    let line = length-append (json_of event) (line_feed ∷ []) in
    omega (arith, events_few events, long, line)

pub log_read : (all : List Recording) → AreDistinct all → ((one : Recording) → IsIn one all → IsKept one)
    → ((one : Recording) → IsIn one all → Legible all one) → length (log_of all) ≤ most_lines → AreOfOneRun all
    → IsReadWhole (log_of all) (events_of all)
log_read all apart kept legible few one_run form lines first last =
    let whole : IsWhole form = record { layout_is = lines; first = first; last = last } in
    let read = all_read all (distinct all apart) one_run kept legible form whole [] all refl
    (omega (arith, events_few (events_of all), few)) (reads_none form) in
    let said = lines_said all kept in
    record { whole = rw (said, read.log) refl; logged = ap (logged_from form no_lines) said ∙ read.logged }

-- By the places of the records.
pub log_read_at : (all : List Recording) → AreDistinct all
    → ((k : ℕ) (one : Recording) → k < length all → IsKept (get_or all k one))
    → ((k : ℕ) (one : Recording) → k < length all → Legible all (get_or all k one)) → length (log_of all) ≤ most_lines
    → AreOfOneRun all → IsReadWhole (log_of all) (events_of all)
log_read_at all apart kept legible few =
    log_read all apart
    (λ one there. let at = contains all one there in subst IsKept at.2 (kept at.0 one at.1))
    (λ one there. let at = contains all one there in subst (Legible all) at.2 (legible at.0 one at.1)) few
