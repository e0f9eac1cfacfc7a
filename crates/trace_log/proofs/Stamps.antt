-- What a line says of a host and its clock, part after part.
use Rattle.trace_log.proofs.Words.{◌≡◌, ◌∙◌, Bool, true, false, ℕ, List, [], ◌∷◌, Option, Some, None, Result, Ok, Err}
use Rattle.trace_log.proofs.Words.{refl}
use Rattle.trace_log.proofs.Words.{ap, sym, subst, ◌>>=◌, Has, Memory, LineFault, Event, Stamp, KeepsLast}
use Rattle.trace_log.proofs.Words.{Member, member_in, Json, Members, no_members, member, null, boolean, number, string}
use Rattle.trace_log.proofs.Words.{array, object, are_distinct, has_distinct_names, members_have_distinct_names}
use Rattle.trace_log.proofs.Words.{bytes_eq}
use Rattle.std.proofs.Common.{codes, cond}
use Rattle.std.proofs.lemmas.Bool.{and_parts}
use Rattle.std.specs.Option.{ok_or}
use Rattle.json.specs.Find.{get, get_member, later_or}
use Rattle.json.specs.Json.{document}
use Rattle.json.specs.Strict.{keys}
use Rattle.trace_log.specs.declared.fault.LogFaultKind.{LogFaultKind}
use Rattle.trace_log.specs.declared.fault.LogFaultKind.TheVariants as kind
unfoldable use Rattle.trace_log.specs.Clock.{clock_of}
use Rattle.trace_log.specs.Event.{text_in, text_at, clock_in, own_in}
unfoldable use Rattle.trace_log.specs.Event.{event_in, event_in_json, stamp_in, host_and_rest, clock_in_text}
use Rattle.trace_log.specs.Hosts.{Host, clock_among}
use Rattle.std.specs.Prelude.{not}
use Rattle.trace_log.specs.Names.{names_in}
use Rattle.trace_log.specs.Judgement.{ask}
use Rattle.trace_log.proofs.Binds.{bind_gives, same_ok, asked, regrouped}
use Rattle.trace_log.specs.Clock.{number_in}
use Rattle.trace_log.specs.Kept.{have_distinct_names, stamp_of, stamp_of_text, stamp_of_value, event_at}
use Rattle.trace_log.specs.Kept.{event_of_json, KeepsStamp, KeepsEvent}
use Rattle.trace_log.specs.Log.{whole, stamp_after, event_after}
use Rattle.trace_log.specs.Order.{last_clock, follows, may_follow, is_in_cycle}
use Rattle.trace_log.proofs.Cycles.{same_cycle}

-- The names of a clock are the keys of its object.
with_keys : (members : Members) (clock : List Member) → clock_of members ≡ Ok clock → names_in clock ≡ keys members
unfolding clock_of
with_keys no_members clock is =
    let same : [] ≡ clock = same_ok [] clock is in
    ap names_in (sym same)
with_keys (member name value others) clock is =
    bind_gives (names_in clock ≡ name ∷ keys others) (member_in name value)
    (λ one. clock_of others >>= λ all. Ok (one ∷ all)) clock is (λ one read rest.
    bind_gives (names_in clock ≡ name ∷ keys others) (clock_of others) (λ all. Ok (one ∷ all)) clock rest
    (λ all more same.
    let named : one.name ≡ name = bind_gives (one.name ≡ name) (ok_or (number_in value) kind.Clock)
    (λ n. Ok (record { name = name; number = n })) one read (λ n _ is_one. ap (λ (m : Member). m.name)
    (sym (same_ok (record { name = name; number = n }) one is_one))) in
    ap names_in (sym (same_ok (one ∷ all) clock same)) ∙ ap (λ n. n ∷ names_in all) named
    ∙ ap (λ l. name ∷ l) (with_keys others all more)))

pub clock_in-distinct : (value : Option Json) (clock : List Member) → clock_in value ≡ Ok clock
    → ((json : Json) → value ≡ Some json → has_distinct_names json ≡ true) → are_distinct (names_in clock) ≡ true
clock_in-distinct None clock is distinct = cc
clock_in-distinct (Some null) clock is distinct = cc
clock_in-distinct (Some (boolean b)) clock is distinct = cc
clock_in-distinct (Some (number text)) clock is distinct = cc
clock_in-distinct (Some (string text)) clock is distinct = cc
clock_in-distinct (Some (array values)) clock is distinct = cc
clock_in-distinct (Some (object members)) clock is distinct =
    ap are_distinct (with_keys members clock is) ∙ (and_parts _ _ (distinct (object members) refl)).0

later : (o : Option Json) (b : Bool) (value json : Json) → later_or o (cond b (Some value) None) ≡ Some json
    → ((other : Json) → o ≡ Some other → has_distinct_names other ≡ true) → has_distinct_names value ≡ true
    → has_distinct_names json ≡ true
later None true value json is others distinct =
    let same : value ≡ json = cc in subst (λ j. has_distinct_names j ≡ true) same distinct
later None false value json is others distinct = cc
later (Some other) b value json is others distinct = others json is

get-distinct : (name : List ℕ) (members : Members) (json : Json) → get_member name members ≡ Some json
    → members_have_distinct_names members ≡ true → has_distinct_names json ≡ true
get-distinct name no_members json is distinct = cc
get-distinct name (member key value others) json is distinct =
    let parts = and_parts (has_distinct_names value) (members_have_distinct_names others) distinct in
    later (get_member name others) (bytes_eq key name) value json is
    (λ other there. get-distinct name others other there parts.1) parts.0

pub member-distinct : (name : List ℕ) (value json : Json) → has_distinct_names value ≡ true
    → get name value ≡ Some json → has_distinct_names json ≡ true
member-distinct name null json distinct is = cc
member-distinct name (boolean b) json distinct is = cc
member-distinct name (number text) json distinct is = cc
member-distinct name (string text) json distinct is = cc
member-distinct name (array values) json distinct is = cc
member-distinct name (object members) json distinct is =
    get-distinct name members json is (and_parts _ _ distinct).1

-- Whether a value that may be none has a name twice.
abbrev has_in : Option Json → Bool
has_in None = true
has_in (Some json) = has_distinct_names json

pub clock_in_text-distinct : (text : List ℕ) (clock : List Member) → clock_in_text text ≡ Ok clock
    → are_distinct (names_in clock) ≡ true
unfolding clock_in_text
clock_in_text-distinct text clock is =
    bind_gives (are_distinct (names_in clock) ≡ true) (ok_or (document text) kind.Clock)
    (λ value. ask (has_distinct_names value) kind.Clock >>= λ _. clock_in (Some value)) clock is (λ value _ rest.
    bind_gives (are_distinct (names_in clock) ≡ true) (ask (has_distinct_names value) kind.Clock)
    (λ _. clock_in (Some value)) clock rest (λ u test given.
    clock_in-distinct (Some value) clock given (λ json same.
    subst (λ o. has_in o ≡ true) same (asked (has_distinct_names value) kind.Clock test))))

pub stamp_parts : (earlier : List Event) (line text host rest : List ℕ) → text_in line ≡ Ok text
    → host_and_rest text ≡ Ok (host, rest) → stamp_after earlier line ≡ stamp_of_text earlier host rest
unfolding stamp_in
stamp_parts earlier line text host rest read parts =
    rw (read, parts) (regrouped (clock_in_text rest) (λ clock. own_in host clock)
    (λ clock. record { host = host; clock = clock })
    (λ stamp. may_follow earlier stamp.host stamp.clock >>= λ _. Ok stamp))

pub stamp_no_text : (earlier : List Event) (line : List ℕ) (what : LogFaultKind) → text_in line ≡ Err what
    → stamp_after earlier line ≡ Err what
unfolding stamp_in
stamp_no_text earlier line what none = rw none refl

pub stamp_no_parts : (earlier : List Event) (line text : List ℕ) (what : LogFaultKind) → text_in line ≡ Ok text
    → host_and_rest text ≡ Err what → stamp_after earlier line ≡ Err what
unfolding stamp_in
stamp_no_parts earlier line text what read none = rw (read, none) refl

-- A clock that may follow.
pub stamp_follows : (earlier : List Event) (hosts : List Host) (host : List ℕ) (last clock : List Member)
    → KeepsLast hosts earlier → own_in host clock ≡ Ok tt
    → last ≡ last_clock host earlier → follows host last clock ≡ Ok tt
    → ask (not (is_in_cycle (λ name. clock_among name hosts) host clock)) kind.Cycle ≡ Ok tt
    → stamp_of earlier host clock ≡ Ok (record { host = host; clock = clock })
stamp_follows earlier hosts host last clock kept own same is none =
    let may = subst (λ l. follows host l clock ≡ Ok tt) same is in
    let no_cycle = ap (λ b. ask (not b) kind.Cycle) (sym (same_cycle (λ name. clock_among name hosts)
    (λ name. last_clock name earlier) host clock kept)) ∙ none in
    rw (own, may, no_cycle) refl

-- The event of a stamp and a text.
pub event_of_stamp : (judged : Result Stamp LogFaultKind) (earlier : List Event) (result : Result ℕ LineFault)
    (hosts : List Host) (text said : List ℕ) → said ≡ text → KeepsStamp earlier judged result hosts
    → KeepsEvent earlier (judged >>= λ stamp. Ok (whole stamp text)) result hosts said
event_of_stamp judged earlier (Ok place) hosts text said same is =
    (ap (λ r. r >>= λ stamp. Ok (whole stamp text)) is.0 ∙ ap (λ t. Ok (event_at hosts t place)) (sym same), is.1)
event_of_stamp judged earlier (Err (Has what)) hosts text said same is =
    ap (λ r. r >>= λ stamp. Ok (whole stamp text)) is
event_of_stamp judged earlier (Err Memory) hosts text said same is = tt

abbrev event_with : List ℕ → List Member → List ℕ → Event
event_with host clock text = record { host = host; clock = clock; text = text }

abbrev next_event : List Event → Event → Result Event LogFaultKind
next_event earlier event = may_follow earlier event.host event.clock >>= λ _. Ok event

grouped : (own fol : Result (Unit {0}) LogFaultKind) (event : Event) (next : Event → Result Event LogFaultKind)
    (stamp : Stamp) (texted : Stamp → Event) → next event ≡ (fol >>= λ _. Ok event) → texted stamp ≡ event
    → ((own >>= λ _. Ok event) >>= next) ≡ ((own >>= λ _. fol >>= λ _. Ok stamp) >>= λ s. Ok (texted s))
grouped (Ok a) (Ok b) event next stamp texted is same = is ∙ ap Ok (sym same)
grouped (Ok a) (Err fault) event next stamp texted is same = is
grouped (Err fault) fol event next stamp texted is same = refl

clock_parts : (earlier : List Event) (host text : List ℕ) (judged : Result (List Member) LogFaultKind)
    → ((judged >>= λ clock. own_in host clock >>= λ _. Ok (event_with host clock text)) >>= next_event earlier)
    ≡ ((judged >>= stamp_of earlier host) >>= λ stamp. Ok (whole stamp text))
clock_parts earlier host text (Ok clock) =
    grouped (own_in host clock) (may_follow earlier host clock) (event_with host clock text)
    (next_event earlier) (record { host = host; clock = clock }) (λ stamp. whole stamp text) refl refl
clock_parts earlier host text (Err fault) = refl

pub json_parts : (earlier : List Event) (host text : List ℕ) (value : Json)
    → text_at (codes "host") value ≡ Some host → text_at (codes "event") value ≡ Some text
    → event_of_json earlier true value
    ≡ (stamp_of_value earlier host (get (codes "clock") value) >>= λ stamp. Ok (whole stamp text))
unfolding event_in_json
json_parts earlier host text value is_host is_text =
    rw (is_host, is_text) (clock_parts earlier host text (clock_in (get (codes "clock") value)))

pub values_distinct : (value : Option Json)
    → ((json : Json) → value ≡ Some json → has_distinct_names json ≡ true) → have_distinct_names value ≡ true
values_distinct None each = refl
values_distinct (Some json) each = each json refl

pub value_distinct : (value : Option Json) (json : Json) → have_distinct_names value ≡ true → value ≡ Some json
    → has_distinct_names json ≡ true
value_distinct value json distinct same = subst (λ o. have_distinct_names o ≡ true) same distinct

pub event_parts : (earlier : List Event) (line text : List ℕ) (value : Json) (distinct : Bool) → text_in line ≡ Ok text
    → document text ≡ Some value → has_distinct_names value ≡ distinct
    → event_after earlier line ≡ event_of_json earlier distinct value
unfolding event_in
event_parts earlier line text value distinct read is test = rw (read, is, test) refl
