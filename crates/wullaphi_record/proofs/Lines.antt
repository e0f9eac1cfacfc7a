-- The lines of a log.
use Rattle.std.proofs.Common.{◌≡◌, ◌∙◌, ℕ, ◌+◌, List, [], ◌∷◌, ◌++◌, map, flat_map, refl, sym, ap, append_assoc}
use Rattle.std.proofs.Common.{append-nil, add-one}
use Rattle.std.specs.Fmt.{decimal}
use Rattle.json.specs.Json.{number}
use Rattle.trace_log.specs.Fields.{Field}
use Rattle.trace_log.specs.PlainEvents.{clock_fields}
use Rattle.json.specs.Json.{Json, object}
use Rattle.std.specs.Prelude.{Contains, ◌<◌, length}
use Rattle.trace_log.specs.Fields.{members_from}
use Rattle.trace_log.specs.PlainEvents.{clock_object}
use Rattle.trace_rewrite.specs.Lines.{event_json}
use Rattle.wullaphi_record.specs.declared.fault.RecordFault.{RecordFault}
use Rattle.wullaphi_record.specs.declared.fault.RecordFault.TheVariants as fault
use Rattle.wullaphi_record.specs.Recorded.{Recording, recorded_at}
use Rattle.wullaphi_record.specs.Logs.{AreDistinct, IsWhyNoLine, IsWhyNoLines, IsWhyNoLog, json_of}
use Rattle.wullaphi_record.specs.Logs.{fields_of, line_of, logged_at, logged_of, logged_up_to, member_of, number_in}

-- The fields of an event's clock are the names with the numbers.
pub fields_are : (own : Recording) (i : ℕ) (all : List Recording)
    → fields_of all (map (number_in own i) all) ≡ clock_fields (map (member_of own i) all)
fields_are own i [] = refl
fields_are own i (one ∷ all) =
    ap (λ (l : List Field). record { name = one.name; value = number (decimal (number_in own i one)) } ∷ l)
    (fields_are own i all)

pub flat_push : {X Y : Type 0} (f : X → List Y) (xs : List X) (x : X) → flat_map f (xs ++ x ∷ []) ≡ flat_map f xs ++ f x
flat_push f [] x = append-nil (f x)
flat_push f (y ∷ xs) x = ap (λ l. f y ++ l) (flat_push f xs x) ∙ sym (append_assoc (f y) (flat_map f xs) (f x))

-- The line of one event more.
pub line_pushed : (all : List Recording) (own : Recording) (i : ℕ) (before : List ℕ)
    → (before ++ flat_map line_of (logged_up_to all own i)) ++ line_of (logged_at all own i)
    ≡ before ++ flat_map line_of (logged_up_to all own (i + 1))
line_pushed all own i before =
    append_assoc before _ _ ∙ ap (λ l. before ++ l) (sym (flat_push line_of (logged_up_to all own i) (logged_at all own i)))
    ∙ ap (λ n. before ++ flat_map line_of (logged_up_to all own n)) (sym (add-one i))

pub flat_append : {X Y : Type 0} (f : X → List Y) (xs ys : List X) → flat_map f (xs ++ ys) ≡ flat_map f xs ++ flat_map f ys
flat_append f [] ys = refl
flat_append f (x ∷ xs) ys =
    ap (λ l. f x ++ l) (flat_append f xs ys) ∙ sym (append_assoc (f x) (flat_map f xs) (flat_map f ys))

-- The lines of one record more.
pub record_pushed : (all done : List Recording) (one : Recording)
    → flat_map line_of (flat_map (logged_of all) (done ++ one ∷ []))
    ≡ flat_map line_of (flat_map (logged_of all) done) ++ flat_map line_of (logged_of all one)
record_pushed all done one =
    ap (flat_map line_of) (flat_push (logged_of all) done one)
    ∙ flat_append line_of (flat_map (logged_of all) done) (logged_of all one)

-- What is printed of an event's name, clock and text is the event.
pub json_is : (all : List Recording) (own : Recording) (i : ℕ) (numbers name text : List ℕ) (clock : Json)
    → numbers ≡ map (number_in own i) all → clock ≡ object (members_from (fields_of all numbers)) → name ≡ own.name
    → text ≡ (recorded_at own.events i).text → event_json name clock text ≡ json_of (logged_at all own i)
json_is all own i numbers name text clock numbers_are clock_is name_is text_is =
    let value : clock ≡ clock_object (map (member_of own i) all) =
    clock_is ∙ ap (λ n. object (members_from (fields_of all n))) numbers_are
    ∙ ap (λ fields. object (members_from fields)) (fields_are own i all) in
    ap (λ n. event_json n clock text) name_is ∙ ap (λ v. event_json own.name v text) value
    ∙ ap (λ t. event_json own.name (clock_object (map (member_of own i) all)) t) text_is

-- Why there is no line, no lines, or no log.
pub why_no_lines : (all : List Recording) (own : Recording) (i : ℕ) (why : RecordFault) → i < length own.events
    → IsWhyNoLine all own i why → IsWhyNoLines all own why
why_no_lines all own i fault.Long within is = (i, within, is)
why_no_lines all own i fault.Memory within is = tt
why_no_lines all own i fault.Twice within is = is
why_no_lines all own i fault.OtherProbe within is = is
why_no_lines all own i fault.Full within is = is

pub why_no_log : (all : List Recording) (own : Recording) (why : RecordFault) → AreDistinct all → Contains all own
    → IsWhyNoLines all own why → IsWhyNoLog all why
why_no_log all own fault.Long apart there is = (apart, (own, there, is))
why_no_log all own fault.Memory apart there is = apart
why_no_log all own fault.Twice apart there is = absurd is
why_no_log all own fault.OtherProbe apart there is = is
why_no_log all own fault.Full apart there is = is
