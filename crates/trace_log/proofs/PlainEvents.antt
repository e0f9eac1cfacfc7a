-- An event in one JSON object that a look passed, as JSON has it.
use Rattle.trace_log.proofs.Words.{◌≡◌, ◌∙◌, ◌<◌, ℕ, List, [], ◌∷◌, ◌++◌, Bool, true, false, cond, Option, Some, None}
use Rattle.trace_log.proofs.Words.{Ok, Result, refl, sym, ap, subst, arith, append_assoc, append-nil, length}
use Rattle.trace_log.proofs.Words.{option_map}
use Rattle.trace_log.proofs.Words.{bytes_eq, bytes_eq-Decides, list_any, false_from_ne_true, map-append, Json}
use Rattle.trace_log.proofs.Words.{string, object, Member, Event, KeepsLast, ◌>>=◌, are_distinct}
use Rattle.trace_log.proofs.Words.{has_distinct_names, Bor, take, ◌+◌}
use Rattle.std.proofs.Common.{option_and_then, codes, map}
use Rattle.std.proofs.lemmas.Bool.{and_parts, or_parts}
use Rattle.std.proofs.lemmas.List.Folds.{list_any-append}
use Rattle.std.specs.Prelude.{not, ◌||◌, is_some}
use Rattle.std.proofs.Math.ListN.{set}
use Rattle.std.proofs.lemmas.List.{take_more_set}
use Rattle.std.specs.Option.{ok_or}
use Rattle.json.specs.Find.{get, get_member, later_or, as_str}
use Rattle.json.specs.Json.{document}
use Rattle.json.specs.Spaced.{IsGap}
use Rattle.trace_log.specs.declared.fault.LogFaultKind.{LogFaultKind}
use Rattle.trace_log.specs.declared.fault.LogFaultKind.TheVariants as kind
use Rattle.trace_log.specs.Event.{text_in, text_at, clock_in}
use Rattle.trace_log.specs.Fields.{Field, members_from, IsNamed, BeginsWith, AreFields, IsQuoted}
use Rattle.trace_log.specs.Fields.{HasValue, IsWord}
use Rattle.trace_log.specs.Judgement.{ask}
use Rattle.trace_log.specs.PlainEvents.{is_said, IsPlainClock, Parts, SpellsParts, IsClockThere}
use Rattle.trace_log.specs.PlainEvents.{clock_object, clock_there, FindsPart, FindsParts}
unfoldable use Rattle.trace_log.specs.PlainEvents.{clock_beside}
use Rattle.std.specs.Prelude.{IfSome, nat_le}
use Rattle.std.specs.Str.{is_utf8}
use Rattle.trace_log.specs.Event.{most_bytes}
use Rattle.trace_log.specs.Hosts.{Host, KeepsClock, SpellsNext}
use Rattle.trace_log.specs.Kept.{KeepsEvent, event_at}
use Rattle.trace_log.specs.Log.{event_after, whole}
use Rattle.trace_log.proofs.Binds.{asked, bind_gives, same_ok}
use Rattle.trace_log.proofs.Keeps.{keeps-next, looked_next, stamp_is}
use Rattle.trace_log.proofs.Stamps.{event_parts, json_parts}
use Rattle.trace_log.proofs.Objects.{field_names, object_spelled, text_spelled, document_is}
use Rattle.trace_log.proofs.Quick.{clock_object_spelled, clock_in_object}

-- The first of these names.
abbrev pub first_names : ℕ → List (Bor (List ℕ)) → List (List ℕ)
first_names count names = map (λ (name : Bor (List ℕ)). name.now) (take count names)

pub names-next : (names : List (Bor (List ℕ))) (i : ℕ) (one : Bor (List ℕ)) → i < length names
    → first_names (i + 1) (set names i one) ≡ first_names i names ++ one.now ∷ []
names-next names i one within =
    ap (λ l. map (λ (name : Bor (List ℕ)). name.now) l) (take_more_set names i one within)
    ∙ map-append (λ (name : Bor (List ℕ)). name.now) (take i names) (one ∷ [])

pub any_named : (name : List ℕ) (names : List (Bor (List ℕ)))
    → list_any (bytes_eq name) (map (λ (other : Bor (List ℕ)). other.now) names)
    ≡ list_any (λ other. bytes_eq name other.now) names
any_named name [] = refl
any_named name (first ∷ others) = ap (λ b. bytes_eq name first.now || b) (any_named name others)

pub none_there : (o : Option (Bor (List ℕ))) → is_some o ≡ false → option_map (λ text. text.now) o ≡ None
none_there None none = refl
none_there (Some text) none = cc

same_bytes : (text : List ℕ) → bytes_eq text text ≡ true
same_bytes text = (bytes_eq-Decides text text).1 refl

-- The last value of a name, with one member more.
later_cond : (b : Bool) (value : Json) (o e : Option Json)
    → later_or (cond b (Some value) o) e ≡ cond b (Some value) (later_or o e)
later_cond true value o e = refl
later_cond false value o e = refl

get-push : (name : List ℕ) (fields : List Field) (one : Field) → get_member name (members_from (fields ++ one ∷ []))
    ≡ cond (bytes_eq one.name name) (Some one.value) (get_member name (members_from fields))
get-push name [] one = refl
get-push name (first ∷ others) one =
    let here : Option Json = cond (bytes_eq first.name name) (Some first.value) None in
    ap (λ o. later_or o here) (get-push name others one)
    ∙ later_cond (bytes_eq one.name name) one.value (get_member name (members_from others)) here

said_cond : (b : Bool) (value : Json) (o : Option Json)
    → option_and_then as_str (cond b (Some value) o) ≡ cond b (as_str value) (option_and_then as_str o)
said_cond true value o = refl
said_cond false value o = refl

-- One name more, which isn't among those before.
pub distinct-push : (names : List (List ℕ)) (name : List ℕ) → are_distinct names ≡ true
    → list_any (bytes_eq name) names ≡ false → are_distinct (names ++ name ∷ []) ≡ true
distinct-push [] name distinct none = refl
distinct-push (first ∷ others) name distinct none =
    let apart = or_parts (bytes_eq name first) (list_any (bytes_eq name) others) none in
    let parts = and_parts (not (list_any (bytes_eq first) others)) (are_distinct others) distinct in
    let more = distinct-push others name parts.1 apart.1 in
    let differs : bytes_eq first name ≡ false = false_from_ne_true (bytes_eq first name) (λ same.
    let is : bytes_eq name first ≡ true = (bytes_eq-Decides name first).1 (sym ((bytes_eq-Decides first name).0 same))
    in grind arith) in
    let joined = list_any-append (bytes_eq first) others (name ∷ []) in
    grind arith

-- What was found of the members that were passed, whatever clock stands in its place.
pub record FoundIn (line rest : List ℕ) (lead : ℕ) (names : List (List ℕ)) (found : Parts) (clock : List Member)
    : Type 0 where
  pub fields : List Field
  pub passed : (more : List Field) → AreFields 1 lead more rest → AreFields 1 123 (fields ++ more) line
  pub named : field_names fields ≡ names
  pub host : text_at (codes "host") (object (members_from fields)) ≡ found.host
  pub text : text_at (codes "event") (object (members_from fields)) ≡ found.text
  pub place : get_member (codes "clock") (members_from fields) ≡ clock_there clock found.place

abbrev pub HasFound : List ℕ → List ℕ → ℕ → List (List ℕ) → Parts → Type 0
HasFound line rest lead names found =
    (clock : List Member) → IsClockThere clock found.place → FoundIn line rest lead names found clock

pub found-none : (line : List ℕ) → HasFound line line 123 [] (record { host = None; text = None; place = None })
found-none line clock there = record {
  fields = [];
  passed = λ more are. are;
  named = refl;
  host = refl;
  text = refl;
  place = refl;
}

pub found-next : (line rest behind after : List ℕ) (lead : ℕ) (names : List (List ℕ)) (name : List ℕ) (old new : Parts)
    → HasFound line rest lead names old → IsNamed lead name rest behind → FindsParts name behind after old new
    → HasFound line after 44 (names ++ name ∷ []) new
found-next line rest behind after lead names name old new found named finds clock there =
    let is = finds clock there in
    let before = found clock is.there in
    let one : Field = record { name = name; value = is.value } in
    let fields = before.fields in
    record {
      fields = fields ++ one ∷ [];
      passed = λ more are. subst (λ l. AreFields 1 123 l line) (sym (append_assoc fields (one ∷ []) more))
          (before.passed (one ∷ more) (after, record { behind = behind; named = named; valued = is.begins }, are));
      named = map-append (λ (f : Field). f.name) fields (one ∷ []) ∙ ap (λ l. l ++ name ∷ []) before.named;
      host = ap (option_and_then as_str) (get-push (codes "host") fields one)
          ∙ said_cond (bytes_eq name (codes "host")) is.value (get_member (codes "host") (members_from fields))
          ∙ ap (λ o. cond (bytes_eq name (codes "host")) (as_str is.value) o) before.host ∙ sym is.host;
      text = ap (option_and_then as_str) (get-push (codes "event") fields one)
          ∙ said_cond (bytes_eq name (codes "event")) is.value (get_member (codes "event") (members_from fields))
          ∙ ap (λ o. cond (bytes_eq name (codes "event")) (as_str is.value) o) before.text ∙ sym is.text_is;
      place = get-push (codes "clock") fields one
          ∙ ap (λ o. cond (bytes_eq name (codes "clock")) (Some is.value) o) before.place ∙ sym is.place;
    }

beside_of : (fields : List Field) (line host text place : List ℕ) (clock : List Member) → AreFields 1 123 fields line
    → are_distinct (field_names fields) ≡ true
    → text_at (codes "host") (object (members_from fields)) ≡ Some host
    → text_at (codes "event") (object (members_from fields)) ≡ Some text
    → get_member (codes "clock") (members_from fields) ≡ Some (clock_object clock)
    → IsPlainClock clock place → clock_beside host text line ≡ Ok clock
unfolding clock_beside
beside_of [] line host text place clock are distinct is_host is_text is_place plain = cc
beside_of (first ∷ others) line host text place clock are distinct is_host is_text is_place plain =
    let value = object (members_from (first ∷ others)) in
    let spelled = object_spelled 1 [] first others line tt are distinct in
    let read = document_is 2 value line spelled (omega arith) in
    let host_same = ap (is_said host) is_host ∙ same_bytes host in
    let text_same = ap (is_said text) is_text ∙ same_bytes text in
    judged (document line) value _ _ read spelled.distinct host_same text_same
    (ap clock_in is_place ∙ clock_in_object clock place plain.members)
  where
    judged : (o : Option Json) (value : Json) (same_host same_text : Json → Bool) → o ≡ Some value
        → has_distinct_names value ≡ true → same_host value ≡ true → same_text value ≡ true
        → clock_in (get (codes "clock") value) ≡ Ok clock
        → (ok_or o kind.Text >>= λ v. ask (has_distinct_names v) kind.Clock >>= λ _. ask (same_host v) kind.Text
        >>= λ _. ask (same_text v) kind.Text >>= λ _. clock_in (get (codes "clock") v)) ≡ Ok clock
    judged o value same_host same_text is distinct on_host on_text on_clock =
        rw (is, distinct, on_host, on_text) on_clock

-- What the line says whose clock is read so.
pub record BesideParts (host text line : List ℕ) (clock : List Member) : Type 0 where
  pub value : Json
  pub is : document line ≡ Some value
  pub distinct : has_distinct_names value ≡ true
  pub host_is : text_at (codes "host") value ≡ Some host
  pub text_is : text_at (codes "event") value ≡ Some text
  pub clock_is : clock_in (get (codes "clock") value) ≡ Ok clock

some_of : (o : Option Json) (value : Json) → ok_or o kind.Text ≡ Ok value → o ≡ Some value
some_of None value is = cc
some_of (Some json) value is = ap Some (same_ok json value is)

said_of : (text : List ℕ) (o : Option (List ℕ)) → is_said text o ≡ true → o ≡ Some text
said_of text None is = cc
said_of text (Some said) is = ap Some ((bytes_eq-Decides said text).0 is)

beside_parts : (host text line : List ℕ) (clock : List Member) → clock_beside host text line ≡ Ok clock
    → BesideParts host text line clock
unfolding clock_beside
beside_parts host text line clock is =
    bind_gives (BesideParts host text line clock) (ok_or (document line) kind.Text) after_value clock is
    (λ value read rest.
    bind_gives (BesideParts host text line clock) (ask (has_distinct_names value) kind.Clock)
    (λ _. after_distinct value) clock rest (λ u distinct more.
    bind_gives (BesideParts host text line clock) (ask (is_said host (text_at (codes "host") value)) kind.Text)
    (λ _. after_host value) clock more (λ u' on_host last.
    bind_gives (BesideParts host text line clock) (ask (is_said text (text_at (codes "event") value)) kind.Text)
    (λ _. clock_in (get (codes "clock") value)) clock last (λ u'' on_text there. record {
      value = value;
      is = some_of (document line) value read;
      distinct = asked (has_distinct_names value) kind.Clock distinct;
      host_is = said_of host (text_at (codes "host") value) (asked _ kind.Text on_host);
      text_is = said_of text (text_at (codes "event") value) (asked _ kind.Text on_text);
      clock_is = there;
    }))))
  where
    after_host : Json → Result (List Member) LogFaultKind
    after_host value = ask (is_said text (text_at (codes "event") value)) kind.Text
        >>= λ _. clock_in (get (codes "clock") value)

    after_distinct : Json → Result (List Member) LogFaultKind
    after_distinct value = ask (is_said host (text_at (codes "host") value)) kind.Text >>= λ _. after_host value

    after_value : Json → Result (List Member) LogFaultKind
    after_value value = ask (has_distinct_names value) kind.Clock >>= λ _. after_distinct value

-- The event of the line is kept.
pub event_looked : (old new : List Host) (line host text said : List ℕ) (number : ℕ) (clock : List Member)
    (earlier : List Event) → text_in line ≡ Ok line → KeepsLast old earlier
    → SpellsNext old host (clock_beside host text line) clock → KeepsClock old host clock number new → said ≡ text
    → KeepsEvent earlier (event_after earlier line) (Ok number) new said
event_looked old new line host text said number clock earlier read kept is keeps same =
    let parts = beside_parts host text line clock is.is in
    let value = parts.value in
    let judged = event_parts earlier line line value true read parts.is parts.distinct
    ∙ json_parts earlier host text value parts.host_is parts.text_is in
    let stamp = looked_next old host (clock_in (get (codes "clock") value)) clock earlier kept
    (record {
      is = parts.clock_is;
      rises = is.rises;
      none_falls = is.none_falls;
      in_no_cycle = is.in_no_cycle;
    })
    ∙ ap Ok (stamp_is old new host clock number keeps) in (
      judged ∙ ap (λ r. r >>= λ s. Ok (whole s text)) stamp ∙ ap (λ t. Ok (event_at new t number)) (sym same),
      keeps-next old new host clock number earlier kept keeps,
    )

pub some_map : {A : Type 0} {P Q : A → Type 0} (o : Option A) → ((a : A) → P a → Q a) → IfSome o P → IfSome o Q
some_map None f is = tt
some_map (Some a) f is = f a is

-- A line that is text is that text.
pub text_same : (line text : List ℕ) → text_in line ≡ Ok text → text_in line ≡ Ok line
text_same line text is =
    bind_gives (text_in line ≡ Ok line) (ask (nat_le (length line) most_bytes) kind.Long)
    (λ _. ask (is_utf8 line) kind.Text >>= λ _. Ok line) text is (λ u few rest.
    bind_gives (text_in line ≡ Ok line) (ask (is_utf8 line) kind.Text) (λ _. Ok line) text rest (λ u' utf8 same.
    is ∙ sym same))

-- All members were passed.
pub spells_parts : (line rest : List ℕ) (lead : ℕ) (names : List (List ℕ)) (found : Parts)
    → HasFound line rest lead names found → are_distinct names ≡ true → rest ≡ 125 ∷ [] → SpellsParts line found
spells_parts line rest lead names found has distinct closes host text place is_host is_text is_place clock plain =
    let all = has clock (subst (IsClockThere clock) (sym is_place) plain) in
    beside_of all.fields line host text place clock
    (subst (λ l. AreFields 1 123 l line) (append-nil all.fields) (all.passed [] closes))
    (ap are_distinct all.named ∙ distinct) (all.host ∙ is_host) (all.text ∙ is_text)
    (all.place ∙ ap (clock_there clock) is_place) plain

-- A text in quotes is a value.
pub quoted_value : (said text rest : List ℕ) → IsQuoted said text rest → HasValue (string said) text rest
quoted_value said text rest is gap is_gap = record {
  spelled = gap ++ (34 ∷ (said ++ 34 ∷ []));
  is = text_spelled 1 gap said is_gap is.plain;
  parts = ap (λ l. gap ++ l) is.parts ∙ sym (append_assoc gap (34 ∷ (said ++ 34 ∷ [])) rest
      ∙ ap (λ l. gap ++ (34 ∷ l)) (append_assoc said (34 ∷ []) rest));
}

-- So is a word.
pub word_value : (value : Json) (word text rest : List ℕ) → IsWord value word → text ≡ word ++ rest
    → HasValue value text rest
word_value value word text rest is parts gap is_gap = record {
  spelled = gap ++ word;
  is = is gap is_gap;
  parts = ap (λ l. gap ++ l) parts ∙ sym (append_assoc gap word rest);
}

-- So is a clock in its place.
place_value : (clock : List Member) (place text rest : List ℕ) → IsPlainClock clock place → text ≡ place ++ rest
    → HasValue (clock_object clock) text rest
place_value [] place text rest is parts gap is_gap = absurd (omega (arith, is.some))
place_value (first ∷ others) place text rest is parts gap is_gap = record {
  spelled = gap ++ place;
  is = clock_object_spelled gap first others place is_gap is.members is.plain is.distinct;
  parts = ap (λ l. gap ++ l) parts ∙ sym (append_assoc gap place rest);
}

begins_at : (value : Json) (text gap behind rest : List ℕ) → HasValue value behind rest → IsGap gap
    → text ≡ gap ++ behind → BeginsWith 1 value text rest
begins_at value text gap behind rest has is_gap at = subst (λ l. BeginsWith 1 value l rest) (sym at) (has gap is_gap)

-- The value of the member `host`, `event` or `clock`, or of another one.
pub finds_host : (name said text gap behind rest : List ℕ) (old : Parts) → name ≡ codes "host" → IsGap gap
    → text ≡ gap ++ behind → IsQuoted said behind rest
    → FindsParts name text rest old (record { host = Some said; text = old.text; place = old.place })
finds_host name said text gap behind rest old named is_gap at is clock there =
    subst (λ n. FindsPart n text rest old (record { host = Some said; text = old.text; place = old.place }) clock)
    (sym named) (record {
      value = string said;
      begins = begins_at (string said) text gap behind rest (quoted_value said behind rest is) is_gap at;
      host = refl;
      text_is = refl;
      place = refl;
      there = there;
    })

pub finds_text : (name said text gap behind rest : List ℕ) (old : Parts) → name ≡ codes "event" → IsGap gap
    → text ≡ gap ++ behind → IsQuoted said behind rest
    → FindsParts name text rest old (record { host = old.host; text = Some said; place = old.place })
finds_text name said text gap behind rest old named is_gap at is clock there =
    subst (λ n. FindsPart n text rest old (record { host = old.host; text = Some said; place = old.place }) clock)
    (sym named) (record {
      value = string said;
      begins = begins_at (string said) text gap behind rest (quoted_value said behind rest is) is_gap at;
      host = refl;
      text_is = refl;
      place = refl;
      there = there;
    })

pub finds_place : (name place text gap behind rest : List ℕ) (old : Parts) → name ≡ codes "clock" → old.place ≡ None
    → IsGap gap → text ≡ gap ++ behind → behind ≡ place ++ rest
    → FindsParts name text rest old (record { host = old.host; text = old.text; place = Some place })
finds_place name place text gap behind rest old named none is_gap at parts clock there =
    subst (λ n. FindsPart n text rest old (record { host = old.host; text = old.text; place = Some place }) clock)
    (sym named) (record {
      value = clock_object clock;
      begins = begins_at (clock_object clock) text gap behind rest (place_value clock place behind rest there parts)
          is_gap at;
      host = refl;
      text_is = refl;
      place = refl;
      there = subst (IsClockThere clock) (sym none) tt;
    })

pub finds_other : (name text gap behind rest : List ℕ) (old : Parts) (value : Json)
    → bytes_eq name (codes "host") ≡ false → bytes_eq name (codes "event") ≡ false
    → bytes_eq name (codes "clock") ≡ false → IsGap gap → text ≡ gap ++ behind → HasValue value behind rest
    → FindsParts name text rest old old
finds_other name text gap behind rest old value no_host no_text no_clock is_gap at has clock there = record {
  value = value;
  begins = begins_at value text gap behind rest has is_gap at;
  host = rw no_host refl;
  text_is = rw no_text refl;
  place = rw no_clock refl;
  there = there;
}
