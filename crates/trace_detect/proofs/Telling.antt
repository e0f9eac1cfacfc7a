-- A list that grows member by member.
use Rattle.trace_detect.proofs.Words.{◌≡◌, ◌∙◌, ◌+◌, ◌<◌, ◌≤◌, ℕ, List, [], ◌∷◌, ◌++◌, length, drop, map, sym, ap, append_assoc}
use Rattle.trace_detect.proofs.Words.{append-nil, map-append, slice_index_or, Logged, Condition, host_of}
use Rattle.std.proofs.Common.{add-one, drop-cons}
use Rattle.std.proofs.Math.ListN.{drop_of_length-le}
use Rattle.trace_detect.specs.declared.answer.MomentMember.{MomentMember}
use Rattle.trace_detect.specs.declared.answer.HostCount.{HostCount}
use Rattle.trace_detect.specs.Told.{ToldCount, ToldMember, count_of, member_of, members_from, seen_count, seen_member}
use Rattle.trace_detect.proofs.Words.{count_events, count_matched, taken_of}

pub drop_next : {X : Type 0} (xs : List X) (i : ℕ) (d : X) → i < length xs
    → drop i xs ≡ slice_index_or xs i d ∷ drop (i + 1) xs
drop_next xs i d within = rw add-one (drop-cons xs i d within)

pub member_more : (told : List ToldMember) (conditions : List Condition) (place : ℕ) (c : Condition)
    (moment : ℕ → Logged) (whole : List ToldMember) → place < length conditions
    → told ++ members_from place (drop place conditions) moment ≡ whole
    → (told ++ member_of (host_of (slice_index_or conditions place c)) (moment place) ∷ [])
    ++ members_from (place + 1) (drop (place + 1) conditions) moment ≡ whole
member_more told conditions place c moment whole within so_far =
    append_assoc told (member_of (host_of (slice_index_or conditions place c)) (moment place) ∷ [])
    (members_from (place + 1) (drop (place + 1) conditions) moment)
    ∙ ap (λ l. told ++ l) (sym (ap (λ l. members_from place l moment) (drop_next conditions place c within)))
    ∙ so_far

pub members_whole : (told : List ToldMember) (conditions : List Condition) (place : ℕ) (moment : ℕ → Logged)
    (whole : List ToldMember) → length conditions ≤ place
    → told ++ members_from place (drop place conditions) moment ≡ whole → told ≡ whole
members_whole told conditions place moment whole all so_far =
    sym (append-nil told) ∙ ap (λ l. told ++ members_from place l moment) (sym (drop_of_length-le conditions all))
    ∙ so_far

pub count_more : {X : Type 0} (f : Condition → X) (told : List X) (conditions : List Condition) (place : ℕ)
    (c : Condition) (whole : List X) → place < length conditions → told ++ map f (drop place conditions) ≡ whole
    → (told ++ f (slice_index_or conditions place c) ∷ []) ++ map f (drop (place + 1) conditions) ≡ whole
count_more f told conditions place c whole within so_far =
    append_assoc told (f (slice_index_or conditions place c) ∷ []) (map f (drop (place + 1) conditions))
    ∙ ap (λ l. told ++ l) (sym (ap (map f) (drop_next conditions place c within)))
    ∙ so_far

pub counts_whole : {X : Type 0} (f : Condition → X) (told : List X) (conditions : List Condition) (place : ℕ)
    (whole : List X) → length conditions ≤ place → told ++ map f (drop place conditions) ≡ whole → told ≡ whole
counts_whole f told conditions place whole all so_far =
    sym (append-nil told) ∙ ap (λ l. told ++ map f l) (sym (drop_of_length-le conditions all)) ∙ so_far

-- One member more was told.
pub members_next : (items more : List MomentMember) (one : MomentMember) (conditions : List Condition) (place : ℕ)
    (c : Condition) (moment : ℕ → Logged) (whole : List ToldMember) → place < length conditions
    → more ≡ items ++ one ∷ [] → c ≡ slice_index_or conditions place c
    → seen_member one ≡ member_of (host_of c) (moment place)
    → map seen_member items ++ members_from place (drop place conditions) moment ≡ whole
    → map seen_member more ++ members_from (place + 1) (drop (place + 1) conditions) moment ≡ whole
members_next items more one conditions place c moment whole within pushed at is so_far =
    ap (λ (l : List MomentMember). map seen_member l ++ members_from (place + 1) (drop (place + 1) conditions) moment)
    pushed
    ∙ ap (λ (l : List ToldMember). l ++ members_from (place + 1) (drop (place + 1) conditions) moment)
    (map-append seen_member items (one ∷ []) ∙ ap (λ (m : ToldMember). map seen_member items ++ m ∷ [])
    (is ∙ ap (λ (those : Condition). member_of (host_of those) (moment place)) at))
    ∙ member_more (map seen_member items) conditions place c moment whole within so_far

pub counts_next : (f : Condition → ToldCount) (items more : List HostCount) (one : HostCount)
    (conditions : List Condition) (place : ℕ) (c : Condition) (whole : List ToldCount) → place < length conditions
    → more ≡ items ++ one ∷ [] → c ≡ slice_index_or conditions place c → seen_count one ≡ f c
    → map seen_count items ++ map f (drop place conditions) ≡ whole
    → map seen_count more ++ map f (drop (place + 1) conditions) ≡ whole
counts_next f items more one conditions place c whole within pushed at is so_far =
    ap (λ (l : List HostCount). map seen_count l ++ map f (drop (place + 1) conditions)) pushed
    ∙ ap (λ (l : List ToldCount). l ++ map f (drop (place + 1) conditions))
    (map-append seen_count items (one ∷ []) ∙ ap (λ (m : ToldCount). map seen_count items ++ m ∷ [])
    (is ∙ ap f at))
    ∙ count_more f (map seen_count items) conditions place c whole within so_far

-- The count of a host, by what its judge counted.
pub count_told : (conditions : List Condition) (logged : List Logged) (c counted : Condition) (one : HostCount)
    (events matched : ℕ) → c ≡ counted
    → seen_count one ≡ record { host = host_of c; events = events; matched = matched }
    → events ≡ count_events (host_of counted) logged
    → matched ≡ count_matched (host_of counted) (taken_of conditions logged)
    → seen_count one ≡ count_of conditions logged c
count_told conditions logged c counted one events matched same is events_are matched_are =
    rw (
      events_are ∙ sym (ap (λ (those : Condition). count_events (host_of those) logged) same),
      matched_are ∙ sym (ap (λ (those : Condition). count_matched (host_of those) (taken_of conditions logged)) same),
    )
    at is
