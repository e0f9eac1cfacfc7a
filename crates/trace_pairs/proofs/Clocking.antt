-- A clock is put into the place of another one.
use Rattle.trace_pairs.proofs.Words.{◌≡◌, ◌∙◌, ℕ, ◌+◌, ◌<◌, List, [], ◌∷◌, ◌++◌, length, map, take, sym, ap, arith}
use Rattle.trace_pairs.proofs.Words.{map-append, length-map, length-set, get_or-map, take_more, slice_index_or, Member}
use Rattle.trace_pairs.proofs.Words.{Text}
use Rattle.std.proofs.lemmas.List.{map-set, take_more_set}
use Rattle.std.proofs.Math.Seq.{map-set_same}
use Rattle.std.specs.Prelude.{slice_set, string_bytes}
use Rattle.trace_log.specs.declared.event.Member.{Member as OwnMember}
use Rattle.trace_log.specs.Names.{names_in}
use Rattle.trace_log.specs.Seen.{seen_clock, seen_member}

abbrev pub name_of : Member → Text
name_of one = one.name

-- The names with one more.
pub names_more : (clock : List OwnMember) (i : ℕ) (d : OwnMember) → i < length clock
    → names_in (seen_clock (take (i + 1) clock))
    ≡ names_in (seen_clock (take i clock)) ++ string_bytes (slice_index_or clock i d).name ∷ []
names_more clock i d within = ap (λ l. names_in (seen_clock l)) (take_more clock i d within)
    ∙ ap (map name_of) (map-append seen_member (take i clock) (slice_index_or clock i d ∷ []))
    ∙ map-append name_of (seen_clock (take i clock)) (seen_member (slice_index_or clock i d) ∷ [])

pub names_next : (clock next : List OwnMember) (i : ℕ) (d e : OwnMember) → i < length clock → i < length next
    → names_in (seen_clock (take i clock)) ≡ names_in (seen_clock (take i next))
    → string_bytes (slice_index_or clock i d).name ≡ string_bytes (slice_index_or next i e).name
    → names_in (seen_clock (take (i + 1) clock)) ≡ names_in (seen_clock (take (i + 1) next))
names_next clock next i d e within inside so_far same = names_more clock i d within
    ∙ ap (λ l. l ++ string_bytes (slice_index_or clock i d).name ∷ []) so_far
    ∙ ap (λ n. names_in (seen_clock (take i next)) ++ n ∷ []) same
    ∙ sym (names_more next i e inside)

name_at : (clock : List OwnMember) (i : ℕ) (d : OwnMember) → i < length clock
    → slice_index_or (names_in (seen_clock clock)) i [] ≡ string_bytes (slice_index_or clock i d).name
name_at clock i d within =
    get_or-map name_of (seen_clock clock) i (seen_member d) [] (omega (arith, within, length-map clock seen_member))
    ∙ ap name_of (get_or-map seen_member clock i d (seen_member d) within)

module _ (clock next : List OwnMember) (i : ℕ) (d e : OwnMember) (within : i < length clock)
    (many : length clock ≡ length next) (names : names_in (seen_clock clock) ≡ names_in (seen_clock next)) where
  same_name : string_bytes (slice_index_or clock i d).name ≡ string_bytes (slice_index_or next i e).name
  same_name = sym (name_at clock i d within) ∙ ap (λ l. slice_index_or l i []) names
      ∙ name_at next i e (omega (arith, within, many))

  pub names_put : names_in (seen_clock (slice_set clock i
      (record { name = (slice_index_or clock i d).name; number = (slice_index_or next i e).number })))
      ≡ names_in (seen_clock next)
  names_put =
      let one : OwnMember = record
      { name = (slice_index_or clock i d).name; number = (slice_index_or next i e).number } in
      ap (map name_of) (map-set seen_member clock i one)
      ∙ map-set_same name_of (seen_clock clock) i (seen_member one) (seen_member d)
      (sym (ap name_of (get_or-map seen_member clock i d (seen_member d) within))) ∙ names

  pub clock_put : seen_clock (take i clock) ≡ seen_clock (take i next)
      → seen_clock (take (i + 1) (slice_set clock i
      (record { name = (slice_index_or clock i d).name; number = (slice_index_or next i e).number })))
      ≡ seen_clock (take (i + 1) next)
  clock_put so_far =
      let one : OwnMember = record
      { name = (slice_index_or clock i d).name; number = (slice_index_or next i e).number } in
      ap seen_clock (take_more_set clock i one within)
      ∙ map-append seen_member (take i clock) (one ∷ [])
      ∙ ap (λ l. l ++ seen_member one ∷ []) so_far
      ∙ ap (λ n. seen_clock (take i next)
      ++ record { name = n; number = (slice_index_or next i e).number } ∷ []) same_name
      ∙ sym (ap seen_clock (take_more next i e (omega (arith, within, many)))
      ∙ map-append seen_member (take i next) (slice_index_or next i e ∷ []))
