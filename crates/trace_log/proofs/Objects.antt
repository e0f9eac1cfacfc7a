-- A text that spells an object plainly is that object, as JSON has it.
use Rattle.std.proofs.Common.{◌≡◌, ◌∙◌, ◌≤◌, ℕ, suc, Bool, true, false, cond, List, [], ◌∷◌, ◌++◌, Some}
use Rattle.std.proofs.Common.{option_and_then, map, refl, sym, ap, ap₂, arith, append_assoc, append-nil}
use Rattle.std.proofs.lemmas.Bool.{and_from}
use Rattle.std.proofs.lemmas.List.{map-append}
use Rattle.json.specs.Token.{Token}
use Rattle.json.specs.Json.{Json, null, boolean, number, string, object, if_last, value}
use Rattle.json.specs.Json.{max_depth, document}
use Rattle.json.specs.Lex.{tokens}
use Rattle.json.specs.Print.{escape, token_text, separator, ends, IsNumber}
unfoldable use Rattle.json.specs.Spaced.{print_spaced}
use Rattle.json.specs.Spaced.{IsGap, AreGaps}
use Rattle.json.specs.Strict.{keys}
use Rattle.json.specs.Tree.{json_tokens, members_tokens, members_depth, MembersHaveNumbers}
use Rattle.json.proofs.Printed.Tokens.{tokens-print_spaced}
use Rattle.json.proofs.Printed.Trees.{value-json_tokens, ArePrintable-json_tokens}
use Rattle.trace_log.specs.Clock.{are_distinct, members_have_distinct_names}
use Rattle.trace_log.specs.Fields.{Field, members_from, ended_by, Spells, IsField, AreFields}

abbrev pub field_names : List Field → List (List ℕ)
field_names fields = map (λ (f : Field). f.name) fields

pub quoted_is : (name rest : List ℕ) → escape name ≡ name
    → token_text (Token.key name) ++ rest ≡ 34 ∷ (name ++ (34 ∷ (58 ∷ rest)))
quoted_is name rest plain =
    ap (λ l. 34 ∷ l) (ap (λ n. ((n ++ 34 ∷ []) ++ 58 ∷ []) ++ rest) plain
    ∙ append_assoc (name ++ 34 ∷ []) (58 ∷ []) rest ∙ append_assoc name (34 ∷ []) (58 ∷ rest))

regroup : (a b c x y : List ℕ) → a ++ (b ++ (c ++ (x ++ y))) ≡ (a ++ (b ++ (c ++ x))) ++ y
regroup a b c x y =
    sym (append_assoc a (b ++ (c ++ x)) y
    ∙ ap (λ l. a ++ l) (append_assoc b (c ++ x) y ∙ ap (λ l. b ++ l) (append_assoc c x y)))

print-append : (b : Bool) (ps qs : List (List ℕ × Token))
    → print_spaced b (ps ++ qs) ≡ print_spaced b ps ++ print_spaced (ended_by b ps) qs
unfolding print_spaced
print-append b [] qs = refl
print-append b (p ∷ ps) qs =
    ap (λ l. separator b p.1 ++ (p.0 ++ (token_text p.1 ++ l))) (print-append (ends p.1) ps qs)
    ∙ regroup (separator b p.1) p.0 (token_text p.1) (print_spaced (ends p.1) ps)
    (print_spaced (ended_by (ends p.1) ps) qs)

gaps-append : (ps qs : List (List ℕ × Token)) → AreGaps ps → AreGaps qs → AreGaps (ps ++ qs)
gaps-append [] qs gaps more = more
gaps-append (p ∷ ps) qs gaps more = (gaps.0, gaps-append ps qs gaps.1 more)

ended-append : (b : Bool) (ps qs : List (List ℕ × Token)) → ended_by b (ps ++ qs) ≡ ended_by (ended_by b ps) qs
ended-append b [] qs = refl
ended-append b (p ∷ ps) qs = ended-append (ends p.1) ps qs

-- The pieces of a text behind a value, or behind the opening brace: tokens with gaps.
record Pieces (after_value : Bool) (fields : List Field) (text : List ℕ) : Type 0 where
  pieces : List (List ℕ × Token)
  gaps : AreGaps pieces
  are : map (λ p. p.1) pieces ≡ members_tokens (members_from fields)
  printed : text ≡ print_spaced after_value pieces
  ended : ended_by after_value pieces ≡ true

abbrev lead_of : Bool → List ℕ → List ℕ
lead_of after_value text = cond after_value (44 ∷ text) text

-- What stands behind a comma, or behind the opening brace.
printed_field : (before name spelled rest : List ℕ) (vs qs : List (List ℕ × Token)) → escape name ≡ name
    → spelled ≡ print_spaced false vs → ended_by false vs ≡ true → rest ≡ print_spaced true qs
    → before ++ (34 ∷ (name ++ (34 ∷ (58 ∷ (spelled ++ rest)))))
    ≡ before ++ (token_text (Token.key name) ++ print_spaced false (vs ++ qs))
printed_field before name spelled rest vs qs plain value_is ended rest_is =
    let parts : spelled ++ rest ≡ print_spaced false (vs ++ qs) = ap₂ (λ a b. a ++ b) value_is rest_is
    ∙ sym (print-append false vs qs ∙ ap (λ b. print_spaced false vs ++ print_spaced b qs) ended) in
    ap (λ l. before ++ l) (sym (quoted_is name (spelled ++ rest) plain)
    ∙ ap (λ l. token_text (Token.key name) ++ l) parts)

field_pieces : (most : ℕ) (b : Bool) (first : Field) (others : List Field) (lead : ℕ) (text rest : List ℕ)
    → (is : IsField most lead first text rest) → Pieces true others rest → (whole : List ℕ)
    → whole ≡ lead_of b (is.named.before ++ (34 ∷ (first.name ++ (34 ∷ (58 ∷ (is.valued.spelled ++ rest))))))
    → Pieces b (first ∷ others) whole
unfolding print_spaced
field_pieces most true first others lead text rest is more whole parts =
    let of = is.valued.is in
    record {
      pieces = (is.named.before, Token.key first.name) ∷ (of.pieces ++ more.pieces);
      gaps = (is.named.gap_before, gaps-append of.pieces more.pieces of.gaps more.gaps);
      are = ap (λ (l : List Token). Token.key first.name ∷ l) (map-append (λ (p : List ℕ × Token). p.1) of.pieces
          more.pieces ∙ ap₂ (λ (a b : List Token). a ++ b) of.are more.are);
      printed = parts ∙ ap (λ l. 44 ∷ l) (printed_field is.named.before first.name is.valued.spelled rest of.pieces
          more.pieces is.named.plain of.printed of.ended more.printed);
      ended = ended-append false of.pieces more.pieces ∙ ap (λ b. ended_by b more.pieces) of.ended ∙ more.ended;
    }
field_pieces most false first others lead text rest is more whole parts =
    let of = is.valued.is in
    record {
      pieces = (is.named.before, Token.key first.name) ∷ (of.pieces ++ more.pieces);
      gaps = (is.named.gap_before, gaps-append of.pieces more.pieces of.gaps more.gaps);
      are = ap (λ (l : List Token). Token.key first.name ∷ l) (map-append (λ (p : List ℕ × Token). p.1) of.pieces
          more.pieces ∙ ap₂ (λ (a b : List Token). a ++ b) of.are more.are);
      printed = parts ∙ printed_field is.named.before first.name is.valued.spelled rest of.pieces
          more.pieces is.named.plain of.printed of.ended more.printed;
      ended = ended-append false of.pieces more.pieces ∙ ap (λ b. ended_by b more.pieces) of.ended ∙ more.ended;
    }

parts_of : (most lead : ℕ) (first : Field) (text rest : List ℕ) → (is : IsField most lead first text rest)
    → text ≡ lead ∷ (is.named.before ++ (34 ∷ (first.name ++ (34 ∷ (58 ∷ (is.valued.spelled ++ rest))))))
parts_of most lead first text rest is =
    is.named.parts ∙ ap (λ l. lead ∷ (is.named.before ++ (34 ∷ (first.name ++ (34 ∷ (58 ∷ l)))))) is.valued.parts

pieces_of : (most : ℕ) (fields : List Field) (text : List ℕ) → AreFields most 44 fields text → Pieces true fields text
unfolding print_spaced
pieces_of most [] text are =
    record { pieces = ([], Token.end_object) ∷ []; gaps = (tt, tt); are = refl; printed = are; ended = refl }
pieces_of most (first ∷ others) text are =
    field_pieces most true first others 44 text are.0 are.1 (pieces_of most others are.0 are.2) text
    (parts_of most 44 first text are.0 are.1)

have_numbers : (most lead : ℕ) (fields : List Field) (text : List ℕ) → AreFields most lead fields text
    → MembersHaveNumbers (members_from fields)
have_numbers most lead [] text are = tt
have_numbers most lead (first ∷ others) text are =
    (are.1.valued.is.numbers, have_numbers most 44 others are.0 are.2)

are_shallow : (most lead : ℕ) (fields : List Field) (text : List ℕ) → AreFields most lead fields text
    → members_depth (members_from fields) ≤ most
are_shallow most lead [] text are = omega arith
are_shallow most lead (first ∷ others) text are =
    omega (arith, are.1.valued.is.shallow, are_shallow most 44 others are.0 are.2)

values_distinct : (most lead : ℕ) (fields : List Field) (text : List ℕ) → AreFields most lead fields text
    → members_have_distinct_names (members_from fields) ≡ true
values_distinct most lead [] text are = refl
values_distinct most lead (first ∷ others) text are =
    and_from _ _ are.1.valued.is.distinct (values_distinct most 44 others are.0 are.2)

keys_are : (fields : List Field) → keys (members_from fields) ≡ field_names fields
keys_are [] = refl
keys_are (first ∷ others) = ap (λ l. first.name ∷ l) (keys_are others)

-- An object, behind a gap.
pub object_spelled : (most : ℕ) (gap : List ℕ) (first : Field) (others : List Field) (text : List ℕ) → IsGap gap
    → AreFields most 123 (first ∷ others) text → are_distinct (field_names (first ∷ others)) ≡ true
    → Spells (suc most) (object (members_from (first ∷ others))) (gap ++ text)
unfolding print_spaced
object_spelled most gap first others text is_gap are distinct =
    let fields = first ∷ others in
    let more = pieces_of most others are.0 are.2 in
    let one = field_pieces most false first others 123 text are.0 are.1 more _ refl in
    record {
      pieces = (gap, Token.begin_object) ∷ one.pieces;
      gaps = (is_gap, one.gaps);
      are = ap (λ (l : List Token). Token.begin_object ∷ l) one.are;
      printed = ap (λ l. gap ++ l) (parts_of most 123 first text are.0 are.1 ∙ ap (λ l. 123 ∷ l) one.printed);
      ended = one.ended;
      numbers = have_numbers most 123 fields text are;
      shallow = omega (arith, are_shallow most 123 fields text are);
      distinct = and_from _ _ (ap are_distinct (keys_are fields) ∙ distinct) (values_distinct most 123 fields text are);
    }

-- A text without escapes, behind a gap.
pub text_spelled : (most : ℕ) (gap said : List ℕ) → IsGap gap → escape said ≡ said
    → Spells most (string said) (gap ++ (34 ∷ (said ++ 34 ∷ [])))
unfolding print_spaced
text_spelled most gap said is_gap plain = record {
  pieces = (gap, Token.string said) ∷ [];
  gaps = (is_gap, tt);
  are = refl;
  printed = ap (λ l. gap ++ l) (ap (λ s. 34 ∷ (s ++ 34 ∷ [])) (sym plain) ∙ sym (append-nil _));
  ended = refl;
  numbers = tt;
  shallow = omega arith;
  distinct = refl;
}

-- A number, behind a gap.
pub digits_spelled : (most : ℕ) (gap digits : List ℕ) → IsGap gap → IsNumber digits
    → Spells most (number digits) (gap ++ digits)
unfolding print_spaced
digits_spelled most gap digits is_gap is = record {
  pieces = (gap, Token.number digits) ∷ [];
  gaps = (is_gap, tt);
  are = refl;
  printed = ap (λ l. gap ++ l) (sym (append-nil _));
  ended = refl;
  numbers = is;
  shallow = omega arith;
  distinct = refl;
}

-- A literal, behind a gap.
pub boolean_spelled : (most : ℕ) (gap : List ℕ) (is_true : Bool) → IsGap gap
    → Spells most (boolean is_true) (gap ++ token_text (Token.boolean is_true))
unfolding print_spaced
boolean_spelled most gap is_true is_gap = record {
  pieces = (gap, Token.boolean is_true) ∷ [];
  gaps = (is_gap, tt);
  are = refl;
  printed = ap (λ l. gap ++ l) (sym (append-nil _));
  ended = refl;
  numbers = tt;
  shallow = omega arith;
  distinct = refl;
}

pub null_spelled : (most : ℕ) (gap : List ℕ) → IsGap gap → Spells most null (gap ++ token_text Token.null)
unfolding print_spaced
null_spelled most gap is_gap = record {
  pieces = (gap, Token.null) ∷ [];
  gaps = (is_gap, tt);
  are = refl;
  printed = ap (λ l. gap ++ l) (sym (append-nil _));
  ended = refl;
  numbers = tt;
  shallow = omega arith;
  distinct = refl;
}

-- What a text spells is read.
pub document_is : (most : ℕ) (value : Json) (text : List ℕ) → Spells most value text → most ≤ max_depth
    → document text ≡ Some value
unfolding print_spaced
document_is most json text is few =
    let numbers = ArePrintable-json_tokens json is.numbers in
    let read : tokens text ≡ json_tokens json =
    ap tokens is.printed ∙ tokens-print_spaced is.pieces is.gaps (rw is.are numbers) ∙ is.are in
    ap (option_and_then (λ p. if_last p.0 p.1)) (
    ap (value max_depth) (read ∙ sym (append-nil (json_tokens json)))
    ∙ value-json_tokens json max_depth [] (omega (arith, is.shallow, few))
    )
