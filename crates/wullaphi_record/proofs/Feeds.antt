-- The lines of a log: what is printed of an event has no LF.
use Rattle.wullaphi_record.proofs.Words.{both_true, ◌≡◌, ◌≢◌, ◌∙◌, ◌≤◌, ℕ, Bool, true, false, cond, List, [], ◌∷◌, ◌++◌}
use Rattle.wullaphi_record.proofs.Words.{map, refl, ap, arith, nat_lt, nat_tests, ◌||◌, ◌==◌, flat_map}
use Rattle.wullaphi_record.proofs.Words.{append_assoc}
use Rattle.std.specs.Prelude.{codes, ⊤, ◌/◌, ◌%◌, ◌&&◌}
use Rattle.std.specs.Char.{digit_char, is_ascii_digit}
use Rattle.std.specs.Fmt.{decimal}
use Rattle.std.specs.Str.{all_ascii_digits}
use Rattle.std.proofs.lemmas.Bool.{ne_eqb}
use Rattle.std.proofs.lemmas.Fmt.{decimal_is_IsNumeral}
unfoldable use Rattle.json.specs.Print.{escape_byte, print_from}
use Rattle.json.specs.Print.{begins, ends, escape, escape_letter, quoted, separator, token_text}
use Rattle.json.specs.Token.{Token, end_object, key, string}
use Rattle.json.specs.Tree.{json_tokens, members_tokens}
use Rattle.trace_log.proofs.Numbers.{own as digits_own}
use Rattle.trace_log.specs.Clock.{Member, most_number}
use Rattle.trace_log.specs.Fields.{members_from}
use Rattle.trace_log.specs.PlainEvents.{clock_fields, clock_object}
use Rattle.trace_rewrite.specs.Lines.{event_json, event_object}
unfoldable use Rattle.wcp_io.specs.Lines.{lines_of}
use Rattle.wcp_io.specs.Lines.{line_feed, put_in_front}

abbrev pub NoFeed : List ℕ → Type 0
NoFeed [] = ⊤
NoFeed (byte ∷ bytes) = (byte ≢ 10) × NoFeed bytes

pub no_feed_append : (xs ys : List ℕ) → NoFeed xs → NoFeed ys → NoFeed (xs ++ ys)
no_feed_append [] ys first then = then
no_feed_append (x ∷ xs) ys first then = (first.0, no_feed_append xs ys first.1 then)

digit_no_feed : (d : ℕ) → digit_char d ≢ 10
digit_no_feed d = by (nat_lt d 10) refl
  where
    by : (b : Bool) → nat_lt d 10 ≡ b → digit_char d ≢ 10
    by true is = rw is (omega arith)
    by false is = rw is (omega arith)

either : (b : Bool) (m n : ℕ) → m ≢ 10 → n ≢ 10 → cond b m n ≢ 10
either true m n first second = first
either false m n first second = second

letter_no_feed : (x : ℕ) → escape_letter x ≢ 10
letter_no_feed x = by ((x == 34) || (x == 92)) refl
  where
    by : (q : Bool) → ((x == 34) || (x == 92)) ≡ q → escape_letter x ≢ 10
    by true is = rw is (quote x is)
      where
        quote : (x : ℕ) → ((x == 34) || (x == 92)) ≡ true → x ≢ 10
        quote x is same = grind (arith, nat_tests)
    by false is =
        rw is (either (x == 8) 98 _ (omega arith) (either (x == 12) 102 _ (omega arith) (either (x == 10) 110 _ (omega arith)
        (either (x == 13) 114 _ (omega arith) (either (x == 9) 116 0 (omega arith) (omega arith))))))

escape_no_feed : (x : ℕ) → NoFeed (escape_byte x)
unfolding escape_byte
escape_no_feed x = by (nat_lt 0 (escape_letter x)) refl (nat_lt x 32) refl
  where
    by : (l : Bool) → nat_lt 0 (escape_letter x) ≡ l → (c : Bool) → nat_lt x 32 ≡ c → NoFeed (escape_byte x)
    by true letter c control = rw letter (omega arith, (letter_no_feed x, tt))
    by false letter true control =
        rw (letter, control) (omega arith, (omega arith, (omega arith, (omega arith, (digit_no_feed (x / 16), (digit_no_feed (x % 16), tt))))))
    by false letter false control = rw (letter, control) (at_least x control, tt)
      where
        at_least : (x : ℕ) → nat_lt x 32 ≡ false → x ≢ 10
        at_least x is same = grind (arith, nat_tests)

escaped_no_feed : (s : List ℕ) → NoFeed (escape s)
escaped_no_feed [] = tt
escaped_no_feed (x ∷ s) = no_feed_append (escape_byte x) (escape s) (escape_no_feed x) (escaped_no_feed s)

quoted_no_feed : (s : List ℕ) → NoFeed (quoted s)
quoted_no_feed s = (omega arith, no_feed_append (escape s) (34 ∷ []) (escaped_no_feed s) (omega arith, tt))

digits_no_feed : (s : List ℕ) → all_ascii_digits s ≡ true → NoFeed s
digits_no_feed [] all = tt
digits_no_feed (x ∷ s) all =
    let both = both_true (is_ascii_digit x) (all_ascii_digits s) all in
    (digit x both.0, digits_no_feed s both.1)
  where
    digit : (x : ℕ) → is_ascii_digit x ≡ true → x ≢ 10
    digit x is same = grind (arith, nat_tests)

decimal_no_feed : (n : ℕ) → n ≤ most_number → NoFeed (decimal n)
decimal_no_feed n few =
    digits_no_feed (decimal n) (digits_own.from (decimal n) (decimal_is_IsNumeral n (omega arith)).0.1)

-- Tokens of which no text has an LF.
abbrev HaveNoFeed : List Token → Type 0
HaveNoFeed [] = ⊤
HaveNoFeed (token ∷ tokens) = NoFeed (token_text token) × HaveNoFeed tokens

separator_no_feed : (b : Bool) (token : Token) → NoFeed (separator b token)
separator_no_feed b token = by (b && begins token)
  where
    by : (c : Bool) → NoFeed (cond c (44 ∷ []) [])
    by true = (omega arith, tt)
    by false = tt

print_no_feed : (b : Bool) (tokens : List Token) → HaveNoFeed tokens → NoFeed (print_from b tokens)
unfolding print_from
print_no_feed b [] none = tt
print_no_feed b (token ∷ tokens) none =
    no_feed_append (separator b token) _ (separator_no_feed b token)
    (no_feed_append (token_text token) _ none.0 (print_no_feed (ends token) tokens none.1))

have_append : (xs ys : List Token) → HaveNoFeed xs → HaveNoFeed ys → HaveNoFeed (xs ++ ys)
have_append [] ys first then = then
have_append (x ∷ xs) ys first then = (first.0, have_append xs ys first.1 then)

key_no_feed : (name : List ℕ) → NoFeed (token_text (key name))
key_no_feed name = no_feed_append (quoted name) (58 ∷ []) (quoted_no_feed name) (omega arith, tt)

abbrev pub AreFew : List Member → Type 0
AreFew [] = ⊤
AreFew (one ∷ others) = (one.number ≤ most_number) × AreFew others

clock_no_feed : (clock : List Member) → AreFew clock → HaveNoFeed (members_tokens (members_from (clock_fields clock)))
clock_no_feed [] few = ((omega arith, tt), tt)
clock_no_feed (one ∷ others) few =
    (key_no_feed one.name, (decimal_no_feed one.number few.0, clock_no_feed others few.1))

pub event_no_feed : (host text : List ℕ) (clock : List Member) → AreFew clock
    → NoFeed (event_json host (clock_object clock) text)
event_no_feed host text clock few =
    let members = members_tokens (members_from (clock_fields clock)) in
    let last = key (codes "event") ∷ (string text ∷ (end_object ∷ [])) in
    print_no_feed false (json_tokens (event_object host (clock_object clock) text)) (
      brace 123 (omega arith),
      (
        key_no_feed (codes "host"),
        (
          quoted_no_feed host,
          (
            key_no_feed (codes "clock"),
            (
              brace 123 (omega arith),
              have_append members last (clock_no_feed clock few)
                  (key_no_feed (codes "event"), (quoted_no_feed text, (brace 125 (omega arith), tt))),
            ),
          ),
        ),
      ),
    )
  where
    brace : (byte : ℕ) → byte ≢ 10 → NoFeed (byte ∷ [])
    brace byte other = (other, tt)

-- A line without an LF, before the lines behind it.
pub first_to_feed : (line rest : List ℕ) → NoFeed line → lines_of (line ++ line_feed ∷ rest) ≡ line ∷ lines_of rest
unfolding lines_of
first_to_feed [] rest clean = refl
first_to_feed (byte ∷ line) rest clean =
    rw (ne_eqb byte 10 clean.0) (ap (put_in_front byte) (first_to_feed line rest clean.1))

-- What is said of each has no LF.
abbrev pub AreClean : {X : Type 0} → (X → List ℕ) → List X → Type 0
AreClean say [] = ⊤
AreClean say (x ∷ xs) = NoFeed (say x) × AreClean say xs

pub lines_are : {X : Type 0} (say : X → List ℕ) (xs : List X) → AreClean say xs
    → lines_of (flat_map (λ x. say x ++ line_feed ∷ []) xs) ≡ map say xs
unfolding lines_of
lines_are say [] clean = refl
lines_are say (x ∷ xs) clean =
    let rest = flat_map (λ y. say y ++ line_feed ∷ []) xs in
    ap lines_of (append_assoc (say x) (line_feed ∷ []) rest) ∙ first_to_feed (say x) rest clean.0
    ∙ ap (λ l. say x ∷ l) (lines_are say xs clean.1)
