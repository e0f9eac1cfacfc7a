-- Safe bytes have no markup.
use Rattle.std.proofs.Common.{◌≢◌, ℕ, List, [], ◌∷◌, ◌++◌, arith, flat_map}
use Rattle.std.proofs.lemmas.Grind.{common_steps}
use Rattle.std.proofs.lemmas.List.Elements.{All-append}
use Rattle.std.specs.Prelude.{codes, string_bytes}
use Rattle.draw_page.specs.declared.model.PageReply.{PageReply}
use Rattle.draw_page.specs.Data.{HasNoMarkup, html, html_byte, named_words, reply_words, safe, safe_byte, told_words}

pub HasNoMarkup-safe_byte : (byte : ℕ) → HasNoMarkup (safe_byte byte)
HasNoMarkup-safe_byte byte = grind (arith, common_steps)

pub HasNoMarkup-safe : (json : List ℕ) → HasNoMarkup (safe json)
HasNoMarkup-safe [] = grind (arith, common_steps)
HasNoMarkup-safe (byte ∷ json) =
    All-append (λ x. x ≢ 60) (safe_byte byte) (safe json) (HasNoMarkup-safe_byte byte) (HasNoMarkup-safe json)

pub HasNoMarkup-html_byte : (byte : ℕ) → HasNoMarkup (html_byte byte)
HasNoMarkup-html_byte byte = grind (arith, common_steps)

pub HasNoMarkup-html : (text : List ℕ) → HasNoMarkup (html text)
HasNoMarkup-html [] = grind (arith, common_steps)
HasNoMarkup-html (byte ∷ text) =
    All-append (λ x. x ≢ 60) (html_byte byte) (html text) (HasNoMarkup-html_byte byte) (HasNoMarkup-html text)

pub HasNoMarkup-named_words : (name words : List ℕ) → HasNoMarkup (named_words name words)
HasNoMarkup-named_words name words =
    All-append (λ x. x ≢ 60) (html name) (codes ": " ++ html words) (HasNoMarkup-html name)
    (All-append (λ x. x ≢ 60) (codes ": ") (html words) (grind (arith, common_steps)) (HasNoMarkup-html words))

pub HasNoMarkup-replies : (replies : List PageReply) → HasNoMarkup (flat_map reply_words replies)
HasNoMarkup-replies [] = grind (arith, common_steps)
HasNoMarkup-replies (reply ∷ replies) =
    All-append (λ x. x ≢ 60) (reply_words reply) (flat_map reply_words replies)
    (HasNoMarkup-named_words (string_bytes reply.question) (string_bytes reply.words))
    (HasNoMarkup-replies replies)

pub HasNoMarkup-told_words : (name words : List ℕ) (replies : List PageReply)
    → HasNoMarkup (told_words name words replies)
unfolding told_words
HasNoMarkup-told_words name words [] = HasNoMarkup-html words
HasNoMarkup-told_words name words (reply ∷ replies) =
    All-append (λ x. x ≢ 60) (named_words name words) (flat_map reply_words (reply ∷ replies))
    (HasNoMarkup-named_words name words) (HasNoMarkup-replies (reply ∷ replies))
