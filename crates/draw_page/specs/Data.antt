-- The data of a page.
use Rattle.std.specs.Prelude.{◌≢◌, ◌==◌, ℕ, List, [], ◌∷◌, ◌++◌, All, codes, string_bytes, if◌then◌else◌}
use Rattle.std.specs.List.{flat_map}
use Rattle.json.specs.Print.{print}
use Rattle.draw_page.specs.declared.model.Page.{Page}
use Rattle.draw_page.specs.declared.model.PageReply.{PageReply}
use Rattle.draw_page.specs.declared.script_drawing.TheConstants.{DRAWING}
use Rattle.draw_page.specs.declared.script_hands.TheConstants.{HANDS}
use Rattle.draw_page.specs.declared.script_order.TheConstants.{ORDER}
use Rattle.draw_page.specs.declared.text.TheConstants.{HEAD, MIDDLE}
use Rattle.draw_page.specs.Model.{page_tokens}

-- A byte of JSON text, as it stands in a page. `<` stands in JSON only within a text, where its number means the same.
abbrev pub safe_byte : ℕ → List ℕ
safe_byte byte = if byte == 60 then codes "\\u003c" else byte ∷ []

abbrev pub safe : List ℕ → List ℕ
safe json = flat_map safe_byte json

-- The data of a page: the JSON text of its model, made safe.
abbrev pub data_of : Page → List ℕ
data_of page = safe (print (page_tokens page))

-- A byte of a text, as HTML writes it within an element.
abbrev pub html_byte : ℕ → List ℕ
html_byte byte = if byte == 60 then codes "&lt;" else if byte == 38 then codes "&amp;" else byte ∷ []

abbrev pub html : List ℕ → List ℕ
html text = flat_map html_byte text

-- The words of an answer behind the name of its question, as HTML writes them.
abbrev pub named_words : List ℕ → List ℕ → List ℕ
named_words name words = html name ++ (codes ": " ++ html words)

abbrev pub reply_words : PageReply → List ℕ
reply_words reply = named_words (string_bytes reply.question) (string_bytes reply.words)

-- The words of one answer; or of several, each behind the name of its question.
unfoldable pub told_words : List ℕ → List ℕ → List PageReply → List ℕ
told_words name words [] = html words
told_words name words (reply ∷ replies) = named_words name words ++ flat_map reply_words (reply ∷ replies)

-- The words of a page, as HTML writes them.
abbrev pub words_of : Page → List ℕ
words_of page = told_words (string_bytes page.question) (string_bytes page.words) page.others.items

-- Bytes in which no markup begins.
abbrev pub HasNoMarkup : List ℕ → Type 0
HasNoMarkup bytes = All (λ byte. byte ≢ 60) bytes

-- What stands before the words of each page, between them and the data, and behind the data: `page/` has the source.
unfoldable pub head : List ℕ
head = HEAD.now

unfoldable pub middle : List ℕ
middle = MIDDLE.now

-- The script, by its parts.
unfoldable pub order : List ℕ
order = ORDER.now

unfoldable pub drawing : List ℕ
drawing = DRAWING.now

unfoldable pub hands : List ℕ
hands = HANDS.now

abbrev pub tail : List ℕ
tail = order ++ (drawing ++ hands)

-- A page as a file: the head, the words, what stands between, the data and the tail.
unfoldable pub document : Page → List ℕ
document page = head ++ (words_of page ++ (middle ++ (data_of page ++ tail)))
