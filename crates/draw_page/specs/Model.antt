-- The JSON tokens of what a page shows.
use Rattle.std.specs.Prelude.{ℕ, List, [], ◌∷◌, ◌++◌, codes, string_bytes, Option, None, Some, option_map}
use Rattle.std.specs.Fmt.{decimal}
use Rattle.std.specs.List.{flat_map}
use Rattle.json.specs.Token.{Token, begin_object, end_object, begin_array, end_array, key, number, boolean, null}
use Rattle.draw_page.specs.declared.model.Page.{Page}
use Rattle.draw_page.specs.declared.model.PageAnswer.{PageAnswer}
use Rattle.draw_page.specs.declared.model.PageAnswer.TheVariants.{Definite, Found, NoMoment, Possible, Undecided}
use Rattle.draw_page.specs.declared.model.PageQuestion.{PageQuestion}
use Rattle.draw_page.specs.declared.model.PageQuestion.TheVariants.{AllHosts, AnyTwo, Definitely}
use Rattle.draw_page.specs.declared.model.PageHost.{PageHost}
use Rattle.draw_page.specs.declared.model.PageReply.{PageReply}
use Rattle.draw_page.specs.declared.model.HostWatch.{HostWatch}
use Rattle.draw_page.specs.declared.model.HostRule.{HostRule}
use Rattle.draw_page.specs.declared.model.HostRule.TheVariants.{While, At}
use Rattle.draw_page.specs.declared.model.LeftOut.{LeftOut}
use Rattle.draw_page.specs.declared.event.PageEvent.{PageEvent}
use Rattle.draw_page.specs.declared.message.PageMessage.{PageMessage}
pub use Rattle.draw_page.specs.Events.{count_tokens, text_tokens, event_tokens}
use Rattle.draw_page.specs.Messages.{message_tokens}

unfoldable pub question_name : PageQuestion → List ℕ
question_name AllHosts = codes "all"
question_name AnyTwo = codes "two"
question_name Definitely = codes "definitely"

unfoldable pub answer_name : PageAnswer → List ℕ
answer_name Found = codes "found"
answer_name NoMoment = codes "none"
answer_name Undecided = codes "undecided"
answer_name Definite = codes "definite"
answer_name Possible = codes "possible"

unfoldable pub rule_name : HostRule → List ℕ
rule_name While = codes "while"
rule_name At = codes "at"

-- The condition of a host, and the host, in an object with its name.
unfoldable pub watch_tokens : HostWatch → List Token
watch_tokens watch = text_tokens (codes "rule") (rule_name watch.rule)
    ++ text_tokens (codes "condition") (string_bytes watch.condition)

abbrev pub watched_tokens : Option HostWatch → List Token
watched_tokens None = []
watched_tokens (Some watch) = watch_tokens watch

abbrev pub host_tokens : PageHost → List Token
host_tokens host =
    begin_object ∷ (text_tokens (codes "name") (string_bytes host.name)
    ++ (watched_tokens host.watch ++ end_object ∷ []))

-- An array that is a member.
abbrev pub array_tokens : List ℕ → List Token → List Token
array_tokens name elements = key name ∷ begin_array ∷ (elements ++ end_array ∷ [])

unfoldable pub hosts_tokens : List PageHost → List Token
hosts_tokens hosts = array_tokens (codes "hosts") (flat_map host_tokens hosts)

unfoldable pub events_tokens : List PageEvent → List Token
events_tokens events = array_tokens (codes "events") (flat_map event_tokens events)

abbrev pub place_tokens : ℕ → List Token
place_tokens place = number (decimal place) ∷ []

unfoldable pub moment_tokens : Option (List ℕ) → List Token
moment_tokens None = key (codes "moment") ∷ null ∷ []
moment_tokens (Some places) = array_tokens (codes "moment") (flat_map place_tokens places)

-- The lines at which runs are over, where that is known.
abbrev pub line_tokens : Option ℕ → List Token
line_tokens None = null ∷ []
line_tokens (Some line) = number (decimal line) ∷ []

unfoldable pub over_tokens : List (Option ℕ) → List Token
over_tokens lines = array_tokens (codes "over") (flat_map line_tokens lines)

-- The members of the moment, or the runs that begin with them.
abbrev pub members_tokens : Option (List ℕ) → List (Option ℕ) → List Token
members_tokens places lines = moment_tokens places ++ over_tokens lines

-- How much isn't among the events: behind the last of them it isn't counted.
unfoldable pub left_counts : LeftOut → List Token
left_counts left_out = count_tokens (codes "before") left_out.before
    ++ (count_tokens (codes "after") 0 ++ key (codes "more") ∷ boolean left_out.more ∷ [])

unfoldable pub left_out_tokens : LeftOut → List Token
left_out_tokens left_out =
    key (codes "left_out") ∷ begin_object ∷ (left_counts left_out ++ end_object ∷ [])

unfoldable pub messages_tokens : Option (List PageMessage) → List Token
messages_tokens None = []
messages_tokens (Some messages) = array_tokens (codes "messages") (flat_map message_tokens messages)

-- The program and what it read; what is asked, and what is answered.
unfoldable pub source_tokens : Page → List Token
source_tokens page = text_tokens (codes "program") (string_bytes page.program)
    ++ (text_tokens (codes "title") (string_bytes page.title) ++ text_tokens (codes "unit") (codes "line"))

unfoldable pub answer_tokens : PageQuestion → PageAnswer → List ℕ → List Token
answer_tokens asks answer words = text_tokens (codes "asks") (question_name asks)
    ++ (text_tokens (codes "answer") (answer_name answer) ++ text_tokens (codes "words") words)

unfoldable pub front_tokens : Page → List Token
front_tokens page = source_tokens page ++ answer_tokens page.asks page.answer (string_bytes page.words)

-- The hosts and the events; and what is said of the events.
abbrev pub shown_tokens : Page → List Token
shown_tokens page = hosts_tokens page.hosts.items ++ events_tokens page.events.items

abbrev pub around_tokens : Page → List Token
around_tokens page = members_tokens (option_map (λ places. places.items) page.moment) page.over.items
    ++ (left_out_tokens page.left_out
    ++ messages_tokens (option_map (λ messages. messages.items) page.messages))

-- The condition of a host under another question: an object, or null where it has none.
abbrev pub condition_tokens : Option HostWatch → List Token
condition_tokens None = null ∷ []
condition_tokens (Some watch) = begin_object ∷ (watch_tokens watch ++ end_object ∷ [])

unfoldable pub conditions_tokens : List (Option HostWatch) → List Token
conditions_tokens watches = array_tokens (codes "watches") (flat_map condition_tokens watches)

-- At which events a condition holds under another question.
unfoldable pub holds_tokens : List ℕ → List Token
holds_tokens places = array_tokens (codes "holds") (flat_map place_tokens places)

-- What else was asked and answered: the question's name and the answer; the conditions, and the moment or the runs.
abbrev pub said_tokens : PageReply → List Token
said_tokens reply = text_tokens (codes "question") (string_bytes reply.question)
    ++ answer_tokens reply.asks reply.answer (string_bytes reply.words)

abbrev pub held_tokens : PageReply → List Token
held_tokens reply = conditions_tokens reply.watches.items
    ++ (holds_tokens reply.holds.items
    ++ members_tokens (option_map (λ places. places.items) reply.moment) reply.over.items)

abbrev pub reply_tokens : PageReply → List Token
reply_tokens reply = begin_object ∷ (said_tokens reply ++ (held_tokens reply ++ end_object ∷ []))

unfoldable pub replies_tokens : List PageReply → List Token
replies_tokens replies = array_tokens (codes "others") (flat_map reply_tokens replies)

-- Where several questions were asked: the name of the first, and the other ones.
unfoldable pub others_tokens : List ℕ → List PageReply → List Token
others_tokens name [] = []
others_tokens name (reply ∷ replies) = text_tokens (codes "question") name ++ replies_tokens (reply ∷ replies)

-- A page: one object.
abbrev pub page_tokens : Page → List Token
page_tokens page = begin_object
    ∷ (front_tokens page
    ++ (shown_tokens page
    ++ (around_tokens page
    ++ (others_tokens (string_bytes page.question) page.others.items ++ end_object ∷ []))))
