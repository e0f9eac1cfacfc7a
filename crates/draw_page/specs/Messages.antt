-- The JSON tokens of a message.
use Rattle.std.specs.Prelude.{ℕ, List, [], ◌∷◌, ◌++◌, codes}
use Rattle.json.specs.Token.{Token, begin_object, end_object, key, null}
use Rattle.draw_page.specs.declared.message.PageMessage.{PageMessage}
use Rattle.draw_page.specs.declared.message.MessageEnd.{MessageEnd}
use Rattle.draw_page.specs.declared.message.MessageEnd.TheVariants.{Event, Host}
use Rattle.draw_page.specs.Events.{count_tokens}

-- An end of a message: the place of its event; or that none is shown, and the host that it is of.
abbrev pub end_tokens : List ℕ → List ℕ → MessageEnd → List Token
end_tokens name host_name (Event place) = count_tokens name place
end_tokens name host_name (Host host) = key name ∷ null ∷ count_tokens host_name host

abbrev pub message_tokens : PageMessage → List Token
message_tokens message =
    begin_object ∷ (end_tokens (codes "from") (codes "from_host") message.from
    ++ (end_tokens (codes "to") (codes "to_host") message.to ++ end_object ∷ []))
