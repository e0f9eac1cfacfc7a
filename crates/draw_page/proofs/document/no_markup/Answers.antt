use Rattle.std.proofs.Common.{string_bytes}
use Rattle.draw_page.proofs.document.no_markup.Goals as goal
use Rattle.draw_page.proofs.Safe.{HasNoMarkup-safe, HasNoMarkup-told_words}
use Rattle.json.specs.Print.{print}
use Rattle.draw_page.specs.Model.{page_tokens}

pub returns-clause-data : goal.returns-clause-data
returns-clause-data c = λ page. HasNoMarkup-safe (print (page_tokens page))

pub returns-clause-words : goal.returns-clause-words
returns-clause-words c =
    λ page. HasNoMarkup-told_words (string_bytes page.question) (string_bytes page.words) page.others.items
