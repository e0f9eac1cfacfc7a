use Rattle.wcp_cli.proofs.Imports.{◌≡◌, ◌≢◌, ◌∙◌, ◌⊎◌, ap, map, inl, inr, sym, subst, ⊎_elim, codes, List, [], IfOk}
use Rattle.wcp_cli.proofs.Imports.{IsErr, Result, None, Some, refl, IfOk-from_err, App, HasKind, IsAmong, Text, app_of}
use Rattle.wcp_cli.proofs.Imports.{fault_of, is_simple, is_simple_and_free, kind_of, subcommand_of, ErrorKind, Request}
use Rattle.wcp_cli.proofs.Imports.{AskFor, MayHelp, IsSameRequest, program}
use Rattle.std.specs.declared.alloc.AllocError.{AllocError}
use Rattle.clap.specs.declared.error.kind.ErrorKind.TheVariants as kind
use Rattle.wcp_cli.specs.declared.words.Request.TheVariants as request
use Rattle.wcp_cli.proofs.FoundWords.{name_of, name-from_rows, single-found, reader-found}
use Rattle.wcp_cli.proofs.WordLemmas.{program_is_simple, single-passes, reader-passes, help-fails, help-is_no_version}
use Rattle.wcp_cli.proofs.WordLemmas.{version-fails, unknown-fails, program_is_free}
use Rattle.wcp_cli.proofs.words.read_words.Goals as goal

-- words that clap finds no fault with are read as what they ask for
found_as : (asked found : Request) (words : List Text) → AskFor asked words → fault_of program words ≡ []
    → ((name_of (subcommand_of program words) ≡ None)
    ⊎ (name_of (subcommand_of program words) ≡ Some (codes "single")) → found ≡ request.Single)
    → (name_of (subcommand_of program words) ≡ Some (codes "run") → found ≡ request.Run)
    → (name_of (subcommand_of program words) ≡ Some (codes "replay") → found ≡ request.Replay)
    → IsSameRequest asked found
found_as request.Single found words asked passes single run replay = single (single-found words asked)
found_as request.Run found words asked passes single run replay = run (reader-found _ words (inr (inl refl)) asked)
found_as request.Replay found words asked passes single run replay =
    replay (reader-found _ words (inr (inr refl)) asked)
found_as (request.Ring r) found words asked passes single run replay = absurd asked
found_as (request.Help text) found words asked passes single run replay =
    absurd (help-fails words asked passes)
found_as request.Version found words asked passes single run replay = let bad = sym (version-fails words asked)
    ∙ passes in cc
found_as request.Unknown found words asked passes single run replay =
    absurd ((unknown-fails words asked).fails passes)

pub returns-in-Ok-clause-asked : goal.returns-in-Ok-clause-asked
returns-in-Ok-clause-asked g c asked is =
    let words = map g.S.AsStr.text c.args.words.now in
    let app : app_of c.in_ok-command.field-0 ≡ program = c.in_ok-command.ensures in
    let found = (c.in-Ok.ensures.matches (ap is_simple app ∙ program_is_simple)).1
    ∙ ap (λ (a : App). subcommand_of a words) app in
    let name = name-from_rows c.in-Ok.matches ∙ ap name_of found in
    let passes = ap (λ (a : App). fault_of a words) (sym app)
    ∙ c.in-Ok.ensures.kinds (ap is_simple_and_free app ∙ program_is_free) in
    found_as asked c.request_of.result words is passes
    (λ named. c.request_of.ensures.single (⊎_elim (λ none. inl (name ∙ none)) (λ one. inr (name ∙ one)) named))
    (λ named. c.request_of.ensures.run (name ∙ named))
    (λ named. c.request_of.ensures.replay (name ∙ named))

-- words that clap finds a fault with, of this kind, are read as what they ask for
failed_as : (asked : Request) (words : List Text) (k : ErrorKind) (r : Result Request AllocError) → AskFor asked words
    → (k ≡ kind.OutOfMemory) ⊎ IsAmong k (fault_of program words) → (k ≡ kind.OutOfMemory → IsErr r)
    → (k ≡ kind.DisplayVersion → IfOk r (λ found. found ≡ request.Version)) → (k ≢ kind.DisplayVersion → IfOk r MayHelp)
    → (k ≢ kind.DisplayHelp → k ≢ kind.DisplayVersion → IfOk r (λ found. found ≡ request.Unknown))
    → IfOk r (IsSameRequest asked)
failed_as asked words k r is (inl lacks) memory version help unknown = IfOk-from_err r _ (memory lacks)
failed_as request.Single words k r is (inr among) memory version help unknown =
    absurd (subst (IsAmong k) (single-passes words is) among)
failed_as request.Run words k r is (inr among) memory version help unknown =
    absurd (subst (IsAmong k) (reader-passes _ words (inr (inl refl)) is) among)
failed_as request.Replay words k r is (inr among) memory version help unknown =
    absurd (subst (IsAmong k) (reader-passes _ words (inr (inr refl)) is) among)
failed_as (request.Ring ring) words k r is (inr among) memory version help unknown = absurd is
failed_as (request.Help text) words k r is (inr among) memory version help unknown =
    help
    (λ same. help-is_no_version words is (subst (λ (l : ErrorKind). IsAmong l (fault_of program words)) same among))
failed_as request.Version words k r is (inr among) memory version help unknown =
    version (elim (subst (IsAmong k) (version-fails words is) among) [ inl same ↦ same | inr none ↦ absurd none ])
failed_as request.Unknown words k r is (inr among) memory version help unknown =
    unknown (λ same. (unknown-fails words is).no_help
    (subst (λ (l : ErrorKind). IsAmong l (fault_of program words)) same among))
    (λ same. (unknown-fails words is).no_version
    (subst (λ (l : ErrorKind). IsAmong l (fault_of program words)) same among))

pub returns-in-Err-clause-asked : goal.returns-in-Err-clause-asked
returns-in-Err-clause-asked g c asked is =
    let words = map g.S.AsStr.text c.args.words.now in
    let failed = c.in-Err.ensures.kinds (ap is_simple_and_free c.in_ok-command.ensures ∙ program_is_free) in
    failed_as asked words (kind_of c.in-Err.error) c.request_without_matches.result is
    (subst (λ (a : App). HasKind (fault_of a words) c.in-Err.error) c.in_ok-command.ensures failed)
    c.request_without_matches.ensures.memory c.request_without_matches.ensures.version
    c.request_without_matches.ensures.help c.request_without_matches.ensures.unknown
