use Rattle.std.proofs.Common.{◌≡◌, ◌∙◌, List, [], ◌∷◌, ◌++◌, fold, ap, append_assoc, append-nil, Some, sym}
use Rattle.clap.specs.Walk.{Names, Rule, Text, Walk, walked}

-- what follows the name of a subcommand is left to it
pub stays_as_stopped : (rules : List Rule) (names : Names) (w : Walk) (name : Text) (before words : List Text)
    → fold (walked rules names) (record w { stopped = Some (name, before) }) words ≡ record w
    { stopped = Some (name, before ++ words) }
unfolding walked
stays_as_stopped rules names w name before [] =
    ap (λ ws. record w { stopped = Some (name, ws) }) (sym (append-nil before))
stays_as_stopped rules names w name before (word ∷ words) =
    stays_as_stopped rules names w name (before ++ word ∷ []) words
    ∙ ap (λ ws. record w { stopped = Some (name, ws) }) (append_assoc before (word ∷ []) words)

pub stays_stopped : (rules : List Rule) (names : Names) (w : Walk) (name : Text) (before words : List Text)
    → (fold (walked rules names) (record w { stopped = Some (name, before) }) words).stopped ≡ Some
    (name, before ++ words)
stays_stopped rules names w name before words =
    ap (λ (after : Walk). after.stopped) (stays_as_stopped rules names w name before words)
