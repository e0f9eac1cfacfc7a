-- What was given of what a source reads, and what giving one event more answers.
use Rattle.std.specs.Prelude.{Bool, true, false, List, [], ◌∷◌, ◌++◌, Option, Result, Ok, Err}
use Rattle.std.specs.Option.{IsSomeAnd}
use Rattle.trace_log.specs.declared.fault.LogFault.{LogFault}
use Rattle.trace_log.specs.declared.event_fault.EventFault.{EventFault}
use Rattle.trace_log.specs.declared.event_fault.EventFault.TheVariants as fault
use Rattle.trace_log.specs.Log.{Logged}
use Rattle.trace_log.specs.LoggedEvents.{FollowsIn}

-- What a source tells of what it reads, by what it is then.
pub record Story (S : Type 0) : Type 1 where
  -- It gave these events.
  pub gave : List Logged → S → Type 0
  -- It gave one more behind them, and took nothing that isn't needed for it.
  pub gives : List Logged → Logged → S → Type 0
  -- These are all.
  pub ended : List Logged → S → Type 0
  -- What it reads has this fault behind these events.
  pub fails : List Logged → LogFault → Type 0
  -- That an event forgets is a fault.
  pub checks : Type 0

-- It gave the next event, whose clock follows those before.
pub record GivesNext {S : Type 0} (story : Story S) (before : List Logged) (one : Logged) (source : S) : Type 0 where
  pub follows : FollowsIn before one.event
  pub gave : story.gave (before ++ one ∷ []) source
  pub gives : story.gives before one source

-- What going on answers: that there is one event more, which is the last one then, or that there is none, or the fault
-- of what is read, unless a read failed or memory ran out; that an event forgets only where that is a fault.
abbrev pub Advances : {S : Type 0} → Story S → List Logged → Result Bool EventFault → Option Logged → S → Type 0
Advances story before (Ok true) last source = IsSomeAnd last (λ one. GivesNext story before one source)
Advances story before (Ok false) last source = story.ended before source
Advances story before (Err (fault.Log what)) last source = story.fails before what
Advances story before (Err (fault.Forgets what)) last source = story.checks
Advances story before (Err fault.Read) last source = Unit {0}
Advances story before (Err fault.Memory) last source = Unit {0}
