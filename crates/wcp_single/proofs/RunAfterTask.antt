use Rattle.wcp_single.proofs.Words.{NumberSet, Flag, ProbeSetup, ◌≡◌, ◌≢◌, ℕ, ◌+◌, ◌*◌, ◌<◌, Bool, false, List, [], ◌∷◌}
use Rattle.wcp_single.proofs.Words.{◌++◌, length, map, set, get_or, refl, sym, ap, ◌∙◌, subst, inl, inr, arith, eq-eqb}
use Rattle.wcp_single.proofs.Words.{get_or-set_same, get_or-set_other, get_or_read_under, cases_eq, false_from_ne_true}
use Rattle.wcp_single.proofs.Words.{length-set, mul-add-lt, Item, Action, Task, Call, Observed, Sent, Received}
use Rattle.wcp_single.proofs.Words.{ProbeState, setup, state_of_log, notes_taken, actions_of, IsCallFor, FollowsActions}
use Rattle.wcp_single.proofs.Words.{AreLogsOfTasks, sends, receives, is_send_to, is_receive_from, few_events}
use Rattle.wcp_single.proofs.Words.{got_not_ahead, log_push, sends_ends, receives_ends, send_is_no_receive}
use Rattle.wcp_single.proofs.Words.{receive_is_no_send, observe_is_no_send, observe_is_no_receive, Seal, CheckerState}
use Rattle.wcp_single.proofs.Words.{WorkloadProcess, IsRunning, MayCommunicate, MayReceive, MakesCall, Feeds, IsFed}
use Rattle.wcp_single.proofs.Words.{IsCaughtUp, HasTaken, IsChannel, HasDone, IsNextTask, queue_at}
use Rattle.wcp_model.specs.declared.workload.Action.TheVariants as action
use Rattle.wcp_single.proofs.RunningProcesses.{running_clock}
use Rattle.wcp_single.proofs.NextTask.{with_call, next_within, sends_within, receives_within, done_fits, message_waits}
use Rattle.wcp_single.proofs.NextTask.{own_log, other_log, follows_next, channel_stays, channel_pushed, channel_popped}
use Rattle.wcp_single.proofs.NextTask.{channels_set}

-- logs with these messages in transit are logs of tasks
channels_fit : (n : ℕ) (watched : NumberSet) (flag : Flag) (tasks : List Task) (logs : ℕ → List Call)
    (queues : List (List Seal)) → ((p : ℕ) → p < n → FollowsActions (actions_of p tasks) (logs p))
    → ((p q : ℕ) → p < n → q < n → IsChannel n watched flag tasks logs p q (queue_at queues (p * n + q)))
    → AreLogsOfTasks n watched flag tasks logs
channels_fit n watched flag tasks logs queues follows channels = record {
  follows = follows;
  in_order = λ p q p_below q_below some.
      (map (λ (seal : Seal). seal.clock) (queue_at queues (p * n + q)), (channels p q p_below q_below).in_order);
}

pub logs_are : (n : ℕ) (watched : NumberSet) (flag : Flag) (done : List Task) (processes : List WorkloadProcess)
    (queues : List (List Seal)) (checker : CheckerState) (run : HasDone n watched flag done processes queues checker)
    → AreLogsOfTasks n watched flag done run.logs
logs_are n watched flag done processes queues checker run =
    channels_fit n watched flag done run.logs queues run.follows run.channels

-- the next task of a run, and the process that does it
module _ (n : ℕ) (watched : NumberSet) (flag : Flag) (done : List Task) (processes : List WorkloadProcess)
    (queues : List (List Seal)) (checker : CheckerState) (run : HasDone n watched flag done processes queues checker)
    (a : ℕ) (act : Action) (next : IsNextTask n done (record { p = a; action = act })) where
  abbrev task : Task
  task = record { p = a; action = act }

  below : a < n
  below = (next_within n done task next).0

  -- the number of a channel is within, and the queue that is read there is that of the channel
  pub channel_within : (from to channel : ℕ) → from < n → to < n → channel ≡ from * n + to → channel < length queues
  channel_within from to channel from_below to_below number =
      omega (arith, mul-add-lt from n to n from_below to_below, run.channels_are)

  channel_read : (from to channel : ℕ) (queue : List Seal) → from < n → to < n → channel ≡ from * n + to
      → queue ≡ get_or queues channel queue → IsChannel n watched flag done run.logs from to queue
  channel_read from to channel queue from_below to_below number is =
      subst (IsChannel n watched flag done run.logs from to)
      (ap (queue_at queues) (sym number) ∙ sym (get_or_read_under queues channel (length queues) queue [] is
      (channel_within from to channel from_below to_below number) refl)) (run.channels from to from_below to_below)

  -- the messages of a receive's channel: one waits
  module _ (b : ℕ) (acts : act ≡ action.Recv b) (channel : ℕ) (number : channel ≡ b * n + a) (queue : List Seal)
      (there : queue ≡ get_or queues channel queue) where
    waiting : IsChannel n watched flag done run.logs b a queue
    waiting = channel_read b a channel queue (receives_within n done task b next acts) below number there

    pub some_wait : 0 < length queue
    some_wait = message_waits n watched flag done a b act run.logs queue acts next (run.follows a below)
        (run.follows b (receives_within n done task b next acts)) waiting

  -- the process as it is read
  module _ (old : WorkloadProcess) (read : old ≡ get_or processes a old) where
    runs_by : IsRunning (setup n watched flag a) (run.logs a) old
    runs_by = subst (IsRunning (setup n watched flag a) (run.logs a)) (sym read) (run.running a old below)

    -- the checker has taken all that it has emitted
    fed_all : IsFed n watched flag a (run.logs a) run.items checker
    fed_all = record { within = below; has_taken = run.has_taken; all = run.all_taken a below }

    pub caught_up : IsCaughtUp old checker
    caught_up = record {
      n = n;
      watched = watched;
      flag = flag;
      log = run.logs a;
      items = run.items;
      running = subst (λ q. IsRunning (setup n watched flag q) (run.logs a) old) (sym runs_by.number) runs_by;
      fed = subst (λ q. IsFed n watched flag q (run.logs a) run.items checker) (sym runs_by.number) fed_all;
    }

    -- it may make a communication event
    pub may_communicate : MayCommunicate old
    may_communicate = search (
      arith,
      done_fits n done task next,
      logs_are n watched flag done processes queues checker run,
      below,
      few_events,
    )

    -- with a call for the task
    module _ (call : Call) (is : IsCallFor act call) where
      abbrev logs_after : ℕ → List Call
      logs_after = with_call run.logs a call

      -- where the task counts on no channel, each stays
      stays : (p q : ℕ) → p < n → q < n → sends p q task ≡ false → receives p q task ≡ false
          → IsChannel n watched flag (done ++ task ∷ []) logs_after p q (queue_at queues (p * n + q))
      stays p q p_below q_below no_send no_receive = channel_stays n watched flag done a act below run.logs run.follows
          call is p q _ p_below q_below no_send no_receive (run.channels p q p_below q_below)

      -- the run after it, by what became of the process, of what was taken, and of the channels
      done_next : (new : WorkloadProcess) → MakesCall old call new
          → (more : List Item) (written : List (List Seal)) (later : CheckerState) → HasTaken n watched more later
          → notes_taken a more ≡ (state_of_log (setup n watched flag a) (run.logs a ++ call ∷ [])).notes
          → ((q : ℕ) → q ≢ a → notes_taken q more ≡ notes_taken q run.items) →
          length written ≡ n * n → ((p q : ℕ) → p < n → q < n
          → IsChannel n watched flag (done ++ task ∷ []) logs_after p q (queue_at written (p * n + q)))
          → HasDone n watched flag (done ++ task ∷ []) (set processes a new) written later
      done_next new runs more written later has_taken own others all channels = record {
        processes_are = length-set processes a new ∙ run.processes_are;
        channels_are = all;
        logs = logs_after;
        follows = follows_next n watched flag done a act below run.logs run.follows call is;
        running = λ p d p_below. elim (cases_eq p a) [
          | inl same ↦ rw (
            same,
            own_log n watched flag done a act below run.logs run.follows call is,
            get_or-set_same processes a new d (omega (arith, below, run.processes_are)),
          )
              (runs (setup n watched flag a) (run.logs a) runs_by)
          | inr other ↦ rw (
            other_log n watched flag done a act below run.logs run.follows call is p other,
            get_or-set_other processes a p new d other,
          ) (run.running p d p_below)
        ];
        items = more;
        has_taken = has_taken;
        all_taken = grind arith;
        channels = channels;
      }

    -- an observation
    pub performs_observe : (holds : Bool) → act ≡ action.Observe holds → (new : WorkloadProcess)
        → MakesCall old (Observed holds) new → (after : CheckerState) → Feeds old (Observed holds) checker after
        → HasDone n watched flag (done ++ task ∷ []) (set processes a new) queues after
    performs_observe holds acts new runs after feeds =
        let fed = feeds n watched flag a (run.logs a) run.items runs_by fed_all in
        let is : IsCallFor act (Observed holds) = subst (λ x. IsCallFor x (Observed holds)) (sym acts) refl in
        done_next
        (Observed holds) is new runs fed.more queues after fed.fed.has_taken fed.fed.all fed.others run.channels_are
        (λ p q p_below q_below. stays (Observed holds) is p q p_below q_below
        (ap (λ x. sends p q (record { p = a; action = x })) acts ∙ observe_is_no_send p q a holds)
        (ap (λ x. receives p q (record { p = a; action = x })) acts ∙ observe_is_no_receive p q a holds))

    -- a send to b
    module _ (b : ℕ) (acts : act ≡ action.Send b) (channel : ℕ) (number : channel ≡ a * n + b) (queue : List Seal)
        (there : queue ≡ get_or queues channel queue) where
      to_below : b < n
      to_below = sends_within n done task b next acts

      no_receive : (p q : ℕ) → receives p q task ≡ false
      no_receive p q = ap (λ x. receives p q (record { p = a; action = x })) acts ∙ send_is_no_receive p q a b

      is_sent : IsCallFor act Sent
      is_sent = subst (λ x. IsCallFor x Sent) (sym acts) tt

      pub performs_send : (new : WorkloadProcess) → MakesCall old Sent new → (seal : Seal)
          → seal ≡ record { watch = old.probe.watch; from = old.probe.id; to = b; clock = new.probe.clock } →
          (longer : List Seal) → longer ≡ queue ++ seal ∷ []
          → HasDone n watched flag (done ++ task ∷ []) (set processes a new) (set queues channel longer) checker
      performs_send new runs seal sealed longer is =
          done_next Sent is_sent new runs run.items (set queues channel longer) checker run.has_taken
          (run.all_taken a below ∙ ap (λ (s : ProbeState). s.notes)
          (sym (log_push (setup n watched flag a) (run.logs a) Sent))) (λ q other. refl)
          (length-set queues channel longer ∙ run.channels_are)
          (channels_set n watched flag done a act below run.logs run.follows Sent is_sent queues a b channel longer
          run.channels_are below to_below number
          (λ p q apart. (
            false_from_ne_true _ (λ sent. let ends = sends_ends p q a b (ap (λ x. sends p q (record {
              p =
                  a;
              action = x;
            })) (sym acts) ∙ sent) in apart (sym ends.0) (sym ends.1)),
            no_receive p q,
          )) run.channels
          (subst (IsChannel n watched flag (done ++ task ∷ []) (with_call run.logs a Sent) a b) (sym is)
          (channel_pushed n watched flag done a act below run.logs run.follows Sent is_sent b queue seal to_below
          (ap (is_send_to b) acts ∙ eq-eqb b b refl) (no_receive a b)
          (ap (λ (s : Seal). s.watch) sealed ∙ runs_by.watch, ap (λ (s : Seal). s.to) sealed)
          (ap (λ (s : Seal). s.clock) sealed ∙ running_clock n watched flag a (run.logs a ++ Sent ∷ []) new
          (runs (setup n watched flag a) (run.logs a) runs_by))
          (channel_read a b channel queue below to_below number there))))

    -- a receive from b
    module _ (b : ℕ) (acts : act ≡ action.Recv b) (channel : ℕ) (number : channel ≡ b * n + a) (queue : List Seal)
        (there : queue ≡ get_or queues channel queue) where
      from_below : b < n
      from_below = receives_within n done task b next acts

      module _ (seal : Seal) (rest : List Seal) (first : queue ≡ seal ∷ rest) where
        is_got : IsCallFor act (Received seal.clock)
        is_got = subst (λ x. IsCallFor x (Received seal.clock)) (sym acts) tt

        no_send : (p q : ℕ) → sends p q task ≡ false
        no_send p q = ap (λ x. sends p q (record { p = a; action = x })) acts ∙ receive_is_no_send p q a b

        channels_behind : (p q : ℕ) → p < n → q < n → IsChannel n watched flag (done ++ task ∷ [])
            (with_call run.logs a (Received seal.clock)) p q (queue_at (set queues channel rest) (p * n + q))
        channels_behind = channels_set n watched flag done a act below run.logs run.follows
            (Received seal.clock) is_got queues b a channel rest run.channels_are from_below below number
            (λ p q apart. (
              no_send p q,
              false_from_ne_true _ (λ received. let ends = receives_ends p q a b (ap (λ x.
                  receives p q (record { p = a; action = x })) (sym acts) ∙ received) in
                  apart (sym ends.1) (sym ends.0)),
            ))
            run.channels
            (channel_popped n watched flag done a act below run.logs run.follows (Received seal.clock) is_got b seal
            rest from_below (no_send b a) (ap (is_receive_from b) acts ∙ eq-eqb b b refl) refl
            (subst (IsChannel n watched flag done run.logs b a) first (waiting b acts channel number queue there)))

        pub may_receive : MayReceive old seal
        may_receive =
            let addressed = (subst (IsChannel n watched flag done run.logs b a) first
            (waiting b acts channel number queue there)).addressed 0 seal (omega arith) in
            let logs : ℕ → List Call = with_call run.logs a (Received seal.clock) in
            let stamp = got_not_ahead n watched flag done b a act acts
            (run.logs a) seal.clock logs from_below below next.within next.fit
            (channels_fit n watched flag (done ++ task ∷ []) logs (set queues channel rest) (follows_next n watched flag
            done a act below run.logs run.follows (Received seal.clock) is_got) channels_behind)
            (run.follows a below)
            (own_log n watched flag done a act below run.logs run.follows (Received seal.clock) is_got) in
            record {
              communicate = may_communicate;
              watch = addressed.0 ∙ sym runs_by.watch;
              components = stamp.0 ∙ sym (ap (λ (made : ProbeSetup). made.processes) runs_by.made_with);
              addressed = addressed.1 ∙ sym (ap (λ (made : ProbeSetup). made.process) runs_by.made_with);
              not_ahead = grind (arith, runs_by);
            }

        pub performs_receive : (new : WorkloadProcess) → MakesCall old (Received seal.clock) new
            → HasDone n watched flag (done ++ task ∷ []) (set processes a new) (set queues channel rest) checker
        performs_receive new runs =
            done_next (Received seal.clock) is_got new runs run.items (set queues channel rest) checker run.has_taken
            (run.all_taken a below ∙ ap (λ (s : ProbeState). s.notes)
            (sym (log_push (setup n watched flag a) (run.logs a) (Received seal.clock)))) (λ q other. refl)
            (length-set queues channel rest ∙ run.channels_are) channels_behind
