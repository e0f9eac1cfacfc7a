use Rattle.std.proofs.Common.{◌∙◌, ap, subst}
use Rattle.wcp_report.specs.ReplayText.{replay_text}
use Rattle.wcp_world.specs.Plays.{IsPlayed}
use Rattle.wcp_cli.proofs.answers.replay_answer.Goals as goal

pub returns-clause-answer : goal.returns-clause-answer
returns-clause-answer c =
    let schedule = c.in_ok-schedule.schedule in
    let played = c.in_ok-played.played in
    record {
      plan = schedule.plan;
      steps = schedule.steps.items;
      replies = played.replies.items;
      outcome = record { report = played.report; tallies = played.tallies };
      spelled = c.in_ok-schedule.ensures.spelled;
      played = subst (λ steps. IsPlayed schedule.plan steps played.replies.items played.report played.tallies)
          c.as_slice.ensures.value c.in_ok-played.ensures;
      print = c.in_ok-replay_text.ensures ∙ ap (λ replies. replay_text replies
          (record { report = played.report; tallies = played.tallies })) c.as_slice-2.ensures.value;
      status_is = c.exit_status.ensures.value;
    }
