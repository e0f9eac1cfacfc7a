use Rattle.wcp_world.proofs.Words.{[], refl, sym, ◌∙◌}
use Rattle.wcp_world.proofs.plays.play_in.Goals as goal

pub returns : goal.returns
returns c plan new =
    let has = c.in_ok-answer_all.ensures plan (record {
      history = [];
      steps_are = refl;
      replies_are = sym c.in_ok-replies.ensures.items;
      is = new;
    }) in
    record {
      history = has.history;
      steps_are = has.steps_are;
      replies_are = has.replies_are;
      headline = c.report.ensures plan has.history has.is;
      processes = c.in_ok-tallies.ensures.0 ∙ has.is.stands.processes_are;
      tallied = c.in_ok-tallies.ensures.1 plan has.history has.is;
    }
