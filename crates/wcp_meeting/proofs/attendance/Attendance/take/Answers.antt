use Rattle.std.proofs.Common.{◌∙◌}
use Rattle.wcp_meeting.proofs.Taking.{stands-next}
use Rattle.wcp_meeting.proofs.attendance.Attendance.take.Goals as goal

pub returns-in-Arrive : goal.returns-in-Arrive
returns-in-Arrive c members steps stands =
    stands-next members steps c.args.step c.args.self.now c.put.new.self stands (rw c.in-Arrive.is (record {
      members = c.put.ensures.members;
      came = c.put.ensures.came ∙ c.with-self.ensures.more (rw c.in-Arrive.is at c.requires);
      stays = c.put.ensures.stays;
      here = c.put.ensures.here;
      met = c.put.ensures.met;
    }))

pub returns-in-Leave : goal.returns-in-Leave
returns-in-Leave c members steps stands =
    stands-next members steps c.args.step c.args.self.now c.put-in-Leave.new.self stands (rw c.in-Leave.is (record {
      members = c.put-in-Leave.ensures.members;
      came = c.put-in-Leave.ensures.came;
      stays = c.put-in-Leave.ensures.stays;
      here = c.put-in-Leave.ensures.here;
      met = c.put-in-Leave.ensures.met;
    }))
