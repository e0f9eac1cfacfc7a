use Rattle.trace_detect.proofs.recording.Recording.new.Goals as goal

pub returns : goal.returns
returns c = record { watching = c.in_ok-new.ensures; kept = c.in_ok-history_of.ensures }
