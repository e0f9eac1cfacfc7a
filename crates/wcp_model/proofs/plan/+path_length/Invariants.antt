use Rattle.wcp_model.proofs.plan.+path_length.Given as goal

abbrev pub decreases-path_length : goal.decreases-path_length
decreases-path_length l = l.relay
