use Rattle.wcp_world.specs.declared.detector.Detector.{Detector}
use Rattle.wcp_world.specs.World.{WorldState}

abbrev pub state_of : Detector → WorldState
state_of d = record { processes = d.processes; transport = d.transport; checker = d.checker }
