pub mod WorkloadProcess
pub mod WorkloadRun
