mod Words
mod RunningProcesses
mod NextTask
mod RunAfterTask
mod StartedRun
mod EndedRun
