mod Words
pub mod Splits
pub mod Numbers
pub mod StepLines
pub mod Questions
pub mod LinesOfWords
pub mod WatchLines
pub mod WordsLeft
pub mod HeadLines
pub mod ScheduleWords
pub mod SamePlan
pub mod Spelled
pub mod Answered
pub mod HandedOn
mod PrintedLines
mod PrintedTasks
mod PrintedSteps
mod FourBytes
mod PrintedHead
pub mod Printed
pub mod Ranges
mod RingTasks
