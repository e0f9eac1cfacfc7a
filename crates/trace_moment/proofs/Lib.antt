mod Words
pub mod Clocks
pub mod Behind
pub mod Further
pub mod OneQueue
pub mod Left
pub mod Known
pub mod Rest
pub mod Steps
pub mod KeptQueues
pub mod KeptSteps
pub mod KeptAll
pub mod KeptRest
