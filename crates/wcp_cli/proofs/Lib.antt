mod Imports
mod FoundWords
mod Requests
mod RingText
mod StoppedWalk
mod WordLemmas
