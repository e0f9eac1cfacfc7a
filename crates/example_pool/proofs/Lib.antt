mod Words
mod MadeCalls
mod PoolMembers
mod Snapshots
mod ToldPools
