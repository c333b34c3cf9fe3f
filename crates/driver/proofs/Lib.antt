mod Answering
mod Keeping
mod Outcomes
mod Running
mod Tallied
mod Writing
