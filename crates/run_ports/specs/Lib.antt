pub mod Reading
pub mod Writing
pub mod Delivering
pub mod Replays
pub mod FailingCalls
pub mod MemFiles
pub mod MemSink
