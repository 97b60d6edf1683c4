pub mod Moved
pub mod Streams
