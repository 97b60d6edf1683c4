pub mod Streams
pub mod Printed
