pub mod Layout
pub mod Table
pub mod Graph
pub mod Build
pub mod Read
pub mod Clean
