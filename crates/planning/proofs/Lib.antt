pub mod Planning
pub mod StoreAfter
pub mod Report
