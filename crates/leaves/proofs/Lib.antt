pub mod Records
pub mod Contenders
pub mod Walks
