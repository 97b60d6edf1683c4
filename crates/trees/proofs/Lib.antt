pub mod KindRules
pub mod TreeLaws
pub mod Naming
pub mod Check
pub mod NodeLaws
