pub mod PlanRow
pub mod OnPlan
pub mod Leading
pub mod Preparing
pub mod SelfRun
pub mod Running
