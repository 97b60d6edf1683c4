pub mod NewRows
pub mod FirstRows
