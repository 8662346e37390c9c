pub mod Named
pub mod Distrusted
pub mod Walking
pub mod Plain
