pub mod Report
pub mod Inner
pub mod Page
