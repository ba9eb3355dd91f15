pub mod Cents
pub mod CentsOfAll
pub mod CentsOfOrders
pub mod Flows
pub mod LineLists
pub mod Lines
pub mod Pieces
pub mod Seen
