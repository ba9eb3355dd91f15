pub mod Apart
pub mod Asked
pub mod Distinct
pub mod Ends
pub mod Fresh
mod Listed
pub mod Puts
pub mod Results
pub mod RowTables
pub mod Runs
mod SameJob
pub mod StoreLaws
pub mod Values
pub mod Views
pub mod Written
