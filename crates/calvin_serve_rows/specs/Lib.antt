pub mod KvForms
pub mod StockForms
pub mod OnceForms
pub mod RowLines
pub mod Starts
pub mod Spelled
