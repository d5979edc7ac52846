pub mod GrayCode
pub mod BitOrder
pub mod RowList
