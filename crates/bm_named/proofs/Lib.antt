pub mod ImageLemmas
pub mod ReversalLemmas
pub mod ShuffleLemmas
pub mod GrayCodeLemmas
pub mod BitOrderLemmas
pub mod RowListLemmas
