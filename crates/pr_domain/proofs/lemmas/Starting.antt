pub mod AllowedStarts
pub mod CodeSubsets
pub mod ShownStarts
pub mod WrittenNumbers
