pub mod KeyDigits
