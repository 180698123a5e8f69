pub mod KeyWidths
