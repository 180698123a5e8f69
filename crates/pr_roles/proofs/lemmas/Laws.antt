pub mod FirstVersion
