pub mod PairBytes
