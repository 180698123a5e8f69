pub mod ReadySends
