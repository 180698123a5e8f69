pub mod WholeViews
