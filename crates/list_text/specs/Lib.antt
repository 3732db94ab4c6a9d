pub mod HotText
pub mod LayoutText
