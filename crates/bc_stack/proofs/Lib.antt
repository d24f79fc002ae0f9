pub mod StackLaws
pub mod PieceLaws
