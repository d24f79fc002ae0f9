pub mod MadeImage
pub mod Laws
