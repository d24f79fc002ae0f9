pub mod Pieces
pub mod PieceEffects
pub mod Becoming
pub mod AttemptedRequest
pub mod Laws
pub mod ManyCallers
