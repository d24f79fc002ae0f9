mod Lists
mod Names
mod Along
mod OneImage
mod Generated
mod Made
