mod FirstTokens
mod FirstWords
mod LastBefore
mod Nearer
