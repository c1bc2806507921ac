mod Parts
mod NameBytes
mod NameOrder
