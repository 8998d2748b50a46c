pub mod History
pub mod Origin
pub mod Packet
pub mod Machine
pub mod FirstPart
pub mod Laws
