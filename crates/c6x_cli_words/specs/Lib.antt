pub mod Arguments
pub mod Requests
pub mod Told
pub mod Grammar
pub mod Asked
pub mod Found
