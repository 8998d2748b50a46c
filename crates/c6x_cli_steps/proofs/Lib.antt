pub mod Fetched
pub mod Chains
pub mod Policies
pub mod Stages
