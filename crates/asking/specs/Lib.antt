pub mod Arguments
pub mod Listing
pub mod Replies
