pub mod Answers
pub mod AsTheyWere
pub mod Ends
pub mod FolderLaws
pub mod Places
pub mod Tree
