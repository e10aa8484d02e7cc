-- Lemmas on searches and groups of openers.
pub mod FirstBytes
pub mod FirstPlaces
pub mod OpenerGroups
pub mod ToldOpeners
