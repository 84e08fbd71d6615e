pub mod ApartLaws
pub mod OpeningLaws
pub mod ServingLaws
