pub mod SafeOffers
pub mod OfferLaws
