pub mod LuidLaws
