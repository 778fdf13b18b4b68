pub mod LawfulLaws
