pub mod OrderLaws
pub mod NumberLaws
pub mod RankLaws
