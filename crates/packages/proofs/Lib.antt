pub mod PackageLaws
