pub mod DecimalLaws
pub mod TextLaws
pub mod PrintedLaws
pub mod Examples
