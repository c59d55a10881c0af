mod Examples
pub mod NodeLaws
pub mod ReadLaws
pub mod RefusalLaws
pub mod SlotLaws
pub mod SumsLaws
pub mod TreeLaws
