pub mod DelayLaws
pub mod SmallFrameLaws
pub mod LeadLaws
pub mod PlaceLaws
pub mod LowPeakLaws
pub mod DipLaws
pub mod NeedLaws
