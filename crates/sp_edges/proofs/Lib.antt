pub mod Found
pub mod Sure
pub mod SureRoom
pub mod PutText
pub mod HostRead
pub mod LawLemmas
