pub mod PortsWhole
pub mod InsideGiven
pub mod InsideListed
pub mod InsideMoving
pub mod InsideWhole
