pub mod KindLemmas
pub mod PoolLemmas
pub mod SweepLemmas
pub mod MapLaws
pub mod EdgeLemmas
pub mod RoomLemmas
pub mod FirmwareLemmas
pub mod RunsLemmas
