pub mod AddressLemmas
pub mod HexLemmas
pub mod SaidLemmas
pub mod FrameLemmas
