pub mod CallEnds
pub mod SoughtFiles
pub mod Readings
pub mod WalkEnds
pub mod DigestEnds
pub mod ExplanationEnds
pub mod WholeReads
