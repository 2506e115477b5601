pub mod SoundHeader
