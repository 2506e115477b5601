pub mod CommandParts
