pub mod RevisionTypes
