pub mod DeedTables
