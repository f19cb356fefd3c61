pub mod SavedForms
