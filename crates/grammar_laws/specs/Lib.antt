pub mod ScriptText
pub mod CommandText
