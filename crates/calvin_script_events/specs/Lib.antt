pub mod EventForms
pub mod EventScripts
