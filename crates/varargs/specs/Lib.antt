pub mod Walking
pub mod Varargs
