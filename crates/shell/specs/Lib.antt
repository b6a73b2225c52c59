-- What a request line does. Shell is what a reader of the contracts needs first; Request says what each request asks for.
pub mod Request
pub mod Shell
