pub mod NamesIn
