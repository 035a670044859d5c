pub mod SolvedText
