mod LineLemmas
mod AmountLemmas
mod WorkedRows
