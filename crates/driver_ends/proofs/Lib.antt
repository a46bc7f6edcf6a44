mod EndLemmas
mod FetchLemmas
mod JoinLemmas
mod TargetLemmas
mod WaitLemmas
