mod Stacks
mod Entries
mod Standing
mod ReadBack
mod NotedDepths
mod FrontDecided
