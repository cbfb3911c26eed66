mod Indexing
mod Orders
mod Changes
mod Walks
mod PathLemmas
mod Heights
