mod JoiningLines
mod JoiningItems
mod JoiningCommands
mod Joining
mod ListLemmas
mod BeginLemmas
mod PartLemmas
