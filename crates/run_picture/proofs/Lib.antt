mod Axis
mod Enumerated
mod LogCommands
