mod Colours
mod Hiring
mod NewClients
