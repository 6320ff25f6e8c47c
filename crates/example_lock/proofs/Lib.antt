mod Answers
mod Colours
mod Opening
