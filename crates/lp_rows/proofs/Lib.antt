mod Bridge
mod Made
mod Same
mod Locals
mod Turns
mod Walking
