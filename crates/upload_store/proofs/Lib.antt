mod Keeping
mod Maps
mod Outcomes
