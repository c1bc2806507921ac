mod Answering
mod Totals
mod Steps
mod Looking
mod OneDraw
mod Rulings
