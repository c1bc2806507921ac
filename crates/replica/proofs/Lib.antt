mod Agreement
mod Calls
mod Logs
mod Tied
