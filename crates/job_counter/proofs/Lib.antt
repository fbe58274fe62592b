mod Accounts
mod Steps
mod Totals
mod Vectors
