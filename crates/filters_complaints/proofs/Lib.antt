mod Printing
mod Written
