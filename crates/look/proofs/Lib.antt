mod Passing
mod Printing
