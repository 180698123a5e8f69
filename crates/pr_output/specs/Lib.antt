pub mod Written
pub mod PrintedLines
pub mod Printed
