-- Cases from the second program
pub mod Compared
