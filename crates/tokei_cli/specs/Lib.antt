-- What contracts say of command lines: the options, what their words read as, and what is printed
-- where nothing is counted.
pub mod CommandLines
pub mod Lines
pub mod Options
pub mod Overriding
pub mod Printing
pub mod Texts
